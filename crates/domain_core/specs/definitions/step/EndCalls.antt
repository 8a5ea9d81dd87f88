-- The calls that a step makes at the ends of its domain, by rising number of the end.
use Rattle.std.specs.Prelude.{◌≡◌, ℕ, suc, zero, ◌+◌, ◌<◌, ◌≤◌, ℤ, Bool, true, false, List, [], ◌∷◌, ◌++◌, get_or, Option, Some, None, IsSome, IsNone, IfSome, IsSomeAnd}
use Rattle.cell_core.specs.declared.moves.Side.{Side}
use Rattle.cell_core.specs.declared.moves.Side.TheVariants.{Receiver}
use Rattle.cell_core.specs.declared.moves.Joined.{Joined}
use Rattle.cell_core.specs.declared.moves.CellMove.{CellMove}
use Rattle.cell_core.specs.declared.moves.CellMove.TheVariants.{Offer, Recall}
use Rattle.cell_core.specs.definitions.Ends.{EndView, EndCall, Through, ValueFits, JoinsOffer, JoinsStanding, IsOffer}
use Rattle.domain_core.specs.declared.step.ends_of.EndOf.{EndOf}

-- the end of a number
abbrev pub end_at : List EndOf → ℕ → EndOf
end_at ends n = get_or ends n (record { channel = 0; side = Receiver })

-- the recall of an end, where it stands
abbrev pub recall_of : Bool → ℕ → Side → Option Joined → List EndCall
recall_of true n side answer = record { at = n; what = Recall side; answer = answer } ∷ []
recall_of false n side answer = []

-- the recalls of those of the first so many ends that stand, with these answers
abbrev pub recalls : List EndOf → List Bool → List (Option Joined) → ℕ → List EndCall
recalls ends standing answers zero = []
recalls ends standing answers (suc n) =
    recalls ends standing answers n ++
    recall_of (get_or standing n false) n (end_at ends n).side (get_or answers n None)

-- the offer of an end with this value, where it makes one
abbrev pub offer_of : Option ℤ → ℕ → Side → ℕ → Option Joined → List EndCall
offer_of (Some v) n side stamp answer =
    record { at = n; what = Offer side v stamp; answer = answer } ∷ []
offer_of None n side stamp answer = []

-- the offers of those of the first so many ends that make one, with these answers
abbrev pub offers : List EndOf → List (Option ℤ) → ℕ → List (Option Joined) → ℕ → List EndCall
offers ends asks stamp answers zero = []
offers ends asks stamp answers (suc n) =
    offers ends asks stamp answers n ++
    offer_of (get_or asks n None) n (end_at ends n).side stamp (get_or answers n None)

-- an end that offered stands where no join answered
abbrev pub stands_after : Option ℤ → Option Joined → Bool
stands_after None answer = false
stands_after (Some v) None = true
stands_after (Some v) (Some j) = false

-- the end may be recalled, if it stands
pub record CanRecall (e : EndOf) (standing : Bool) (seen : EndView) : Type 0 where
  pub side : seen.side ≡ e.side
  pub room : 1 ≤ seen.room
  pub stands : standing ≡ true → IsSome seen.offer
  pub free : standing ≡ false → IsNone seen.offer

-- an end after its recall, or where it didn't stand
pub record IsRecalled (standing : Bool) (answer : Option Joined) (before after : EndView) : Type 0
  where
    pub side : after.side ≡ before.side
    pub kind : after.kind ≡ before.kind
    pub room : before.room ≤ after.room + 1
    pub free : IsNone after.offer
    pub joined : IfSome answer (JoinsStanding before)
    pub alone : standing ≡ false → answer ≡ None

-- the end may make an offer of this value
pub record CanOffer (e : EndOf) (ask : Option ℤ) (seen : EndView) : Type 0 where
  pub side : seen.side ≡ e.side
  pub room : 1 ≤ seen.room
  pub free : IsNone seen.offer
  pub value : IfSome ask (ValueFits seen.side seen.kind)

-- an end after its offer, or where it made none
pub record IsOffered (ask : Option ℤ) (stamp : ℕ) (answer : Option Joined) (before after : EndView)
    : Type 0 where
  pub side : after.side ≡ before.side
  pub kind : after.kind ≡ before.kind
  pub room : before.room ≤ after.room + 1
  pub joined : (v : ℤ) → ask ≡ Some v → IfSome answer (JoinsOffer before v stamp)
  pub alone : ask ≡ None → answer ≡ None
  pub free : stands_after ask answer ≡ false → IsNone after.offer
  pub stands : (v : ℤ) → ask ≡ Some v → answer ≡ None →
      IsSomeAnd after.offer (IsOffer before.side v stamp)

-- The first n ends have been recalled where they stood, by these calls with these answers, and the others are
-- as before.
pub record RecallsAll {S : Type 0} (moved : S → ℕ → CellMove → Option Joined → S →
    Type 0) (count : S → ℕ) (view : S → ℕ →
    EndView) (ends : List EndOf) (standing : List Bool) (answers : List (Option Joined)) (n : ℕ)
    (before after : S) : Type 0 where
  pub through : Through moved before (recalls ends standing answers n) after
  pub counts : count after ≡ count before
  pub passed : (k : ℕ) → k < n →
      IsRecalled (get_or standing k false) (get_or answers k None) (view before k) (view after k)
  pub left : (k : ℕ) → n ≤ k → k < count before → view after k ≡ view before k

-- The first n ends have made their offers, by these calls with these answers, and the others are as before.
pub record OffersAll {S : Type 0} (moved : S → ℕ → CellMove → Option Joined → S →
    Type 0) (count : S → ℕ) (view : S → ℕ →
    EndView) (ends : List EndOf) (asks : List (Option ℤ)) (stamp : ℕ)
    (answers : List (Option Joined)) (n : ℕ) (before after : S) : Type 0 where
  pub through : Through moved before (offers ends asks stamp answers n) after
  pub counts : count after ≡ count before
  pub passed : (k : ℕ) → k < n →
      IsOffered (get_or asks k None) stamp (get_or answers k None) (view before k) (view after k)
  pub left : (k : ℕ) → n ≤ k → k < count before → view after k ≡ view before k
