-- The ends of channels that a domain moves, and what a call at one of them may change.
use Rattle.std.specs.Prelude.{◌≡◌, ◌≢◌, ℕ, ◌+◌, ◌^◌, ◌<◌, ◌≤◌, ℤ, List, [], ◌∷◌, Option, IfSome}
use Rattle.java_values.specs.declared.kind.Kind.{Kind}
use Rattle.java_values.specs.Kinds.{IsInRange}
use Rattle.cell_core.specs.declared.moves.Side.{Side}
use Rattle.cell_core.specs.declared.moves.Side.TheVariants.{Sender, Receiver}
use Rattle.cell_core.specs.declared.moves.Joined.{Joined}
use Rattle.cell_core.specs.declared.moves.CellMove.{CellMove}

-- an offer that stands; a receiver's has no value of its own
pub record StandingOffer : Type 0 where
  pub value : ℤ
  pub stamp : ℕ

-- what is seen of an end
pub record EndView : Type 0 where
  pub side : Side
  pub kind : Kind
  pub offer : Option StandingOffer
  pub room : ℕ

-- A call at an end changes nothing of another end, and of its own only the standing offer and the
-- room, which it lowers by at most one.
pub record ChangesOwnEnd (count : ℕ) (before after : ℕ → EndView) (at : ℕ) : Type 0 where
  pub others_stay : (q : ℕ) → q < count → q ≢ at → after q ≡ before q
  pub side_stays : (after at).side ≡ (before at).side
  pub kind_stays : (after at).kind ≡ (before at).kind
  pub room_lowers : (after at).room ≤ (before at).room
  pub by_one : (before at).room ≤ (after at).room + 1

-- a sender's offer has a value in the kind of its channel
abbrev pub ValueFits : Side → Kind → ℤ → Type 0
ValueFits Sender kind value = IsInRange kind value
ValueFits Receiver kind value = Unit {0}

-- this is the value that was offered, where the side is the sender
abbrev pub IsOwnValue : Side → ℤ → ℤ → Type 0
IsOwnValue Sender offered value = value ≡ offered
IsOwnValue Receiver offered value = Unit {0}

-- a join has a value in the kind and two stamps below 2^62
pub record JoinFits (kind : Kind) (j : Joined) : Type 0 where
  pub value : IsInRange kind j.value
  pub mine : j.mine < 2 ^ 62
  pub theirs : j.theirs < 2 ^ 62

-- the join answers an offer of this end with this value and stamp
pub record JoinsOffer (e : EndView) (value : ℤ) (stamp : ℕ) (j : Joined) : Type 0 where
  pub mine : j.mine ≡ stamp
  pub theirs : j.theirs < 2 ^ 62
  pub in_kind : IsInRange e.kind j.value
  pub own_value : IsOwnValue e.side value j.value

-- the join answers the offer of this end that stands
abbrev pub JoinsStanding : EndView → Joined → Type 0
JoinsStanding e j = IfSome e.offer (λ o. JoinsOffer e o.value o.stamp j)

-- the standing offer has this stamp and, at a sender, this value
pub record IsOffer (side : Side) (value : ℤ) (stamp : ℕ) (o : StandingOffer) : Type 0 where
  pub same_stamp : o.stamp ≡ stamp
  pub own_value : IsOwnValue side value o.value

-- a call at an end, with its answer
pub record EndCall : Type 0 where
  pub at : ℕ
  pub what : CellMove
  pub answer : Option Joined

-- The ends went from the first to the last through exactly these calls, in this order and with these
-- answers.
abbrev pub Through : {S : Type 0} → (S → ℕ → CellMove → Option Joined → S → Type 0) → S →
    List EndCall → S → Type 0
Through moved first [] last = last ≡ first
Through {S} moved first (c ∷ calls) last =
    (next : S) × moved first c.at c.what c.answer next × Through moved next calls last
