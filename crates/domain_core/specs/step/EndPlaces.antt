-- Which ends of a domain wait, by the places of its sends and receives, and whether there are registers for them.
use Rattle.std.specs.Prelude.{◌≡◌, ℕ, suc, zero, ◌+◌, ◌<◌, ◌≤◌, ℤ, pos, Bool, not, ◌&&◌, cond, ◌==◌, List, [], ◌∷◌, length, get_or, Option, Some, None, is_some}
use Rattle.java_values.specs.Arithmetic.{is_true}
use Rattle.kernel_rules.specs.definitions.Signals.{put_at}
use Rattle.cell_core.specs.declared.moves.Joined.{Joined}
use Rattle.cell_core.specs.declared.moves.Side.{Side}
use Rattle.cell_core.specs.declared.moves.Side.TheVariants.{Sender, Receiver}
use Rattle.plain_code.specs.declared.end_place.EndPlace.{EndPlace}
use Rattle.domain_core.specs.declared.step.ends_of.EndOf.{EndOf}
use Rattle.domain_core.specs.definitions.step.EndCalls.{end_at}
use Rattle.domain_core.specs.definitions.step.EndRegisters.{end_number, receivers_before, with_last}

-- the value of a send is behind its `met`, and a receive offers 0
abbrev pub value_at : Side → EndPlace → (ℕ → ℤ) → ℤ
value_at Sender p r = r (p.met + 1)
value_at Receiver p r = pos 0

-- the place waits
abbrev pub is_waiting : EndPlace → (ℕ → ℤ) → Bool
is_waiting p r = is_true (r p.on) && not (is_true (r p.met))

-- it waits, and is one of the end of number k
abbrev pub waits_at : ℕ → EndPlace → (ℕ → ℤ) → Bool
waits_at k p r = (p.which == k) && is_waiting p r

-- the value with which the end of number k waits, at the first of its places that waits
abbrev pub ask_of : List EndPlace → ℕ → Side → (ℕ → ℤ) → Option ℤ
ask_of [] k s r = None
ask_of (p ∷ ps) k s r = cond (waits_at k p r) (Some (value_at s p r)) (ask_of ps k s r)

-- the end of the place is one of so many, and its registers are among the first n
pub record PlaceFits (ends n : ℕ) (p : EndPlace) : Type 0 where
  pub which : p.which < ends
  pub on : p.on < n
  pub value : p.met + 1 < n

abbrev pub PlacesFit : List EndPlace → ℕ → ℕ → Type 0
PlacesFit places ends n =
    (i : ℕ) (p : EndPlace) → i < length places → PlaceFits ends n (get_or places i p)

-- each receiver has the register of its last value among the first n
pub record LastFits (last : List ℕ) (ends : List EndOf) (n : ℕ) : Type 0 where
  pub place : (k : ℕ) → k < length ends → (end_at ends k).side ≡ Receiver →
      receivers_before ends k < length last
  pub register : (i : ℕ) → i < length last → get_or last i 0 < n

-- from n to m, each place has its `met` right behind its `on`, and the next place's are behind it
abbrev pub Rise : ℕ → List EndPlace → ℕ → Type 0
Rise n [] m = n ≤ m
Rise n (p ∷ ps) m = (n ≤ p.on) × (p.met ≡ p.on + 1) × Rise (p.on + 2) ps m

-- each place has registers of its own, and those of the last values are behind all places
pub record HaveOwnRegisters (places : List EndPlace) (last : List ℕ) : Type 0 where
  pub bound : ℕ
  pub rise : Rise 0 places bound
  pub behind : (i : ℕ) → i < length last → bound ≤ get_or last i 0

-- a join was answered at the end
abbrev pub is_joined : List (Option Joined) → ℕ → Bool
is_joined answers k = is_some (get_or answers k None)

-- the registers with `met` at each place that is on and whose end is one of these
abbrev pub met_where_at : (ℕ → Bool) → EndPlace → (ℕ → ℤ) → ℕ → ℤ
met_where_at t p r = cond (t p.which && is_true (r p.on)) (put_at r p.met (pos 1)) r

abbrev pub met_where : (ℕ → Bool) → List EndPlace → (ℕ → ℤ) → ℕ → ℤ
met_where t [] r = r
met_where t (p ∷ ps) r = met_where t ps (met_where_at t p r)

-- the registers with the values that were joined at those of the first so many ends that receive
abbrev pub kept_at : List EndOf → List ℕ → ℕ → Option Joined → (ℕ → ℤ) → ℕ → ℤ
kept_at ends last k None r = r
kept_at ends last k (Some j) r = with_last ends last k j.value r

abbrev pub kept : List EndOf → List ℕ → List (Option Joined) → ℕ → (ℕ → ℤ) → ℕ → ℤ
kept ends last answers zero r = r
kept ends last answers (suc n) r =
    kept_at ends last n (get_or answers n None) (kept ends last answers n r)

-- the first of two values that there is
abbrev pub first_of : Option ℤ → Option ℤ → Option ℤ
first_of None b = b
first_of (Some v) b = Some v

-- the value with which the end of number k waits at this place, if it does
abbrev pub asked_at : EndPlace → ℕ → Side → (ℕ → ℤ) → Option ℤ
asked_at p k s r = cond (waits_at k p r) (Some (value_at s p r)) None

-- the channel has an end of this side among these
pub record HasEnd (ends : List EndOf) (c : ℕ) (s : Side) : Type 0 where
  pub within : end_number ends c < length ends
  pub here : end_at ends (end_number ends c) ≡ record { channel = c; side = s }
