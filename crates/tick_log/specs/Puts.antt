-- What a sink took, where a failure before or within leaves a prefix.
use Rattle.std.specs.Prelude.{◌≡◌, ℕ, ◌≤◌, Bool, true, false, List, Option}
use Rattle.sj_io.specs.definitions.Causes.{Rose}
use Rattle.sj_io.specs.definitions.Sinks.{TakesMore, TakesPrefix}

abbrev pub PutsAt : Bool → Bool → Option (List ℕ) → Option (List ℕ) → ℕ → ℕ → List ℕ → Type 0
PutsAt true true a b f g x = TakesMore a b x
PutsAt true false a b f g x = TakesPrefix a b x × Rose f g
PutsAt false true a b f g x = ⊥
PutsAt false false a b f g x = (b ≡ a) × (g ≡ f)

-- where it went well before, it takes these bytes, or a prefix of them and has failed; after a failure it takes nothing
pub record Puts (was is : Bool) (a b : Option (List ℕ)) (f g : ℕ) (x : List ℕ) : Type 0 where
  pub what : PutsAt was is a b f g x
  pub later : f ≤ g
