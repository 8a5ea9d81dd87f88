-- Finding the sends and receives of a statement.
use Rattle.std.specs.Prelude.{◌≡◌, ℕ, ◌+◌, ℤ, List, [], ◌∷◌, ◌++◌}
use Rattle.plain_code.specs.declared.end_place.EndPlace.{EndPlace}
use Rattle.domain_core.specs.declared.step.ends_of.EndOf.{EndOf}
use Rattle.domain_core.specs.declared.equations.sites.Found.{Found}
use Rattle.domain_core.specs.equations.BuiltForms.{Plain, Seq, Loop, Send, Receive}
use Rattle.domain_core.specs.definitions.step.EndRegisters.{end_number}
use Rattle.domain_core.specs.equations.BuiltRegisters.{registers, literals}

-- The sends and receives of a statement from the left, in a domain with these ends. The statement's first register
-- has number n.
abbrev pub plain_places : List EndOf → Plain → ℕ → List EndPlace
plain_places ends (Seq p q) n = plain_places ends p n ++ plain_places ends q (n + registers p)
plain_places ends (Loop p) n = plain_places ends p n
plain_places ends (Send c v) n = record { which = end_number ends c; on = n; met = n + 1 } ∷ []
plain_places ends (Receive c) n = record { which = end_number ends c; on = n; met = n + 1 } ∷ []
plain_places ends _ n = []

-- new is old with those of the statement at its end
pub record Finds (old new : Found) (ends : List EndOf) (p : Plain) (r : ℕ) : Type 0 where
  pub places : new.places.items ≡ old.places.items ++ plain_places ends p r
  pub literals : new.literals.items ≡ old.literals.items ++ literals p r

-- the same of parts one after another

abbrev pub all_plain_places : List EndOf → List Plain → ℕ → List EndPlace
all_plain_places ends [] r = []
all_plain_places ends (p ∷ ps) r =
    plain_places ends p r ++ all_plain_places ends ps (r + registers p)

abbrev pub literals_of_all : List Plain → ℕ → List (ℕ × ℤ)
literals_of_all [] r = []
literals_of_all (p ∷ ps) r = literals p r ++ literals_of_all ps (r + registers p)

pub record FindsAll (old new : Found) (ends : List EndOf) (ps : List Plain) (r : ℕ) : Type 0 where
  pub places : new.places.items ≡ old.places.items ++ all_plain_places ends ps r
  pub literals : new.literals.items ≡ old.literals.items ++ literals_of_all ps r
