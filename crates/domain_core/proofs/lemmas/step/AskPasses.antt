-- One pass over the places finds what each end asks.
use Rattle.std.proofs.Common.{◌≡◌, ℤ, Bool, true, false, cond, Option, Some, None, refl}
use Rattle.domain_core.specs.step.EndPlaces.{first_of}

-- a place more
pub asked_next : (a : Option ℤ) (w : Bool) (v : ℤ) (rest : Option ℤ) → first_of (first_of a (cond w (Some v) None)) rest ≡ first_of a (cond w (Some v) rest)
asked_next None true v rest = refl
asked_next None false v rest = refl
asked_next (Some x) w v rest = refl

pub asked_last : (a : Option ℤ) → first_of a None ≡ a
asked_last None = refl
asked_last (Some x) = refl

pub ruleset asking_steps = (asked_next, asked_last)
