-- What is handed in from outside: for each signal, and each tick of its domain, a number or nothing.
use Rattle.std.specs.Prelude.{◌≡◌, ℕ, ℤ, Bool, ◌==◌, ◌&&◌, cond, List, Option, None, Some, IsSome}
use Rattle.std.specs.Map.{lookup}
use Rattle.signal_store.specs.declared.inputs.Moment.{Moment}

-- it is tick t for signal s
abbrev pub is_moment : ℕ → ℕ → Moment → Bool
is_moment s t m = (s == m.signal) && (t == m.tick)

-- the number that the entries have for signal s at tick t
abbrev pub handed : List (Moment × ℤ) → ℕ → ℕ → Option ℤ
handed entries s t = lookup (is_moment s t) entries

-- the same, with the number n for signal s at tick t
abbrev pub with_number : (ℕ → ℕ → Option ℤ) → ℕ → ℕ → ℤ → ℕ → ℕ → Option ℤ
with_number before s t n s2 t2 = cond ((s == s2) && (t == t2)) (Some n) (before s2 t2)

-- nothing was there, and the number is there now
pub record IsAdded (old new : List (Moment × ℤ)) (s t : ℕ) (n : ℤ) : Type 0 where
  pub free : handed old s t ≡ None
  pub added : handed new ≡ with_number (handed old) s t n

-- a number is there, and nothing has changed
pub record IsRefused (old new : List (Moment × ℤ)) (s t : ℕ) : Type 0 where
  pub there : IsSome (handed old s t)
  pub same : new ≡ old
