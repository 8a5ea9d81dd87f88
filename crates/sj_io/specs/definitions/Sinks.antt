-- What a sink takes.
use Rattle.std.specs.Prelude.{◌≡◌, ℕ, List, [], ◌++◌, take, Option, Some, None, Result, Ok, Err}
use Rattle.sj_io.specs.declared.files.Failed.{Failed}

-- it has taken these bytes more, where it tells
abbrev pub TakesMore : Option (List ℕ) → Option (List ℕ) → List ℕ → Type 0
TakesMore None new bytes = Unit {0}
TakesMore (Some old) new bytes = new ≡ Some (old ++ bytes)

-- one call takes the first n bytes of its buffer, or fails and takes nothing
abbrev pub Takes : Option (List ℕ) → Option (List ℕ) → Result ℕ Failed → List ℕ → Type 0
Takes old new (Ok n) buf = TakesMore old new (take n buf)
Takes old new (Err _) buf = TakesMore old new []

-- it has taken a prefix of these bytes more
pub record TakesPrefix (old new : Option (List ℕ)) (bytes : List ℕ) : Type 0 where
  pub count : ℕ
  pub takes : TakesMore old new (take count bytes)
