-- How a domain stands.
use Rattle.std.specs.Prelude.{Bool, true, false}

-- It goes on, or its last tick has ended it.
pub data Mark : Type 0 where
  Going : Mark
  Ended : Mark

-- it makes no tick any more
abbrev pub is_over : Mark → Bool
is_over Going = false
is_over Ended = true
