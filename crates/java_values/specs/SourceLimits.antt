-- How large a source may be.
use Rattle.std.specs.Prelude.{ℕ}

abbrev pub most_source_bytes : ℕ
most_source_bytes = 1048576
