-- The bytes of a text.
use Rattle.std.specs.Prelude.{ℕ, List}
use Rattle.java_values.specs.declared.text.Held.{Held}
use Rattle.java_values.specs.declared.text.Held.TheVariants.{Within, Beside}

abbrev pub held_bytes : Held → List ℕ
held_bytes (Within bytes) = bytes
held_bytes (Beside pointer) = pointer.value.items
