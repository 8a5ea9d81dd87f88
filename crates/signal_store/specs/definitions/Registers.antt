-- Registers: numbers, each with its kind.
use Rattle.std.specs.Prelude.{ℕ, ℤ, pos, List, map, slice_index_or}
use Rattle.java_values.specs.declared.kind.Kind.{Kind}
use Rattle.java_values.specs.declared.kind.Kind.TheVariants.{Boolean}
use Rattle.java_values.specs.Kinds.{TypedNumber}

abbrev pub kinds_of : List TypedNumber → List Kind
kinds_of registers = map (λ r. r.kind) registers

abbrev pub numbers_of : List TypedNumber → List ℤ
numbers_of registers = map (λ r. r.number) registers

-- the number 0 of the kind
abbrev pub zero_of : Kind → TypedNumber
zero_of k = record { kind = k; number = pos 0 }

-- the kind of register i
abbrev pub kind_at : List TypedNumber → ℕ → Kind
kind_at registers i = slice_index_or (kinds_of registers) i Boolean

-- the number of register i
abbrev pub number_at : List TypedNumber → ℕ → ℤ
number_at registers i = slice_index_or (numbers_of registers) i (pos 0)
