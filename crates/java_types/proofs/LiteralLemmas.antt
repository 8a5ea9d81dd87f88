-- A literal whose number is in the range of its kind.
use Rattle.std.proofs.Common.{◌≡◌, ap}
use Rattle.java_values.specs.Kinds.{TypedNumber, IsInRange}
use Rattle.java_values.proofs.InRangeLemmas.{wrapped_kept}
use Rattle.java_types.specs.definitions.Operands.{literal_value}

pub value_kept : (v : TypedNumber) → IsInRange v.kind v.number → literal_value v ≡ v
value_kept v h = ap (λ n. let x : TypedNumber = record { kind = v.kind; number = n } in x) (wrapped_kept v.kind v.number h)

pub ruleset literals = (value_kept)
