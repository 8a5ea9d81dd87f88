use Rattle.std.proofs.Common.{◌≡◌, length, drop}
use Rattle.domain_core.specs.equations.BuiltCodes.{AreBelow, written}
use Rattle.domain_core.proofs.equations.codes.write.Given as goal

abbrev pub invariant-loop-literal : goal.invariant-loop-literal
invariant-loop-literal l =
    (written (drop l.literal-index l.literals) l.registers ≡ written l.literals l.initial.registers)
    × (length l.registers ≡ length l.initial.registers)
    × AreBelow (length l.initial.registers) (drop l.literal-index l.literals)
