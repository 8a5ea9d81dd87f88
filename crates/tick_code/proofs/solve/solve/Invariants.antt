use Rattle.std.proofs.Common.{◌≡◌, length, take}
use Rattle.wire_code.specs.Formulas.{Satisfies, number_at}
use Rattle.tick_code.proofs.solve.solve.Given as goal

abbrev pub invariant-loop-equation : goal.invariant-loop-equation
invariant-loop-equation l = (length l.wires ≡ length l.equations) × Satisfies (number_at l.input) (number_at l.wires) (take l.equation-index l.equations)
