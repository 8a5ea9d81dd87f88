use Rattle.std.proofs.Common.{◌≡◌, length, take}
use Rattle.plain_code.specs.Formulas.{Satisfies}
use Rattle.plain_code.proofs.code.solve.Given as goal

abbrev pub invariant-loop-equation : goal.invariant-loop-equation
invariant-loop-equation l = (length l.wires ≡ length l.equations) × Satisfies (take l.equation-index l.equations) l.input l.wires
