-- A statement has few registers for the copies that it has.
use Rattle.std.proofs.Common.{◌*◌, ◌≤◌, arith}
use Rattle.domain_core.specs.equations.BuiltForms.{Plain, Nothing, Pause, Emit, Seq, Loop, Send, Receive}
use Rattle.domain_core.specs.equations.BuiltRegisters.{registers}
use Rattle.domain_core.specs.equations.BuiltLimits.{resuming_copies}

pub registers-le : (p : Plain) → registers p ≤ 3 * resuming_copies p
registers-le Nothing = omega arith
registers-le Pause = omega arith
registers-le (Send c n) = omega arith
registers-le (Receive c) = omega arith
registers-le (Emit s) = omega arith
registers-le (Seq p q) = omega (arith, registers-le p, registers-le q)
registers-le (Loop p) = omega (arith, registers-le p)
