use Rattle.std.proofs.Common.{arith}
use Rattle.wire_code.proofs.SolutionLemmas.{one_solution}
use Rattle.wire_code.proofs.laws.ordered_equations_have_one_solution.Goals as goal

pub returns : goal.returns
returns c f w v es o h g k lt = one_solution f w v es 0 o h g (λ j less. absurd (omega arith)) k (omega arith)
