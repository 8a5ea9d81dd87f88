use Rattle.std.proofs.Common.{drop}
use Rattle.sj_accept.specs.Lowered.{StatementsReach}
use Rattle.sj_accept.proofs.statements.+lowering.Given as goal

abbrev pub invariant-block_term-loop-i : goal.invariant-block_term-loop-i
invariant-block_term-loop-i l = StatementsReach l.statements (drop l.i l.statements) l.terms.items
