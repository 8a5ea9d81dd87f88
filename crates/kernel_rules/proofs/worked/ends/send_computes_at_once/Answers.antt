use Rattle.std.proofs.Common.{refl}
use Rattle.std.specs.Int.{int_wrap}
use Rattle.kernel_rules.proofs.SeenTicks.{only_tick}
use Rattle.kernel_rules.specs.Rows.{int}
use Rattle.kernel_rules.specs.Worked.Readings.{sum_of_all}
use Rattle.kernel_rules.specs.Worked.Words.{assign, plus, variable}
use Rattle.kernel_terms.specs.Statements.{Send}
use Rattle.kernel_terms.specs.Statements.{Seq, Send}
use Rattle.kernel_rules.proofs.worked.ends.send_computes_at_once.Goals as goal

pub returns-clause-reads : goal.returns-clause-reads
unfolding int_wrap
returns-clause-reads c = only_tick _ _ (Send 4 sum_of_all) _ _ refl refl

pub returns-clause-after_assignment : goal.returns-clause-after_assignment
unfolding int_wrap
returns-clause-after_assignment c = only_tick _ _ (Seq (assign 0 5) (Send 4 (plus (variable 0) (int 1)))) _ _ refl refl
