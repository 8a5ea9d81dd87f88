use Rattle.sj_main.proofs.OrderLemmas.{AreCompiled}
use Rattle.sj_main.proofs.order.compile_all.Given as goal

abbrev pub invariant-loop-number : goal.invariant-loop-number
invariant-loop-number l = AreCompiled l.system l.domains.items l.number
