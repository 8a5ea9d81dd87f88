use Rattle.domain_core.proofs.lemmas.step.JoinListLemmas.{Grows}
use Rattle.domain_core.proofs.step.join_lists.grow.Given as goal

abbrev pub invariant-loop-at : goal.invariant-loop-at
invariant-loop-at l = Grows l.room l.at l.initial.lists.items l.lists.items
