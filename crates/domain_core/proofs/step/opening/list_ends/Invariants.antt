use Rattle.domain_core.proofs.lemmas.step.CompileLists.{EndsSoFar}
use Rattle.domain_core.proofs.step.opening.list_ends.Given as goal

abbrev pub invariant-loop-at : goal.invariant-loop-at
invariant-loop-at l = EndsSoFar l.domain l.channels l.at l.ends.items
