use Rattle.kernel_terms.specs.TableEntries.{is_interface_of}
use Rattle.domain_core.proofs.lemmas.step.CompileLists.{NumbersSoFar}
use Rattle.domain_core.proofs.step.opening.list_signals.Given as goal

abbrev pub invariant-loop-at : goal.invariant-loop-at
invariant-loop-at l = NumbersSoFar (is_interface_of l.domain) l.signals l.at l.numbers.items
