use Rattle.surf_graph.proofs.StartActive.{start_active}
use Rattle.surf_graph.proofs.StartSilent.{start_silent}
use Rattle.surf_graph.proofs.ExpressionWires.{spelled_out_given}
use Rattle.surf_graph.specs.definitions.StartingCopies.{start}
use Rattle.surf_graph.proofs.laws.starting_operations_tell_ticks.Goals as goal

pub returns-clause-active : goal.returns-clause-active
returns-clause-active c = λ tables f w p d source waits z h. let a = start tables p d in start_active tables f w p d source waits z (spelled_out_given f w a.next a.equations z h)

pub returns-clause-silent : goal.returns-clause-silent
returns-clause-silent c = λ tables f w p d z h. let a = start tables p d in start_silent tables f w p d z (spelled_out_given f w a.next a.equations z h)
