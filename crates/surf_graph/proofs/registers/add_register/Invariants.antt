use Rattle.std.proofs.Common.{drop}
use Rattle.surf_graph.proofs.Growing.{Remains}
use Rattle.surf_graph.proofs.OwnSets.{own_set_equations}
use Rattle.surf_graph.proofs.registers.add_register.Given as goal

abbrev pub invariant-loop-set : goal.invariant-loop-set
invariant-loop-set l =
    Remains l.fn.builder l.builder (own_set_equations l.kind l.fn.builder.next l.sets) (own_set_equations l.kind l.builder.next (drop l.set-index l.sets))
