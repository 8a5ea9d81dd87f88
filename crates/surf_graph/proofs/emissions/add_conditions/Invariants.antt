use Rattle.std.proofs.Common.{drop}
use Rattle.surf_graph.proofs.OwnEmissions.{Folding, own_conditions}
use Rattle.surf_graph.proofs.emissions.add_conditions.Given as goal

abbrev pub invariant-loop-e : goal.invariant-loop-e
invariant-loop-e l =
    Folding l.fn.builder l.builder (own_conditions l.fn.builder.next 0 l.emitted) (own_conditions l.builder.next l.some (drop l.e-index l.emitted))
