use Rattle.std.proofs.Common.{drop}
use Rattle.surf_graph.proofs.OwnEmissions.{Folding, own_fold}
use Rattle.surf_graph.proofs.emissions.add_emissions.Given as goal

abbrev pub invariant-loop-e : goal.invariant-loop-e
invariant-loop-e l =
    Folding l.fn.builder l.builder (own_fold l.info l.fn.builder.next 0 l.before l.emitted) (own_fold l.info l.builder.next l.so_far.some l.so_far.value (drop l.e-index l.emitted))
