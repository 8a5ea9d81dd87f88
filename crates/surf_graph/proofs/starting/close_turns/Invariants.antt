use Rattle.std.proofs.Common.{drop}
use Rattle.surf_graph.specs.StartsBuilt.{Closes}
use Rattle.surf_graph.proofs.starting.close_turns.Given as goal

abbrev pub invariant-loop-i : goal.invariant-loop-i
invariant-loop-i l = Closes l.initial.builder l.builder (drop l.i l.turns) l.last l.status
