use Rattle.surf_graph.proofs.JoinedVariables.{JoinedSoFar}
use Rattle.surf_graph.proofs.variables.join.Given as goal

abbrev pub invariant-loop-variable : goal.invariant-loop-variable
invariant-loop-variable l =
    JoinedSoFar l.initial.builder l.builder l.initial.variables.items l.variables.items l.initial.changes.items l.changes.items l.other l.first_own l.left l.variable-iterator
