use Rattle.std.proofs.Common.{length}
use Rattle.surf_graph.proofs.Undoing.{Undoing}
use Rattle.surf_graph.proofs.variables.undo.Given as goal

abbrev pub invariant-loop-variables : goal.invariant-loop-variables
invariant-loop-variables l = Undoing l.mark l.initial.variables.items l.initial.changes.items l.variables.items l.changes.items

abbrev pub decreases-loop-variables : goal.decreases-loop-variables
decreases-loop-variables l = length l.changes.items
