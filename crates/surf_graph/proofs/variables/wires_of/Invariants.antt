use Rattle.std.proofs.Common.{take}
use Rattle.surf_graph.specs.Variables.{HasWires}
use Rattle.surf_graph.proofs.variables.wires_of.Given as goal

abbrev pub invariant-loop-change : goal.invariant-loop-change
invariant-loop-change l = HasWires (take l.change-index l.changes) l.variables l.left
