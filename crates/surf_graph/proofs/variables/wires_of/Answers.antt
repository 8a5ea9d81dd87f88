use Rattle.std.proofs.Common.{refl}
use Rattle.surf_graph.proofs.Undoing.{next_wire}
use Rattle.surf_graph.proofs.variables.wires_of.Goals as goal

pub loop-change-preserved : goal.loop-change-preserved
loop-change-preserved c =
    next_wire c.args.changes.now c.loop-change.change-index (record { variable = 0; before = 0 }) _ _ c.args.variables.now c.loop-change.left c.insert.new.self c.loop-change-test.true refl c.wire_at.ensures c.loop-change.invariant c.in_ok-insert.ensures.updates
