use Rattle.std.proofs.Common.{◌<◌, length, arith}
use Rattle.surf_graph.proofs.Undoing.{fits_last, one_less, undoing_goes_on}
use Rattle.surf_graph.proofs.variables.undo.Goals as goal

pub undo_last-requires : goal.undo_last-requires
undo_last-requires c =
    let lt : c.args.mark < length c.loop-variables.changes.items = omega arith in
    record { within = fits_last c.args.mark _ _ lt c.loop-variables.invariant.within }

pub loop-variables-smaller : goal.loop-variables-smaller
loop-variables-smaller c =
    let lt : c.args.mark < length c.loop-variables.changes.items = omega arith in
    one_less c.args.mark _ _ _ _ lt c.undo_last.ensures

pub loop-variables-preserved : goal.loop-variables-preserved
loop-variables-preserved c =
    let lt : c.args.mark < length c.loop-variables.changes.items = omega arith in
    undoing_goes_on c.args.mark _ _ _ _ _ _ lt c.undo_last.ensures c.loop-variables.invariant
