use Rattle.std.proofs.Common.{arith}
use Rattle.channel_cell.specs.Calls.{moves_in}
use Rattle.channel_cell.proofs.NextMoveLemmas.{small}
use Rattle.channel_cell.proofs.ends.last_recalls.Goals as goal
use Rattle.channel_cell.proofs.ends.last_recalls.Goals.{then-is_some, else-is_some}

pub overflow_add-joins : goal.overflow_add-joins
overflow_add-joins c = let k = c.sender.invariant in omega (arith, (small (moves_in c.sender.inside.seat.me)).joins, k.joins_are, k.room_is)

pub returns-clause-few : goal.returns-clause-few
returns-clause-few c =
    let k = c.sender.invariant in
    let few = (small (moves_in c.sender.inside.seat.me)).joins in
    elim c.if-is_some.branch [ then-is_some w ↦ omega (arith, few, k.joins_are, k.room_is, w.joins-is) | else-is_some w ↦ omega (arith, few, k.joins_are, k.room_is, w.joins-is) ]
