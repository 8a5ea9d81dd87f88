use Rattle.std.proofs.Common.{◌≡◌, ◌+◌}
use Rattle.channel_cell.proofs.tests.receive.Given as goal

abbrev pub invariant-loop-i : goal.invariant-loop-i
invariant-loop-i l = (l.end.channel ≡ l.fn.end.channel) × (l.end.room + l.i ≡ l.fn.end.room)
