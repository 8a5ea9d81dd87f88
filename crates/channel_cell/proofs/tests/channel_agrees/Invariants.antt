use Rattle.std.proofs.Common.{◌≡◌, ◌+◌, ◌≤◌}
use Rattle.java_values.specs.declared.kind.Kind.TheVariants.{Short}
use Rattle.channel_cell.proofs.tests.channel_agrees.Given as goal

abbrev pub invariant-loop-i : goal.invariant-loop-i
invariant-loop-i l = (l.receiver.channel ≡ l.sender.channel) × (l.sender.kind ≡ Short) × (21 ≤ l.sender.room + l.i) × (21 ≤ l.receiver.room + l.i)
