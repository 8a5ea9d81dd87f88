use Rattle.std.proofs.Common.{◌≡◌, ◌++◌, drop}
use Rattle.java_types.proofs.table_copies.copied_channels.Given as goal

abbrev pub invariant-loop-channel : goal.invariant-loop-channel
invariant-loop-channel l = l.channels ≡ l.copies.items ++ drop l.channel-index l.channels
