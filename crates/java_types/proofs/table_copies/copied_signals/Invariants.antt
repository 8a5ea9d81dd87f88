use Rattle.std.proofs.Common.{◌≡◌, ◌++◌, drop}
use Rattle.java_types.proofs.table_copies.copied_signals.Given as goal

abbrev pub invariant-loop-signal : goal.invariant-loop-signal
invariant-loop-signal l = l.signals ≡ l.copies.items ++ drop l.signal-index l.signals
