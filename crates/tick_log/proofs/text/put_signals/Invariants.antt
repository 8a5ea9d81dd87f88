use Rattle.std.proofs.Common.{◌-◌, drop, map}
use Rattle.kernel_terms.specs.TableEntries.{signal_at}
use Rattle.tick_log.specs.definitions.Runs.{entry_at}
use Rattle.tick_log.specs.definitions.RunText.{signal_texts}
use Rattle.tick_log.specs.Prints.{standing}
use Rattle.tick_log.proofs.PrinterTexts.{Completes}
use Rattle.tick_log.proofs.text.put_signals.Given as goal

abbrev pub invariant-loop-i : goal.invariant-loop-i
invariant-loop-i g l =
    Completes (standing g.K.Sink.taken g.K.Sink.faults l.initial.printer l.initial.out) (standing g.K.Sink.taken g.K.Sink.faults l.printer l.out) (signal_texts (map (signal_at l.tables) (drop l.i l.own)) (drop l.i (entry_at l.log.entries (l.tick - 1)).statuses)) (signal_texts (map (signal_at l.tables) l.own) (entry_at l.log.entries (l.tick - 1)).statuses)
