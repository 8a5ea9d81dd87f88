use Rattle.std.proofs.Common.{◌+◌, drop, map}
use Rattle.kernel_terms.specs.TableEntries.{signal_at}
use Rattle.tick_log.specs.definitions.RunText.{text_of_lines, tick_lines}
use Rattle.tick_log.specs.Prints.{standing}
use Rattle.tick_log.proofs.PrinterTexts.{Completes}
use Rattle.tick_log.proofs.text.put_ticks.Given as goal

abbrev pub invariant-loop-i : goal.invariant-loop-i
invariant-loop-i g l =
    Completes (standing g.K.Sink.taken g.K.Sink.faults l.initial.printer l.initial.out) (standing g.K.Sink.taken g.K.Sink.faults l.printer l.out) (text_of_lines (tick_lines (map (signal_at l.tables) l.own) (l.i + 1) (drop l.i l.log.entries))) (text_of_lines (tick_lines (map (signal_at l.tables) l.own) 1 l.log.entries))
