use Rattle.std.proofs.Common.{◌+◌, drop}
use Rattle.tick_log.specs.definitions.RunText.{text_of_lines, join_lines}
use Rattle.tick_log.specs.Prints.{standing}
use Rattle.tick_log.proofs.PrinterTexts.{Completes}
use Rattle.tick_log.proofs.text.put_joins.Given as goal

abbrev pub invariant-loop-i : goal.invariant-loop-i
invariant-loop-i g l =
    Completes (standing g.K.Sink.taken g.K.Sink.faults l.initial.printer l.initial.out) (standing g.K.Sink.taken g.K.Sink.faults l.printer l.out) (text_of_lines (join_lines l.kind (l.i + 1) (drop l.i l.history.rows))) (text_of_lines (join_lines l.kind 1 l.history.rows))
