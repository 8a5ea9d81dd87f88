use Rattle.std.proofs.Common.{map, drop}
use Rattle.kernel_terms.specs.Systems.{tables_of}
use Rattle.tick_log.specs.definitions.RunText.{text_of_lines, domain_lines}
use Rattle.tick_log.specs.definitions.Containers.{logged}
use Rattle.tick_log.specs.Prints.{standing}
use Rattle.tick_log.proofs.PrinterTexts.{Completes}
use Rattle.tick_log.proofs.text.put_domains.Given as goal

abbrev pub invariant-loop-i : goal.invariant-loop-i
invariant-loop-i g l =
    Completes (standing g.K.Sink.taken g.K.Sink.faults l.initial.printer l.initial.out) (standing g.K.Sink.taken g.K.Sink.faults l.printer l.out) (text_of_lines (domain_lines (tables_of l.system) l.i (map logged (drop l.i l.run.domains.items)))) (text_of_lines (domain_lines (tables_of l.system) 0 (map logged l.run.domains.items)))
