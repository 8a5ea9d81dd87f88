use Rattle.tick_log.proofs.PrinterTexts.{prefix_taken}
use Rattle.tick_log.proofs.text.print.Goals as goal

pub returns-clause-takes_prefix : goal.returns-clause-takes_prefix
returns-clause-takes_prefix g c = prefix_taken _ _ _ _ c.finish.result c.new-printer.ensures.good c.new-printer.ensures.waits c.put_run.ensures c.finish.ensures.prints c.finish.ensures.good
