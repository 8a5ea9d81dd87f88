use Rattle.tick_log.proofs.PrinterTexts.{adds_both}
use Rattle.tick_log.proofs.text.put_channel.Goals as goal

pub returns : goal.returns
returns g c = adds_both _ _ _ _ _ c.put_channel_head.ensures c.put_joins.ensures
