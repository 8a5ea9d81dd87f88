use Rattle.std.proofs.lemmas.Grind.{flat_map-append}
use Rattle.tick_log.proofs.PrinterTexts.{adds_both}
use Rattle.tick_log.proofs.text.put_run.Goals as goal

pub returns : goal.returns
returns g c = rw (flat_map-append) (adds_both _ _ _ _ _ c.put_domains.ensures c.put_channels.ensures)
