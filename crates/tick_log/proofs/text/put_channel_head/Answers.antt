use Rattle.std.proofs.Common.{◌∙◌}
use Rattle.tick_log.proofs.PrinterTexts.{adds_both}
use Rattle.tick_log.proofs.text.put_channel_head.Goals as goal

pub returns : goal.returns
returns g c =
    let name = rw c.bytes.ensures at c.put-2.ensures in
    let count = rw (c.from.ensures ∙ c.len.ensures) at c.put_number.ensures in
    adds_both _ _ _ _ _ (adds_both _ _ _ _ _ (adds_both _ _ _ _ _ (adds_both _ _ _ _ _ c.put.ensures name) c.put-3.ensures) count) c.put-4.ensures
