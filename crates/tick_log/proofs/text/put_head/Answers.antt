use Rattle.std.proofs.Common.{◌∙◌}
use Rattle.tick_log.proofs.PrinterTexts.{adds_both}
use Rattle.tick_log.proofs.text.put_head.Goals as goal

pub returns : goal.returns
returns g c =
    let count = rw (c.from.ensures ∙ c.len.ensures) at c.put_number-2.ensures in
    let word = c.put_word.ensures c.args.log.now.mark c.ended.ensures.mark in
    adds_both _ _ _ _ _ (adds_both _ _ _ _ _ (adds_both _ _ _ _ _ (adds_both _ _ _ _ _ (adds_both _ _ _ _ _ c.put.ensures c.put_number.ensures) c.put-2.ensures) count) word) c.put-3.ensures
