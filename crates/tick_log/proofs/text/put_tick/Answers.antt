use Rattle.tick_log.proofs.PrinterTexts.{adds_both}
use Rattle.tick_log.proofs.text.put_tick.Goals as goal

pub returns : goal.returns
returns g c =
    let number = rw c.from.ensures at c.put_number.ensures in
    let stamp = rw c.stamp.ensures at c.put_number-2.ensures in
    adds_both _ _ _ _ _ (adds_both _ _ _ _ _ (adds_both _ _ _ _ _ (adds_both _ _ _ _ _ number c.put.ensures) stamp) c.put_signals.ensures) c.put-2.ensures
