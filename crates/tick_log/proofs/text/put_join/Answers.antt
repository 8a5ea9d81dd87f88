use Rattle.std.proofs.Common.{w64, rules}
use Rattle.std.proofs.lemmas.Int.{to_z-of_z}
use Rattle.tick_log.proofs.PrinterTexts.{adds_both}
use Rattle.tick_log.proofs.text.put_join.Goals as goal

pub returns : goal.returns
returns g c =
    let join = rw c.from.ensures at c.put_number.ensures in
    let value = rw (to_z-of_z w64 c.args.row.value (search rules)) at c.put_value.ensures in
    let sent = rw c.from-2.ensures at c.put_number-2.ensures in
    let received = rw c.from-3.ensures at c.put_number-3.ensures in
    adds_both _ _ _ _ _ (adds_both _ _ _ _ _ (adds_both _ _ _ _ _ (adds_both _ _ _ _ _ (adds_both _ _ _ _ _ (adds_both _ _ _ _ _ (adds_both _ _ _ _ _ (adds_both _ _ _ _ _ (adds_both _ _ _ _ _ join c.put.ensures) value) c.put-2.ensures) sent) c.put-3.ensures) received) c.put-4.ensures) c.put_number-4.ensures) c.put-5.ensures
