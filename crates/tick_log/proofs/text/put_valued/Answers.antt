use Rattle.std.proofs.Common.{w64}
use Rattle.std.proofs.lemmas.Int.{to_z-of_z}
use Rattle.tick_log.proofs.PrinterTexts.{adds_both}
use Rattle.tick_log.proofs.text.put_valued.Goals as goal

pub returns : goal.returns
returns g c =
    let value = rw (to_z-of_z w64 c.args.value c.ranges.value) at c.put_value.ensures in
    adds_both _ _ _ _ _ c.put.ensures value
