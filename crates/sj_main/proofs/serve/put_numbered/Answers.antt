use Rattle.std.proofs.Common.{◌∙◌}
use Rattle.tick_log.proofs.JoinedTexts.{puts_both}
use Rattle.sj_main.proofs.serve.put_numbered.Goals as goal

pub returns : goal.returns
returns g c =
    let told = rw (c.as_bytes.ensures.value ∙ c.format.ensures.text) at c.put-told.ensures in
    puts_both _ _ _ _ _ _ _ _ _ _ _ (puts_both _ _ _ _ _ _ _ _ _ _ _ c.put-begun.ensures told) c.put.ensures
