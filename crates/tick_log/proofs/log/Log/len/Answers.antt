use Rattle.std.proofs.Common.{◌∙◌, sym, ap}
use Rattle.tick_log.specs.definitions.Containers.{LogState}
use Rattle.tick_log.proofs.LogEntryLemmas.{kept_length}
use Rattle.tick_log.proofs.log.Log.len.Goals as goal

pub returns : goal.returns
returns c = c.len.ensures ∙ sym (kept_length _ c.self.inside.stamps _ _ (ap (λ (v : LogState). v.entries) c.self.view_is))
