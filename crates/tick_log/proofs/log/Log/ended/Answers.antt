use Rattle.std.proofs.Common.{ap, arith}
use Rattle.tick_log.specs.definitions.Containers.{LogState}
use Rattle.tick_log.proofs.LogEntryLemmas.{kept_length}
use Rattle.tick_log.proofs.log.Log.ended.Goals as goal

pub returns-clause-entry : goal.returns-clause-entry
returns-clause-entry c = λ on. let len = kept_length _ c.self.inside.stamps _ _ (ap (λ (v : LogState). v.entries) c.self.view_is) in omega (arith, len, c.self.invariant.last on)
