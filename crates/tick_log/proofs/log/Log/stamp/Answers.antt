use Rattle.std.proofs.Common.{ap, arith}
use Rattle.tick_log.specs.definitions.Containers.{LogState}
use Rattle.tick_log.proofs.LogEntryLemmas.{kept_length, kept_stamp}
use Rattle.tick_log.proofs.log.Log.stamp.Goals as goal

pub index-requires : goal.index-requires
index-requires c = let len = kept_length _ c.self.inside.stamps _ _ (ap (λ (v : LogState). v.entries) c.self.view_is) in omega (arith, len)

pub returns : goal.returns
returns c = kept_stamp _ c.self.inside.stamps _ _ _ _ (ap (λ (v : LogState). v.entries) c.self.view_is) (omega arith) c.index.ensures
