use Rattle.std.proofs.Common.{◌-◌, ap, arith, vec_len}
use Rattle.tick_log.specs.definitions.Containers.{LogState}
use Rattle.tick_log.proofs.LogEntryLemmas.{kept_length, kept_status, status_within}
use Rattle.tick_log.proofs.log.Log.status.Goals as goal

pub index-requires : goal.index-requires
index-requires c =
    let len = kept_length _ c.self.inside.stamps _ _ (ap (λ (v : LogState). v.entries) c.self.view_is) in
    let signals = ap (λ (v : LogState). v.signals) c.self.view_is in
    omega (arith, status_within c.self.inside.signals (vec_len c.self.inside.stamps) (c.args.tick - 1) c.args.signal (omega (arith, len)) (omega (arith, signals)), c.self.invariant.all)

pub returns : goal.returns
returns c =
    let signals = ap (λ (v : LogState). v.signals) c.self.view_is in
    kept_status _ c.self.inside.stamps c.self.inside.statuses _ _ _ _ (ap (λ (v : LogState). v.entries) c.self.view_is) c.self.invariant.all (omega arith) (omega (arith, signals)) c.index.ensures
