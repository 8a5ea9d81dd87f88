use Rattle.std.proofs.Common.{ap, arith}
use Rattle.tick_log.specs.definitions.Containers.{LogState}
use Rattle.tick_log.proofs.LogEntryLemmas.{keeps_reserved, kept_length}
use Rattle.tick_log.proofs.log.Log.reserve.Goals as goal

pub invariant_of-self-2 : goal.invariant_of-self-2
invariant_of-self-2 c =
    let len = kept_length _ c.self.inside.stamps _ _ (ap (λ (v : LogState). v.entries) c.self.view_is) in
    keeps_reserved _ _ _ _ _ _ _ _ c.self.invariant (omega (arith, len, c.requires, c.in_ok-reserve.ensures.len)) c.in_ok-reserve.ensures.len c.in_ok-reserve.ensures.ok c.in_ok-reserve-2.ensures.len c.in_ok-reserve-2.ensures.ok
