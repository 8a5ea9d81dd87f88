use Rattle.std.proofs.Common.{◌-◌, ap, arith, cond}
use Rattle.kernel_terms.specs.Marks.{Going, Ended}
use Rattle.tick_log.specs.definitions.Runs.{statuses_of}
use Rattle.tick_log.specs.definitions.Containers.{LogState}
use Rattle.tick_log.proofs.LogEntryLemmas.{keeps_more, kept_push, same_state}
use Rattle.tick_log.proofs.StatusLemmas.{statuses_length}
use Rattle.tick_log.proofs.log.Log.push.Goals as goal

pub invariant_of-self : goal.invariant_of-self
invariant_of-self c =
    let room = ap (λ (v : LogState). v.room) c.self.view_is in
    let signals = ap (λ (v : LogState). v.signals) c.self.view_is in
    keeps_more _ _ _ _ _ _ _ _ c.self.invariant (omega (arith, room)) c.push_reserved.ensures.len (omega (arith, c.push_reserved.ensures.capacity)) (omega (arith, c.append.ensures.len, signals)) c.append.ensures.capacity

pub returns : goal.returns
returns c =
    let entries = ap (λ (v : LogState). v.entries) c.self.view_is in
    let signals = ap (λ (v : LogState). v.signals) c.self.view_is in
    let room = ap (λ (v : LogState). v.room) c.self.view_is in
    let many = statuses_length c.args.present.now c.args.values.now (omega arith) in
    let pushed = kept_push c.self.inside.signals c.args.stamp c.self.inside.stamps c.push_reserved.new.self c.self.inside.statuses c.append.new.statuses (statuses_of c.args.present.now c.args.values.now) c.args.self.now.entries entries c.self.invariant.all (omega (arith, many, signals)) c.push_reserved.ensures.items c.append.ensures.items in
    same_state (cond c.args.ended Ended Going) pushed signals (ap (λ n. n - 1) room)
