use Rattle.std.proofs.Common.{rules, ◌≡◌, length, [], sym, ◌∙◌, subst}
use Rattle.std.specs.Prelude.{vec_capacity}
use Rattle.kernel_terms.specs.declared.system.System.{System}
use Rattle.gals_core.specs.Plans.{IsReady}
use Rattle.gals_core.proofs.PlanStart.{ticks_fit, is_ready}
use Rattle.gals_core.proofs.order.OrderPlan.open.Goals as goal

pub reserve_all-requires-clause-few : goal.reserve_all-requires-clause-few
reserve_all-requires-clause-few c = ticks_fit c.args.system.now c.args.ticks.now c.args.domains.items c.requires.domains c.requires.ticks

pub invariant_of-result : goal.invariant_of-result
invariant_of-result c =
    let kept : c.in_ok-budgets.budgets.items ≡ c.args.ticks.now = search rules in
    let none : c.in_ok-logs.logs.items ≡ [] = search rules in
    let room : vec_capacity c.in_ok-logs.logs ≡ length c.args.domains.items = c.in_ok-logs.ensures.exact ∙ c.len.ensures ∙ c.args.domains.ok.0 in
    subst (λ (s : System). IsReady s c.in_ok-budgets.budgets.items c.reserve_all.new.domains.items c.in_ok-channels.channels c.in_ok-logs.logs) (sym c.of.ensures)
    (is_ready c.args.system.now c.args.ticks.now c.in_ok-budgets.budgets.items c.args.domains.items c.reserve_all.new.domains.items c.in_ok-channels.channels c.in_ok-logs.logs c.requires.domains c.requires.ticks kept
    c.in_ok-reserve_all.ensures c.in_ok-channels.ensures none room)
