use Rattle.std.proofs.Common.{◌≡◌, subst, sym, ap, ◌∙◌}
use Rattle.kernel_terms.specs.declared.system.System.{System}
use Rattle.signal_store.specs.definitions.Handed.{handed}
use Rattle.gals_core.specs.definitions.OrderPlans.{PlanView, FitBudgets}
use Rattle.gals_core.specs.Plans.{IsReady}
use Rattle.gals_core.proofs.PlanStart.{starts}
use Rattle.gals_core.proofs.ScheduledRunLemmas.{is_order_run, signals_are}
use Rattle.gals_core.proofs.order.run_order.Goals as goal

pub take_turns-requires : goal.take_turns-requires
take_turns-requires c =
    let p = c.plan.inside in
    let of_system : p.system.value ≡ c.args.system.now = ap (λ (v : PlanView). v.system) c.plan.view_is ∙ c.requires.system in
    let ready = subst (λ (s : System). IsReady s p.ticks.items p.domains.items p.channels p.logs) of_system c.plan.invariant in
    let fit = subst (λ (v : PlanView). FitBudgets v.ticks c.args.turns.now) (sym c.plan.view_is) c.requires.turns in
    starts c.args.system.now (handed c.args.inputs.now) p.ticks.items c.args.turns.now p.domains.items p.channels p.logs ready fit

pub returns-clause-run : goal.returns-clause-run
returns-clause-run c =
    is_order_run c.args.system.now (handed c.args.inputs.now) c.args.turns.now c.take_turns.new.domains.items c.take_turns.new.channels c.into_logs.result.items c.into_histories.result.items
    c.take_turns.ensures c.into_logs.ensures c.into_histories.ensures.items c.into_histories.ensures.count

pub returns-clause-holds : goal.returns-clause-holds
returns-clause-holds c = record {
  fits =
      (is_order_run c.args.system.now (handed c.args.inputs.now) c.args.turns.now c.take_turns.new.domains.items c.take_turns.new.channels c.into_logs.result.items c.into_histories.result.items
      c.take_turns.ensures c.into_logs.ensures c.into_histories.ensures.items c.into_histories.ensures.count).fits;
  signals =
      signals_are c.args.system.now (handed c.args.inputs.now) c.args.turns.now c.take_turns.new.domains.items c.take_turns.new.channels c.into_logs.result.items c.into_histories.result.items
      c.take_turns.ensures c.into_logs.ensures c.into_histories.ensures.items c.into_histories.ensures.count;
}
