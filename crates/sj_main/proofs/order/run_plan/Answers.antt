use Rattle.std.proofs.Common.{subst}
use Rattle.signal_store.specs.definitions.Handed.{handed}
use Rattle.tick_log.specs.definitions.Holding.{run_state}
use Rattle.gals_core.specs.definitions.OrderRuns.{IsOrderRun}
use Rattle.sj_main.proofs.order.run_plan.Goals as goal

pub returns-clause-run : goal.returns-clause-run
returns-clause-run c = subst (λ i. IsOrderRun c.args.system.now (handed i) c.args.turns.now (run_state c.run_order.result)) c.new-inputs.ensures c.run_order.ensures.run
