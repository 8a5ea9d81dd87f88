-- What stands after the last turn is the scheduled run.
use Rattle.std.proofs.Common.{◌≡◌, ℕ, ◌<◌, List, [], length, map, get_or, sym, ap, ◌∙◌, subst, arith}
use Rattle.std.specs.Prelude.{All}
use Rattle.std.proofs.Math.ListN.{get_or-map}
use Rattle.std.proofs.lemmas.List.{length-map}
use Rattle.kernel_terms.specs.declared.system.System.{System}
use Rattle.kernel_terms.specs.Systems.{tables_of}
use Rattle.kernel_rules.specs.definitions.LegalTick.{Inputs}
use Rattle.kernel_terms.specs.TableEntries.{channel_at, interface_of}
use Rattle.tick_log.specs.definitions.Runs.{RunState, log_of, history_of}
use Rattle.kernel_terms.specs.Marks.{is_over}
use Rattle.tick_log.specs.definitions.Containers.{LogState, HistoryState, logged, joined, no_log}
use Rattle.tick_log.specs.definitions.RunText.{interface_signals}
use Rattle.tick_log.specs.definitions.Fits.{IsEntry, IsRow, IsLog, IsHistory}
use Rattle.domain_core.specs.definitions.step.Domains.{DomainView}
use Rattle.domain_core.specs.definitions.runs.Systems.{domain_count, channel_count, sender_of, setup_of}
use Rattle.domain_core.specs.definitions.runs.LegalRuns.{Fits}
use Rattle.domain_core.specs.definitions.runs.Scheduled.{IsScheduledRun}
use Rattle.domain_core.proofs.lemmas.runs.ScheduledTurns.{scheduled_runs_are_whole}
use Rattle.domain_core.proofs.lemmas.runs.JoinsOfTicks.{run_joins_within_ticks}
use Rattle.domain_core.proofs.lemmas.runs.WellFormedSystems.{system_is_fresh}
use Rattle.gals_core.specs.Channels.{ChannelsState, cell_in, history_in, no_history}
use Rattle.gals_core.specs.BetweenTurns.{IsBetweenTurns}
use Rattle.gals_core.specs.definitions.OrderPlans.{view_at, no_domain}
use Rattle.gals_core.specs.definitions.OrderRuns.{IsOrderRun}
use Rattle.gals_core.specs.Plans.{logs_of}
use Rattle.gals_core.proofs.RunTurns.{at_end}
use Rattle.gals_core.proofs.OpenedChannels.{domain_total}

module _ (system : System) (inputs : Inputs) (turns : List ℕ) (views : List DomainView) (b : ChannelsState) (logs : List LogState) (histories : List HistoryState) (k : IsBetweenTurns system inputs turns [] views b) (logs_are : logs ≡ logs_of views) (histories_are : histories ≡ b.histories)
    (count : length histories ≡ length b.links) where
  abbrev r : RunState
  r = record { logs = map logged logs; histories = map joined histories }

  own_log : (d : ℕ) → get_or logs d no_log ≡ (view_at system views d).log
  own_log d = ap (λ z. get_or z d no_log) logs_are ∙ get_or-map (λ (v : DomainView). v.log) views d (no_domain system)

  log_is : (d : ℕ) → log_of r d ≡ logged (view_at system views d).log
  log_is d = get_or-map logged logs d no_log ∙ ap logged (own_log d)

  history_is : (c : ℕ) → history_of r c ≡ (history_in b c).rows
  history_is c = get_or-map joined histories c no_history ∙ ap (λ z. joined (get_or z c no_history)) histories_are

  log_count : length logs ≡ domain_count (setup_of system inputs)
  log_count = ap length logs_are ∙ length-map views (λ (v : DomainView). v.log) ∙ k.domains

  own_fit : Fits (setup_of system inputs) r
  own_fit = record {
    logs = length-map logs logged ∙ log_count;
    histories = length-map histories joined ∙ count ∙ k.link_count;
  }

  scheduled : IsScheduledRun (setup_of system inputs) r turns k.stands.s
  scheduled =
      at_end system inputs turns (view_at system views) (cell_in b) (λ c. (history_in b c).rows) r k.stands own_fit (λ d. ap (λ z. z.entries) (log_is d)) (λ d. ap (λ z. z.mark) (log_is d))
      history_is

  log_fits : (d : ℕ) → d < domain_count (setup_of system inputs) → IsLog (tables_of system) d (log_of r d)
  log_fits d less = record {
    ticks = omega (arith, ap (λ z. length z.entries) (log_is d), k.limit d less);
    entries = subst (All (IsEntry (interface_signals (tables_of system) d))) (sym (ap (λ z. z.entries) (log_is d))) (k.fits.entries d less);
    mark = λ over. omega (arith, ap (λ z. length z.entries) (log_is d), k.fits.marks d less (ap (λ z. is_over z.mark) (sym (log_is d)) ∙ over));
  }

  history_fits : (c : ℕ) → c < channel_count (setup_of system inputs) → IsHistory (channel_at (tables_of system) c).kind (history_of r c)
  history_fits c less =
      let s = sender_of (setup_of system inputs) c in
      let joins = (run_joins_within_ticks (setup_of system inputs) r turns k.stands.s k.is_system (system_is_fresh system inputs) scheduled c).0 in
      record {
        joins = omega (arith, joins, ap (λ z. length z.entries) (log_is s), k.limit s (k.is_system.sender c less));
        each = subst (All (IsRow (channel_at (tables_of system) c).kind)) (sym (history_is c)) (k.fits.rows c less);
      }

  pub is_order_run : IsOrderRun system inputs turns r
  is_order_run = record {
    end = k.stands.s;
    scheduled = scheduled;
    whole = scheduled_runs_are_whole (setup_of system inputs) r turns k.stands.s k.is_system (system_is_fresh system inputs) own_fit scheduled;
    fits = record {
      domains = own_fit.logs ∙ domain_total system;
      channels = own_fit.histories;
      logs = λ d less. log_fits d (omega (arith, less, own_fit.logs));
      histories = λ c less. history_fits c (omega (arith, less, own_fit.histories));
    };
  }

  -- each log is over its domain's interface signals
  pub signals_are : (d : ℕ) → d < length logs → (get_or logs d no_log).signals ≡ length (interface_of (tables_of system) d)
  signals_are d less = ap (λ z. z.signals) (own_log d) ∙ k.fits.signals d (omega (arith, less, log_count))
