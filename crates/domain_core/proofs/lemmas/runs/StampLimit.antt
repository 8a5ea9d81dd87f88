-- How large the stamps of a run with few ticks and joins may be.
use Rattle.std.proofs.Common.{ℕ, zero, suc, ◌<◌, ◌≤◌, length, sym, ◌∙◌, arith}
use Rattle.std.specs.Prelude.{◌^◌, ◌*◌}
use Rattle.std.proofs.lemmas.List.{length-map}
use Rattle.kernel_terms.specs.declared.system.System.{System}
use Rattle.kernel_terms.specs.Statements.{statement}
use Rattle.kernel_terms.specs.Systems.{domains_of}
use Rattle.kernel_rules.specs.definitions.LegalTick.{Inputs}
use Rattle.tick_log.specs.definitions.Fits.{FitsSystem}
use Rattle.tick_log.specs.definitions.Runs.{RunState, tick_count, join_count}
use Rattle.tick_log.specs.definitions.StampOrder.{Event, IsEventOf, stamp_of}
use Rattle.domain_core.specs.definitions.runs.Systems.{setup_of}
use Rattle.domain_core.specs.definitions.runs.LegalRuns.{Fits, HasStamps}
use Rattle.domain_core.specs.definitions.runs.StampBound.{sum_below, event_count, IsNextStamp, IsSmallRun}
use Rattle.domain_core.proofs.lemmas.runs.StampBound.{stamp_within_count, next_stamp_within}
use Rattle.domain_core.proofs.lemmas.runs.WellFormedSystems.{system_joins}
use Rattle.kernel_terms.proofs.SystemLimits.{few_domains, few_channels}

sum_most : (f : ℕ → ℕ) (n : ℕ) → ((k : ℕ) → k < n → f k ≤ 100000) → sum_below f n ≤ n * 100000
sum_most f zero h = omega arith
sum_most f (suc n) h = let a = h n (omega arith) in let b = sum_most f n (λ k l. h k (omega (arith, l))) in omega (arith, a, b)

small_fits : (system : System) (inputs : Inputs) (r : RunState) → IsSmallRun system r → Fits (setup_of system inputs) r
small_fits system inputs r h = record { logs = h.domains ∙ sym (length-map (domains_of system) statement); histories = h.channels }

few_events : (system : System) (r : RunState) → IsSmallRun system r → event_count r ≤ 8000000
few_events system r h =
    let ticks = sum_most (tick_count r) (length r.logs) (λ d l. h.ticks d l) in
    let joins = sum_most (join_count r) (length r.histories) (λ c l. h.joins c l) in
    let logs = h.domains in
    let histories = h.channels in
    let domains = few_domains system in
    let channels = few_channels system in
    omega (arith, ticks, joins, logs, histories, domains, channels)

pub stamps_below : (system : System) (inputs : Inputs) (r : RunState) (e : Event) → IsSmallRun system r → HasStamps (setup_of system inputs) r → IsEventOf r e → stamp_of r e < 2 ^ 24
stamps_below system inputs r e h s w =
    let low = stamp_within_count (setup_of system inputs) r (system_joins system inputs) (small_fits system inputs r h) s e w in
    let few = few_events system r h in
    omega (arith, low, few)

pub next_below : (system : System) (inputs : Inputs) (r : RunState) (d stamp : ℕ) → IsSmallRun system r → HasStamps (setup_of system inputs) r → IsNextStamp (setup_of system inputs) r d stamp → stamp < 2 ^ 24
next_below system inputs r d stamp h s next =
    let low = next_stamp_within (setup_of system inputs) r (system_joins system inputs) (small_fits system inputs r h) s d stamp next in
    let few = few_events system r h in
    omega (arith, low, few)

pub fits_small : (system : System) (r : RunState) → FitsSystem system r → IsSmallRun system r
fits_small system r h = record { domains = h.domains; channels = h.channels; ticks = λ d l. (h.logs d l).ticks; joins = λ c l. (h.histories c l).joins }
