-- What a plan keeps.
use Rattle.std.specs.Prelude.{◌≡◌, ℕ, ◌<◌, ◌≤◌, List, [], length, map, get_or, Vec, vec_capacity}
use Rattle.std.specs.Global.{Global}
use Rattle.kernel_terms.specs.declared.system.System.{System}
use Rattle.kernel_terms.specs.Systems.{domains_of}
use Rattle.tick_log.specs.definitions.Containers.{LogState}
use Rattle.domain_core.specs.definitions.step.Domains.{DomainView}
use Rattle.domain_core.specs.definitions.step.Compiling.{IsCompiled}
use Rattle.gals_core.specs.Channels.{ChannelsState}
use Rattle.gals_core.specs.definitions.OrderPlans.{view_at}
use Rattle.gals_core.specs.Opening.{AreOpened, reserved}
use Rattle.gals_core.specs.definitions.OrderPlans.{AreBudgets}

abbrev pub logs_of : List DomainView → List LogState
logs_of views = map (λ (v : DomainView). v.log) views

-- the domain before its first tick, with memory for at least so many
pub record IsReserved (system : System) (d ticks : ℕ) (v : DomainView) : Type 0 where
  pub first : DomainView
  pub compiled : IsCompiled system d first
  pub is : v ≡ reserved ticks first

-- all that the run needs is there: memory for the ticks and joins, and for the logs of so many domains
pub record IsReady (system : System) (ticks : List ℕ) (views : List DomainView) (b : ChannelsState)
    (logs : Vec LogState Global) : Type 0 where
  pub budgets : AreBudgets system ticks
  pub count : length views ≡ length (domains_of system)
  pub domains : (d : ℕ) → d < length views →
      IsReserved system d (get_or ticks d 0) (view_at system views d)
  pub channels : AreOpened system ticks b
  pub no_logs : logs.items ≡ []
  pub room : length views ≤ vec_capacity logs
