-- Plans of scheduled runs: domains before their first ticks, and how many ticks each may make.
use Rattle.std.specs.Prelude.{◌≡◌, ℕ, ◌<◌, ◌≤◌, false, List, [], length, get_or}
use Rattle.kernel_terms.specs.Marks.{Going}
use Rattle.kernel_terms.specs.declared.system.System.{System}
use Rattle.kernel_terms.specs.Systems.{domains_of}
use Rattle.tick_log.specs.definitions.Fits.{most_ticks}
use Rattle.domain_core.specs.definitions.step.Domains.{DomainView}
use Rattle.domain_core.specs.definitions.step.Compiling.{IsCompiled}
use Rattle.domain_core.specs.definitions.runs.Scheduled.{turns_of}

-- past the last domain
abbrev pub no_domain : System → DomainView
no_domain system = record {
  system = system;
  domain = 0;
  registers = [];
  standing = [];
  log = record { entries = []; mark = Going; signals = 0; room = 0 };
  joins = [];
  spare = 0;
  stopped = false;
  stamp = 0;
}

abbrev pub view_at : System → List DomainView → ℕ → DomainView
view_at system views d = get_or views d (no_domain system)

-- the domains of a system before their first ticks, and how many ticks each may make
pub record PlanView : Type 0 where
  pub system : System
  pub ticks : List ℕ

-- these are the system's domains before their first ticks, by rising number
pub record AreDomainsOf (system : System) (views : List DomainView) : Type 0 where
  pub count : length views ≡ length (domains_of system)
  pub compiled : (d : ℕ) → d < length views → IsCompiled system d (view_at system views d)

-- one number of ticks per domain, none above the limit
pub record AreBudgets (system : System) (ticks : List ℕ) : Type 0 where
  pub count : length ticks ≡ length (domains_of system)
  pub few : (d : ℕ) → get_or ticks d 0 ≤ most_ticks

-- each turn is one of a domain, and no domain has more turns than its number
pub record FitBudgets (ticks turns : List ℕ) : Type 0 where
  pub within : (i : ℕ) → i < length turns → get_or turns i 0 < length ticks
  pub few : (d : ℕ) → turns_of d turns ≤ get_or ticks d 0
