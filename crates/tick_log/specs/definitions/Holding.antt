-- The run that logs and histories hold.
use Rattle.std.specs.Prelude.{◌≡◌, ℕ, ◌<◌, length, map, get_or}
use Rattle.kernel_terms.specs.declared.system.System.{System}
use Rattle.kernel_terms.specs.Systems.{tables_of}
use Rattle.kernel_terms.specs.TableEntries.{interface_of}
use Rattle.tick_log.specs.declared.run.Run.{Run}
use Rattle.tick_log.specs.definitions.Runs.{RunState}
use Rattle.tick_log.specs.definitions.Containers.{logged, joined, no_log}
use Rattle.tick_log.specs.definitions.Fits.{FitsSystem}

-- what logs and histories are as a run
abbrev pub run_state : Run → RunState
run_state run =
    record { logs = map logged run.domains.items; histories = map joined run.channels.items }

-- the run fits the system, and each log is over its domain's interface signals
pub record HoldsRun (system : System) (run : Run) : Type 0 where
  pub fits : FitsSystem system (run_state run)
  pub signals : (d : ℕ) → d < length run.domains.items →
      (get_or run.domains.items d no_log).signals ≡ length (interface_of (tables_of system) d)
