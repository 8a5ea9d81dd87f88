-- The run of given turns.
use Rattle.std.specs.Prelude.{ℕ, List}
use Rattle.kernel_terms.specs.declared.system.System.{System}
use Rattle.kernel_rules.specs.definitions.LegalTick.{Inputs}
use Rattle.tick_log.specs.definitions.Runs.{RunState}
use Rattle.tick_log.specs.definitions.Fits.{FitsSystem}
use Rattle.domain_core.specs.definitions.runs.Systems.{SystemState, setup_of}
use Rattle.domain_core.specs.definitions.runs.Scheduled.{IsScheduledRun, IsWholeRun}

-- The scheduled run of the turns under these inputs: legal, at rest, and with the turns' budgets spent. It fits
-- the system.
pub record IsOrderRun (system : System) (inputs : Inputs) (turns : List ℕ) (r : RunState) : Type 0
  where
    pub end : SystemState
    pub scheduled : IsScheduledRun (setup_of system inputs) r turns end
    pub whole : IsWholeRun (setup_of system inputs) r turns
    pub fits : FitsSystem system r
