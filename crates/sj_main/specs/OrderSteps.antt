-- What the steps of `order` make and answer.
use Rattle.std.specs.Prelude.{◌≡◌, ℕ, ◌<◌, ◌≤◌, List, length, Option, IfSome}
use Rattle.java_values.specs.SourceLimits.{most_source_bytes}
use Rattle.kernel_terms.specs.declared.system.System.{System}
use Rattle.kernel_terms.specs.Systems.{tables_of, domains_of}
use Rattle.sj_io.specs.definitions.Causes.{Rose}
use Rattle.sj_io.specs.definitions.Sinks.{TakesMore, TakesPrefix}
use Rattle.tick_log.specs.definitions.Runs.{RunState}
use Rattle.tick_log.specs.definitions.Holding.{run_state}
use Rattle.kernel_rules.specs.definitions.LegalTick.{no_inputs}
use Rattle.domain_core.specs.definitions.runs.Systems.{SystemState}
use Rattle.domain_core.specs.definitions.runs.Scheduled.{IsScheduledRun, IsWholeRun}
use Rattle.gals_core.specs.definitions.OrderRuns.{IsOrderRun}
use Rattle.sj_main.specs.declared.commands.Turns.{Turns}
use Rattle.sj_main.specs.declared.order.Made.{Made}
use Rattle.sj_main.specs.declared.order.OrderError.{OrderError}
use Rattle.sj_main.specs.declared.order.OrderError.TheVariants.{Fault, Size, Refused, DomainsDoNotFit, OverWeight, NoMemory}
use Rattle.sj_accept.specs.definitions.Programs.{LoweredProgram}
use Rattle.sj_accept.specs.definitions.Accepted.{IsSourceOf}
use Rattle.sj_accept.specs.definitions.Refusals.{IsRefusedFor}
use Rattle.sj_main.specs.definitions.ProgramSetups.{program_setup}
use Rattle.sj_main.specs.definitions.Commands.{turns_for, FitDomains, budgets_for}
use Rattle.sj_main.specs.definitions.RunWeight.{most_run_weight, run_weight, turns_of_program}
use Rattle.sj_main.specs.definitions.Answers.{CountsShow}
use Rattle.sj_main.specs.definitions.Verdicts.{CanRun, IsMisfit, IsOverweight, CommandOutcome, IsOrderAnswer, overweight_line}

-- the system and the run are those of the bytes and the turns
pub record IsMadeFrom (bytes : List ℕ) (turns : Turns) (made : Made) : Type 0 where
  pub program : LoweredProgram
  pub source : IsSourceOf bytes program
  pub can : CanRun program turns
  pub tables : tables_of made.system ≡ program.tables
  pub last : SystemState
  pub scheduled : IsScheduledRun (program_setup program no_inputs) (run_state made.run)
      (turns_of_program program turns) last
  pub whole : IsWholeRun (program_setup program no_inputs) (run_state made.run)
      (turns_of_program program turns)

-- the turns fit the system's domains, their run isn't too heavy, and this is it
pub record RunsTurns (system : System) (turns : Turns) (run : RunState) : Type 0 where
  pub fit : FitDomains turns (length (domains_of system))
  pub weight : run_weight (tables_of system) (budgets_for turns (length (domains_of system))) ≤
      most_run_weight
  pub is : IsOrderRun system no_inputs (turns_for turns (length (domains_of system))) run

-- the turns fit, and their run has this weight, which is above the limit
pub record WeighsTooMuch (system : System) (turns : Turns) (weight : ℕ) : Type 0 where
  pub fit : FitDomains turns (length (domains_of system))
  pub is : weight ≡ run_weight (tables_of system) (budgets_for turns (length (domains_of system)))
  pub above : most_run_weight < weight

-- why there is no run of the turns of a system
abbrev pub IsWhyNoRun : System → Turns → OrderError → Type 0
IsWhyNoRun system turns Fault = ⊥
IsWhyNoRun system turns Size = ⊥
IsWhyNoRun system turns (Refused reason) = ⊥
IsWhyNoRun system turns DomainsDoNotFit = FitDomains turns (length (domains_of system)) → ⊥
IsWhyNoRun system turns (OverWeight weight) = WeighsTooMuch system turns weight
IsWhyNoRun system turns NoMemory = Unit {0}

-- why there is no run of the turns of these bytes' program, as far as the bytes tell
abbrev pub IsWhyNotMade : List ℕ → Turns → OrderError → Type 0
IsWhyNotMade bytes turns Fault = Unit {0}
IsWhyNotMade bytes turns Size = most_source_bytes < length bytes
IsWhyNotMade bytes turns (Refused reason) =
    (length bytes ≤ most_source_bytes) × IsRefusedFor bytes reason
IsWhyNotMade bytes turns DomainsDoNotFit = IsMisfit bytes turns
IsWhyNotMade bytes turns (OverWeight weight) = IsOverweight bytes turns weight
IsWhyNotMade bytes turns NoMemory = Unit {0}

-- the run of the turns has a weight above the limit, and the sink took its line
pub record TellsWeight (told : Option (List ℕ)) (turns : Turns) (old new : Option (List ℕ)) : Type 0
  where
    pub weight : ℕ
    pub is : IfSome told (λ bytes. IsOverweight bytes turns weight)
    pub takes : TakesMore old new (overweight_line weight)

-- the sink took a prefix of the text that some answer to the order of these bytes has, and the files' counts
-- fit that answer
pub record BeginsOrder (told : Option (List ℕ)) (turns : Turns) (file : List ℕ)
    (faults faults' : List ℕ → ℕ) (old new : Option (List ℕ)) : Type 0 where
  pub outcome : CommandOutcome
  pub text : List ℕ
  pub is : IsOrderAnswer told turns outcome text
  pub counts : CountsShow (Rose (faults file) (faults' file)) faults faults' outcome
  pub takes : TakesPrefix old new text
