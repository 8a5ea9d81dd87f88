-- What is answered, in the order in which it is looked for: the words, the reading of the source, its
-- size, its tokens, grammar, names, kinds and rules, whether the turns fit its domains, the run's weight, and then the
-- run.
use Rattle.std.specs.Prelude.{◌≡◌, ℕ, ◌<◌, ◌≤◌, List, ◌++◌, length, Option, IfSome, codes, decimal}
use Rattle.java_values.specs.SourceLimits.{most_source_bytes}
use Rattle.tick_log.specs.definitions.Runs.{RunState}
use Rattle.tick_log.specs.definitions.RunText.{run_text}
use Rattle.kernel_rules.specs.definitions.LegalTick.{no_inputs}
use Rattle.domain_core.specs.definitions.runs.Systems.{SystemState}
use Rattle.domain_core.specs.definitions.runs.Scheduled.{IsScheduledRun, IsWholeRun}
use Rattle.sj_main.specs.declared.commands.Turns.{Turns}
use Rattle.sj_names.specs.declared.failure.FailureKind.{FailureKind}
use Rattle.sj_names.specs.declared.failure.FailureKind.TheVariants as fault
use Rattle.sj_accept.specs.declared.refusal.Refusal.{Refusal}
use Rattle.java_types.specs.declared.failure.TypeFailure.{TypeFailure}
use Rattle.java_types.specs.declared.failure.TypeFailure.TheVariants as kinds
use Rattle.sj_accept.specs.declared.refusal.Refusal.TheVariants as refusal
use Rattle.sj_accept.specs.definitions.Programs.{LoweredProgram}
use Rattle.sj_accept.specs.definitions.Accepted.{IsSourceOf}
use Rattle.sj_accept.specs.definitions.Refusals.{IsRefusedFor}
use Rattle.sj_main.specs.definitions.ProgramSetups.{program_setup}
use Rattle.sj_main.specs.definitions.Commands.{FitDomains, IsOrder, IsNoCommand}
use Rattle.sj_main.specs.definitions.RunWeight.{most_run_weight, domain_count_of, turns_of_program, run_weight_of}

abbrev pub usage_line : List ℕ
usage_line =
    codes "usage: check FILE | order FILE TURNS INPUTS | run FILE TICKS INPUTS | verify FILE TICKS INPUTS RUN | gen NUMBER TICKS\n"

abbrev pub misfit_line : List ℕ
misfit_line = codes "domains do not fit\n"

-- a line of this text and a number
abbrev pub numbered_line : List ℕ → ℕ → List ℕ
numbered_line text n = text ++ decimal n ++ codes "\n"

abbrev pub overweight_line : ℕ → List ℕ
overweight_line = numbered_line (codes "over the run weight ")

abbrev pub size_line : List ℕ
size_line = codes "refused Size\n"

-- what stands before the place of a failure of names
abbrev pub fault_text : FailureKind → List ℕ
fault_text fault.Unknown = codes "refused Unknown at "
fault_text fault.Twice = codes "refused Twice at "
fault_text fault.SignalShared = codes "refused SignalShared at "
fault_text fault.EmitInput = codes "refused EmitInput at "
fault_text fault.ChannelEnds = codes "refused ChannelEnds at "
fault_text fault.TooMany = codes "refused TooMany at "

abbrev pub kind_text : TypeFailure → List ℕ
kind_text (kinds.Mismatch at) = codes "refused Mismatch at "
kind_text (kinds.Divisor at) = codes "refused Divisor at "

abbrev pub kind_place : TypeFailure → ℕ
kind_place (kinds.Mismatch at) = at
kind_place (kinds.Divisor at) = at

-- the kind of a refusal and its place, a byte offset from 0
abbrev pub refusal_line : Refusal → List ℕ
refusal_line (refusal.BadByte at) = numbered_line (codes "refused BadByte at ") at
refusal_line (refusal.BadNumber at) = numbered_line (codes "refused BadNumber at ") at
refusal_line (refusal.OpenComment at) = numbered_line (codes "refused OpenComment at ") at
refusal_line (refusal.Syntax at) = numbered_line (codes "refused Syntax at ") at
refusal_line (refusal.TooDeep at) = numbered_line (codes "refused TooDeep at ") at
refusal_line (refusal.Names failure) = numbered_line (fault_text failure.fault) failure.at
refusal_line (refusal.Kinds failure) = numbered_line (kind_text failure) (kind_place failure)
refusal_line refusal.Later = codes "refused Later\n"

-- the turns fit the program's domains, and the run isn't too heavy
pub record CanRun (p : LoweredProgram) (turns : Turns) : Type 0 where
  pub fit : FitDomains turns (domain_count_of p)
  pub weight : run_weight_of p turns ≤ most_run_weight

-- The text is that of the run of the turns of the bytes' program: the scheduled run, which is legal, spends
-- the budgets and is at rest.
pub record IsTextOfRun (bytes : List ℕ) (turns : Turns) (text : List ℕ) : Type 0 where
  pub program : LoweredProgram
  pub source : IsSourceOf bytes program
  pub can : CanRun program turns
  pub run : RunState
  pub last : SystemState
  pub scheduled : IsScheduledRun (program_setup program no_inputs) run
      (turns_of_program program turns) last
  pub whole : IsWholeRun (program_setup program no_inputs) run (turns_of_program program turns)
  pub is : text ≡ run_text program.tables run

-- the first check that fails refuses the bytes with this line
pub data IsRefusal (bytes text : List ℕ) : Type 0 where
  ForSize : most_source_bytes < length bytes → text ≡ size_line → IsRefusal bytes text
  ForReason : (reason : Refusal) → length bytes ≤ most_source_bytes → IsRefusedFor bytes reason →
      text ≡ refusal_line reason → IsRefusal bytes text

-- a turn is one of no domain of the bytes' program
pub record IsMisfit (bytes : List ℕ) (turns : Turns) : Type 0 where
  pub program : LoweredProgram
  pub source : IsSourceOf bytes program
  pub stray : FitDomains turns (domain_count_of program) → ⊥

-- the turns fit, and their run has this weight, which is above the limit
pub record IsOverweight (bytes : List ℕ) (turns : Turns) (weight : ℕ) : Type 0 where
  pub program : LoweredProgram
  pub source : IsSourceOf bytes program
  pub fit : FitDomains turns (domain_count_of program)
  pub is : weight ≡ run_weight_of program turns
  pub above : most_run_weight < weight

-- the words order a file, of whose bytes this holds where they are told
pub record OrdersSuch (words : List (List ℕ)) (told : List ℕ → Option (List ℕ)) (P : List ℕ →
    Turns → Type 0) : Type 0 where
  pub file : List ℕ
  pub turns : Turns
  pub command : IsOrder words file turns
  pub holds : IfSome (told file) (λ bytes. P bytes turns)

-- the answers but for a fault of the sink
pub data CommandOutcome : Type 0 where
  Done : CommandOutcome
  Refused : CommandOutcome
  NoCommand : CommandOutcome
  Misfit : CommandOutcome
  ReadFault : CommandOutcome
  NoMemory : CommandOutcome
  Overweight : (weight : ℕ) → CommandOutcome

-- the text of each answer to the order of a file, and when it may come, where its bytes are told
abbrev pub IsOrderAnswer : Option (List ℕ) → Turns → CommandOutcome → List ℕ → Type 0
IsOrderAnswer told turns Done text = IfSome told (λ bytes. IsTextOfRun bytes turns text)
IsOrderAnswer told turns Refused text = IfSome told (λ bytes. IsRefusal bytes text)
IsOrderAnswer told turns NoCommand text = ⊥
IsOrderAnswer told turns Misfit text =
    IfSome told (λ bytes. IsMisfit bytes turns) × (text ≡ misfit_line)
IsOrderAnswer told turns ReadFault text = text ≡ codes "read fault\n"
IsOrderAnswer told turns NoMemory text = text ≡ codes "no memory\n"
IsOrderAnswer told turns (Overweight weight) text =
    IfSome told (λ bytes. IsOverweight bytes turns weight) × (text ≡ overweight_line weight)

-- the text of each answer to the words
pub data IsAnswer (words : List (List ℕ)) (told : List ℕ →
    Option (List ℕ)) (outcome : CommandOutcome) (text : List ℕ) : Type 0 where
  ToNoCommand : IsNoCommand words → outcome ≡ NoCommand → text ≡ usage_line →
      IsAnswer words told outcome text
  ToOrder : (file : List ℕ) (turns : Turns) → IsOrder words file turns →
      IsOrderAnswer (told file) turns outcome text → IsAnswer words told outcome text
