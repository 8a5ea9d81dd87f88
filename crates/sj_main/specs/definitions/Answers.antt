-- What the program has done for its words when it answers.
use Rattle.std.specs.Prelude.{ℕ, List, Option}
use Rattle.sj_io.specs.definitions.Causes.{Rose}
use Rattle.sj_io.specs.definitions.Files.{CountsStay}
use Rattle.sj_io.specs.definitions.Sinks.{TakesMore, TakesPrefix}
use Rattle.sj_main.specs.declared.commands.Turns.{Turns}
use Rattle.sj_main.specs.definitions.Commands.{IsOrder, IsNoCommand}
use Rattle.sj_main.specs.definitions.Verdicts.{usage_line, misfit_line, IsTextOfRun, IsRefusal, IsMisfit, IsOverweight, OrdersSuch, CommandOutcome, Done, Refused, NoCommand, Misfit, ReadFault, NoMemory, Overweight, IsAnswer, overweight_line}

-- the sink took the text of the run
pub record PrintsRun (bytes : List ℕ) (turns : Turns) (old new : Option (List ℕ)) : Type 0 where
  pub text : List ℕ
  pub is : IsTextOfRun bytes turns text
  pub takes : TakesMore old new text

-- the sink took the line of the refusal
pub record PrintsRefusal (bytes : List ℕ) (old new : Option (List ℕ)) : Type 0 where
  pub text : List ℕ
  pub is : IsRefusal bytes text
  pub takes : TakesMore old new text

-- the words are no command, and the sink took the usage line
pub record PrintsUsage (words : List (List ℕ)) (old new : Option (List ℕ)) : Type 0 where
  pub none : IsNoCommand words
  pub takes : TakesMore old new usage_line

-- the words order turns of which one is of no domain, and the sink took the line that says so
pub record PrintsMisfit (words : List (List ℕ)) (told : List ℕ →
    Option (List ℕ)) (old new : Option (List ℕ)) : Type 0 where
  pub orders : OrdersSuch words told IsMisfit
  pub takes : TakesMore old new misfit_line

-- the words order such a run, and the sink took its line
pub record PrintsWeight (words : List (List ℕ)) (told : List ℕ →
    Option (List ℕ)) (old new : Option (List ℕ)) : Type 0 where
  pub weight : ℕ
  pub orders : OrdersSuch words told (λ bytes turns. IsOverweight bytes turns weight)
  pub takes : TakesMore old new (overweight_line weight)

-- the words order a file whose count of faults rose
pub record FailsToRead (words : List (List ℕ)) (faults faults' : List ℕ → ℕ) : Type 0 where
  pub file : List ℕ
  pub turns : Turns
  pub command : IsOrder words file turns
  pub rose : Rose (faults file) (faults' file)

-- what the counts of the files show at an outcome: a read fault has its cause, and at any other outcome
-- no count has moved
abbrev pub CountsShow : (cause : Type 0) → (faults faults' : List ℕ → ℕ) → CommandOutcome → Type 0
CountsShow cause faults faults' Done = CountsStay faults faults'
CountsShow cause faults faults' Refused = CountsStay faults faults'
CountsShow cause faults faults' NoCommand = CountsStay faults faults'
CountsShow cause faults faults' Misfit = CountsStay faults faults'
CountsShow cause faults faults' ReadFault = cause
CountsShow cause faults faults' NoMemory = CountsStay faults faults'
CountsShow cause faults faults' (Overweight weight) = CountsStay faults faults'

-- the sink took a prefix of the text that some answer to the words has, and the files' counts fit that answer
pub record BeginsAnswer (words : List (List ℕ)) (told : List ℕ →
    Option (List ℕ)) (faults faults' : List ℕ → ℕ) (old new : Option (List ℕ)) : Type 0 where
  pub outcome : CommandOutcome
  pub text : List ℕ
  pub is : IsAnswer words told outcome text
  pub counts : CountsShow (FailsToRead words faults faults') faults faults' outcome
  pub takes : TakesPrefix old new text
