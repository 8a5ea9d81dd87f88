use Rattle.std.proofs.Common.{[], ◌∷◌, refl}
use Rattle.kernel_rules.specs.ShownTicks.{all_zero, none_present, absent}
use Rattle.kernel_rules.specs.Worked.Exits.{in_local, leaves}
use Rattle.kernel_rules.specs.Worked.Locals.{local_tables}
use Rattle.kernel_rules.proofs.TickTrials.{trial_ticks}
use Rattle.kernel_rules.proofs.OneTickLemmas.{sole}
use Rattle.kernel_rules.proofs.SeenTicks.{only_tick}
use Rattle.kernel_rules.proofs.worked.exits.every_exit_passes_as_it_is.Goals as goal

pub returns-clause-sequence : goal.returns-clause-sequence
returns-clause-sequence c = (only_tick _ _ _ _ _ refl refl, only_tick _ _ _ _ _ refl refl, only_tick _ _ _ _ _ refl refl)

pub returns-clause-of_second : goal.returns-clause-of_second
returns-clause-of_second c = (only_tick _ _ _ _ _ refl refl, only_tick _ _ _ _ _ refl refl, only_tick _ _ _ _ _ refl refl)

pub returns-clause-loop_ : goal.returns-clause-loop_
returns-clause-loop_ c = (only_tick _ _ _ _ _ refl refl, only_tick _ _ _ _ _ refl refl, only_tick _ _ _ _ _ refl refl)

pub returns-clause-suspend : goal.returns-clause-suspend
returns-clause-suspend c = (only_tick _ _ _ _ _ refl refl, only_tick _ _ _ _ _ refl refl, only_tick _ _ _ _ _ refl refl)

pub returns-clause-strong : goal.returns-clause-strong
returns-clause-strong c = (only_tick _ _ _ _ _ refl refl, only_tick _ _ _ _ _ refl refl, only_tick _ _ _ _ _ refl refl)

pub returns-clause-weak : goal.returns-clause-weak
returns-clause-weak c = (only_tick _ _ _ _ _ refl refl, only_tick _ _ _ _ _ refl refl, only_tick _ _ _ _ _ refl refl)

pub returns-clause-weak_aborted : goal.returns-clause-weak_aborted
returns-clause-weak_aborted c = (only_tick _ _ _ _ _ refl refl, only_tick _ _ _ _ _ refl refl, only_tick _ _ _ _ _ refl refl)

pub returns-clause-first_choice : goal.returns-clause-first_choice
returns-clause-first_choice c = (only_tick _ _ _ _ _ refl refl, only_tick _ _ _ _ _ refl refl, only_tick _ _ _ _ _ refl refl)

pub returns-clause-second_choice : goal.returns-clause-second_choice
returns-clause-second_choice c = (only_tick _ _ _ _ _ refl refl, only_tick _ _ _ _ _ refl refl, only_tick _ _ _ _ _ refl refl)

pub returns-clause-present : goal.returns-clause-present
returns-clause-present c = (only_tick _ _ _ _ _ refl refl, only_tick _ _ _ _ _ refl refl, only_tick _ _ _ _ _ refl refl)

pub returns-clause-absent : goal.returns-clause-absent
returns-clause-absent c = (only_tick _ _ _ _ _ refl refl, only_tick _ _ _ _ _ refl refl, only_tick _ _ _ _ _ refl refl)

pub returns-clause-local : goal.returns-clause-local
returns-clause-local c = (
  record {
    ticks = trial_ticks local_tables all_zero (in_local (leaves 0)) none_present all_zero (absent ∷ []) refl;
    alone = λ other h. sole local_tables all_zero (in_local (leaves 0)) none_present all_zero (absent ∷ []) other ((λ w. (tt, (refl, refl))), (λ w. (tt, (refl, refl)))) h;
  },
  record {
    ticks = trial_ticks local_tables all_zero (in_local (leaves 1)) none_present all_zero (absent ∷ []) refl;
    alone = λ other h. sole local_tables all_zero (in_local (leaves 1)) none_present all_zero (absent ∷ []) other ((λ w. (tt, (refl, refl))), (λ w. (tt, (refl, refl)))) h;
  },
  record {
    ticks = trial_ticks local_tables all_zero (in_local (leaves 998)) none_present all_zero (absent ∷ []) refl;
    alone = λ other h. sole local_tables all_zero (in_local (leaves 998)) none_present all_zero (absent ∷ []) other ((λ w. (tt, (refl, refl))), (λ w. (tt, (refl, refl)))) h;
  },
)

pub returns-clause-trap : goal.returns-clause-trap
returns-clause-trap c = only_tick _ _ _ _ _ refl refl
