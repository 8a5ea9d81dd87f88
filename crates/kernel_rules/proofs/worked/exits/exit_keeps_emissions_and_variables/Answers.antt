use Rattle.std.proofs.Common.{[], ◌∷◌, refl}
use Rattle.kernel_rules.proofs.SeenTicks.{shows, shows_first}
use Rattle.kernel_rules.specs.ShownTicks.{absent}
use Rattle.kernel_rules.proofs.worked.exits.exit_keeps_emissions_and_variables.Goals as goal

pub returns-clause-trap : goal.returns-clause-trap
returns-clause-trap c = shows _ _ _ _ _ refl

pub returns-clause-outer_trap : goal.returns-clause-outer_trap
returns-clause-outer_trap c = shows _ _ _ _ _ refl

pub returns-clause-sequence : goal.returns-clause-sequence
returns-clause-sequence c = shows _ _ _ _ _ refl

pub returns-clause-of_second : goal.returns-clause-of_second
returns-clause-of_second c = shows _ _ _ _ _ refl

pub returns-clause-loop_ : goal.returns-clause-loop_
returns-clause-loop_ c = shows _ _ _ _ _ refl

pub returns-clause-suspend : goal.returns-clause-suspend
returns-clause-suspend c = shows _ _ _ _ _ refl

pub returns-clause-strong : goal.returns-clause-strong
returns-clause-strong c = shows _ _ _ _ _ refl

pub returns-clause-weak : goal.returns-clause-weak
returns-clause-weak c = shows _ _ _ _ _ refl

pub returns-clause-weak_aborted : goal.returns-clause-weak_aborted
returns-clause-weak_aborted c = shows _ _ _ _ _ refl

pub returns-clause-first_branch : goal.returns-clause-first_branch
returns-clause-first_branch c = shows _ _ _ _ _ refl

pub returns-clause-second_branch : goal.returns-clause-second_branch
returns-clause-second_branch c = shows _ _ _ _ _ refl

pub returns-clause-local : goal.returns-clause-local
returns-clause-local c = shows_first _ _ _ _ _ _ (absent ∷ []) (((λ w. (tt, (refl, refl))), (λ w. (tt, (refl, refl)))), tt) refl (shows _ _ _ _ _ refl)
