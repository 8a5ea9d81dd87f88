use Rattle.std.proofs.Common.{[], ◌∷◌, refl}
use Rattle.kernel_rules.proofs.SeenTicks.{shows, shows_first}
use Rattle.kernel_rules.specs.ShownTicks.{absent}
use Rattle.kernel_rules.proofs.worked.exits.later_code_above_exits_passes_through.Goals as goal

pub returns-clause-sequence : goal.returns-clause-sequence
returns-clause-sequence c = shows _ _ _ _ _ refl

pub returns-clause-loop_ : goal.returns-clause-loop_
returns-clause-loop_ c = shows _ _ _ _ _ refl

pub returns-clause-trap : goal.returns-clause-trap
returns-clause-trap c = shows _ _ _ _ _ refl

pub returns-clause-beside : goal.returns-clause-beside
returns-clause-beside c = shows _ _ _ _ _ refl

pub returns-clause-suspend : goal.returns-clause-suspend
returns-clause-suspend c = shows _ _ _ _ _ refl

pub returns-clause-strong : goal.returns-clause-strong
returns-clause-strong c = shows _ _ _ _ _ refl

pub returns-clause-weak : goal.returns-clause-weak
returns-clause-weak c = shows _ _ _ _ _ refl

pub returns-clause-local : goal.returns-clause-local
returns-clause-local c = shows_first _ _ _ _ _ _ (absent ∷ []) ((λ w. (tt, (refl, refl))), (λ w. (tt, (refl, refl)))) refl (shows_first _ _ _ _ _ _ (absent ∷ []) ((λ w. (tt, (refl, refl))), (λ w. (tt, (refl, refl)))) refl (shows _ _ _ _ _ refl))
