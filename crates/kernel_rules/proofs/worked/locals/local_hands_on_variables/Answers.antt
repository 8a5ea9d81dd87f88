use Rattle.std.proofs.Common.{[], ◌∷◌, refl}
use Rattle.std.specs.Int.{int_wrap}
use Rattle.kernel_rules.proofs.SeenTicks.{shows, shows_first}
use Rattle.kernel_rules.specs.ShownTicks.{absent}
use Rattle.kernel_rules.proofs.worked.locals.local_hands_on_variables.Goals as goal

pub returns-clause-at_once : goal.returns-clause-at_once
returns-clause-at_once c = shows_first _ _ _ _ _ _ (absent ∷ []) (((λ w. (tt, (refl, refl))), (λ w. (tt, (refl, refl)))), tt) refl (shows _ _ _ _ _ refl)

pub returns-clause-later : goal.returns-clause-later
unfolding int_wrap
returns-clause-later c = shows_first _ _ _ _ _ _ (absent ∷ []) (((λ w. (tt, (refl, refl))), (λ w. (tt, (refl, refl)))), tt) refl (shows_first _ _ _ _ _ _ (absent ∷ []) (((λ w. (tt, (refl, refl))), (λ w. (tt, (refl, refl)))), tt) refl (shows _ _ _ _ _ refl))
