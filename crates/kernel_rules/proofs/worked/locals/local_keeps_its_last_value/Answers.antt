use Rattle.std.proofs.Common.{[], ◌∷◌, refl}
use Rattle.kernel_rules.proofs.SeenTicks.{shows, shows_first}
use Rattle.kernel_rules.specs.ShownTicks.{absent_with, present_with}
use Rattle.kernel_rules.proofs.worked.locals.local_keeps_its_last_value.Goals as goal

pub returns-clause-kept : goal.returns-clause-kept
returns-clause-kept c = shows_first _ _ _ _ _ _ (present_with 5 ∷ []) ((λ w. (tt, (refl, refl))), (λ w. (tt, (refl, refl)))) refl (shows_first _ _ _ _ _ _ (absent_with 5 ∷ []) ((λ w. (tt, (refl, refl))), (λ w. (tt, (refl, refl)))) refl (shows _ _ _ _ _ refl))

pub returns-clause-again : goal.returns-clause-again
returns-clause-again c = shows_first _ _ _ _ _ _ (present_with 5 ∷ []) ((λ w. (tt, (refl, refl))), (λ w. (tt, (refl, refl)))) refl (shows_first _ _ _ _ _ _ (present_with 3 ∷ []) ((λ w. (tt, (refl, refl))), (λ w. (tt, (refl, refl)))) refl (shows_first _ _ _ _ _ _ (absent_with 3 ∷ []) ((λ w. (tt, (refl, refl))), (λ w. (tt, (refl, refl)))) refl (shows _ _ _ _ _ refl)))
