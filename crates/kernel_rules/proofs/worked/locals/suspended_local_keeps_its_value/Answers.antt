use Rattle.std.proofs.Common.{[], ◌∷◌, refl}
use Rattle.kernel_rules.proofs.SeenTicks.{shows, shows_first}
use Rattle.kernel_rules.specs.ShownTicks.{absent_with, present_with}
use Rattle.kernel_rules.proofs.worked.locals.suspended_local_keeps_its_value.Goals as goal

pub returns-clause-inside : goal.returns-clause-inside
returns-clause-inside c = shows_first _ _ _ _ _ _ (present_with 3 ∷ []) ((λ w. (tt, (refl, refl))), (λ w. (tt, (refl, refl)))) refl (shows_first _ _ _ _ _ _ (absent_with 3 ∷ []) ((λ w. (tt, (refl, refl))), (λ w. (tt, (refl, refl)))) refl (shows_first _ _ _ _ _ _ (absent_with 3 ∷ []) ((λ w. (tt, (refl, refl))), (λ w. (tt, (refl, refl)))) refl (shows _ _ _ _ _ refl)))

pub returns-clause-around : goal.returns-clause-around
returns-clause-around c = shows_first _ _ _ _ _ _ (present_with 3 ∷ []) ((λ w. (tt, (refl, refl))), (λ w. (tt, (refl, refl)))) refl (shows_first _ _ _ _ _ _ [] tt refl (shows_first _ _ _ _ _ _ (absent_with 3 ∷ []) ((λ w. (tt, (refl, refl))), (λ w. (tt, (refl, refl)))) refl (shows _ _ _ _ _ refl)))
