use Rattle.std.proofs.Common.{[], ◌∷◌, refl}
use Rattle.kernel_rules.proofs.SeenTicks.{shows, shows_first}
use Rattle.kernel_rules.specs.ShownTicks.{absent, present}
use Rattle.kernel_rules.proofs.worked.locals.local_is_present_where_emitted.Goals as goal

pub returns-clause-emitted_first : goal.returns-clause-emitted_first
returns-clause-emitted_first c = shows_first _ _ _ _ _ _ (present ∷ []) ((λ w. (tt, (refl, refl))), (λ w. (tt, (refl, refl)))) refl (shows _ _ _ _ _ refl)

pub returns-clause-asked_first : goal.returns-clause-asked_first
returns-clause-asked_first c = shows_first _ _ _ _ _ _ (present ∷ []) ((λ w. (tt, (refl, refl))), (λ w. (tt, (refl, refl)))) refl (shows _ _ _ _ _ refl)

pub returns-clause-later : goal.returns-clause-later
returns-clause-later c = shows_first _ _ _ _ _ _ (absent ∷ []) ((λ w. (tt, (refl, refl))), (λ w. (tt, (refl, refl)))) refl (shows_first _ _ _ _ _ _ (present ∷ []) ((λ w. (tt, (refl, refl))), (λ w. (tt, (refl, refl)))) refl (shows _ _ _ _ _ refl))
