use Rattle.std.proofs.Common.{[], ◌∷◌, refl}
use Rattle.kernel_rules.proofs.SeenTicks.{shows, shows_first}
use Rattle.kernel_rules.specs.ShownTicks.{absent, present}
use Rattle.kernel_rules.proofs.worked.locals.locals_are_apart.Goals as goal

pub returns-clause-outer : goal.returns-clause-outer
returns-clause-outer c = shows_first _ _ _ _ _ _ (present ∷ present ∷ []) ((λ w. ((((λ w. (tt, (refl, refl))), (λ w. (tt, (refl, refl)))), tt), (refl, refl))), (λ w. ((((λ w. (tt, (refl, refl))), (λ w. (tt, (refl, refl)))), tt), (refl, refl)))) refl (shows _ _ _ _ _ refl)

pub returns-clause-inner : goal.returns-clause-inner
returns-clause-inner c = shows_first _ _ _ _ _ _ (present ∷ absent ∷ []) ((λ w. ((tt, ((λ w. (tt, (refl, refl))), (λ w. (tt, (refl, refl))))), (refl, refl))), (λ w. ((tt, ((λ w. (tt, (refl, refl))), (λ w. (tt, (refl, refl))))), (refl, refl)))) refl (shows _ _ _ _ _ refl)
