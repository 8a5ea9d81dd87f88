use Rattle.std.proofs.Common.{[], ◌∷◌, refl}
use Rattle.std.specs.Int.{int_wrap}
use Rattle.kernel_rules.proofs.SeenTicks.{shows, shows_first}
use Rattle.kernel_rules.specs.ShownTicks.{present_with}
use Rattle.kernel_rules.proofs.worked.locals.local_combines_emissions.Goals as goal

pub returns-clause-sum : goal.returns-clause-sum
unfolding int_wrap
returns-clause-sum c = shows_first _ _ _ _ _ _ (present_with 3 ∷ []) ((λ w. (tt, (refl, refl))), (λ w. (tt, (refl, refl)))) refl (shows _ _ _ _ _ refl)

pub returns-clause-greatest : goal.returns-clause-greatest
unfolding int_wrap
returns-clause-greatest c = shows_first _ _ _ _ _ _ (present_with 3 ∷ []) ((λ w. (tt, (refl, refl))), (λ w. (tt, (refl, refl)))) refl (shows _ _ _ _ _ refl)
