use Rattle.std.proofs.Common.{[], ◌∷◌, refl}
use Rattle.kernel_rules.proofs.SeenTicks.{shows, shows_first}
use Rattle.kernel_rules.specs.ShownTicks.{present}
use Rattle.kernel_rules.proofs.worked.locals.exit_leaves_local.Goals as goal

pub returns : goal.returns
returns c = shows_first _ _ _ _ _ _ (present ∷ []) ((λ w. (tt, (refl, refl))), (λ w. (tt, (refl, refl)))) refl (shows _ _ _ _ _ refl)
