use Rattle.std.proofs.Common.{[], ◌∷◌, refl}
use Rattle.kernel_rules.specs.ShownTicks.{absent, present}
use Rattle.kernel_rules.specs.Worked.Locals.{local_tables, relies_on_itself}
use Rattle.kernel_rules.proofs.TickTrials.{trial_ticks}
use Rattle.kernel_rules.proofs.worked.locals.local_coherence_decides.Goals as goal

pub returns-clause-absent : goal.returns-clause-absent
returns-clause-absent c = λ last env x. trial_ticks local_tables last relies_on_itself env x (absent ∷ []) refl

pub returns-clause-present : goal.returns-clause-present
returns-clause-present c = λ last env x. trial_ticks local_tables last relies_on_itself env x (present ∷ []) refl
