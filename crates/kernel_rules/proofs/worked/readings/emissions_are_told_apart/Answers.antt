use Rattle.std.proofs.Common.{refl}
use Rattle.kernel_rules.proofs.worked.readings.emissions_are_told_apart.Goals as goal

pub returns-clause-emitted : goal.returns-clause-emitted
returns-clause-emitted c = refl

pub returns-clause-not_emitted : goal.returns-clause-not_emitted
returns-clause-not_emitted c = refl

pub returns-clause-values : goal.returns-clause-values
returns-clause-values c = refl

pub returns-clause-no_values : goal.returns-clause-no_values
returns-clause-no_values c = refl

pub returns-clause-others : goal.returns-clause-others
returns-clause-others c = refl
