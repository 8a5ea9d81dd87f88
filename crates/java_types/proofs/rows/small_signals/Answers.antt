use Rattle.std.proofs.Common.{refl}
use Rattle.java_types.proofs.rows.small_signals.Goals as goal

pub returns-clause-pure : goal.returns-clause-pure
returns-clause-pure c t = refl

pub returns-clause-no_value : goal.returns-clause-no_value
returns-clause-no_value c t = refl

pub returns-clause-value_of_a_pure : goal.returns-clause-value_of_a_pure
returns-clause-value_of_a_pure c t e = refl

pub returns-clause-boolean_sum : goal.returns-clause-boolean_sum
returns-clause-boolean_sum c = refl

pub returns-clause-boolean_max : goal.returns-clause-boolean_max
returns-clause-boolean_max c = refl

pub returns-clause-boolean_min : goal.returns-clause-boolean_min
returns-clause-boolean_min c = refl

pub returns-clause-boolean_or : goal.returns-clause-boolean_or
returns-clause-boolean_or c = refl

pub returns-clause-boolean_alone : goal.returns-clause-boolean_alone
returns-clause-boolean_alone c = refl

pub returns-clause-byte_sum : goal.returns-clause-byte_sum
returns-clause-byte_sum c = refl
