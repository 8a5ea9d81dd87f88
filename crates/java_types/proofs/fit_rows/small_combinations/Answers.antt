use Rattle.std.proofs.Common.{refl}
use Rattle.java_types.proofs.fit_rows.small_combinations.Goals as goal

pub returns-clause-pure : goal.returns-clause-pure
returns-clause-pure c = refl

pub returns-clause-pure_with_a_sum : goal.returns-clause-pure_with_a_sum
returns-clause-pure_with_a_sum c = refl

pub returns-clause-pure_with_an_or : goal.returns-clause-pure_with_an_or
returns-clause-pure_with_an_or c = refl

pub returns-clause-boolean_and : goal.returns-clause-boolean_and
returns-clause-boolean_and c = refl

pub returns-clause-boolean_or : goal.returns-clause-boolean_or
returns-clause-boolean_or c = refl

pub returns-clause-boolean_xor : goal.returns-clause-boolean_xor
returns-clause-boolean_xor c = refl

pub returns-clause-boolean_sum : goal.returns-clause-boolean_sum
returns-clause-boolean_sum c = refl

pub returns-clause-boolean_max : goal.returns-clause-boolean_max
returns-clause-boolean_max c = refl

pub returns-clause-boolean_min : goal.returns-clause-boolean_min
returns-clause-boolean_min c = refl

pub returns-clause-byte_sum : goal.returns-clause-byte_sum
returns-clause-byte_sum c = refl

pub returns-clause-byte_or : goal.returns-clause-byte_or
returns-clause-byte_or c = refl

pub returns-clause-later_signal : goal.returns-clause-later_signal
returns-clause-later_signal c = refl
