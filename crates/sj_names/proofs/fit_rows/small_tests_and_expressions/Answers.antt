use Rattle.std.proofs.Common.{refl}
use Rattle.sj_names.proofs.FitRowLemmas.{variable_read}
use Rattle.sj_names.proofs.fit_rows.small_tests_and_expressions.Goals as goal

pub returns-clause-negated : goal.returns-clause-negated
returns-clause-negated c = refl

pub returns-clause-test_in_parentheses : goal.returns-clause-test_in_parentheses
returns-clause-test_in_parentheses c = refl

pub returns-clause-left_of_both : goal.returns-clause-left_of_both
returns-clause-left_of_both c = refl

pub returns-clause-right_of_both : goal.returns-clause-right_of_both
returns-clause-right_of_both c = refl

pub returns-clause-left_of_either : goal.returns-clause-left_of_either
returns-clause-left_of_either c = refl

pub returns-clause-right_of_either : goal.returns-clause-right_of_either
returns-clause-right_of_either c = refl

pub returns-clause-operand : goal.returns-clause-operand
returns-clause-operand c = refl

pub returns-clause-converted : goal.returns-clause-converted
returns-clause-converted c = refl

pub returns-clause-in_parentheses : goal.returns-clause-in_parentheses
returns-clause-in_parentheses c = refl

pub returns-clause-left_operand : goal.returns-clause-left_operand
returns-clause-left_operand c = refl

pub returns-clause-right_operand : goal.returns-clause-right_operand
returns-clause-right_operand c = refl

pub returns-clause-given : goal.returns-clause-given
returns-clause-given c = variable_read 0 0

pub returns-clause-given_elsewhere : goal.returns-clause-given_elsewhere
returns-clause-given_elsewhere c = variable_read 1 0

pub returns-clause-emitted : goal.returns-clause-emitted
returns-clause-emitted c = variable_read 0 0

pub returns-clause-emitted_elsewhere : goal.returns-clause-emitted_elsewhere
returns-clause-emitted_elsewhere c = variable_read 1 0
