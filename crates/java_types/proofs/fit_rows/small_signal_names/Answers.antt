use Rattle.std.proofs.Common.{refl, ap, sym}
use Rattle.java_types.proofs.SmallTreeLemmas.{apart, first_is, has_default, is_int, is_some_signal}
use Rattle.java_types.proofs.fit_rows.small_signal_names.Goals as goal

pub returns-clause-output : goal.returns-clause-output
returns-clause-output c = refl

pub returns-clause-output_as_another_kind : goal.returns-clause-output_as_another_kind
returns-clause-output_as_another_kind c = refl

pub returns-clause-output_of_another_domain : goal.returns-clause-output_of_another_domain
returns-clause-output_of_another_domain c = refl

pub returns-clause-pure : goal.returns-clause-pure
returns-clause-pure c = refl

pub returns-clause-no_such_signal : goal.returns-clause-no_such_signal
returns-clause-no_such_signal c = refl

pub returns-clause-local : goal.returns-clause-local
returns-clause-local c = refl

pub returns-clause-local_outside_of_its_body : goal.returns-clause-local_outside_of_its_body
returns-clause-local_outside_of_its_body c = refl

pub returns-clause-declared : goal.returns-clause-declared
returns-clause-declared c = refl

pub returns-clause-declared_boolean : goal.returns-clause-declared_boolean
returns-clause-declared_boolean c = refl

pub returns-clause-of_another_kind : goal.returns-clause-of_another_kind
returns-clause-of_another_kind c h = apart (ap (first_is is_int) h)

pub returns-clause-without_its_value : goal.returns-clause-without_its_value
returns-clause-without_its_value c h = apart (sym (ap (first_is is_int) h))

pub returns-clause-with_its_operator : goal.returns-clause-with_its_operator
returns-clause-with_its_operator c = refl

pub returns-clause-of_another_operator : goal.returns-clause-of_another_operator
returns-clause-of_another_operator c h = apart (ap (first_is has_default) h)

pub returns-clause-not_declared : goal.returns-clause-not_declared
returns-clause-not_declared c h = apart (ap (first_is is_some_signal) h)

pub returns-clause-not_in_the_tables : goal.returns-clause-not_in_the_tables
returns-clause-not_in_the_tables c h = apart (sym (ap (first_is is_some_signal) h))

pub returns-clause-in_order : goal.returns-clause-in_order
returns-clause-in_order c = refl

pub returns-clause-in_another_order : goal.returns-clause-in_another_order
returns-clause-in_another_order c h = apart (sym (ap (first_is is_int) h))
