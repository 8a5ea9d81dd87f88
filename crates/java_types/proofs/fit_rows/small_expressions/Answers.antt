use Rattle.std.proofs.Common.{◌&&◌, true, pos, refl, ap}
use Rattle.java_values.specs.declared.kind.Kind.TheVariants as kind
use Rattle.java_types.proofs.SmallTreeLemmas.{gives_byte, gives_int, gives_quotient, gives_strange, gives_truth}
use Rattle.java_types.proofs.fit_rows.small_expressions.Goals as goal

pub returns-clause-first_value : goal.returns-clause-first_value
returns-clause-first_value c = gives_byte kind.Byte

pub returns-clause-first_value_of_another_kind : goal.returns-clause-first_value_of_another_kind
returns-clause-first_value_of_another_kind c = gives_int kind.Byte

pub returns-clause-first_value_by_zero : goal.returns-clause-first_value_by_zero
returns-clause-first_value_by_zero c = gives_quotient kind.Int (pos 0)

pub returns-clause-assigned : goal.returns-clause-assigned
returns-clause-assigned c = gives_byte kind.Byte

pub returns-clause-assigned_of_another_kind : goal.returns-clause-assigned_of_another_kind
returns-clause-assigned_of_another_kind c = gives_int kind.Byte

pub returns-clause-assigned_of_another_domain : goal.returns-clause-assigned_of_another_domain
returns-clause-assigned_of_another_domain c = gives_strange kind.Int

pub returns-clause-assigned_quotient : goal.returns-clause-assigned_quotient
returns-clause-assigned_quotient c = gives_quotient kind.Int (pos 2)

pub returns-clause-assigned_by_zero : goal.returns-clause-assigned_by_zero
returns-clause-assigned_by_zero c = gives_quotient kind.Int (pos 0)

pub returns-clause-updated : goal.returns-clause-updated
returns-clause-updated c = refl

pub returns-clause-pure : goal.returns-clause-pure
returns-clause-pure c = refl

pub returns-clause-value_of_a_pure : goal.returns-clause-value_of_a_pure
returns-clause-value_of_a_pure c = refl

pub returns-clause-emitted : goal.returns-clause-emitted
returns-clause-emitted c = gives_int kind.Int

pub returns-clause-emitted_of_another_kind : goal.returns-clause-emitted_of_another_kind
returns-clause-emitted_of_another_kind c = gives_byte kind.Int

pub returns-clause-emitted_of_another_domain : goal.returns-clause-emitted_of_another_domain
returns-clause-emitted_of_another_domain c = gives_strange kind.Int

pub returns-clause-emitted_by_zero : goal.returns-clause-emitted_by_zero
returns-clause-emitted_by_zero c = gives_quotient kind.Int (pos 0)

pub returns-clause-no_value : goal.returns-clause-no_value
returns-clause-no_value c = refl

pub returns-clause-sustained : goal.returns-clause-sustained
returns-clause-sustained c = gives_truth kind.Boolean

pub returns-clause-sustained_of_another_kind : goal.returns-clause-sustained_of_another_kind
returns-clause-sustained_of_another_kind c = gives_int kind.Boolean

pub returns-clause-sustained_by_zero : goal.returns-clause-sustained_by_zero
returns-clause-sustained_by_zero c = gives_quotient kind.Int (pos 0)

pub returns-clause-condition : goal.returns-clause-condition
returns-clause-condition c = ap (λ b. b && true) (gives_truth kind.Boolean)

pub returns-clause-number_as_a_condition : goal.returns-clause-number_as_a_condition
returns-clause-number_as_a_condition c = ap (λ b. b && true) (gives_int kind.Boolean)

pub returns-clause-sent : goal.returns-clause-sent
returns-clause-sent c = gives_byte kind.Byte

pub returns-clause-sent_of_another_kind : goal.returns-clause-sent_of_another_kind
returns-clause-sent_of_another_kind c = gives_int kind.Byte
