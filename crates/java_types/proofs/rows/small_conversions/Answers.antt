use Rattle.std.proofs.Common.{refl}
use Rattle.java_types.proofs.rows.small_conversions.Goals as goal

pub returns-clause-same : goal.returns-clause-same
returns-clause-same c = refl

pub returns-clause-wider : goal.returns-clause-wider
returns-clause-wider c = refl

pub returns-clause-narrower : goal.returns-clause-narrower
returns-clause-narrower c = refl

pub returns-clause-char_to_short : goal.returns-clause-char_to_short
returns-clause-char_to_short c = refl

pub returns-clause-greatest_byte : goal.returns-clause-greatest_byte
returns-clause-greatest_byte c = refl

pub returns-clause-too_great : goal.returns-clause-too_great
returns-clause-too_great c = refl

pub returns-clause-least_byte : goal.returns-clause-least_byte
returns-clause-least_byte c = refl

pub returns-clause-too_small : goal.returns-clause-too_small
returns-clause-too_small c = refl

pub returns-clause-two_minuses : goal.returns-clause-two_minuses
returns-clause-two_minuses c = refl

pub returns-clause-plus : goal.returns-clause-plus
returns-clause-plus c = refl

pub returns-clause-in_parentheses : goal.returns-clause-in_parentheses
returns-clause-in_parentheses c = refl

pub returns-clause-long_literal : goal.returns-clause-long_literal
returns-clause-long_literal c = refl

pub returns-clause-char_literal : goal.returns-clause-char_literal
returns-clause-char_literal c = refl

pub returns-clause-number_for_boolean : goal.returns-clause-number_for_boolean
returns-clause-number_for_boolean c = refl

pub returns-clause-condition : goal.returns-clause-condition
returns-clause-condition c = refl

pub returns-clause-number_as_condition : goal.returns-clause-number_as_condition
returns-clause-number_as_condition c = refl
