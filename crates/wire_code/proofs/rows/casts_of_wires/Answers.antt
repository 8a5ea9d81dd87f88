use Rattle.std.proofs.Common.{rules, refl}
use Rattle.std.specs.Int.{int_wrap}
use Rattle.wire_code.proofs.rows.casts_of_wires.Goals as goal

pub returns-clause-low_bits : goal.returns-clause-low_bits
unfolding int_wrap
returns-clause-low_bits c f = refl

pub returns-clause-second_kind : goal.returns-clause-second_kind
unfolding int_wrap
returns-clause-second_kind c f h = search rules
