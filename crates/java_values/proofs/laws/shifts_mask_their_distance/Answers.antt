use Rattle.std.proofs.Common.{refl}
use Rattle.std.specs.Int.{int_wrap}
use Rattle.java_values.proofs.laws.shifts_mask_their_distance.Goals as goal

pub returns-clause-minus_one : goal.returns-clause-minus_one
unfolding int_wrap
returns-clause-minus_one c = refl

pub returns-clause-unsigned_by_zero : goal.returns-clause-unsigned_by_zero
unfolding int_wrap
returns-clause-unsigned_by_zero c = refl
