use Rattle.std.proofs.Common.{refl}
use Rattle.std.specs.Int.{int_wrap}
use Rattle.java_values.proofs.laws.casts_keep_low_bits.Goals as goal

pub returns-clause-byte : goal.returns-clause-byte
unfolding int_wrap
returns-clause-byte c = refl

pub returns-clause-short : goal.returns-clause-short
unfolding int_wrap
returns-clause-short c = refl

pub returns-clause-int : goal.returns-clause-int
unfolding int_wrap
returns-clause-int c = refl
