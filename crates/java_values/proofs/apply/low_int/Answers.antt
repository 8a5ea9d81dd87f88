use Rattle.std.proofs.Common.{rules}
use Rattle.std.specs.Int.{w32}
use Rattle.java_values.proofs.WrappingLemmas.{low_bits_wrap}
use Rattle.java_values.proofs.apply.low_int.Goals as goal

pub returns : goal.returns
returns c = let h = low_bits_wrap w32 c.args.n in search (rules, h, c.cast_signed.ensures, c.rem_euclid.ensures.value)
