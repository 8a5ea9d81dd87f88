use Rattle.std.proofs.Common.{rules}
use Rattle.std.specs.Int.{w64}
use Rattle.java_values.proofs.WrappingLemmas.{zeros_wrap}
use Rattle.java_values.proofs.whole.long_zeros.Goals as goal

pub returns : goal.returns
returns c = let h = zeros_wrap w64 c.args.m c.args.by c.ranges.m in search (rules, h, c.cast_signed.ensures, c.cast_unsigned.ensures)
