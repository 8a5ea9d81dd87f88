use Rattle.std.proofs.Common.{rules}
use Rattle.std.specs.Int.{w32}
use Rattle.java_values.proofs.WrappingLemmas.{zeros_wrap}
use Rattle.java_values.proofs.whole.int_zeros.Goals as goal

pub returns : goal.returns
returns c = let h = zeros_wrap w32 c.args.m c.args.by c.ranges.m in search (rules, h, c.cast_signed.ensures, c.cast_unsigned.ensures)
