use Rattle.std.specs.Int.{w64}
use Rattle.java_values.proofs.WrappingLemmas.{shift_wraps}
use Rattle.java_values.proofs.whole.long_left.Goals as goal

pub returns : goal.returns
returns c = shift_wraps w64 c.args.m c.args.by c.ranges.m
