use Rattle.std.specs.Int.{w32}
use Rattle.java_values.proofs.WrappingLemmas.{shift_wraps}
use Rattle.java_values.proofs.whole.int_left.Goals as goal

pub returns : goal.returns
returns c = shift_wraps w32 c.args.m c.args.by c.ranges.m
