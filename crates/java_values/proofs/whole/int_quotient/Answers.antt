use Rattle.std.proofs.Common.{arith, ◌<◌, ◌^◌}
use Rattle.std.specs.Int.{w32}
use Rattle.std.specs.Prelude.{unsigned_abs, int_div}
use Rattle.std.specs.Int.Signed.{nat_abs-le}
use Rattle.java_values.proofs.WrappingLemmas.{quotient_wraps, quotient_below}
use Rattle.java_values.proofs.whole.int_quotient.Goals as goal

pub returns : goal.returns
returns c =
    let own = nat_abs-le c.args.m c.ranges.m.sfits in
    let below = quotient_below c.args.m c.args.n in
    let small : unsigned_abs (int_div c.args.m c.args.n) < 2 ^ 32 = omega (arith, own, below) in
    quotient_wraps w32 c.args.m c.args.n c.wrapping_div.result c.ranges.m c.ranges.n (record { sfits = c.wrapping_div.type_inv }) small c.requires c.wrapping_div.ensures
