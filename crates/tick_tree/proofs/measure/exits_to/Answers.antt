use Rattle.std.proofs.Common.{refl}
use Rattle.std.proofs.lemmas.Nat.Bits.{bit_at-zero}
use Rattle.tick_tree.proofs.WayLemmas.{ways-exit}
use Rattle.tick_tree.proofs.measure.exits_to.Goals as goal

pub returns : goal.returns
returns c = λ lt. record {
  at_start = ways-exit c.args.depth _ lt refl (c.bit_of.ensures lt);
  at_later = record { may_end = refl; may_exit = λ d. bit_at-zero d };
  goes_on = refl;
  weight_at_start = refl;
  weight_later = refl;
}
