use Rattle.tick_tree.proofs.PartWalks.{first-Suspend}
use Rattle.tick_tree.proofs.measure.suspended.Goals as goal

pub returns : goal.returns
returns c = λ armed t p is x. record {
  at_start = x.at_start;
  at_later = x.at_later;
  goes_on = x.goes_on;
  weight_at_start = first-Suspend armed t p c.args.body x;
  weight_later = c.tested.ensures.suspension armed t p is x;
}
