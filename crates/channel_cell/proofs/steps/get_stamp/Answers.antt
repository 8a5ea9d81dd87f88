use Rattle.std.proofs.Common.{arith, ap, ◌∙◌}
use Rattle.channel_cell.specs.Lanes.{stamp_lane}
use Rattle.channel_cell.proofs.OneSeatLemmas.{may_load, stamp_got}
use Rattle.channel_cell.proofs.steps.get_stamp.Goals as goal

pub load-requires : goal.load-requires
load-requires c = (c.requires.seated.sits, omega (arith, c.stamp_word-word.ensures.1, c.requires.seated.word), may_load c.requires.seated _ _ _ c.args.join c.requires.joins (c.stamp_word-word.ensures.0 ∙ ap (λ a. stamp_lane a c.args.join) c.other.ensures))

pub returns-clause-read : goal.returns-clause-read
returns-clause-read c = stamp_got c.requires.seated _ c.load.ensures.2.1
