use Rattle.std.proofs.Common.{arith, ap, ◌∙◌}
use Rattle.channel_cell.specs.Lanes.{stamp_lane}
use Rattle.channel_cell.proofs.BothSeatsLemmas.{may_read, stamp_got}
use Rattle.channel_cell.proofs.joined.read_stamp.Goals as goal

pub load-requires : goal.load-requires
load-requires c = (c.requires.joined.sits, omega (arith, c.stamp_word-word.ensures.1, c.requires.joined.word), may_read c.requires.joined _ _ _)

pub returns-clause-read : goal.returns-clause-read
returns-clause-read c = stamp_got c.requires.joined c.args.side _ _ c.args.join c.requires.joins (c.stamp_word-word.ensures.0 ∙ ap (λ a. stamp_lane a c.args.join) c.other.ensures) c.load.ensures.2.1
