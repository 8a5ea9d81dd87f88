use Rattle.std.proofs.Common.{length}
use Rattle.sj_main.specs.CommandWords.{CountedTo}
use Rattle.sj_main.proofs.commands.is_list.Given as goal

abbrev pub invariant-loop-domain : goal.invariant-loop-domain
invariant-loop-domain l = CountedTo l.word l.left l.counts

abbrev pub decreases-loop-domain : goal.decreases-loop-domain
decreases-loop-domain l = length l.left
