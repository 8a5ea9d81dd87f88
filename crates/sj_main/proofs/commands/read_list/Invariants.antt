use Rattle.std.proofs.Common.{length}
use Rattle.sj_main.specs.CommandWords.{TurnsReach}
use Rattle.sj_main.proofs.commands.read_list.Given as goal

abbrev pub invariant-loop-domain : goal.invariant-loop-domain
invariant-loop-domain l = TurnsReach l.word l.turns.items l.left

abbrev pub decreases-loop-domain : goal.decreases-loop-domain
decreases-loop-domain l = length l.left
