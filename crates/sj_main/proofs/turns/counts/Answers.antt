use Rattle.std.proofs.Common.{arith}
use Rattle.sj_main.proofs.Budgets.{counts_end}
use Rattle.sj_main.proofs.turns.counts.Goals as goal

pub returns : goal.returns
returns c = counts_end c.args.turns.now c.loop-turn.counts.items c.args.domains c.loop-turn.turn-index (omega arith) c.loop-turn.invariant
