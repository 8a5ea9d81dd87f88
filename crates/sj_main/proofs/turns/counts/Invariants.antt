use Rattle.sj_main.proofs.Budgets.{Counts}
use Rattle.sj_main.proofs.turns.counts.Given as goal

abbrev pub invariant-loop-turn : goal.invariant-loop-turn
invariant-loop-turn l = Counts l.turns l.counts.items l.domains l.turn-index
