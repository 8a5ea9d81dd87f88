use Rattle.tick_log.proofs.StatusLemmas.{Appends}
use Rattle.tick_log.proofs.log.append.Given as goal

abbrev pub invariant-loop-i : goal.invariant-loop-i
invariant-loop-i l = Appends l.present l.values l.initial.statuses l.statuses l.i
