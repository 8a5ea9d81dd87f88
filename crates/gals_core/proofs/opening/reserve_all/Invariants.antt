use Rattle.gals_core.specs.Opening.{Reserves}
use Rattle.gals_core.proofs.opening.reserve_all.Given as goal

abbrev pub invariant-loop-at : goal.invariant-loop-at
invariant-loop-at l = Reserves l.ticks l.at l.initial.domains.items l.domains.items
