use Rattle.std.proofs.Common.{◌≡◌, map, take}
use Rattle.gals_core.specs.Opening.{opened_history}
use Rattle.gals_core.proofs.opening.open_histories.Given as goal

abbrev pub invariant-loop-info : goal.invariant-loop-info
invariant-loop-info l = l.histories.items ≡ map (opened_history l.ticks) (take l.info-index l.infos)
