use Rattle.std.proofs.Common.{drop}
use Rattle.signal_store.specs.definitions.Handed.{handed}
use Rattle.gals_core.specs.BetweenTurns.{IsBetweenTurns}
use Rattle.gals_core.proofs.turns.take_turns.Given as goal

abbrev pub invariant-loop-at : goal.invariant-loop-at
invariant-loop-at l = IsBetweenTurns l.system (handed l.inputs) l.turns (drop l.at l.turns) l.domains.items l.channels
