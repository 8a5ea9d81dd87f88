use Rattle.std.proofs.Common.{◌≡◌}
use Rattle.sj_main.specs.definitions.Commands.{rounds_of}
use Rattle.sj_main.proofs.turns.list_rounds.Given as goal

abbrev pub invariant-loop-round : goal.invariant-loop-round
invariant-loop-round l = l.list.items ≡ rounds_of l._round l.domains
