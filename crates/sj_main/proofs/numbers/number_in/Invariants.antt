use Rattle.std.proofs.Common.{◌≡◌, ◌≤◌, length}
use Rattle.sj_main.specs.definitions.Commands.{number_from}
use Rattle.sj_main.proofs.numbers.number_in.Given as goal

abbrev pub invariant-loop-rest : goal.invariant-loop-rest
invariant-loop-rest l = (number_from l.limit l.number l.rest ≡ number_from l.limit 0 l.digits) × (l.number ≤ l.limit)

abbrev pub decreases-loop-rest : goal.decreases-loop-rest
decreases-loop-rest l = length l.rest
