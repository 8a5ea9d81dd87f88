use Rattle.std.proofs.Common.{◌≡◌, length}
use Rattle.sj_lexer.specs.definitions.Numbers.{number_from}
use Rattle.sj_lexer.proofs.numbers.number_of.Given as goal

abbrev pub invariant-loop-rest : goal.invariant-loop-rest
invariant-loop-rest l = number_from l.base l.number l.rest ≡ number_from l.base 0 l.digits

abbrev pub decreases-loop-rest : goal.decreases-loop-rest
decreases-loop-rest l = length l.rest
