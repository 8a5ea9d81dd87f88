use Rattle.std.proofs.Common.{true, false, refl}
use Rattle.sj_grammar.specs.definitions.Machine.{expression, test}
use Rattle.sj_grammar.proofs.CountedLimits.{within-counted, deep-counted}
use Rattle.sj_grammar.proofs.laws.limits_are_counted.Goals as goal

pub returns-clause-expressions : goal.returns-clause-expressions
returns-clause-expressions c = λ d n run rest w. within-counted true expression d n run rest refl w

pub returns-clause-tests : goal.returns-clause-tests
returns-clause-tests c = λ d n run rest w. within-counted false test d n run rest refl w

pub returns-clause-over_in_expressions : goal.returns-clause-over_in_expressions
returns-clause-over_in_expressions c = λ d n run token after w. deep-counted true expression d n run token after refl w

pub returns-clause-over_in_tests : goal.returns-clause-over_in_tests
returns-clause-over_in_tests c = λ d n run token after w. deep-counted false test d n run token after refl w
