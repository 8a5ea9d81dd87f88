use Rattle.sj_grammar.proofs.OneExpression.{one-expression}
use Rattle.sj_grammar.proofs.OneTest.{one-test}
use Rattle.sj_grammar.proofs.OneProgram.{one-program}
use Rattle.sj_grammar.proofs.laws.sentences_have_one_tree.Goals as goal

pub returns-clause-expressions : goal.returns-clause-expressions
returns-clause-expressions c = one-expression

pub returns-clause-tests : goal.returns-clause-tests
returns-clause-tests c = one-test

pub returns-clause-programs : goal.returns-clause-programs
returns-clause-programs c = one-program
