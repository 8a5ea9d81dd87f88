use Rattle.sj_grammar.proofs.SentenceReadings.{expression-begins, test-begins, program-begins}
use Rattle.sj_grammar.proofs.laws.prefixes_are_what_can_be_read.Goals as goal

pub returns-clause-expressions : goal.returns-clause-expressions
returns-clause-expressions c = expression-begins

pub returns-clause-tests : goal.returns-clause-tests
returns-clause-tests c = test-begins

pub returns-clause-programs : goal.returns-clause-programs
returns-clause-programs c = program-begins
