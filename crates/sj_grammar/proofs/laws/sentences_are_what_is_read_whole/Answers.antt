use Rattle.sj_grammar.proofs.SentenceReadings.{expression-whole, test-whole, program-whole}
use Rattle.sj_grammar.proofs.laws.sentences_are_what_is_read_whole.Goals as goal

pub returns-clause-expressions : goal.returns-clause-expressions
returns-clause-expressions c = expression-whole

pub returns-clause-tests : goal.returns-clause-tests
returns-clause-tests c = test-whole

pub returns-clause-programs : goal.returns-clause-programs
returns-clause-programs c = program-whole
