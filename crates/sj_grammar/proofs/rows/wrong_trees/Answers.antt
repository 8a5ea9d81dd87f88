use Rattle.sj_grammar.proofs.TreeRowLemmas.{wrong_expressions_unmade, wrong_tests_unmade, wrong_blocks_unmade, wrong_programs_unmade}
use Rattle.sj_grammar.proofs.rows.wrong_trees.Goals as goal

pub returns-clause-expressions : goal.returns-clause-expressions
returns-clause-expressions c = wrong_expressions_unmade c.sources_have_one_reading.ensures.tokens

pub returns-clause-tests : goal.returns-clause-tests
returns-clause-tests c = wrong_tests_unmade c.sources_have_one_reading.ensures.tokens

pub returns-clause-blocks : goal.returns-clause-blocks
returns-clause-blocks c = wrong_blocks_unmade c.sources_have_one_reading.ensures.tokens

pub returns-clause-programs : goal.returns-clause-programs
returns-clause-programs c = wrong_programs_unmade c.sources_have_one_reading.ensures.tokens
