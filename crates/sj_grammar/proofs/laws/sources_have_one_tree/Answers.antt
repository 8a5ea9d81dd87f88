use Rattle.sj_grammar.proofs.TreeRowLemmas.{one_expression_tree, one_test_tree, one_block_tree, one_program_tree}
use Rattle.sj_grammar.proofs.laws.sources_have_one_tree.Goals as goal

pub returns-clause-expressions : goal.returns-clause-expressions
returns-clause-expressions c = one_expression_tree c.sources_have_one_reading.ensures.tokens

pub returns-clause-tests : goal.returns-clause-tests
returns-clause-tests c = one_test_tree c.sources_have_one_reading.ensures.tokens

pub returns-clause-blocks : goal.returns-clause-blocks
returns-clause-blocks c = one_block_tree c.sources_have_one_reading.ensures.tokens

pub returns-clause-programs : goal.returns-clause-programs
returns-clause-programs c = one_program_tree c.sources_have_one_reading.ensures.tokens
