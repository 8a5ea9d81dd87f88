use Rattle.sj_grammar.proofs.TreeRowLemmas.{operands_made, groupings_made, tests_made, plain_statements_made, kinds_made, combinations_made, updates_made, blocks_made, branches_made, programs_made}
use Rattle.sj_grammar.proofs.rows.small_trees.Goals as goal

pub returns-clause-operands : goal.returns-clause-operands
returns-clause-operands c = operands_made

pub returns-clause-groupings : goal.returns-clause-groupings
returns-clause-groupings c = groupings_made

pub returns-clause-tests : goal.returns-clause-tests
returns-clause-tests c = tests_made

pub returns-clause-plain_statements : goal.returns-clause-plain_statements
returns-clause-plain_statements c = plain_statements_made

pub returns-clause-kinds : goal.returns-clause-kinds
returns-clause-kinds c = kinds_made

pub returns-clause-combinations : goal.returns-clause-combinations
returns-clause-combinations c = combinations_made

pub returns-clause-updates : goal.returns-clause-updates
returns-clause-updates c = updates_made

pub returns-clause-blocks : goal.returns-clause-blocks
returns-clause-blocks c = blocks_made

pub returns-clause-branches : goal.returns-clause-branches
returns-clause-branches c = branches_made

pub returns-clause-programs : goal.returns-clause-programs
returns-clause-programs c = programs_made
