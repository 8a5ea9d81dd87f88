use Rattle.sj_accept.proofs.RowLemmas.{deep_level, deep_operator}
use Rattle.sj_accept.proofs.rows.deep_sources.Goals as goal

pub returns-clause-level : goal.returns-clause-level
returns-clause-level c = deep_level c.prefixes_are_what_can_be_read.ensures.programs c.walks_tell_the_first_bad_token.ensures

pub returns-clause-operator : goal.returns-clause-operator
returns-clause-operator c = deep_operator c.prefixes_are_what_can_be_read.ensures.programs c.walks_tell_the_first_bad_token.ensures
