use Rattle.sj_accept.proofs.UnacceptedSources.{an_input, a_halt, endless_tick}
use Rattle.sj_accept.proofs.rows.unaccepted_sources.Goals as goal

pub returns-clause-an_input : goal.returns-clause-an_input
returns-clause-an_input c = an_input c.walks_tell_the_first_bad_token.ensures c.sources_are_one_tree.ensures

pub returns-clause-a_halt : goal.returns-clause-a_halt
returns-clause-a_halt c = a_halt c.walks_tell_the_first_bad_token.ensures c.sources_are_one_tree.ensures

pub returns-clause-endless_tick : goal.returns-clause-endless_tick
returns-clause-endless_tick c = endless_tick c.walks_tell_the_first_bad_token.ensures c.sources_are_one_tree.ensures
