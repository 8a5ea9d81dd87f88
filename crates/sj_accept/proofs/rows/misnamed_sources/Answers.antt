use Rattle.sj_accept.proofs.UnacceptedSources.{one_name_twice, no_such_signal}
use Rattle.sj_accept.proofs.rows.misnamed_sources.Goals as goal

pub returns-clause-no_such_signal : goal.returns-clause-no_such_signal
returns-clause-no_such_signal c = no_such_signal c.walks_tell_the_first_bad_token.ensures

pub returns-clause-one_name_twice : goal.returns-clause-one_name_twice
returns-clause-one_name_twice c = one_name_twice c.walks_tell_the_first_bad_token.ensures
