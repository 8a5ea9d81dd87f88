use Rattle.sj_accept.proofs.SmallPrograms.{empty_is_source, blink_is_source, loop_is_source, rendezvous_is_source}
use Rattle.sj_accept.proofs.rows.small_sources.Goals as goal

pub returns-clause-empty : goal.returns-clause-empty
returns-clause-empty c = empty_is_source

pub returns-clause-blink : goal.returns-clause-blink
returns-clause-blink c = blink_is_source

pub returns-clause-looping : goal.returns-clause-looping
returns-clause-looping c = loop_is_source

pub returns-clause-rendezvous : goal.returns-clause-rendezvous
returns-clause-rendezvous c = rendezvous_is_source
