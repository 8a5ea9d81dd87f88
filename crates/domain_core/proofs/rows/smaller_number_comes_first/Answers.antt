use Rattle.std.proofs.Common.{arith, inl}
use Rattle.tick_log.specs.definitions.StampOrder.{at_one_stamp}
use Rattle.domain_core.proofs.lemmas.runs.OneOrder.{later_join, later_tick}
use Rattle.domain_core.proofs.rows.smaller_number_comes_first.Goals as goal

pub returns-clause-joins : goal.returns-clause-joins
returns-clause-joins c = λ r e. at_one_stamp e (inl (omega arith))

pub returns-clause-no_join : goal.returns-clause-no_join
returns-clause-no_join c = later_join

pub returns-clause-ticks : goal.returns-clause-ticks
returns-clause-ticks c = λ r e. at_one_stamp e (inl (omega arith))

pub returns-clause-no_tick : goal.returns-clause-no_tick
returns-clause-no_tick c = later_tick
