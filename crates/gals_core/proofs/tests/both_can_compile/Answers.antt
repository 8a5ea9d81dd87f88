use Rattle.gals_core.proofs.PairLemmas.{pairs_can_compile}
use Rattle.gals_core.proofs.tests.both_can_compile.Goals as goal

pub returns-clause-count : goal.returns-clause-count
returns-clause-count c = (pairs_can_compile c.args.system.now c.requires).count

pub returns-clause-sending : goal.returns-clause-sending
returns-clause-sending c = (pairs_can_compile c.args.system.now c.requires).sending

pub returns-clause-receiving : goal.returns-clause-receiving
returns-clause-receiving c = (pairs_can_compile c.args.system.now c.requires).receiving
