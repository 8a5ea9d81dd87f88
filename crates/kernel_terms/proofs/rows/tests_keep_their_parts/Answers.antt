use Rattle.kernel_terms.proofs.StatementLayers.{test-Both, test-Either, test-Not, test-Signal}
use Rattle.kernel_terms.proofs.rows.tests_keep_their_parts.Goals as goal

pub returns-clause-signal : goal.returns-clause-signal
returns-clause-signal c s = test-Signal s

pub returns-clause-not : goal.returns-clause-not
returns-clause-not c a = test-Not a

pub returns-clause-both : goal.returns-clause-both
returns-clause-both c a b = test-Both a b

pub returns-clause-either : goal.returns-clause-either
returns-clause-either c a b = test-Either a b
