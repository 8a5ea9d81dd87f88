use Rattle.std.proofs.Common.{refl}
use Rattle.kernel_rules.proofs.worked.readings.tests_look_at_presence.Goals as goal

pub returns-clause-present : goal.returns-clause-present
returns-clause-present c = refl

pub returns-clause-absent : goal.returns-clause-absent
returns-clause-absent c = refl

pub returns-clause-not_present : goal.returns-clause-not_present
returns-clause-not_present c = refl

pub returns-clause-not_absent : goal.returns-clause-not_absent
returns-clause-not_absent c = refl

pub returns-clause-both : goal.returns-clause-both
returns-clause-both c = refl

pub returns-clause-first_alone : goal.returns-clause-first_alone
returns-clause-first_alone c = refl

pub returns-clause-second_alone : goal.returns-clause-second_alone
returns-clause-second_alone c = refl

pub returns-clause-either_first : goal.returns-clause-either_first
returns-clause-either_first c = refl

pub returns-clause-either_second : goal.returns-clause-either_second
returns-clause-either_second c = refl

pub returns-clause-neither : goal.returns-clause-neither
returns-clause-neither c = refl

pub returns-clause-both_absent : goal.returns-clause-both_absent
returns-clause-both_absent c = refl

pub returns-clause-either_both : goal.returns-clause-either_both
returns-clause-either_both c = refl
