use Rattle.std.proofs.Common.{refl}
use Rattle.kernel_rules.proofs.worked.registers.registers_stand_for_statement.Goals as goal

pub returns-clause-both : goal.returns-clause-both
returns-clause-both c = refl

pub returns-clause-sent : goal.returns-clause-sent
returns-clause-sent c = refl

pub returns-clause-first : goal.returns-clause-first
returns-clause-first c = refl

pub returns-clause-pauses : goal.returns-clause-pauses
returns-clause-pauses c = refl

pub returns-clause-waits : goal.returns-clause-waits
returns-clause-waits c = refl

pub returns-clause-received : goal.returns-clause-received
returns-clause-received c = refl

pub returns-clause-second : goal.returns-clause-second
returns-clause-second c = refl

pub returns-clause-pure : goal.returns-clause-pure
returns-clause-pure c = refl

pub returns-clause-pure_first : goal.returns-clause-pure_first
returns-clause-pure_first c = refl
