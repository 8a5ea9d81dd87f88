use Rattle.std.proofs.Common.{refl}
use Rattle.kernel_rules.proofs.SeenTicks.{shows}
use Rattle.kernel_rules.proofs.worked.codes.code_above_exits_stays.Goals as goal

pub returns-clause-trap : goal.returns-clause-trap
returns-clause-trap c = shows _ _ _ _ _ refl

pub returns-clause-first_above : goal.returns-clause-first_above
returns-clause-first_above c = shows _ _ _ _ _ refl

pub returns-clause-weak : goal.returns-clause-weak
returns-clause-weak c = shows _ _ _ _ _ refl

pub returns-clause-beside : goal.returns-clause-beside
returns-clause-beside c = shows _ _ _ _ _ refl

pub returns-clause-beside_pause : goal.returns-clause-beside_pause
returns-clause-beside_pause c = shows _ _ _ _ _ refl
