use Rattle.std.proofs.Common.{refl}
use Rattle.kernel_rules.proofs.SeenTicks.{shows}
use Rattle.kernel_rules.proofs.worked.variables.ended_branch_shares_a_variable.Goals as goal

pub returns-clause-before_pause : goal.returns-clause-before_pause
returns-clause-before_pause c = shows _ _ _ _ _ refl

pub returns-clause-beside_pause : goal.returns-clause-beside_pause
returns-clause-beside_pause c = shows _ _ _ _ _ refl

pub returns-clause-before_exit : goal.returns-clause-before_exit
returns-clause-before_exit c = shows _ _ _ _ _ refl

pub returns-clause-beside_exit : goal.returns-clause-beside_exit
returns-clause-beside_exit c = shows _ _ _ _ _ refl

pub returns-clause-unassigned_before_pause : goal.returns-clause-unassigned_before_pause
returns-clause-unassigned_before_pause c = shows _ _ _ _ _ refl

pub returns-clause-unassigned_beside_pause : goal.returns-clause-unassigned_beside_pause
returns-clause-unassigned_beside_pause c = shows _ _ _ _ _ refl

pub returns-clause-unassigned_before_exit : goal.returns-clause-unassigned_before_exit
returns-clause-unassigned_before_exit c = shows _ _ _ _ _ refl

pub returns-clause-unassigned_beside_exit : goal.returns-clause-unassigned_beside_exit
returns-clause-unassigned_beside_exit c = shows _ _ _ _ _ refl

pub returns-clause-before_later : goal.returns-clause-before_later
returns-clause-before_later c = shows _ _ _ _ _ refl

pub returns-clause-beside_later : goal.returns-clause-beside_later
returns-clause-beside_later c = shows _ _ _ _ _ refl
