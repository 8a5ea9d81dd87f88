use Rattle.std.proofs.Common.{refl}
use Rattle.kernel_rules.proofs.SeenTicks.{shows}
use Rattle.kernel_rules.proofs.worked.variables.pausing_body_hands_on_variables.Goals as goal

pub returns-clause-sequence : goal.returns-clause-sequence
returns-clause-sequence c = shows _ _ _ _ _ refl

pub returns-clause-trap : goal.returns-clause-trap
returns-clause-trap c = shows _ _ _ _ _ refl

pub returns-clause-suspension : goal.returns-clause-suspension
returns-clause-suspension c = shows _ _ _ _ _ refl

pub returns-clause-strong : goal.returns-clause-strong
returns-clause-strong c = shows _ _ _ _ _ refl

pub returns-clause-weak : goal.returns-clause-weak
returns-clause-weak c = shows _ _ _ _ _ refl

pub returns-clause-first_choice : goal.returns-clause-first_choice
returns-clause-first_choice c = shows _ _ _ _ _ refl

pub returns-clause-second_choice : goal.returns-clause-second_choice
returns-clause-second_choice c = shows _ _ _ _ _ refl

pub returns-clause-present : goal.returns-clause-present
returns-clause-present c = shows _ _ _ _ _ refl

pub returns-clause-absent : goal.returns-clause-absent
returns-clause-absent c = shows _ _ _ _ _ refl
