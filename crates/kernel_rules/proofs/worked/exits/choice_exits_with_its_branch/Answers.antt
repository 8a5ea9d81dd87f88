use Rattle.std.proofs.Common.{refl}
use Rattle.kernel_rules.proofs.SeenTicks.{shows}
use Rattle.kernel_rules.proofs.worked.exits.choice_exits_with_its_branch.Goals as goal

pub returns-clause-first : goal.returns-clause-first
returns-clause-first c = shows _ _ _ _ _ refl

pub returns-clause-second : goal.returns-clause-second
returns-clause-second c = shows _ _ _ _ _ refl

pub returns-clause-first_later : goal.returns-clause-first_later
returns-clause-first_later c = shows _ _ _ _ _ refl

pub returns-clause-second_later : goal.returns-clause-second_later
returns-clause-second_later c = shows _ _ _ _ _ refl

pub returns-clause-present : goal.returns-clause-present
returns-clause-present c = shows _ _ _ _ _ refl

pub returns-clause-absent : goal.returns-clause-absent
returns-clause-absent c = shows _ _ _ _ _ refl

pub returns-clause-present_later : goal.returns-clause-present_later
returns-clause-present_later c = shows _ _ _ _ _ refl

pub returns-clause-absent_later : goal.returns-clause-absent_later
returns-clause-absent_later c = shows _ _ _ _ _ refl

pub returns-clause-assigned : goal.returns-clause-assigned
returns-clause-assigned c = shows _ _ _ _ _ refl

pub returns-clause-assigned_second : goal.returns-clause-assigned_second
returns-clause-assigned_second c = shows _ _ _ _ _ refl

pub returns-clause-assigned_present : goal.returns-clause-assigned_present
returns-clause-assigned_present c = shows _ _ _ _ _ refl

pub returns-clause-assigned_absent : goal.returns-clause-assigned_absent
returns-clause-assigned_absent c = shows _ _ _ _ _ refl
