use Rattle.std.proofs.Common.{refl}
use Rattle.kernel_rules.proofs.SeenTicks.{shows}
use Rattle.kernel_rules.proofs.worked.variables.if_takes_one_branch.Goals as goal

pub returns-clause-first : goal.returns-clause-first
returns-clause-first c = shows _ _ _ _ _ refl

pub returns-clause-second : goal.returns-clause-second
returns-clause-second c = shows _ _ _ _ _ refl

pub returns-clause-first_stays : goal.returns-clause-first_stays
returns-clause-first_stays c = shows _ _ _ _ _ refl

pub returns-clause-second_stays : goal.returns-clause-second_stays
returns-clause-second_stays c = shows _ _ _ _ _ refl

pub returns-clause-first_ends : goal.returns-clause-first_ends
returns-clause-first_ends c = shows _ _ _ _ _ refl

pub returns-clause-second_pauses : goal.returns-clause-second_pauses
returns-clause-second_pauses c = shows _ _ _ _ _ refl
