use Rattle.std.proofs.Common.{refl}
use Rattle.kernel_rules.proofs.SeenTicks.{shows}
use Rattle.kernel_rules.proofs.worked.variables.parallel_joins_variables.Goals as goal

pub returns-clause-first : goal.returns-clause-first
returns-clause-first c = shows _ _ _ _ _ refl

pub returns-clause-second : goal.returns-clause-second
returns-clause-second c = shows _ _ _ _ _ refl

pub returns-clause-both : goal.returns-clause-both
returns-clause-both c = shows _ _ _ _ _ refl

pub returns-clause-unassigned : goal.returns-clause-unassigned
returns-clause-unassigned c = shows _ _ _ _ _ refl

pub returns-clause-at_exit : goal.returns-clause-at_exit
returns-clause-at_exit c = shows _ _ _ _ _ refl

pub returns-clause-at_second_exit : goal.returns-clause-at_second_exit
returns-clause-at_second_exit c = shows _ _ _ _ _ refl

pub returns-clause-at_both_exits : goal.returns-clause-at_both_exits
returns-clause-at_both_exits c = shows _ _ _ _ _ refl

pub returns-clause-both_at_exit : goal.returns-clause-both_at_exit
returns-clause-both_at_exit c = shows _ _ _ _ _ refl

pub returns-clause-both_at_second_exit : goal.returns-clause-both_at_second_exit
returns-clause-both_at_second_exit c = shows _ _ _ _ _ refl

pub returns-clause-second_ended : goal.returns-clause-second_ended
returns-clause-second_ended c = shows _ _ _ _ _ refl

pub returns-clause-second_of_ended : goal.returns-clause-second_of_ended
returns-clause-second_of_ended c = shows _ _ _ _ _ refl

pub returns-clause-both_pause : goal.returns-clause-both_pause
returns-clause-both_pause c = shows _ _ _ _ _ refl

pub returns-clause-both_exit : goal.returns-clause-both_exit
returns-clause-both_exit c = shows _ _ _ _ _ refl

pub returns-clause-unassigned_pause : goal.returns-clause-unassigned_pause
returns-clause-unassigned_pause c = shows _ _ _ _ _ refl

pub returns-clause-unassigned_exit : goal.returns-clause-unassigned_exit
returns-clause-unassigned_exit c = shows _ _ _ _ _ refl

pub returns-clause-unassigned_at_exit : goal.returns-clause-unassigned_at_exit
returns-clause-unassigned_at_exit c = shows _ _ _ _ _ refl

pub returns-clause-unassigned_at_second_exit : goal.returns-clause-unassigned_at_second_exit
returns-clause-unassigned_at_second_exit c = shows _ _ _ _ _ refl
