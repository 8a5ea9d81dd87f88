use Rattle.std.proofs.Common.{refl}
use Rattle.kernel_rules.proofs.SeenTicks.{shows}
use Rattle.kernel_rules.proofs.worked.codes.later_exit_passes_through.Goals as goal

pub returns-clause-sequence : goal.returns-clause-sequence
returns-clause-sequence c = shows _ _ _ _ _ refl

pub returns-clause-loop_ : goal.returns-clause-loop_
returns-clause-loop_ c = shows _ _ _ _ _ refl

pub returns-clause-parallel : goal.returns-clause-parallel
returns-clause-parallel c = shows _ _ _ _ _ refl

pub returns-clause-trap : goal.returns-clause-trap
returns-clause-trap c = shows _ _ _ _ _ refl

pub returns-clause-suspend : goal.returns-clause-suspend
returns-clause-suspend c = shows _ _ _ _ _ refl

pub returns-clause-weak : goal.returns-clause-weak
returns-clause-weak c = shows _ _ _ _ _ refl

pub returns-clause-strong : goal.returns-clause-strong
returns-clause-strong c = shows _ _ _ _ _ refl

pub returns-clause-weak_aborted : goal.returns-clause-weak_aborted
returns-clause-weak_aborted c = shows _ _ _ _ _ refl

pub returns-clause-strong_aborted : goal.returns-clause-strong_aborted
returns-clause-strong_aborted c = shows _ _ _ _ _ refl
