use Rattle.std.proofs.Common.{refl}
use Rattle.std.specs.Int.{int_wrap}
use Rattle.kernel_rules.proofs.SeenTicks.{shows}
use Rattle.kernel_rules.proofs.worked.variables.loop_begins_anew.Goals as goal

pub returns : goal.returns
unfolding int_wrap
returns c = shows _ _ _ _ _ refl
