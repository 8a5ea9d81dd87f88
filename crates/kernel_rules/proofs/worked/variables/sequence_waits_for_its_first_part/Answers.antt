use Rattle.std.proofs.Common.{refl}
use Rattle.kernel_rules.proofs.SeenTicks.{shows}
use Rattle.kernel_rules.proofs.worked.variables.sequence_waits_for_its_first_part.Goals as goal

pub returns : goal.returns
returns c = shows _ _ _ _ _ refl
