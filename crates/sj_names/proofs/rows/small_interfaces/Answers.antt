use Rattle.std.proofs.Common.{refl}
use Rattle.sj_names.proofs.rows.small_interfaces.Goals as goal

pub returns : goal.returns
returns c = refl
