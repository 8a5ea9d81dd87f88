use Rattle.std.proofs.Common.{refl}
use Rattle.kernel_rules.proofs.worked.ways.shape_tells_ends.Goals as goal

pub returns-clause-at_once : goal.returns-clause-at_once
returns-clause-at_once c = refl

pub returns-clause-not_at_once : goal.returns-clause-not_at_once
returns-clause-not_at_once c = refl

pub returns-clause-later : goal.returns-clause-later
returns-clause-later c = refl

pub returns-clause-not_later : goal.returns-clause-not_later
returns-clause-not_later c = refl

pub returns-clause-aborted : goal.returns-clause-aborted
returns-clause-aborted c = refl

pub returns-clause-not_aborted : goal.returns-clause-not_aborted
returns-clause-not_aborted c = refl
