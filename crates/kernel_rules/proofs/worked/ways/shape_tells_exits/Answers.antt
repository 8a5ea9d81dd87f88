use Rattle.std.proofs.Common.{refl}
use Rattle.kernel_rules.proofs.worked.ways.shape_tells_exits.Goals as goal

pub returns-clause-at_once : goal.returns-clause-at_once
returns-clause-at_once c = refl

pub returns-clause-not_at_once : goal.returns-clause-not_at_once
returns-clause-not_at_once c = refl

pub returns-clause-later : goal.returns-clause-later
returns-clause-later c = refl

pub returns-clause-not_later : goal.returns-clause-not_later
returns-clause-not_later c = refl

pub returns-clause-none : goal.returns-clause-none
returns-clause-none c = refl

pub returns-clause-none_later : goal.returns-clause-none_later
returns-clause-none_later c = refl
