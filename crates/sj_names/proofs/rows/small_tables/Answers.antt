use Rattle.std.proofs.Common.{refl}
use Rattle.sj_names.proofs.rows.small_tables.Goals as goal

pub returns-clause-pure : goal.returns-clause-pure
returns-clause-pure c = refl

pub returns-clause-boolean : goal.returns-clause-boolean
returns-clause-boolean c = refl

pub returns-clause-number : goal.returns-clause-number
returns-clause-number c = refl

pub returns-clause-written : goal.returns-clause-written
returns-clause-written c = refl

pub returns-clause-signals : goal.returns-clause-signals
returns-clause-signals c = refl

pub returns-clause-channels : goal.returns-clause-channels
returns-clause-channels c = refl
