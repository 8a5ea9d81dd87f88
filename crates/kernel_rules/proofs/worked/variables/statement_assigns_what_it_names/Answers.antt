use Rattle.std.proofs.Common.{refl}
use Rattle.kernel_rules.proofs.worked.variables.statement_assigns_what_it_names.Goals as goal

pub returns-clause-named : goal.returns-clause-named
returns-clause-named c = refl

pub returns-clause-other : goal.returns-clause-other
returns-clause-other c = refl

pub returns-clause-around : goal.returns-clause-around
returns-clause-around c = refl

pub returns-clause-around_other : goal.returns-clause-around_other
returns-clause-around_other c = refl

pub returns-clause-alone : goal.returns-clause-alone
returns-clause-alone c = refl
