use Rattle.std.proofs.Common.{refl}
use Rattle.kernel_rules.proofs.worked.variables.statement_has_divisors_of_its_parts.Goals as goal

pub returns-clause-own : goal.returns-clause-own
returns-clause-own c = refl

pub returns-clause-own_allowed : goal.returns-clause-own_allowed
returns-clause-own_allowed c = refl

pub returns-clause-around : goal.returns-clause-around
returns-clause-around c = refl

pub returns-clause-around_allowed : goal.returns-clause-around_allowed
returns-clause-around_allowed c = refl
