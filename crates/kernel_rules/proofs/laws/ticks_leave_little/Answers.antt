use Rattle.kernel_rules.proofs.TickLocalityLemmas.{leaves_nothing, keeps_variable}
use Rattle.kernel_rules.proofs.laws.ticks_leave_little.Goals as goal

pub returns-clause-nothing : goal.returns-clause-nothing
returns-clause-nothing c = leaves_nothing

pub returns-clause-variables : goal.returns-clause-variables
returns-clause-variables c = keeps_variable
