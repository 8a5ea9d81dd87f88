use Rattle.std.proofs.Common.{refl}
use Rattle.kernel_rules.proofs.worked.variables.statement_mentions_what_it_names.Goals as goal

pub returns-clause-variables : goal.returns-clause-variables
returns-clause-variables c = refl

pub returns-clause-signals : goal.returns-clause-signals
returns-clause-signals c = refl

pub returns-clause-channels : goal.returns-clause-channels
returns-clause-channels c = refl

pub returns-clause-tests : goal.returns-clause-tests
returns-clause-tests c = refl

pub returns-clause-waiting : goal.returns-clause-waiting
returns-clause-waiting c = refl

pub returns-clause-around : goal.returns-clause-around
returns-clause-around c = refl

pub returns-clause-around_other : goal.returns-clause-around_other
returns-clause-around_other c = refl
