use Rattle.kernel_rules.proofs.StartingTicks.{starting_allows}
use Rattle.kernel_rules.proofs.laws.starting_ticks_are_foreseen.Goals as goal

pub returns-clause-ends : goal.returns-clause-ends
returns-clause-ends c tables last p env x o h e = let a = starting_allows tables last p env x o h in a.ends e

pub returns-clause-exits : goal.returns-clause-exits
returns-clause-exits c tables last p env x o d h e = let a = starting_allows tables last p env x o h in a.exits d e
