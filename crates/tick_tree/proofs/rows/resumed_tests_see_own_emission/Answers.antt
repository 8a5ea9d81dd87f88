use Rattle.tick_tree.proofs.RowLemmas.{suspends_itself-cycle, aborts_itself-cycle}
use Rattle.tick_tree.proofs.rows.resumed_tests_see_own_emission.Goals as goal

pub returns : goal.returns
returns c = record { suspension = suspends_itself-cycle; abortion = aborts_itself-cycle }
