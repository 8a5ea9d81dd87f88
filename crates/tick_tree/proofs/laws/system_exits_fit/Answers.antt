use Rattle.tick_tree.proofs.ExitFitLemmas.{fitting_system}
use Rattle.tick_tree.proofs.laws.system_exits_fit.Goals as goal

pub returns : goal.returns
returns c = fitting_system
