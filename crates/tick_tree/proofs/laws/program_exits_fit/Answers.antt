use Rattle.tick_tree.proofs.ExitFitLemmas.{fitting_exits}
use Rattle.tick_tree.proofs.laws.program_exits_fit.Goals as goal

pub returns : goal.returns
returns c = fitting_exits
