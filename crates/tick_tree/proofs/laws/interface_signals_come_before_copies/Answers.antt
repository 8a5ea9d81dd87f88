use Rattle.tick_tree.proofs.SignalNumbers.{signals_below}
use Rattle.tick_tree.proofs.laws.interface_signals_come_before_copies.Goals as goal

pub returns : goal.returns
returns c = signals_below
