use Rattle.surf_graph.proofs.LeavesBuilt.{nothing_starts}
use Rattle.surf_graph.proofs.starting_leaves.start_nothing.Goals as goal

pub returns : goal.returns
returns c = λ tables. nothing_starts tables c.args.b.now c.own_code.new.builder c.args.given c.in_ok-status.status c.in_ok-status.ensures
