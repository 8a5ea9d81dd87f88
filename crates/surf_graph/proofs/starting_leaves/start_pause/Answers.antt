use Rattle.std.proofs.Common.{arith}
use Rattle.surf_graph.proofs.LeavesBuilt.{pause_starts}
use Rattle.surf_graph.proofs.starting_leaves.start_pause.Goals as goal

pub returns : goal.returns
returns c = λ tables. pause_starts tables c.args.b.now c.own_pause.new.builder c.add_guarded.new.lists c.args.given c.in_ok-status.status (omega arith) c.in_ok-status.ensures c.in_ok-add_guarded.ensures
