use Rattle.std.proofs.Common.{arith}
use Rattle.surf_graph.proofs.LeavesBuilt.{receive_starts}
use Rattle.surf_graph.proofs.starting_leaves.start_receive.Goals as goal

pub returns : goal.returns
returns c = λ tables. receive_starts tables c.args.b.now c.own_pause.new.builder c.add_guarded.new.lists c.args.given c.in_ok-status.status c.args.channel (omega arith) c.in_ok-status.ensures c.in_ok-add_guarded.ensures
