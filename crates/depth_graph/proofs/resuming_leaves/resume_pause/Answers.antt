use Rattle.std.proofs.Common.{arith}
use Rattle.depth_graph.proofs.LeavesResume.{pause_is_resumed}
use Rattle.depth_graph.proofs.resuming_leaves.resume_pause.Goals as goal

pub returns : goal.returns
returns c = λ tables. pause_is_resumed tables c.args.b.now c.own_pause.new.builder c.add_guarded.new.lists c.args.given c.in_ok-n.n (omega arith) c.in_ok-n.ensures c.in_ok-add_guarded.ensures
