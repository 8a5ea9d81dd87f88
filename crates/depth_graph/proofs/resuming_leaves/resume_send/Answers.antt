use Rattle.depth_graph.proofs.LeavesResume.{send_is_resumed}
use Rattle.depth_graph.proofs.resuming_leaves.resume_send.Goals as goal

pub returns : goal.returns
returns c =
    λ tables channel value. send_is_resumed tables c.args.b.now c.own_waiting.new.builder c.add_guarded.new.lists c.add_guarded-2.new.lists c.add_guarded-3.new.lists c.add_guarded-4.new.lists c.add_guarded-5.new.lists c.args.given c.in_ok-n.n channel value c.requires.room c.in_ok-n.ensures
    c.in_ok-add_guarded.ensures c.in_ok-add_guarded-2.ensures c.in_ok-add_guarded-3.ensures c.in_ok-add_guarded-4.ensures c.in_ok-add_guarded-5.ensures
