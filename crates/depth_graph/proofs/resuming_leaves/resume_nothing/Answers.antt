use Rattle.depth_graph.proofs.LeavesResume.{nothing_is_resumed, emission_is_resumed, assignment_is_resumed}
use Rattle.depth_graph.proofs.resuming_leaves.resume_nothing.Goals as goal

pub returns : goal.returns
returns c =
    record {
      nothing = λ tables b. nothing_is_resumed tables b c.args.given;
      emission = λ tables b s e. emission_is_resumed tables b c.args.given s e;
      assignment = λ tables b x e. assignment_is_resumed tables b c.args.given x e;
    }
