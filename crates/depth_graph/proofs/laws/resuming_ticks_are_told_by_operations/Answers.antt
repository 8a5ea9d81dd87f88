use Rattle.depth_graph.proofs.ResumeShows.{resume_shows}
use Rattle.depth_graph.proofs.ResumeInside.{resume_inside}
use Rattle.surf_graph.proofs.FurtherWires.{operations_show}
use Rattle.depth_graph.specs.definitions.ResumingCopies.{resume}
use Rattle.depth_graph.proofs.laws.resuming_ticks_are_told_by_operations.Goals as goal

pub returns : goal.returns
returns c = λ tables f w p d o out source waits z on free fits ticks. operations_show tables f w p d (resume tables p d) o out z (resume_inside tables p d out) (resume_shows tables f w p d o out source waits z on free fits.is_live fits.apart ticks)
