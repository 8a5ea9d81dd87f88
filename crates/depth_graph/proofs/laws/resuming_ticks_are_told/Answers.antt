use Rattle.depth_graph.proofs.ResumeShows.{resume_shows}
use Rattle.depth_graph.proofs.laws.resuming_ticks_are_told.Goals as goal

pub returns : goal.returns
returns c = λ tables f w p d o out source waits z on free fits ticks. resume_shows tables f w p d o out source waits z on free fits.is_live fits.apart ticks
