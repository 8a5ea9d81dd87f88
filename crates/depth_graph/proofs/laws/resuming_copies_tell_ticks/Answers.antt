use Rattle.depth_graph.proofs.ResumeActive.{resume_active}
use Rattle.depth_graph.proofs.ResumeQuiet.{resume_silent}
use Rattle.depth_graph.proofs.ResumeHeld.{resume_held}
use Rattle.depth_graph.proofs.laws.resuming_copies_tell_ticks.Goals as goal

pub returns-clause-active : goal.returns-clause-active
returns-clause-active c = λ tables f w p d source waits z h on free fits. resume_active tables f w p d source waits z h on free fits.is_live fits.apart

pub returns-clause-silent : goal.returns-clause-silent
returns-clause-silent c = resume_silent

pub returns-clause-held : goal.returns-clause-held
returns-clause-held c = resume_held
