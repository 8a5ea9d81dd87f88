use Rattle.depth_graph.proofs.ResumeActive.{resume_active}
use Rattle.depth_graph.proofs.ResumeQuiet.{resume_silent}
use Rattle.depth_graph.proofs.ResumeHeld.{resume_held}
use Rattle.surf_graph.proofs.ExpressionWires.{spelled_out_given}
use Rattle.depth_graph.specs.definitions.ResumingCopies.{resume}
use Rattle.depth_graph.proofs.laws.resuming_operations_tell_ticks.Goals as goal

pub returns-clause-active : goal.returns-clause-active
returns-clause-active c = λ tables f w p d source waits z h on free fits. let a = resume tables p d in resume_active tables f w p d source waits z (spelled_out_given f w a.next a.equations z h) on free fits.is_live fits.apart

pub returns-clause-silent : goal.returns-clause-silent
returns-clause-silent c = λ tables f w p d z h. let a = resume tables p d in resume_silent tables f w p d z (spelled_out_given f w a.next a.equations z h)

pub returns-clause-held : goal.returns-clause-held
returns-clause-held c = λ tables f w p d z h. let a = resume tables p d in resume_held tables f w p d z (spelled_out_given f w a.next a.equations z h)
