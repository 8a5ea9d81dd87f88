use Rattle.kernel_rules.proofs.ResumingTicks.{live_resumes, resuming_allows}
use Rattle.kernel_rules.proofs.laws.later_ticks_are_foreseen.Goals as goal

pub returns-clause-resumes : goal.returns-clause-resumes
returns-clause-resumes c = live_resumes

pub returns-clause-ends : goal.returns-clause-ends
returns-clause-ends c tables last p n r env x o fit h e = let a = resuming_allows tables last p n r env x o fit.is_live fit.apart h in a.ends e

pub returns-clause-exits : goal.returns-clause-exits
returns-clause-exits c tables last p n r env x o d fit h e = let a = resuming_allows tables last p n r env x o fit.is_live fit.apart h in a.exits d e
