use Rattle.domain_core.proofs.lemmas.runs.ScheduledTurns.{scheduled_runs_are_whole}
use Rattle.domain_core.proofs.laws.runs.scheduled_runs_are_whole.Goals as goal

pub returns : goal.returns
returns c = scheduled_runs_are_whole
