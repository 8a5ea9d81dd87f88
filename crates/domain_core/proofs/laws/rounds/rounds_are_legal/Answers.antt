use Rattle.domain_core.proofs.lemmas.rounds.RunsAtRest.{rounds_run_legally}
use Rattle.domain_core.proofs.laws.rounds.rounds_are_legal.Goals as goal

pub returns : goal.returns
returns c = rounds_run_legally
