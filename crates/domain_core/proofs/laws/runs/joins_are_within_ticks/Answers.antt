use Rattle.domain_core.proofs.lemmas.runs.JoinsOfTicks.{joins_within_ticks, run_joins_within_ticks}
use Rattle.domain_core.proofs.laws.runs.joins_are_within_ticks.Goals as goal

pub returns : goal.returns
returns c = record { steps = joins_within_ticks; runs = run_joins_within_ticks }
