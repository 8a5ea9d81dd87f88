use Rattle.domain_core.proofs.lemmas.step.RoundOfStep.{step_is_round, stop_is_cut}
use Rattle.domain_core.proofs.laws.steps.steps_are_rounds.Goals as goal

pub returns : goal.returns
returns g c = record { ticks = step_is_round g.E.Ends.moved; stops = stop_is_cut g.E.Ends.moved }
