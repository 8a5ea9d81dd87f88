use Rattle.domain_core.proofs.lemmas.runs.StampOrderCuts.{own_runs_are_legal}
use Rattle.domain_core.proofs.laws.runs.own_runs_are_legal.Goals as goal

pub returns : goal.returns
returns c = own_runs_are_legal
