use Rattle.domain_core.proofs.lemmas.runs.AnyOrder.{steps_are_legal}
use Rattle.domain_core.proofs.laws.runs.steps_are_legal.Goals as goal

pub returns : goal.returns
returns c = steps_are_legal
