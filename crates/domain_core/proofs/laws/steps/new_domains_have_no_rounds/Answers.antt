use Rattle.domain_core.proofs.lemmas.step.RoundsBegin.{none_made, memory_keeps}
use Rattle.domain_core.proofs.laws.steps.new_domains_have_no_rounds.Goals as goal

pub returns : goal.returns
returns c = record { begun = none_made; kept = memory_keeps }
