use Rattle.domain_core.proofs.lemmas.runs.RendezvousRefused.{value-refused}
use Rattle.domain_core.proofs.rows.joins_have_the_sent_value.Goals as goal

pub returns : goal.returns
returns c = value-refused
