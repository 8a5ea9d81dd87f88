use Rattle.domain_core.proofs.lemmas.runs.Rendezvous.{early-refused}
use Rattle.domain_core.proofs.rows.stamps_count_joins.Goals as goal

pub returns : goal.returns
returns c = early-refused
