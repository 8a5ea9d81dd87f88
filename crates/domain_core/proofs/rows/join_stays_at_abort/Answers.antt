use Rattle.domain_core.proofs.lemmas.runs.AbortedSend.{b5, joined-scheduled, joined-whole, joined-refused}
use Rattle.domain_core.proofs.rows.join_stays_at_abort.Goals as goal

pub returns : goal.returns
returns c = record { scheduled = (b5, joined-scheduled); whole = joined-whole; refused = joined-refused }
