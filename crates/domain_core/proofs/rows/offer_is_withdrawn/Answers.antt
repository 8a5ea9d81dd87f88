use Rattle.domain_core.proofs.lemmas.runs.AbortedSend.{a3, withdrawn-scheduled, withdrawn-whole, withdrawn-refused}
use Rattle.domain_core.proofs.rows.offer_is_withdrawn.Goals as goal

pub returns : goal.returns
returns c = record { scheduled = (a3, withdrawn-scheduled); whole = withdrawn-whole; refused = withdrawn-refused }
