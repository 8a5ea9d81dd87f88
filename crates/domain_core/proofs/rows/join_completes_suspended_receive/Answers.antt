use Rattle.domain_core.proofs.lemmas.runs.SuspendedReceive.{s7, suspended-scheduled, suspended-whole, suspended-refused}
use Rattle.domain_core.proofs.rows.join_completes_suspended_receive.Goals as goal

pub returns : goal.returns
returns c = record { scheduled = (s7, suspended-scheduled); whole = suspended-whole; refused = suspended-refused }
