use Rattle.domain_core.proofs.lemmas.runs.RendezvousRefused.{waiting-reached, waiting-refused}
use Rattle.domain_core.proofs.rows.waiting_ends_are_no_rest.Goals as goal

pub returns : goal.returns
returns c = record { reached = waiting-reached; refused = waiting-refused }
