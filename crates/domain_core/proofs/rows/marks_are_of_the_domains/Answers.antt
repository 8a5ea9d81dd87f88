use Rattle.domain_core.proofs.lemmas.runs.RendezvousRefused.{mark-refused}
use Rattle.domain_core.proofs.rows.marks_are_of_the_domains.Goals as goal

pub returns : goal.returns
returns c = mark-refused
