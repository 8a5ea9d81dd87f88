use Rattle.domain_core.proofs.lemmas.runs.Rendezvous.{s5, rendezvous-scheduled, rendezvous-whole}
use Rattle.domain_core.proofs.rows.one_rendezvous.Goals as goal

pub returns : goal.returns
returns c = record { scheduled = (s5, rendezvous-scheduled); whole = rendezvous-whole }
