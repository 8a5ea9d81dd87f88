use Rattle.domain_core.proofs.lemmas.runs.LegalRunProjections.{legal_has_own_runs}
use Rattle.domain_core.proofs.laws.runs.legal_runs_have_own_runs.Goals as goal

pub returns : goal.returns
returns c = legal_has_own_runs
