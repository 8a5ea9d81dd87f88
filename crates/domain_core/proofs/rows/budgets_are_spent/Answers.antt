use Rattle.domain_core.proofs.lemmas.runs.RendezvousRefused.{ended-spends, going-refused, few-refused}
use Rattle.domain_core.proofs.rows.budgets_are_spent.Goals as goal

pub returns : goal.returns
returns c = record { ended = ended-spends; going = going-refused; few = few-refused }
