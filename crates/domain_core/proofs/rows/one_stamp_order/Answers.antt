use Rattle.domain_core.proofs.lemmas.runs.OneOrder.{join-between, join-last}
use Rattle.domain_core.proofs.rows.one_stamp_order.Goals as goal

pub returns : goal.returns
returns c = record { between = join-between; last = join-last }
