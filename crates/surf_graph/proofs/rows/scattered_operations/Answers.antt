use Rattle.surf_graph.proofs.SpelledRows.{pause_spelled, one_missing, other_go}
use Rattle.surf_graph.proofs.rows.scattered_operations.Goals as goal

pub returns-clause-pause : goal.returns-clause-pause
returns-clause-pause c = pause_spelled

pub returns-clause-one_missing : goal.returns-clause-one_missing
returns-clause-one_missing c = one_missing

pub returns-clause-other_go : goal.returns-clause-other_go
returns-clause-other_go c = other_go
