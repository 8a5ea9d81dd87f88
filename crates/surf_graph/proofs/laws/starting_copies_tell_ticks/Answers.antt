use Rattle.surf_graph.proofs.StartActive.{start_active}
use Rattle.surf_graph.proofs.StartSilent.{start_silent}
use Rattle.surf_graph.proofs.laws.starting_copies_tell_ticks.Goals as goal

pub returns-clause-active : goal.returns-clause-active
returns-clause-active c = start_active

pub returns-clause-silent : goal.returns-clause-silent
returns-clause-silent c = start_silent
