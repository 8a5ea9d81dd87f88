use Rattle.surf_graph.proofs.KindedLocals.{entries_combine}
use Rattle.surf_graph.proofs.kind_laws.fitting_entries_combine.Goals as goal

pub returns : goal.returns
returns c = entries_combine
