use Rattle.surf_graph.proofs.KindedStarts.{starting_kinded}
use Rattle.surf_graph.proofs.kind_laws.starting_copies_are_well_kinded.Goals as goal

pub returns : goal.returns
returns c = starting_kinded
