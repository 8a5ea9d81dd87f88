use Rattle.depth_graph.proofs.KindedResumes.{resuming_kinded}
use Rattle.depth_graph.proofs.kind_laws.resuming_copies_are_well_kinded.Goals as goal

pub returns : goal.returns
returns c = resuming_kinded
