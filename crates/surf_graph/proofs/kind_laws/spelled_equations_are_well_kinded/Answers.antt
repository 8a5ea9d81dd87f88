use Rattle.surf_graph.proofs.KindedEquations.{spelled_kinded}
use Rattle.surf_graph.proofs.kind_laws.spelled_equations_are_well_kinded.Goals as goal

pub returns : goal.returns
returns c = spelled_kinded
