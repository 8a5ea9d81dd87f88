use Rattle.surf_graph.proofs.KindedOperations.{formula_kinded}
use Rattle.surf_graph.proofs.kind_laws.operations_of_formulas_are_well_kinded.Goals as goal

pub returns : goal.returns
returns c = formula_kinded
