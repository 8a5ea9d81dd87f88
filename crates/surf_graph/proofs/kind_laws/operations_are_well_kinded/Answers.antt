use Rattle.surf_graph.proofs.KindedExpressions.{value_kinded, test_kinded, value_fits, test_fits}
use Rattle.surf_graph.proofs.kind_laws.operations_are_well_kinded.Goals as goal

pub returns-clause-value : goal.returns-clause-value
returns-clause-value c = value_kinded

pub returns-clause-test : goal.returns-clause-test
returns-clause-test c = test_kinded

pub returns-clause-fitting_value : goal.returns-clause-fitting_value
returns-clause-fitting_value c = value_fits

pub returns-clause-fitting_test : goal.returns-clause-fitting_test
returns-clause-fitting_test c = test_fits
