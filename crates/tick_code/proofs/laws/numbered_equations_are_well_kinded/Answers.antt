use Rattle.tick_code.proofs.NumberedClassLemmas.{numbered_well_kinded}
use Rattle.tick_code.proofs.laws.numbered_equations_are_well_kinded.Goals as goal

pub returns : goal.returns
returns c = numbered_well_kinded
