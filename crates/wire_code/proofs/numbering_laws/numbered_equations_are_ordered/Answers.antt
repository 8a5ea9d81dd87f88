use Rattle.wire_code.proofs.NumberingLemmas.{ordered_from_zero}
use Rattle.wire_code.proofs.numbering_laws.numbered_equations_are_ordered.Goals as goal

pub returns : goal.returns
returns c = ordered_from_zero
