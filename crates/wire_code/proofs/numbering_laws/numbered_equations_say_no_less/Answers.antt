use Rattle.wire_code.proofs.NumberingLemmas.{says_no_less}
use Rattle.wire_code.proofs.numbering_laws.numbered_equations_say_no_less.Goals as goal

pub returns : goal.returns
returns c = says_no_less
