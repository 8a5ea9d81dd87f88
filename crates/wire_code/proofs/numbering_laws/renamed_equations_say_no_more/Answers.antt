use Rattle.wire_code.proofs.NumberingLemmas.{says_no_more}
use Rattle.wire_code.proofs.numbering_laws.renamed_equations_say_no_more.Goals as goal

pub returns : goal.returns
returns c = says_no_more
