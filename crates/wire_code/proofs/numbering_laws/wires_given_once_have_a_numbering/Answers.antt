use Rattle.wire_code.proofs.NumberingLemmas.{given_once, once_numbered}
use Rattle.wire_code.proofs.numbering_laws.wires_given_once_have_a_numbering.Goals as goal

pub returns-clause-once : goal.returns-clause-once
returns-clause-once c = given_once

pub returns-clause-numbering : goal.returns-clause-numbering
returns-clause-numbering c = once_numbered
