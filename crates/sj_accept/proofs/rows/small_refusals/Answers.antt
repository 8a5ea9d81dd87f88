use Rattle.sj_accept.proofs.RowLemmas.{bad_byte, bad_number, open_comment, at_end, at_token}
use Rattle.sj_accept.proofs.rows.small_refusals.Goals as goal

pub returns-clause-bad_byte : goal.returns-clause-bad_byte
returns-clause-bad_byte c = bad_byte

pub returns-clause-bad_number : goal.returns-clause-bad_number
returns-clause-bad_number c = bad_number

pub returns-clause-open_comment : goal.returns-clause-open_comment
returns-clause-open_comment c = open_comment

pub returns-clause-at_end : goal.returns-clause-at_end
returns-clause-at_end c = at_end c.prefixes_are_what_can_be_read.ensures.programs c.sentences_are_what_is_read_whole.ensures.programs

pub returns-clause-at_token : goal.returns-clause-at_token
returns-clause-at_token c = at_token c.prefixes_are_what_can_be_read.ensures.programs
