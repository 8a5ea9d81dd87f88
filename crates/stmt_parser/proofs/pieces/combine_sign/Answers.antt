use Rattle.std.proofs.Common.{sym}
use Rattle.stmt_parser.proofs.PartLemmas.{combine-sign}
use Rattle.stmt_parser.proofs.pieces.combine_sign.Goals as goal

pub returns-in-Some-combine_of : goal.returns-in-Some-combine_of
returns-in-Some-combine_of c = combine-sign c.args.tokens.now c.in-Some.rest.now c.in-Some.sign.now c.args.depth c.in-Some-combine_of.operator c.in-Some.ensures.cases.0 (sym c.in-Some-combine_of.ensures)
