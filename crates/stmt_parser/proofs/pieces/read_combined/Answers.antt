use Rattle.stmt_parser.proofs.PartLemmas.{combined-reads}
use Rattle.stmt_parser.proofs.pieces.read_combined.Goals as goal

pub returns-in-Ok : goal.returns-in-Ok
returns-in-Ok c = combined-reads c.args.tokens.now c.in-Some.keyword.rest.now c.in-Ok.read.rest.now c.in-Some.keyword.value c.args.depth c.in-Ok.read.value.at c.in-Ok.read.value.operator c.in-Some.ensures c.in-Ok.ensures
