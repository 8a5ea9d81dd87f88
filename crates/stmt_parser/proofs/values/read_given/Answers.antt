use Rattle.stmt_parser.proofs.PartLemmas.{given-reads}
use Rattle.stmt_parser.proofs.values.read_given.Goals as goal

pub returns-in-Ok : goal.returns-in-Ok
returns-in-Ok c = given-reads c.args.source.now c.args.tokens.now c.in-Some.open.rest.now c.in-Ok.read.rest.now c.in-Some.open.value c.args.depth c.in-Ok.read.value c.in-Some.ensures c.if-depth-ge-MOST_OPEN.false c.in-Ok.ensures
