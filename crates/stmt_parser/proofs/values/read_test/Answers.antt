use Rattle.stmt_parser.proofs.PartLemmas.{test-reads}
use Rattle.stmt_parser.proofs.values.read_test.Goals as goal

pub returns-in-Ok : goal.returns-in-Ok
returns-in-Ok c = test-reads c.args.source.now c.args.tokens.now c.in-Ok.read.rest.now c.args.depth c.in-Ok.read.value.operators c.in-Ok.read.value.tree c.in-Ok.ensures
