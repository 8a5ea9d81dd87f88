use Rattle.stmt_parser.proofs.PartLemmas.{once-reads, later-reads}
use Rattle.stmt_parser.proofs.values.read_guard.Goals as goal

pub returns-in-Ok-closed_test : goal.returns-in-Ok-closed_test
returns-in-Ok-closed_test c = once-reads c.args.source.now c.args.tokens.now c.in-Ok.open.rest.now c.in-Some.keyword.rest.now c.in-Ok-closed_test.read.rest.now c.in-Ok.open.value c.in-Some.keyword.value c.args.depth c.in-Ok-closed_test.read.value c.in-Ok.ensures c.if-depth-ge-MOST_OPEN.false c.in-Some.ensures c.in-Ok-closed_test.ensures

pub returns-in-Ok-closed_test-2 : goal.returns-in-Ok-closed_test-2
returns-in-Ok-closed_test-2 c = later-reads c.args.source.now c.args.tokens.now c.in-Ok.open.rest.now c.in-Ok-closed_test-2.read.rest.now c.in-Ok.open.value c.args.depth c.in-Ok-closed_test-2.read.value c.in-Ok.ensures c.if-depth-ge-MOST_OPEN.false c.in-None.ensures c.in-Ok-closed_test-2.ensures
