use Rattle.stmt_parser.proofs.LeafLemmas.{await-reads}
use Rattle.stmt_parser.proofs.leaf.await_test.Goals as goal

pub returns-in-Ok-expect : goal.returns-in-Ok-expect
returns-in-Ok-expect c = await-reads c.args.source.now c.args.rest.now c.in-Ok.guard.rest.now c.in-Ok-expect.end.rest.now c.args.first.now c.in-Ok-expect.end.value c.args.depth c.in-Ok.guard.value.immediate c.in-Ok.guard.value.test c.placed.result c.requires.role c.in-Ok.ensures c.in-Ok-expect.ensures c.placed.ensures
