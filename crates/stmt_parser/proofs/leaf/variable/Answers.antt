use Rattle.stmt_parser.proofs.PartLemmas.{nameless-fails}
use Rattle.stmt_parser.proofs.LeafLemmas.{variable-reads}
use Rattle.stmt_parser.proofs.leaf.variable.Goals as goal

pub returns-in-Ok-expect-2 : goal.returns-in-Ok-expect-2
returns-in-Ok-expect-2 c = variable-reads c.args.source.now c.args.kind c.args.rest.now c.in-Ok.named.rest.now c.in-Ok-expect.sign.rest.now c.in-Ok-read_value.read.rest.now c.in-Ok-expect-2.end.rest.now c.args.first.now c.in-Ok-expect.sign.value c.in-Ok-expect-2.end.value c.args.depth c.in-Ok.named.value c.in-Ok-read_value.read.value c.placed.result c.requires.role c.in-Ok.ensures c.in-Ok-expect.ensures c.in-Ok-read_value.ensures c.in-Ok-expect-2.ensures c.placed.ensures

pub returns : goal.returns
returns c = nameless-fails c.args.rest.now c.args.depth c.in-Err.stop c.requires.no_signal c.in-Err.ensures
