use Rattle.stmt_parser.proofs.LeafLemmas.{send-reads}
use Rattle.stmt_parser.proofs.leaf.send.Goals as goal

pub returns-in-Ok-expect : goal.returns-in-Ok-expect
returns-in-Ok-expect c = send-reads c.args.source.now c.args.rest.now c.in-Ok.named.rest.now c.in-Ok-read_parens.read.rest.now c.in-Ok-expect.end.rest.now c.args.first.now c.in-Ok-expect.end.value c.args.depth c.in-Ok.named.value c.in-Ok-read_parens.read.value c.placed.result c.requires.role c.in-Ok.ensures c.in-Ok-read_parens.ensures c.in-Ok-expect.ensures c.placed.ensures
