use Rattle.stmt_parser.proofs.LeafLemmas.{receive-reads}
use Rattle.stmt_parser.proofs.leaf.receive.Goals as goal

pub returns-in-Ok : goal.returns-in-Ok
returns-in-Ok c = receive-reads c.args.source.now c.args.rest.now c.in-Ok.named.rest.now c.args.first.now c.args.depth c.in-Ok.named.value c.placed.result c.requires.role c.in-Ok.ensures c.placed.ensures
