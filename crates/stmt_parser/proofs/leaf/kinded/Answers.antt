use Rattle.stmt_parser.proofs.LeafLemmas.{declared-reads}
use Rattle.stmt_parser.proofs.leaf.kinded.Goals as goal

pub returns-in-Ok : goal.returns-in-Ok
returns-in-Ok c = declared-reads c.args.source.now c.args.kind c.args.rest.now c.in-Some.keyword.rest.now c.in-Ok.read.rest.now c.args.first.now c.in-Some.keyword.value c.args.depth c.in-Ok.read.value c.placed.result c.requires.role c.in-Some.ensures c.in-Ok.ensures c.placed.ensures
