use Rattle.stmt_parser.proofs.PartLemmas.{value-reads}
use Rattle.stmt_parser.proofs.values.read_value.Goals as goal

pub returns-in-Ok : goal.returns-in-Ok
returns-in-Ok c = value-reads c.args.source.now c.args.tokens.now c.in-Ok.read.rest.now c.args.depth c.in-Ok.read.value.operators c.in-Ok.read.value.tree c.in-Ok.ensures
