use Rattle.expr_parser.proofs.OperandLemmas.{atom-reads}
use Rattle.expr_parser.proofs.expression.atom.Goals as goal

pub returns-in-Ok : goal.returns-in-Ok
returns-in-Ok c = atom-reads c.args.source.now c.args.tokens.now c.args.rest.now c.args.first.now c.args.depth c.args.operators c.in-Ok.tree c.requires.is c.requires.role c.in-Ok.ensures
