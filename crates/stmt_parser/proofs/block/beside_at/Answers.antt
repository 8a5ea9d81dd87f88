use Rattle.stmt_parser.proofs.WalkLemmas.{skips-others}
use Rattle.stmt_parser.proofs.block.beside_at.Goals as goal

pub returns-in-None : goal.returns-in-None
returns-in-None c = skips-others c.args.between c.args.tokens.now c.in-None.ensures
