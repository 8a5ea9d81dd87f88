use Rattle.stmt_parser.proofs.WalkLemmas.{skips-else}
use Rattle.stmt_parser.proofs.block.else_at.Goals as goal

pub returns-in-None : goal.returns-in-None
returns-in-None c = skips-else c.args.tokens.now c.in-None.ensures
