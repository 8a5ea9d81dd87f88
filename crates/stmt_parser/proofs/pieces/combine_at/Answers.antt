use Rattle.stmt_parser.proofs.WalkLemmas.{skips-combine}
use Rattle.stmt_parser.proofs.pieces.combine_at.Goals as goal

pub returns-in-None : goal.returns-in-None
returns-in-None c = skips-combine c.args.tokens.now c.in-None.ensures
