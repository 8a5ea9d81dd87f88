use Rattle.stmt_parser.proofs.WalkLemmas.{skips-immediate}
use Rattle.stmt_parser.proofs.values.immediate_at.Goals as goal

pub returns-in-None : goal.returns-in-None
returns-in-None c = skips-immediate c.args.tokens.now c.in-None.ensures
