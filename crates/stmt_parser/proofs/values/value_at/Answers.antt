use Rattle.stmt_parser.proofs.WalkLemmas.{skips-value}
use Rattle.stmt_parser.proofs.values.value_at.Goals as goal

pub returns-in-None : goal.returns-in-None
returns-in-None c = skips-value c.args.tokens.now c.in-None.ensures
