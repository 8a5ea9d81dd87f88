use Rattle.std.proofs.Common.{refl}
use Rattle.stmt_parser.proofs.WalkLemmas.{lacks}
use Rattle.stmt_parser.proofs.pieces.expect.Goals as goal

pub returns-in-None : goal.returns-in-None
returns-in-None c = lacks c.args.wanted c.args.tokens.now _ c.in-None.ensures refl
