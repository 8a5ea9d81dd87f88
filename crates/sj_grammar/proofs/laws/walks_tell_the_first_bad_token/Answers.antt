use Rattle.sj_grammar.proofs.WalkStops.{tells}
use Rattle.sj_grammar.proofs.laws.walks_tell_the_first_bad_token.Goals as goal

pub returns : goal.returns
returns c = tells
