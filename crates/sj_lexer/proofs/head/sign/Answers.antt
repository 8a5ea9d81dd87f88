use Rattle.std.proofs.Common.{◌∙◌, sym}
use Rattle.sj_lexer.specs.definitions.Signs.{longest_sign}
use Rattle.sj_lexer.proofs.Tables.{sign_some, sign_none}
use Rattle.sj_lexer.proofs.head.sign.Goals as goal

pub returns-in-Some : goal.returns-in-Some
returns-in-Some c = sign_some (longest_sign c.args.bytes.now) c.in-Some.mark c.in-Some.bytes (sym c.longest_sign.ensures ∙ c.in-Some.is)

pub returns-in-None : goal.returns-in-None
returns-in-None c = sign_none (longest_sign c.args.bytes.now) (sym c.longest_sign.ensures ∙ c.in-None.is)
