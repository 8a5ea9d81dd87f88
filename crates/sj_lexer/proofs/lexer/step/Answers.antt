use Rattle.std.proofs.Common.{sym, subst, ◌∙◌, MatchResult}
use Rattle.sj_lexer.specs.Lexing.{Adds, Stops}
use Rattle.sj_lexer.proofs.Steps.{letter_head}
use Rattle.sj_lexer.proofs.lexer.step.Goals as goal

pub returns-then-is_letter : goal.returns-then-is_letter
returns-then-is_letter c =
    subst (λ h. MatchResult c.put_word.result (Adds h c.args.at c.args.tokens.now.items c.put_word.new.tokens.items) (Stops h c.args.at))
    (letter_head c.args.bytes.now c.args.first c.args.rest.now c.run_of.result.now c.requires.is (sym c.is_letter.ensures ∙ c.if-is_letter.true) c.run_of.ensures) c.put_word.ensures
