use Rattle.std.proofs.Common.{arith, sym, subst, ◌∙◌, MatchResult}
use Rattle.sj_lexer.specs.declared.head.Fault.TheVariants as fault
use Rattle.sj_lexer.specs.definitions.Signs.{longest_sign}
use Rattle.sj_lexer.specs.definitions.Readings.{IsRefused}
use Rattle.sj_lexer.specs.Lexing.{Adds, Stops}
use Rattle.sj_lexer.proofs.Tables.{sign_some, sign_none}
use Rattle.sj_lexer.proofs.Steps.{sign_bytes, same_place}
use Rattle.sj_lexer.proofs.lexer.put_sign.Goals as goal

pub put-requires : goal.put-requires
put-requires c =
    let w = sign_bytes c.args.bytes.now c.in-Some.mark c.in-Some.count (sign_some (longest_sign c.args.bytes.now) c.in-Some.mark c.in-Some.count (sym c.longest_sign.ensures ∙ c.in-Some.is)) in
    omega (arith, w, c.requires)

pub returns-in-Some : goal.returns-in-Some
returns-in-Some c =
    subst (λ h. MatchResult c.put.result (Adds h c.args.at c.args.tokens.now.items c.put.new.tokens.items) (Stops h c.args.at))
    (sign_some (longest_sign c.args.bytes.now) c.in-Some.mark c.in-Some.count (sym c.longest_sign.ensures ∙ c.in-Some.is)) c.put.ensures

pub returns-in-None : goal.returns-in-None
returns-in-None c =
    subst (λ h. Stops h c.args.at c.refused.result)
    (sign_none (longest_sign c.args.bytes.now) (sym c.longest_sign.ensures ∙ c.in-None.is)) (λ source r. c.refused.ensures source (subst (IsRefused source fault.BadByte) (same_place c.args.at) r))
