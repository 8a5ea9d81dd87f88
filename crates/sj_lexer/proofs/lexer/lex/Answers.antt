use Rattle.std.proofs.Common.{length, arith, ap, refl, sym, ◌∙◌}
use Rattle.sj_lexer.proofs.Lexing.{shorter}
use Rattle.sj_lexer.proofs.Steps.{not_none, adds_within, adds_on, stops_why}
use Rattle.sj_lexer.proofs.lexer.lex.Goals as goal

pub after-rest-requires : goal.after-rest-requires
after-rest-requires c = (adds_within c.loop-rest.rest.now c.loop-rest.at c.in-Ok.bytes _ _ c.in-len1-up.len_at_least c.in-Ok.ensures).1

pub overflow_cast-at : goal.overflow_cast-at
overflow_cast-at c =
    let w = (adds_within c.loop-rest.rest.now c.loop-rest.at c.in-Ok.bytes _ _ c.in-len1-up.len_at_least c.in-Ok.ensures).1 in
    omega (arith, w, c.loop-rest.invariant.whole, c.requires)

pub overflow_add-at : goal.overflow_add-at
overflow_add-at c =
    let w = (adds_within c.loop-rest.rest.now c.loop-rest.at c.in-Ok.bytes _ _ c.in-len1-up.len_at_least c.in-Ok.ensures).1 in
    omega (arith, w, c.loop-rest.invariant.whole, c.requires)

pub loop-rest-smaller : goal.loop-rest-smaller
loop-rest-smaller c =
    let w = adds_within c.loop-rest.rest.now c.loop-rest.at c.in-Ok.bytes _ _ c.in-len1-up.len_at_least c.in-Ok.ensures in
    shorter c.loop-rest.rest.now c.after-rest.result.now c.in-Ok.bytes w.0 w.1 c.after-rest.ensures

pub loop-rest-preserved : goal.loop-rest-preserved
loop-rest-preserved c =
    adds_on c.args.source.now c.loop-rest.rest.now c.after-rest.result.now c.loop-rest.tokens.items c.step.new.tokens.items c.loop-rest.at c.in-Ok.bytes c.loop-rest.invariant c.in-len1-up.len_at_least c.in-Ok.ensures c.after-rest.ensures

pub returns-in-Err-clause-why : goal.returns-in-Err-clause-why
returns-in-Err-clause-why c = stops_why c.args.source.now c.loop-rest.rest.now c.loop-rest.tokens.items c.loop-rest.at c.in-Err.error c.loop-rest.invariant c.in-Err.ensures
