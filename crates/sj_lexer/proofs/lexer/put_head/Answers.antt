use Rattle.std.proofs.Common.{arith, sym, ◌∙◌}
use Rattle.sj_lexer.proofs.Lexing.{not_at_end, lexeme_bytes, bad_bytes}
use Rattle.sj_lexer.proofs.lexer.put_head.Goals as goal

pub unreachable-requires : goal.unreachable-requires
unreachable-requires c = not_at_end c.args.bytes.now (sym c.make_head.ensures ∙ c.in-AtEnd.is) c.requires.some

pub put-requires : goal.put-requires
put-requires c =
    let w = lexeme_bytes c.args.bytes.now c.in-Lexeme.class c.in-Lexeme.count (sym c.make_head.ensures ∙ c.in-Lexeme.is) c.requires.some in
    omega (arith, w, c.requires.within)

pub overflow_cast-offset : goal.overflow_cast-offset
overflow_cast-offset c =
    let w = bad_bytes c.args.bytes.now c.in-Bad.reason c.in-Bad.offset (sym c.make_head.ensures ∙ c.in-Bad.is) c.requires.some in
    omega (arith, w, c.requires.within)

pub overflow_add-at : goal.overflow_add-at
overflow_add-at c =
    let w = bad_bytes c.args.bytes.now c.in-Bad.reason c.in-Bad.offset (sym c.make_head.ensures ∙ c.in-Bad.is) c.requires.some in
    omega (arith, w, c.requires.within)
