use Rattle.std.proofs.Common.{ap, ◌∙◌, ◌+◌, refl, subst, sym, List}
use Rattle.sj_grammar.specs.definitions.Trees.{placed, SourceStmt, SourceBlock}
use Rattle.sj_ast.specs.declared.statement.Form as form
use Rattle.sj_grammar.specs.declared.role.Start.{Start}
use Rattle.stmt_parser.specs.Reading.{ReadsForm, ReadsStmts, ReadsBeside}
use Rattle.stmt_parser.proofs.BlockLemmas.{braces-reads, braces-absent, if-reads, present-reads, while-reads, trap-reads, guarded-reads, weak-reads, loop-reads, empty-reads, stmts-none, stmts-more, other-none, other-reads, beside-none, beside-more, par-reads, par-fails-first, par-fails-others, stmt-fails}
use Rattle.stmt_parser.proofs.block.+statements.Goals as goal

pub braces-returns-in_default : goal.braces-returns-in_default
braces-returns-in_default t c = braces-absent c.args.tokens.now c.args.depth _ c.in_default.ensures refl

pub braces-returns-in-Ok : goal.braces-returns-in-Ok
braces-returns-in-Ok t c = braces-reads c.args.source.now c.args.tokens.now c.in-Some.open.rest.now c.in-Ok.read.rest.now c.in-Some.open.value c.args.depth c.in-Ok.read.value.items c.block_at.result c.in-Some.ensures c.if-depth-ge-MOST_OPEN.false c.in-Ok.ensures c.block_at.ensures

pub branch-returns-in-Ok-other : goal.branch-returns-in-Ok-other
branch-returns-in-Ok-other t c = if-reads c.args.source.now c.args.rest.now c.in-Ok.cond.rest.now c.in-Ok-boxed_braces.yes.rest.now c.in-Ok-other.last.rest.now c.in-Ok.cond.value c.in-Ok-boxed_braces.yes.value c.in-Ok-other.last.value c.args.first.now c.args.depth c.placed.result c.requires c.in-Ok.ensures c.in-Ok-boxed_braces.ensures c.in-Ok-other.ensures c.placed.ensures

pub form-returns-in-Empty : goal.form-returns-in-Empty
form-returns-in-Empty t c = (let P : Start → Type 0 = λ s. ReadsForm c.args.source.now c.args.first.now s c.args.rest.now c.args.depth c.placed.result c.args.rest.now in subst P (sym c.in-Empty.is) (empty-reads c.args.source.now c.args.rest.now c.args.first.now c.args.depth c.placed.result (c.requires.role ∙ c.in-Empty.is) c.placed.ensures))

pub guarded-returns-in-Ok-braces : goal.guarded-returns-in-Ok-braces
guarded-returns-in-Ok-braces t c = guarded-reads c.args.source.now c.args.rest.now c.in-Ok.guard.rest.now c.in-Ok-braces.body.rest.now c.in-Ok.guard.value.immediate c.in-Ok.guard.value.test c.in-Ok-braces.body.value c.args.first.now c.args.depth c.placed.result c.requires c.in-Ok.ensures c.in-Ok-braces.ensures (c.placed.ensures ∙ ap (placed c.args.first.now) c.guarded_form.ensures)

pub inside-loop-alloc-init : goal.inside-loop-alloc-init
inside-loop-alloc-init t c = (let P : List SourceStmt → Type 0 = λ l. ReadsStmts c.args.source.now c.args.tokens.now (c.args.depth + 1) l c.args.tokens.now in subst P (sym c.new-statements.ensures.items) (stmts-none c.args.source.now c.args.tokens.now (c.args.depth + 1)))

pub inside-loop-alloc-preserved : goal.inside-loop-alloc-preserved
inside-loop-alloc-preserved t c = stmts-more c.args.source.now c.args.tokens.now c.loop-alloc.rest.now c.in-Ok.read.rest.now (c.args.depth + 1) c.loop-alloc.statements.items c.add_statement.new.statements.items c.in-Ok.read.value (c.add_statement.ensures c.if-not-add_statement.false) c.loop-alloc.invariant c.in-Ok.ensures

pub looped-returns-in-Ok-expect-2 : goal.looped-returns-in-Ok-expect-2
looped-returns-in-Ok-expect-2 t c = loop-reads c.args.source.now c.args.rest.now c.in-Ok.body.rest.now c.in-Ok-expect.each.rest.now c.in-Ok-read_test_parens.guard.rest.now c.in-Ok-expect-2.end.rest.now c.in-Ok-expect.each.value c.in-Ok-expect-2.end.value c.in-Ok.body.value c.in-Ok-read_test_parens.guard.value c.args.first.now c.args.depth c.placed.result c.requires c.in-Ok.ensures c.in-Ok-expect.ensures c.in-Ok-read_test_parens.ensures c.in-Ok-expect-2.ensures c.placed.ensures

pub other-returns-in_default : goal.other-returns-in_default
other-returns-in_default t c = other-none c.args.source.now c.args.tokens.now c.args.depth c.in_default.ensures

pub other-returns-in-Ok : goal.other-returns-in-Ok
other-returns-in-Ok t c = other-reads c.args.source.now c.args.tokens.now c.in-Some.keyword.rest.now c.in-Ok.read.rest.now c.in-Some.keyword.value c.args.depth c.in-Ok.read.value c.in-Some.ensures c.in-Ok.ensures

pub others-loop-sign-init : goal.others-loop-sign-init
others-loop-sign-init t c = (let P : List SourceBlock → Type 0 = λ l. ReadsBeside c.args.source.now c.args.tokens.now c.args.between c.args.depth l c.args.tokens.now in subst P (sym c.new-blocks.ensures.items) (beside-none c.args.source.now c.args.tokens.now c.args.between c.args.depth))

pub others-loop-sign-preserved : goal.others-loop-sign-preserved
others-loop-sign-preserved t c = beside-more c.args.source.now c.args.tokens.now c.loop-sign.rest.now c.in-Some.sign.rest.now c.in-Ok.read.rest.now c.args.between c.in-Some.sign.value c.args.depth c.loop-sign.blocks.items c.add_block.new.blocks.items c.in-Ok.read.value c.requires (c.add_block.ensures c.if-not-add_block.false) c.loop-sign.invariant c.in-Some.ensures c.in-Ok.ensures

pub par-returns-in-Ok-others : goal.par-returns-in-Ok-others
par-returns-in-Ok-others t c = par-reads c.args.source.now c.args.tokens.now c.args.rest.now c.in-Ok.read.rest.now c.in-Ok-others.last.rest.now c.args.first.now c.args.depth c.in-Ok.read.value c.in-Ok-others.last.value.items c.placed.result c.requires.is c.requires.role c.in-Ok.ensures c.in-Ok-others.ensures (c.placed.ensures ∙ ap (λ (x : List SourceBlock). placed c.args.first.now (form.Par c.in-Ok.read.value x)) c.from_vec.ensures)

pub present-returns-in-Ok-other : goal.present-returns-in-Ok-other
present-returns-in-Ok-other t c = present-reads c.args.source.now c.args.rest.now c.in-Ok.guard.rest.now c.in-Ok-boxed_braces.yes.rest.now c.in-Ok-other.last.rest.now c.in-Ok.guard.value c.in-Ok-boxed_braces.yes.value c.in-Ok-other.last.value c.args.first.now c.args.depth c.placed.result c.requires c.in-Ok.ensures c.in-Ok-boxed_braces.ensures c.in-Ok-other.ensures c.placed.ensures

pub repeat-returns-in-Ok-braces : goal.repeat-returns-in-Ok-braces
repeat-returns-in-Ok-braces t c = while-reads c.args.source.now c.args.rest.now c.in-Ok.inner.now c.in-Ok-braces.body.rest.now c.in-Ok-braces.body.value c.args.first.now c.args.depth c.placed.result c.requires c.in-Ok.ensures c.in-Ok-braces.ensures c.placed.ensures

pub trap-returns-in-Ok-braces : goal.trap-returns-in-Ok-braces
trap-returns-in-Ok-braces t c = trap-reads c.args.source.now c.args.rest.now c.in-Ok.named.rest.now c.in-Ok-braces.body.rest.now c.in-Ok.named.value c.in-Ok-braces.body.value c.args.first.now c.args.depth c.placed.result c.requires c.in-Ok.ensures c.in-Ok-braces.ensures c.placed.ensures

pub weak-returns-in-Ok-braces : goal.weak-returns-in-Ok-braces
weak-returns-in-Ok-braces t c = weak-reads c.args.source.now c.args.rest.now c.in-Ok.keyword.rest.now c.in-Ok-read_guard.guard.rest.now c.in-Ok-braces.body.rest.now c.in-Ok.keyword.value c.in-Ok-read_guard.guard.value.immediate c.in-Ok-read_guard.guard.value.test c.in-Ok-braces.body.value c.args.first.now c.args.depth c.placed.result c.requires c.in-Ok.ensures c.in-Ok-read_guard.ensures c.in-Ok-braces.ensures c.placed.ensures

pub par-returns-in-Ok : goal.par-returns-in-Ok
par-returns-in-Ok t c = par-fails-others c.args.source.now c.args.tokens.now c.args.rest.now c.in-Ok.read.rest.now c.args.first.now c.args.depth c.in-Ok.read.value c.in-Err-others.stop c.requires.is c.requires.role c.in-Ok.ensures c.in-Err-others.ensures

pub par-returns : goal.par-returns
par-returns t c = par-fails-first c.args.tokens.now c.args.rest.now c.args.first.now c.args.depth c.in-Err.stop c.requires.is c.requires.role c.in-Err.ensures

pub statement-returns-in-Err : goal.statement-returns-in-Err
statement-returns-in-Err t c = stmt-fails c.in-Some.first.now c.start_of-start.result c.args.tokens.now c.in-Some.rest.now c.args.depth c.in-Err.stop c.in-Some.ensures.cases.0 (sym c.start_of-start.ensures) (sym c.is_form.ensures ∙ c.if-not-is_form.false) c.in-Err.ensures
