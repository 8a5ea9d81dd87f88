use Rattle.std.proofs.Common.{ap, sym, arith}
use Rattle.sj_ast.specs.declared.expression.Raw as raw
use Rattle.expr_parser.proofs.OperandLemmas.{prefix-reads, least-reads, minus-reads, minus-fails, cast-reads, cast-fails, cast-refused, group-reads, group-fails, group-refused, grow-reads, grow-fails, front-more}
use Rattle.expr_parser.proofs.expression.+expressions.Goals as goal

pub prefix-returns-in-Ok-make_unary : goal.prefix-returns-in-Ok-make_unary
prefix-returns-in-Ok-make_unary t c =
    prefix-reads c.args.source.now c.args.tokens.now c.args.rest.now c.in-Ok.read.rest.now c.args.first.now c.args.op c.args.depth c.args.operators c.in-Ok.read.value.operators c.in-Ok.read.value.tree c.in-Ok-make_unary.tree
    c.requires.is c.requires.role c.if-operators-ge-MOST_OPERATORS.false c.in-Ok-make_unary.ensures c.in-Ok.ensures

pub minus-returns-in-Some : goal.minus-returns-in-Some
minus-returns-in-Some t c =
    least-reads c.args.source.now c.args.tokens.now c.args.rest.now c.in-Some.number.rest.now c.args.first.now c.in-Some.number.value c.args.depth c.args.operators (raw.Least c.args.first.now.start c.least_of.result)
    c.requires.is c.requires.role c.if-operators-ge-MOST_OPERATORS.false c.in-Some.ensures (ap (raw.Least c.args.first.now.start) c.least_of.ensures)

pub minus-returns-in-Ok-make_unary : goal.minus-returns-in-Ok-make_unary
minus-returns-in-Ok-make_unary t c =
    minus-reads c.args.source.now c.args.tokens.now c.args.rest.now c.in-Ok.read.rest.now c.args.first.now c.args.depth c.args.operators c.in-Ok.read.value.operators c.in-Ok.read.value.tree c.in-Ok-make_unary.tree
    c.requires.is c.requires.role c.if-operators-ge-MOST_OPERATORS.false c.in_default.ensures c.in-Ok-make_unary.ensures c.in-Ok.ensures

pub minus-returns-in-Err : goal.minus-returns-in-Err
minus-returns-in-Err t c = minus-fails c.args.tokens.now c.args.rest.now c.args.first.now c.args.depth c.args.operators c.in-Err.stop c.requires.is c.requires.role c.if-operators-ge-MOST_OPERATORS.false c.in_default.ensures c.in-Err.ensures

pub cast-returns-in_default : goal.cast-returns-in_default
cast-returns-in_default t c = record { fails = λ k. cast-refused c.args.tokens.now c.args.inside.now c.args.rest.now c.args.first.now c.args.kind c.args.depth c.args.operators c.requires.is c.requires.role c.requires.kind c.requires.within c.if-operators-ge-MOST_OPERATORS.false c.in_default.ensures k }

pub cast-returns-in-Ok-make_cast : goal.cast-returns-in-Ok-make_cast
cast-returns-in-Ok-make_cast t c =
    cast-reads c.args.source.now c.args.tokens.now c.args.inside.now c.args.rest.now c.in-Some.close.rest.now c.in-Ok.read.rest.now c.args.first.now c.in-Some.close.value c.args.kind c.args.depth c.args.operators c.in-Ok.read.value.operators c.in-Ok.read.value.tree c.in-Ok-make_cast.tree
    c.requires.is c.requires.role c.requires.kind c.requires.within c.if-operators-ge-MOST_OPERATORS.false c.in-Some.ensures c.in-Ok-make_cast.ensures c.in-Ok.ensures

pub cast-returns-in-Err : goal.cast-returns-in-Err
cast-returns-in-Err t c =
    cast-fails c.args.tokens.now c.args.inside.now c.args.rest.now c.in-Some.close.rest.now c.args.first.now c.in-Some.close.value c.args.kind c.args.depth c.args.operators c.in-Err.stop
    c.requires.is c.requires.role c.requires.kind c.requires.within c.if-operators-ge-MOST_OPERATORS.false c.in-Some.ensures c.in-Err.ensures

pub group-returns-in-Ok-make_group : goal.group-returns-in-Ok-make_group
group-returns-in-Ok-make_group t c =
    group-reads c.args.source.now c.args.tokens.now c.args.rest.now c.in-Ok.read.rest.now c.in-Some.close.rest.now c.args.first.now c.in-Some.close.value c.args.depth c.args.operators c.in-Ok.read.value.operators c.in-Ok.read.value.tree c.in-Ok-make_group.tree
    c.requires.is c.requires.role c.requires.within c.requires.no_kind c.in-Ok-make_group.ensures c.in-Ok.ensures c.in-Some.ensures

pub group-returns-in-Ok : goal.group-returns-in-Ok
group-returns-in-Ok t c = record {
  fails = λ k. group-refused c.args.source.now c.args.tokens.now c.args.rest.now c.in-Ok.read.rest.now c.args.first.now c.args.depth c.args.operators c.in-Ok.read.value.operators c.in-Ok.read.value.tree
      c.requires.is c.requires.role c.requires.within c.requires.no_kind c.in-Ok.ensures c.in-None.ensures k;
}

pub group-returns : goal.group-returns
group-returns t c = group-fails c.args.tokens.now c.args.rest.now c.args.first.now c.args.depth c.args.operators c.in-Err.stop c.requires.is c.requires.role c.requires.within c.requires.no_kind c.in-Err.ensures

pub grow-returns-in-Ok-make_binary : goal.grow-returns-in-Ok-make_binary
grow-returns-in-Ok-make_binary t c =
    grow-reads c.args.source.now c.args.tokens.now c.in-Some.rest.now c.in-Ok.read.rest.now c.in-Some.first.now c.in-Some-infix_of.op c.args.depth c.args.operators c.in-Ok.read.value.operators c.level_of.result c.args.tree c.in-Ok.read.value.tree c.in-Ok-make_binary.tree
    c.in-Some.ensures.cases.0 (sym c.in-Some-infix_of.ensures) c.if-operators-ge-MOST_OPERATORS.false c.level_of.ensures c.in-Ok-make_binary.ensures c.in-Ok.ensures

pub grow-returns-in-Err : goal.grow-returns-in-Err
grow-returns-in-Err t c =
    grow-fails c.args.tokens.now c.in-Some.rest.now c.in-Some.first.now c.in-Some-infix_of.op c.args.depth c.args.operators c.in-Err.stop c.in-Some.ensures.cases.0 (sym c.in-Some-infix_of.ensures) c.if-operators-ge-MOST_OPERATORS.false c.in-Err.ensures

pub expression-loop-alloc-preserved : goal.expression-loop-alloc-preserved
expression-loop-alloc-preserved t c =
    front-more c.args.source.now c.args.tokens.now c.loop-alloc.read.rest.now c.in-Ok-grow.read.rest.now c.args.depth c.args.operators c.args.least c.loop-alloc.read.value.operators c.in-Ok-grow.read.value.operators c.loop-alloc.read.value.tree c.in-Ok-grow.read.value.tree
    (let x = c.loop-alloc-test.true in let y = c.infix_level.ensures in omega arith) c.loop-alloc.invariant c.in-Ok-grow.ensures
