use Rattle.std.proofs.Common.{sym, arith}
use Rattle.expr_parser.proofs.TestOperandLemmas.{not-reads, group-reads, group-fails, group-refused, grow-reads, grow-fails, front-more}
use Rattle.expr_parser.proofs.test_parser.+tests.Goals as goal

pub not-returns-in-Ok-make_not : goal.not-returns-in-Ok-make_not
not-returns-in-Ok-make_not t c =
    not-reads c.args.source.now c.args.tokens.now c.args.rest.now c.in-Ok.read.rest.now c.args.first.now c.args.depth c.args.operators c.in-Ok.read.value.operators c.in-Ok.read.value.tree c.in-Ok-make_not.tree
    c.requires.is c.requires.role c.if-operators-ge-MOST_OPERATORS.false c.in-Ok-make_not.ensures c.in-Ok.ensures

pub test_group-returns-in-Ok-make_test_group : goal.test_group-returns-in-Ok-make_test_group
test_group-returns-in-Ok-make_test_group t c =
    group-reads c.args.source.now c.args.tokens.now c.args.rest.now c.in-Ok.read.rest.now c.in-Some.close.rest.now c.args.first.now c.in-Some.close.value c.args.depth c.args.operators c.in-Ok.read.value.operators c.in-Ok.read.value.tree c.in-Ok-make_test_group.tree
    c.requires.is c.requires.role c.if-depth-ge-MOST_OPEN.false c.in-Ok-make_test_group.ensures c.in-Ok.ensures c.in-Some.ensures

pub test_group-returns-in-Ok : goal.test_group-returns-in-Ok
test_group-returns-in-Ok t c = record {
  fails = λ k. group-refused c.args.source.now c.args.tokens.now c.args.rest.now c.in-Ok.read.rest.now c.args.first.now c.args.depth c.args.operators c.in-Ok.read.value.operators c.in-Ok.read.value.tree
      c.requires.is c.requires.role c.if-depth-ge-MOST_OPEN.false c.in-Ok.ensures c.in-None.ensures k;
}

pub test_group-returns : goal.test_group-returns
test_group-returns t c = group-fails c.args.tokens.now c.args.rest.now c.args.first.now c.args.depth c.args.operators c.in-Err.stop c.requires.is c.requires.role c.if-depth-ge-MOST_OPEN.false c.in-Err.ensures

pub grow_test-returns-in-Ok-make_join : goal.grow_test-returns-in-Ok-make_join
grow_test-returns-in-Ok-make_join t c =
    grow-reads c.args.source.now c.args.tokens.now c.in-Some.rest.now c.in-Ok.read.rest.now c.in-Some.first.now c.in-Some-join_of.join c.args.depth c.args.operators c.in-Ok.read.value.operators c.join_level.result c.args.tree c.in-Ok.read.value.tree c.in-Ok-make_join.tree
    c.in-Some.ensures.cases.0 (sym c.in-Some-join_of.ensures) c.if-operators-ge-MOST_OPERATORS.false c.join_level.ensures c.in-Ok-make_join.ensures c.in-Ok.ensures

pub grow_test-returns-in-Err : goal.grow_test-returns-in-Err
grow_test-returns-in-Err t c =
    grow-fails c.args.tokens.now c.in-Some.rest.now c.in-Some.first.now c.in-Some-join_of.join c.args.depth c.args.operators c.in-Err.stop c.in-Some.ensures.cases.0 (sym c.in-Some-join_of.ensures) c.if-operators-ge-MOST_OPERATORS.false c.in-Err.ensures

pub test_from-loop-alloc-preserved : goal.test_from-loop-alloc-preserved
test_from-loop-alloc-preserved t c =
    front-more c.args.source.now c.args.tokens.now c.loop-alloc.read.rest.now c.in-Ok-grow_test.read.rest.now c.args.depth c.args.operators c.args.least c.loop-alloc.read.value.operators c.in-Ok-grow_test.read.value.operators c.loop-alloc.read.value.tree c.in-Ok-grow_test.read.value.tree
    (let x = c.loop-alloc-test.true in let y = c.join_level_of.ensures in omega arith) c.loop-alloc.invariant c.in-Ok-grow_test.ensures
