use Rattle.std.proofs.Common.{drop, ◌+◌, arith, refl}
use Rattle.sj_accept.proofs.StatementLemmas.{statements_more, statements_end, term_of_block, term_of_loop}
use Rattle.sj_accept.proofs.statements.+lowering.Goals as goal

pub block_term-loop-i-preserved : goal.block_term-loop-i-preserved
block_term-loop-i-preserved t c =
    statements_more c.as_slice-statements.result.now (drop c.loop-i.i c.as_slice-statements.result.now) (drop (c.loop-i.i + 1) c.as_slice-statements.result.now) c.loop-i.terms.items c.push.new.self.items c.index-statements-i.result c.in-Some.term
    c.begins_with_item.ensures c.in_ok-push.ensures.items (rw c.in-Some.is at c.in_ok-term.ensures.value) (rw c.in-Some.is at c.in_ok-term.ensures.term) c.loop-i.invariant

pub block_term-returns-clause-value : goal.block_term-returns-clause-value
block_term-returns-clause-value t c =
    statements_end c.args.block.now c.as_slice-statements.result.now c.loop-i.i c.loop-i.terms.items c.sequence.result c.as_slice-statements.ensures (let l = c.loop-i-test.false in omega arith) c.sequence.ensures.value c.loop-i.invariant

pub block_term-returns-clause-term : goal.block_term-returns-clause-term
block_term-returns-clause-term t c =
    term_of_block c.args.block.now c.as_slice-statements.result.now (drop c.loop-i.i c.as_slice-statements.result.now) _ c.loop-i.terms.items c.sequence.result c.as_slice-statements.ensures c.sequence.ensures.value c.loop-i.invariant

pub statement_term-returns-in_ok-new-in-While-clause-term : goal.statement_term-returns-in_ok-new-in-While-clause-term
statement_term-returns-in_ok-new-in-While-clause-term t c =
    term_of_loop c.args.statement.now _ c.in-While.body c.in_ok-new-in-While.field-0 c.in-While.is refl (rw c.in_ok-new-in-While.ensures (rw c.in-Some.is at c.in_ok-body-in-While.ensures.term))
