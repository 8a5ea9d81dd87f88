use Rattle.std.proofs.Common.{rules, drop, map, ap, sym, ◌∙◌, ◌+◌, arith}
use Rattle.java_types.specs.definitions.Checks.{all_checked}
use Rattle.java_types.specs.definitions.TypedTrees.{checked_block}
use Rattle.java_types.proofs.FormLemmas.{is_exit, is_receive, is_await, condition_fails}
use Rattle.java_types.proofs.ListLemmas.{drop_next, lists_next, lists_fail, prepended}
use Rattle.java_types.proofs.statements.+typing.Goals as goal

pub larger_form-returns-in_err-cond-in-If : goal.larger_form-returns-in_err-cond-in-If
larger_form-returns-in_err-cond-in-If t c =
    let fails = condition_fails c.args.tables.now c.args.form.now c.in-If.cond c.in-If.yes c.in-If.other c.in_err-cond-in-If.field-0.0 c.in-If.is c.in_err-cond-in-If.ensures in search rules

pub larger_form-returns-in-Exit : goal.larger_form-returns-in-Exit
larger_form-returns-in-Exit t c = is_exit c.args.tables.now c.args.form.now c.in-Exit.name_at c.in-Exit.name c.in-Exit.is

pub larger_form-returns-in-Receive : goal.larger_form-returns-in-Receive
larger_form-returns-in-Receive t c = is_receive c.args.tables.now c.args.form.now c.in-Receive.name_at c.in-Receive.name c.in-Receive.is

pub larger_form-returns-in_ok-test-in-Await : goal.larger_form-returns-in_ok-test-in-Await
larger_form-returns-in_ok-test-in-Await t c =
    let same = c.in_ok-test-in-Await.ensures in is_await c.args.tables.now c.args.form.now c.in-Await.immediate c.in_ok-test-in-Await.test (cc)

pub blocks-returns-in_err-part : goal.blocks-returns-in_err-part
blocks-returns-in_err-part t c =
    let more = drop_next c.args.blocks.now c.loop-part.part-index c.part-item.result (let l = c.loop-part-test.true in omega arith) c.part-item.is in
    let fails = lists_fail (checked_block c.args.tables.now) (all_checked (map (checked_block c.args.tables.now) c.args.blocks.now)) c.loop-part.typed.items (drop c.loop-part.part-index c.args.blocks.now) (drop (c.loop-part.part-index + 1) c.args.blocks.now) c.part-item.result c.in_err-part.field-0.0
    c.loop-part.invariant more c.in_err-part.ensures
    in search rules

pub blocks-loop-part-preserved : goal.blocks-loop-part-preserved
blocks-loop-part-preserved t c =
    let more = drop_next c.args.blocks.now c.loop-part.part-index c.part-item.result (let l = c.loop-part-test.true in omega arith) c.part-item.is in
    c.loop-part.invariant
    ∙ lists_next (checked_block c.args.tables.now) c.loop-part.typed.items (drop c.loop-part.part-index c.args.blocks.now) (drop (c.loop-part.part-index + 1) c.args.blocks.now) c.part-item.result c.in_ok-part.part more c.in_ok-part.ensures
    ∙ ap (λ xs. prepended xs (all_checked (map (checked_block c.args.tables.now) (drop (c.loop-part.part-index + 1) c.args.blocks.now)))) (sym c.in_ok-add.ensures)
