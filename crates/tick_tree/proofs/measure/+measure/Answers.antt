use Rattle.std.proofs.Common.{sym, ap, ◌∙◌, subst, false}
use Rattle.kernel_terms.specs.declared.term.Form.TheViews as Form
use Rattle.kernel_terms.specs.Expressions.{expression, test}
use Rattle.kernel_terms.specs.Statements.{optional_expression, statement}
use Rattle.tick_tree.specs.Measures.{IsMeasure}
use Rattle.tick_tree.proofs.StatementLayers.{statement-Emit, statement-Assign, statement-Abort, statement-Suspend, statement-Send}
use Rattle.tick_tree.proofs.PartLists.{body-Abort, body-Suspend}
use Rattle.tick_tree.proofs.measure.+measure.Goals as goal

pub measured-returns-in-Emit : goal.measured-returns-in-Emit
measured-returns-in-Emit t c = λ fits.
    subst (λ p. IsMeasure p c.at_once-in-Emit.result) (sym (statement-Emit c.args.term.now c.in-Emit.signal c.in-Emit.value c.in-Emit.is))
    (c.at_once-in-Emit.ensures.emission c.in-Emit.signal (optional_expression c.in-Emit.value) c.of_value.ensures)

pub measured-returns-in-Assign : goal.measured-returns-in-Assign
measured-returns-in-Assign t c = λ fits.
    subst (λ p. IsMeasure p c.at_once-in-Assign.result) (sym (statement-Assign c.args.term.now c.in-Assign.var c.in-Assign.value c.in-Assign.is))
    (c.at_once-in-Assign.ensures.assignment c.in-Assign.var (expression c.in-Assign.value) c.of_expression.ensures)

pub measured-returns-in-If : goal.measured-returns-in-If
measured-returns-in-If t c = λ fits.
    subst (λ p. IsMeasure p c.either.result) (sym c.if_parts_fit.ensures.statement)
    (c.either.ensures.by_condition (expression c.in-If.cond) (statement c.get-yes.result.now) (statement c.get-other.result.now) c.of_expression-in-If.ensures (c.measured.ensures (c.if_parts_fit.ensures.left fits)) (c.measured-in-If.ensures (c.if_parts_fit.ensures.right fits)))

pub measured-returns-in-Present : goal.measured-returns-in-Present
measured-returns-in-Present t c = λ fits.
    subst (λ p. IsMeasure p c.either-in-Present.result) (sym c.present_parts_fit.ensures.statement)
    (c.either-in-Present.ensures.by_test (test c.in-Present.test) (statement c.get-yes-in-Present.result.now) (statement c.get-other-in-Present.result.now) c.of_test.ensures (c.measured-in-Present.ensures (c.present_parts_fit.ensures.left fits)) (c.measured-in-Present-2.ensures (c.present_parts_fit.ensures.right fits)))

pub measured-returns-in-Abort : goal.measured-returns-in-Abort
measured-returns-in-Abort t c = λ fits.
    let body = c.get-in-Abort.result.now in
    let form = c.in-Abort.is ∙ ap (Form.Abort c.in-Abort.weak c.in-Abort.immediate c.in-Abort.test) (sym c.get-in-Abort.ensures) in
    subst (λ p. IsMeasure p c.aborted.result)
    (sym (statement-Abort c.args.term.now c.in-Abort.weak c.in-Abort.immediate c.in-Abort.test body form))
    (c.aborted.ensures c.in-Abort.weak (test c.in-Abort.test) (statement body) c.of_test-in-Abort.ensures
    (c.measured-in-Abort.ensures (body-Abort c.args.term.now c.in-Abort.weak c.in-Abort.immediate c.in-Abort.test body form fits)))

pub measured-returns-in-Suspend : goal.measured-returns-in-Suspend
measured-returns-in-Suspend t c = λ fits.
    let body = c.get-in-Suspend.result.now in
    let form = c.in-Suspend.is ∙ ap (Form.Suspend c.in-Suspend.test) (sym c.get-in-Suspend.ensures) in
    subst (λ p. IsMeasure p c.suspended.result)
    (sym (statement-Suspend c.args.term.now c.in-Suspend.test body form))
    (c.suspended.ensures false (test c.in-Suspend.test) (statement body) c.of_test-in-Suspend.ensures
    (c.measured-in-Suspend.ensures (body-Suspend c.args.term.now c.in-Suspend.test body form fits)))

pub measured-returns-in-Send : goal.measured-returns-in-Send
measured-returns-in-Send t c = λ fits.
    subst (λ p. IsMeasure p c.waits-in-Send.result) (sym (statement-Send c.args.term.now c.in-Send.channel c.in-Send.value c.in-Send.is))
    (c.waits-in-Send.ensures.send c.in-Send.channel (expression c.in-Send.value) c.of_expression-in-Send.ensures)
