use Rattle.std.proofs.Common.{ap, length, ◌∙◌, sym, subst}
use Rattle.domain_core.specs.equations.BuiltForms.{plain, ends1}
use Rattle.kernel_terms.specs.MayEnd as rules
use Rattle.domain_core.specs.equations.Circuit.{start, resume}
use Rattle.domain_core.specs.equations.CircuitLists.{Adds}
use Rattle.kernel_terms.specs.declared.term.Term.{Term}
use Rattle.domain_core.proofs.lemmas.equations.CircuitBuilding.{resume_loop_again}
use Rattle.domain_core.proofs.equations.builder.+resume.Goals as goal

pub resume-returns-in_ok-start-in-Loop :
    goal.resume-returns-in_ok-start-in-Loop
resume-returns-in_ok-start-in-Loop t c =
    let body = c.in-Loop.body in
    let old = c.args.parts.now in
    let mid = c.resume.new.parts in
    let x : Adds old mid (resume (plain body) (length old.equations.items) c.args.register) c.in_ok-done-in-Loop.done =
    subst (λ (b : Term). Adds old mid (resume (plain b) (length old.equations.items) c.args.register) c.in_ok-done-in-Loop.done) c.get-body.ensures c.in_ok-done-in-Loop.ensures in
    let y : Adds mid c.start.new.parts (start (plain body) (length mid.equations.items) c.in_ok-done-in-Loop.done c.args.register) c.in_ok-start-in-Loop.field-0 =
    subst (λ (b : Term). Adds mid c.start.new.parts (start (plain b) (length mid.equations.items) c.in_ok-done-in-Loop.done c.args.register) c.in_ok-start-in-Loop.field-0) c.get-body.ensures c.in_ok-start-in-Loop.ensures in
    let told = c.ends1.ensures c.built_exits_fit.ensures.fit ∙ ap rules.ends1 c.built_exits_fit.ensures.statement in
    let may = ap (λ (b : Term). ends1 (plain b)) (sym c.get-body.ensures) ∙ sym told ∙ c.if-ends1.true in
    resume_loop_again old mid c.start.new.parts c.args.term.now body c.args.register c.in_ok-done-in-Loop.done c.in_ok-start-in-Loop.field-0 c.in-Loop.is may x y
