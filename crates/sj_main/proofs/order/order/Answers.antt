use Rattle.std.proofs.Common.{subst}
use Rattle.std.specs.Prelude.{IfSome}
use Rattle.sj_accept.specs.definitions.Systems.{Accepts}
use Rattle.sj_main.specs.declared.order.Made.{Made}
use Rattle.sj_main.specs.OrderSteps.{IsMadeFrom, IsWhyNotMade}
use Rattle.sj_main.proofs.SourceSystemLemmas.{can_compile}
use Rattle.sj_main.proofs.OrderLemmas.{why, made_from, told_such, passed_on}
use Rattle.sj_main.proofs.order.order.Goals as goal

pub run_of-requires-clause-can : goal.run_of-requires-clause-can
run_of-requires-clause-can g c = can_compile c.deref.result.now c.in-Ok-accept.system c.in-Ok-accept.ensures

pub returns-in_err-run-clause-why : goal.returns-in_err-run-clause-why
returns-in_err-run-clause-why g c =
    let accepts = subst (λ b. Accepts b c.in-Ok-accept.system) c.deref.ensures.value c.in-Ok-accept.ensures in
    passed_on c.from_residual.result c.in_err-run.field-0.0 (λ e. IfSome (g.F.Files.told c.args.files.now c.args.file.now) (λ bytes. IsWhyNotMade bytes c.args.turns.now e))
    c.from_residual.ensures.1
    (told_such (g.F.Files.told c.args.files.now c.args.file.now) c.in-Ok.bytes.items (λ bytes. IsWhyNotMade bytes c.args.turns.now c.in_err-run.field-0.0) c.in-Ok.ensures.whole
    (why c.in-Ok.bytes.items c.in-Ok-accept.system c.args.turns.now c.in_err-run.field-0.0 accepts c.in_err-run.ensures.why))

pub returns-clause-made : goal.returns-clause-made
returns-clause-made g c =
    let accepts = subst (λ b. Accepts b c.in-Ok-accept.system) c.deref.ensures.value c.in-Ok-accept.ensures in
    let made : Made = record { system = c.in-Ok-accept.system; run = c.in_ok-run.run' } in
    told_such (g.F.Files.told c.args.files.now c.args.file.now) c.in-Ok.bytes.items (λ bytes. IsMadeFrom bytes c.args.turns.now made) c.in-Ok.ensures.whole
    (made_from c.in-Ok.bytes.items c.args.turns.now made accepts c.in_ok-run.ensures.runs)
