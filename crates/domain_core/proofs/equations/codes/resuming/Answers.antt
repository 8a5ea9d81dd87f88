use Rattle.std.proofs.Common.{subst, sym, length}
use Rattle.domain_core.specs.equations.BuiltForms.{plain}
use Rattle.plain_code.specs.Formulas.{FitsFrame}
use Rattle.std.specs.Prelude.{IfOk}
use Rattle.domain_core.specs.equations.Circuit.{resume}
use Rattle.domain_core.specs.equations.BuiltCodes.{Below, Shows, head}
use Rattle.domain_core.proofs.lemmas.equations.CircuitStarts.{IsMade, made_resume, shown}
use Rattle.domain_core.proofs.equations.codes.resuming.Goals as goal

pub finish-requires-clause-end : goal.finish-requires-clause-end
finish-requires-clause-end c = (made_resume c.in_ok-parts.parts c.resume.new.parts (plain c.args.term.now) c.in_ok-end.end c.args.signals c.requires.can c.in_ok-parts.ensures.equations c.in_ok-parts.ensures.sets c.in_ok-parts.ensures.emits c.in_ok-end.ensures).end_below

pub finish-requires-clause-emits : goal.finish-requires-clause-emits
finish-requires-clause-emits c = (made_resume c.in_ok-parts.parts c.resume.new.parts (plain c.args.term.now) c.in_ok-end.end c.args.signals c.requires.can c.in_ok-parts.ensures.equations c.in_ok-parts.ensures.sets c.in_ok-parts.ensures.emits c.in_ok-end.ensures).emits_below

pub finish-requires-clause-ordered : goal.finish-requires-clause-ordered
finish-requires-clause-ordered c = (made_resume c.in_ok-parts.parts c.resume.new.parts (plain c.args.term.now) c.in_ok-end.end c.args.signals c.requires.can c.in_ok-parts.ensures.equations c.in_ok-parts.ensures.sets c.in_ok-parts.ensures.emits c.in_ok-end.ensures).ordered

pub finish-requires-clause-sets : goal.finish-requires-clause-sets
finish-requires-clause-sets c = subst (λ n. Below n (length c.resume.new.parts.equations.items) c.resume.new.parts.sets.items) (sym c.requires.count) (made_resume c.in_ok-parts.parts c.resume.new.parts (plain c.args.term.now) c.in_ok-end.end c.args.signals c.requires.can c.in_ok-parts.ensures.equations c.in_ok-parts.ensures.sets c.in_ok-parts.ensures.emits c.in_ok-end.ensures).sets_below

pub finish-requires-clause-fits : goal.finish-requires-clause-fits
finish-requires-clause-fits c = subst (λ n. FitsFrame n c.resume.new.parts.equations.items) (sym c.requires.count) (made_resume c.in_ok-parts.parts c.resume.new.parts (plain c.args.term.now) c.in_ok-end.end c.args.signals c.requires.can c.in_ok-parts.ensures.equations c.in_ok-parts.ensures.sets c.in_ok-parts.ensures.emits c.in_ok-end.ensures).fits

pub returns : goal.returns
returns c =
    let b : IsMade c.resume.new.parts (resume (plain c.args.term.now) 2 0) c.in_ok-end.end c.args.count c.args.signals = subst (λ n. IsMade c.resume.new.parts (resume (plain c.args.term.now) 2 0) c.in_ok-end.end n c.args.signals) (sym c.requires.count) (made_resume c.in_ok-parts.parts c.resume.new.parts (plain c.args.term.now) c.in_ok-end.end c.args.signals c.requires.can c.in_ok-parts.ensures.equations c.in_ok-parts.ensures.sets c.in_ok-parts.ensures.emits c.in_ok-end.ensures) in
    let r = shown c.resume.new.parts (resume (plain c.args.term.now) 2 0) c.in_ok-end.end c.args.count c.args.signals c.args.own.now c.finish.result b c.finish.ensures in
    subst (λ n. IfOk c.finish.result (λ built. Shows built.code built.present.items built.next.items built.end head (resume (plain c.args.term.now) 2 0) c.args.own.now n)) c.requires.count r
