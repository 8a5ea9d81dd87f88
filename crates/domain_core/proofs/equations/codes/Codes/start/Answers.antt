use Rattle.std.proofs.Common.{length, arith, ◌∙◌, sym, subst}
use Rattle.domain_core.specs.equations.Circuit.{start}
use Rattle.domain_core.specs.equations.BuiltCodes.{AreBelow, StepsOn}
use Rattle.domain_core.proofs.lemmas.equations.CodeLiterals.{below_literals}
use Rattle.domain_core.proofs.lemmas.equations.CodeTicks.{first_tick, first_holds, rest_stays, can_step}
use Rattle.domain_core.proofs.equations.codes.Codes.start.Goals as goal

pub tick-requires-clause-literals : goal.tick-requires-clause-literals
tick-requires-clause-literals c =
    let a = c.requires.are.are in
    subst (λ l. AreBelow (length c.args.registers.now.items) l) (sym (c.deref.ensures.value ∙ a.all_literals)) (below_literals c.requires.are.source 0 (length c.args.registers.now.items) (omega (arith, c.requires.registers, a.register_count)))

pub returns-clause-tells : goal.returns-clause-tells
returns-clause-tells c = λ tables p n own a.
    first_tick tables c.args.self.now p n own c.args.registers.now.items c.tick.new.registers.items c.tick.new.present.items c.tick.result a c.requires.registers
    (subst (λ l. StepsOn c.args.self.now.starting l c.args.registers.now.items c.tick.new.present.items c.tick.new.registers.items c.tick.result) c.deref.ensures.value c.tick.ensures.steps)

pub returns-clause-literals : goal.returns-clause-literals
returns-clause-literals c = λ p n own a.
    first_holds c.args.self.now p n own c.args.registers.now.items c.tick.new.registers.items c.tick.new.present.items c.tick.result a c.requires.registers
    (subst (λ l. StepsOn c.args.self.now.starting l c.args.registers.now.items c.tick.new.present.items c.tick.new.registers.items c.tick.result) c.deref.ensures.value c.tick.ensures.steps)

pub tick-requires-clause-can : goal.tick-requires-clause-can
tick-requires-clause-can c =
    let a = c.requires.are.are in
    can_step c.args.self.now.starting c.requires.are.source (start c.requires.are.source 2 1 0) c.requires.are.own (length c.args.registers.now.items) (length c.args.present.now.items) a.starting
    (omega (arith, c.requires.registers, a.register_count)) (c.requires.present ∙ a.signal_count)

pub returns-clause-others : goal.returns-clause-others
returns-clause-others c = λ k past.
    let a = c.requires.are.are in
    rest_stays c.args.self.now.starting c.requires.are.source (start c.requires.are.source 2 1 0) c.requires.are.own c.args.registers.now.items c.tick.new.registers.items c.tick.new.present.items c.tick.result a.starting
    (subst (λ l. StepsOn c.args.self.now.starting l c.args.registers.now.items c.tick.new.present.items c.tick.new.registers.items c.tick.result) (c.deref.ensures.value ∙ a.all_literals) c.tick.ensures.steps) k (omega (arith, past, a.register_count))
