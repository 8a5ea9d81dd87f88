use Rattle.domain_core.specs.definitions.step.Domains.{register_at}
use Rattle.domain_core.proofs.lemmas.step.PhaseTicks.{started, resumed}
use Rattle.std.proofs.Common.{arith, ◌≡◌}
use Rattle.domain_core.proofs.step.parts.tick.Goals as goal

pub returns-then-ticks-eq0-clause-tick : goal.returns-then-ticks-eq0-clause-tick
returns-then-ticks-eq0-clause-tick c =
    let zero : c.args.ticks ≡ 0 = omega (arith, c.if-ticks-eq0.true) in
    started c.args.codes.now c.args.ticks (register_at c.args.registers.now.items) (register_at c.start.new.registers.items) c.start.new.present.items c.start.result
    zero c.start.ensures.tells c.start.ensures.literals c.start.ensures.others

pub returns-else-ticks-eq0-clause-tick : goal.returns-else-ticks-eq0-clause-tick
returns-else-ticks-eq0-clause-tick c =
    resumed c.args.codes.now c.args.ticks (register_at c.args.registers.now.items) (register_at c.resume.new.registers.items) c.resume.new.present.items c.resume.result
    (omega (arith, c.if-ticks-eq0.false)) c.resume.ensures.tells c.resume.ensures.literals c.resume.ensures.others
