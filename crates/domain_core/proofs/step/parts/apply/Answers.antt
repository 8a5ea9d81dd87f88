use Rattle.domain_core.proofs.lemmas.step.NoJoins.{applies_nothing}
use Rattle.domain_core.proofs.step.parts.apply.Goals as goal

pub returns-then-none_answered-clause-applies : goal.returns-then-none_answered-clause-applies
returns-then-none_answered-clause-applies c =
    applies_nothing c.args.program.now c.args.state.now c.args.answers.now c.args.ticks (c.none_answered.ensures.none c.if-none_answered.true) c.requires.limit
