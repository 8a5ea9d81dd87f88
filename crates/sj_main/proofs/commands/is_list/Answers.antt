use Rattle.std.proofs.Common.{List, ℕ, Bor}
use Rattle.sj_main.proofs.ReadTurns.{check_stop, check_many, check_end}
use Rattle.sj_main.proofs.commands.is_list.Goals as goal

pub returns-in_default : goal.returns-in_default
returns-in_default c = check_stop c.args.word.now c.loop-domain.left.now c.loop-domain.counts c.loop-domain.invariant c.in_default.ensures

pub returns-then-counts-domain-eq-MOST_TURNS : goal.returns-then-counts-domain-eq-MOST_TURNS
returns-then-counts-domain-eq-MOST_TURNS c =
    check_many (λ (rest : Bor (List ℕ)). rest.now) c.args.word.now c.loop-domain.left.now c.loop-domain.counts c.in-Some.field-0.domain c.in-Some.field-0.after c.loop-domain.invariant c.in-Some.ensures c.if-counts-domain-eq-MOST_TURNS.true

pub returns-in-None : goal.returns-in-None
returns-in-None c =
    check_end c.args.word.now c.loop-domain.left.now c.loop-domain.counts c.in-Some.field-0.domain c.loop-domain.invariant (rw c.in-None.is at c.in-Some.ensures) c.if-counts-domain-eq-MOST_TURNS.false
