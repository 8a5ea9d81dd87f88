use Rattle.sj_main.proofs.ReadTurns.{turns_more, turns_stop, turns_last}
use Rattle.sj_main.proofs.commands.read_list.Goals as goal

pub loop-domain-preserved : goal.loop-domain-preserved
loop-domain-preserved c =
    turns_more c.args.word.now c.loop-domain.left.now c.in-Some-after.rest.now c.loop-domain.turns.items c.push.new.self.items c.in-Some.field-0.domain c.loop-domain.invariant (rw c.in-Some-after.is at c.in-Some.ensures) c.in_ok-push.ensures.items

pub returns-in-None : goal.returns-in-None
returns-in-None c =
    turns_last c.args.word.now c.loop-domain.left.now c.loop-domain.turns.items c.push.new.self.items c.in-Some.field-0.domain c.loop-domain.invariant (rw c.in-None.is at c.in-Some.ensures) c.in_ok-push.ensures.items

pub unreachable-requires : goal.unreachable-requires
unreachable-requires c = turns_stop c.args.word.now c.loop-domain.left.now c.loop-domain.turns.items c.loop-domain.invariant c.in_default.ensures c.requires
