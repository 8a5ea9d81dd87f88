use Rattle.std.proofs.Common.{◌+◌, ◌≤◌, arith, refl, sym, ap, ◌∙◌, subst}
use Rattle.cell_core.specs.declared.moves.CellMove.TheVariants.{Recall}
use Rattle.channel_cell.specs.definitions.Channels.{EndState}
use Rattle.channel_cell.specs.Rule.{knows_in}
use Rattle.channel_cell.specs.Calls.{moves_in, tally_in, Done}
use Rattle.channel_cell.proofs.NextMoveLemmas.{small}
use Rattle.channel_cell.proofs.AnsweredMoves.{keeps_after, made, stands_seen}
use Rattle.channel_cell.proofs.ends.End.recall.Goals as goal

pub overflow_sub-self : goal.overflow_sub-self
overflow_sub-self c =
    let k = c.self.invariant in
    let up = stands_seen (tally_in c.self.inside.seat.me) (ap (λ (v : EndState). v.offer) c.self.view_is) ∙ c.requires.standing in
    omega (arith, k.counter_is, (small (moves_in c.self.inside.seat.me)).high up)

pub overflow_add-self : goal.overflow_add-self
overflow_add-self c = let k = c.self.invariant in omega (arith, (small (moves_in c.self.inside.seat.me)).joins, k.joins_are, k.room_is)

pub invariant_of-self : goal.invariant_of-self
invariant_of-self c =
    let k = c.self.invariant in
    let some_room : 1 ≤ c.self.inside.room = subst (λ n. 1 ≤ n) (sym (ap (λ (v : EndState). v.room) c.self.view_is)) c.requires.room in
    let up = stands_seen (tally_in c.self.inside.seat.me) (ap (λ (v : EndState). v.offer) c.self.view_is) ∙ c.requires.standing in
    let t = tally_in c.self.inside.seat.me in
    let d = subst (λ x. Done c.self.inside.side (knows_in c.self.inside.seat.me.0) (Recall c.self.inside.side) t.value t.stamp x c.call_back-answer.new.seat.me) c.in-Some.is c.call_back-answer.ensures.done in
    keeps_after k c.call_back-answer.ensures.seat d refl _ _ _ _ _ _ (ap (λ n. n + 1) k.joins_are) (omega (arith, k.counter_is, (small (moves_in c.self.inside.seat.me)).high up)) refl k.value_is k.stamp_is (omega (arith, some_room))

pub invariant_of-self-in-None : goal.invariant_of-self-in-None
invariant_of-self-in-None c =
    let k = c.self.invariant in
    let some_room : 1 ≤ c.self.inside.room = subst (λ n. 1 ≤ n) (sym (ap (λ (v : EndState). v.room) c.self.view_is)) c.requires.room in
    let up = stands_seen (tally_in c.self.inside.seat.me) (ap (λ (v : EndState). v.offer) c.self.view_is) ∙ c.requires.standing in
    let t = tally_in c.self.inside.seat.me in
    let d = subst (λ x. Done c.self.inside.side (knows_in c.self.inside.seat.me.0) (Recall c.self.inside.side) t.value t.stamp x c.call_back-answer.new.seat.me) c.in-None.is c.call_back-answer.ensures.done in
    keeps_after k c.call_back-answer.ensures.seat d refl _ _ _ _ _ _ k.joins_are (omega (arith, k.counter_is, (small (moves_in c.self.inside.seat.me)).high up)) refl k.value_is k.stamp_is (omega (arith, some_room))

pub returns-in-Some-clause-made : goal.returns-in-Some-clause-made
returns-in-Some-clause-made c =
    let some_room : 1 ≤ c.self.inside.room = subst (λ n. 1 ≤ n) (sym (ap (λ (v : EndState). v.room) c.self.view_is)) c.requires.room in
    made c.self.inside.seat.me (λ a. Recall a) c.args.self.now c.self.view_is c.call_back-answer.ensures.seat c.call_back-answer.ensures.done refl refl (omega (arith, some_room))

pub returns-in-None-clause-made : goal.returns-in-None-clause-made
returns-in-None-clause-made c =
    let some_room : 1 ≤ c.self.inside.room = subst (λ n. 1 ≤ n) (sym (ap (λ (v : EndState). v.room) c.self.view_is)) c.requires.room in
    made c.self.inside.seat.me (λ a. Recall a) c.args.self.now c.self.view_is c.call_back-answer.ensures.seat c.call_back-answer.ensures.done refl refl (omega (arith, some_room))
