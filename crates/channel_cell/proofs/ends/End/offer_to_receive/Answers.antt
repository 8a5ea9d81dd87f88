use Rattle.std.proofs.Common.{◌+◌, ◌*◌, ◌≤◌, arith, refl, sym, ap, ◌∙◌, subst}
use Rattle.std.specs.Prelude.{pos}
use Rattle.cell_core.specs.declared.moves.CellMove.TheVariants.{Offer}
use Rattle.channel_cell.specs.definitions.Channels.{EndState}
use Rattle.channel_cell.specs.Rule.{knows_in}
use Rattle.channel_cell.specs.Calls.{moves_in, kind_in, tally_in, Done}
use Rattle.channel_cell.proofs.NextMoveLemmas.{small}
use Rattle.channel_cell.proofs.AnsweredMoves.{keeps_after, made, stands_seen}
use Rattle.channel_cell.proofs.ends.End.offer_to_receive.Goals as goal

pub overflow_mul-self : goal.overflow_mul-self
overflow_mul-self c = let k = c.self.invariant in omega (arith, (small (moves_in c.self.inside.seat.me)).joins, k.joins_are, k.room_is)

pub overflow_add-self : goal.overflow_add-self
overflow_add-self c = let k = c.self.invariant in omega (arith, (small (moves_in c.self.inside.seat.me)).joins, k.joins_are, k.room_is)

pub overflow_add-self-in-Some : goal.overflow_add-self-in-Some
overflow_add-self-in-Some c = let k = c.self.invariant in omega (arith, (small (moves_in c.self.inside.seat.me)).joins, k.joins_are, k.room_is)

pub invariant_of-self : goal.invariant_of-self
invariant_of-self c =
    let k = c.self.invariant in
    let own = ap moves_in c.put_stamp.ensures.1 in
    let some_room : 1 ≤ c.self.inside.room = subst (λ n. 1 ≤ n) (sym (ap (λ (v : EndState). v.room) c.self.view_is)) c.requires.room in
    let down = stands_seen (tally_in c.self.inside.seat.me) (ap (λ (v : EndState). v.offer) c.self.view_is) ∙ c.requires.standing in
    let d = subst (λ x. Done c.self.inside.side (knows_in c.put_stamp.new.seat.me.0) (Offer c.self.inside.side (pos 0) c.args.stamp) (pos 0) c.args.stamp x c.offer_out-answer.new.seat.me) c.in-Some.is c.offer_out-answer.ensures.done in
    keeps_after k (c.offer_out-answer.ensures.seat ∙ c.put_stamp.ensures.0) d own _ _ _ _ _ _ (ap (λ n. n + 1) k.joins_are) (ap (λ n. 2 * n + 1) k.joins_are) (k.standing_is ∙ down) refl refl (omega (arith, some_room))

pub invariant_of-self-in-None : goal.invariant_of-self-in-None
invariant_of-self-in-None c =
    let k = c.self.invariant in
    let own = ap moves_in c.put_stamp.ensures.1 in
    let some_room : 1 ≤ c.self.inside.room = subst (λ n. 1 ≤ n) (sym (ap (λ (v : EndState). v.room) c.self.view_is)) c.requires.room in
    let d = subst (λ x. Done c.self.inside.side (knows_in c.put_stamp.new.seat.me.0) (Offer c.self.inside.side (pos 0) c.args.stamp) (pos 0) c.args.stamp x c.offer_out-answer.new.seat.me) c.in-None.is c.offer_out-answer.ensures.done in
    keeps_after k (c.offer_out-answer.ensures.seat ∙ c.put_stamp.ensures.0) d own _ _ _ _ _ _ k.joins_are (ap (λ n. 2 * n + 1) k.joins_are) refl refl refl (omega (arith, some_room))

pub returns-in-Some-clause-made : goal.returns-in-Some-clause-made
returns-in-Some-clause-made c =
    let some_room : 1 ≤ c.self.inside.room = subst (λ n. 1 ≤ n) (sym (ap (λ (v : EndState). v.room) c.self.view_is)) c.requires.room in
    let d = c.offer_out-answer.ensures.done in
    made c.self.inside.seat.me (λ a. Offer a (pos 0) c.args.stamp) c.args.self.now c.self.view_is (c.offer_out-answer.ensures.seat ∙ c.put_stamp.ensures.0) d (ap kind_in c.put_stamp.ensures.1) (ap moves_in c.put_stamp.ensures.1) (omega (arith, some_room))

pub returns-in-None-clause-made : goal.returns-in-None-clause-made
returns-in-None-clause-made c =
    let some_room : 1 ≤ c.self.inside.room = subst (λ n. 1 ≤ n) (sym (ap (λ (v : EndState). v.room) c.self.view_is)) c.requires.room in
    let d = c.offer_out-answer.ensures.done in
    made c.self.inside.seat.me (λ a. Offer a (pos 0) c.args.stamp) c.args.self.now c.self.view_is (c.offer_out-answer.ensures.seat ∙ c.put_stamp.ensures.0) d (ap kind_in c.put_stamp.ensures.1) (ap moves_in c.put_stamp.ensures.1) (omega (arith, some_room))
