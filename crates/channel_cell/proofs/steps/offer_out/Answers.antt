use Rattle.std.proofs.Common.{ℕ, Some, sym, subst}
use Rattle.std.proofs.lemmas.Int.{to_z-of_z}
use Rattle.std.specs.Prelude.{ℤ}
use Rattle.std.specs.Int.{w64}
use Rattle.cell_core.specs.declared.moves.CellMove.TheVariants.{Offer}
use Rattle.channel_cell.specs.Lanes.{IsOwn}
use Rattle.channel_cell.specs.Rule.{knows_in}
use Rattle.channel_cell.specs.Calls.{tally_in, Done}
use Rattle.channel_cell.proofs.AnsweredMoves.{moved_joins, moved_own, done_some}
use Rattle.channel_cell.proofs.steps.offer_out.Goals as goal

pub complete-requires-clause-joins : goal.complete-requires-clause-joins
complete-requires-clause-joins c = moved_joins c.if-make_offer.ensures.moved c.args.joins c.requires.joins

pub complete-requires-clause-own : goal.complete-requires-clause-own
complete-requires-clause-own c =
    subst (λ v. IsOwn c.args.side (tally_in c.make_offer.new.seat.me).last v c.args.stamp) (sym (to_z-of_z w64 c.args.value c.ranges.value))
    (subst (λ (p : ℤ × ℕ). IsOwn c.args.side (tally_in c.make_offer.new.seat.me).last p.0 p.1) (λ i. (c.requires.value i, c.requires.stamp i)) (moved_own c.if-make_offer.ensures.moved))

pub returns-then-make_offer-clause-done : goal.returns-then-make_offer-clause-done
returns-then-make_offer-clause-done c =
    let d = done_some c.if-make_offer.ensures.moved c.complete.result c.complete.ensures.read c.complete.ensures.same.1 in
    subst (λ (p : ℤ × ℕ). Done c.args.side (knows_in c.args.seat.now.me.0) (Offer c.args.side p.0 p.1) p.0 p.1 (Some c.complete.result) c.complete.new.seat.me) (λ i. (c.requires.value i, c.requires.stamp i)) d
