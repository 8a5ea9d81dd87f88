use Rattle.std.proofs.Common.{ℕ, sym, subst, w64}
use Rattle.std.specs.Prelude.{ℤ}
use Rattle.std.proofs.lemmas.Int.{to_z-of_z}
use Rattle.channel_cell.specs.Lanes.{IsOwn}
use Rattle.channel_cell.specs.Calls.{tally_of}
use Rattle.channel_cell.proofs.BothSeatsLemmas.{both_joins, both_own, both_some}
use Rattle.channel_cell.proofs.joined.settle_one.Goals as goal

pub read_join-requires-clause-joins : goal.read_join-requires-clause-joins
read_join-requires-clause-joins c = both_joins c.recall_one.ensures.moved c.if-recall_one.true c.args.joins c.requires.joins

pub read_join-requires-clause-own : goal.read_join-requires-clause-own
read_join-requires-clause-own c =
    subst (λ v. IsOwn c.args.side (tally_of c.args.side c.recall_one.new.seat.me).last v c.args.stamp) (sym (to_z-of_z w64 c.args.value c.ranges.value))
    (subst (λ (p : ℤ × ℕ). IsOwn c.args.side (tally_of c.args.side c.recall_one.new.seat.me).last p.0 p.1) (λ i. (sym c.requires.value i, sym c.requires.stamp i)) (both_own c.recall_one.ensures.moved))

pub returns-then-recall_one-clause-done : goal.returns-then-recall_one-clause-done
returns-then-recall_one-clause-done c = both_some c.recall_one.ensures.moved c.if-recall_one.true c.read_join.result c.read_join.ensures.read c.read_join.ensures.same.1
