use Rattle.std.proofs.Common.{subst, sym, rules, w64, to_z, of_z}
use Rattle.std.proofs.lemmas.Int.{to_z-of_z}
use Rattle.cell_core.specs.declared.moves.CellMove.TheVariants as moves
use Rattle.cell_core.specs.CellEnds.{CellFits, OfferFits}
use Rattle.cell_core.proofs.CellLemmas.{step_fits}
use Rattle.cell_core.proofs.tests.TwoEndsEnds.offer.Goals as goal

pub invariant_of-self : goal.invariant_of-self
invariant_of-self c =
    let kind = c.self.inside.kind in
    let side = c.side_at.result in
    let value = to_z w64 (of_z w64 c.args.value) in
    let asked : OfferFits kind side c.args.value c.args.stamp = record { value = search rules; stamp = c.requires.stamp } in
    let fits = subst (λ v. OfferFits kind side v c.args.stamp) (sym (to_z-of_z w64 c.args.value c.ranges.value)) asked in
    subst (CellFits kind) (sym c.offer.ensures.cell) (step_fits kind (moves.Offer side value c.args.stamp) c.self.inside.cell fits c.self.invariant)
