use Rattle.std.proofs.Common.{refl, [], ◌∷◌, pos}
use Rattle.cell_core.specs.declared.moves.CellMove.TheVariants as moves
use Rattle.cell_core.specs.declared.moves.Side.TheVariants as sides
use Rattle.cell_core.proofs.laws.one_meeting.Goals as goal

pub returns : goal.returns
returns c =
    let v = c.args.value in
    record {
      moves = moves.Recall sides.Sender ∷ moves.Offer sides.Receiver (pos 0) c.args.received ∷ moves.Offer sides.Sender v c.args.sent ∷ [];
      legal = (((tt, refl), refl), refl);
      at_sender = refl;
      at_receiver = refl;
    }
