-- A cell seen as the two ends of a channel.
use Rattle.std.specs.Prelude.{ℕ, ◌^◌, ◌<◌, ℤ, pos, Option, Some, None}
use Rattle.java_values.specs.declared.kind.Kind.{Kind}
use Rattle.cell_core.specs.declared.moves.Side.{Side}
use Rattle.cell_core.specs.declared.moves.Side.TheVariants.{Sender, Receiver}
use Rattle.cell_core.specs.declared.moves.CellMove.{CellMove}
use Rattle.cell_core.specs.declared.moves.CellMove.TheVariants.{Offer, Recall}
use Rattle.cell_core.specs.declared.cell.Standing.{Standing}
use Rattle.cell_core.specs.declared.cell.Standing.TheVariants.{Empty, Open, Taken}
use Rattle.cell_core.specs.definitions.Cells.{CellState, standing_at}
use Rattle.cell_core.specs.definitions.Ends.{StandingOffer, EndView, JoinFits, ValueFits}

-- the value of an offer of a side, where a receiver's is ignored
abbrev pub offered_value : Side → ℤ → ℤ
offered_value Sender v = v
offered_value Receiver v = pos 0

abbrev pub offered : Side → ℤ → ℕ → StandingOffer
offered a v s = record { value = offered_value a v; stamp = s }

-- the offer of a side that stands
abbrev pub standing_offer : Side → Standing → Option StandingOffer
standing_offer a Empty = None
standing_offer a (Open v s) = Some (offered a v s)
standing_offer a (Taken j) = Some (offered a j.value j.mine)

-- the end at a side of a cell
abbrev pub end_of_cell : Kind → ℕ → Side → CellState → EndView
end_of_cell kind room a c =
    record { side = a; kind = kind; offer = standing_offer a (standing_at a c); room = room }

-- a sender's value in the kind and a stamp below 2^62
pub record OfferFits (kind : Kind) (a : Side) (v : ℤ) (s : ℕ) : Type 0 where
  pub value : ValueFits a kind v
  pub stamp : s < 2 ^ 62

abbrev pub StandingFits : Kind → Side → Standing → Type 0
StandingFits kind a Empty = Unit {0}
StandingFits kind a (Open v s) = OfferFits kind a v s
StandingFits kind a (Taken j) = JoinFits kind j

-- the values of a cell lie in the kind, and its stamps are below 2^62
pub record CellFits (kind : Kind) (c : CellState) : Type 0 where
  pub sender : StandingFits kind Sender c.sender
  pub receiver : StandingFits kind Receiver c.receiver

abbrev pub MoveFits : Kind → CellMove → Type 0
MoveFits kind (Offer a v s) = OfferFits kind a v s
MoveFits kind (Recall a) = Unit {0}
