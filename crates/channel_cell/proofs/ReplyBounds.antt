-- Replies have values in the kind and stamps below 2^62.
use Rattle.std.proofs.Common.{ℕ, List, [], ◌∷◌, IfSome}
use Rattle.std.specs.Prelude.{ℤ}
use Rattle.java_values.specs.declared.kind.Kind.{Kind}
use Rattle.cell_core.specs.declared.moves.Side.{Side}
use Rattle.cell_core.specs.declared.moves.Side.TheVariants.{Sender, Receiver}
use Rattle.cell_core.specs.declared.cell.Standing.{Standing}
use Rattle.cell_core.specs.declared.cell.Standing.TheVariants.{Empty, Open, Taken}
use Rattle.cell_core.specs.declared.moves.CellMove.{CellMove}
use Rattle.cell_core.specs.declared.moves.CellMove.TheVariants.{Offer, Recall}
use Rattle.cell_core.specs.definitions.Cells.{CellState, other, offer_reply, recall_reply, cell_reply}
use Rattle.cell_core.specs.definitions.Ends.{JoinFits}
use Rattle.cell_core.specs.CellEnds.{OfferFits, StandingFits, CellFits, MoveFits}
use Rattle.cell_core.specs.definitions.Histories.{cell_after}
use Rattle.cell_core.proofs.CellLemmas.{step_fits}
use Rattle.channel_cell.specs.Lanes.{AllFit}

cell_fits : (kind : Kind) (ms : List CellMove) → AllFit kind ms → CellFits kind (cell_after ms)
cell_fits kind [] h = record { sender = tt; receiver = tt }
cell_fits kind (m ∷ ms) h = step_fits kind m (cell_after ms) h.1 (cell_fits kind ms h.0)

offer_fits : (kind : Kind) (a : Side) (v : ℤ) (s : ℕ) (y : Standing) → OfferFits kind a v s → StandingFits kind (other a) y → IfSome (offer_reply a v s y) (JoinFits kind)
offer_fits kind a v s Empty offer theirs = tt
offer_fits kind Sender v s (Open w t) offer theirs = record { value = offer.value; mine = offer.stamp; theirs = theirs.stamp }
offer_fits kind Receiver v s (Open w t) offer theirs = record { value = theirs.value; mine = offer.stamp; theirs = theirs.stamp }
offer_fits kind a v s (Taken j) offer theirs = tt

recall_fits : (kind : Kind) (a : Side) (x : Standing) → StandingFits kind a x → IfSome (recall_reply x) (JoinFits kind)
recall_fits kind a Empty mine = tt
recall_fits kind a (Open v s) mine = tt
recall_fits kind a (Taken j) mine = mine

reply_fits : (kind : Kind) (m : CellMove) (c : CellState) → MoveFits kind m → CellFits kind c → IfSome (cell_reply m c) (JoinFits kind)
reply_fits kind (Offer Sender v s) c offer fits = offer_fits kind Sender v s c.receiver offer fits.receiver
reply_fits kind (Offer Receiver v s) c offer fits = offer_fits kind Receiver v s c.sender offer fits.sender
reply_fits kind (Recall Sender) c offer fits = recall_fits kind Sender c.sender fits.sender
reply_fits kind (Recall Receiver) c offer fits = recall_fits kind Receiver c.receiver fits.receiver

-- the reply to one move more
pub next_fits : (kind : Kind) (ms : List CellMove) (m : CellMove) → AllFit kind ms → MoveFits kind m → IfSome (cell_reply m (cell_after ms)) (JoinFits kind)
next_fits kind ms m all one = reply_fits kind m (cell_after ms) one (cell_fits kind ms all)
