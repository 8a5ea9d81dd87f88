-- What a move of a cell does to its two ends.
use Rattle.std.proofs.Common.{◌≡◌, ℕ, ℤ, IfSome, IfNone, OnSome, IsNone, IsSomeAnd, refl, ap}
use Rattle.java_values.specs.declared.kind.Kind.{Kind}
use Rattle.cell_core.specs.declared.moves.Side.{Side}
use Rattle.cell_core.specs.declared.moves.Side.TheVariants.{Sender, Receiver}
use Rattle.cell_core.specs.declared.moves.CellMove.{CellMove}
use Rattle.cell_core.specs.declared.moves.CellMove.TheVariants.{Offer, Recall}
use Rattle.cell_core.specs.declared.cell.Standing.{Standing}
use Rattle.cell_core.specs.declared.cell.Standing.TheVariants.{Empty, Open, Taken}
use Rattle.cell_core.specs.definitions.Cells.{CellState, other, after_own_offer, after_offer, offer_reply, recall_reply, cell_step, cell_reply}
use Rattle.cell_core.specs.definitions.Histories.{side_of}
use Rattle.cell_core.specs.definitions.Ends.{JoinsOffer, JoinsStanding, IsOffer}
use Rattle.cell_core.specs.CellEnds.{standing_offer, end_of_cell, OfferFits, StandingFits, CellFits, MoveFits}

-- a side stands exactly where its end has an offer that stands
-- an offer of a side changes nothing of what is seen of the other side's offer
pub offer_after_offer : (a : Side) (v : ℤ) (s : ℕ) (y : Standing) → standing_offer (other a) (after_offer a v s y) ≡ standing_offer (other a) y
offer_after_offer a v s Empty = refl
offer_after_offer Sender v s (Open w t) = refl
offer_after_offer Receiver v s (Open w t) = refl
offer_after_offer a v s (Taken j) = refl

-- a move leaves the end of the other side as it was
pub other_end : (kind : Kind) (room : ℕ) (m : CellMove) (c : CellState) →
    end_of_cell kind room (other (side_of m)) (cell_step m c) ≡ end_of_cell kind room (other (side_of m)) c
other_end kind room (Offer Sender v s) c = ap (λ o. record { side = Receiver; kind = kind; offer = o; room = room }) (offer_after_offer Sender v s c.receiver)
other_end kind room (Offer Receiver v s) c = ap (λ o. record { side = Sender; kind = kind; offer = o; room = room }) (offer_after_offer Receiver v s c.sender)
other_end kind room (Recall Sender) c = refl
other_end kind room (Recall Receiver) c = refl

joins_offer : (kind : Kind) (room : ℕ) (a : Side) (v : ℤ) (s : ℕ) (c : CellState) (y : Standing) →
    OfferFits kind a v s → StandingFits kind (other a) y → IfSome (offer_reply a v s y) (JoinsOffer (end_of_cell kind room a c) v s)
joins_offer kind room a v s c Empty offer theirs = tt
joins_offer kind room Sender v s c (Open w t) offer theirs = record { mine = refl; theirs = theirs.stamp; in_kind = offer.value; own_value = refl }
joins_offer kind room Receiver v s c (Open w t) offer theirs = record { mine = refl; theirs = theirs.stamp; in_kind = theirs.value; own_value = tt }
joins_offer kind room a v s c (Taken j) offer theirs = tt

-- the join that answers an offer
pub offer_joins : (kind : Kind) (room : ℕ) (a : Side) (v : ℤ) (s : ℕ) (c : CellState) →
    OfferFits kind a v s → CellFits kind c → IfSome (cell_reply (Offer a v s) c) (JoinsOffer (end_of_cell kind room a c) v s)
offer_joins kind room Sender v s c offer fits = joins_offer kind room Sender v s c c.receiver offer fits.receiver
offer_joins kind room Receiver v s c offer fits = joins_offer kind room Receiver v s c c.sender offer fits.sender

-- after a join at once the side doesn't stand
own_free : (a : Side) (v : ℤ) (s : ℕ) (y : Standing) → OnSome (offer_reply a v s y) (IsNone (standing_offer a (after_own_offer v s y)))
own_free a v s Empty = tt
own_free a v s (Open w t) = refl
own_free a v s (Taken j) = tt

-- without a join the side stands with the offer
own_stands : (a : Side) (v : ℤ) (s : ℕ) (y : Standing) → IfNone (offer_reply a v s y) (IsSomeAnd (standing_offer a (after_own_offer v s y)) (IsOffer a v s))
own_stands Sender v s Empty = record { same_stamp = refl; own_value = refl }
own_stands Receiver v s Empty = record { same_stamp = refl; own_value = tt }
own_stands a v s (Open w t) = tt
own_stands Sender v s (Taken j) = record { same_stamp = refl; own_value = refl }
own_stands Receiver v s (Taken j) = record { same_stamp = refl; own_value = tt }

pub offer_stands : (kind : Kind) (room : ℕ) (a : Side) (v : ℤ) (s : ℕ) (c : CellState) →
    IfNone (cell_reply (Offer a v s) c) (IsSomeAnd (end_of_cell kind room a (cell_step (Offer a v s) c)).offer (IsOffer a v s))
offer_stands kind room Sender v s c = own_stands Sender v s c.receiver
offer_stands kind room Receiver v s c = own_stands Receiver v s c.sender

joins_standing : (kind : Kind) (room : ℕ) (a : Side) (x : Standing) → StandingFits kind a x →
    IfSome (recall_reply x) (JoinsStanding (record { side = a; kind = kind; offer = standing_offer a x; room = room }))
joins_standing kind room a Empty fits = tt
joins_standing kind room a (Open v s) fits = tt
joins_standing kind room Sender (Taken j) fits = record { mine = refl; theirs = fits.theirs; in_kind = fits.value; own_value = refl }
joins_standing kind room Receiver (Taken j) fits = record { mine = refl; theirs = fits.theirs; in_kind = fits.value; own_value = tt }

-- the join that answers a recall
pub recall_joins : (kind : Kind) (room : ℕ) (a : Side) (c : CellState) → CellFits kind c →
    IfSome (cell_reply (Recall a) c) (JoinsStanding (end_of_cell kind room a c))
recall_joins kind room Sender c fits = joins_standing kind room Sender c.sender fits.sender
recall_joins kind room Receiver c fits = joins_standing kind room Receiver c.receiver fits.receiver

-- after a recall the side doesn't stand
-- an offer that fits leaves both sides of a cell that fits so
own_fits : (kind : Kind) (a : Side) (v : ℤ) (s : ℕ) (y : Standing) → OfferFits kind a v s → StandingFits kind a (after_own_offer v s y)
own_fits kind a v s Empty offer = offer
own_fits kind a v s (Open w t) offer = tt
own_fits kind a v s (Taken j) offer = offer

other_fits : (kind : Kind) (a : Side) (v : ℤ) (s : ℕ) (y : Standing) → OfferFits kind a v s → StandingFits kind (other a) y → StandingFits kind (other a) (after_offer a v s y)
other_fits kind a v s Empty offer theirs = tt
other_fits kind Sender v s (Open w t) offer theirs = record { value = offer.value; mine = theirs.stamp; theirs = offer.stamp }
other_fits kind Receiver v s (Open w t) offer theirs = record { value = theirs.value; mine = theirs.stamp; theirs = offer.stamp }
other_fits kind a v s (Taken j) offer theirs = theirs

pub step_fits : (kind : Kind) (m : CellMove) (c : CellState) → MoveFits kind m → CellFits kind c → CellFits kind (cell_step m c)
step_fits kind (Offer Sender v s) c offer fits = record { sender = own_fits kind Sender v s c.receiver offer; receiver = other_fits kind Sender v s c.receiver offer fits.receiver }
step_fits kind (Offer Receiver v s) c offer fits = record { sender = other_fits kind Receiver v s c.sender offer fits.sender; receiver = own_fits kind Receiver v s c.sender offer }
step_fits kind (Recall Sender) c offer fits = record { sender = tt; receiver = fits.receiver }
step_fits kind (Recall Receiver) c offer fits = record { sender = fits.sender; receiver = tt }
