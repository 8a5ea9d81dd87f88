-- The sequential rendezvous cell: what a move does to it, and what it replies.
use Rattle.std.specs.Prelude.{◌≡◌, ℕ, ℤ, Bool, true, false, Option, Some, None}
use Rattle.cell_core.specs.declared.moves.Side.{Side}
use Rattle.cell_core.specs.declared.moves.Side.TheVariants.{Sender, Receiver}
use Rattle.cell_core.specs.declared.moves.Joined.{Joined}
use Rattle.cell_core.specs.declared.moves.CellMove.{CellMove}
use Rattle.cell_core.specs.declared.moves.CellMove.TheVariants.{Offer, Recall}
use Rattle.cell_core.specs.declared.cell.Standing.{Standing}
use Rattle.cell_core.specs.declared.cell.Standing.TheVariants.{Empty, Open, Taken}

pub record CellState : Type 0 where
  pub sender : Standing
  pub receiver : Standing

abbrev pub other : Side → Side
other Sender = Receiver
other Receiver = Sender

abbrev pub empty_cell : CellState
empty_cell = record { sender = Empty; receiver = Empty }

abbrev pub standing_at : Side → CellState → Standing
standing_at Sender c = c.sender
standing_at Receiver c = c.receiver

-- the cell of which a side is the first and the other side the second
abbrev pub cell_of : Side → Standing → Standing → CellState
cell_of Sender mine theirs = record { sender = mine; receiver = theirs }
cell_of Receiver mine theirs = record { sender = theirs; receiver = mine }

-- a side stands while it is open or taken
abbrev pub stands : Standing → Bool
stands Empty = false
stands (Open v s) = true
stands (Taken j) = true

-- the sender's value, of a side's own and the other's
abbrev pub sent_value : Side → ℤ → ℤ → ℤ
sent_value Sender mine theirs = mine
sent_value Receiver mine theirs = theirs

-- the join of a side's offer with a value and a stamp and of the other side's, as the side sees it
abbrev pub join_of : Side → ℤ → ℕ → ℤ → ℕ → Joined
join_of a v s w t = record { value = sent_value a v w; mine = s; theirs = t }

-- what an offer makes of its own side, by what the other side is
abbrev pub after_own_offer : ℤ → ℕ → Standing → Standing
after_own_offer v s Empty = Open v s
after_own_offer v s (Open w t) = Empty
after_own_offer v s (Taken j) = Open v s

-- what an offer of a side makes of the other side
abbrev pub after_offer : Side → ℤ → ℕ → Standing → Standing
after_offer a v s Empty = Empty
after_offer a v s (Open w t) = Taken (join_of (other a) w t v s)
after_offer a v s (Taken j) = Taken j

-- the reply to an offer, by what the other side is
abbrev pub offer_reply : Side → ℤ → ℕ → Standing → Option Joined
offer_reply a v s Empty = None
offer_reply a v s (Open w t) = Some (join_of a v s w t)
offer_reply a v s (Taken j) = None

-- the reply to a recall, by what the side itself is
abbrev pub recall_reply : Standing → Option Joined
recall_reply Empty = None
recall_reply (Open v s) = None
recall_reply (Taken j) = Some j

-- the cell after a move
abbrev pub cell_step : CellMove → CellState → CellState
cell_step (Offer a v s) c =
    cell_of a (after_own_offer v s (standing_at (other a) c))
    (after_offer a v s (standing_at (other a) c))
cell_step (Recall a) c = cell_of a Empty (standing_at (other a) c)

abbrev pub cell_reply : CellMove → CellState → Option Joined
cell_reply (Offer a v s) c = offer_reply a v s (standing_at (other a) c)
cell_reply (Recall a) c = recall_reply (standing_at a c)

-- a side offers where it doesn't stand, and recalls where it does
abbrev pub CanMove : CellMove → CellState → Type 0
CanMove (Offer a v s) c = stands (standing_at a c) ≡ false
CanMove (Recall a) c = stands (standing_at a c) ≡ true
