-- Legal histories of a cell, as its two ends see them.
use Rattle.std.specs.Prelude.{◌≡◌, ℕ, suc, List, [], ◌∷◌, ◌++◌, length, Option}
use Rattle.cell_core.specs.declared.moves.Side.{Side}
use Rattle.cell_core.specs.declared.moves.Side.TheVariants.{Sender, Receiver}
use Rattle.cell_core.specs.declared.moves.Joined.{Joined}
use Rattle.cell_core.specs.declared.moves.CellMove.{CellMove}
use Rattle.cell_core.specs.declared.moves.CellMove.TheVariants.{Offer, Recall}
use Rattle.cell_core.specs.declared.moves.Entry.{Entry}
use Rattle.cell_core.specs.definitions.Cells.{CellState, empty_cell, cell_step, cell_reply, CanMove}

abbrev pub entry : ℕ → CellMove → Option Joined → Entry
entry n m r = record { place = n; what = m; reply = r }

-- In a list of the moves of a cell the last one stands first.
abbrev pub cell_after : List CellMove → CellState
cell_after [] = empty_cell
cell_after (m ∷ ms) = cell_step m (cell_after ms)

-- each move may be made where it stands
abbrev pub AllCanMove : List CellMove → Type 0
AllCanMove [] = Unit {0}
AllCanMove (m ∷ ms) = AllCanMove ms × CanMove m (cell_after ms)

abbrev pub side_of : CellMove → Side
side_of (Offer a v s) = a
side_of (Recall a) = a

-- adds to the entries of the first side an entry of the second, where the two are one
abbrev pub if_side : Side → Side → List Entry → Entry → List Entry
if_side Sender Sender es e = es ++ e ∷ []
if_side Sender Receiver es e = es
if_side Receiver Sender es e = es
if_side Receiver Receiver es e = es ++ e ∷ []

-- the moves of one side in their order, each with its place and its reply
abbrev pub entries : Side → List CellMove → List Entry
entries a [] = []
entries a (m ∷ ms) =
    if_side a (side_of m) (entries a ms) (entry (length ms) m (cell_reply m (cell_after ms)))

-- The entries of the two ends are a legal history: taken by place, they are moves of a cell from two
-- empty sides, with the cell's replies.
pub record IsCellHistory (sender receiver : List Entry) : Type 0 where
  pub moves : List CellMove
  pub legal : AllCanMove moves
  pub at_sender : entries Sender moves ≡ sender
  pub at_receiver : entries Receiver moves ≡ receiver

-- The entries are moves of a cell, one after another, with the cell's replies.
abbrev pub Runs : CellState → List Entry → Type 0
Runs c [] = Unit {0}
Runs c (e ∷ es) = CanMove e.what c × (e.reply ≡ cell_reply e.what c) × Runs (cell_step e.what c) es

-- the entry is the next one of its side's list
abbrev pub TakesNext : Side → Entry → List Entry → List Entry → (List Entry → List Entry → Type 0) →
    Type 0
TakesNext Sender e ss rs Then = (rest : List Entry) × (ss ≡ e ∷ rest) × Then rest rs
TakesNext Receiver e ss rs Then = (rest : List Entry) × (rs ≡ e ∷ rest) × Then ss rest

-- The entries of the sender's and of the receiver's list in the order of their places, which are the
-- numbers from n on, each once.
abbrev pub AreByPlace : ℕ → List Entry → List Entry → List Entry → Type 0
AreByPlace n [] ss rs = (ss ≡ []) × (rs ≡ [])
AreByPlace n (e ∷ es) ss rs =
    (e.place ≡ n) × TakesNext (side_of e.what) e ss rs (AreByPlace (suc n) es)

-- The entries of the two ends, merged by place, are moves of a cell from two empty sides.
pub record RunsByPlace (sender receiver : List Entry) : Type 0 where
  pub merged : List Entry
  pub runs : Runs empty_cell merged
  pub by_place : AreByPlace 0 merged sender receiver
