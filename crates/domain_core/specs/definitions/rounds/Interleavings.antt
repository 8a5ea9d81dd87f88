-- Lists of the ticks and moves of all domains, in whatever order.
use Rattle.std.specs.Prelude.{◌≡◌, ℕ, ◌<◌, ◌==◌, ◌||◌, true, false, cond, ◌⊎◌, length, List, [], ◌∷◌, ◌++◌, suc, zero, Option, Some, None}
use Rattle.cell_core.specs.declared.moves.Side.{Side}
use Rattle.cell_core.specs.declared.moves.Side.TheVariants.{Sender, Receiver}
use Rattle.cell_core.specs.declared.moves.Joined.{Joined}
use Rattle.cell_core.specs.declared.moves.CellMove.TheVariants.{Offer as OfferMove, Recall as RecallMove}
use Rattle.cell_core.specs.declared.moves.Entry.{Entry as CellEntry}
use Rattle.cell_core.specs.definitions.Cells.{empty_cell}
use Rattle.kernel_terms.specs.Marks.{Mark}
use Rattle.tick_log.specs.declared.history.JoinRow.{JoinRow}
use Rattle.cell_core.specs.definitions.Histories.{Runs, side_of}
use Rattle.tick_log.specs.definitions.Runs.{Entry, RunState, log_of, tick_count}
use Rattle.domain_core.specs.definitions.runs.Systems.{Setup, sender_of, receiver_of, domain_count, channel_count}
use Rattle.domain_core.specs.definitions.rounds.Rounds.{Offer, Rounds, IsRounds, IsOpenRounds, with_recalls, MoveMade, last_recall, RowsAreFound, RoundsFit}

-- a domain makes a tick, or a move at the cell of a channel
pub data Action : Type 0 where
  MadeTick : (domain : ℕ) → Action
  MadeMove : (domain channel : ℕ) (move : MoveMade) → Action

-- the moves at the cell of channel c of the two domains that it joins
abbrev pub at_cell : Setup → ℕ → List Action → List MoveMade
at_cell setup c [] = []
at_cell setup c (MadeTick d ∷ actions) = at_cell setup c actions
at_cell setup c (MadeMove d b m ∷ actions) =
    cond (b == c) (cond ((d == sender_of setup c) || (d == receiver_of setup c)) (m ∷
    at_cell setup c actions) (at_cell setup c actions)) (at_cell setup c actions)

-- the entries of these moves, with the places from n on
abbrev pub placed : ℕ → List MoveMade → List CellEntry
placed n [] = []
placed n (m ∷ ms) = record { place = n; what = m.what; reply = m.reply } ∷ placed (suc n) ms

-- a list with a move in front, if it is of this side
abbrev pub if_of : Side → Side → MoveMade → List MoveMade → List MoveMade
if_of Sender Sender m ms = m ∷ ms
if_of Sender Receiver m ms = ms
if_of Receiver Sender m ms = ms
if_of Receiver Receiver m ms = m ∷ ms

-- the moves of one side
abbrev pub moves_of : Side → List MoveMade → List MoveMade
moves_of a [] = []
moves_of a (m ∷ ms) = if_of a (side_of m.what) m (moves_of a ms)

-- the ticks of domain d, each None, and its moves at channel c
abbrev pub own_actions : ℕ → ℕ → List Action → List (Option MoveMade)
own_actions d c [] = []
own_actions d c (MadeTick e ∷ actions) =
    cond (e == d) (None ∷ own_actions d c actions) (own_actions d c actions)
own_actions d c (MadeMove e b m ∷ actions) =
    cond (e == d) (cond (b == c) (Some m ∷
    own_actions d c actions) (own_actions d c actions)) (own_actions d c actions)

abbrev pub recall_first : Side → Option (Option Joined) → List (Option MoveMade) →
    List (Option MoveMade)
recall_first a None rest = rest
recall_first a (Some reply) rest = Some (record { what = RecallMove a; reply = reply }) ∷ rest

abbrev pub offer_first : Side → Option Offer → List (Option MoveMade) → List (Option MoveMade)
offer_first a None rest = rest
offer_first a (Some o) rest =
    Some (record { what = OfferMove a o.value o.stamp; reply = o.reply }) ∷ rest

-- The rounds of a domain at its end of channel c, after n ticks: recall, tick, offer, and so on `left` times,
-- and then the recall of a cut round.
abbrev pub in_rounds : Side → Rounds → ℕ → ℕ → ℕ → List (Option MoveMade)
in_rounds a x c n zero = cond x.is_cut (recall_first a (x.recalls n c) []) []
in_rounds a x c n (suc left) =
    recall_first a (x.recalls n c) (None ∷
    offer_first a (x.offers (suc n) c) (in_rounds a x c (suc n) left))

-- the side of a channel at which a domain is
abbrev pub side_at : Setup → ℕ → ℕ → Side
side_at setup d c = cond (sender_of setup c == d) Sender Receiver

-- The actions of each domain are its rounds, in their order. Each cell replies by the rule to these moves,
-- and after them to the last recalls. The rows of the histories are the joins that are found.
pub record IsInterleaving (setup : Setup) (r : RunState) (rounds : ℕ →
    Rounds) (actions : List Action) (last_recalls : ℕ → List MoveMade) : Type 0 where
  pub domains : (d : ℕ) → d < domain_count setup →
      IsRounds setup d (log_of r d).entries (log_of r d).mark (rounds d)
  pub own : (d c : ℕ) → d < domain_count setup → c < channel_count setup →
      own_actions d c actions ≡ in_rounds (side_at setup d c) (rounds d) c 0 (tick_count r d)
  pub cells : (c : ℕ) → c < channel_count setup →
      Runs empty_cell (placed 0 (at_cell setup c actions ++ last_recalls c))
  pub sender_last : (c : ℕ) → c < channel_count setup →
      moves_of Sender (last_recalls c) ≡
      last_recall Sender (rounds (sender_of setup c)) c (tick_count r (sender_of setup c))
  pub receiver_last : (c : ℕ) → c < channel_count setup →
      moves_of Receiver (last_recalls c) ≡
      last_recall Receiver (rounds (receiver_of setup c)) c (tick_count r (receiver_of setup c))
  pub rows : (c : ℕ) → c < channel_count setup → RowsAreFound setup r rounds c

-- the rounds of a domain so far: the last one is cut, or they may go on
abbrev pub AreRoundsSoFar : Setup → ℕ → List Entry → Mark → Rounds → Type 0
AreRoundsSoFar setup d entries mark x =
    ((x.is_cut ≡ true) × IsRounds setup d entries mark x) ⊎
    ((x.is_cut ≡ false) × IsOpenRounds setup d entries mark x)

-- The actions of each domain are its rounds so far, in their order, and each cell replies by the rule. Of the
-- run only the logs are looked at.
pub record IsOpenInterleaving (setup : Setup) (r : RunState) (rounds : ℕ →
    Rounds) (actions : List Action) : Type 0 where
  pub domains : (d : ℕ) → d < domain_count setup →
      AreRoundsSoFar setup d (log_of r d).entries (log_of r d).mark (rounds d)
  pub own : (d c : ℕ) → d < domain_count setup → c < channel_count setup →
      own_actions d c actions ≡ in_rounds (side_at setup d c) (rounds d) c 0 (tick_count r d)
  pub cells : (c : ℕ) → c < channel_count setup →
      Runs empty_cell (placed 0 (at_cell setup c actions))

-- rounds with their last recalls, where the last round isn't cut
abbrev pub closed : Rounds → ℕ → (ℕ → Option (Option Joined)) → Rounds
closed x n recalls = cond x.is_cut x (with_recalls x n recalls false)

-- there are last recalls and histories with which the rounds fit
pub record CanBeClosed (setup : Setup) (r : RunState) (rounds : ℕ → Rounds) : Type 0 where
  pub recalls : ℕ → ℕ → Option (Option Joined)
  pub histories : List (List JoinRow)
  pub count : length histories ≡ channel_count setup
  pub fit : RoundsFit setup (record r { histories = histories })
      (λ d. closed (rounds d) (tick_count r d) (recalls d))
