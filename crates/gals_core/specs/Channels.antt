-- The cells and histories of all channels, as the domain whose turn it is moves its ends of them.
use Rattle.std.specs.Prelude.{◌≡◌, ◌≢◌, ℕ, ◌+◌, ◌-◌, ◌<◌, List, [], ◌∷◌, ◌++◌, length, get_or, set, map, Vec, Option, Some, None}
use Rattle.java_values.specs.declared.kind.Kind.TheVariants as kind
use Rattle.tick_log.specs.declared.history.JoinRow.{JoinRow}
use Rattle.tick_log.specs.definitions.Containers.{HistoryState}
use Rattle.cell_core.specs.declared.moves.Joined.{Joined}
use Rattle.cell_core.specs.declared.moves.CellMove.{CellMove}
use Rattle.cell_core.specs.declared.moves.CellMove.TheVariants.{Offer, Recall}
use Rattle.std.specs.Global.{Global}
use Rattle.cell_core.specs.definitions.Cells.{CellState, cell_step, cell_reply, empty_cell, standing_at}
use Rattle.cell_core.specs.CellEnds.{standing_offer, CellFits}
use Rattle.cell_core.specs.definitions.Ends.{EndView}
use Rattle.domain_core.specs.declared.step.ends_of.EndOf.{EndOf}
use Rattle.domain_core.specs.definitions.step.EndCalls.{end_at}
use Rattle.domain_core.specs.definitions.runs.Stamps.{stamp_of_join}
use Rattle.gals_core.specs.declared.links.Link.{Link}

-- The channels, a cell and a history for each, how many ticks each domain has made or is making, the ends of
-- each domain, and those of the domain whose turn it is.
pub record ChannelsState : Type 0 where
  pub links : List Link
  pub cells : List CellState
  pub histories : List HistoryState
  pub ticks : List ℕ
  pub lists : List (List EndOf)
  pub ends : List EndOf

abbrev pub link_at : List Link → ℕ → Link
link_at links c = get_or links c (record { kind = kind.Int; sender = 0; receiver = 0 })

abbrev pub cell_in : ChannelsState → ℕ → CellState
cell_in b c = get_or b.cells c empty_cell

abbrev pub history_in : ChannelsState → ℕ → HistoryState
history_in b c = get_or b.histories c (record { rows = []; room = 0 })

abbrev pub ticks_in : ChannelsState → ℕ → ℕ
ticks_in b d = get_or b.ticks d 0

abbrev pub lists_in : List (Vec EndOf Global) → List (List EndOf)
lists_in lists = map (λ (v : Vec EndOf Global). v.items) lists

-- an end of the domain whose turn it is; its room is that of the channel's history
abbrev pub end_view : ChannelsState → ℕ → EndView
end_view b at = record {
  side = (end_at b.ends at).side;
  kind = (link_at b.links (end_at b.ends at).channel).kind;
  offer =
      standing_offer (end_at b.ends at).side
      (standing_at (end_at b.ends at).side (cell_in b (end_at b.ends at).channel));
  room = (history_in b (end_at b.ends at).channel).room;
}

-- ends of different channels
pub record EndsFit (links : List Link) (ends : List EndOf) : Type 0 where
  pub apart : (i k : ℕ) → i < length ends → k < length ends → i ≢ k →
      (end_at ends i).channel ≢ (end_at ends k).channel
  pub within : (n : ℕ) → n < length ends → (end_at ends n).channel < length links

-- A cell and a history for each channel, whose values lie in its kind and whose stamps are below 2^62. A
-- domain's ends are of different channels.
pub record AreChannels (b : ChannelsState) : Type 0 where
  pub cell_count : length b.cells ≡ length b.links
  pub history_count : length b.histories ≡ length b.links
  pub fits : (c : ℕ) → c < length b.links → CellFits (link_at b.links c).kind (cell_in b c)
  pub senders : (c : ℕ) → c < length b.links → (link_at b.links c).sender < length b.ticks
  pub receivers : (c : ℕ) → c < length b.links → (link_at b.links c).receiver < length b.ticks
  pub ends_fit : (d : ℕ) → EndsFit b.links (get_or b.lists d [])

-- the row of a join of a channel
abbrev pub row_of : List Link → List ℕ → ℕ → Joined → JoinRow
row_of links ticks c j = record {
  value = j.value;
  sender_ticks = get_or ticks (link_at links c).sender 0;
  receiver_ticks = get_or ticks (link_at links c).receiver 0;
  stamp = stamp_of_join j;
}

abbrev pub row_in : ChannelsState → ℕ → Joined → JoinRow
row_in b c j = row_of b.links b.ticks c j

-- a history with a row more
abbrev pub with_row : HistoryState → JoinRow → HistoryState
with_row h row = record { rows = h.rows ++ row ∷ []; room = h.room - 1 }

abbrev pub no_history : HistoryState
no_history = record { rows = []; room = 0 }

-- the histories once an offer of a channel has been answered so
abbrev pub with_reply : List Link → List ℕ → ℕ → Option Joined → List HistoryState →
    List HistoryState
with_reply links ticks c None histories = histories
with_reply links ticks c (Some j) histories =
    set histories c (with_row (get_or histories c no_history) (row_of links ticks c j))

-- an offer that is answered is a join more
abbrev pub rows_of : ChannelsState → ℕ → CellMove → Option Joined → List JoinRow
rows_of b c (Offer a v s) (Some j) = row_in b c j ∷ []
rows_of b c (Offer a v s) None = []
rows_of b c (Recall a) answer = []

-- The cell of the channel has made this move, with this reply, and where an offer was answered the channel's
-- history has a row more. All else is as before.
pub record MovesAt (old : ChannelsState) (c : ℕ) (move : CellMove) (answer : Option Joined)
    (new : ChannelsState) : Type 0 where
  pub same_links : new.links ≡ old.links
  pub same_ticks : new.ticks ≡ old.ticks
  pub same_lists : new.lists ≡ old.lists
  pub same_ends : new.ends ≡ old.ends
  pub replies : answer ≡ cell_reply move (cell_in old c)
  pub cell : cell_in new c ≡ cell_step move (cell_in old c)
  pub rows : (history_in new c).rows ≡ (history_in old c).rows ++ rows_of old c move answer
  pub room : (history_in new c).room + length (history_in new c).rows ≡
      (history_in old c).room + length (history_in old c).rows
  pub other_cells : (k : ℕ) → k ≢ c → cell_in new k ≡ cell_in old k
  pub other_histories : (k : ℕ) → k ≢ c → history_in new k ≡ history_in old k

-- a move of an end, of the domain whose turn it is, is one at its channel
abbrev pub Moves : ChannelsState → ℕ → CellMove → Option Joined → ChannelsState → Type 0
Moves old at move answer new = MovesAt old (end_at old.ends at).channel move answer new
