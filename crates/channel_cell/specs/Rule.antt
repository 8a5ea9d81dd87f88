-- The rule of a channel's seven words, and what each step on them tells.
use Rattle.std.specs.Prelude.{◌≡◌, ◌≢◌, ◌⊎◌, ℕ, ℤ, ◌+◌, ◌*◌, ◌<◌, ◌≤◌, true, false, List, [], ◌∷◌, ◌++◌, length, Option, Some, None, IfSome, pos, slice_index}
use Rattle.std.specs.Option.{is_some}
use Rattle.std.specs.Int.{cast_signed, w64}
use Rattle.atomic_table.specs.Table.{State, Me}
use Rattle.java_values.specs.declared.kind.Kind.{Kind}
use Rattle.java_values.specs.declared.kind.Kind.TheVariants.{Boolean}
use Rattle.cell_core.specs.declared.moves.Side.{Side}
use Rattle.cell_core.specs.declared.moves.Side.TheVariants.{Sender, Receiver}
use Rattle.cell_core.specs.declared.moves.Joined.{Joined}
use Rattle.cell_core.specs.declared.moves.Entry.{Entry}
use Rattle.cell_core.specs.declared.moves.CellMove.{CellMove}
use Rattle.cell_core.specs.declared.moves.CellMove.TheVariants.{Offer, Recall}
use Rattle.cell_core.specs.definitions.Cells.{other, sent_value}
use Rattle.cell_core.specs.definitions.Ends.{JoinFits}
use Rattle.cell_core.specs.definitions.Histories.{entry, cell_after, IsCellHistory}
use Rattle.channel_cell.specs.definitions.Channels.{LegalFor}
use Rattle.channel_cell.specs.declared.rule.Knows.{Knows}
use Rattle.channel_cell.specs.declared.rule.View.{View}
use Rattle.channel_cell.specs.declared.rule.View.TheVariants.{First, Own, Both, Spent}
use Rattle.channel_cell.specs.Tallies.{tally, counter_in, moves_in_word, Counts}
use Rattle.channel_cell.specs.Lanes.{value_lane, stamp_lane, Says, Shows, AllFit, IsOwn}

abbrev pub knows : Kind → List Entry → ℤ → ℕ → Knows
knows kind es v s = record { kind = kind; moves = es; value = v; stamp = s }

abbrev pub nothing : Kind → Knows
nothing kind = knows kind [] (pos 0) 0

abbrev pub own : Side → Knows → View
own side k = Own side k

abbrev pub both_views : View → View → View
both_views (First kind) v = Spent
both_views (Own Sender a) (Own Receiver b) = Both a b
both_views (Own Sender a) (Own Sender b) = Spent
both_views (Own Sender a) (First kind) = Spent
both_views (Own Sender a) (Both b c) = Spent
both_views (Own Sender a) Spent = Spent
both_views (Own Receiver a) v = Spent
both_views (Both a b) v = Spent
both_views Spent v = Spent

-- the views before the seats are split, while both ends have theirs, and after the seats are joined
abbrev pub Seated : List View → Knows → Knows → Type 0
Seated views a b =
    ((views ≡ First a.kind ∷ []) × (a ≡ nothing a.kind) × (b ≡ nothing a.kind)) ⊎
    (views ≡ Own Sender a ∷ Own Receiver b ∷ []) ⊎ (views ≡ Both a b ∷ Spent ∷ [])

abbrev pub joins_of : Knows → ℕ
joins_of k = (tally k.moves).joins

abbrev pub last_of : Knows → Option Joined
last_of k = (tally k.moves).last

-- what the words say of both ends
pub record Agrees (words : List ℕ) (a b : Knows) : Type 0 where
  pub counts : Counts (slice_index words 0) a.moves b.moves
  pub kinds : b.kind ≡ a.kind
  pub fit : AllFit a.kind counts.history.moves
  pub sender_notes : Says words Sender (joins_of a) a.value a.stamp
  pub receiver_notes : Says words Receiver (joins_of b) b.value b.stamp
  pub sender_shows : Shows words Sender (cell_after counts.history.moves).sender (joins_of a)
      (cell_after counts.history.moves).receiver (joins_of b) (last_of b)
  pub receiver_shows : Shows words Receiver (cell_after counts.history.moves).receiver (joins_of b)
      (cell_after counts.history.moves).sender (joins_of a) (last_of a)

pub record Held (words : List ℕ) (views : List View) : Type 0 where
  pub sender : Knows
  pub receiver : Knows
  pub seven : length words ≡ 7
  pub seated : Seated views sender receiver
  pub agrees : Agrees words sender receiver

abbrev pub holds : State (Unit {0}) View → Type 0
holds s = Held s.words s.views

abbrev pub Sat : Type 0
Sat = Me (Unit {0}) View

-- a store changes what the seat notes
abbrev pub value_tells : View → ℕ → Sat → Type 0
value_tells (First kind) new me = Unit {0}
value_tells (Own side k) new me =
    me ≡ (Own side (knows k.kind k.moves (cast_signed w64 new) k.stamp), [])
value_tells (Both a b) new me = Unit {0}
value_tells Spent new me = Unit {0}

abbrev pub stamp_tells : View → ℕ → Sat → Type 0
stamp_tells (First kind) new me = Unit {0}
stamp_tells (Own side k) new me = me ≡ (Own side (knows k.kind k.moves k.value new), [])
stamp_tells (Both a b) new me = Unit {0}
stamp_tells Spent new me = Unit {0}

-- One move more, behind the others, at the place that the word gives. It joins where J holds, and not where
-- N does. With some moves of the other side, the moves are a legal history.
pub record Adds (side : Side) (wrap : Knows →
    View) (k : Knows) (found : ℕ) (m : CellMove) (offered_value : ℤ) (offered_stamp : ℕ)
    (J N : Type 0) (new : Sat) : Type 0 where
  pub reply : Option Joined
  pub value : ℤ
  pub stamp : ℕ
  pub added : new ≡
      (wrap (knows k.kind (k.moves ++ entry (moves_in_word found) m reply ∷ []) value stamp), [])
  pub joins : J → is_some reply ≡ true
  pub none : N → is_some reply ≡ false
  pub own : IsOwn side reply offered_value offered_stamp
  pub fits : IfSome reply (JoinFits k.kind)
  pub theirs : List Entry
  pub legal : LegalFor side (k.moves ++ entry (moves_in_word found) m reply ∷ []) theirs

-- an offer of what the lanes hold; a receiver offers 0
abbrev pub offer_tells : View → ℕ → Sat → Type 0
offer_tells (First kind) found me = Unit {0}
offer_tells (Own side k) found me =
    Adds side (Own side) k found (Offer side (sent_value side k.value (pos 0)) k.stamp)
    (sent_value side k.value (pos 0)) k.stamp (counter_in (other side) found ≡
    2 * joins_of k + 1) (counter_in (other side) found ≢ 2 * joins_of k + 1) me
offer_tells (Both a b) found me = Unit {0}
offer_tells Spent found me = Unit {0}

abbrev pub recall_tells : View → ℕ → Sat → Type 0
recall_tells (First kind) found me = Unit {0}
recall_tells (Own side k) found me =
    Adds side (Own side) k found (Recall side) (tally k.moves).value (tally k.moves).stamp
    (2 * joins_of k + 1 ≤ counter_in (other side) found)
    (counter_in (other side) found < 2 * joins_of k + 1) me
recall_tells (Both a b) found me = Unit {0}
recall_tells Spent found me = Unit {0}

-- a recall by the seat with both lists, which knows the place
abbrev pub both_recall_tells : Side → View → ℕ → Sat → Type 0
both_recall_tells side (First kind) found me = Unit {0}
both_recall_tells side (Own a k) found me = Unit {0}
both_recall_tells Sender (Both a b) found me =
    Adds Sender (λ k. Both k b) a found (Recall Sender) (tally a.moves).value (tally a.moves).stamp
    (2 * joins_of a + 1 ≤ counter_in Receiver found)
    (counter_in Receiver found < 2 * joins_of a + 1) me ×
    (moves_in_word found ≡ length a.moves + length b.moves)
both_recall_tells Receiver (Both a b) found me =
    Adds Receiver (λ k. Both a k) b found (Recall Receiver) (tally b.moves).value
    (tally b.moves).stamp (2 * joins_of b + 1 ≤ counter_in Sender found)
    (counter_in Sender found < 2 * joins_of b + 1) me ×
    (moves_in_word found ≡ length a.moves + length b.moves)
both_recall_tells side Spent found me = Unit {0}

-- what was read is what the last reply says
abbrev pub value_read : Option Joined → ℕ → Type 0
value_read None found = Unit {0}
value_read (Some j) found = cast_signed w64 found ≡ j.value

abbrev pub stamp_read : Option Joined → ℕ → Type 0
stamp_read None found = Unit {0}
stamp_read (Some j) found = found ≡ j.theirs

abbrev pub read_value_tells : View → ℕ → Type 0
read_value_tells (First kind) found = Unit {0}
read_value_tells (Own side k) found = value_read (last_of k) found
read_value_tells (Both a b) found = Unit {0}
read_value_tells Spent found = Unit {0}

abbrev pub read_stamp_tells : View → ℕ → Type 0
read_stamp_tells (First kind) found = Unit {0}
read_stamp_tells (Own side k) found = stamp_read (last_of k) found
read_stamp_tells (Both a b) found = Unit {0}
read_stamp_tells Spent found = Unit {0}

-- the same for the seat with both lists, by the word
abbrev pub read_both_tells : ℕ → View → ℕ → Type 0
read_both_tells word (First kind) found = Unit {0}
read_both_tells word (Own side k) found = Unit {0}
read_both_tells word (Both a b) found =
    (word ≡ stamp_lane Receiver (joins_of a + 1) → stamp_read (last_of a) found) ×
    (word ≡ stamp_lane Sender (joins_of b + 1) → stamp_read (last_of b) found) ×
    (word ≡ value_lane (joins_of b + 1) → value_read (last_of b) found)
read_both_tells word Spent found = Unit {0}

-- a look at the words once both lists are with one seat
abbrev pub learn_tells : View → ℕ → Sat → Type 0
learn_tells (First kind) found me = Unit {0}
learn_tells (Own side k) found me = Unit {0}
learn_tells (Both a b) found me = IsCellHistory a.moves b.moves
learn_tells Spent found me = Unit {0}

-- what a seat of one side knows
abbrev pub knows_in : View → Knows
knows_in (First kind) = nothing kind
knows_in (Own side k) = k
knows_in (Both a b) = a
knows_in Spent = nothing Boolean
