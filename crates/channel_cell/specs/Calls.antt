-- What the steps of a seat do to what it knows.
use Rattle.std.specs.Prelude.{◌≡◌, Bool, ℕ, ℤ, ◌+◌, ◌≤◌, pos, List, [], ◌∷◌, ◌++◌, length, Option, Some, None, IfSome, true, false}
use Rattle.std.specs.Option.{is_some}
use Rattle.atomic_table.specs.Seated.{TableId}
use Rattle.java_values.specs.declared.kind.Kind.{Kind}
use Rattle.java_values.specs.declared.kind.Kind.TheVariants.{Boolean}
use Rattle.cell_core.specs.declared.moves.Side.{Side}
use Rattle.cell_core.specs.declared.moves.Side.TheVariants.{Sender, Receiver}
use Rattle.cell_core.specs.declared.moves.Joined.{Joined}
use Rattle.cell_core.specs.declared.moves.Entry.{Entry}
use Rattle.cell_core.specs.declared.moves.CellMove.{CellMove}
use Rattle.cell_core.specs.declared.moves.CellMove.TheVariants.{Recall}
use Rattle.cell_core.specs.definitions.Histories.{entry, IsCellHistory}
use Rattle.cell_core.specs.definitions.Cells.{sent_value}
use Rattle.cell_core.specs.definitions.Ends.{JoinFits}
use Rattle.channel_cell.specs.definitions.Channels.{EndState, LegalFor}
use Rattle.channel_cell.specs.declared.rule.Knows.{Knows}
use Rattle.channel_cell.specs.declared.rule.View.{View}
use Rattle.channel_cell.specs.declared.rule.View.TheVariants.{First, Own, Both, Spent}
use Rattle.channel_cell.specs.Tallies.{Tally, tally, offer_of, most}
use Rattle.channel_cell.specs.Lanes.{IsOwn}
use Rattle.channel_cell.specs.Rule.{Sat, nothing, knows, knows_in}

-- what is seen of an end whose seat knows this
abbrev pub end_state : TableId → Side → Knows → ℕ → EndState
end_state channel side k room =
    record {
      channel = channel;
      side = side;
      kind = k.kind;
      moves = k.moves;
      offer = offer_of (tally k.moves);
      room = room;
    }

-- what a seat of one side knows

abbrev pub kind_in : Sat → Kind
kind_in me = (knows_in me.0).kind

abbrev pub moves_in : Sat → List Entry
moves_in me = (knows_in me.0).moves

abbrev pub tally_in : Sat → Tally
tally_in me = tally (moves_in me)

-- the value and the stamp that an offer of the seat has: those in its lanes, but a receiver offers 0
abbrev pub value_to_offer : Side → Sat → ℤ
value_to_offer side me = sent_value side (knows_in me.0).value (pos 0)

abbrev pub stamp_to_offer : Sat → ℕ
stamp_to_offer me = (knows_in me.0).stamp

-- the seat with this value and this stamp in its lanes
abbrev pub noting : Side → Sat → ℤ → ℕ → Sat
noting side me v s = (Own side (knows (kind_in me) (moves_in me) v s), [])

-- the seat is one of this table, and knows this side
pub record IsSeated (table seat : TableId) (side : Side) (me : Sat) : Type 0 where
  pub word : table.words ≡ 7
  pub sits : seat ≡ table
  pub view : me ≡ (Own side (knows_in me.0), [])

-- the seat has made one more move, and whether it joined
pub record Moved (side : Side) (k : Knows) (m : CellMove) (v : ℤ) (s : ℕ) (joined : Bool)
    (new : Sat) : Type 0 where
  pub place : ℕ
  pub reply : Option Joined
  pub value : ℤ
  pub stamp : ℕ
  pub now : new ≡ (Own side (knows k.kind (k.moves ++ entry place m reply ∷ []) value stamp), [])
  pub answered : is_some reply ≡ joined
  pub own : IsOwn side reply v s
  pub fits : IfSome reply (JoinFits k.kind)
  pub theirs : List Entry
  pub legal : LegalFor side (k.moves ++ entry place m reply ∷ []) theirs

-- the seat has made one more move, with this answer
pub record Done (side : Side) (k : Knows) (m : CellMove) (v : ℤ) (s : ℕ) (answer : Option Joined)
    (new : Sat) : Type 0 where
  pub place : ℕ
  pub value : ℤ
  pub stamp : ℕ
  pub now : new ≡ (Own side (knows k.kind (k.moves ++ entry place m answer ∷ []) value stamp), [])
  pub own : IsOwn side answer v s
  pub fits : IfSome answer (JoinFits k.kind)
  pub theirs : List Entry
  pub legal : LegalFor side (k.moves ++ entry place m answer ∷ []) theirs

-- the reply, where it is a join, is this one
abbrev pub Is : Option Joined → Joined → Type 0
Is None j = Unit {0}
Is (Some i) j = i ≡ j

abbrev pub IsValue : Option Joined → ℤ → Type 0
IsValue None v = Unit {0}
IsValue (Some i) v = v ≡ i.value

-- what an end keeps
pub record KeepsEnd (table channel : TableId) (side : Side) (me : Sat) (joins counter : ℕ)
    (standing : Bool) (value : ℤ) (stamp room : ℕ) : Type 0 where
  pub seated : IsSeated table channel side me
  pub joins_are : joins ≡ (tally_in me).joins
  pub counter_is : counter ≡ (tally_in me).counter
  pub standing_is : standing ≡ (tally_in me).standing
  pub value_is : value ≡ (tally_in me).value
  pub stamp_is : stamp ≡ (tally_in me).stamp
  pub room_is : length (moves_in me) + room ≤ most

-- what the seat with both lists knows

abbrev pub second_in : View → Knows
second_in (First kind) = nothing kind
second_in (Own side k) = nothing k.kind
second_in (Both a b) = b
second_in Spent = nothing Boolean

abbrev pub held : Side → Sat → Knows
held Sender me = knows_in me.0
held Receiver me = second_in me.0

abbrev pub replaced : Side → Sat → Knows → View
replaced Sender me k = Both k (second_in me.0)
replaced Receiver me k = Both (knows_in me.0) k

abbrev pub tally_of : Side → Sat → Tally
tally_of side me = tally (held side me).moves

-- how many moves both lists have
abbrev pub moves_made : Sat → ℕ
moves_made me = length (held Sender me).moves + length (held Receiver me).moves

pub record IsJoined (table seat : TableId) (me : Sat) : Type 0 where
  pub word : table.words ≡ 7
  pub sits : seat ≡ table
  pub view : me ≡ (Both (held Sender me) (held Receiver me), [])

-- one more move of a side, behind all moves, and whether it joined
pub record MovedBoth (side : Side) (old : Sat) (m : CellMove) (v : ℤ) (s : ℕ) (joined : Bool)
    (new : Sat) : Type 0 where
  pub reply : Option Joined
  pub value : ℤ
  pub stamp : ℕ
  pub now : new ≡ (
    replaced side old (knows (held side old).kind ((held side old).moves ++
        entry (moves_made old) m reply ∷ []) value stamp),
    [],
  )
  pub answered : is_some reply ≡ joined
  pub own : IsOwn side reply v s
  pub fits : IfSome reply (JoinFits (held side old).kind)

-- one more move of a side, behind all moves, with this answer
pub record DoneBoth (side : Side) (old : Sat) (m : CellMove) (answer : Option Joined) (new : Sat) :
    Type 0 where
  pub value : ℤ
  pub stamp : ℕ
  pub now : new ≡ (
    replaced side old (knows (held side old).kind ((held side old).moves ++
        entry (moves_made old) m answer ∷ []) value stamp),
    [],
  )
  pub fits : IfSome answer (JoinFits (held side old).kind)

-- a side's list with its last recall at place n, where it stood
abbrev pub RecalledIf : Side → ℕ → Bool → List Entry → Option Joined → List Entry → Type 0
RecalledIf side n false es answer after = (answer ≡ None) × (after ≡ es)
RecalledIf side n true es answer after = after ≡ es ++ entry n (Recall side) answer ∷ []

-- both lists with the last recalls, which have the last places, are a legal history
pub record RecallsLast (a b : List Entry) (sent received : Option Joined) : Type 0 where
  pub sender : List Entry
  pub receiver : List Entry
  pub at_sender : RecalledIf Sender (length a + length b) (tally a).standing a sent sender
  pub at_receiver : RecalledIf Receiver (length sender + length b) (tally b).standing b received
      receiver
  pub legal : IsCellHistory sender receiver
