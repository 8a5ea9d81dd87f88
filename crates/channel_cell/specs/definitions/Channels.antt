-- What is seen of an end of a channel, and what the calls at it do.
use Rattle.std.specs.Prelude.{◌≡◌, ℕ, ◌+◌, List, [], ◌∷◌, ◌++◌, length, map, Option, Some, None, IfSome, true, false}
use Rattle.std.specs.Option.{is_some}
use Rattle.atomic_table.specs.Seated.{TableId}
use Rattle.java_values.specs.declared.kind.Kind.{Kind}
use Rattle.cell_core.specs.declared.moves.Side.{Side}
use Rattle.cell_core.specs.declared.moves.Side.TheVariants.{Sender, Receiver}
use Rattle.cell_core.specs.declared.moves.Joined.{Joined}
use Rattle.cell_core.specs.declared.moves.Entry.{Entry}
use Rattle.cell_core.specs.declared.moves.CellMove.{CellMove}
use Rattle.cell_core.specs.declared.moves.CellMove.TheVariants.{Offer, Recall}
use Rattle.cell_core.specs.definitions.Histories.{entry, IsCellHistory}
use Rattle.cell_core.specs.definitions.Ends.{StandingOffer, EndView}
use Rattle.cell_core.specs.definitions.Ends.{JoinFits}

-- how many offers each side of a channel may make
abbrev pub most_offers : ℕ
most_offers = 200000

-- An end: its channel, its side, the kind of the channel, its own moves with their places and replies, its
-- offer that stands, if one does, and how many more moves it may make.
pub record EndState : Type 0 where
  pub channel : TableId
  pub side : Side
  pub kind : Kind
  pub moves : List Entry
  pub offer : Option StandingOffer
  pub room : ℕ

-- the end without its channel and its moves
abbrev pub view_of : EndState → EndView
view_of e = record { side = e.side; kind = e.kind; offer = e.offer; room = e.room }

-- an end at which no move was made
pub record IsFresh (side : Side) (kind : Kind) (room : ℕ) (e : EndState) : Type 0 where
  pub is_side : e.side ≡ side
  pub is_kind : e.kind ≡ kind
  pub no_moves : e.moves ≡ []
  pub no_offer : e.offer ≡ None
  pub has_room : e.room ≡ room

-- the offer that stands after a move of an end with this reply
abbrev pub offer_left : CellMove → Option Joined → Option StandingOffer
offer_left (Offer a v s) None = Some (record { value = v; stamp = s })
offer_left (Offer a v s) (Some j) = None
offer_left (Recall a) r = None

-- the moves of a side, and those of the other, are a legal history
abbrev pub LegalFor : Side → List Entry → List Entry → Type 0
LegalFor Sender mine theirs = IsCellHistory mine theirs
LegalFor Receiver mine theirs = IsCellHistory theirs mine

-- The end has made one more move, behind its earlier ones and with this reply. Together with some list of
-- moves of the other end, its moves are a legal history of a cell.
pub record Makes (old new : EndState) (m : CellMove) (reply : Option Joined) : Type 0 where
  pub same_channel : new.channel ≡ old.channel
  pub same_side : new.side ≡ old.side
  pub same_kind : new.kind ≡ old.kind
  pub room : new.room + 1 ≡ old.room
  pub offer : new.offer ≡ offer_left m reply
  pub place : ℕ
  pub made : new.moves ≡ old.moves ++ entry place m reply ∷ []
  pub theirs : List Entry
  pub legal : LegalFor old.side new.moves theirs

-- the joins that a reply tells
abbrev pub join_in : Option Joined → List Joined
join_in None = []
join_in (Some j) = j ∷ []

-- the joins that an end was answered, in their order
abbrev pub joins_in : List Entry → List Joined
joins_in [] = []
joins_in (e ∷ es) = join_in e.reply ++ joins_in es

-- a join as the other end sees it
abbrev pub turned : Joined → Joined
turned j = record { value = j.value; mine = j.theirs; theirs = j.mine }

-- the moves of a side with its recall at place n, where its offer stands
abbrev pub Recalled : Side → ℕ → Option StandingOffer → List Entry → Option Joined → List Entry →
    Type 0
Recalled side n None es answer after = (answer ≡ None) × (after ≡ es)
Recalled side n (Some o) es answer after = after ≡ es ++ entry n (Recall side) answer ∷ []

-- Both ends' moves, with the recalls of the offers that stand at the last places, are a legal history, and
-- the ends then have the same joins, with stamps exchanged, so many of them. At most one of the recalls
-- found a join.
pub record Settles (a b : EndState) (sent received : Option Joined) (joins : ℕ) : Type 0 where
  pub sender : List Entry
  pub receiver : List Entry
  pub at_sender : Recalled Sender (length a.moves + length b.moves) a.offer a.moves sent sender
  pub at_receiver : Recalled Receiver (length sender + length b.moves) b.offer b.moves received
      receiver
  pub legal : IsCellHistory sender receiver
  pub same : map turned (joins_in sender) ≡ joins_in receiver
  pub count_sent : length (joins_in sender) ≡ joins
  pub count_received : length (joins_in receiver) ≡ joins
  pub at_most_one : is_some sent ≡ true → is_some received ≡ false
  pub sent_fits : IfSome sent (JoinFits a.kind)
  pub received_fits : IfSome received (JoinFits b.kind)
