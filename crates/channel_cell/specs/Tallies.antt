-- What the moves of an end add up to, and what the control word says of the moves of both ends.
use Rattle.std.specs.Prelude.{◌≡◌, ℕ, ℤ, pos, ◌+◌, ◌*◌, ◌/◌, ◌%◌, ◌≤◌, Bool, true, false, List, [], ◌∷◌, length, Option, Some, None}
use Rattle.cell_core.specs.declared.moves.Side.{Side}
use Rattle.cell_core.specs.declared.moves.Side.TheVariants.{Sender, Receiver}
use Rattle.cell_core.specs.declared.moves.Joined.{Joined}
use Rattle.cell_core.specs.declared.moves.Entry.{Entry}
use Rattle.cell_core.specs.declared.moves.CellMove.{CellMove}
use Rattle.cell_core.specs.declared.moves.CellMove.TheVariants.{Offer, Recall}
use Rattle.cell_core.specs.definitions.Histories.{IsCellHistory}
use Rattle.cell_core.specs.definitions.Ends.{StandingOffer}

-- how many joins an end knows, its counter, whether it stands, the reply to its last move, the value and
-- the stamp that it offered last, and whether its last move was a recall of a join
pub record Tally : Type 0 where
  pub joins : ℕ
  pub counter : ℕ
  pub standing : Bool
  pub last : Option Joined
  pub value : ℤ
  pub stamp : ℕ
  pub called : Bool

abbrev pub none_yet : Tally
none_yet =
    record {
      joins = 0;
      counter = 0;
      standing = false;
      last = None;
      value = pos 0;
      stamp = 0;
      called = false;
    }

-- An offer raises the counter to one more than twice the joins, and a recall lowers it by one.
abbrev pub counted : Tally → CellMove → Option Joined → Tally
counted t (Offer a v s) None =
    record {
      joins = t.joins;
      counter = 2 * t.joins + 1;
      standing = true;
      last = None;
      value = v;
      stamp = s;
      called = false;
    }
counted t (Offer a v s) (Some j) =
    record {
      joins = t.joins + 1;
      counter = 2 * t.joins + 1;
      standing = false;
      last = Some j;
      value = v;
      stamp = s;
      called = false;
    }
counted t (Recall a) None =
    record {
      joins = t.joins;
      counter = 2 * t.joins;
      standing = false;
      last = None;
      value = t.value;
      stamp = t.stamp;
      called = false;
    }
counted t (Recall a) (Some j) =
    record {
      joins = t.joins + 1;
      counter = 2 * t.joins;
      standing = false;
      last = Some j;
      value = t.value;
      stamp = t.stamp;
      called = true;
    }

abbrev pub tally_from : Tally → List Entry → Tally
tally_from t [] = t
tally_from t (e ∷ es) = tally_from (counted t e.what e.reply) es

abbrev pub tally : List Entry → Tally
tally es = tally_from none_yet es

-- an offer, where it stands
abbrev pub offer_if : Bool → ℤ → ℕ → Option StandingOffer
offer_if false v s = None
offer_if true v s = Some (record { value = v; stamp = s })

-- the offer that stands after these moves
abbrev pub offer_of : Tally → Option StandingOffer
offer_of t = offer_if t.standing t.value t.stamp

-- The control word has the number of moves in its 20 low bits, above it the sender's counter in 22 bits,
-- and above that the receiver's in 22.
abbrev pub moves_limit : ℕ
moves_limit = 1048576

abbrev pub counter_limit : ℕ
counter_limit = 4194304

-- one of a side's counter, in the control word
abbrev pub unit : Side → ℕ
unit Sender = moves_limit
unit Receiver = moves_limit * counter_limit

abbrev pub packed : ℕ → ℕ → ℕ → ℕ
packed moves sender receiver = moves + sender * unit Sender + receiver * unit Receiver

abbrev pub moves_in_word : ℕ → ℕ
moves_in_word word = word % moves_limit

abbrev pub counter_in : Side → ℕ → ℕ
counter_in Sender word = word / unit Sender % counter_limit
counter_in Receiver word = word / unit Receiver

-- the most moves of one end
abbrev pub most : ℕ
most = 400001

-- The two lists are a legal history, the control word counts their moves and has each end's counter, and
-- neither list is too long.
pub record Counts (word : ℕ) (sender receiver : List Entry) : Type 0 where
  pub history : IsCellHistory sender receiver
  pub control : word ≡
      packed (length sender + length receiver) (tally sender).counter (tally receiver).counter
  pub few_sent : length sender ≤ most
  pub few_received : length receiver ≤ most
