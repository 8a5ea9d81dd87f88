-- The rounds of a domain, and rounds that fit the cell histories of the channels.
use Rattle.std.specs.Prelude.{◌≡◌, ℕ, ◌<◌, ◌≤◌, ◌+◌, ℤ, pos, Bool, true, false, cond, ◌⊎◌, List, [], ◌∷◌, ◌++◌, length, map, suc, zero, Option, Some, None, is_some}
use Rattle.cell_core.specs.declared.moves.Side.{Side}
use Rattle.cell_core.specs.declared.moves.Side.TheVariants.{Sender, Receiver}
use Rattle.cell_core.specs.declared.moves.Joined.{Joined}
use Rattle.cell_core.specs.declared.moves.CellMove.{CellMove}
use Rattle.cell_core.specs.declared.moves.CellMove.TheVariants.{Offer as OfferMove, Recall as RecallMove}
use Rattle.cell_core.specs.declared.moves.Entry.{Entry as CellEntry}
use Rattle.cell_core.specs.definitions.Histories.{IsCellHistory}
use Rattle.kernel_rules.specs.definitions.Signals.{put_at}
use Rattle.kernel_rules.specs.definitions.LegalTick.{DomainState, IsLegalTick}
use Rattle.kernel_terms.specs.Marks.{Mark}
use Rattle.tick_log.specs.definitions.Runs.{Entry, RunState, log_of, history_of, entry_at, tick_count}
use Rattle.domain_core.specs.definitions.runs.Systems.{WaitsToSend, WaitsToReceive, with_found, Setup, SystemState, start_of, sender_of, receiver_of, domain_count, channel_count}
use Rattle.domain_core.specs.definitions.runs.Stamps.{IsTickStamp, last_stamp, stamp_of_join}
use Rattle.domain_core.specs.definitions.runs.LegalRuns.{IsLegalRun, IsAtRest}

-- an offer that a domain makes, and the cell's reply
pub record Offer : Type 0 where
  pub value : ℤ
  pub stamp : ℕ
  pub reply : Option Joined

-- The rounds of a domain, by its number of ticks. Right after n ticks its state is `after n`, and it makes
-- `offers n c` at its end of channel c. Before the next tick it recalls this end, with the reply in
-- `recalls n c`. Where the last round is cut, the last recalls are its first part, and else those that are
-- made after all rounds.
pub record Rounds : Type 0 where
  pub after : ℕ → DomainState
  pub offers : ℕ → ℕ → Option Offer
  pub recalls : ℕ → ℕ → Option (Option Joined)
  pub is_cut : Bool

-- the join that is found at an offer, and at a recall
abbrev pub found_at_offer : Option Offer → Option Joined
found_at_offer None = None
found_at_offer (Some o) = o.reply

abbrev pub found_at_recall : Option (Option Joined) → Option Joined
found_at_recall None = None
found_at_recall (Some reply) = reply

abbrev pub or_else : Option Joined → Option Joined → Option Joined
or_else None other = other
or_else (Some j) other = Some j

-- the joins of these offers, found at them or at these recalls
abbrev pub join_found : (ℕ → Option Offer) → (ℕ → Option (Option Joined)) → ℕ → Option Joined
join_found offers recalls c = or_else (found_at_recall (recalls c)) (found_at_offer (offers c))

-- one of them has this stamp
abbrev pub IsFoundStamp : (ℕ → Option Offer) → (ℕ → Option (Option Joined)) → ℕ → Type 0
IsFoundStamp offers recalls t =
    (c : ℕ) × (j : Joined) × (join_found offers recalls c ≡ Some j) × (t ≡ stamp_of_join j)

abbrev pub value_found : Option Joined → Option ℤ
value_found None = None
value_found (Some j) = Some j.value

-- a domain's state with what its offers found, and with what its recalls found too
abbrev pub offered : Setup → ℕ → DomainState → (ℕ → Option Offer) → DomainState
offered setup d s offers =
    with_found setup.tables d (λ c. value_found (found_at_offer (offers c))) s

abbrev pub recalled : Setup → ℕ → DomainState → (ℕ → Option Offer) → (ℕ → Option (Option Joined)) →
    DomainState
recalled setup d s offers recalls =
    with_found setup.tables d (λ c. value_found (found_at_recall (recalls c)))
    (offered setup d s offers)

-- an end stands from an offer without a join on, and exactly what stands is recalled
abbrev pub RecallsStanding : Option Offer → Option (Option Joined) → Type 0
RecallsStanding None recall = recall ≡ None
RecallsStanding (Some o) recall =
    ((is_some o.reply ≡ true) × (recall ≡ None)) ⊎
    ((o.reply ≡ None) × ((reply : Option Joined) × (recall ≡ Some reply)))

-- Right after a tick with this stamp a domain offers exactly its ends that wait, with the stamp and, at a
-- sender, the sent value. A receiver's offer has the value 0.
pub record OffersWaiting (setup : Setup) (d stamp : ℕ) (after : DomainState) (offers : ℕ →
    Option Offer) : Type 0 where
  pub ends : (c : ℕ) (o : Offer) → offers c ≡ Some o →
      (c < channel_count setup) × ((sender_of setup c ≡ d) ⊎ (receiver_of setup c ≡ d))
  pub stamps : (c : ℕ) (o : Offer) → offers c ≡ Some o → o.stamp ≡ stamp
  pub sends : (c : ℕ) (o : Offer) → offers c ≡ Some o → sender_of setup c ≡ d →
      WaitsToSend c o.value after.statement
  pub receives : (c : ℕ) (o : Offer) → offers c ≡ Some o → receiver_of setup c ≡ d →
      WaitsToReceive c after.statement × (o.value ≡ pos 0)
  pub all_sends : (c : ℕ) (v : ℤ) → c < channel_count setup → sender_of setup c ≡ d →
      WaitsToSend c v after.statement → is_some (offers c) ≡ true
  pub all_receives : (c : ℕ) → c < channel_count setup → receiver_of setup c ≡ d →
      WaitsToReceive c after.statement → is_some (offers c) ≡ true

-- A round of domain d, from the state right after its last tick, which had the stamp `last`, and the offers after
-- it: it recalls exactly the ends that stand, makes the tick of this entry from the state with the joins so found,
-- with the stamp of the rule, and offers exactly the ends that wait then.
pub record IsRound (setup : Setup) (d last : ℕ) (before : DomainState) (made : ℕ →
    Option Offer) (recalls : ℕ →
    Option (Option Joined)) (entry : Entry) (after : DomainState) (offers : ℕ →
    Option Offer) : Type 0 where
  pub stands : (c : ℕ) → RecallsStanding (made c) (recalls c)
  pub stamp : IsTickStamp last (IsFoundStamp made recalls) entry.stamp
  pub tick : IsLegalTick setup.tables setup.inputs d (recalled setup d before made recalls)
      entry.statuses after
  pub offers_waiting : OffersWaiting setup d entry.stamp after offers

-- the stamps of the entries of a log
abbrev pub entry_stamps : List Entry → ℕ → ℕ
entry_stamps entries n = (entry_at entries n).stamp

-- One round for each entry of the domain's log, from its start.
pub record MakesLog (setup : Setup) (d : ℕ) (entries : List Entry) (mark : Mark) (x : Rounds) : Type
    0 where
  pub begins : x.after 0 ≡ start_of setup d
  pub none_before : (c : ℕ) → x.offers 0 c ≡ None
  pub none_after : (n c : ℕ) → length entries < n → x.offers n c ≡ None
  pub rounds : (n : ℕ) → n < length entries →
      IsRound setup d (last_stamp (entry_stamps entries) n) (x.after n) (x.offers n) (x.recalls n)
      (entry_at entries n) (x.after (suc n)) (x.offers (suc n))
  pub mark_is : mark ≡ (x.after (length entries)).mark

-- the rounds of domain d, whose log has these entries and this mark, with the recalls of what stands after the last
pub record IsRounds (setup : Setup) (d : ℕ) (entries : List Entry) (mark : Mark) (x : Rounds) : Type
    0 where
  pub made : MakesLog setup d entries mark x
  pub stands : (n c : ℕ) → length entries ≤ n → RecallsStanding (x.offers n c) (x.recalls n c)

-- rounds that may go on: what stands after the last tick is still to be recalled
pub record IsOpenRounds (setup : Setup) (d : ℕ) (entries : List Entry) (mark : Mark) (x : Rounds) :
    Type 0 where
  pub made : MakesLog setup d entries mark x
  pub to_recall : (n c : ℕ) → length entries ≤ n → x.recalls n c ≡ None

-- no rounds
abbrev pub no_rounds : Setup → ℕ → Rounds
no_rounds setup d =
    record {
      after = λ n. start_of setup d;
      offers = λ n c. None;
      recalls = λ n c. None;
      is_cut = false;
    }

-- a next round, which makes this entry
abbrev pub MakesRound : Setup → ℕ → List Entry → Rounds → (ℕ → Option (Option Joined)) → Entry →
    DomainState → (ℕ → Option Offer) → Type 0
MakesRound setup d entries x recalls entry after offers =
    IsRound setup d (last_stamp (entry_stamps entries) (length entries)) (x.after (length entries))
    (x.offers (length entries)) recalls entry after offers

-- the rounds with one more after n ticks
abbrev pub with_round : Rounds → ℕ → (ℕ → Option (Option Joined)) → DomainState →
    (ℕ → Option Offer) → Rounds
with_round x n recalls after offers =
    record {
      after = put_at x.after (suc n) after;
      offers = put_at x.offers (suc n) offers;
      recalls = put_at x.recalls n recalls;
      is_cut = false;
    }

-- the rounds with the recalls of what stands after n ticks: the first part of a cut round, or last recalls
abbrev pub with_recalls : Rounds → ℕ → (ℕ → Option (Option Joined)) → Bool → Rounds
with_recalls x n recalls cut = record x { recalls = put_at x.recalls n recalls; is_cut = cut }

-- a move at a cell and its reply, without its place
pub record MoveMade : Type 0 where
  pub what : CellMove
  pub reply : Option Joined

abbrev pub without_place : CellEntry → MoveMade
without_place e = record { what = e.what; reply = e.reply }

-- the moves of an end on channel c in `left` exchanges, of which the first is that after n ticks
abbrev pub offer_move : Side → Option Offer → List MoveMade → List MoveMade
offer_move a None rest = rest
offer_move a (Some o) rest = record { what = OfferMove a o.value o.stamp; reply = o.reply } ∷ rest

abbrev pub recall_move : Side → Option (Option Joined) → List MoveMade → List MoveMade
recall_move a None rest = rest
recall_move a (Some reply) rest = record { what = RecallMove a; reply = reply } ∷ rest

abbrev pub moves_from : Side → Rounds → ℕ → ℕ → ℕ → List MoveMade
moves_from a x c n zero = []
moves_from a x c n (suc left) =
    offer_move a (x.offers n c) (recall_move a (x.recalls n c) (moves_from a x c (suc n) left))

-- the last recall of an end that still stands after n ticks, which a cut round has made already
abbrev pub last_recall : Side → Rounds → ℕ → ℕ → List MoveMade
last_recall a x c n = cond x.is_cut [] (recall_move a (x.recalls n c) [])

-- The entries are the moves of an end of a domain that makes `count` ticks, in their order: those in its
-- rounds, and then its last recall.
pub record AreMovesOf (a : Side) (x : Rounds) (c count : ℕ) (in_rounds last : List CellEntry) : Type
    0 where
  pub all : map without_place (in_rounds ++ last) ≡ moves_from a x c 1 count
  pub last_is : map without_place last ≡ last_recall a x c count

-- no place is smaller than n
abbrev pub PlacesFrom : ℕ → List CellEntry → Type 0
PlacesFrom n [] = Unit {0}
PlacesFrom n (e ∷ es) = (n ≤ e.place) × PlacesFrom n es

-- a join that an end found: the number of ticks at its offer, the value, and the stamp of the join
pub record Found : Type 0 where
  pub number : ℕ
  pub value : ℤ
  pub stamp : ℕ

abbrev pub found_entry : ℕ → Option Joined → List Found → List Found
found_entry n None rest = rest
found_entry n (Some j) rest = record { number = n; value = j.value; stamp = stamp_of_join j } ∷ rest

abbrev pub found_from : Rounds → ℕ → ℕ → ℕ → List Found
found_from x c n zero = []
found_from x c n (suc left) =
    found_entry n (found_at_offer (x.offers n c))
    (found_entry n (found_at_recall (x.recalls n c)) (found_from x c (suc n) left))

-- The rows of a channel's history are the joins that its sender found, in their order, each with the number
-- of ticks of the receiver that the receiver found it at.
pub record RowsAreFound (setup : Setup) (r : RunState) (rounds : ℕ → Rounds) (c : ℕ) : Type 0 where
  pub sender_rows :
      map (λ row. record {
        number = row.sender_ticks;
        value = row.value;
        stamp = row.stamp;
      }) (history_of r c) ≡
      found_from (rounds (sender_of setup c)) c 1 (tick_count r (sender_of setup c))
  pub receiver_rows :
      map (λ row. row.receiver_ticks) (history_of r c) ≡
      map (λ f. f.number) (found_from (rounds (receiver_of setup c)) c 1
      (tick_count r (receiver_of setup c)))

-- The moves of the two ends in the rounds, and after them the last recalls, are a legal history of the
-- channel's cell.
pub record HasCellHistory (setup : Setup) (r : RunState) (rounds : ℕ →
    Rounds) (c : ℕ) : Type 0 where
  pub sender : List CellEntry
  pub receiver : List CellEntry
  pub last_of_sender : List CellEntry
  pub last_of_receiver : List CellEntry
  pub history : IsCellHistory (sender ++ last_of_sender) (receiver ++ last_of_receiver)
  pub last_places : PlacesFrom (length sender + length receiver) (last_of_sender ++
      last_of_receiver)
  pub sender_moves : AreMovesOf Sender (rounds (sender_of setup c)) c
      (tick_count r (sender_of setup c)) sender last_of_sender
  pub receiver_moves : AreMovesOf Receiver (rounds (receiver_of setup c)) c
      (tick_count r (receiver_of setup c)) receiver last_of_receiver

-- these moves are a legal history, and the rows of the channel's history are the joins of it
pub record FitsChannel (setup : Setup) (r : RunState) (rounds : ℕ → Rounds) (c : ℕ) : Type 0 where
  pub moves : HasCellHistory setup r rounds c
  pub rows : RowsAreFound setup r rounds c

-- the rounds of the domains fit the cell histories of the channels
pub record RoundsFit (setup : Setup) (r : RunState) (rounds : ℕ → Rounds) : Type 0 where
  pub domains : (d : ℕ) → d < domain_count setup →
      IsRounds setup d (log_of r d).entries (log_of r d).mark (rounds d)
  pub channels : (c : ℕ) → c < channel_count setup → FitsChannel setup r rounds c

-- no domain's last round is cut
abbrev pub NoneCut : Setup → (ℕ → Rounds) → Type 0
NoneCut setup rounds = (d : ℕ) → d < domain_count setup → (rounds d).is_cut ≡ false

-- the run is legal, and at rest where no round is cut
pub record RunsLegally (setup : Setup) (r : RunState) (rounds : ℕ → Rounds) : Type 0 where
  pub end : SystemState
  pub legal : IsLegalRun setup r end
  pub at_rest : NoneCut setup rounds → IsAtRest setup end
