-- Each step keeps the rule of a channel's table.
use Rattle.std.proofs.Common.{◌≡◌, ◌≢◌, ℕ, ◌+◌, ◌*◌, ◌%◌, ◌^◌, ◌<◌, ◌≤◌, true, false, List, [], ◌∷◌, ◌++◌, length, set, Some, None, refl, sym, ap, ◌∙◌, subst, arith, inl}
use Rattle.std.proofs.lemmas.List.{set-get_or, length-set}
use Rattle.std.specs.Prelude.{Option, IfSome, ℤ, pos, slice_index}
use Rattle.std.specs.Int.{cast_signed, w64}
use mathlib.Core.Option.{some}
use lib.ListN.{get_elem?}
use Rattle.atomic_table.specs.Table.{keeps, Allows}
use Rattle.atomic_table.proofs.Lists.{set_again}
use Rattle.java_values.specs.declared.kind.Kind.{Kind}
use Rattle.cell_core.specs.declared.moves.Side.{Side}
use Rattle.cell_core.specs.declared.moves.Side.TheVariants.{Sender, Receiver}
use Rattle.cell_core.specs.declared.moves.Entry.{Entry}
use Rattle.cell_core.specs.declared.moves.Joined.{Joined}
use Rattle.cell_core.specs.declared.moves.CellMove.{CellMove}
use Rattle.cell_core.specs.declared.moves.CellMove.TheVariants.{Offer, Recall}
use Rattle.cell_core.specs.definitions.Cells.{stands, other, sent_value, CanMove}
use Rattle.cell_core.specs.definitions.Ends.{JoinFits}
use Rattle.cell_core.specs.CellEnds.{OfferFits, MoveFits}
use Rattle.cell_core.specs.definitions.Histories.{entry, cell_after, side_of, IsCellHistory}
use Rattle.channel_cell.specs.declared.rule.Knows.{Knows}
use Rattle.channel_cell.specs.declared.rule.View.{View}
use Rattle.channel_cell.specs.declared.rule.View.TheVariants.{First, Own, Both}
use Rattle.channel_cell.specs.Tallies.{Tally, counted, tally, packed, unit, moves_in_word, most, counter_in, Counts}
use Rattle.channel_cell.specs.Lanes.{value_lane, stamp_lane, value_at, stamp_at, Says, SaysLast, Shows}
use Rattle.channel_cell.specs.Rule.{Held, Agrees, Sat, holds, nothing, knows, joins_of, last_of, value_tells, stamp_tells, offer_tells, recall_tells, value_read, stamp_read, read_value_tells, read_stamp_tells, read_both_tells, both_recall_tells, learn_tells, Adds}
use Rattle.channel_cell.proofs.EndCounterLemmas.{turned, pushed}
use Rattle.channel_cell.proofs.ControlWordLemmas.{added, taken, packed-small}
use Rattle.channel_cell.proofs.NextMoveLemmas.{small, stands_is, offer_joins, recall_joins, counter_after, replied, fits_of, fields_of, sender_next, receiver_next}
use Rattle.channel_cell.proofs.ViewListLemmas.{sender_sits, receiver_sits, both_sit, both_next}
use Rattle.channel_cell.proofs.LaneLemmas.{Alike, says_on, shows_on, shows_stored, mine_offers, theirs_offers, mine_recalls, theirs_recalls, other_word, this_word, alike_control, alike_value, alike_value_there, alike_stamp, alike_stamp_there}
use Rattle.channel_cell.proofs.StandingOffers.{own_offer, own_recall, sender_own, receiver_own}
use Rattle.channel_cell.proofs.ReplyBounds.{next_fits}

-- what the rule says to the seat of a side that knows k: what the other knows, and that it keeps the rule with other words and another knowledge that agree
pub record SenderHas (wrap : Knows → View) (id : ℕ) (k : Knows) (words : List ℕ) (views : List View) : Type 0 where
  pub theirs : Knows
  pub seven : length words ≡ 7
  pub agrees : Agrees words k theirs
  pub next : (after : List ℕ) (new : Knows) → length after ≡ 7 → Agrees after new theirs → Held after (set views id (wrap new))

pub record ReceiverHas (wrap : Knows → View) (id : ℕ) (k : Knows) (words : List ℕ) (views : List View) : Type 0 where
  pub theirs : Knows
  pub seven : length words ≡ 7
  pub agrees : Agrees words theirs k
  pub next : (after : List ℕ) (new : Knows) → length after ≡ 7 → Agrees after theirs new → Held after (set views id (wrap new))

pub sender_has : (id : ℕ) (k : Knows) (words : List ℕ) (views : List View) → Held words views → get_elem? views id ≡ some (Own Sender k) → SenderHas (Own Sender) id k words views
sender_has id k words views h at =
    let sits = sender_sits views h.sender h.receiver k id h.seated at in record {
      theirs = h.receiver;
      seven = h.seven;
      agrees = subst (λ (l : Knows). Agrees words l h.receiver) sits.0 h.agrees;
      next = λ after new seven a. record { sender = new; receiver = h.receiver; seven = seven; seated = sits.1 new; agrees = a };
    }

pub receiver_has : (id : ℕ) (k : Knows) (words : List ℕ) (views : List View) → Held words views → get_elem? views id ≡ some (Own Receiver k) → ReceiverHas (Own Receiver) id k words views
receiver_has id k words views h at =
    let sits = receiver_sits views h.sender h.receiver k id h.seated at in record {
      theirs = h.sender;
      seven = h.seven;
      agrees = subst (λ (l : Knows). Agrees words h.sender l) sits.0 h.agrees;
      next = λ after new seven a. record { sender = h.sender; receiver = new; seven = seven; seated = sits.1 new; agrees = a };
    }

-- the side stands as its own moves say
pub sender_stands : (a b : List Entry) (h : IsCellHistory a b) → stands (cell_after h.moves).sender ≡ (tally a).standing
sender_stands a b h = stands_is (cell_after h.moves).sender (cell_after h.moves).receiver (tally a) (tally b) (fits_of a b h)

pub receiver_stands : (a b : List Entry) (h : IsCellHistory a b) → stands (cell_after h.moves).receiver ≡ (tally b).standing
receiver_stands a b h = stands_is (cell_after h.moves).receiver (cell_after h.moves).sender (tally b) (tally a) (turned _ _ _ _ (fits_of a b h))

-- stores

module _ (words after : List ℕ) (a b : Knows) (v : ℤ) (s : ℕ) (h : Agrees words a b) (same : slice_index after 0 ≡ slice_index words 0) where
  sender_stored : (tally a.moves).standing ≡ false → ((m : ℕ) → Alike words after Receiver m) → ((m : ℕ) → m % 2 ≢ joins_of a % 2 → Alike words after Sender m) → Says after Sender (joins_of a) v s
      → Agrees after (knows a.kind a.moves v s) b
  sender_stored down there here said =
      let hist = h.counts.history in let c = cell_after hist.moves in record {
        counts = record { history = hist; control = same ∙ h.counts.control; few_sent = h.counts.few_sent; few_received = h.counts.few_received };
        kinds = h.kinds;
        fit = h.fit;
        sender_notes = said;
        receiver_notes = says_on words after Receiver (joins_of b) b.value b.stamp (there (joins_of b)) h.receiver_notes;
        sender_shows = shows_stored words after Sender c.sender c.receiver (tally a.moves) (tally b.moves) (fits_of a.moves b.moves hist) (sender_stands a.moves b.moves hist ∙ down) (small b.moves).answered here h.sender_shows;
        receiver_shows = shows_on words after Receiver c.receiver (joins_of b) c.sender (joins_of a) (last_of a) there h.receiver_shows;
      }

  receiver_stored : (tally b.moves).standing ≡ false → ((m : ℕ) → Alike words after Sender m) → ((m : ℕ) → m % 2 ≢ joins_of b % 2 → Alike words after Receiver m) → Says after Receiver (joins_of b) v s
      → Agrees after a (knows b.kind b.moves v s)
  receiver_stored down there here said =
      let hist = h.counts.history in let c = cell_after hist.moves in record {
        counts = record { history = hist; control = same ∙ h.counts.control; few_sent = h.counts.few_sent; few_received = h.counts.few_received };
        kinds = h.kinds;
        fit = h.fit;
        sender_notes = says_on words after Sender (joins_of a) a.value a.stamp (there (joins_of a)) h.sender_notes;
        receiver_notes = said;
        sender_shows = shows_on words after Sender c.sender (joins_of a) c.receiver (joins_of b) (last_of b) there h.sender_shows;
        receiver_shows = shows_stored words after Receiver c.receiver c.sender (tally b.moves) (tally a.moves) (turned _ _ _ _ (fits_of a.moves b.moves hist)) (receiver_stands a.moves b.moves hist ∙ down) (small a.moves).answered here h.receiver_shows;
      }

pub stores_value : (slots id i new : ℕ) (k : Knows) → (tally k.moves).standing ≡ false → i ≡ value_lane (joins_of k) → Allows holds slots id (Own Sender k, []) i (λ _. new) (λ _. value_tells (Own Sender k) new)
stores_value slots id i new k down is s h homes at small_word =
    let x = sender_has id k s.words s.views h at in
    let n = joins_of k in
    let after = set s.words (value_lane n) new in
    let said : Says after Sender n (cast_signed w64 new) k.stamp = (ap (cast_signed w64) (this_word s.words (value_lane n) new (omega (arith, x.seven))), other_word s.words (value_lane n) (stamp_lane Sender n) new (λ e. omega arith) ∙ x.agrees.sender_notes.1) in
    let a = sender_stored s.words after k x.theirs (cast_signed w64 new) k.stamp x.agrees (other_word s.words (value_lane n) 0 new (λ e. omega arith)) down (alike_value_there s.words new n) (λ m d. alike_value s.words new n m d) said in
    let new_view = Own Sender (knows k.kind k.moves (cast_signed w64 new) k.stamp) in
    (new_view, keeps, tt, subst (λ j. Held (set s.words j new) (set s.views id new_view)) (sym is) (x.next after _ (length-set s.words (value_lane n) new ∙ x.seven) a), refl)

pub stores_stamp : (side : Side) (slots id i new : ℕ) (k : Knows) → (tally k.moves).standing ≡ false → i ≡ stamp_lane side (joins_of k) → Allows holds slots id (Own side k, []) i (λ _. new) (λ _. stamp_tells (Own side k) new)
stores_stamp Sender slots id i new k down is s h homes at small_word =
    let x = sender_has id k s.words s.views h at in
    let n = joins_of k in
    let after = set s.words (stamp_lane Sender n) new in
    let said : Says after Sender n k.value new = (ap (cast_signed w64) (other_word s.words (stamp_lane Sender n) (value_lane n) new (λ e. omega arith)) ∙ x.agrees.sender_notes.0, this_word s.words (stamp_lane Sender n) new (omega (arith, x.seven))) in
    let a = sender_stored s.words after k x.theirs k.value new x.agrees (other_word s.words (stamp_lane Sender n) 0 new (λ e. omega arith)) down (alike_stamp_there Sender s.words new n) (λ m d. alike_stamp Sender s.words new n m d) said in
    let new_view = Own Sender (knows k.kind k.moves k.value new) in
    (new_view, keeps, tt, subst (λ j. Held (set s.words j new) (set s.views id new_view)) (sym is) (x.next after _ (length-set s.words (stamp_lane Sender n) new ∙ x.seven) a), refl)
stores_stamp Receiver slots id i new k down is s h homes at small_word =
    let x = receiver_has id k s.words s.views h at in
    let n = joins_of k in
    let after = set s.words (stamp_lane Receiver n) new in
    let said : Says after Receiver n k.value new = this_word s.words (stamp_lane Receiver n) new (omega (arith, x.seven)) in
    let a = receiver_stored s.words after x.theirs k k.value new x.agrees (other_word s.words (stamp_lane Receiver n) 0 new (λ e. omega arith)) down (alike_stamp_there Receiver s.words new n) (λ m d. alike_stamp Receiver s.words new n m d) said in
    let new_view = Own Receiver (knows k.kind k.moves k.value new) in
    (new_view, keeps, tt, subst (λ j. Held (set s.words j new) (set s.views id new_view)) (sym is) (x.next after _ (length-set s.words (stamp_lane Receiver n) new ∙ x.seven) a), refl)

-- loads

-- the words after a load
same_words : (words : List ℕ) (i : ℕ) → set words i (slice_index words i) ≡ words
same_words words i = set-get_or words i 0

value_of : (words : List ℕ) (r : Option Joined) (n : ℕ) → SaysLast words Sender r n → value_read r (slice_index words (value_lane n))
value_of words None n h = tt
value_of words (Some j) n h = h.0

stamp_of : (words : List ℕ) (side : Side) (r : Option Joined) (n : ℕ) → SaysLast words side r n → stamp_read r (slice_index words (stamp_lane side n))
stamp_of words side None n h = tt
stamp_of words Sender (Some j) n h = h.1
stamp_of words Receiver (Some j) n h = h

unchanged : (id i : ℕ) (v : View) (words : List ℕ) (views : List View) → Held words views → get_elem? views id ≡ some v → Held (set words i (slice_index words i)) (set views id v)
unchanged id i v words views h at = subst (λ (t : List ℕ × List View). Held t.0 t.1) (λ j. (sym (same_words words i) j, sym (set_again views id v at) j)) h

pub loads_value : (slots id i : ℕ) (k : Knows) → i ≡ value_lane (joins_of k + 1) → Allows holds slots id (Own Receiver k, []) i (λ n. n) (λ found (after : Sat). (after ≡ (Own Receiver k, [])) × read_value_tells (Own Receiver k) found)
loads_value slots id i k is s h homes at small_word =
    let x = receiver_has id k s.words s.views h at in
    (Own Receiver k, keeps, tt, unchanged id i (Own Receiver k) s.words s.views h at, (refl, subst (λ j. value_read (last_of k) (slice_index s.words j)) (sym is) (value_of s.words (last_of k) (joins_of k + 1) x.agrees.sender_shows.of_last)))

pub loads_stamp : (side : Side) (slots id i : ℕ) (k : Knows) → i ≡ stamp_lane (other side) (joins_of k + 1) → Allows holds slots id (Own side k, []) i (λ n. n) (λ found (after : Sat). (after ≡ (Own side k, [])) × read_stamp_tells (Own side k) found)
loads_stamp Sender slots id i k is s h homes at small_word =
    let x = sender_has id k s.words s.views h at in
    (Own Sender k, keeps, tt, unchanged id i (Own Sender k) s.words s.views h at, (refl, subst (λ j. stamp_read (last_of k) (slice_index s.words j)) (sym is) (stamp_of s.words Receiver (last_of k) (joins_of k + 1) x.agrees.receiver_shows.of_last)))
loads_stamp Receiver slots id i k is s h homes at small_word =
    let x = receiver_has id k s.words s.views h at in
    (Own Receiver k, keeps, tt, unchanged id i (Own Receiver k) s.words s.views h at, (refl, subst (λ j. stamp_read (last_of k) (slice_index s.words j)) (sym is) (stamp_of s.words Sender (last_of k) (joins_of k + 1) x.agrees.sender_shows.of_last)))

-- moves

-- how an offer raises its counter and a recall lowers it, by the number that is added to the word
abbrev pub Raises : Side → ℕ → Tally → Type 0
Raises side k t = (raise : ℕ) × (k ≡ raise * unit side + 1) × (t.counter + raise ≡ 2 * t.joins + 1)

abbrev pub Lowers : Side → ℕ → Tally → Type 0
Lowers side k t = (k + unit side ≡ 18446744073709551617) × (t.counter ≡ 2 * t.joins + 1)

module _ (w k : ℕ) (a b : List Entry) (c : Counts w a b) where
  sender_raised : Raises Sender k (tally a) → length a < most → (w + k) % 18446744073709551616 ≡ packed (length a + length b + 1) (2 * (tally a).joins + 1) (tally b).counter
  sender_raised r few =
      let m = packed (length a + length b + 1) (2 * (tally a).joins + 1) (tally b).counter in
      added w k m (omega (arith, c.control, r.1, r.2)) (packed-small (length a + length b + 1) (2 * (tally a).joins + 1) (tally b).counter (omega (arith, c.few_received)) (omega (arith, (small a).joins)) (omega (arith, (small b).counter, c.few_received)))

  receiver_raised : Raises Receiver k (tally b) → length b < most → (w + k) % 18446744073709551616 ≡ packed (length a + length b + 1) (tally a).counter (2 * (tally b).joins + 1)
  receiver_raised r few =
      let m = packed (length a + length b + 1) (tally a).counter (2 * (tally b).joins + 1) in
      added w k m (omega (arith, c.control, r.1, r.2)) (packed-small (length a + length b + 1) (tally a).counter (2 * (tally b).joins + 1) (omega (arith, c.few_sent)) (omega (arith, (small a).counter, c.few_sent)) (omega (arith, (small b).joins)))

  sender_lowered : Lowers Sender k (tally a) → length a < most → (w + k) % 18446744073709551616 ≡ packed (length a + length b + 1) (2 * (tally a).joins) (tally b).counter
  sender_lowered r few =
      let m = packed (length a + length b + 1) (2 * (tally a).joins) (tally b).counter in
      taken w k m (omega (arith, c.control, r.0, r.1)) (packed-small (length a + length b + 1) (2 * (tally a).joins) (tally b).counter (omega (arith, c.few_received)) (omega (arith, (small a).joins)) (omega (arith, (small b).counter, c.few_received)))

  receiver_lowered : Lowers Receiver k (tally b) → length b < most → (w + k) % 18446744073709551616 ≡ packed (length a + length b + 1) (tally a).counter (2 * (tally b).joins)
  receiver_lowered r few =
      let m = packed (length a + length b + 1) (tally a).counter (2 * (tally b).joins) in
      taken w k m (omega (arith, c.control, r.0, r.1)) (packed-small (length a + length b + 1) (tally a).counter (2 * (tally b).joins) (omega (arith, c.few_sent)) (omega (arith, (small a).counter, c.few_sent)) (omega (arith, (small b).joins)))

-- what a side knows after a move: its lanes for the next join hold what they hold
abbrev next_knows : List ℕ → Side → Kind → List Entry → Knows
next_knows words side kind es = knows kind es (value_at words (tally es).joins) (stamp_at words side (tally es).joins)

sender_says : (words : List ℕ) (es : List Entry) → Says words Sender (tally es).joins (value_at words (tally es).joins) (stamp_at words Sender (tally es).joins)
sender_says words es = (refl, refl)

-- the words agree after a move of the sender, where they do so of each part
module _ (words : List ℕ) (x : ℕ) (a b : Knows) (h : Agrees words a b) (m : CellMove) (from : side_of m ≡ Sender) (may : CanMove m (cell_after h.counts.history.moves)) (few : length a.moves < most)
    (fits : MoveFits a.kind m) (one : 1 ≤ length words) where
  sender_moved : x ≡ packed (length a.moves + length b.moves + 1) (counter_after (tally a.moves) m) (tally b.moves).counter
      → Shows (set words 0 x) Sender (cell_after (m ∷ h.counts.history.moves)).sender (counted (tally a.moves) m (replied h.counts.history m)).joins (cell_after (m ∷ h.counts.history.moves)).receiver (joins_of b) (last_of b)
      → Shows (set words 0 x) Receiver (cell_after (m ∷ h.counts.history.moves)).receiver (joins_of b) (cell_after (m ∷ h.counts.history.moves)).sender (counted (tally a.moves) m (replied h.counts.history m)).joins (counted (tally a.moves) m (replied h.counts.history m)).last
      → Agrees (set words 0 x) (next_knows (set words 0 x) Sender a.kind (a.moves ++ entry (moves_in_word (slice_index words 0)) m (replied h.counts.history m) ∷ [])) b
  sender_moved is mine theirs =
      let w = slice_index words 0 in let r = replied h.counts.history m in let es = a.moves ++ entry (moves_in_word w) m r ∷ [] in
      let after = set words 0 x in
      let c = cell_after (m ∷ h.counts.history.moves) in
      let sum : tally es ≡ counted (tally a.moves) m r = pushed a.moves (moves_in_word w) m r in
      let now : slice_index after 0 ≡ packed (length a.moves + length b.moves + 1) (counter_after (tally a.moves) m) (tally b.moves).counter = this_word words 0 x (omega (arith, one)) ∙ is in record {
        counts = sender_next w (slice_index after 0) a.moves b.moves m h.counts from may few now;
        kinds = h.kinds;
        fit = (h.fit, fits);
        sender_notes = sender_says after es;
        receiver_notes = says_on words after Receiver (joins_of b) b.value b.stamp (alike_control words x Receiver (joins_of b)) h.receiver_notes;
        sender_shows = subst (λ (t : Tally). Shows after Sender c.sender t.joins c.receiver (joins_of b) (last_of b)) (sym sum) mine;
        receiver_shows = subst (λ (t : Tally). Shows after Receiver c.receiver (joins_of b) c.sender t.joins t.last) (sym sum) theirs;
      }

module _ (words : List ℕ) (x : ℕ) (a b : Knows) (h : Agrees words a b) (m : CellMove) (from : side_of m ≡ Receiver) (may : CanMove m (cell_after h.counts.history.moves)) (few : length b.moves < most)
    (fits : MoveFits a.kind m) (one : 1 ≤ length words) where
  receiver_moved : x ≡ packed (length a.moves + length b.moves + 1) (tally a.moves).counter (counter_after (tally b.moves) m)
      → Shows (set words 0 x) Receiver (cell_after (m ∷ h.counts.history.moves)).receiver (counted (tally b.moves) m (replied h.counts.history m)).joins (cell_after (m ∷ h.counts.history.moves)).sender (joins_of a) (last_of a)
      → Shows (set words 0 x) Sender (cell_after (m ∷ h.counts.history.moves)).sender (joins_of a) (cell_after (m ∷ h.counts.history.moves)).receiver (counted (tally b.moves) m (replied h.counts.history m)).joins (counted (tally b.moves) m (replied h.counts.history m)).last
      → Agrees (set words 0 x) a (next_knows (set words 0 x) Receiver b.kind (b.moves ++ entry (moves_in_word (slice_index words 0)) m (replied h.counts.history m) ∷ []))
  receiver_moved is mine theirs =
      let w = slice_index words 0 in let r = replied h.counts.history m in let es = b.moves ++ entry (moves_in_word w) m r ∷ [] in
      let after = set words 0 x in
      let c = cell_after (m ∷ h.counts.history.moves) in
      let sum : tally es ≡ counted (tally b.moves) m r = pushed b.moves (moves_in_word w) m r in
      let now : slice_index after 0 ≡ packed (length a.moves + length b.moves + 1) (tally a.moves).counter (counter_after (tally b.moves) m) = this_word words 0 x (omega (arith, one)) ∙ is in record {
        counts = receiver_next w (slice_index after 0) a.moves b.moves m h.counts from may few now;
        kinds = h.kinds;
        fit = (h.fit, fits);
        sender_notes = says_on words after Sender (joins_of a) a.value a.stamp (alike_control words x Sender (joins_of a)) h.sender_notes;
        receiver_notes = refl;
        sender_shows = subst (λ (t : Tally). Shows after Sender c.sender (joins_of a) c.receiver t.joins t.last) (sym sum) theirs;
        receiver_shows = subst (λ (t : Tally). Shows after Receiver c.receiver t.joins c.sender (joins_of a) (last_of a)) (sym sum) mine;
      }

-- what a move leaves
abbrev Leaves : ℕ → ℕ → List ℕ → List View → (Sat → Type 0) → Type 0
Leaves id w words views then = (v : View) × Held (set words 0 w) (set views id v) × then (v, [])

sender_offers : (wrap : Knows → View) (id k : ℕ) (mine : Knows) → (tally mine.moves).standing ≡ false → length mine.moves < most → OfferFits mine.kind Sender mine.value mine.stamp → Raises Sender k (tally mine.moves)
    → (words : List ℕ) (views : List View) → SenderHas wrap id mine words views
    → Leaves id ((slice_index words 0 + k) % 18446744073709551616) words views (Adds Sender wrap mine (slice_index words 0) (Offer Sender mine.value mine.stamp) mine.value mine.stamp (counter_in Receiver (slice_index words 0) ≡ 2 * joins_of mine + 1) (counter_in Receiver (slice_index words 0) ≢ 2 * joins_of mine + 1))
sender_offers wrap id k mine down few fits raises words views h =
    let w = slice_index words 0 in let x = (w + k) % 18446744073709551616 in
    let es = mine.moves in let fs = h.theirs.moves in
    let a = h.agrees in let hist = a.counts.history in let c = cell_after hist.moves in
    let m = Offer Sender mine.value mine.stamp in
    let f = fits_of es fs hist in
    let empty : stands c.sender ≡ false = sender_stands es fs hist ∙ down in
    let told = offer_joins Sender c.sender c.receiver (tally es) (tally fs) mine.value mine.stamp f empty in
    let shown = (fields_of w es fs a.counts).receiver in
    let list = es ++ entry (moves_in_word w) m (replied hist m) ∷ [] in
    let after = set words 0 x in
    let on = alike_control words x in
    let mine_now = shows_on words after Sender c.sender (joins_of mine) c.receiver (joins_of h.theirs) (last_of h.theirs) (on Sender) a.sender_shows in
    let theirs_now = shows_on words after Receiver c.receiver (joins_of h.theirs) c.sender (joins_of mine) (last_of mine) (on Receiver) a.receiver_shows in
    let said = says_on words after Sender (joins_of mine) mine.value mine.stamp (on Sender (joins_of mine)) a.sender_notes in
    let agreed = sender_moved words x mine h.theirs a m refl empty few fits (omega (arith, h.seven)) (sender_raised w k es fs a.counts raises few)
    (mine_offers after Sender c.sender c.receiver (tally es) (tally fs) mine.value mine.stamp f empty (small fs).answered said mine_now)
    (theirs_offers after Sender c.sender c.receiver (tally es) (tally fs) mine.value mine.stamp f empty theirs_now) in (
      wrap (next_knows after Sender mine.kind list),
      h.next after _ (length-set words 0 x ∙ h.seven) agreed,
      record { reply = replied hist m; value = value_at after (tally list).joins; stamp = stamp_at after Sender (tally list).joins; added = refl; joins = λ j. told.0 (sym shown ∙ j); none = λ n. told.1 (λ e. n (shown ∙ e)); own = own_offer Sender mine.value mine.stamp c.receiver; fits = next_fits mine.kind hist.moves m a.fit fits; theirs = fs; legal = agreed.counts.history },
    )

receiver_offers : (wrap : Knows → View) (id k : ℕ) (mine : Knows) → (tally mine.moves).standing ≡ false → length mine.moves < most → OfferFits mine.kind Receiver (pos 0) mine.stamp → Raises Receiver k (tally mine.moves)
    → (words : List ℕ) (views : List View) → ReceiverHas wrap id mine words views
    → Leaves id ((slice_index words 0 + k) % 18446744073709551616) words views (Adds Receiver wrap mine (slice_index words 0) (Offer Receiver (pos 0) mine.stamp) (pos 0) mine.stamp (counter_in Sender (slice_index words 0) ≡ 2 * joins_of mine + 1) (counter_in Sender (slice_index words 0) ≢ 2 * joins_of mine + 1))
receiver_offers wrap id k mine down few fits raises words views h =
    let w = slice_index words 0 in let x = (w + k) % 18446744073709551616 in
    let es = mine.moves in let fs = h.theirs.moves in
    let a = h.agrees in let hist = a.counts.history in let c = cell_after hist.moves in
    let m = Offer Receiver (pos 0) mine.stamp in
    let f = turned c.sender c.receiver (tally fs) (tally es) (fits_of fs es hist) in
    let empty : stands c.receiver ≡ false = receiver_stands fs es hist ∙ down in
    let told = offer_joins Receiver c.receiver c.sender (tally es) (tally fs) (pos 0) mine.stamp f empty in
    let shown = (fields_of w fs es a.counts).sender in
    let list = es ++ entry (moves_in_word w) m (replied hist m) ∷ [] in
    let after = set words 0 x in
    let on = alike_control words x in
    let mine_now = shows_on words after Receiver c.receiver (joins_of mine) c.sender (joins_of h.theirs) (last_of h.theirs) (on Receiver) a.receiver_shows in
    let theirs_now = shows_on words after Sender c.sender (joins_of h.theirs) c.receiver (joins_of mine) (last_of mine) (on Sender) a.sender_shows in
    let said = says_on words after Receiver (joins_of mine) mine.value mine.stamp (on Receiver (joins_of mine)) a.receiver_notes in
    let agreed = receiver_moved words x h.theirs mine a m refl empty few (record { value = tt; stamp = fits.stamp }) (omega (arith, h.seven)) (receiver_raised w k fs es a.counts raises few)
    (mine_offers after Receiver c.receiver c.sender (tally es) (tally fs) (pos 0) mine.stamp f empty (small fs).answered said mine_now)
    (theirs_offers after Receiver c.receiver c.sender (tally es) (tally fs) (pos 0) mine.stamp f empty theirs_now) in (
      wrap (next_knows after Receiver mine.kind list),
      h.next after _ (length-set words 0 x ∙ h.seven) agreed,
      record { reply = replied hist m; value = value_at after (tally list).joins; stamp = stamp_at after Receiver (tally list).joins; added = refl; joins = λ j. told.0 (sym shown ∙ j); none = λ n. told.1 (λ e. n (shown ∙ e)); own = own_offer Receiver (pos 0) mine.stamp c.sender; fits = subst (λ k. IfSome (replied hist m) (JoinFits k)) (sym a.kinds) (next_fits h.theirs.kind hist.moves m a.fit (record { value = tt; stamp = fits.stamp })); theirs = fs; legal = agreed.counts.history },
    )

sender_recalls : (wrap : Knows → View) (id k : ℕ) (mine : Knows) → (tally mine.moves).standing ≡ true → length mine.moves < most → Lowers Sender k (tally mine.moves)
    → (words : List ℕ) (views : List View) → SenderHas wrap id mine words views
    → Leaves id ((slice_index words 0 + k) % 18446744073709551616) words views (Adds Sender wrap mine (slice_index words 0) (Recall Sender) (tally mine.moves).value (tally mine.moves).stamp (2 * joins_of mine + 1 ≤ counter_in Receiver (slice_index words 0)) (counter_in Receiver (slice_index words 0) < 2 * joins_of mine + 1))
sender_recalls wrap id k mine up few lowers words views h =
    let w = slice_index words 0 in let x = (w + k) % 18446744073709551616 in
    let es = mine.moves in let fs = h.theirs.moves in
    let a = h.agrees in let hist = a.counts.history in let c = cell_after hist.moves in
    let m = Recall Sender in
    let f = fits_of es fs hist in
    let full : stands c.sender ≡ true = sender_stands es fs hist ∙ up in
    let told = recall_joins c.sender c.receiver (tally es) (tally fs) f full in
    let shown = (fields_of w es fs a.counts).receiver in
    let list = es ++ entry (moves_in_word w) m (replied hist m) ∷ [] in
    let after = set words 0 x in
    let on = alike_control words x in
    let mine_now = shows_on words after Sender c.sender (joins_of mine) c.receiver (joins_of h.theirs) (last_of h.theirs) (on Sender) a.sender_shows in
    let theirs_now = shows_on words after Receiver c.receiver (joins_of h.theirs) c.sender (joins_of mine) (last_of mine) (on Receiver) a.receiver_shows in
    let agreed = sender_moved words x mine h.theirs a m refl full few tt (omega (arith, h.seven)) (sender_lowered w k es fs a.counts lowers few)
    (mine_recalls after Sender c.sender c.receiver (tally es) (tally fs) f full mine_now)
    (theirs_recalls after Sender c.sender c.receiver (tally es) (tally fs) f full theirs_now) in (
      wrap (next_knows after Sender mine.kind list),
      h.next after _ (length-set words 0 x ∙ h.seven) agreed,
      record { reply = replied hist m; value = value_at after (tally list).joins; stamp = stamp_at after Sender (tally list).joins; added = refl; joins = λ j. told.0 (subst (λ y. 2 * joins_of mine + 1 ≤ y) shown j); none = λ n. told.1 (subst (λ y. y < 2 * joins_of mine + 1) shown n); own = own_recall Sender c.sender (tally es).value (tally es).stamp (sender_own es fs hist); fits = next_fits mine.kind hist.moves m a.fit tt; theirs = fs; legal = agreed.counts.history },
    )

receiver_recalls : (wrap : Knows → View) (id k : ℕ) (mine : Knows) → (tally mine.moves).standing ≡ true → length mine.moves < most → Lowers Receiver k (tally mine.moves)
    → (words : List ℕ) (views : List View) → ReceiverHas wrap id mine words views
    → Leaves id ((slice_index words 0 + k) % 18446744073709551616) words views (Adds Receiver wrap mine (slice_index words 0) (Recall Receiver) (tally mine.moves).value (tally mine.moves).stamp (2 * joins_of mine + 1 ≤ counter_in Sender (slice_index words 0)) (counter_in Sender (slice_index words 0) < 2 * joins_of mine + 1))
receiver_recalls wrap id k mine up few lowers words views h =
    let w = slice_index words 0 in let x = (w + k) % 18446744073709551616 in
    let es = mine.moves in let fs = h.theirs.moves in
    let a = h.agrees in let hist = a.counts.history in let c = cell_after hist.moves in
    let m = Recall Receiver in
    let f = turned c.sender c.receiver (tally fs) (tally es) (fits_of fs es hist) in
    let full : stands c.receiver ≡ true = receiver_stands fs es hist ∙ up in
    let told = recall_joins c.receiver c.sender (tally es) (tally fs) f full in
    let shown = (fields_of w fs es a.counts).sender in
    let list = es ++ entry (moves_in_word w) m (replied hist m) ∷ [] in
    let after = set words 0 x in
    let on = alike_control words x in
    let mine_now = shows_on words after Receiver c.receiver (joins_of mine) c.sender (joins_of h.theirs) (last_of h.theirs) (on Receiver) a.receiver_shows in
    let theirs_now = shows_on words after Sender c.sender (joins_of h.theirs) c.receiver (joins_of mine) (last_of mine) (on Sender) a.sender_shows in
    let agreed = receiver_moved words x h.theirs mine a m refl full few tt (omega (arith, h.seven)) (receiver_lowered w k fs es a.counts lowers few)
    (mine_recalls after Receiver c.receiver c.sender (tally es) (tally fs) f full mine_now)
    (theirs_recalls after Receiver c.receiver c.sender (tally es) (tally fs) f full theirs_now) in (
      wrap (next_knows after Receiver mine.kind list),
      h.next after _ (length-set words 0 x ∙ h.seven) agreed,
      record { reply = replied hist m; value = value_at after (tally list).joins; stamp = stamp_at after Receiver (tally list).joins; added = refl; joins = λ j. told.0 (subst (λ y. 2 * joins_of mine + 1 ≤ y) shown j); none = λ n. told.1 (subst (λ y. y < 2 * joins_of mine + 1) shown n); own = own_recall Receiver c.receiver (tally es).value (tally es).stamp (receiver_own fs es hist); fits = subst (λ k. IfSome (replied hist m) (JoinFits k)) (sym a.kinds) (next_fits h.theirs.kind hist.moves m a.fit tt); theirs = fs; legal = agreed.counts.history },
    )

pub offers : (side : Side) (slots id k : ℕ) (mine : Knows) → (tally mine.moves).standing ≡ false → length mine.moves < most → OfferFits mine.kind side (sent_value side mine.value (pos 0)) mine.stamp → Raises side k (tally mine.moves)
    → Allows holds slots id (Own side mine, []) 0 (λ n. (n + k) % 2 ^ 64) (offer_tells (Own side mine))
offers Sender slots id k mine down few fits raises s h homes at small =
    let x = sender_offers (Own Sender) id k mine down few fits raises s.words s.views (sender_has id mine s.words s.views h at) in (x.0, keeps, tt, x.1, x.2)
offers Receiver slots id k mine down few fits raises s h homes at small =
    let x = receiver_offers (Own Receiver) id k mine down few fits raises s.words s.views (receiver_has id mine s.words s.views h at) in (x.0, keeps, tt, x.1, x.2)

pub recalls : (side : Side) (slots id k : ℕ) (mine : Knows) → (tally mine.moves).standing ≡ true → length mine.moves < most → Lowers side k (tally mine.moves)
    → Allows holds slots id (Own side mine, []) 0 (λ n. (n + k) % 2 ^ 64) (recall_tells (Own side mine))
recalls Sender slots id k mine up few lowers s h homes at small =
    let x = sender_recalls (Own Sender) id k mine up few lowers s.words s.views (sender_has id mine s.words s.views h at) in (x.0, keeps, tt, x.1, x.2)
recalls Receiver slots id k mine up few lowers s h homes at small =
    let x = receiver_recalls (Own Receiver) id k mine up few lowers s.words s.views (receiver_has id mine s.words s.views h at) in (x.0, keeps, tt, x.1, x.2)

-- the seats

-- a look at the word, with both lists in hand
pub learns : (slots id : ℕ) (a b : Knows) → Allows holds slots id (Both a b, []) 0 (λ n. n) (learn_tells (Both a b))
learns slots id a b s h homes at small =
    let same = both_sit s.views h.sender h.receiver a b id h.seated at in
    (Both a b, keeps, tt, unchanged id 0 (Both a b) s.words s.views h at, subst (λ (t : Knows × Knows). IsCellHistory t.0.moves t.1.moves) (λ i. (same.0 i, same.1 i)) h.agrees.counts.history)

-- the table at the start
pub starts : (kind : Kind) → Held (0 ∷ 0 ∷ 0 ∷ 0 ∷ 0 ∷ 0 ∷ 0 ∷ []) (First kind ∷ [])
starts kind = record {
  sender = nothing kind;
  receiver = nothing kind;
  seven = refl;
  seated = inl (refl, refl, refl);
  agrees = record {
    counts = record {
      history = record { moves = []; legal = tt; at_sender = refl; at_receiver = refl };
      control = refl;
      few_sent = omega arith;
      few_received = omega arith;
    };
    kinds = refl;
    fit = tt;
    sender_notes = (refl, refl);
    receiver_notes = refl;
    sender_shows = record { of_open = tt; of_taken = tt; of_last = tt };
    receiver_shows = record { of_open = tt; of_taken = tt; of_last = tt };
  };
}

-- the seat with both lists

abbrev both_sender : (id : ℕ) (a b : Knows) (words : List ℕ) (views : List View) → Held words views → get_elem? views id ≡ some (Both a b) → SenderHas (λ k. Both k b) id a words views
both_sender id a b words views h at =
    let same = both_sit views h.sender h.receiver a b id h.seated at in record {
      theirs = b;
      seven = h.seven;
      agrees = subst (λ (t : Knows × Knows). Agrees words t.0 t.1) (λ i. (same.0 i, same.1 i)) h.agrees;
      next = λ after new seven x. record { sender = new; receiver = b; seven = seven; seated = both_next views h.sender h.receiver a b id h.seated at new b; agrees = x };
    }

abbrev both_receiver : (id : ℕ) (a b : Knows) (words : List ℕ) (views : List View) → Held words views → get_elem? views id ≡ some (Both a b) → ReceiverHas (λ k. Both a k) id b words views
both_receiver id a b words views h at =
    let same = both_sit views h.sender h.receiver a b id h.seated at in record {
      theirs = a;
      seven = h.seven;
      agrees = subst (λ (t : Knows × Knows). Agrees words t.0 t.1) (λ i. (same.0 i, same.1 i)) h.agrees;
      next = λ after new seven x. record { sender = a; receiver = new; seven = seven; seated = both_next views h.sender h.receiver a b id h.seated at a new; agrees = x };
    }

pub both_recalls_sender : (slots id k : ℕ) (a b : Knows) → (tally a.moves).standing ≡ true → length a.moves < most → Lowers Sender k (tally a.moves)
    → Allows holds slots id (Both a b, []) 0 (λ n. (n + k) % 2 ^ 64) (both_recall_tells Sender (Both a b))
both_recalls_sender slots id k a b up few lowers s h homes at small =
    let has = both_sender id a b s.words s.views h at in
    let x = sender_recalls (λ k. Both k b) id k a up few lowers s.words s.views has in
    (x.0, keeps, tt, x.1, (x.2, (fields_of (slice_index s.words 0) a.moves b.moves has.agrees.counts).place))

pub both_recalls_receiver : (slots id k : ℕ) (a b : Knows) → (tally b.moves).standing ≡ true → length b.moves < most → Lowers Receiver k (tally b.moves)
    → Allows holds slots id (Both a b, []) 0 (λ n. (n + k) % 2 ^ 64) (both_recall_tells Receiver (Both a b))
both_recalls_receiver slots id k a b up few lowers s h homes at small =
    let has = both_receiver id a b s.words s.views h at in
    let x = receiver_recalls (λ k. Both a k) id k b up few lowers s.words s.views has in
    (x.0, keeps, tt, x.1, (x.2, (fields_of (slice_index s.words 0) a.moves b.moves has.agrees.counts).place))

pub both_loads : (slots id i : ℕ) (a b : Knows) → Allows holds slots id (Both a b, []) i (λ n. n) (λ found (after : Sat). (after ≡ (Both a b, [])) × read_both_tells i (Both a b) found)
both_loads slots id i a b s h homes at small_word =
    let g = (both_sender id a b s.words s.views h at).agrees in
    let mine = stamp_of s.words Receiver (last_of a) (joins_of a + 1) g.receiver_shows.of_last in
    let theirs = stamp_of s.words Sender (last_of b) (joins_of b + 1) g.sender_shows.of_last in
    let value = value_of s.words (last_of b) (joins_of b + 1) g.sender_shows.of_last in (
      Both a b,
      keeps,
      tt,
      unchanged id i (Both a b) s.words s.views h at,
      (
        refl,
        (
          (λ is. subst (λ j. stamp_read (last_of a) (slice_index s.words j)) (sym is) mine),
          (λ is. subst (λ j. stamp_read (last_of b) (slice_index s.words j)) (sym is) theirs),
          (λ is. subst (λ j. value_read (last_of b) (slice_index s.words j)) (sym is) value),
        ),
      ),
    )
