-- A history with one move more.
use Rattle.std.proofs.Common.{◌≡◌, ◌≢◌, ℕ, ◌+◌, ◌*◌, ◌<◌, ◌≤◌, true, false, true≢false, List, [], ◌∷◌, ◌++◌, length, Some, None, refl, sym, ap, ◌∙◌, subst, arith, length-append, zero-add}
use Rattle.std.specs.Prelude.{Option}
use Rattle.std.specs.Option.{is_some}
use Rattle.cell_core.specs.declared.moves.Side.{Side}
use Rattle.cell_core.specs.declared.moves.Side.TheVariants.{Sender, Receiver}
use Rattle.cell_core.specs.declared.cell.Standing.{Standing}
use Rattle.cell_core.specs.declared.cell.Standing.TheVariants.{Empty, Open, Taken}
use Rattle.cell_core.specs.declared.moves.Entry.{Entry}
use Rattle.cell_core.specs.declared.moves.Joined.{Joined}
use Rattle.cell_core.specs.declared.moves.CellMove.{CellMove}
use Rattle.cell_core.specs.declared.moves.CellMove.TheVariants.{Offer, Recall}
use Rattle.cell_core.specs.definitions.Cells.{stands, cell_reply, offer_reply, recall_reply, CanMove}
use Rattle.cell_core.specs.definitions.Histories.{entry, cell_after, entries, side_of, if_side, IsCellHistory}
use Rattle.channel_cell.specs.Tallies.{Tally, none_yet, counted, tally_from, tally, packed, moves_in_word, counter_in, most, Counts}
use Rattle.channel_cell.proofs.EndCounterLemmas.{Fits, FitsCell, fits, pushed}
use Rattle.channel_cell.proofs.ControlWordLemmas.{packed-place, packed-receiver, packed-sender}

-- how long lists and counters are

pub length-push : (es : List Entry) (e : Entry) → length (es ++ e ∷ []) ≡ length es + 1
length-push es e = length-append es (e ∷ [])

pub all_moves : (ms : List CellMove) → length ms ≡ length (entries Sender ms) + length (entries Receiver ms)
all_moves [] = refl
all_moves (Offer Sender v s ∷ ms) = omega (arith, all_moves ms, length-push (entries Sender ms) (entry (length ms) (Offer Sender v s) (cell_reply (Offer Sender v s) (cell_after ms))))
all_moves (Offer Receiver v s ∷ ms) = omega (arith, all_moves ms, length-push (entries Receiver ms) (entry (length ms) (Offer Receiver v s) (cell_reply (Offer Receiver v s) (cell_after ms))))
all_moves (Recall Sender ∷ ms) = omega (arith, all_moves ms, length-push (entries Sender ms) (entry (length ms) (Recall Sender) (cell_reply (Recall Sender) (cell_after ms))))
all_moves (Recall Receiver ∷ ms) = omega (arith, all_moves ms, length-push (entries Receiver ms) (entry (length ms) (Recall Receiver) (cell_reply (Recall Receiver) (cell_after ms))))

pub record Small (t : Tally) (n : ℕ) : Type 0 where
  pub joins : t.joins ≤ n
  pub counter : t.counter ≤ 2 * n + 1
  pub under : t.counter ≤ 2 * t.joins + 1
  pub high : t.standing ≡ true → t.counter ≡ 2 * t.joins + 1
  pub answered : is_some t.last ≡ true → t.standing ≡ false

one_more : (t : Tally) (m : CellMove) (r : Option Joined) (n : ℕ) → Small t n → Small (counted t m r) (n + 1)
one_more t (Offer a v s) None n h = record { joins = omega (arith, h.joins); counter = omega (arith, h.joins); under = omega arith; high = λ _. refl; answered = λ e. absurd (true≢false (sym e)) }
one_more t (Offer a v s) (Some j) n h = record { joins = omega (arith, h.joins); counter = omega (arith, h.joins); under = omega arith; high = λ e. absurd (true≢false (sym e)); answered = λ _. refl }
one_more t (Recall a) None n h = record { joins = omega (arith, h.joins); counter = omega (arith, h.joins); under = omega arith; high = λ e. absurd (true≢false (sym e)); answered = λ _. refl }
one_more t (Recall a) (Some j) n h = record { joins = omega (arith, h.joins); counter = omega (arith, h.joins); under = omega arith; high = λ e. absurd (true≢false (sym e)); answered = λ _. refl }

small_from : (t : Tally) (es : List Entry) (n : ℕ) → Small t n → Small (tally_from t es) (n + length es)
small_from t [] n h = subst (Small t) (omega arith) h
small_from t (e ∷ es) n h = subst (Small (tally_from (counted t e.what e.reply) es)) (omega arith) (small_from (counted t e.what e.reply) es (n + 1) (one_more t e.what e.reply n h))

pub small : (es : List Entry) → Small (tally es) (length es)
small es = subst (Small (tally es)) (zero-add (length es)) (small_from none_yet es 0 record { joins = omega arith; counter = omega arith; under = omega arith; high = λ e. absurd (true≢false (sym e)); answered = λ _. refl })

-- what the other's counter shows

pub stands_is : (x y : Standing) (t u : Tally) → Fits x y t u → stands x ≡ t.standing
stands_is Empty Empty t u h = sym h.1.down
stands_is (Open v s) Empty t u h = sym h.1.up
stands_is Empty (Open v s) t u h = sym h.1.down
stands_is (Taken j) Empty t u h = sym h.1.up
stands_is Empty (Taken j) t u h = sym h.1.down
stands_is (Taken j) (Open v s) t u h = sym h.1.up
stands_is (Open v s) (Taken j) t u h = sym h.1.up
stands_is (Open v s) (Open w r) t u h = absurd h
stands_is (Taken j) (Taken k) t u h = absurd h

pub offer_joins : (a : Side) (x y : Standing) (t u : Tally) (v : _) (s : ℕ) → Fits x y t u → stands x ≡ false
    → (u.counter ≡ 2 * t.joins + 1 → is_some (offer_reply a v s y) ≡ true) × (u.counter ≢ 2 * t.joins + 1 → is_some (offer_reply a v s y) ≡ false)
offer_joins a Empty Empty t u v s h e = ((λ k. absurd (omega (arith, k, h.0, h.2.low))), (λ k. refl))
offer_joins a Empty (Open w r) t u v s h e = ((λ k. refl), (λ k. absurd (k (omega (arith, h.0, h.2.high)))))
offer_joins a Empty (Taken j) t u v s h e = ((λ k. absurd (omega (arith, k, h.0, h.2.high))), (λ k. refl))
offer_joins a (Open w r) y t u v s h e = absurd (true≢false e)
offer_joins a (Taken j) y t u v s h e = absurd (true≢false e)

pub recall_joins : (x y : Standing) (t u : Tally) → Fits x y t u → stands x ≡ true
    → (2 * t.joins + 1 ≤ u.counter → is_some (recall_reply x) ≡ true) × (u.counter < 2 * t.joins + 1 → is_some (recall_reply x) ≡ false)
recall_joins Empty y t u h e = absurd (true≢false (sym e))
recall_joins (Open v s) Empty t u h e = ((λ k. absurd (omega (arith, k, h.0, h.2.low))), (λ k. refl))
recall_joins (Open v s) (Taken j) t u h e = ((λ k. absurd (omega (arith, k, h.0, h.2.high))), (λ k. refl))
recall_joins (Open v s) (Open w r) t u h e = absurd h
recall_joins (Taken j) Empty t u h e = ((λ k. refl), (λ k. absurd (omega (arith, k, h.3, h.1.high))))
recall_joins (Taken j) (Open v s) t u h e = ((λ k. refl), (λ k. absurd (omega (arith, k, h.0, h.2.high))))
recall_joins (Taken j) (Taken k) t u h e = absurd h

-- one move more

abbrev pub counter_after : Tally → CellMove → ℕ
counter_after t (Offer a v s) = 2 * t.joins + 1
counter_after t (Recall a) = 2 * t.joins

pub counter_is : (t : Tally) (m : CellMove) (r : Option Joined) → (counted t m r).counter ≡ counter_after t m
counter_is t (Offer a v s) None = refl
counter_is t (Offer a v s) (Some j) = refl
counter_is t (Recall a) None = refl
counter_is t (Recall a) (Some j) = refl

pub last_is : (t : Tally) (m : CellMove) (r : Option Joined) → (counted t m r).last ≡ r
last_is t (Offer a v s) None = refl
last_is t (Offer a v s) (Some j) = refl
last_is t (Recall a) None = refl
last_is t (Recall a) (Some j) = refl

abbrev pub replied : {a b : List Entry} → IsCellHistory a b → CellMove → Option Joined
replied h m = cell_reply m (cell_after h.moves)

abbrev pub sender_more : (a b : List Entry) (h : IsCellHistory a b) (m : CellMove) (n : ℕ) → n ≡ length h.moves → side_of m ≡ Sender → CanMove m (cell_after h.moves) → IsCellHistory (a ++ entry n m (replied h m) ∷ []) b
sender_more a b h m n is from may =
    let e = entry (length h.moves) m (replied h m) in record {
      moves = m ∷ h.moves;
      legal = (h.legal, may);
      at_sender = ap (λ x. if_side Sender x (entries Sender h.moves) e) from ∙ ap (λ l. l ++ e ∷ []) h.at_sender ∙ ap (λ k. a ++ entry k m (replied h m) ∷ []) (sym is);
      at_receiver = ap (λ x. if_side Receiver x (entries Receiver h.moves) e) from ∙ h.at_receiver;
    }

abbrev pub receiver_more : (a b : List Entry) (h : IsCellHistory a b) (m : CellMove) (n : ℕ) → n ≡ length h.moves → side_of m ≡ Receiver → CanMove m (cell_after h.moves) → IsCellHistory a (b ++ entry n m (replied h m) ∷ [])
receiver_more a b h m n is from may =
    let e = entry (length h.moves) m (replied h m) in record {
      moves = m ∷ h.moves;
      legal = (h.legal, may);
      at_sender = ap (λ x. if_side Sender x (entries Sender h.moves) e) from ∙ h.at_sender;
      at_receiver = ap (λ x. if_side Receiver x (entries Receiver h.moves) e) from ∙ ap (λ l. l ++ e ∷ []) h.at_receiver ∙ ap (λ k. b ++ entry k m (replied h m) ∷ []) (sym is);
    }

pub fits_of : (a b : List Entry) (h : IsCellHistory a b) → FitsCell (cell_after h.moves) (tally a) (tally b)
fits_of a b h = subst (λ (l : List Entry). FitsCell (cell_after h.moves) (tally a) (tally l)) h.at_receiver (subst (λ (l : List Entry). FitsCell (cell_after h.moves) (tally l) (tally (entries Receiver h.moves))) h.at_sender (fits h.moves h.legal))

pub moves_of : (a b : List Entry) (h : IsCellHistory a b) → length h.moves ≡ length a + length b
moves_of a b h = all_moves h.moves ∙ ap (λ l. length l + length (entries Receiver h.moves)) h.at_sender ∙ ap (λ l. length a + length l) h.at_receiver

pub record Fields (w : ℕ) (a b : List Entry) : Type 0 where
  pub place : moves_in_word w ≡ length a + length b
  pub sender : counter_in Sender w ≡ (tally a).counter
  pub receiver : counter_in Receiver w ≡ (tally b).counter

pub fields_of : (w : ℕ) (a b : List Entry) → Counts w a b → Fields w a b
fields_of w a b k =
    let n = length a + length b in let i = (tally a).counter in let j = (tally b).counter in
    let few : n < 1048576 = omega (arith, k.few_sent, k.few_received) in
    let low : i < 4194304 = omega (arith, (small a).counter, k.few_sent) in record {
      place = ap moves_in_word k.control ∙ packed-place n i j few;
      sender = ap (counter_in Sender) k.control ∙ packed-sender n i j few low;
      receiver = ap (counter_in Receiver) k.control ∙ packed-receiver n i j few low;
    }

abbrev pub sender_next : (w w' : ℕ) (a b : List Entry) (m : CellMove) (k : Counts w a b) → side_of m ≡ Sender → CanMove m (cell_after k.history.moves) → length a < most
    → w' ≡ packed (length a + length b + 1) (counter_after (tally a) m) (tally b).counter
    → Counts w' (a ++ entry (moves_in_word w) m (replied k.history m) ∷ []) b
sender_next w w' a b m k from may few is =
    let r = replied k.history m in
    let p : moves_in_word w ≡ length k.history.moves = (fields_of w a b k).place ∙ sym (moves_of a b k.history) in
    let longer = length-push a (entry (moves_in_word w) m r) in
    let c : (tally (a ++ entry (moves_in_word w) m r ∷ [])).counter ≡ counter_after (tally a) m = ap (λ (t : Tally). t.counter) (pushed a (moves_in_word w) m r) ∙ counter_is (tally a) m r in record {
      history = sender_more a b k.history m (moves_in_word w) p from may;
      control = is ∙ ap (λ x. packed (length a + length b + 1) x (tally b).counter) (sym c) ∙ ap (λ x. packed x (tally (a ++ entry (moves_in_word w) m r ∷ [])).counter (tally b).counter) (omega (arith, longer));
      few_sent = omega (arith, longer, few);
      few_received = k.few_received;
    }

abbrev pub receiver_next : (w w' : ℕ) (a b : List Entry) (m : CellMove) (k : Counts w a b) → side_of m ≡ Receiver → CanMove m (cell_after k.history.moves) → length b < most
    → w' ≡ packed (length a + length b + 1) (tally a).counter (counter_after (tally b) m)
    → Counts w' a (b ++ entry (moves_in_word w) m (replied k.history m) ∷ [])
receiver_next w w' a b m k from may few is =
    let r = replied k.history m in
    let p : moves_in_word w ≡ length k.history.moves = (fields_of w a b k).place ∙ sym (moves_of a b k.history) in
    let longer = length-push b (entry (moves_in_word w) m r) in
    let c : (tally (b ++ entry (moves_in_word w) m r ∷ [])).counter ≡ counter_after (tally b) m = ap (λ (t : Tally). t.counter) (pushed b (moves_in_word w) m r) ∙ counter_is (tally b) m r in record {
      history = receiver_more a b k.history m (moves_in_word w) p from may;
      control = is ∙ ap (λ x. packed (length a + length b + 1) (tally a).counter x) (sym c) ∙ ap (λ x. packed x (tally a).counter (tally (b ++ entry (moves_in_word w) m r ∷ [])).counter) (omega (arith, longer));
      few_sent = k.few_sent;
      few_received = omega (arith, longer, few);
    }
