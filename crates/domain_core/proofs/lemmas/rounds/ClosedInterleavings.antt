-- Every interleaving of rounds so far can be closed: there are last recalls and histories with which the rounds fit.
use Rattle.std.proofs.Common.{◌≡◌, ℕ, zero, suc, ◌+◌, ◌<◌, ◌≤◌, Bool, true, false, cond, List, [], ◌∷◌, ◌++◌, Option, Some, None, length, map, get_or, refl, sym, ap, ◌∙◌, subst, inl, inr, arith, ◌⊎◌, append-nil}
use Rattle.std.specs.Prelude.{is_some, max}
use Rattle.std.proofs.lemmas.Bool.{cases_lt}
use Rattle.cell_core.specs.declared.moves.Side.{Side}
use Rattle.cell_core.specs.declared.moves.Side.TheVariants.{Sender, Receiver}
use Rattle.cell_core.specs.declared.moves.Joined.{Joined}
use Rattle.cell_core.specs.declared.moves.CellMove.TheVariants.{Offer as OfferMove}
use Rattle.cell_core.specs.declared.cell.Standing.TheVariants.{Empty}
use Rattle.cell_core.specs.definitions.Cells.{CellState, empty_cell, standing_at, recall_reply}
use Rattle.cell_core.specs.definitions.Histories.{Runs}
use Rattle.tick_log.specs.definitions.Runs.{Entry, RunState, log_of, tick_count}
use Rattle.kernel_terms.specs.Marks.{Mark}
use Rattle.tick_log.specs.declared.history.JoinRow.{JoinRow}
use Rattle.domain_core.specs.definitions.runs.Systems.{Setup, sender_of, receiver_of, domain_count, channel_count, IsSystem}
use Rattle.domain_core.specs.definitions.rounds.Rounds.{Offer, Rounds, RecallsStanding, IsRounds, IsOpenRounds, with_recalls, MoveMade, offer_move, recall_move, moves_from, last_recall, found_from, HasCellHistory}
use Rattle.domain_core.specs.definitions.rounds.Interleavings.{Action, at_cell, placed, moves_of, own_actions, in_rounds, recall_first, offer_first, side_at, AreRoundsSoFar, IsOpenInterleaving, closed, CanBeClosed}
use Rattle.domain_core.proofs.lemmas.runs.StatesBetweenTicks.{put_apart, put_here}
use Rattle.domain_core.proofs.lemmas.rounds.CellMoves.{fits_cell}
use Rattle.domain_core.proofs.lemmas.rounds.CellJoins.{Exchange, AtOnce, Stood, AllStamps, Meeting, Idle, at_sender, at_receiver, walk}
use Rattle.domain_core.proofs.lemmas.rounds.RoundsRun.{exchanges, exchanges-entries, exchanges-found, sent_by}
use Rattle.domain_core.proofs.lemmas.rounds.RoundFacts.{stands_in, all_stand}
use Rattle.domain_core.proofs.lemmas.rounds.RoundsGrow.{rounds_close}
use Rattle.domain_core.proofs.lemmas.rounds.MovesGrow.{moves_last}
use Rattle.domain_core.proofs.lemmas.rounds.InterleavedRounds.{moves_among, own_parts, rounds_moves, at_own_sender, at_own_receiver, cell_history}
use Rattle.domain_core.proofs.lemmas.rounds.StandingSides.{through, opens, stands_last, runs_append, CanRecall, last_run, last_of_sender, last_of_receiver}

-- the recall of an end, with this reply where it stands
abbrev recall_with : Option Offer → Option Joined → Option (Option Joined)
recall_with None reply = None
recall_with (Some o) reply = cond (is_some o.reply) None (Some reply)

recalls_right : (o : Option Offer) (reply : Option Joined) → RecallsStanding o (recall_with o reply)
recalls_right None reply = refl
recalls_right (Some o) reply = by_reply o.reply reply
  where
    by_reply : (z reply : Option Joined) → ((is_some z ≡ true) × (cond (is_some z) None (Some reply) ≡ None)) ⊎ ((z ≡ None) × ((r : Option Joined) × (cond (is_some z) None (Some reply) ≡ Some r)))
    by_reply None reply = inr (refl, (reply, refl))
    by_reply (Some j) reply = inl (refl, refl)

-- where the end is recalled, its last offer found nothing
record StandsOpen (o : Option Offer) (reply r : Option Joined) : Type 0 where
  offer : Offer
  is : o ≡ Some offer
  nothing : offer.reply ≡ None
  same : r ≡ reply

stands_open : (o : Option Offer) (reply r : Option Joined) → recall_with o reply ≡ Some r → StandsOpen o reply r
stands_open None reply r h = cc
stands_open (Some o) reply r h = let k = by_reply o.reply reply r h in record { offer = o; is = refl; nothing = k.0; same = k.1 }
  where
    by_reply : (z reply r : Option Joined) → cond (is_some z) None (Some reply) ≡ Some r → (z ≡ None) × (r ≡ reply)
    by_reply None reply r h = let e : r ≡ reply = cc in (refl, e)
    by_reply (Some j) reply r h = cc

-- the moves of open rounds
no_first_recall : (p : Setup) (d : ℕ) (entries : List Entry) (mark : Mark) (x : Rounds) (c : ℕ) → IsOpenRounds p d entries mark x → x.recalls 0 c ≡ None
no_first_recall p d entries mark x c h = elim (cases_lt 0 (length entries)) [
  | inl l ↦ none (x.offers 0 c) (x.recalls 0 c) (h.made.none_before c) (stands_in p d entries mark x h.made 0 c l)
  | inr l ↦ h.to_recall 0 c (omega arith)
]
  where
    none : (o : Option Offer) (q : Option (Option Joined)) → o ≡ None → RecallsStanding o q → q ≡ None
    none None q e h = h
    none (Some o) q e h = cc

open_moves : (p : Setup) (d : ℕ) (entries : List Entry) (mark : Mark) (x : Rounds) (a : Side) (c : ℕ) → x.is_cut ≡ false → IsOpenRounds p d entries mark x →
    moves_among (in_rounds a x c 0 (length entries)) ≡ moves_from a x c 1 (length entries)
open_moves p d entries mark x a c cut h =
    let n = length entries in
    let z : n ≡ n + 0 = omega arith in
    let none : last_recall a x c (n + 0) ≡ [] = ap (λ b. cond b [] (recall_move a (x.recalls (n + 0) c) [])) cut ∙ ap (λ q. recall_move a q []) (h.to_recall (n + 0) c (omega arith)) in
    sym (append-nil (moves_among (in_rounds a x c 0 n)))
    ∙ ap (λ l. moves_among (in_rounds a x c 0 n) ++ l) (sym none)
    ∙ rounds_moves a x c 0 n
    ∙ ap (λ q. recall_move a q (moves_from a x c 1 n)) (no_first_recall p d entries mark x c h)

-- an end that stands after all rounds so far can be recalled
can_recall : (p : Setup) (d : ℕ) (entries : List Entry) (mark : Mark) (x : Rounds) (a : Side) (c n : ℕ) (cell : List MoveMade) → x.is_cut ≡ false → IsOpenRounds p d entries mark x →
    n ≡ length entries →
    Runs empty_cell (placed 0 cell) → moves_of a cell ≡ moves_from a x c 1 n →
    CanRecall (standing_at a (through empty_cell cell)) (recall_with (x.offers n c) (recall_reply (standing_at a (through empty_cell cell))))
can_recall p d entries mark x a c zero cell cut h e runs moves =
    let none : recall_with (x.offers 0 c) (recall_reply (standing_at a (through empty_cell cell))) ≡ None = ap (λ o. recall_with o (recall_reply (standing_at a (through empty_cell cell))))
    (h.made.none_before c) in
    record { up = λ r k. cc; told = λ r k. cc }
can_recall p d entries mark x a c (suc n) cell cut h e runs moves =
    let reply = recall_reply (standing_at a (through empty_cell cell)) in
    let quiet : x.recalls (suc n) c ≡ None = h.to_recall (suc n) c (omega arith) in
    record {
      up = λ r k.
          let s = stands_open (x.offers (suc n) c) reply r k in
          stands_last a 0 cell (moves_from a x c 1 n) (record { what = OfferMove a s.offer.value s.offer.stamp; reply = s.offer.reply }) Empty Empty runs
          (moves ∙ moves_last a x c 1 n (suc n) (omega arith)
          ∙ ap (λ o. moves_from a x c 1 n ++ offer_move a o (recall_move a (x.recalls (suc n) c) [])) s.is
          ∙ ap (λ q. moves_from a x c 1 n ++ offer_move a (Some s.offer) (recall_move a q [])) quiet)
          (ap (opens (OfferMove a s.offer.value s.offer.stamp)) s.nothing);
      told = λ r k. (stands_open (x.offers (suc n) c) reply r k).same;
    }

-- last recalls are not among the rounds
same_in_rounds : (a : Side) (x : Rounds) (n c : ℕ) (recalls : ℕ → Option (Option Joined)) (m left : ℕ) → x.is_cut ≡ false → m + left ≡ n →
    in_rounds a (with_recalls x n recalls false) c m left ≡ in_rounds a x c m left
same_in_rounds a x n c recalls m zero cut h = sym (ap (λ b. cond b (recall_first a (x.recalls m c) []) []) cut)
same_in_rounds a x n c recalls m (suc left) cut h =
    ap (λ f. recall_first a (f c) (None ∷ offer_first a (x.offers (suc m) c) (in_rounds a (with_recalls x n recalls false) c (suc m) left))) (put_apart x.recalls n recalls m (λ e. omega arith))
    ∙ ap (λ l. recall_first a (x.recalls m c) (None ∷ offer_first a (x.offers (suc m) c) l)) (same_in_rounds a x n c recalls (suc m) left cut (omega arith))

closed_cut : (x : Rounds) (n : ℕ) (recalls : ℕ → Option (Option Joined)) → x.is_cut ≡ true → closed x n recalls ≡ x
closed_cut x n recalls h = ap (λ b. cond b x (with_recalls x n recalls false)) h

closed_open : (x : Rounds) (n : ℕ) (recalls : ℕ → Option (Option Joined)) → x.is_cut ≡ false → closed x n recalls ≡ with_recalls x n recalls false
closed_open x n recalls h = ap (λ b. cond b x (with_recalls x n recalls false)) h

closed_in_rounds : (a : Side) (x : Rounds) (n c : ℕ) (recalls : ℕ → Option (Option Joined)) → in_rounds a (closed x n recalls) c 0 n ≡ in_rounds a x c 0 n
closed_in_rounds a x n c recalls = by_cut x.is_cut refl
  where
    by_cut : (b : Bool) → x.is_cut ≡ b → in_rounds a (closed x n recalls) c 0 n ≡ in_rounds a x c 0 n
    by_cut true h = ap (λ y. in_rounds a y c 0 n) (closed_cut x n recalls h)
    by_cut false h = ap (λ y. in_rounds a y c 0 n) (closed_open x n recalls h) ∙ same_in_rounds a x n c recalls 0 n h (omega arith)

closed_last : (a : Side) (x : Rounds) (n c : ℕ) (recalls : ℕ → Option (Option Joined)) → cond x.is_cut [] (recall_move a (recalls c) []) ≡ last_recall a (closed x n recalls) c n
closed_last a x n c recalls = by_cut x.is_cut refl
  where
    by_cut : (b : Bool) → x.is_cut ≡ b → cond x.is_cut [] (recall_move a (recalls c) []) ≡ last_recall a (closed x n recalls) c n
    by_cut true h =
        ap (λ b. cond b [] (recall_move a (recalls c) [])) h ∙ sym (ap (λ y. last_recall a y c n) (closed_cut x n recalls h) ∙ ap (λ b. cond b [] (recall_move a (x.recalls n c) [])) h)
    by_cut false h =
        ap (λ b. cond b [] (recall_move a (recalls c) [])) h
        ∙ sym (ap (λ y. last_recall a y c n) (closed_open x n recalls h) ∙ ap (λ f. recall_move a (f c) []) (put_here x.recalls n recalls))

closed_rounds : (p : Setup) (d : ℕ) (entries : List Entry) (mark : Mark) (x : Rounds) (recalls : ℕ → Option (Option Joined)) → AreRoundsSoFar p d entries mark x →
    ((c : ℕ) → RecallsStanding (x.offers (length entries) c) (recalls c)) → IsRounds p d entries mark (closed x (length entries) recalls)
closed_rounds p d entries mark x recalls (inl h) k = subst (IsRounds p d entries mark) (sym (closed_cut x (length entries) recalls h.0)) h.1
closed_rounds p d entries mark x recalls (inr h) k = subst (IsRounds p d entries mark) (sym (closed_open x (length entries) recalls h.0)) (rounds_close p d entries mark x recalls false h.1 k)

-- the rows of a channel, from the joins that its two ends found
abbrev row_of : Meeting → JoinRow
row_of m = record { value = m.value; sender_ticks = m.sender_ticks; receiver_ticks = m.receiver_ticks; stamp = suc (max m.sender_stamp m.receiver_stamp) }

sent_rows : (ms : List Meeting) → map sent_by (map row_of ms) ≡ at_sender ms
sent_rows [] = refl
sent_rows (m ∷ ms) = ap (λ l. sent_by (row_of m) ∷ l) (sent_rows ms)

got_rows : (ms : List Meeting) → map (λ row. row.receiver_ticks) (map row_of ms) ≡ map (λ f. f.number) (at_receiver ms)
got_rows [] = refl
got_rows (m ∷ ms) = ap (λ l. m.receiver_ticks ∷ l) (got_rows ms)

any_stamps : (xs : List Exchange) → AllStamps (λ n s. Unit {0}) xs
any_stamps [] = tt
any_stamps (AtOnce n v s j ∷ xs) = (tt, any_stamps xs)
any_stamps (Stood n v s reply ∷ xs) = (tt, any_stamps xs)

record FoundRows (p : Setup) (r : RunState) (rounds : ℕ → Rounds) (c : ℕ) : Type 0 where
  rows : List JoinRow
  sent : map sent_by rows ≡ found_from (rounds (sender_of p c)) c 1 (tick_count r (sender_of p c))
  got : map (λ row. row.receiver_ticks) rows ≡ map (λ f. f.number) (found_from (rounds (receiver_of p c)) c 1 (tick_count r (receiver_of p c)))

found_rows : (p : Setup) (r : RunState) (rounds : ℕ → Rounds) (c : ℕ) → HasCellHistory p r rounds c →
    IsRounds p (sender_of p c) (log_of r (sender_of p c)).entries (log_of r (sender_of p c)).mark (rounds (sender_of p c)) →
    IsRounds p (receiver_of p c) (log_of r (receiver_of p c)).entries (log_of r (receiver_of p c)).mark (rounds (receiver_of p c)) → FoundRows p r rounds c
found_rows p r rounds c h s g =
    let x = rounds (sender_of p c) in
    let y = rounds (receiver_of p c) in
    let n = tick_count r (sender_of p c) in
    let m = tick_count r (receiver_of p c) in
    let ch = fits_cell p r rounds c h in
    let xq = all_stand p (sender_of p c) (log_of r (sender_of p c)).entries (log_of r (sender_of p c)).mark x s in
    let yq = all_stand p (receiver_of p c) (log_of r (receiver_of p c)).entries (log_of r (receiver_of p c)).mark y g in
    let xs = exchanges x c 1 n in
    let ys = exchanges y c 1 m in
    let same = walk (λ k s. Unit {0}) (λ k s. Unit {0}) (ch.in_rounds ++ ch.settling) Empty Empty (Idle xs) (Idle ys) refl refl ch.runs
    (ch.sender ∙ sym (exchanges-entries x c 1 n xq)) (ch.receiver ∙ sym (exchanges-entries y c 1 m yq)) (any_stamps xs) (any_stamps ys) in
    record {
      rows = map row_of same.joins;
      sent = sent_rows same.joins ∙ sym same.sender ∙ exchanges-found x c 1 n xq;
      got = got_rows same.joins ∙ ap (map (λ f. f.number)) (sym same.receiver ∙ exchanges-found y c 1 m yq);
    }

-- histories with these rows
histories_of : ℕ → (ℕ → List JoinRow) → List (List JoinRow)
histories_of zero f = []
histories_of (suc n) f = f 0 ∷ histories_of n (λ c. f (suc c))

histories_count : (n : ℕ) (f : ℕ → List JoinRow) → length (histories_of n f) ≡ n
unfolding histories_of
histories_count zero f = refl
histories_count (suc n) f = ap suc (histories_count n (λ c. f (suc c)))

history_at : (n : ℕ) (f : ℕ → List JoinRow) (c : ℕ) (d : List JoinRow) → c < n → get_or (histories_of n f) c d ≡ f c
unfolding histories_of
history_at zero f c d h = absurd (omega arith)
history_at (suc n) f zero d h = refl
history_at (suc n) f (suc c) d h = history_at n (λ c. f (suc c)) c d (omega arith)

-- the last recalls of each domain, and of each channel
abbrev cell_of : Setup → List Action → ℕ → CellState
cell_of p actions c = through empty_cell (at_cell p c actions)

abbrev recalls_of : Setup → RunState → (ℕ → Rounds) → List Action → ℕ → ℕ → Option (Option Joined)
recalls_of p r x actions d c = recall_with ((x d).offers (tick_count r d) c) (recall_reply (standing_at (side_at p d c) (cell_of p actions c)))

abbrev closed_all : Setup → RunState → (ℕ → Rounds) → List Action → ℕ → Rounds
closed_all p r x actions d = closed (x d) (tick_count r d) (recalls_of p r x actions d)

abbrev last_at : Setup → RunState → (ℕ → Rounds) → List Action → ℕ → List MoveMade
last_at p r x actions c =
    cond (x (sender_of p c)).is_cut [] (recall_move Sender (recalls_of p r x actions (sender_of p c) c) [])
    ++ cond (x (receiver_of p c)).is_cut [] (recall_move Receiver (recalls_of p r x actions (receiver_of p c) c) [])

open_of : (p : Setup) (d : ℕ) (entries : List Entry) (mark : Mark) (x : Rounds) → AreRoundsSoFar p d entries mark x → x.is_cut ≡ false → IsOpenRounds p d entries mark x
open_of p d entries mark x (inl h) cut = let e = h.0 in cc
open_of p d entries mark x (inr h) cut = h.1

domain_closed : (p : Setup) (r : RunState) (x : ℕ → Rounds) (actions : List Action) → IsOpenInterleaving p r x actions → (d : ℕ) → d < domain_count p →
    IsRounds p d (log_of r d).entries (log_of r d).mark (closed_all p r x actions d)
domain_closed p r x actions a d h =
    closed_rounds p d (log_of r d).entries (log_of r d).mark (x d) (recalls_of p r x actions d) (a.domains d h)
    (λ c. recalls_right ((x d).offers (tick_count r d) c) (recall_reply (standing_at (side_at p d c) (cell_of p actions c))))

last_runs : (p : Setup) (r : RunState) (x : ℕ → Rounds) (actions : List Action) → IsSystem p → IsOpenInterleaving p r x actions → (c : ℕ) → c < channel_count p →
    Runs empty_cell (placed 0 (at_cell p c actions ++ last_at p r x actions c))
last_runs p r x actions sys a c w =
    let sd = sender_of p c in
    let rd = receiver_of p c in
    let ws = sys.sender c w in
    let wr = sys.receiver c w in
    let apart = sys.apart c w in
    let n = tick_count r sd in
    let m = tick_count r rd in
    let s = cell_of p actions c in
    let own_s : own_actions sd c actions ≡ in_rounds Sender (x sd) c 0 n = a.own sd c ws w ∙ ap (λ z. in_rounds z (x sd) c 0 n) (at_own_sender p c) in
    let own_r : own_actions rd c actions ≡ in_rounds Receiver (x rd) c 0 m = a.own rd c wr w ∙ ap (λ z. in_rounds z (x rd) c 0 m) (at_own_receiver p c apart) in
    let parts = own_parts p c actions apart (x sd) (x rd) n m own_s own_r in
    let sender : (x sd).is_cut ≡ false → CanRecall s.sender (recalls_of p r x actions sd c) = λ cut.
    let h = open_of p sd (log_of r sd).entries (log_of r sd).mark (x sd) (a.domains sd ws) cut in
    subst (λ z. CanRecall s.sender (recall_with ((x sd).offers n c) (recall_reply (standing_at z s)))) (sym (at_own_sender p c))
    (can_recall p sd (log_of r sd).entries (log_of r sd).mark (x sd) Sender c n (at_cell p c actions) cut h refl (a.cells c w)
    (parts.at_sender ∙ ap moves_among own_s ∙ open_moves p sd (log_of r sd).entries (log_of r sd).mark (x sd) Sender c cut h)) in
    let receiver : (x rd).is_cut ≡ false → CanRecall s.receiver (recalls_of p r x actions rd c) = λ cut.
    let h = open_of p rd (log_of r rd).entries (log_of r rd).mark (x rd) (a.domains rd wr) cut in
    subst (λ z. CanRecall s.receiver (recall_with ((x rd).offers m c) (recall_reply (standing_at z s)))) (sym (at_own_receiver p c apart))
    (can_recall p rd (log_of r rd).entries (log_of r rd).mark (x rd) Receiver c m (at_cell p c actions) cut h refl (a.cells c w)
    (parts.at_receiver ∙ ap moves_among own_r ∙ open_moves p rd (log_of r rd).entries (log_of r rd).mark (x rd) Receiver c cut h)) in
    runs_append empty_cell 0 0 (at_cell p c actions) (last_at p r x actions c) (a.cells c w)
    (last_run s.sender s.receiver 0 (x sd).is_cut (x rd).is_cut (recalls_of p r x actions sd c) (recalls_of p r x actions rd c) sender receiver)

history_closed : (p : Setup) (r : RunState) (x : ℕ → Rounds) (actions : List Action) → IsSystem p → IsOpenInterleaving p r x actions → (c : ℕ) → c < channel_count p →
    (histories : List (List JoinRow)) →
    HasCellHistory p (record r { histories = histories }) (closed_all p r x actions) c
history_closed p r x actions sys a c w histories =
    let sd = sender_of p c in
    let rd = receiver_of p c in
    let ws = sys.sender c w in
    let wr = sys.receiver c w in
    cell_history p (record r { histories = histories }) (closed_all p r x actions) actions (last_at p r x actions c) c (sys.apart c w)
    (a.own sd c ws w ∙ sym (closed_in_rounds (side_at p sd c) (x sd) (tick_count r sd) c (recalls_of p r x actions sd)))
    (a.own rd c wr w ∙ sym (closed_in_rounds (side_at p rd c) (x rd) (tick_count r rd) c (recalls_of p r x actions rd)))
    (domain_closed p r x actions a sd ws) (domain_closed p r x actions a rd wr)
    (last_runs p r x actions sys a c w)
    (last_of_sender (x sd).is_cut (x rd).is_cut (recalls_of p r x actions sd c) (recalls_of p r x actions rd c) ∙ closed_last Sender (x sd) (tick_count r sd) c (recalls_of p r x actions sd))
    (last_of_receiver (x sd).is_cut (x rd).is_cut (recalls_of p r x actions sd c) (recalls_of p r x actions rd c) ∙ closed_last Receiver (x rd) (tick_count r rd) c (recalls_of p r x actions rd))

channel_rows : (p : Setup) (r : RunState) (x : ℕ → Rounds) (actions : List Action) → IsSystem p → IsOpenInterleaving p r x actions → (c : ℕ) → c < channel_count p →
    FoundRows p (record r { histories = [] }) (closed_all p r x actions) c
channel_rows p r x actions sys a c w =
    found_rows p (record r { histories = [] }) (closed_all p r x actions) c (history_closed p r x actions sys a c w [])
    (domain_closed p r x actions a (sender_of p c) (sys.sender c w)) (domain_closed p r x actions a (receiver_of p c) (sys.receiver c w))

rows_if : (p : Setup) (r : RunState) (x : ℕ → Rounds) (c : ℕ) → (c < channel_count p → FoundRows p r x c) → (c < channel_count p) ⊎ (channel_count p ≤ c) → List JoinRow
rows_if p r x c f (inl w) = (f w).rows
rows_if p r x c f (inr g) = []

rows_found : (p : Setup) (r : RunState) (x : ℕ → Rounds) (c : ℕ) (f : c < channel_count p → FoundRows p r x c) (k : (c < channel_count p) ⊎ (channel_count p ≤ c)) → c < channel_count p →
    (map sent_by (rows_if p r x c f k) ≡ found_from (x (sender_of p c)) c 1 (tick_count r (sender_of p c))) ×
    (map (λ row. row.receiver_ticks) (rows_if p r x c f k) ≡ map (λ f. f.number) (found_from (x (receiver_of p c)) c 1 (tick_count r (receiver_of p c))))
unfolding rows_if
rows_found p r x c f (inl w) h = ((f w).sent, (f w).got)
rows_found p r x c f (inr g) h = absurd (omega arith)

pub interleavings_close : (p : Setup) (r : RunState) (x : ℕ → Rounds) (actions : List Action) → IsSystem p → IsOpenInterleaving p r x actions → CanBeClosed p r x
interleavings_close p r x actions sys a =
    let y = closed_all p r x actions in
    let f : (c : ℕ) → c < channel_count p → FoundRows p (record r { histories = [] }) y c = λ c w. channel_rows p r x actions sys a c w in
    let rows : ℕ → List JoinRow = λ c. rows_if p (record r { histories = [] }) y c (f c) (cases_lt c (channel_count p)) in
    record {
      recalls = recalls_of p r x actions;
      histories = histories_of (channel_count p) rows;
      count = histories_count (channel_count p) rows;
      fit = record {
        domains = λ d h. domain_closed p r x actions a d h;
        channels = λ c w.
            let is = history_at (channel_count p) rows c [] w in
            let found = rows_found p (record r { histories = [] }) y c (f c) (cases_lt c (channel_count p)) w in
            record {
              moves = history_closed p r x actions sys a c w (histories_of (channel_count p) rows);
              rows = record {
                sender_rows = ap (map sent_by) is ∙ found.0;
                receiver_rows = ap (map (λ row. row.receiver_ticks)) is ∙ found.1;
              };
            };
      };
    }
