-- The moves of a cell as entries of its sender and its receiver.
use Rattle.std.proofs.Common.{cond, ◌≡◌, ℕ, ℤ, zero, suc, ◌+◌, ◌<◌, false, List, [], ◌∷◌, ◌++◌, Option, Some, None, length, map, refl, sym, ap, ◌∙◌, subst, arith}
use Rattle.cell_core.specs.declared.moves.Side.{Side}
use Rattle.cell_core.specs.declared.moves.Side.TheVariants.{Sender, Receiver}
use Rattle.cell_core.specs.declared.moves.Joined.{Joined}
use Rattle.cell_core.specs.declared.moves.CellMove.{CellMove}
use Rattle.cell_core.specs.declared.moves.CellMove.TheVariants.{Offer as OfferMove, Recall as RecallMove}
use Rattle.cell_core.specs.declared.moves.Entry.{Entry}
use Rattle.cell_core.specs.declared.cell.Standing.{Standing}
use Rattle.cell_core.specs.declared.cell.Standing.TheVariants.{Empty, Open, Taken}
use Rattle.cell_core.specs.definitions.Cells.{cell_step, cell_reply, CanMove, stands}
use Rattle.cell_core.specs.definitions.Histories.{Runs, TakesNext, AreByPlace, side_of}
use Rattle.cell_core.proofs.HistoryLemmas.{by_place-history}
use Rattle.tick_log.specs.definitions.Runs.{RunState, tick_count}
use Rattle.domain_core.specs.definitions.runs.Systems.{Setup, sender_of, receiver_of}
use Rattle.domain_core.specs.definitions.rounds.Rounds.{Offer, Rounds, MoveMade, without_place, offer_move, recall_move, moves_from, last_recall, PlacesFrom, HasCellHistory}

pub data EndEntry : Type 0 where
  Offered : (value : ℤ) (stamp : ℕ) (reply : Option Joined) → EndEntry
  Recalled : (reply : Option Joined) → EndEntry

pub data SideEntry : Type 0 where
  BySender : EndEntry → SideEntry
  ByReceiver : EndEntry → SideEntry

-- an offer of an empty side, and what comes after it for the two sides
abbrev pub Offers : Side → ℤ → ℕ → Option Joined → Standing → (Standing → Standing → Type 0) → Type 0
Offers Sender v s reply (Open w u) next = (reply ≡ Some (record { value = v; mine = s; theirs = u })) × next Empty (Taken (record { value = v; mine = u; theirs = s }))
Offers Receiver v s reply (Open w u) next = (reply ≡ Some (record { value = w; mine = s; theirs = u })) × next Empty (Taken (record { value = w; mine = u; theirs = s }))
Offers a v s reply Empty next = (reply ≡ None) × next (Open v s) Empty
Offers a v s reply (Taken j) next = (reply ≡ None) × next (Open v s) (Taken j)

abbrev pub Recalls : Option Joined → Standing → (Standing → Type 0) → Type 0
Recalls reply Empty next = ⊥
Recalls reply (Open v s) next = (reply ≡ None) × next Empty
Recalls reply (Taken j) next = (reply ≡ Some j) × next Empty

-- the entries are moves of a sender's and a receiver's side, with the cell's replies
abbrev pub CellRuns : Standing → Standing → List SideEntry → Type 0
CellRuns a b [] = Unit {0}
CellRuns a b (BySender (Offered v s reply) ∷ rest) = (a ≡ Empty) × Offers Sender v s reply b (λ x y. CellRuns x y rest)
CellRuns a b (BySender (Recalled reply) ∷ rest) = Recalls reply a (λ x. CellRuns x b rest)
CellRuns a b (ByReceiver (Offered v s reply) ∷ rest) = (b ≡ Empty) × Offers Receiver v s reply a (λ y x. CellRuns x y rest)
CellRuns a b (ByReceiver (Recalled reply) ∷ rest) = Recalls reply b (λ y. CellRuns a y rest)

abbrev pub of_sender : List SideEntry → List EndEntry
of_sender [] = []
of_sender (BySender e ∷ rest) = e ∷ of_sender rest
of_sender (ByReceiver e ∷ rest) = of_sender rest

abbrev pub of_receiver : List SideEntry → List EndEntry
of_receiver [] = []
of_receiver (BySender e ∷ rest) = of_receiver rest
of_receiver (ByReceiver e ∷ rest) = e ∷ of_receiver rest

-- the moves of an end on channel c, from those after n ticks on
abbrev pub offer_entry : Option Offer → List EndEntry → List EndEntry
offer_entry None rest = rest
offer_entry (Some o) rest = Offered o.value o.stamp o.reply ∷ rest

abbrev pub recall_entry : Option (Option Joined) → List EndEntry → List EndEntry
recall_entry None rest = rest
recall_entry (Some reply) rest = Recalled reply ∷ rest

abbrev pub end_entries : Rounds → ℕ → ℕ → ℕ → List EndEntry
end_entries x c n zero = []
end_entries x c n (suc left) = offer_entry (x.offers n c) (recall_entry (x.recalls n c) (end_entries x c (suc n) left))

-- the entries of moves
abbrev end_of : CellMove → Option Joined → EndEntry
end_of (OfferMove a v s) reply = Offered v s reply
end_of (RecallMove a) reply = Recalled reply

abbrev by_side : Side → EndEntry → SideEntry
by_side Sender e = BySender e
by_side Receiver e = ByReceiver e

abbrev pub cells : List Entry → List SideEntry
cells [] = []
cells (e ∷ es) = by_side (side_of e.what) (end_of e.what e.reply) ∷ cells es

abbrev ends_of : List MoveMade → List EndEntry
ends_of [] = []
ends_of (m ∷ ms) = end_of m.what m.reply ∷ ends_of ms

is_empty : (a : Standing) → stands a ≡ false → a ≡ Empty
is_empty Empty h = refl
is_empty (Open v s) h = cc
is_empty (Taken j) h = cc

first_runs : (m : CellMove) (reply : Option Joined) (es : List Entry) (a b : Standing) → CanMove m (record { sender = a; receiver = b }) →
    reply ≡ cell_reply m (record { sender = a; receiver = b }) →
    Runs (cell_step m (record { sender = a; receiver = b })) es → ((x y : Standing) → Runs (record { sender = x; receiver = y }) es → CellRuns x y (cells es)) →
    CellRuns a b (by_side (side_of m) (end_of m reply) ∷ cells es)
first_runs (OfferMove Sender v s) reply es a Empty can told runs more = (is_empty a can, (told, more _ _ runs))
first_runs (OfferMove Sender v s) reply es a (Open w u) can told runs more = (is_empty a can, (told, more _ _ runs))
first_runs (OfferMove Sender v s) reply es a (Taken j) can told runs more = (is_empty a can, (told, more _ _ runs))
first_runs (OfferMove Receiver v s) reply es Empty b can told runs more = (is_empty b can, (told, more _ _ runs))
first_runs (OfferMove Receiver v s) reply es (Open w u) b can told runs more = (is_empty b can, (told, more _ _ runs))
first_runs (OfferMove Receiver v s) reply es (Taken j) b can told runs more = (is_empty b can, (told, more _ _ runs))
first_runs (RecallMove Sender) reply es Empty b can told runs more = cc
first_runs (RecallMove Sender) reply es (Open v s) b can told runs more = (told, more _ _ runs)
first_runs (RecallMove Sender) reply es (Taken j) b can told runs more = (told, more _ _ runs)
first_runs (RecallMove Receiver) reply es a Empty can told runs more = cc
first_runs (RecallMove Receiver) reply es a (Open v s) can told runs more = (told, more _ _ runs)
first_runs (RecallMove Receiver) reply es a (Taken j) can told runs more = (told, more _ _ runs)

cells_run : (es : List Entry) (a b : Standing) → Runs (record { sender = a; receiver = b }) es → CellRuns a b (cells es)
cells_run [] a b h = tt
cells_run (e ∷ es) a b h = first_runs e.what e.reply es a b h.0 h.1 h.2 (λ x y. cells_run es x y)

cells-append : (xs ys : List Entry) → cells (xs ++ ys) ≡ cells xs ++ cells ys
cells-append [] ys = refl
cells-append (e ∷ xs) ys = ap (λ l. by_side (side_of e.what) (end_of e.what e.reply) ∷ l) (cells-append xs ys)

cells_split : (es first last : List Entry) → es ≡ first ++ last → cells es ≡ cells first ++ cells last
cells_split es first last h = ap cells h ∙ cells-append first last

-- the two parts of entries that are merged by place
record MergedEntries (es ss rs : List Entry) : Type 0 where
  at_sender : of_sender (cells es) ≡ ends_of (map without_place ss)
  at_receiver : of_receiver (cells es) ≡ ends_of (map without_place rs)

first_merged : (a : Side) (e : Entry) (es ss rs : List Entry) (Then : List Entry → List Entry → Type 0) → ((xs ys : List Entry) → Then xs ys → MergedEntries es xs ys) → a ≡ side_of e.what →
    TakesNext a e ss rs Then → MergedEntries (e ∷ es) ss rs
first_merged Sender e es ss rs Then more same h =
    let rest = more h.0 rs h.2 in
    record {
      at_sender = ap (λ b. of_sender (by_side b (end_of e.what e.reply) ∷ cells es)) (sym same) ∙ ap (λ l. end_of e.what e.reply ∷ l) rest.at_sender
          ∙ ap (λ l. ends_of (map without_place l)) (sym h.1);
      at_receiver = ap (λ b. of_receiver (by_side b (end_of e.what e.reply) ∷ cells es)) (sym same) ∙ rest.at_receiver;
    }
first_merged Receiver e es ss rs Then more same h =
    let rest = more ss h.0 h.2 in
    record {
      at_sender = ap (λ b. of_sender (by_side b (end_of e.what e.reply) ∷ cells es)) (sym same) ∙ rest.at_sender;
      at_receiver = ap (λ b. of_receiver (by_side b (end_of e.what e.reply) ∷ cells es)) (sym same) ∙ ap (λ l. end_of e.what e.reply ∷ l) rest.at_receiver
          ∙ ap (λ l. ends_of (map without_place l)) (sym h.1);
    }

parts : (n : ℕ) (es ss rs : List Entry) → AreByPlace n es ss rs → MergedEntries es ss rs
parts n [] ss rs h = record { at_sender = ap (λ l. ends_of (map without_place l)) (sym h.0); at_receiver = ap (λ l. ends_of (map without_place l)) (sym h.1) }
parts n (e ∷ es) ss rs h = first_merged (side_of e.what) e es ss rs (AreByPlace (suc n) es) (λ xs ys. parts (suc n) es xs ys) refl h.1

-- merged entries, of which the last ones have the last places
record Split (n : ℕ) (es ls lr : List Entry) : Type 0 where
  first : List Entry
  last : List Entry
  all : es ≡ first ++ last
  rest : AreByPlace n last ls lr

by_then : {n : ℕ} {es ls lr : List Entry} (e : Entry) → Split n es ls lr → Split n (e ∷ es) ls lr
by_then e s = record { first = e ∷ s.first; last = s.last; all = ap (λ l. e ∷ l) s.all; rest = s.rest }

next_split : (a : Side) (e : Entry) (n total : ℕ) (es ss rs ls lr : List Entry) → e.place ≡ n → n + (length ss + length rs) ≡ total → n < total → PlacesFrom total ls → PlacesFrom total lr →
    ((xs ys : List Entry) → suc n + (length xs + length ys) ≡ total → AreByPlace (suc n) es (xs ++ ls) (ys ++ lr) → Split total es ls lr) →
    TakesNext a e (ss ++ ls) (rs ++ lr) (AreByPlace (suc n) es) → Split total (e ∷ es) ls lr
next_split Sender e n total es [] rs [] lr place sum less far far2 more h = let q = h.1 in cc
next_split Sender e n total es [] rs (l ∷ ls) lr place sum less far far2 more h =
    let q = h.1 in
    let same : l ≡ e = cc in
    let k : l.place ≡ e.place = ap (λ z. z.place) same in
    let f = far.0 in
    absurd (omega arith)
next_split Sender e n total es (s ∷ ss) rs ls lr place sum less far far2 more h =
    let q = h.1 in
    let rest : h.0 ≡ ss ++ ls = cc in
    by_then e (more ss rs (omega arith) (subst (λ l. AreByPlace (suc n) es l (rs ++ lr)) rest h.2))
next_split Receiver e n total es ss [] ls [] place sum less far far2 more h = let q = h.1 in cc
next_split Receiver e n total es ss [] ls (l ∷ lr) place sum less far far2 more h =
    let q = h.1 in
    let same : l ≡ e = cc in
    let k : l.place ≡ e.place = ap (λ z. z.place) same in
    let f = far2.0 in
    absurd (omega arith)
next_split Receiver e n total es ss (s ∷ rs) ls lr place sum less far far2 more h =
    let q = h.1 in
    let rest : h.0 ≡ rs ++ lr = cc in
    by_then e (more ss rs (omega arith) (subst (λ l. AreByPlace (suc n) es (ss ++ ls) l) rest h.2))

split : (n total : ℕ) (es ss rs ls lr : List Entry) → n + (length ss + length rs) ≡ total → PlacesFrom total ls → PlacesFrom total lr → AreByPlace n es (ss ++ ls) (rs ++ lr) → Split total es ls lr
split n total es [] [] ls lr sum far far2 h =
    let same : n ≡ total = omega arith in
    subst (λ z. Split z es ls lr) same (record { first = []; last = es; all = refl; rest = h })
split n total [] (s ∷ ss) rs ls lr sum far far2 h = let q = h.0 in cc
split n total [] [] (s ∷ rs) ls lr sum far far2 h = let q = h.1 in cc
split n total (e ∷ es) (s ∷ ss) rs ls lr sum far far2 h =
    next_split (side_of e.what) e n total es (s ∷ ss) rs ls lr h.0 sum (omega arith) far far2 (λ xs ys k. split (suc n) total es xs ys ls lr k far far2) h.1
split n total (e ∷ es) [] (s ∷ rs) ls lr sum far far2 h =
    next_split (side_of e.what) e n total es [] (s ∷ rs) ls lr h.0 sum (omega arith) far far2 (λ xs ys k. split (suc n) total es xs ys ls lr k far far2) h.1

places_left : (n : ℕ) (xs ys : List Entry) → PlacesFrom n (xs ++ ys) → PlacesFrom n xs
places_left n [] ys h = tt
places_left n (x ∷ xs) ys h = (h.0, places_left n xs ys h.1)

places_right : (n : ℕ) (xs ys : List Entry) → PlacesFrom n (xs ++ ys) → PlacesFrom n ys
places_right n [] ys h = h
places_right n (x ∷ xs) ys h = places_right n xs ys h.1

-- the moves of rounds
offer_ends : (a : Side) (o : Option Offer) (rest : List MoveMade) → ends_of (offer_move a o rest) ≡ offer_entry o (ends_of rest)
offer_ends a None rest = refl
offer_ends a (Some o) rest = refl

recall_ends : (a : Side) (q : Option (Option Joined)) (rest : List MoveMade) → ends_of (recall_move a q rest) ≡ recall_entry q (ends_of rest)
recall_ends a None rest = refl
recall_ends a (Some reply) rest = refl

rounds_ends : (a : Side) (x : Rounds) (c n left : ℕ) → ends_of (moves_from a x c n left) ≡ end_entries x c n left
rounds_ends a x c n zero = refl
rounds_ends a x c n (suc left) =
    offer_ends a (x.offers n c) (recall_move a (x.recalls n c) (moves_from a x c (suc n) left))
    ∙ ap (offer_entry (x.offers n c)) (recall_ends a (x.recalls n c) (moves_from a x c (suc n) left) ∙ ap (recall_entry (x.recalls n c)) (rounds_ends a x c (suc n) left))

all_ends : (a : Side) (x : Rounds) (c n : ℕ) (es : List EndEntry) (ms : List Entry) → es ≡ ends_of (map without_place ms) → map without_place ms ≡ moves_from a x c 1 n → es ≡ end_entries x c 1 n
all_ends a x c n es ms h k = h ∙ ap ends_of k ∙ rounds_ends a x c 1 n

last_ends : (a : Side) (x : Rounds) (c n : ℕ) (es : List EndEntry) (ms : List Entry) → es ≡ ends_of (map without_place ms) → map without_place ms ≡ last_recall a x c n → x.is_cut ≡ false →
    es ≡ recall_entry (x.recalls n c) []
last_ends a x c n es ms h k cut = h ∙ ap ends_of (k ∙ ap (λ b. cond b [] (recall_move a (x.recalls n c) [])) cut) ∙ recall_ends a (x.recalls n c) []

-- a channel that fits, by the entries of its cell
pub record FitsCell (p : Setup) (r : RunState) (rounds : ℕ → Rounds) (c : ℕ) : Type 0 where
  pub in_rounds : List SideEntry
  pub settling : List SideEntry
  pub runs : CellRuns Empty Empty (in_rounds ++ settling)
  pub sender : of_sender (in_rounds ++ settling) ≡ end_entries (rounds (sender_of p c)) c 1 (tick_count r (sender_of p c))
  pub receiver : of_receiver (in_rounds ++ settling) ≡ end_entries (rounds (receiver_of p c)) c 1 (tick_count r (receiver_of p c))
  pub sender_settles : (rounds (sender_of p c)).is_cut ≡ false → of_sender settling ≡ recall_entry ((rounds (sender_of p c)).recalls (tick_count r (sender_of p c)) c) []
  pub receiver_settles : (rounds (receiver_of p c)).is_cut ≡ false → of_receiver settling ≡ recall_entry ((rounds (receiver_of p c)).recalls (tick_count r (receiver_of p c)) c) []

pub fits_cell : (p : Setup) (r : RunState) (rounds : ℕ → Rounds) (c : ℕ) → HasCellHistory p r rounds c → FitsCell p r rounds c
fits_cell p r rounds c f =
    let x = rounds (sender_of p c) in
    let y = rounds (receiver_of p c) in
    let n = tick_count r (sender_of p c) in
    let m = tick_count r (receiver_of p c) in
    let h = by_place-history (f.sender ++ f.last_of_sender) (f.receiver ++ f.last_of_receiver) f.history in
    let total = length f.sender + length f.receiver in
    let s = split 0 total h.merged f.sender f.receiver f.last_of_sender f.last_of_receiver (omega arith)
    (places_left total f.last_of_sender f.last_of_receiver f.last_places) (places_right total f.last_of_sender f.last_of_receiver f.last_places) h.by_place in
    let whole : cells h.merged ≡ cells s.first ++ cells s.last = cells_split h.merged s.first s.last s.all in
    let all = parts 0 h.merged (f.sender ++ f.last_of_sender) (f.receiver ++ f.last_of_receiver) h.by_place in
    let end = parts total s.last f.last_of_sender f.last_of_receiver s.rest in
    record {
      in_rounds = cells s.first;
      settling = cells s.last;
      runs = subst (CellRuns Empty Empty) whole (cells_run h.merged Empty Empty h.runs);
      sender = all_ends Sender x c n (of_sender (cells s.first ++ cells s.last)) (f.sender ++ f.last_of_sender) (ap of_sender (sym whole) ∙ all.at_sender) f.sender_moves.all;
      receiver = all_ends Receiver y c m (of_receiver (cells s.first ++ cells s.last)) (f.receiver ++ f.last_of_receiver) (ap of_receiver (sym whole) ∙ all.at_receiver) f.receiver_moves.all;
      sender_settles = last_ends Sender x c n (of_sender (cells s.last)) f.last_of_sender end.at_sender f.sender_moves.last_is;
      receiver_settles = last_ends Receiver y c m (of_receiver (cells s.last)) f.last_of_receiver end.at_receiver f.receiver_moves.last_is;
    }
