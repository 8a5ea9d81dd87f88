-- Every interleaving of rounds fits.
use Rattle.std.proofs.Common.{◌≡◌, ◌≢◌, ℕ, zero, suc, ◌+◌, ◌≤◌, Bool, true, false, cond, List, [], ◌∷◌, ◌++◌, Option, Some, None, length, map, refl, sym, ap, ◌∙◌, subst, arith}
use Rattle.std.specs.Prelude.{◌==◌, ◌||◌}
use Rattle.std.proofs.lemmas.Bool.{eq-eqb, eqb-true, ne_eqb}
use Rattle.cell_core.specs.declared.moves.Side.{Side}
use Rattle.cell_core.specs.declared.moves.Side.TheVariants.{Sender, Receiver}
use Rattle.cell_core.specs.declared.moves.Joined.{Joined}
use Rattle.cell_core.specs.declared.moves.Entry.{Entry}
use Rattle.cell_core.specs.definitions.Cells.{empty_cell}
use Rattle.cell_core.specs.definitions.Histories.{Runs, side_of, TakesNext, AreByPlace}
use Rattle.cell_core.proofs.HistoryLemmas.{history-by_place}
use Rattle.tick_log.specs.definitions.Runs.{RunState, log_of, tick_count}
use Rattle.domain_core.specs.definitions.runs.Systems.{Setup, sender_of, receiver_of, IsSystem}
use Rattle.domain_core.specs.definitions.rounds.Rounds.{Offer, Rounds, RecallsStanding, IsRounds, MoveMade, without_place, offer_move, recall_move, moves_from, last_recall, HasCellHistory, AreMovesOf, PlacesFrom, RoundsFit}
use Rattle.domain_core.proofs.lemmas.rounds.RoundFacts.{all_stand}
use Rattle.domain_core.specs.definitions.rounds.Interleavings.{Action, MadeTick, MadeMove, at_cell, placed, if_of, moves_of, own_actions, recall_first, offer_first, in_rounds, side_at, IsInterleaving}

-- the moves among ticks and moves
abbrev pub moves_among : List (Option MoveMade) → List MoveMade
moves_among [] = []
moves_among (None ∷ rest) = moves_among rest
moves_among (Some m ∷ rest) = m ∷ moves_among rest

-- all moves are of one side
abbrev AllOf : Side → List MoveMade → Type 0
AllOf a [] = Unit {0}
AllOf a (m ∷ ms) = (side_of m.what ≡ a) × AllOf a ms

tick_moves : (b : Bool) (xs : List (Option MoveMade)) → moves_among (cond b (None ∷ xs) xs) ≡ moves_among xs
tick_moves true xs = refl
tick_moves false xs = refl

if_same : (a b : Side) (m : MoveMade) (ms : List MoveMade) → b ≡ a → if_of a b m ms ≡ m ∷ ms
if_same Sender Sender m ms h = refl
if_same Sender Receiver m ms h = cc
if_same Receiver Sender m ms h = cc
if_same Receiver Receiver m ms h = refl

-- what one move adds to the two parts of a cell's moves
pub record Adds (cell : List MoveMade) (mine theirs : List (Option MoveMade)) : Type 0 where
  pub at_sender : moves_of Sender cell ≡ moves_among mine
  pub at_receiver : moves_of Receiver cell ≡ moves_among theirs

-- x: at this channel, y: by its sender's domain, z: by its receiver's
one_move : (x y z : Bool) (m : MoveMade) (cell : List MoveMade) (mine theirs : List (Option MoveMade)) → (y ≡ true → z ≡ false) →
    AllOf Sender (moves_among (cond y (cond x (Some m ∷ mine) mine) mine)) → AllOf Receiver (moves_among (cond z (cond x (Some m ∷ theirs) theirs) theirs)) →
    (AllOf Sender (moves_among mine) → AllOf Receiver (moves_among theirs) → Adds cell mine theirs) →
    Adds (cond x (cond (y || z) (m ∷ cell) cell) cell) (cond y (cond x (Some m ∷ mine) mine) mine) (cond z (cond x (Some m ∷ theirs) theirs) theirs)
one_move true true true m cell mine theirs apart s r more = let e = apart refl in cc
one_move true true false m cell mine theirs apart s r more =
    let rest = more s.1 r in
    record {
      at_sender = if_same Sender (side_of m.what) m (moves_of Sender cell) s.0 ∙ ap (λ l. m ∷ l) rest.at_sender;
      at_receiver = ap (λ b. if_of Receiver b m (moves_of Receiver cell)) s.0 ∙ rest.at_receiver;
    }
one_move true false true m cell mine theirs apart s r more =
    let rest = more s r.1 in
    record {
      at_sender = ap (λ b. if_of Sender b m (moves_of Sender cell)) r.0 ∙ rest.at_sender;
      at_receiver = if_same Receiver (side_of m.what) m (moves_of Receiver cell) r.0 ∙ ap (λ l. m ∷ l) rest.at_receiver;
    }
one_move true false false m cell mine theirs apart s r more = more s r
one_move false true true m cell mine theirs apart s r more = more s r
one_move false true false m cell mine theirs apart s r more = more s r
one_move false false true m cell mine theirs apart s r more = more s r
one_move false false false m cell mine theirs apart s r more = more s r

cell_parts : (p : Setup) (c : ℕ) (actions : List Action) → sender_of p c ≢ receiver_of p c →
    AllOf Sender (moves_among (own_actions (sender_of p c) c actions)) → AllOf Receiver (moves_among (own_actions (receiver_of p c) c actions)) →
    Adds (at_cell p c actions) (own_actions (sender_of p c) c actions) (own_actions (receiver_of p c) c actions)
cell_parts p c [] apart s r = record { at_sender = refl; at_receiver = refl }
cell_parts p c (MadeTick d ∷ actions) apart s r =
    let mine = tick_moves (d == sender_of p c) (own_actions (sender_of p c) c actions) in
    let theirs = tick_moves (d == receiver_of p c) (own_actions (receiver_of p c) c actions) in
    let rest = cell_parts p c actions apart (subst (AllOf Sender) mine s) (subst (AllOf Receiver) theirs r) in
    record { at_sender = rest.at_sender ∙ sym mine; at_receiver = rest.at_receiver ∙ sym theirs }
cell_parts p c (MadeMove d b m ∷ actions) apart s r =
    one_move (b == c) (d == sender_of p c) (d == receiver_of p c) m (at_cell p c actions) (own_actions (sender_of p c) c actions) (own_actions (receiver_of p c) c actions)
    (λ t. ne_eqb d (receiver_of p c) (λ q. apart (sym (eqb-true d (sender_of p c) t) ∙ q))) s r
    (λ s2 r2. cell_parts p c actions apart s2 r2)

-- the moves of rounds, with the last recall
recall_of : (a : Side) (q : Option (Option Joined)) (rest : List (Option MoveMade)) → AllOf a (moves_among rest) → AllOf a (moves_among (recall_first a q rest))
recall_of a None rest h = h
recall_of a (Some reply) rest h = (refl, h)

offer_of : (a : Side) (o : Option Offer) (rest : List (Option MoveMade)) → AllOf a (moves_among rest) → AllOf a (moves_among (offer_first a o rest))
offer_of a None rest h = h
offer_of a (Some o) rest h = (refl, h)

cut_of : (a : Side) (cut : Bool) (q : Option (Option Joined)) → AllOf a (moves_among (cond cut (recall_first a q []) []))
cut_of a true q = recall_of a q [] tt
cut_of a false q = tt

rounds_of : (a : Side) (x : Rounds) (c n left : ℕ) → AllOf a (moves_among (in_rounds a x c n left))
rounds_of a x c n zero = cut_of a x.is_cut (x.recalls n c)
rounds_of a x c n (suc left) = recall_of a (x.recalls n c) _ (offer_of a (x.offers (suc n) c) _ (rounds_of a x c (suc n) left))

at_last : (a : Side) (cut : Bool) (q : Option (Option Joined)) → moves_among (cond cut (recall_first a q []) []) ++ cond cut [] (recall_move a q []) ≡ recall_move a q []
at_last a true None = refl
at_last a true (Some reply) = refl
at_last a false q = refl

one_round : (a : Side) (q : Option (Option Joined)) (o : Option Offer) (rest : List (Option MoveMade)) (last : List MoveMade) →
    moves_among (recall_first a q (None ∷ offer_first a o rest)) ++ last ≡ recall_move a q (offer_move a o (moves_among rest ++ last))
one_round a None None rest last = refl
one_round a None (Some o) rest last = refl
one_round a (Some reply) None rest last = refl
one_round a (Some reply) (Some o) rest last = refl

pub rounds_moves : (a : Side) (x : Rounds) (c n left : ℕ) → moves_among (in_rounds a x c n left) ++ last_recall a x c (left + n) ≡ recall_move a (x.recalls n c) (moves_from a x c (suc n) left)
rounds_moves a x c n zero =
    let z : zero + n ≡ n = omega arith in
    ap (λ m. moves_among (in_rounds a x c n zero) ++ last_recall a x c m) z ∙ at_last a x.is_cut (x.recalls n c)
rounds_moves a x c n (suc left) =
    let z : suc left + n ≡ left + suc n = omega arith in
    ap (λ m. moves_among (in_rounds a x c n (suc left)) ++ last_recall a x c m) z
    ∙ one_round a (x.recalls n c) (x.offers (suc n) c) (in_rounds a x c (suc n) left) (last_recall a x c (left + suc n))
    ∙ ap (λ l. recall_move a (x.recalls n c) (offer_move a (x.offers (suc n) c) l)) (rounds_moves a x c (suc n) left)

none_at_start : (o : Option Offer) (q : Option (Option Joined)) → RecallsStanding o q → o ≡ None → q ≡ None
none_at_start None q h e = h
none_at_start (Some o) q h e = cc

all_moves : (p : Setup) (r : RunState) (d c : ℕ) (a : Side) (x : Rounds) → IsRounds p d (log_of r d).entries (log_of r d).mark x →
    moves_among (in_rounds a x c 0 (tick_count r d)) ++ last_recall a x c (tick_count r d) ≡ moves_from a x c 1 (tick_count r d)
all_moves p r d c a x h =
    let z : tick_count r d ≡ tick_count r d + 0 = omega arith in
    ap (λ m. moves_among (in_rounds a x c 0 (tick_count r d)) ++ last_recall a x c m) z
    ∙ rounds_moves a x c 0 (tick_count r d)
    ∙ ap (λ q. recall_move a q (moves_from a x c 1 (tick_count r d))) (none_at_start (x.offers 0 c) (x.recalls 0 c) (all_stand p d (log_of r d).entries (log_of r d).mark x h 0 c) (h.made.none_before c))

-- the entries of one side, with their places
entry_if : Side → Side → Entry → List Entry → List Entry
entry_if Sender Sender e es = e ∷ es
entry_if Sender Receiver e es = es
entry_if Receiver Sender e es = es
entry_if Receiver Receiver e es = e ∷ es

entries_of : Side → ℕ → List MoveMade → List Entry
entries_of a n [] = []
entries_of a n (m ∷ ms) = entry_if a (side_of m.what) (record { place = n; what = m.what; reply = m.reply }) (entries_of a (suc n) ms)

if_moves : (a b : Side) (n : ℕ) (m : MoveMade) (es : List Entry) →
    map without_place (entry_if a b (record { place = n; what = m.what; reply = m.reply }) es) ≡ if_of a b m (map without_place es)
unfolding entry_if
if_moves Sender Sender n m es = refl
if_moves Sender Receiver n m es = refl
if_moves Receiver Sender n m es = refl
if_moves Receiver Receiver n m es = refl

entries_moves : (a : Side) (n : ℕ) (ms : List MoveMade) → map without_place (entries_of a n ms) ≡ moves_of a ms
unfolding entries_of
entries_moves a n [] = refl
entries_moves a n (m ∷ ms) = if_moves a (side_of m.what) n m (entries_of a (suc n) ms) ∙ ap (if_of a (side_of m.what) m) (entries_moves a (suc n) ms)

if_moves_append : (a b : Side) (m : MoveMade) (xs ys : List MoveMade) → if_of a b m (xs ++ ys) ≡ if_of a b m xs ++ ys
if_moves_append Sender Sender m xs ys = refl
if_moves_append Sender Receiver m xs ys = refl
if_moves_append Receiver Sender m xs ys = refl
if_moves_append Receiver Receiver m xs ys = refl

moves_append : (a : Side) (xs ys : List MoveMade) → moves_of a (xs ++ ys) ≡ moves_of a xs ++ moves_of a ys
moves_append a [] ys = refl
moves_append a (m ∷ xs) ys = ap (if_of a (side_of m.what) m) (moves_append a xs ys) ∙ if_moves_append a (side_of m.what) m (moves_of a xs) (moves_of a ys)

if_append : (a b : Side) (e : Entry) (xs ys : List Entry) → entry_if a b e (xs ++ ys) ≡ entry_if a b e xs ++ ys
unfolding entry_if
if_append Sender Sender e xs ys = refl
if_append Sender Receiver e xs ys = refl
if_append Receiver Sender e xs ys = refl
if_append Receiver Receiver e xs ys = refl

entries_append : (a : Side) (n k : ℕ) (xs ys : List MoveMade) → k ≡ n + length xs → entries_of a n (xs ++ ys) ≡ entries_of a n xs ++ entries_of a k ys
unfolding entries_of
entries_append a n k [] ys h = let e : n ≡ k = omega arith in ap (λ z. entries_of a z ys) e
entries_append a n k (m ∷ xs) ys h =
    ap (entry_if a (side_of m.what) (record { place = n; what = m.what; reply = m.reply })) (entries_append a (suc n) k xs ys (omega arith))
    ∙ if_append a (side_of m.what) (record { place = n; what = m.what; reply = m.reply }) (entries_of a (suc n) xs) (entries_of a k ys)

takes_first : (b : Side) (e : Entry) (ss rs : List Entry) (Then : List Entry → List Entry → Type 0) → Then ss rs → TakesNext b e (entry_if Sender b e ss) (entry_if Receiver b e rs) Then
unfolding entry_if
takes_first Sender e ss rs Then h = (ss, refl, h)
takes_first Receiver e ss rs Then h = (rs, refl, h)

placed_by_place : (n : ℕ) (ms : List MoveMade) → AreByPlace n (placed n ms) (entries_of Sender n ms) (entries_of Receiver n ms)
unfolding entries_of
placed_by_place n [] = (refl, refl)
placed_by_place n (m ∷ ms) = (
  refl,
  takes_first (side_of m.what) (record { place = n; what = m.what; reply = m.reply }) (entries_of Sender (suc n) ms) (entries_of Receiver (suc n) ms)
      (AreByPlace (suc n) (placed (suc n) ms)) (placed_by_place (suc n) ms),
)

if_places : (a b : Side) (k : ℕ) (e : Entry) (es : List Entry) → k ≤ e.place → PlacesFrom k es → PlacesFrom k (entry_if a b e es)
unfolding entry_if
if_places Sender Sender k e es l h = (l, h)
if_places Sender Receiver k e es l h = h
if_places Receiver Sender k e es l h = h
if_places Receiver Receiver k e es l h = (l, h)

places_of : (a : Side) (k n : ℕ) (ms : List MoveMade) → k ≤ n → PlacesFrom k (entries_of a n ms)
unfolding entries_of
places_of a k n [] h = tt
places_of a k n (m ∷ ms) h = if_places a (side_of m.what) k (record { place = n; what = m.what; reply = m.reply }) (entries_of a (suc n) ms) h (places_of a k (suc n) ms (omega arith))

places_both : (k : ℕ) (xs ys : List Entry) → PlacesFrom k xs → PlacesFrom k ys → PlacesFrom k (xs ++ ys)
places_both k [] ys h l = l
places_both k (x ∷ xs) ys h l = (h.0, places_both k xs ys h.1 l)

if_length : (b : Side) (e : Entry) (ss rs : List Entry) → length (entry_if Sender b e ss) + length (entry_if Receiver b e rs) ≡ suc (length ss + length rs)
unfolding entry_if
if_length Sender e ss rs = omega arith
if_length Receiver e ss rs = omega arith

both_lengths : (n : ℕ) (ms : List MoveMade) → length (entries_of Sender n ms) + length (entries_of Receiver n ms) ≡ length ms
unfolding entries_of
both_lengths n [] = refl
both_lengths n (m ∷ ms) =
    if_length (side_of m.what) (record { place = n; what = m.what; reply = m.reply }) (entries_of Sender (suc n) ms) (entries_of Receiver (suc n) ms) ∙ ap suc (both_lengths (suc n) ms)

-- the side of a domain at its channel
pub at_own_sender : (p : Setup) (c : ℕ) → side_at p (sender_of p c) c ≡ Sender
at_own_sender p c = ap (λ b. cond b Sender Receiver) (eq-eqb (sender_of p c) (sender_of p c) refl)

pub at_own_receiver : (p : Setup) (c : ℕ) → sender_of p c ≢ receiver_of p c → side_at p (receiver_of p c) c ≡ Receiver
at_own_receiver p c h = ap (λ b. cond b Sender Receiver) (ne_eqb (sender_of p c) (receiver_of p c) h)

pub own_parts : (p : Setup) (c : ℕ) (actions : List Action) → sender_of p c ≢ receiver_of p c → (x y : Rounds) (n m : ℕ) →
    own_actions (sender_of p c) c actions ≡ in_rounds Sender x c 0 n → own_actions (receiver_of p c) c actions ≡ in_rounds Receiver y c 0 m →
    Adds (at_cell p c actions) (own_actions (sender_of p c) c actions) (own_actions (receiver_of p c) c actions)
own_parts p c actions apart x y n m own_s own_r =
    cell_parts p c actions apart (subst (λ l. AllOf Sender (moves_among l)) (sym own_s) (rounds_of Sender x c 0 n))
    (subst (λ l. AllOf Receiver (moves_among l)) (sym own_r) (rounds_of Receiver y c 0 m))

moves_are : (a : Side) (x : Rounds) (c n : ℕ) (cell last : List MoveMade) (own : List (Option MoveMade)) →
    moves_of a cell ≡ moves_among own → own ≡ in_rounds a x c 0 n → moves_of a last ≡ last_recall a x c n →
    moves_among (in_rounds a x c 0 n) ++ last_recall a x c n ≡ moves_from a x c 1 n →
    AreMovesOf a x c n (entries_of a 0 cell) (entries_of a (length cell) last)
moves_are a x c n cell last own part is last_is all = record {
  all =
      ap (map without_place) (sym (entries_append a 0 (length cell) cell last (omega arith)))
      ∙ entries_moves a 0 (cell ++ last)
      ∙ moves_append a cell last
      ∙ ap (λ l. l ++ moves_of a last) (part ∙ ap moves_among is)
      ∙ ap (λ l. moves_among (in_rounds a x c 0 n) ++ l) last_is
      ∙ all;
  last_is = entries_moves a (length cell) last ∙ last_is;
}

-- the moves at a channel, and after them the last recalls, are a history of its cell
pub cell_history : (p : Setup) (r : RunState) (rounds : ℕ → Rounds) (actions : List Action) (last : List MoveMade) (c : ℕ) → sender_of p c ≢ receiver_of p c →
    own_actions (sender_of p c) c actions ≡ in_rounds (side_at p (sender_of p c) c) (rounds (sender_of p c)) c 0 (tick_count r (sender_of p c)) →
    own_actions (receiver_of p c) c actions ≡ in_rounds (side_at p (receiver_of p c) c) (rounds (receiver_of p c)) c 0 (tick_count r (receiver_of p c)) →
    IsRounds p (sender_of p c) (log_of r (sender_of p c)).entries (log_of r (sender_of p c)).mark (rounds (sender_of p c)) →
    IsRounds p (receiver_of p c) (log_of r (receiver_of p c)).entries (log_of r (receiver_of p c)).mark (rounds (receiver_of p c)) →
    Runs empty_cell (placed 0 (at_cell p c actions ++ last)) →
    moves_of Sender last ≡ last_recall Sender (rounds (sender_of p c)) c (tick_count r (sender_of p c)) →
    moves_of Receiver last ≡ last_recall Receiver (rounds (receiver_of p c)) c (tick_count r (receiver_of p c)) →
    HasCellHistory p r rounds c
cell_history p r rounds actions last c apart ho hr is_s is_r runs sl rl =
    let sd = sender_of p c in
    let rd = receiver_of p c in
    let cell = at_cell p c actions in
    let own_s : own_actions sd c actions ≡ in_rounds Sender (rounds sd) c 0 (tick_count r sd) =
    ho ∙ ap (λ z. in_rounds z (rounds sd) c 0 (tick_count r sd)) (at_own_sender p c) in
    let own_r : own_actions rd c actions ≡ in_rounds Receiver (rounds rd) c 0 (tick_count r rd) =
    hr ∙ ap (λ z. in_rounds z (rounds rd) c 0 (tick_count r rd)) (at_own_receiver p c apart) in
    let parts = own_parts p c actions apart (rounds sd) (rounds rd) (tick_count r sd) (tick_count r rd) own_s own_r in
    let by_place = subst (λ l. AreByPlace 0 (placed 0 (cell ++ last)) l (entries_of Receiver 0 cell ++ entries_of Receiver (length cell) last))
    (entries_append Sender 0 (length cell) cell last (omega arith))
    (subst (λ l. AreByPlace 0 (placed 0 (cell ++ last)) (entries_of Sender 0 (cell ++ last)) l) (entries_append Receiver 0 (length cell) cell last (omega arith))
    (placed_by_place 0 (cell ++ last))) in
    let count = both_lengths 0 cell in
    record {
      sender = entries_of Sender 0 cell;
      receiver = entries_of Receiver 0 cell;
      last_of_sender = entries_of Sender (length cell) last;
      last_of_receiver = entries_of Receiver (length cell) last;
      history = history-by_place _ _ (record { merged = placed 0 (cell ++ last); runs = runs; by_place = by_place });
      last_places = places_both _ _ _ (places_of Sender _ (length cell) last (omega arith)) (places_of Receiver _ (length cell) last (omega arith));
      sender_moves = moves_are Sender (rounds sd) c (tick_count r sd) cell last (own_actions sd c actions) parts.at_sender own_s sl (all_moves p r sd c Sender (rounds sd) is_s);
      receiver_moves = moves_are Receiver (rounds rd) c (tick_count r rd) cell last (own_actions rd c actions) parts.at_receiver own_r rl (all_moves p r rd c Receiver (rounds rd) is_r);
    }

pub interleaving_fits : (p : Setup) (r : RunState) (rounds : ℕ → Rounds) (actions : List Action) (last_recalls : ℕ → List MoveMade) → IsSystem p →
    IsInterleaving p r rounds actions last_recalls → RoundsFit p r rounds
interleaving_fits p r rounds actions last_recalls sys a =
    record {
      domains = a.domains;
      channels = λ c w.
          let sd = sender_of p c in
          let rd = receiver_of p c in
          let ws = sys.sender c w in
          let wr = sys.receiver c w in
          record {
            moves = cell_history p r rounds actions (last_recalls c) c (sys.apart c w) (a.own sd c ws w) (a.own rd c wr w) (a.domains sd ws) (a.domains rd wr) (a.cells c w)
                (a.sender_last c w) (a.receiver_last c w);
            rows = a.rows c w;
          };
    }
