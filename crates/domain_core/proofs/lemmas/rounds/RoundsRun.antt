-- Rounds that fit the cell histories give each domain its own run.
use Rattle.std.proofs.Common.{◌≡◌, ℕ, ℤ, pos, zero, suc, ◌+◌, ◌<◌, ◌≤◌, Bool, true, false, cond, List, [], ◌∷◌, ◌++◌, Option, Some, None, length, map, refl, sym, ap, ◌∙◌, subst, inl, inr, arith, ◌⊎◌}
use Rattle.std.specs.Prelude.{◌==◌, ◌&&◌, is_some, max, slice_index_or}
use Rattle.std.proofs.lemmas.Bool.{cases_lt, cases_eq, eq-eqb, ne_eqb, false≢true}
use Rattle.cell_core.specs.declared.moves.Joined.{Joined}
use Rattle.cell_core.specs.declared.cell.Standing.TheVariants.{Empty}
use Rattle.kernel_rules.specs.definitions.LegalTick.{DomainState, IsLegalTick}
use Rattle.tick_log.specs.definitions.Runs.{RunState, log_of, history_of, join_of, tick_of, tick_count, join_count}
use Rattle.tick_log.specs.declared.history.JoinRow.{JoinRow}
use Rattle.domain_core.specs.definitions.runs.Systems.{WaitsToSend, WaitsToReceive, with_found, Setup, sender_of, receiver_of, domain_count, channel_count, IsSystem}
use Rattle.domain_core.specs.definitions.runs.LegalRuns.{Fits}
use Rattle.domain_core.specs.definitions.runs.OwnRuns.{value_beside, value_at, own_ticks_at, found_after, with_joins, HasOwnRuns, own_end}
use Rattle.domain_core.specs.definitions.runs.Stamps.{stamp_of_join}
use Rattle.domain_core.specs.definitions.rounds.Rounds.{Offer, Rounds, found_at_offer, found_at_recall, or_else, join_found, value_found, recalled, RecallsStanding, OffersWaiting, Found, found_entry, found_from, RoundsFit}
use Rattle.domain_core.proofs.lemmas.runs.FoundJoins.{IsOwn, or_found, found_same, found_both}
use Rattle.domain_core.proofs.lemmas.runs.StampRuleLemmas.{channel_of}
use Rattle.domain_core.proofs.lemmas.runs.StatesBetweenTicks.{own_sender, own_receiver}
use Rattle.domain_core.proofs.lemmas.rounds.RoundFacts.{out_none, all_stand, offers_at}
use Rattle.domain_core.proofs.lemmas.rounds.CellMoves.{Offered, Recalled, offer_entry, recall_entry, end_entries, fits_cell}
use Rattle.domain_core.proofs.lemmas.rounds.CellJoins.{Exchange, AtOnce, Stood, entries_of, found_of, KeepsValue, KeepValues, AllStamps, AllMeet, Meeting, Idle, seen_by_sender, seen_by_receiver, at_sender, at_receiver, walk}

-- an end's exchanges
abbrev pub block_of : ℕ → ℤ → ℕ → Option Joined → Option (Option Joined) → List Exchange → List Exchange
block_of n v s (Some j) q rest = AtOnce n v s j ∷ rest
block_of n v s None q rest = Stood n v s (found_at_recall q) ∷ rest

abbrev pub block : ℕ → Option Offer → Option (Option Joined) → List Exchange → List Exchange
block n None q rest = rest
block n (Some o) q rest = block_of n o.value o.stamp o.reply q rest

abbrev pub exchanges : Rounds → ℕ → ℕ → ℕ → List Exchange
exchanges x c n zero = []
exchanges x c n (suc left) = block n (x.offers n c) (x.recalls n c) (exchanges x c (suc n) left)

block_of-entries : (n : ℕ) (v : ℤ) (s : ℕ) (reply : Option Joined) (q : Option (Option Joined)) (rest : List Exchange) →
    ((is_some reply ≡ true × (q ≡ None)) ⊎ ((reply ≡ None) × ((z : Option Joined) × (q ≡ Some z)))) →
    entries_of (block_of n v s reply q rest) ≡ Offered v s reply ∷ recall_entry q (entries_of rest)
block_of-entries n v s (Some j) q rest (inl h) = ap (λ z. Offered v s (Some j) ∷ recall_entry z (entries_of rest)) (sym h.1)
block_of-entries n v s (Some j) q rest (inr h) = let e = h.0 in cc
block_of-entries n v s None q rest (inl h) = absurd (false≢true h.0)
block_of-entries n v s None q rest (inr h) =
    let e = h.1.1 in
    ap (λ z. Offered v s None ∷ Recalled (found_at_recall z) ∷ entries_of rest) e ∙ ap (λ z. Offered v s None ∷ recall_entry z (entries_of rest)) (sym e)

block-entries : (n : ℕ) (o : Option Offer) (q : Option (Option Joined)) (rest : List Exchange) → RecallsStanding o q →
    entries_of (block n o q rest) ≡ offer_entry o (recall_entry q (entries_of rest))
block-entries n None q rest h = ap (λ z. recall_entry z (entries_of rest)) (sym h)
block-entries n (Some o) q rest h = block_of-entries n o.value o.stamp o.reply q rest h

block_of-found : (n : ℕ) (v : ℤ) (s : ℕ) (reply : Option Joined) (q : Option (Option Joined)) (rest : List Exchange) →
    ((is_some reply ≡ true × (q ≡ None)) ⊎ ((reply ≡ None) × ((z : Option Joined) × (q ≡ Some z)))) →
    found_of (block_of n v s reply q rest) ≡ found_entry n reply (found_entry n (found_at_recall q) (found_of rest))
block_of-found n v s (Some j) q rest (inl h) = ap (λ z. record { number = n; value = j.value; stamp = stamp_of_join j } ∷ found_entry n (found_at_recall z) (found_of rest)) (sym h.1)
block_of-found n v s (Some j) q rest (inr h) = let e = h.0 in cc
block_of-found n v s None q rest h = stood n v s (found_at_recall q) rest
  where
    stood : (n : ℕ) (v : ℤ) (s : ℕ) (z : Option Joined) (rest : List Exchange) → found_of (Stood n v s z ∷ rest) ≡ found_entry n z (found_of rest)
    stood n v s None rest = refl
    stood n v s (Some j) rest = refl

block-found : (n : ℕ) (o : Option Offer) (q : Option (Option Joined)) (rest : List Exchange) → RecallsStanding o q →
    found_of (block n o q rest) ≡ found_entry n (found_at_offer o) (found_entry n (found_at_recall q) (found_of rest))
block-found n None q rest h = ap (λ z. found_entry n (found_at_recall z) (found_of rest)) (sym h)
block-found n (Some o) q rest h = block_of-found n o.value o.stamp o.reply q rest h

pub exchanges-entries : (x : Rounds) (c n left : ℕ) → ((n c : ℕ) → RecallsStanding (x.offers n c) (x.recalls n c)) → entries_of (exchanges x c n left) ≡ end_entries x c n left
exchanges-entries x c n zero h = refl
exchanges-entries x c n (suc left) h =
    block-entries n (x.offers n c) (x.recalls n c) (exchanges x c (suc n) left) (h n c)
    ∙ ap (λ z. offer_entry (x.offers n c) (recall_entry (x.recalls n c) z)) (exchanges-entries x c (suc n) left h)

pub exchanges-found : (x : Rounds) (c n left : ℕ) → ((n c : ℕ) → RecallsStanding (x.offers n c) (x.recalls n c)) → found_of (exchanges x c n left) ≡ found_from x c n left
exchanges-found x c n zero h = refl
exchanges-found x c n (suc left) h =
    block-found n (x.offers n c) (x.recalls n c) (exchanges x c (suc n) left) (h n c)
    ∙ ap (λ z. found_entry n (found_at_offer (x.offers n c)) (found_entry n (found_at_recall (x.recalls n c)) z)) (exchanges-found x c (suc n) left h)

-- the value beside the last m in a list of found joins
abbrev found_in : ℕ → List Found → Option ℤ
found_in m [] = None
found_in m (f ∷ fs) = or_found (found_in m fs) (cond (f.number == m) (Some f.value) None)

-- numbers that rise, from n on
abbrev pub Rise : ℕ → List Found → Type 0
Rise n [] = Unit {0}
Rise n (f ∷ fs) = (n ≤ f.number) × Rise (suc f.number) fs

or_none : (x : Option ℤ) → or_found x None ≡ x
or_none None = refl
or_none (Some v) = refl

entry_in : (m n : ℕ) (o : Option Joined) (rest : List Found) → found_in m (found_entry n o rest) ≡ or_found (found_in m rest) (cond (n == m) (value_found o) None)
entry_in m n None rest = sym (ap (or_found (found_in m rest)) (both (n == m) None) ∙ or_none (found_in m rest))
  where
    both : (b : Bool) (x : Option ℤ) → cond b x x ≡ x
    both true x = refl
    both false x = refl
entry_in m n (Some j) rest = refl

two_in : (b : Bool) (o q : Option Joined) (rest : Option ℤ) → b ≡ true → rest ≡ None →
    or_found (or_found rest (cond b (value_found q) None)) (cond b (value_found o) None) ≡ value_found (or_else q o)
two_in false o q rest h k = cc
two_in true o None rest h k = ap (λ z. or_found (or_found z None) (value_found o)) k
two_in true o (Some j) rest h k = ap (λ z. or_found (or_found z (Some j.value)) (value_found o)) k

two_off : (b : Bool) (x y : Option ℤ) (rest : Option ℤ) → b ≡ false → or_found (or_found rest (cond b x None)) (cond b y None) ≡ rest
two_off true x y rest h = cc
two_off false x y rest h = or_none (or_found rest None) ∙ or_none rest

in_block : (x : Rounds) (c m n left : ℕ) → found_in m (found_from x c n (suc left)) ≡
    or_found (or_found (found_in m (found_from x c (suc n) left)) (cond (n == m) (value_found (found_at_recall (x.recalls n c))) None)) (cond (n == m) (value_found (found_at_offer (x.offers n c))) None)
in_block x c m n left =
    entry_in m n (found_at_offer (x.offers n c)) (found_entry n (found_at_recall (x.recalls n c)) (found_from x c (suc n) left))
    ∙ ap (λ z. or_found z (cond (n == m) (value_found (found_at_offer (x.offers n c))) None)) (entry_in m n (found_at_recall (x.recalls n c)) (found_from x c (suc n) left))

in_none : (x : Rounds) (c m n left : ℕ) → m < n → found_in m (found_from x c n left) ≡ None
in_none x c m n zero h = refl
in_none x c m n (suc left) h =
    in_block x c m n left
    ∙ two_off (n == m) (value_found (found_at_recall (x.recalls n c))) (value_found (found_at_offer (x.offers n c))) _ (ne_eqb n m (λ e. omega arith))
    ∙ in_none x c m (suc n) left (omega arith)

in_out : (x : Rounds) (c m n left : ℕ) → n ≤ m → m < n + left → found_in m (found_from x c n left) ≡ value_found (join_found (x.offers m) (x.recalls m) c)
in_out x c m n zero h k = absurd (omega arith)
in_out x c m n (suc left) h k = elim (cases_eq n m) [
  | inl e ↦
      in_block x c m n left
      ∙ two_in (n == m) (found_at_offer (x.offers n c)) (found_at_recall (x.recalls n c)) _ (eq-eqb n m e) (in_none x c m (suc n) left (omega arith))
      ∙ ap (λ z. value_found (join_found (x.offers z) (x.recalls z) c)) e
  | inr e ↦
      in_block x c m n left
      ∙ two_off (n == m) (value_found (found_at_recall (x.recalls n c))) (value_found (found_at_offer (x.offers n c))) _ (ne_eqb n m e)
      ∙ in_out x c m (suc n) left (omega arith) (omega arith)
]

-- numbers rise, since an end that found a join at its offer isn't recalled
rise_lower : (n : ℕ) (fs : List Found) → Rise (suc n) fs → Rise n fs
rise_lower n [] h = tt
rise_lower n (f ∷ fs) h = let k = h.0 in (omega arith, h.1)

rise_entries : (n : ℕ) (o q : Option Joined) (rest : List Found) → (is_some o && is_some q) ≡ false → Rise (suc n) rest → Rise n (found_entry n o (found_entry n q rest))
rise_entries n None None rest h k = rise_lower n rest k
rise_entries n (Some i) None rest h k = (omega arith, k)
rise_entries n None (Some j) rest h k = (omega arith, k)
rise_entries n (Some i) (Some j) rest h k = cc

and_none : (b : Bool) → (b && false) ≡ false
and_none true = refl
and_none false = refl

pub not_both : (o : Option Offer) (q : Option (Option Joined)) → RecallsStanding o q → (is_some (found_at_offer o) && is_some (found_at_recall q)) ≡ false
not_both None q h = refl
not_both (Some o) q (inl h) = ap (λ z. is_some o.reply && is_some (found_at_recall z)) h.1 ∙ and_none (is_some o.reply)
not_both (Some o) q (inr h) = ap (λ z. is_some z && is_some (found_at_recall q)) h.0

found_rise : (x : Rounds) (c n left : ℕ) → ((n c : ℕ) → RecallsStanding (x.offers n c) (x.recalls n c)) → Rise n (found_from x c n left)
found_rise x c n zero h = tt
found_rise x c n (suc left) h = rise_entries n (found_at_offer (x.offers n c)) (found_at_recall (x.recalls n c)) (found_from x c (suc n) left) (not_both (x.offers n c) (x.recalls n c) (h n c))
    (found_rise x c (suc n) left h)

-- a fact on each found join
abbrev AllFound : (ℕ → ℤ → Type 0) → List Found → Type 0
AllFound Q [] = Unit {0}
AllFound Q (f ∷ fs) = Q f.number f.value × AllFound Q fs

stood_all : (Q : ℕ → ℤ → Type 0) (n : ℕ) (v : ℤ) (s : ℕ) (z : Option Joined) (rest : List Exchange) → Q n v → KeepsValue v z → AllFound Q (found_of rest) →
    AllFound Q (found_of (Stood n v s z ∷ rest))
stood_all Q n v s None rest h k a = a
stood_all Q n v s (Some j) rest h k a = (subst (Q n) (sym k) h, a)

block_of_all : (Q : ℕ → ℤ → Type 0) (n : ℕ) (v : ℤ) (s : ℕ) (reply : Option Joined) (q : Option (Option Joined)) (rest : List Exchange) → Q n v → KeepValues (block_of n v s reply q rest) →
    (KeepValues rest → AllFound Q (found_of rest)) → AllFound Q (found_of (block_of n v s reply q rest))
block_of_all Q n v s (Some j) q rest h k a = (subst (Q n) (sym k.0) h, a k.1)
block_of_all Q n v s None q rest h k a = stood_all Q n v s (found_at_recall q) rest h k.0 (a k.1)

block_all : (Q : ℕ → ℤ → Type 0) (n : ℕ) (o : Option Offer) (q : Option (Option Joined)) (rest : List Exchange) → ((z : Offer) → o ≡ Some z → Q n z.value) → KeepValues (block n o q rest) →
    (KeepValues rest → AllFound Q (found_of rest)) → AllFound Q (found_of (block n o q rest))
block_all Q n None q rest h k a = a k
block_all Q n (Some z) q rest h k a = block_of_all Q n z.value z.stamp z.reply q rest (h z refl) k a

exchanges_all : (Q : ℕ → ℤ → Type 0) (x : Rounds) (c n left : ℕ) → ((m : ℕ) (z : Offer) → n ≤ m → m < n + left → x.offers m c ≡ Some z → Q m z.value) → KeepValues (exchanges x c n left) →
    AllFound Q (found_of (exchanges x c n left))
exchanges_all Q x c n zero h k = tt
exchanges_all Q x c n (suc left) h k =
    block_all Q n (x.offers n c) (x.recalls n c) (exchanges x c (suc n) left) (λ z e. h n z (omega arith) (omega arith) e) k
    (λ k2. exchanges_all Q x c (suc n) left (λ m z a b e. h m z (omega arith) (omega arith) e) k2)

entry_all : (Q : ℕ → ℤ → Type 0) (n : ℕ) (o : Option Joined) (rest : List Found) → ((v : ℤ) → Q n v) → AllFound Q rest → AllFound Q (found_entry n o rest)
entry_all Q n None rest h a = a
entry_all Q n (Some j) rest h a = (h j.value, a)

entries_all : (Q : ℕ → ℤ → Type 0) (n : ℕ) (o : Option Offer) (q : Option (Option Joined)) (rest : List Found) → RecallsStanding o q → ((z : Offer) → o ≡ Some z → (v : ℤ) → Q n v) →
    AllFound Q rest →
    AllFound Q (found_entry n (found_at_offer o) (found_entry n (found_at_recall q) rest))
entries_all Q n None q rest s h a = subst (λ z. AllFound Q (found_entry n (found_at_recall z) rest)) (sym s) a
entries_all Q n (Some z) q rest s h a = entry_all Q n z.reply (found_entry n (found_at_recall q) rest) (h z refl) (entry_all Q n (found_at_recall q) rest (h z refl) a)

found_all : (Q : ℕ → ℤ → Type 0) (x : Rounds) (c n left : ℕ) → ((n c : ℕ) → RecallsStanding (x.offers n c) (x.recalls n c)) → ((m : ℕ) (z : Offer) → n ≤ m → m < n + left → x.offers m c ≡ Some z →
    (v : ℤ) → Q m v) → AllFound Q (found_from x c n left)
found_all Q x c n zero s h = tt
found_all Q x c n (suc left) s h =
    entries_all Q n (x.offers n c) (x.recalls n c) (found_from x c (suc n) left) (s n c) (λ z e. h n z (omega arith) (omega arith) e)
    (found_all Q x c (suc n) left s (λ m z a b e. h m z (omega arith) (omega arith) e))

-- from lists to places
or_front : (b : Bool) (v : ℤ) (x y : Option ℤ) → cond b (Some v) (or_found x y) ≡ or_found (cond b (Some v) x) y
or_front true v x y = refl
or_front false v x y = refl

beside_front : (f : ℕ → ℕ) (v : ℕ → ℤ) (m k : ℕ) → value_beside f v m (suc k) ≡ or_found (value_beside (λ i. f (suc i)) (λ i. v (suc i)) m k) (cond (f 0 == m) (Some (v 0)) None)
beside_front f v m zero = refl
beside_front f v m (suc k) =
    ap (λ z. cond (f (suc k) == m) (Some (v (suc k))) z) (beside_front f v m k)
    ∙ or_front (f (suc k) == m) (v (suc k)) (value_beside (λ i. f (suc i)) (λ i. v (suc i)) m k) (cond (f 0 == m) (Some (v 0)) None)

beside_places : (g : JoinRow → Found) (d : JoinRow) (m : ℕ) (rows : List JoinRow) →
    value_beside (λ i. (g (slice_index_or rows i d)).number) (λ i. (g (slice_index_or rows i d)).value) m (length rows) ≡ found_in m (map g rows)
beside_places g d m [] = refl
beside_places g d m (row ∷ rows) =
    beside_front (λ i. (g (slice_index_or (row ∷ rows) i d)).number) (λ i. (g (slice_index_or (row ∷ rows) i d)).value) m (length rows)
    ∙ ap (λ z. or_found z (cond ((g row).number == m) (Some (g row).value) None)) (beside_places g d m rows)

all_places : (Q : ℕ → ℤ → Type 0) (g : JoinRow → Found) (d : JoinRow) (rows : List JoinRow) (i : ℕ) → AllFound Q (map g rows) → i < length rows →
    Q (g (slice_index_or rows i d)).number (g (slice_index_or rows i d)).value
all_places Q g d [] i a h = absurd (omega arith)
all_places Q g d (row ∷ rows) zero a h = a.0
all_places Q g d (row ∷ rows) (suc i) a h = all_places Q g d rows i a.1 (omega arith)

rise_least : (g : JoinRow → Found) (d : JoinRow) (n : ℕ) (rows : List JoinRow) (i : ℕ) → Rise n (map g rows) → i < length rows → n ≤ (g (slice_index_or rows i d)).number
rise_least g d n [] i a h = absurd (omega arith)
rise_least g d n (row ∷ rows) zero a h = a.0
rise_least g d n (row ∷ rows) (suc i) a h = let k = rise_least g d (suc (g row).number) rows i a.1 (omega arith) in let k2 = a.0 in omega arith

rise_places : (g : JoinRow → Found) (d : JoinRow) (n : ℕ) (rows : List JoinRow) (i k : ℕ) → Rise n (map g rows) → i < k → k < length rows →
    (g (slice_index_or rows i d)).number < (g (slice_index_or rows k d)).number
rise_places g d n [] i k a h l = absurd (omega arith)
rise_places g d n (row ∷ rows) i zero a h l = absurd (omega arith)
rise_places g d n (row ∷ rows) zero (suc k) a h l = rise_least g d (suc (g row).number) rows k a.1 (omega arith)
rise_places g d n (row ∷ rows) (suc i) (suc k) a h l = rise_places g d (suc (g row).number) rows i k a.1 (omega arith) (omega arith)

abbrev pub sent_by : JoinRow → Found
sent_by row = record { number = row.sender_ticks; value = row.value; stamp = row.stamp }

abbrev pub got_by : JoinRow → Found
got_by row = record { number = row.receiver_ticks; value = row.value; stamp = row.stamp }

receiver_found : (rows : List JoinRow) (ms : List Meeting) → map sent_by rows ≡ at_sender ms → map (λ row. row.receiver_ticks) rows ≡ map (λ f. f.number) (at_receiver ms) →
    map got_by rows ≡ at_receiver ms
receiver_found [] [] h k = refl
receiver_found [] (m ∷ ms) h k = cc
receiver_found (row ∷ rows) [] h k = cc
receiver_found (row ∷ rows) (m ∷ ms) h k =
    let e : row.receiver_ticks ≡ m.receiver_ticks = cc in
    let f : sent_by row ≡ seen_by_sender m = cc in
    let hs : map sent_by rows ≡ at_sender ms = cc in
    let ks : map (λ row. row.receiver_ticks) rows ≡ map (λ f. f.number) (at_receiver ms) = cc in
    let rest = receiver_found rows ms hs ks in
    ap (λ z. record { number = z; value = row.value; stamp = row.stamp } ∷ map got_by rows) e
    ∙ ap (λ (z : Found). record { number = m.receiver_ticks; value = z.value; stamp = z.stamp } ∷ map got_by rows) f
    ∙ ap (λ z. seen_by_receiver m ∷ z) rest

-- the two offers of each row's join have their ticks' stamps, and the row 1 + the greater
pub record RowStamps (Q R : ℕ → ℕ → Type 0) (row : JoinRow) : Type 0 where
  pub sender_stamp : ℕ
  pub receiver_stamp : ℕ
  pub sender : Q row.sender_ticks sender_stamp
  pub receiver : R row.receiver_ticks receiver_stamp
  pub stamp : row.stamp ≡ suc (max sender_stamp receiver_stamp)

row_stamps : (Q R : ℕ → ℕ → Type 0) (d : JoinRow) (rows : List JoinRow) (ms : List Meeting) (i : ℕ) → map sent_by rows ≡ at_sender ms → map got_by rows ≡ at_receiver ms → AllMeet Q R ms →
    i < length rows → RowStamps Q R (slice_index_or rows i d)
row_stamps Q R d [] ms i h k a l = absurd (omega arith)
row_stamps Q R d (row ∷ rows) [] i h k a l = cc
row_stamps Q R d (row ∷ rows) (m ∷ ms) zero h k a l =
    let f : sent_by row ≡ seen_by_sender m = cc in
    let g : got_by row ≡ seen_by_receiver m = cc in
    record {
      sender_stamp = m.sender_stamp;
      receiver_stamp = m.receiver_stamp;
      sender = subst (λ n. Q n m.sender_stamp) (ap (λ (z : Found). z.number) (sym f)) a.0;
      receiver = subst (λ n. R n m.receiver_stamp) (ap (λ (z : Found). z.number) (sym g)) a.1;
      stamp = ap (λ (z : Found). z.stamp) f;
    }
row_stamps Q R d (row ∷ rows) (m ∷ ms) (suc i) h k a l =
    let hs : map sent_by rows ≡ at_sender ms = cc in
    let ks : map got_by rows ≡ at_receiver ms = cc in
    row_stamps Q R d rows ms i hs ks a.2 (omega arith)

-- the stamp of a domain's n-th tick
abbrev pub IsStampAt : RunState → ℕ → ℕ → ℕ → Type 0
IsStampAt r d n s = (k : ℕ) × (n ≡ suc k) × (k < tick_count r d) × ((tick_of r d k).stamp ≡ s)

block_of_stamps : (Q : ℕ → ℕ → Type 0) (n : ℕ) (v : ℤ) (s : ℕ) (reply : Option Joined) (q : Option (Option Joined)) (rest : List Exchange) → Q n s → AllStamps Q rest →
    AllStamps Q (block_of n v s reply q rest)
block_of_stamps Q n v s None q rest h a = (h, a)
block_of_stamps Q n v s (Some j) q rest h a = (h, a)

block_stamps : (Q : ℕ → ℕ → Type 0) (n : ℕ) (o : Option Offer) (q : Option (Option Joined)) (rest : List Exchange) → ((z : Offer) → o ≡ Some z → Q n z.stamp) → AllStamps Q rest →
    AllStamps Q (block n o q rest)
block_stamps Q n None q rest h a = a
block_stamps Q n (Some z) q rest h a = block_of_stamps Q n z.value z.stamp z.reply q rest (h z refl) a

exchanges_stamps : (Q : ℕ → ℕ → Type 0) (x : Rounds) (c n left : ℕ) → ((m : ℕ) (z : Offer) → n ≤ m → m < n + left → x.offers m c ≡ Some z → Q m z.stamp) → AllStamps Q (exchanges x c n left)
exchanges_stamps Q x c n zero h = tt
exchanges_stamps Q x c n (suc left) h =
    block_stamps Q n (x.offers n c) (x.recalls n c) (exchanges x c (suc n) left) (λ z e. h n z (omega arith) (omega arith) e)
    (exchanges_stamps Q x c (suc n) left (λ m z a b e. h m z (omega arith) (omega arith) e))

-- what was found at the offers and then at the recalls, at once
or_values : (q o : Option Joined) → or_found (value_found q) (value_found o) ≡ value_found (or_else q o)
or_values None o = refl
or_values (Some j) o = refl

found_twice : (p : Setup) (d : ℕ) (s : DomainState) (offers : ℕ → Option Offer) (recalls : ℕ → Option (Option Joined)) →
    recalled p d s offers recalls ≡ with_found p.tables d (λ c. value_found (join_found offers recalls c)) s
found_twice p d s offers recalls =
    found_both p.tables d (λ c. value_found (found_at_recall (recalls c))) (λ c. value_found (found_at_offer (offers c))) s
    ∙ found_same p.tables d _ _ s (λ c own. or_values (found_at_recall (recalls c)) (found_at_offer (offers c)))

unfoldable pub blank : JoinRow
blank = record { value = pos 0; sender_ticks = 0; receiver_ticks = 0; stamp = 0 }

no_offer : (o : Option Offer) → ((z : Offer) → o ≡ Some z → ⊥) → o ≡ None
no_offer None h = refl
no_offer (Some z) h = absurd (h z refl)

domain_offers : (p : Setup) (r : RunState) (rounds : ℕ → Rounds) (f : RoundsFit p r rounds) (d n : ℕ) → d < domain_count p → n < tick_count r d →
    OffersWaiting p d (tick_of r d n).stamp ((rounds d).after (suc n)) ((rounds d).offers (suc n))
domain_offers p r rounds f d n h l = offers_at p d (log_of r d).entries (log_of r d).mark (rounds d) (f.domains d h).made n l

pub domain_stands : (p : Setup) (r : RunState) (rounds : ℕ → Rounds) (f : RoundsFit p r rounds) (d : ℕ) → d < domain_count p → (n c : ℕ) → RecallsStanding ((rounds d).offers n c) ((rounds d).recalls n c)
domain_stands p r rounds f d h = all_stand p d (log_of r d).entries (log_of r d).mark (rounds d) (f.domains d h)

offer_stamp : (p : Setup) (r : RunState) (rounds : ℕ → Rounds) (f : RoundsFit p r rounds) (d c : ℕ) → d < domain_count p → (m : ℕ) (z : Offer) → 1 ≤ m → m < 1 + tick_count r d →
    (rounds d).offers m c ≡ Some z →
    IsStampAt r d m z.stamp
offer_stamp p r rounds f d c h zero z a b q = absurd (omega arith)
offer_stamp p r rounds f d c h (suc n) z a b q = (n, refl, omega arith, sym ((domain_offers p r rounds f d n h (omega arith)).stamps c z q))

-- what the two ends of a channel found is what its history has
pub record ChannelFacts (p : Setup) (r : RunState) (rounds : ℕ → Rounds) (f : RoundsFit p r rounds) (c : ℕ) : Type 0 where
  pub sent : map sent_by (history_of r c) ≡ found_from (rounds (sender_of p c)) c 1 (tick_count r (sender_of p c))
  pub got : map got_by (history_of r c) ≡ found_from (rounds (receiver_of p c)) c 1 (tick_count r (receiver_of p c))
  pub values : KeepValues (exchanges (rounds (sender_of p c)) c 1 (tick_count r (sender_of p c)))
  pub stamps : (i : ℕ) → i < join_count r c → RowStamps (IsStampAt r (sender_of p c)) (IsStampAt r (receiver_of p c)) (join_of r c i)

pub channel_facts : (p : Setup) (r : RunState) (rounds : ℕ → Rounds) (f : RoundsFit p r rounds) → IsSystem p → (c : ℕ) → c < channel_count p → ChannelFacts p r rounds f c
unfolding blank
channel_facts p r rounds f sys c w =
    let sd = sender_of p c in
    let rd = receiver_of p c in
    let ds = domain_stands p r rounds f sd (sys.sender c w) in
    let dr = domain_stands p r rounds f rd (sys.receiver c w) in
    let ch = fits_cell p r rounds c (f.channels c w).moves in
    let rows = (f.channels c w).rows in
    let xs = exchanges (rounds sd) c 1 (tick_count r sd) in
    let ys = exchanges (rounds rd) c 1 (tick_count r rd) in
    let same = walk (IsStampAt r sd) (IsStampAt r rd) (ch.in_rounds ++ ch.settling) Empty Empty (Idle xs) (Idle ys) refl refl ch.runs
    (ch.sender ∙ sym (exchanges-entries (rounds sd) c 1 (tick_count r sd) ds))
    (ch.receiver ∙ sym (exchanges-entries (rounds rd) c 1 (tick_count r rd) dr))
    (exchanges_stamps (IsStampAt r sd) (rounds sd) c 1 (tick_count r sd) (offer_stamp p r rounds f sd c (sys.sender c w)))
    (exchanges_stamps (IsStampAt r rd) (rounds rd) c 1 (tick_count r rd) (offer_stamp p r rounds f rd c (sys.receiver c w))) in
    let fs = exchanges-found (rounds sd) c 1 (tick_count r sd) ds in
    let fr = exchanges-found (rounds rd) c 1 (tick_count r rd) dr in
    let back : found_from (rounds rd) c 1 (tick_count r rd) ≡ at_receiver same.joins = sym fr ∙ same.receiver in
    let sent_is : map sent_by (history_of r c) ≡ at_sender same.joins = rows.sender_rows ∙ sym fs ∙ same.sender in
    let got_is : map got_by (history_of r c) ≡ at_receiver same.joins = receiver_found (history_of r c) same.joins sent_is (rows.receiver_rows ∙ ap (map (λ z. z.number)) back) in
    record {
      sent = rows.sender_rows;
      got = got_is ∙ sym back;
      values = same.values;
      stamps = λ i h. row_stamps (IsStampAt r sd) (IsStampAt r rd) blank (history_of r c) same.joins i sent_is got_is same.stamps h;
    }

past_channel : (p : Setup) (r : RunState) → Fits p r → (c : ℕ) → channel_count p ≤ c → join_count r c ≡ 0
past_channel p r fit c h = let e = fit.histories in elim (cases_lt 0 (join_count r c)) [ inl l ↦ let k = channel_of r c 0 l in absurd (omega arith) | inr l ↦ omega arith ]

none_beside : (f : ℕ → ℕ) (v : ℕ → ℤ) (n k : ℕ) → k ≡ 0 → value_beside f v n k ≡ None
none_beside f v n k e = ap (value_beside f v n) e

-- what is found after n ticks on a channel of the program
row_found : (p : Setup) (r : RunState) (rounds : ℕ → Rounds) (d c : ℕ) (g : JoinRow → Found) → map g (history_of r c) ≡ found_from (rounds d) c 1 (tick_count r d) →
    (n : ℕ) → suc n ≤ tick_count r d →
    value_beside (λ i. (g (join_of r c i)).number) (λ i. (g (join_of r c i)).value) (suc n) (join_count r c) ≡ value_found (join_found ((rounds d).offers (suc n)) ((rounds d).recalls (suc n)) c)
unfolding blank
row_found p r rounds d c g e n k =
    beside_places g blank (suc n) (history_of r c) ∙ ap (found_in (suc n)) e ∙ in_out (rounds d) c (suc n) 1 (tick_count r d) (omega arith) (omega arith)

row_none : (p : Setup) (r : RunState) (rounds : ℕ → Rounds) (d c : ℕ) (g : JoinRow → Found) → map g (history_of r c) ≡ found_from (rounds d) c 1 (tick_count r d) →
    value_beside (λ i. (g (join_of r c i)).number) (λ i. (g (join_of r c i)).value) 0 (join_count r c) ≡ None
unfolding blank
row_none p r rounds d c g e = beside_places g blank 0 (history_of r c) ∙ ap (found_in 0) e ∙ in_none (rounds d) c 0 1 (tick_count r d) (omega arith)

-- the domain's own end of it
record OwnRows (p : Setup) (r : RunState) (rounds : ℕ → Rounds) (d c : ℕ) : Type 0 where
  row : JoinRow → Found
  rows : map row (history_of r c) ≡ found_from (rounds d) c 1 (tick_count r d)
  beside : (n : ℕ) → found_after p r d n (join_count r) c ≡ value_beside (λ i. (row (join_of r c i)).number) (λ i. (row (join_of r c i)).value) n (join_count r c)

own_rows : (p : Setup) (r : RunState) (rounds : ℕ → Rounds) (f : RoundsFit p r rounds) → IsSystem p → (d c : ℕ) → c < channel_count p → IsOwn p.tables d c → OwnRows p r rounds d c
own_rows p r rounds f sys d c w own =
    let facts = channel_facts p r rounds f sys c w in
    elim (cases_eq (sender_of p c) d) [
      | inl e ↦ record {
        row = sent_by;
        rows = facts.sent ∙ ap (λ z. found_from (rounds z) c 1 (tick_count r z)) e;
        beside = λ n. ap (λ g. value_beside g (value_at r c) n (join_count r c)) (own_sender p r d c e);
      }
      | inr e ↦ record {
        row = got_by;
        rows = facts.got ∙ ap (λ z. found_from (rounds z) c 1 (tick_count r z)) (elim own [ inl q ↦ absurd (e q) | inr q ↦ q ]);
        beside = λ n. ap (λ g. value_beside g (value_at r c) n (join_count r c)) (own_receiver p r d c e);
      }
    ]

no_join_past : (p : Setup) (r : RunState) (rounds : ℕ → Rounds) (f : RoundsFit p r rounds) → Fits p r → (d n c : ℕ) → d < domain_count p → n ≤ tick_count r d → channel_count p ≤ c →
    join_found ((rounds d).offers n) ((rounds d).recalls n) c ≡ None
no_join_past p r rounds f fit d zero c h k w = out_none ((rounds d).offers 0 c) ((rounds d).recalls 0 c) (domain_stands p r rounds f d h 0 c) ((f.domains d h).made.none_before c)
no_join_past p r rounds f fit d (suc n) c h k w =
    out_none ((rounds d).offers (suc n) c) ((rounds d).recalls (suc n) c) (domain_stands p r rounds f d h (suc n) c)
    (no_offer ((rounds d).offers (suc n) c) (λ z q. let v = ((domain_offers p r rounds f d n h (omega arith)).ends c z q).0 in omega arith))

pub found_is : (p : Setup) (r : RunState) (rounds : ℕ → Rounds) (f : RoundsFit p r rounds) → IsSystem p → Fits p r → (d n c : ℕ) → d < domain_count p → n ≤ tick_count r d → IsOwn p.tables d c →
    value_found (join_found ((rounds d).offers n) ((rounds d).recalls n) c) ≡ found_after p r d n (join_count r) c
found_is p r rounds f sys fit d n c h k own = elim (cases_lt c (channel_count p)) [
  | inl w ↦ let rows = own_rows p r rounds f sys d c w own in within n k rows ∙ sym (rows.beside n)
  | inr w ↦
      ap value_found (no_join_past p r rounds f fit d n c h k w)
      ∙ sym (none_beside (own_ticks_at p r d c) (value_at r c) n (join_count r c) (past_channel p r fit c w))
]
  where
    within : (n : ℕ) → n ≤ tick_count r d → (rows : OwnRows p r rounds d c) → value_found (join_found ((rounds d).offers n) ((rounds d).recalls n) c) ≡
        value_beside (λ i. (rows.row (join_of r c i)).number) (λ i. (rows.row (join_of r c i)).value) n (join_count r c)
    within zero k rows =
        ap value_found (out_none ((rounds d).offers 0 c) ((rounds d).recalls 0 c) (domain_stands p r rounds f d h 0 c) ((f.domains d h).made.none_before c))
        ∙ sym (row_none p r rounds d c rows.row rows.rows)
    within (suc n) k rows = sym (row_found p r rounds d c rows.row rows.rows n k)

-- a domain's state with what it found is its state with the history's joins
found_is_joined : (p : Setup) (r : RunState) (rounds : ℕ → Rounds) (f : RoundsFit p r rounds) → IsSystem p → Fits p r → (d n : ℕ) (s : DomainState) → d < domain_count p → n ≤ tick_count r d →
    recalled p d s ((rounds d).offers n) ((rounds d).recalls n) ≡ with_joins p r d n (join_count r) s
found_is_joined p r rounds f sys fit d n s h k =
    found_twice p d s ((rounds d).offers n) ((rounds d).recalls n)
    ∙ found_same p.tables d _ (found_after p r d n (join_count r)) s (λ c own. found_is p r rounds f sys fit d n c h k own)

offer_waits : (p : Setup) (r : RunState) (rounds : ℕ → Rounds) (f : RoundsFit p r rounds) → (d c : ℕ) → d < domain_count p → sender_of p c ≡ d → (m : ℕ) (z : Offer) → 1 ≤ m →
    m < 1 + tick_count r d →
    (rounds d).offers m c ≡ Some z →
    WaitsToSend c z.value ((rounds d).after m).statement
offer_waits p r rounds f d c h e zero z a b q = absurd (omega arith)
offer_waits p r rounds f d c h e (suc n) z a b q = (domain_offers p r rounds f d n h (omega arith)).sends c z q e

offer_takes : (p : Setup) (r : RunState) (rounds : ℕ → Rounds) (f : RoundsFit p r rounds) → (d c : ℕ) → d < domain_count p → receiver_of p c ≡ d → (m : ℕ) (z : Offer) → 1 ≤ m →
    m < 1 + tick_count r d →
    (rounds d).offers m c ≡ Some z →
    WaitsToReceive c ((rounds d).after m).statement
offer_takes p r rounds f d c h e zero z a b q = absurd (omega arith)
offer_takes p r rounds f d c h e (suc n) z a b q = ((domain_offers p r rounds f d n h (omega arith)).receives c z q e).0

pub rounds_have_own_runs : (p : Setup) (r : RunState) (rounds : ℕ → Rounds) (f : RoundsFit p r rounds) → IsSystem p → Fits p r → HasOwnRuns p r
unfolding blank
rounds_have_own_runs p r rounds f sys fit =
    record {
      after = λ d. (rounds d).after;
      own = λ d h.
          let x = f.domains d h in
          record {
            begins = x.made.begins;
            ticks = λ n k.
                subst (λ z. IsLegalTick p.tables p.inputs d z (tick_of r d n).statuses ((rounds d).after (suc n)))
                (found_is_joined p r rounds f sys fit d n ((rounds d).after n) h (omega arith))
                ((x.made.rounds n k).tick);
            sends = λ c i w k e.
                let facts = channel_facts p r rounds f sys c w in
                let sd = sender_of p c in
                let sw = sys.sender c w in
                let Q : ℕ → ℤ → Type 0 = λ m v. WaitsToSend c v ((rounds sd).after m).statement in
                let all : AllFound Q (found_from (rounds sd) c 1 (tick_count r sd)) =
                subst (AllFound Q) (exchanges-found (rounds sd) c 1 (tick_count r sd) (domain_stands p r rounds f sd sw))
                (exchanges_all Q (rounds sd) c 1 (tick_count r sd) (offer_waits p r rounds f sd c sw refl) facts.values) in
                let here = all_places Q sent_by blank (history_of r c) i (subst (AllFound Q) (sym facts.sent) all) k in
                subst (λ z. WaitsToSend c (join_of r c i).value ((rounds z).after (join_of r c i).sender_ticks).statement) e here;
            receives = λ c i w k e.
                let facts = channel_facts p r rounds f sys c w in
                let rd = receiver_of p c in
                let rw2 = sys.receiver c w in
                let Q : ℕ → ℤ → Type 0 = λ m v. WaitsToReceive c ((rounds rd).after m).statement in
                let all : AllFound Q (found_from (rounds rd) c 1 (tick_count r rd)) =
                found_all Q (rounds rd) c 1 (tick_count r rd) (domain_stands p r rounds f rd rw2) (λ m z a b q v. offer_takes p r rounds f rd c rw2 refl m z a b q) in
                let here = all_places Q got_by blank (history_of r c) i (subst (AllFound Q) (sym facts.got) all) k in
                subst (λ z. WaitsToReceive c ((rounds z).after (join_of r c i).receiver_ticks).statement) e here;
            mark = x.made.mark_is;
          };
      rise = record {
        sender = λ c i k w l m.
            let sd = sender_of p c in
            rise_places sent_by blank 1 (history_of r c) i k (subst (Rise 1) (sym (channel_facts p r rounds f sys c w).sent)
            (found_rise (rounds sd) c 1 (tick_count r sd) (domain_stands p r rounds f sd (sys.sender c w)))) l m;
        receiver = λ c i k w l m.
            let rd = receiver_of p c in
            rise_places got_by blank 1 (history_of r c) i k (subst (Rise 1) (sym (channel_facts p r rounds f sys c w).got)
            (found_rise (rounds rd) c 1 (tick_count r rd) (domain_stands p r rounds f rd (sys.receiver c w)))) l m;
      };
    }

pub rounds_end : (p : Setup) (r : RunState) (rounds : ℕ → Rounds) (f : RoundsFit p r rounds) (sys : IsSystem p) (fit : Fits p r) (d : ℕ) →
    own_end p r (rounds_have_own_runs p r rounds f sys fit) d ≡ with_joins p r d (tick_count r d) (join_count r) ((rounds d).after (tick_count r d))
unfolding rounds_have_own_runs
rounds_end p r rounds f sys fit d = refl
