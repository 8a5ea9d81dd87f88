-- The moves and the joins of an end grow with its rounds.
use Rattle.std.proofs.Common.{◌≡◌, ℕ, zero, suc, ◌+◌, ◌<◌, ◌≤◌, Bool, List, [], ◌++◌, Option, Some, None, length, refl, sym, ap, ◌∙◌, arith, append_assoc}
use Rattle.cell_core.specs.declared.moves.Side.{Side}
use Rattle.cell_core.specs.declared.moves.Joined.{Joined}
use Rattle.kernel_rules.specs.definitions.Signals.{put_at}
use Rattle.kernel_rules.specs.definitions.LegalTick.{DomainState}
use Rattle.tick_log.specs.definitions.Runs.{Entry}
use Rattle.kernel_terms.specs.Marks.{Mark}
use Rattle.domain_core.specs.definitions.runs.Systems.{Setup}
use Rattle.domain_core.specs.definitions.rounds.Rounds.{Offer, Rounds, found_at_offer, found_at_recall, RecallsStanding, IsOpenRounds, MakesRound, with_round, with_recalls, MoveMade, offer_move, recall_move, moves_from, Found, found_entry, found_from}
use Rattle.domain_core.proofs.lemmas.runs.StatesBetweenTicks.{put_here, put_apart}

offer_append : (a : Side) (o : Option Offer) (xs ys : List MoveMade) → offer_move a o (xs ++ ys) ≡ offer_move a o xs ++ ys
offer_append a None xs ys = refl
offer_append a (Some o) xs ys = refl

pub recall_append : (a : Side) (q : Option (Option Joined)) (xs ys : List MoveMade) → recall_move a q (xs ++ ys) ≡ recall_move a q xs ++ ys
recall_append a None xs ys = refl
recall_append a (Some reply) xs ys = refl

found_append : (n : ℕ) (o : Option Joined) (xs ys : List Found) → found_entry n o (xs ++ ys) ≡ found_entry n o xs ++ ys
found_append n None xs ys = refl
found_append n (Some j) xs ys = refl

-- an exchange more
pub moves_last : (a : Side) (x : Rounds) (c m left k : ℕ) → k ≡ m + left → moves_from a x c m (suc left) ≡ moves_from a x c m left ++ offer_move a (x.offers k c) (recall_move a (x.recalls k c) [])
moves_last a x c m zero k h = let e : m ≡ k = omega arith in ap (λ i. offer_move a (x.offers i c) (recall_move a (x.recalls i c) [])) e
moves_last a x c m (suc left) k h =
    let last = offer_move a (x.offers k c) (recall_move a (x.recalls k c) []) in
    ap (λ l. offer_move a (x.offers m c) (recall_move a (x.recalls m c) l)) (moves_last a x c (suc m) left k (omega arith))
    ∙ ap (offer_move a (x.offers m c)) (recall_append a (x.recalls m c) (moves_from a x c (suc m) left) last)
    ∙ offer_append a (x.offers m c) (recall_move a (x.recalls m c) (moves_from a x c (suc m) left)) last

found_last : (x : Rounds) (c m left k : ℕ) → k ≡ m + left →
    found_from x c m (suc left) ≡ found_from x c m left ++ found_entry k (found_at_offer (x.offers k c)) (found_entry k (found_at_recall (x.recalls k c)) [])
found_last x c m zero k h = let e : m ≡ k = omega arith in ap (λ i. found_entry i (found_at_offer (x.offers i c)) (found_entry i (found_at_recall (x.recalls i c)) [])) e
found_last x c m (suc left) k h =
    let last = found_entry k (found_at_offer (x.offers k c)) (found_entry k (found_at_recall (x.recalls k c)) []) in
    ap (λ l. found_entry m (found_at_offer (x.offers m c)) (found_entry m (found_at_recall (x.recalls m c)) l)) (found_last x c (suc m) left k (omega arith))
    ∙ ap (found_entry m (found_at_offer (x.offers m c))) (found_append m (found_at_recall (x.recalls m c)) (found_from x c (suc m) left) last)
    ∙ found_append m (found_at_offer (x.offers m c)) (found_entry m (found_at_recall (x.recalls m c)) (found_from x c (suc m) left)) last

-- exchanges at the same numbers
record SameExchanges (x y : Rounds) (c m left : ℕ) : Type 0 where
  offers : (k : ℕ) → m ≤ k → k < m + left → y.offers k c ≡ x.offers k c
  recalls : (k : ℕ) → m ≤ k → k < m + left → y.recalls k c ≡ x.recalls k c

same_rest : (x y : Rounds) (c m left : ℕ) → SameExchanges x y c m (suc left) → SameExchanges x y c (suc m) left
same_rest x y c m left s = record { offers = λ k h l. s.offers k (omega arith) (omega arith); recalls = λ k h l. s.recalls k (omega arith) (omega arith) }

same_moves : (a : Side) (x y : Rounds) (c m left : ℕ) → SameExchanges x y c m left → moves_from a y c m left ≡ moves_from a x c m left
same_moves a x y c m zero s = refl
same_moves a x y c m (suc left) s =
    ap (λ o. offer_move a o (recall_move a (y.recalls m c) (moves_from a y c (suc m) left))) (s.offers m (omega arith) (omega arith))
    ∙ ap (λ q. offer_move a (x.offers m c) (recall_move a q (moves_from a y c (suc m) left))) (s.recalls m (omega arith) (omega arith))
    ∙ ap (λ l. offer_move a (x.offers m c) (recall_move a (x.recalls m c) l)) (same_moves a x y c (suc m) left (same_rest x y c m left s))

same_joins : (x y : Rounds) (c m left : ℕ) → SameExchanges x y c m left → found_from y c m left ≡ found_from x c m left
same_joins x y c m zero s = refl
same_joins x y c m (suc left) s =
    ap (λ o. found_entry m (found_at_offer o) (found_entry m (found_at_recall (y.recalls m c)) (found_from y c (suc m) left))) (s.offers m (omega arith) (omega arith))
    ∙ ap (λ q. found_entry m (found_at_offer (x.offers m c)) (found_entry m (found_at_recall q) (found_from y c (suc m) left))) (s.recalls m (omega arith) (omega arith))
    ∙ ap (λ l. found_entry m (found_at_offer (x.offers m c)) (found_entry m (found_at_recall (x.recalls m c)) l)) (same_joins x y c (suc m) left (same_rest x y c m left s))

none_recalled : (o : Option Offer) (q : Option (Option Joined)) → o ≡ None → RecallsStanding o q → q ≡ None
none_recalled None q e h = h
none_recalled (Some o) q e h = cc

-- after n ticks there is no recall yet, and these recalls come
record RecallsAt (x y : Rounds) (n c : ℕ) (recall : Option (Option Joined)) : Type 0 where
  offers : (k : ℕ) → k ≤ n → y.offers k c ≡ x.offers k c
  before : (k : ℕ) → k < n → y.recalls k c ≡ x.recalls k c
  here : y.recalls n c ≡ recall
  none : x.recalls n c ≡ None
  none_before : n ≡ 0 → recall ≡ None

moves_recalled : (a : Side) (x y : Rounds) (n c : ℕ) (recall : Option (Option Joined)) → RecallsAt x y n c recall → moves_from a y c 1 n ≡ moves_from a x c 1 n ++ recall_move a recall []
moves_recalled a x y zero c recall h = sym (ap (λ q. recall_move a q []) (h.none_before refl))
moves_recalled a x y (suc n) c recall h =
    moves_last a y c 1 n (suc n) (omega arith)
    ∙ ap (λ l. l ++ offer_move a (y.offers (suc n) c) (recall_move a (y.recalls (suc n) c) []))
    (same_moves a x y c 1 n (record { offers = λ k l m. h.offers k (omega arith); recalls = λ k l m. h.before k (omega arith) }))
    ∙ ap (λ o. moves_from a x c 1 n ++ offer_move a o (recall_move a (y.recalls (suc n) c) [])) (h.offers (suc n) (omega arith))
    ∙ ap (λ q. moves_from a x c 1 n ++ offer_move a (x.offers (suc n) c) (recall_move a q [])) h.here
    ∙ ap (λ l. moves_from a x c 1 n ++ l) (offer_append a (x.offers (suc n) c) [] (recall_move a recall []))
    ∙ sym (append_assoc (moves_from a x c 1 n) (offer_move a (x.offers (suc n) c) []) (recall_move a recall []))
    ∙ ap (λ q. (moves_from a x c 1 n ++ offer_move a (x.offers (suc n) c) (recall_move a q [])) ++ recall_move a recall []) (sym h.none)
    ∙ ap (λ l. l ++ recall_move a recall []) (sym (moves_last a x c 1 n (suc n) (omega arith)))

joins_recalled : (x y : Rounds) (n c : ℕ) (recall : Option (Option Joined)) → RecallsAt x y n c recall → found_from y c 1 n ≡ found_from x c 1 n ++ found_entry n (found_at_recall recall) []
joins_recalled x y zero c recall h = sym (ap (λ q. found_entry 0 (found_at_recall q) []) (h.none_before refl))
joins_recalled x y (suc n) c recall h =
    found_last y c 1 n (suc n) (omega arith)
    ∙ ap (λ l. l ++ found_entry (suc n) (found_at_offer (y.offers (suc n) c)) (found_entry (suc n) (found_at_recall (y.recalls (suc n) c)) []))
    (same_joins x y c 1 n (record { offers = λ k l m. h.offers k (omega arith); recalls = λ k l m. h.before k (omega arith) }))
    ∙ ap (λ o. found_from x c 1 n ++ found_entry (suc n) (found_at_offer o) (found_entry (suc n) (found_at_recall (y.recalls (suc n) c)) [])) (h.offers (suc n) (omega arith))
    ∙ ap (λ q. found_from x c 1 n ++ found_entry (suc n) (found_at_offer (x.offers (suc n) c)) (found_entry (suc n) (found_at_recall q) [])) h.here
    ∙ ap (λ l. found_from x c 1 n ++ l) (found_append (suc n) (found_at_offer (x.offers (suc n) c)) [] (found_entry (suc n) (found_at_recall recall) []))
    ∙ sym (append_assoc (found_from x c 1 n) (found_entry (suc n) (found_at_offer (x.offers (suc n) c)) []) (found_entry (suc n) (found_at_recall recall) []))
    ∙ ap (λ q. (found_from x c 1 n ++ found_entry (suc n) (found_at_offer (x.offers (suc n) c)) (found_entry (suc n) (found_at_recall q) [])) ++ found_entry (suc n) (found_at_recall recall) [])
    (sym h.none)
    ∙ ap (λ l. l ++ found_entry (suc n) (found_at_recall recall) []) (sym (found_last x c 1 n (suc n) (omega arith)))

standing_recalls : (p : Setup) (d : ℕ) (entries : List Entry) (mark : Mark) (x y : Rounds) (recalls : ℕ → Option (Option Joined)) → IsOpenRounds p d entries mark x →
    ((c : ℕ) → RecallsStanding (x.offers (length entries) c) (recalls c)) → ((k c : ℕ) → k ≤ length entries → y.offers k c ≡ x.offers k c) → y.recalls ≡ put_at x.recalls (length entries) recalls →
    (c : ℕ) → RecallsAt x y (length entries) c (recalls c)
standing_recalls p d entries mark x y recalls a stands offers put c =
    let n = length entries in
    record {
      offers = λ k h. offers k c h;
      before = λ k h. ap (λ f. f k c) put ∙ ap (λ f. f c) (put_apart x.recalls n recalls k (λ e. omega arith));
      here = ap (λ f. f n c) put ∙ ap (λ f. f c) (put_here x.recalls n recalls);
      none = a.to_recall n c (omega arith);
      none_before = λ e. none_recalled (x.offers n c) (recalls c) (ap (λ k. x.offers k c) e ∙ a.made.none_before c) (stands c);
    }

closed_recalls : (p : Setup) (d : ℕ) (entries : List Entry) (mark : Mark) (x : Rounds) (recalls : ℕ → Option (Option Joined)) (cut : Bool) → IsOpenRounds p d entries mark x →
    ((c : ℕ) → RecallsStanding (x.offers (length entries) c) (recalls c)) → (c : ℕ) → RecallsAt x (with_recalls x (length entries) recalls cut) (length entries) c (recalls c)
closed_recalls p d entries mark x recalls cut a stands c =
    standing_recalls p d entries mark x (with_recalls x (length entries) recalls cut) recalls a stands (λ k c h. refl) refl c

pub moves_closed : (p : Setup) (d : ℕ) (entries : List Entry) (mark : Mark) (x : Rounds) (recalls : ℕ → Option (Option Joined)) (cut : Bool) → IsOpenRounds p d entries mark x →
    ((c : ℕ) → RecallsStanding (x.offers (length entries) c) (recalls c)) → (a : Side) (c : ℕ) →
    moves_from a (with_recalls x (length entries) recalls cut) c 1 (length entries) ≡ moves_from a x c 1 (length entries) ++ recall_move a (recalls c) []
moves_closed p d entries mark x recalls cut so_far stands a c =
    moves_recalled a x (with_recalls x (length entries) recalls cut) (length entries) c (recalls c) (closed_recalls p d entries mark x recalls cut so_far stands c)

pub joins_closed : (p : Setup) (d : ℕ) (entries : List Entry) (mark : Mark) (x : Rounds) (recalls : ℕ → Option (Option Joined)) (cut : Bool) → IsOpenRounds p d entries mark x →
    ((c : ℕ) → RecallsStanding (x.offers (length entries) c) (recalls c)) → (c : ℕ) →
    found_from (with_recalls x (length entries) recalls cut) c 1 (length entries) ≡ found_from x c 1 (length entries) ++ found_entry (length entries) (found_at_recall (recalls c)) []
joins_closed p d entries mark x recalls cut so_far stands c =
    joins_recalled x (with_recalls x (length entries) recalls cut) (length entries) c (recalls c) (closed_recalls p d entries mark x recalls cut so_far stands c)

grown_recalls : (p : Setup) (d : ℕ) (entries : List Entry) (mark : Mark) (x : Rounds) (recalls : ℕ → Option (Option Joined)) (entry : Entry) (after : DomainState) (offers : ℕ → Option Offer) →
    IsOpenRounds p d entries mark x → MakesRound p d entries x recalls entry after offers → (c : ℕ) →
    RecallsAt x (with_round x (length entries) recalls after offers) (length entries) c (recalls c)
grown_recalls p d entries mark x recalls entry after offers a m c =
    let n = length entries in
    standing_recalls p d entries mark x (with_round x n recalls after offers) recalls a m.stands (λ k c h. ap (λ f. f c) (put_apart x.offers (suc n) offers k (λ e. omega arith))) refl c

pub moves_grown : (p : Setup) (d : ℕ) (entries : List Entry) (mark : Mark) (x : Rounds) (recalls : ℕ → Option (Option Joined)) (entry : Entry) (after : DomainState) (offers : ℕ → Option Offer) →
    IsOpenRounds p d entries mark x → MakesRound p d entries x recalls entry after offers → (a : Side) (c : ℕ) →
    moves_from a (with_round x (length entries) recalls after offers) c 1 (suc (length entries)) ≡ moves_from a x c 1 (length entries) ++ recall_move a (recalls c) (offer_move a (offers c) [])
moves_grown p d entries mark x recalls entry after offers so_far m a c =
    let n = length entries in
    let y = with_round x n recalls after offers in
    let late : y.recalls (suc n) c ≡ None = ap (λ f. f c) (put_apart x.recalls n recalls (suc n) (λ e. omega arith)) ∙ so_far.to_recall (suc n) c (omega arith) in
    moves_last a y c 1 n (suc n) (omega arith)
    ∙ ap (λ q. moves_from a y c 1 n ++ offer_move a (y.offers (suc n) c) (recall_move a q [])) late
    ∙ ap (λ f. moves_from a y c 1 n ++ offer_move a (f c) []) (put_here x.offers (suc n) offers)
    ∙ ap (λ l. l ++ offer_move a (offers c) []) (moves_recalled a x y n c (recalls c) (grown_recalls p d entries mark x recalls entry after offers so_far m c))
    ∙ append_assoc (moves_from a x c 1 n) (recall_move a (recalls c) []) (offer_move a (offers c) [])
    ∙ ap (λ l. moves_from a x c 1 n ++ l) (sym (recall_append a (recalls c) [] (offer_move a (offers c) [])))

pub joins_grown : (p : Setup) (d : ℕ) (entries : List Entry) (mark : Mark) (x : Rounds) (recalls : ℕ → Option (Option Joined)) (entry : Entry) (after : DomainState) (offers : ℕ → Option Offer) →
    IsOpenRounds p d entries mark x → MakesRound p d entries x recalls entry after offers → (c : ℕ) →
    found_from (with_round x (length entries) recalls after offers) c 1 (suc (length entries)) ≡
    found_from x c 1 (length entries) ++ found_entry (length entries) (found_at_recall (recalls c)) (found_entry (suc (length entries)) (found_at_offer (offers c)) [])
joins_grown p d entries mark x recalls entry after offers so_far m c =
    let n = length entries in
    let y = with_round x n recalls after offers in
    let late : y.recalls (suc n) c ≡ None = ap (λ f. f c) (put_apart x.recalls n recalls (suc n) (λ e. omega arith)) ∙ so_far.to_recall (suc n) c (omega arith) in
    found_last y c 1 n (suc n) (omega arith)
    ∙ ap (λ q. found_from y c 1 n ++ found_entry (suc n) (found_at_offer (y.offers (suc n) c)) (found_entry (suc n) (found_at_recall q) [])) late
    ∙ ap (λ f. found_from y c 1 n ++ found_entry (suc n) (found_at_offer (f c)) []) (put_here x.offers (suc n) offers)
    ∙ ap (λ l. l ++ found_entry (suc n) (found_at_offer (offers c)) []) (joins_recalled x y n c (recalls c) (grown_recalls p d entries mark x recalls entry after offers so_far m c))
    ∙ append_assoc (found_from x c 1 n) (found_entry n (found_at_recall (recalls c)) []) (found_entry (suc n) (found_at_offer (offers c)) [])
    ∙ ap (λ l. found_from x c 1 n ++ l) (sym (found_append n (found_at_recall (recalls c)) [] (found_entry (suc n) (found_at_offer (offers c)) [])))
