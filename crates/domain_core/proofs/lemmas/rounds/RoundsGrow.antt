-- Open rounds grow by one, and are closed.
use Rattle.std.proofs.Common.{◌≡◌, ℕ, zero, suc, ◌<◌, ◌≤◌, Bool, List, [], ◌∷◌, ◌++◌, Option, None, length, length-append, refl, sym, ap, ◌∙◌, subst, inl, inr, arith}
use Rattle.std.specs.Prelude.{slice_index_or}
use Rattle.std.proofs.lemmas.Bool.{cases_lt}
use Rattle.cell_core.specs.declared.moves.Joined.{Joined}
use Rattle.kernel_rules.specs.definitions.LegalTick.{DomainState}
use Rattle.tick_log.specs.definitions.Runs.{Entry, entry_at}
use Rattle.kernel_terms.specs.Marks.{Mark, Going}
use Rattle.domain_core.specs.definitions.runs.Stamps.{last_stamp}
use Rattle.domain_core.specs.definitions.runs.Systems.{Setup}
use Rattle.domain_core.specs.definitions.rounds.Rounds.{Offer, Rounds, RecallsStanding, IsRound, entry_stamps, IsRounds, IsOpenRounds, no_rounds, MakesRound, with_round, with_recalls}
use Rattle.domain_core.proofs.lemmas.runs.StatesBetweenTicks.{put_here, put_apart}

entry_before : (xs : List Entry) (e d : Entry) (n : ℕ) → n < length xs → slice_index_or (xs ++ e ∷ []) n d ≡ slice_index_or xs n d
entry_before [] e d n h = absurd (omega arith)
entry_before (x ∷ xs) e d zero h = refl
entry_before (x ∷ xs) e d (suc n) h = entry_before xs e d n (omega arith)

pub entry_last : (xs : List Entry) (e d : Entry) → slice_index_or (xs ++ e ∷ []) (length xs) d ≡ e
entry_last [] e d = refl
entry_last (x ∷ xs) e d = entry_last xs e d

-- a round of the same parts
same_round : (p : Setup) (d l l' : ℕ) (b b' : DomainState) (m m' : ℕ → Option Offer) (r r' : ℕ → Option (Option Joined)) (e e' : Entry) (a a' : DomainState) (o o' : ℕ → Option Offer) →
    l' ≡ l → b' ≡ b → m' ≡ m → r' ≡ r → e' ≡ e → a' ≡ a → o' ≡ o → IsRound p d l b m r e a o → IsRound p d l' b' m' r' e' a' o'
same_round p d l l' b b' m m' r r' e e' a a' o o' lq bq mq rq eq aq oq h =
    subst (λ z. IsRound p d z b' m' r' e' a' o') (sym lq)
    (subst (λ z. IsRound p d l z m' r' e' a' o') (sym bq)
    (subst (λ z. IsRound p d l b z r' e' a' o') (sym mq)
    (subst (λ z. IsRound p d l b m z e' a' o') (sym rq)
    (subst (λ z. IsRound p d l b m r z a' o') (sym eq)
    (subst (λ z. IsRound p d l b m r e z o') (sym aq)
    (subst (λ z. IsRound p d l b m r e a z) (sym oq) h))))))

same_last : (xs ys : List Entry) (k : ℕ) → ((i : ℕ) → i < k → entry_at ys i ≡ entry_at xs i) → last_stamp (entry_stamps ys) k ≡ last_stamp (entry_stamps xs) k
same_last xs ys zero h = refl
same_last xs ys (suc k) h = ap (λ e. e.stamp) (h k (omega arith))

pub rounds_begin : (p : Setup) (d : ℕ) → IsOpenRounds p d [] Going (no_rounds p d)
rounds_begin p d = record {
  made = record {
    begins = refl;
    none_before = λ c. refl;
    none_after = λ n c h. refl;
    rounds = λ n h. absurd (omega arith);
    mark_is = refl;
  };
  to_recall = λ n c h. refl;
}

pub rounds_close : (p : Setup) (d : ℕ) (entries : List Entry) (mark : Mark) (x : Rounds) (recalls : ℕ → Option (Option Joined)) (cut : Bool) →
    IsOpenRounds p d entries mark x → ((c : ℕ) → RecallsStanding (x.offers (length entries) c) (recalls c)) →
    IsRounds p d entries mark (with_recalls x (length entries) recalls cut)
rounds_close p d entries mark x recalls cut a last =
    let n = length entries in
    let y = with_recalls x n recalls cut in
    record {
      made = record {
        begins = a.made.begins;
        none_before = a.made.none_before;
        none_after = a.made.none_after;
        rounds = λ k h.
            same_round p d _ _ _ _ _ _ _ _ _ _ _ _ _ _ refl refl refl (put_apart x.recalls n recalls k (λ e. omega arith)) refl refl refl (a.made.rounds k h);
        mark_is = a.made.mark_is;
      };
      stands = λ k c l. elim (cases_lt n k) [
        | inl g ↦
            let none = a.made.none_after k c g in
            let same : y.recalls k c ≡ None = ap (λ f. f c) (put_apart x.recalls n recalls k (λ e. omega arith)) ∙ a.to_recall k c l in
            subst (λ o. RecallsStanding o (y.recalls k c)) (sym none) same
        | inr g ↦
            let q : n ≡ k = omega arith in
            let P : ℕ → Type 0 = λ z. RecallsStanding (y.offers z c) (y.recalls z c) in
            subst P q (subst (λ f. RecallsStanding (x.offers n c) (f c)) (sym (put_here x.recalls n recalls)) (last c))
      ];
    }

pub rounds_more : (p : Setup) (d : ℕ) (entries : List Entry) (mark : Mark) (x : Rounds) (recalls : ℕ → Option (Option Joined)) (entry : Entry) (after : DomainState) (offers : ℕ → Option Offer) →
    IsOpenRounds p d entries mark x → MakesRound p d entries x recalls entry after offers →
    IsOpenRounds p d (entries ++ entry ∷ []) after.mark (with_round x (length entries) recalls after offers)
rounds_more p d entries mark x recalls entry after offers a m =
    let n = length entries in
    let y = with_round x n recalls after offers in
    let grown = entries ++ entry ∷ [] in
    let blank : Entry = record { stamp = 0; statuses = [] } in
    let len : length grown ≡ suc n = let k = length-append entries (entry ∷ []) in omega arith in
    let after_old : (k : ℕ) → k ≤ n → y.after k ≡ x.after k = λ k h. put_apart x.after (suc n) after k (λ e. omega arith) in
    let offers_old : (k : ℕ) → k ≤ n → y.offers k ≡ x.offers k = λ k h. put_apart x.offers (suc n) offers k (λ e. omega arith) in
    let entry_old : (k : ℕ) → k < n → entry_at grown k ≡ entry_at entries k = λ k h. entry_before entries entry blank k h in
    let after_new = put_here x.after (suc n) after in
    let here : IsRound p d (last_stamp (entry_stamps grown) n) (y.after n) (y.offers n) (y.recalls n) (entry_at grown n) (y.after (suc n)) (y.offers (suc n)) =
    same_round p d _ _ _ _ _ _ _ _ _ _ _ _ _ _ (same_last entries grown n (λ i h. entry_old i (omega arith))) (after_old n (omega arith)) (offers_old n (omega arith))
    (put_here x.recalls n recalls) (entry_last entries entry blank) after_new (put_here x.offers (suc n) offers) m in
    record {
      made = record {
        begins = after_old 0 (omega arith) ∙ a.made.begins;
        none_before = λ c. ap (λ f. f c) (offers_old 0 (omega arith)) ∙ a.made.none_before c;
        none_after = λ k c h. ap (λ f. f c) (put_apart x.offers (suc n) offers k (λ e. omega arith)) ∙ a.made.none_after k c (omega arith);
        rounds = λ k h. elim (cases_lt k n) [
          | inl l ↦
              same_round p d _ _ _ _ _ _ _ _ _ _ _ _ _ _ (same_last entries grown k (λ i h. entry_old i (omega arith))) (after_old k (omega arith)) (offers_old k (omega arith))
              (put_apart x.recalls n recalls k (λ e. omega arith)) (entry_old k l) (after_old (suc k) (omega arith)) (offers_old (suc k) (omega arith)) (a.made.rounds k l)
          | inr l ↦
              let q : n ≡ k = omega arith in
              let P : ℕ → Type 0 = λ i. IsRound p d (last_stamp (entry_stamps grown) i) (y.after i) (y.offers i) (y.recalls i) (entry_at grown i) (y.after (suc i)) (y.offers (suc i)) in
              subst P q here
        ];
        mark_is = ap (λ s. s.mark) (sym after_new) ∙ ap (λ i. (y.after i).mark) (sym len);
      };
      to_recall = λ k c h. ap (λ f. f c) (put_apart x.recalls n recalls k (λ e. omega arith)) ∙ a.to_recall k c (omega arith);
    }
