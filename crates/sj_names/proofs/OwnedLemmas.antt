-- The places of the interface signals that belong to each domain.
use Rattle.std.proofs.Common.{◌≡◌, ◌≢◌, ℕ, zero, suc, ◌+◌, ◌≤◌, ◌<◌, ◌==◌, Bool, true, false, cond, nat_lt, subst, List, [], ◌∷◌, ◌++◌, length, drop, set, get_or, Vec, Global, ap, refl, sym, ◌∙◌, arith, append_assoc, length-append}
use Rattle.std.proofs.lemmas.List.{length-map, length-set, get_or-map, get_or-set_same, get_or-set_other}
use Rattle.std.proofs.lemmas.Bool.Decides.{nat_tests}
use Rattle.sj_names.specs.declared.mention.Use.TheVariants as way
use Rattle.sj_names.specs.declared.mention.Mention.{Mention}
use Rattle.sj_names.specs.definitions.Failures.{first_domain, owned_places}
use Rattle.sj_names.specs.Places.{place_lists, with_place, AreEmpty, OwnedReach, AreOwned}
use Rattle.sj_names.proofs.LeastLemmas.{rest_of, get_or_any}

pub below_lists : (lists : List (Vec ℕ Global)) (i : ℕ) → i < length (place_lists lists) → i < length lists
below_lists lists i lt = let l = length-map lists (λ places. places.items) in omega arith

empty_push : (ls : List (List ℕ)) (d : ℕ) → get_or ls d [] ≡ [] → get_or (ls ++ [] ∷ []) d [] ≡ []
empty_push [] zero h = refl
empty_push [] (suc d) h = refl
empty_push (l ∷ ls) zero h = h
empty_push (l ∷ ls) (suc d) h = empty_push ls d h

pub empty_start : (ls : List (List ℕ)) → ls ≡ [] → AreEmpty ls 0
empty_start ls e = record { count = ap length e; each = λ d. ap (λ l. get_or l d []) e }

pub empty_next : (ls more : List (List ℕ)) (n : ℕ) → more ≡ ls ++ [] ∷ [] → AreEmpty ls n → AreEmpty more (n + 1)
empty_next ls more n e h = record {
  count = ap length e ∙ (let l = length-append ls ([] ∷ []) in let c = h.count in omega arith);
  each = λ d. ap (λ l. get_or l d []) e ∙ empty_push ls d (h.each d);
}

pub owned_start : (names : List (List Mention)) (places : List ℕ) (ls : List (List ℕ)) → AreEmpty ls (length names) → OwnedReach names places 0 places ls
owned_start names places ls e = record { count = e.count; each = λ d lt. ap (λ l. l ++ owned_places names d 0 places) (e.each d) }

same_number : (a b : ℕ) → (a == b) ≡ true → a ≡ b
same_number a b h = grind (arith, nat_tests)

other_number : (a b : ℕ) → (a == b) ≡ false → a ≢ b
other_number a b h = λ e. let f = e in grind (arith, nat_tests)

-- one place more belongs to its owner
pub owned_next : (names : List (List Mention)) (places rest more : List ℕ) (i at owner : ℕ) (ls new : List (List ℕ)) → rest ≡ at ∷ more → owner ≡ first_domain names way.PortSignal i → owner < length ls → new ≡ set ls owner (get_or ls owner [] ++ at ∷ [])
    → OwnedReach names places i rest ls → OwnedReach names places (i + 1) more new
owned_next names places rest more i at owner ls new e o lt s r = record {
  count = ap length s ∙ length-set ls owner (get_or ls owner [] ++ at ∷ []) ∙ r.count;
  each = λ d le. ap (λ l. get_or l d [] ++ owned_places names d (i + 1) more) s ∙ ap (λ k. get_or (set ls owner (get_or ls owner [] ++ at ∷ [])) d [] ++ owned_places names d k more) one ∙ step d le (first_domain names way.PortSignal i == d) refl ∙ ap (λ l. get_or ls d [] ++ owned_places names d i l) (sym e) ∙ r.each d le;
}
  where
    one : i + 1 ≡ suc i
    one = omega arith

    step : (d : ℕ) → d < length names → (b : Bool) → (first_domain names way.PortSignal i == d) ≡ b
        → get_or (set ls owner (get_or ls owner [] ++ at ∷ [])) d [] ++ owned_places names d (suc i) more ≡ get_or ls d [] ++ cond (first_domain names way.PortSignal i == d) (at ∷ owned_places names d (suc i) more) (owned_places names d (suc i) more)
    step d le true h =
        let same : owner ≡ d = o ∙ same_number (first_domain names way.PortSignal i) d h in
        ap (λ k. get_or (set ls k (get_or ls k [] ++ at ∷ [])) d [] ++ owned_places names d (suc i) more) same
        ∙ ap (λ l. l ++ owned_places names d (suc i) more) (get_or-set_same ls d (get_or ls d [] ++ at ∷ []) [] (let c = r.count in omega arith))
        ∙ append_assoc (get_or ls d []) (at ∷ []) (owned_places names d (suc i) more)
        ∙ ap (λ b. get_or ls d [] ++ cond b (at ∷ owned_places names d (suc i) more) (owned_places names d (suc i) more)) (sym h)
    step d le false h =
        ap (λ l. l ++ owned_places names d (suc i) more) (get_or-set_other ls owner d (get_or ls owner [] ++ at ∷ []) [] (λ x. other_number (first_domain names way.PortSignal i) d h (sym (x ∙ o))))
        ∙ ap (λ b. get_or ls d [] ++ cond b (at ∷ owned_places names d (suc i) more) (owned_places names d (suc i) more)) (sym h)

pub owned_past : (names : List (List Mention)) (places rest more : List ℕ) (i at owner : ℕ) (ls : List (List ℕ)) → rest ≡ at ∷ more → owner ≡ first_domain names way.PortSignal i → length ls ≤ owner → OwnedReach names places i rest ls → OwnedReach names places (i + 1) more ls
owned_past names places rest more i at owner ls e o le r = record {
  count = r.count;
  each = λ d lt. ap (λ k. get_or ls d [] ++ owned_places names d k more) one ∙ step d lt (first_domain names way.PortSignal i == d) refl ∙ ap (λ l. get_or ls d [] ++ owned_places names d i l) (sym e) ∙ r.each d lt;
}
  where
    one : i + 1 ≡ suc i
    one = omega arith

    step : (d : ℕ) → d < length names → (b : Bool) → (first_domain names way.PortSignal i == d) ≡ b
        → get_or ls d [] ++ owned_places names d (suc i) more ≡ get_or ls d [] ++ cond (first_domain names way.PortSignal i == d) (at ∷ owned_places names d (suc i) more) (owned_places names d (suc i) more)
    step d lt true h = let same : owner ≡ d = o ∙ same_number (first_domain names way.PortSignal i) d h in let c = r.count in absurd (omega arith)
    step d lt false h = ap (λ b. get_or ls d [] ++ cond b (at ∷ owned_places names d (suc i) more) (owned_places names d (suc i) more)) (sym h)

pub owned_end : (names : List (List Mention)) (places : List ℕ) (i : ℕ) (ls : List (List ℕ)) → OwnedReach names places i [] ls → AreOwned names places ls
owned_end names places i ls r = record { count = r.count; each = λ d lt. sym (nothing (get_or ls d [])) ∙ r.each d lt }
  where
    nothing : (l : List ℕ) → l ++ [] ≡ l
    nothing [] = refl
    nothing (x ∷ l) = ap (λ k. x ∷ k) (nothing l)

at_most : (a b : ℕ) → nat_lt a b ≡ false → b ≤ a
at_most a b h = grind (arith, nat_tests)

less : (a b : ℕ) → nat_lt a b ≡ true → a < b
less a b h = grind (arith, nat_tests)

pub owned_more : (names : List (List Mention)) (places : List ℕ) (i d owner n : ℕ) (ls new : List (List ℕ)) → i < length places → n ≡ i → owner ≡ first_domain names way.PortSignal n → new ≡ with_place ls owner (get_or places i d)
    → OwnedReach names places i (drop i places) ls → OwnedReach names places (i + 1) (drop (i + 1) places) new
owned_more names places i d owner n ls new lt e o s r = by (nat_lt owner (length ls)) refl
  where
    rest : drop i places ≡ get_or places i d ∷ drop (i + 1) places
    rest = rest_of places i (get_or places i d) lt (get_or_any places i d (get_or places i d) lt)

    owned : owner ≡ first_domain names way.PortSignal i
    owned = o ∙ ap (first_domain names way.PortSignal) e

    by : (b : Bool) → nat_lt owner (length ls) ≡ b → OwnedReach names places (i + 1) (drop (i + 1) places) new
    by true h = owned_next names places (drop i places) (drop (i + 1) places) i (get_or places i d) owner ls new rest owned (less owner (length ls) h) (s ∙ ap (λ b. cond b (set ls owner (get_or ls owner [] ++ get_or places i d ∷ [])) ls) h) r
    by false h = subst (λ l. OwnedReach names places (i + 1) (drop (i + 1) places) l) (sym (s ∙ ap (λ b. cond b (set ls owner (get_or ls owner [] ++ get_or places i d ∷ [])) ls) h)) (owned_past names places (drop i places) (drop (i + 1) places) i (get_or places i d) owner ls rest owned (at_most owner (length ls) h) r)

pub owned_at : (names : List (List Mention)) (places : List ℕ) (lists : List (Vec ℕ Global)) (i : ℕ) (v : Vec ℕ Global) → i < length names → v ≡ get_or lists i v → AreOwned names places (place_lists lists) → v.items ≡ owned_places names i 0 places
owned_at names places lists i v lt is o = ap (λ x. x.items) is ∙ sym (get_or-map (λ l. l.items) lists i v [] (below_lists lists i (let c = o.count in omega arith))) ∙ o.each i lt
