-- The least failure, one part of a list after another.
use Rattle.std.proofs.Common.{◌≡◌, ℕ, zero, suc, ◌+◌, ◌<◌, not, ◌&&◌, List, [], ◌∷◌, ◌++◌, length, take, drop, get_or, Vec, Global, add-one, ap, refl, sym, ◌∙◌, arith}
use Rattle.std.specs.Prelude.{Option, slice_index_or}
use Rattle.std.specs.List.{flat_map, list_any, take-map, drop-map}
use Rattle.std.proofs.Math.Seq.{drop-cons}
use Rattle.std.proofs.lemmas.List.{map_more}
use Rattle.sj_names.specs.declared.mention.Mention.{Mention}
use Rattle.sj_names.specs.declared.mention.Use.TheVariants.{PortSignal, SendingEnd, Receive}
use Rattle.sj_names.specs.declared.failure.Failure.{Failure}
use Rattle.sj_names.specs.declared.failure.FailureKind.TheVariants.{ChannelEnds}
use Rattle.sj_names.specs.definitions.Failures.{least_of, lesser, where_true, failure_at, number_in, uses, shared_failure, shared_failures, domain_end_failures, end_failures, unjoined_failures, own_failures, owned_places, limit_failures, domain_limit_failures, too_many}
use Rattle.sj_names.specs.FirstDomains.{lists}

pub least_append : (o : Option Failure) (xs ys : List Failure) → least_of o (xs ++ ys) ≡ least_of (least_of o xs) ys
least_append o [] ys = refl
least_append o (x ∷ xs) ys = least_append (lesser o x) xs ys

pub rest_of : {X : Type 0} (xs : List X) (i : ℕ) (x : X) → i < length xs → x ≡ slice_index_or xs i x → drop i xs ≡ x ∷ drop (i + 1) xs
rest_of xs i x lt is = rw (add-one, drop-cons xs i x lt) (ap (λ y. y ∷ drop (suc i) xs) (sym is))

pub get_or_any : {X : Type 0} (xs : List X) (i : ℕ) (d e : X) → i < length xs → get_or xs i d ≡ get_or xs i e
get_or_any [] i d e lt = absurd (omega arith)
get_or_any (x ∷ xs) zero d e lt = refl
get_or_any (x ∷ xs) (suc i) d e lt = get_or_any xs i d e (omega arith)

module _ (domains : List (Vec Mention Global)) (i : ℕ) (x : Vec Mention Global) (lt : i < length domains) (is : x ≡ slice_index_or domains i x) where
  pub lists_taken : take (i + 1) (lists domains) ≡ take i (lists domains) ++ x.items ∷ []
  lists_taken =
      take-map (λ d. d.items) (i + 1) domains ∙ map_more (λ d. d.items) domains i x lt ∙ ap (λ l. l ++ (get_or domains i x).items ∷ []) (sym (take-map (λ d. d.items) i domains))
      ∙ ap (λ v. take i (lists domains) ++ v.items ∷ []) (sym is)

  lists_dropped : drop i (lists domains) ≡ x.items ∷ drop (i + 1) (lists domains)
  lists_dropped = drop-map (λ d. d.items) i domains ∙ ap lists (rest_of domains i x lt is) ∙ ap (λ l. x.items ∷ l) (sym (drop-map (λ d. d.items) (i + 1) domains))

  pub shared_next : (a b c : Option Failure) → a ≡ least_of b (shared_failures (take i (lists domains)) (drop i (lists domains)))
      → c ≡ least_of b (flat_map (λ m. shared_failure (take i (lists domains)) m.at (number_in PortSignal m)) x.items) → a ≡ least_of c (shared_failures (take (i + 1) (lists domains)) (drop (i + 1) (lists domains)))
  shared_next a b c h s =
      h ∙ ap (λ l. least_of b (shared_failures (take i (lists domains)) l)) lists_dropped
      ∙ least_append b (flat_map (λ m. shared_failure (take i (lists domains)) m.at (number_in PortSignal m)) x.items) (shared_failures (take i (lists domains) ++ x.items ∷ []) (drop (i + 1) (lists domains)))
      ∙ ap (λ o. least_of o (shared_failures (take i (lists domains) ++ x.items ∷ []) (drop (i + 1) (lists domains)))) (sym s) ∙ ap (λ l. least_of c (shared_failures l (drop (i + 1) (lists domains)))) (sym lists_taken)

  pub ends_next : (a b c : Option Failure) → a ≡ least_of b (end_failures (take i (lists domains)) (drop i (lists domains)))
      → c ≡ least_of b (domain_end_failures (take i (lists domains)) [] x.items) → a ≡ least_of c (end_failures (take (i + 1) (lists domains)) (drop (i + 1) (lists domains)))
  ends_next a b c h s =
      h ∙ ap (λ l. least_of b (end_failures (take i (lists domains)) l)) lists_dropped
      ∙ least_append b (domain_end_failures (take i (lists domains)) [] x.items) (end_failures (take i (lists domains) ++ x.items ∷ []) (drop (i + 1) (lists domains)))
      ∙ ap (λ o. least_of o (end_failures (take i (lists domains) ++ x.items ∷ []) (drop (i + 1) (lists domains)))) (sym s) ∙ ap (λ l. least_of c (end_failures l (drop (i + 1) (lists domains)))) (sym lists_taken)

  -- the failures of the names themselves, and the limits

  pub names_next : (a b c : Option Failure) → a ≡ least_of b (flat_map (flat_map own_failures) (drop i (lists domains))) → c ≡ least_of b (flat_map own_failures x.items) → a ≡ least_of c (flat_map (flat_map own_failures) (drop (i + 1) (lists domains)))
  names_next a b c h s =
      h ∙ ap (λ l. least_of b (flat_map (flat_map own_failures) l)) lists_dropped ∙ least_append b (flat_map own_failures x.items) (flat_map (flat_map own_failures) (drop (i + 1) (lists domains)))
      ∙ ap (λ o. least_of o (flat_map (flat_map own_failures) (drop (i + 1) (lists domains)))) (sym s)

  pub limits_next : (names : List (List Mention)) (places owned : List ℕ) (a b c : Option Failure) → owned ≡ owned_places names i 0 places → a ≡ least_of b (domain_limit_failures names places i (drop i (lists domains))) → c ≡ least_of b (limit_failures owned x.items)
      → a ≡ least_of c (domain_limit_failures names places (i + 1) (drop (i + 1) (lists domains)))
  limits_next names places owned a b c o h s =
      h ∙ ap (λ l. least_of b (domain_limit_failures names places i l)) lists_dropped
      ∙ least_append b (limit_failures (owned_places names i 0 places) x.items) (domain_limit_failures names places (suc i) (drop (i + 1) (lists domains)))
      ∙ ap (λ l. least_of (least_of b (limit_failures l x.items)) (domain_limit_failures names places (suc i) (drop (i + 1) (lists domains)))) (sym o)
      ∙ ap (λ r. least_of r (domain_limit_failures names places (suc i) (drop (i + 1) (lists domains)))) (sym s) ∙ ap (λ k. least_of c (domain_limit_failures names places k (drop (i + 1) (lists domains)))) one
    where
      one : suc i ≡ i + 1
      one = omega arith

pub unjoined_next : (names : List (List Mention)) (places : List ℕ) (i at d n : ℕ) (a b c : Option Failure) → i < length places → at ≡ get_or places i d → n ≡ i → a ≡ least_of b (unjoined_failures names i (drop i places))
    → c ≡ least_of b (where_true (not (list_any (uses SendingEnd n) names && list_any (uses Receive n) names)) (failure_at ChannelEnds at)) → a ≡ least_of c (unjoined_failures names (i + 1) (drop (i + 1) places))
unjoined_next names places i at d n a b c lt is e h s =
    h ∙ ap (λ l. least_of b (unjoined_failures names i l)) (rest_of places i at lt (is ∙ get_or_any places i d at lt))
    ∙ least_append b (where_true (not (list_any (uses SendingEnd i) names && list_any (uses Receive i) names)) (failure_at ChannelEnds at)) (unjoined_failures names (suc i) (drop (i + 1) places))
    ∙ ap (λ k. least_of (least_of b (where_true (not (list_any (uses SendingEnd k) names && list_any (uses Receive k) names)) (failure_at ChannelEnds at))) (unjoined_failures names (suc i) (drop (i + 1) places))) (sym e)
    ∙ ap (λ o. least_of o (unjoined_failures names (suc i) (drop (i + 1) places))) (sym s) ∙ ap (λ k. least_of c (unjoined_failures names k (drop (i + 1) places))) one
  where
    one : suc i ≡ i + 1
    one = omega arith

-- the limits on signals and on variables

pub limits_both : (most more : ℕ) (xs ys : List ℕ) (a b c : Option Failure) → b ≡ least_of a (too_many most xs) → c ≡ least_of b (too_many more ys) → c ≡ least_of a (too_many most xs ++ too_many more ys)
limits_both most more xs ys a b c h k = k ∙ ap (λ o. least_of o (too_many more ys)) h ∙ sym (least_append a (too_many most xs) (too_many more ys))

pub least_then : (a b c : Option Failure) (xs ys : List Failure) → b ≡ least_of a xs → c ≡ least_of b ys → c ≡ least_of a (xs ++ ys)
least_then a b c xs ys h k = k ∙ ap (λ o. least_of o ys) h ∙ sym (least_append a xs ys)

-- eight parts one after another
pub least_of_parts : (a b c d e f g h i : Option Failure) (p q r s t u v w : List Failure) → b ≡ least_of a p → c ≡ least_of b q → d ≡ least_of c r → e ≡ least_of d s → f ≡ least_of e t → g ≡ least_of f u → h ≡ least_of g v → i ≡ least_of h w
    → i ≡ least_of a (p ++ (q ++ (r ++ (s ++ (t ++ (u ++ (v ++ w)))))))
least_of_parts a b c d e f g h i p q r s t u v w h1 h2 h3 h4 h5 h6 h7 h8 =
    least_then a b i p (q ++ (r ++ (s ++ (t ++ (u ++ (v ++ w)))))) h1
    (least_then b c i q (r ++ (s ++ (t ++ (u ++ (v ++ w))))) h2
    (least_then c d i r (s ++ (t ++ (u ++ (v ++ w)))) h3
    (least_then d e i s (t ++ (u ++ (v ++ w))) h4
    (least_then e f i t (u ++ (v ++ w)) h5
    (least_then f g i u (v ++ w) h6
    (least_then g h i v w h7 h8))))))
