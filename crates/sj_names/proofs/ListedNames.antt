-- Names in lists, and the domains in whose lists they stand.
use Rattle.std.proofs.Common.{◌≡◌, ◌⊎◌, ℕ, suc, ◌+◌, ◌<◌, ◌≤◌, Bool, true, false, ◌||◌, ◌&&◌, cond, List, [], ◌∷◌, ◌++◌, length, Some, inl, inr, ap, refl, sym, ◌∙◌, arith}
use Rattle.std.specs.Prelude.{unwrap_or}
use Rattle.std.specs.List.{list_any, list_all, flat_map}
use Rattle.sj_names.specs.declared.mention.Mention.{Mention}
use Rattle.sj_names.specs.definitions.Failures.{first_with}

abbrev pub IsIn : Mention → List Mention → Type 0
IsIn m [] = ⊥
IsIn m (n ∷ ns) = (m ≡ n) ⊎ IsIn m ns

-- these names are those of the domain of this number, where domains are counted from k on
abbrev pub Stands : ℕ → ℕ → List Mention → List (List Mention) → Type 0
Stands k d ms [] = ⊥
Stands k d ms (x ∷ xs) = ((d ≡ k) × (ms ≡ x)) ⊎ Stands (suc k) d ms xs

-- lists of nothing

pub empty_first : {X : Type 0} (xs ys : List X) → xs ++ ys ≡ [] → xs ≡ []
empty_first [] ys h = refl
empty_first (x ∷ xs) ys h = absurd (cc)

pub empty_second : {X : Type 0} (xs ys : List X) → xs ++ ys ≡ [] → ys ≡ []
empty_second [] ys h = h
empty_second (x ∷ xs) ys h = absurd (cc)

pub nothing_of : {X : Type 0} (f : Mention → List X) (ms : List Mention) (m : Mention) → flat_map f ms ≡ [] → IsIn m ms → f m ≡ []
nothing_of f [] m h i = absurd i
nothing_of f (n ∷ ns) m h (inl e) = ap f e ∙ empty_first (f n) (flat_map f ns) h
nothing_of f (n ∷ ns) m h (inr i) = nothing_of f ns m (empty_second (f n) (flat_map f ns) h) i

-- tests of all names, and of one

pub all_names : (p : Mention → Bool) (ms : List Mention) → ((m : Mention) → IsIn m ms → p m ≡ true) → list_all p ms ≡ true
all_names p [] h = refl
all_names p (m ∷ ms) h = ap (λ b. b && list_all p ms) (h m (inl refl)) ∙ all_names p ms (λ n i. h n (inr i))

or_true : (b : Bool) → (b || true) ≡ true
or_true true = refl
or_true false = refl

pub one_of_names : (p : Mention → Bool) (ms : List Mention) (m : Mention) → IsIn m ms → p m ≡ true → list_any p ms ≡ true
one_of_names p [] m i h = absurd i
one_of_names p (n ∷ ns) m (inl e) h = ap (λ b. b || list_any p ns) (sym (ap p e) ∙ h)
one_of_names p (n ∷ ns) m (inr i) h = ap (λ b. p n || b) (one_of_names p ns m i h) ∙ or_true (p n)

-- the first domain that passes

pub first_here : (p : List Mention → Bool) (k d : ℕ) (before : List (List Mention)) (x : List Mention) (after : List (List Mention)) → list_any p before ≡ false → p x ≡ true → d ≡ k + length before → first_with p k (before ++ x ∷ after) ≡ Some d
first_here p k d [] x after h t e = ap (λ b. cond b (Some k) (first_with p (suc k) after)) t ∙ ap Some (let f = e in omega arith)
first_here p k d (y ∷ ys) x after h t e = split (p y) refl (λ g. first_here p (suc k) d ys x after g t (omega arith))
  where
    split : (b : Bool) → p y ≡ b → (list_any p ys ≡ false → first_with p (suc k) (ys ++ x ∷ after) ≡ Some d) → cond (p y) (Some k) (first_with p (suc k) (ys ++ x ∷ after)) ≡ Some d
    split true g r = let f : (true || list_any p ys) ≡ false = ap (λ b. b || list_any p ys) (sym g) ∙ h in absurd (cc)
    split false g r = ap (λ b. cond b (Some k) (first_with p (suc k) (ys ++ x ∷ after))) g ∙ r (ap (λ b. b || list_any p ys) (sym g) ∙ h)

-- a domain that passes and is the first one
pub record IsFirst (p : List Mention → Bool) (k : ℕ) (domains : List (List Mention)) : Type 0 where
  pub domain : ℕ
  pub names : List Mention
  pub stands : Stands k domain names domains
  pub passes : p names ≡ true
  pub first : first_with p k domains ≡ Some domain

pub first_found : (p : List Mention → Bool) (k : ℕ) (domains : List (List Mention)) → list_any p domains ≡ true → IsFirst p k domains
first_found p k [] h = absurd (cc)
first_found p k (x ∷ xs) h = split (p x) refl (λ g. first_found p (suc k) xs g)
  where
    split : (b : Bool) → p x ≡ b → (list_any p xs ≡ true → IsFirst p (suc k) xs) → IsFirst p k (x ∷ xs)
    split true g next = record { domain = k; names = x; stands = inl (refl, refl); passes = g; first = ap (λ b. cond b (Some k) (first_with p (suc k) xs)) g }
    split false g next =
        let r = next (ap (λ b. b || list_any p xs) (sym g) ∙ h) in
        record { domain = r.domain; names = r.names; stands = inr r.stands; passes = r.passes; first = ap (λ b. cond b (Some k) (first_with p (suc k) xs)) g ∙ r.first }

first_below_from : (p : List Mention → Bool) (k most : ℕ) (domains : List (List Mention)) → k + length domains ≤ most → 1 ≤ most → unwrap_or (first_with p k domains) 0 < most
first_below_from p k most [] l s = omega arith
first_below_from p k most (x ∷ xs) l s = split (p x) (first_below_from p (suc k) most xs (omega arith) s)
  where
    split : (b : Bool) → unwrap_or (first_with p (suc k) xs) 0 < most → unwrap_or (cond b (Some k) (first_with p (suc k) xs)) 0 < most
    split true r = omega arith
    split false r = r

pub first_below : (p : List Mention → Bool) (domains : List (List Mention)) → 1 ≤ length domains → unwrap_or (first_with p 0 domains) 0 < length domains
first_below p domains s = first_below_from p 0 (length domains) domains (omega arith) s

-- a domain has one list
past : (k d : ℕ) (ms : List Mention) (domains : List (List Mention)) → Stands k d ms domains → k ≤ d
past k d ms [] s = absurd s
past k d ms (x ∷ xs) (inl (e, f)) = omega arith
past k d ms (x ∷ xs) (inr s) = let p = past (suc k) d ms xs s in omega arith

pub same_names : (k d : ℕ) (ms ns : List Mention) (domains : List (List Mention)) → Stands k d ms domains → Stands k d ns domains → ms ≡ ns
same_names k d ms ns [] s t = absurd s
same_names k d ms ns (x ∷ xs) (inl (e, f)) (inl (g, h)) = f ∙ sym h
same_names k d ms ns (x ∷ xs) (inl (e, f)) (inr t) = let p = past (suc k) d ns xs t in absurd (omega arith)
same_names k d ms ns (x ∷ xs) (inr s) (inl (g, h)) = let p = past (suc k) d ms xs s in absurd (omega arith)
same_names k d ms ns (x ∷ xs) (inr s) (inr t) = same_names (suc k) d ms ns xs s t
