-- The first domains that use numbers.
use Rattle.std.proofs.Common.{◌≡◌, ℕ, suc, zero, ◌+◌, ◌≤◌, ◌<◌, Bool, true, false, ◌||◌, cond, nat_lt, List, [], ◌∷◌, ◌++◌, length, take, Some, None, Vec, Global, ap, refl, sym, ◌∙◌, arith}
use Rattle.std.specs.Prelude.{Option, is_some, slice_index_or}
use Rattle.std.specs.List.{list_any}
use Rattle.std.proofs.lemmas.List.{length-take-le, length-map}
use Rattle.std.proofs.lemmas.Bool.Decides.{nat_tests}
use Rattle.sj_names.specs.declared.mention.Mention.{Mention}
use Rattle.sj_names.specs.declared.mention.Use.{Use}
use Rattle.sj_names.specs.declared.uses.FirstUses.{FirstUses}
use Rattle.sj_names.specs.definitions.Failures.{uses, first_with}
use Rattle.sj_names.proofs.LeastLemmas.{lists_taken}
use Rattle.sj_names.specs.FirstDomains.{or_where, UsesAll, AreFirst, lists, is_earlier}

first_push : (t : List Mention → Bool) (d : ℕ) (xs : List (List Mention)) (x : List Mention) → or_where (first_with t d xs) (t x) (d + length xs) ≡ first_with t d (xs ++ x ∷ [])
first_push t d [] x = let e : d + 0 ≡ d = omega arith in ap (λ n. cond (t x) (Some n) None) e
first_push t d (y ∷ ys) x = let e : d + suc (length ys) ≡ suc d + length ys = omega arith in step (t y) ∙ ap (λ o. cond (t y) (Some d) o) (ap (or_where (first_with t (suc d) ys) (t x)) e ∙ first_push t (suc d) ys x)
  where
    step : (b : Bool) → or_where (cond b (Some d) (first_with t (suc d) ys)) (t x) (d + suc (length ys)) ≡ cond b (Some d) (or_where (first_with t (suc d) ys) (t x) (d + suc (length ys)))
    step true = refl
    step false = refl

pub first_next : (way : Use) (a b : FirstUses) (domains : List (Vec Mention Global)) (i : ℕ) (x : Vec Mention Global) → i < length domains → x ≡ slice_index_or domains i x → AreFirst a way (take i (lists domains)) → UsesAll a b way x.items i → AreFirst b way (take (i + 1) (lists domains))
first_next way a b domains i x lt is f u = λ n.
    u n ∙ ap (λ o. or_where o (uses way n x.items) i) (f n)
    ∙ ap (or_where (first_with (uses way n) 0 (take i (lists domains))) (uses way n x.items)) (sym (length_is))
    ∙ first_push (uses way n) 0 (take i (lists domains)) x.items
    ∙ ap (first_with (uses way n) 0) (sym (lists_taken domains i x lt is))
  where
    length_is : 0 + length (take i (lists domains)) ≡ i
    length_is = let l = length-take-le i (lists domains) (let m = length-map domains (λ d. d.items) in omega arith) in omega arith

-- the first one that passes stands before k where one before k passes

first_least : (t : List Mention → Bool) (d : ℕ) (xs : List (List Mention)) (n : ℕ) → first_with t d xs ≡ Some n → d ≤ n
first_least t d [] n h = cc
first_least t d (x ∷ xs) n h = step (t x) h (λ k. first_least t (suc d) xs n k)
  where
    step : (b : Bool) → cond b (Some d) (first_with t (suc d) xs) ≡ Some n → (first_with t (suc d) xs ≡ Some n → suc d ≤ n) → d ≤ n
    step true h k = let e : d ≡ n = cc in omega arith
    step false h k = let l = k h in omega arith

any_taken : (t : List Mention → Bool) (d k : ℕ) (xs : List (List Mention)) → is_earlier (first_with t d xs) (d + k) ≡ list_any t (take k xs)
any_taken t d zero xs = none (first_with t d xs) refl
  where
    none : (o : Option ℕ) → first_with t d xs ≡ o → is_earlier o (d + 0) ≡ false
    none None h = refl
    none (Some n) h = let l = first_least t d xs n h in grind (arith, nat_tests)
any_taken t d (suc k) [] = refl
any_taken t d (suc k) (x ∷ xs) = let e : d + suc k ≡ suc d + k = omega arith in step (t x) (ap (is_earlier (first_with t (suc d) xs)) e ∙ any_taken t (suc d) k xs)
  where
    here : nat_lt d (d + suc k) ≡ true
    here = grind (arith, nat_tests)

    step : (b : Bool) → is_earlier (first_with t (suc d) xs) (d + suc k) ≡ list_any t (take k xs) → is_earlier (cond b (Some d) (first_with t (suc d) xs)) (d + suc k) ≡ (b || list_any t (take k xs))
    step true h = here
    step false h = h

pub any_earlier : (t : List Mention → Bool) (k : ℕ) (xs : List (List Mention)) → is_earlier (first_with t 0 xs) k ≡ list_any t (take k xs)
any_earlier t k xs = let e : 0 + k ≡ k = omega arith in ap (is_earlier (first_with t 0 xs)) (sym e) ∙ any_taken t 0 k xs

-- the first domain of a use tells whether an earlier one has it

pub earlier_some : (way : Use) (n k d : ℕ) (xs : List (List Mention)) → Some d ≡ first_with (uses way n) 0 xs → nat_lt d k ≡ list_any (uses way n) (take k xs)
earlier_some way n k d xs h = ap (λ o. is_earlier o k) h ∙ any_earlier (uses way n) k xs

pub earlier_none : (way : Use) (n k : ℕ) (xs : List (List Mention)) → None ≡ first_with (uses way n) 0 xs → false ≡ list_any (uses way n) (take k xs)
earlier_none way n k xs h = ap (λ o. is_earlier o k) h ∙ any_earlier (uses way n) k xs

found_any : (t : List Mention → Bool) (d : ℕ) (xs : List (List Mention)) → is_some (first_with t d xs) ≡ list_any t xs
found_any t d [] = refl
found_any t d (x ∷ xs) = step (t x) (found_any t (suc d) xs)
  where
    step : (b : Bool) → is_some (first_with t (suc d) xs) ≡ list_any t xs → is_some (cond b (Some d) (first_with t (suc d) xs)) ≡ (b || list_any t xs)
    step true h = refl
    step false h = h

pub used_where_first : (way : Use) (n : ℕ) (xs : List (List Mention)) (o : Option ℕ) → o ≡ first_with (uses way n) 0 xs → is_some o ≡ list_any (uses way n) xs
used_where_first way n xs o h = ap is_some h ∙ found_any (uses way n) 0 xs
