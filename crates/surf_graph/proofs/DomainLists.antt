-- Lists of numbers: their places, what the frame holds for them, and wires for them.
use Rattle.std.proofs.Common.{◌≡◌, ℕ, zero, suc, ◌+◌, ◌<◌, ◌==◌, ℤ, pos, Bool, true, false, ◌||◌, cond, List, [], ◌∷◌, ◌++◌, length, map, get_or, refl, sym, ap, ◌∙◌, arith}
use Rattle.std.proofs.lemmas.Bool.{true≢false, or_left, or_right, eq-eqb, eqb-true}
use Rattle.kernel_terms.specs.TableEntries.{numbers_where}
use Rattle.kernel_rules.specs.definitions.Registers.{held_for}
use Rattle.surf_graph.specs.definitions.Formulas.{Satisfies}
use Rattle.surf_graph.specs.definitions.Copies.{has}
use Rattle.surf_graph.specs.definitions.DomainCopies.{place_in, wire_for, places_read}

-- lists one behind the other

pub get_front : (xs ys : List ℕ) (i : ℕ) → i < length xs → get_or (xs ++ ys) i 0 ≡ get_or xs i 0
get_front [] ys i less = absurd (omega (arith, less))
get_front (x ∷ xs) ys zero less = refl
get_front (x ∷ xs) ys (suc i) less = get_front xs ys i (omega (arith, less))

pub get_back : (xs ys : List ℕ) (n i : ℕ) → n ≡ length xs + i → get_or (xs ++ ys) n 0 ≡ get_or ys i 0
get_back [] ys n i e = ap (λ k. get_or ys k 0) (omega (arith, e))
get_back (x ∷ xs) ys zero i e = absurd (omega (arith, e))
get_back (x ∷ xs) ys (suc n) i e = get_back xs ys n i (omega (arith, e))

-- numbers of entries

above : {X : Type 0} (is : X → Bool) (n : ℕ) (xs : List X) (k : ℕ) → has (numbers_where is n xs) k ≡ true → n < suc k
above is n [] k h = absurd (true≢false (sym h))
above is n (x ∷ xs) k h = by_test (is x) (n == k) refl (λ e. let a = above is (suc n) xs k e in omega (arith, a)) h
  where
    by_test : (b c : Bool) → (n == k) ≡ c → (has (numbers_where is (suc n) xs) k ≡ true → n < suc k) → has (cond b (n ∷ numbers_where is (suc n) xs) (numbers_where is (suc n) xs)) k ≡ true → n < suc k
    by_test true true e rest g = let s = eqb-true n k e in omega (arith, s)
    by_test true false e rest g = rest (sym (ap (λ z. z || has (numbers_where is (suc n) xs) k) e) ∙ g)
    by_test false c e rest g = rest g

pub has_number : {X : Type 0} (is : X → Bool) (n : ℕ) (xs : List X) (past : X) (i k : ℕ) → k ≡ n + i → i < length xs → is (get_or xs i past) ≡ true → has (numbers_where is n xs) k ≡ true
has_number is n [] past i k e less h = absurd (omega (arith, less))
has_number is n (x ∷ xs) past zero k e less h =
    let N = numbers_where is (suc n) xs in
    ap (λ b. has (cond b (n ∷ N) N) k) h ∙ or_left (n == k) (has N k) (eq-eqb n k (omega (arith, e)))
has_number is n (x ∷ xs) past (suc i) k e less h = by_test (is x) (has_number is (suc n) xs past i k (omega (arith, e)) (omega (arith, less)) h)
  where
    by_test : (b : Bool) → has (numbers_where is (suc n) xs) k ≡ true → has (cond b (n ∷ numbers_where is (suc n) xs) (numbers_where is (suc n) xs)) k ≡ true
    by_test true g = or_right (n == k) (has (numbers_where is (suc n) xs) k) g
    by_test false g = g

-- an entry past the end has no such number
pub within_table : {X : Type 0} (is : X → Bool) (xs : List X) (past : X) (i : ℕ) → is past ≡ false → is (get_or xs i past) ≡ true → i < length xs
within_table is [] past i e h = absurd (true≢false (sym h ∙ e))
within_table is (x ∷ xs) past zero e h = omega arith
within_table is (x ∷ xs) past (suc i) e h = let l = within_table is xs past i e h in omega (arith, l)

pub number_has : {X : Type 0} (is : X → Bool) (n : ℕ) (xs : List X) (past : X) (i k : ℕ) → k ≡ n + i → has (numbers_where is n xs) k ≡ true → is (get_or xs i past) ≡ true
number_has is n [] past i k e h = absurd (true≢false (sym h))
number_has is n (x ∷ xs) past zero k e h = by_test (is x) h
  where
    by_test : (b : Bool) → has (cond b (n ∷ numbers_where is (suc n) xs) (numbers_where is (suc n) xs)) k ≡ true → b ≡ true
    by_test true g = refl
    by_test false g = let a = above is (suc n) xs k g in absurd (omega (arith, a, e))
number_has is n (x ∷ xs) past (suc i) k e h = number_has is (suc n) xs past i k (omega (arith, e)) (by_test (is x) (n == k) refl h)
  where
    by_test : (b c : Bool) → (n == k) ≡ c → has (cond b (n ∷ numbers_where is (suc n) xs) (numbers_where is (suc n) xs)) k ≡ true → has (numbers_where is (suc n) xs) k ≡ true
    by_test true true q g = let s = eqb-true n k q in absurd (omega (arith, s, e))
    by_test true false q g = sym (ap (λ z. z || has (numbers_where is (suc n) xs) k) q) ∙ g
    by_test false c q g = g

-- what registers hold

pub held_at : (is : List ℕ) (n : ℕ) (f : ℕ → ℤ) (k : ℕ) → has is k ≡ true → held_for is n f k ≡ f (n + place_in is k)
held_at [] n f k h = absurd (true≢false (sym h))
held_at (i ∷ is) n f k h = by_test (i == k) h (held_at is (suc n) f k)
  where
    by_test : (b : Bool) → b || has is k ≡ true → (has is k ≡ true → held_for is (suc n) f k ≡ f (suc n + place_in is k)) → cond b (f n) (held_for is (suc n) f k) ≡ f (n + cond b 0 (suc (place_in is k)))
    by_test true g rest = ap f (omega arith)
    by_test false g rest = rest g ∙ ap f (omega arith)

pub not_held : (is : List ℕ) (n : ℕ) (f : ℕ → ℤ) (k : ℕ) → has is k ≡ false → held_for is n f k ≡ pos 0
not_held [] n f k h = refl
not_held (i ∷ is) n f k h = by_test (i == k) h (not_held is (suc n) f k)
  where
    by_test : (b : Bool) → b || has is k ≡ false → (has is k ≡ false → held_for is (suc n) f k ≡ pos 0) → cond b (f n) (held_for is (suc n) f k) ≡ pos 0
    by_test true g rest = absurd (true≢false g)
    by_test false g rest = rest g

-- registers that have the values of wires, one each
pub held_told : (w : ℕ → ℤ) (is : List ℕ) (g : ℕ → ℕ) (n : ℕ) (r : ℕ → ℤ) (x : ℕ)
    → ((i : ℕ) → i < length is → r (n + i) ≡ w (get_or (map g is) i 0)) → held_for is n r x ≡ cond (has is x) (w (g x)) (pos 0)
held_told w [] g n r x h = refl
held_told w (i ∷ is) g n r x h =
    by_test (i == x) refl (ap r (omega arith) ∙ h 0 (omega arith))
    (held_told w is g (suc n) r x (λ j less. ap r (omega arith) ∙ h (suc j) (omega (arith, less))))
  where
    by_test : (b : Bool) → (i == x) ≡ b → r n ≡ w (g i) → held_for is (suc n) r x ≡ cond (has is x) (w (g x)) (pos 0)
        → cond b (r n) (held_for is (suc n) r x) ≡ cond (b || has is x) (w (g x)) (pos 0)
    by_test true e here rest = here ∙ ap (λ j. w (g j)) (eqb-true i x e)
    by_test false e here rest = rest

-- wires that are places of the frame
pub read_places : (f w : ℕ → ℤ) (is : List ℕ) (n k x : ℕ) → w 0 ≡ pos 0 → Satisfies f w (places_read is n k) → w (wire_for is n x) ≡ held_for is k f x
read_places f w [] n k x z h = z
read_places f w (i ∷ is) n k x z h = by_test (i == x) h.0 (read_places f w is (suc n) (suc k) x z h.1)
  where
    by_test : (b : Bool) → w n ≡ f k → w (wire_for is (suc n) x) ≡ held_for is (suc k) f x → w (cond b n (wire_for is (suc n) x)) ≡ cond b (f k) (held_for is (suc k) f x)
    by_test true here rest = here
    by_test false here rest = rest
