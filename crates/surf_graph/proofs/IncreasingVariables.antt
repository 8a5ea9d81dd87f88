-- Increasing lists of variables: two with the same variables are the same list.
use Rattle.std.proofs.Common.{◌≡◌, ℕ, ◌+◌, ◌<◌, ◌≤◌, ◌==◌, Bool, true, false, ◌&&◌, ◌||◌, cond, List, [], ◌∷◌, ◌++◌, refl, sym, ap, ap₂, ◌∙◌, subst, arith}
use Rattle.std.specs.Prelude.{nat_lt, Some, None, Option, map, is_some}
use Rattle.std.specs.BTreeMap.{BTreeMap, get, keys, IsOrdered, is_at}
use Rattle.std.specs.List.{filter, AllByRecursion}
use Rattle.std.specs.List.Sorted.{IsStrictlySortedBy}
use Rattle.std.specs.Map.{keys_of, lookup}
use Rattle.std.specs.Ordering.{nat_cmp}
use Rattle.std.specs.declared.cmp.Ordering.TheVariants.{Less}
use Rattle.std.proofs.lemmas.Bool.Decides.{nat_tests}
use Rattle.std.proofs.lemmas.List.Kept.{IsStrictlySortedBy-filter}
use Rattle.surf_graph.specs.definitions.Copies.{has, put_once, both_write}
use Rattle.surf_graph.proofs.Alternatives.{has_both_write}
use Rattle.surf_graph.proofs.Parts.{by_cases}

-- each of the list is above x
abbrev pub Above : ℕ → List ℕ → Type 0
Above x [] = Unit {0}
Above x (y ∷ ys) = (x < y) × Above x ys

abbrev pub Rises : List ℕ → Type 0
Rises [] = Unit {0}
Rises (x ∷ xs) = Above x xs × Rises xs

less_of : (x y : ℕ) → nat_cmp x y ≡ Less → x < y
less_of x y h = grind (arith, nat_tests)

above_all : (x : ℕ) (ys : List ℕ) → AllByRecursion (λ y. nat_cmp x y ≡ Less) ys → Above x ys
above_all x [] h = tt
above_all x (y ∷ ys) h = (less_of x y h.0, above_all x ys h.1)

pub rises : (xs : List ℕ) → IsStrictlySortedBy nat_cmp xs → Rises xs
unfolding IsStrictlySortedBy
rises [] h = tt
rises (x ∷ xs) h = (above_all x xs h.0, rises xs h.1)

above_less : (x y : ℕ) (ys : List ℕ) → x ≤ y → Above y ys → Above x ys
above_less x y [] le h = tt
above_less x y (z ∷ zs) le h = let l = h.0 in ((let k : x < z = omega (arith, le, l) in k), above_less x y zs le h.1)

apart : (x y : ℕ) → x < y → (y == x) ≡ false
apart x y h = grind (arith, nat_tests)

pub none_of : (a b : Bool) → a ≡ false → b ≡ false → a || b ≡ false
none_of a b h k = ap (λ i. i || b) h ∙ k

pub above_lacks : (x : ℕ) (ys : List ℕ) → Above x ys → has ys x ≡ false
above_lacks x [] h = refl
above_lacks x (y ∷ ys) h = none_of (y == x) (has ys x) (apart x y h.0) (above_lacks x ys h.1)

-- a variable more

above_if : (b : Bool) (k : ℕ) (xs ys : List ℕ) → Above k xs → Above k ys → Above k (cond b xs ys)
above_if true k xs ys h g = h
above_if false k xs ys h g = g

rises_if : (b : Bool) (xs ys : List ℕ) → (b ≡ true → Rises xs) → (b ≡ false → Rises ys) → Rises (cond b xs ys)
rises_if true xs ys h g = h refl
rises_if false xs ys h g = g refl

above_put : (k x : ℕ) (zs : List ℕ) → k < x → Above k zs → Above k (put_once x zs)
above_put k x [] lt h = (lt, tt)
above_put k x (z ∷ zs) lt h =
    above_if (nat_lt x z) k (x ∷ (z ∷ zs)) (z ∷ cond (x == z) zs (put_once x zs)) (lt, h)
    (h.0, above_if (x == z) k zs (put_once x zs) h.1 (above_put k x zs lt h.1))

less_test : (x z : ℕ) → nat_lt x z ≡ true → x < z
less_test x z h = grind (arith, nat_tests)

greater_test : (x z : ℕ) → nat_lt x z ≡ false → (x == z) ≡ false → z < x
greater_test x z h g = grind (arith, nat_tests)

rises_put : (x : ℕ) (zs : List ℕ) → Rises zs → Rises (put_once x zs)
rises_put x [] h = (tt, tt)
rises_put x (z ∷ zs) h =
    rises_if (nat_lt x z) (x ∷ (z ∷ zs)) (z ∷ cond (x == z) zs (put_once x zs))
    (λ e. let lt = less_test x z e in ((lt, above_less x z zs (omega (arith, lt)) h.0), h))
    (λ e. (
      by_cases (x == z)
          (λ i. subst (λ b. Above z (cond b zs (put_once x zs))) (sym i) h.0)
          (λ i. subst (λ b. Above z (cond b zs (put_once x zs))) (sym i) (above_put z x zs (greater_test x z e i) h.0)),
      rises_if (x == z) zs (put_once x zs) (λ i. h.1) (λ i. rises_put x zs h.1),
    ))

pub both_write_rises : (xs ys : List ℕ) → Rises (both_write xs ys)
both_write_rises [] ys = tt
both_write_rises (x ∷ xs) ys =
    let r = both_write_rises xs ys in
    rises_if (has ys x) (put_once x (both_write xs ys)) (both_write xs ys) (λ e. rises_put x (both_write xs ys) r) (λ e. r)

-- the same variables

itself : (k : ℕ) → (k == k) ≡ true
itself k = grind (arith, nat_tests)

pub has_head : (x : ℕ) (xs : List ℕ) → has (x ∷ xs) x ≡ true
has_head x xs = ap (λ b. b || has xs x) (itself x)

never : {C : Type 0} (b : Bool) → b ≡ true → b ≡ false → C
never b h g = absurd (let f : ⊥ = cc in f)

same_heads : (x y : ℕ) (xs ys : List ℕ) → Above x xs → Above y ys → ((z : ℕ) → has (x ∷ xs) z ≡ has (y ∷ ys) z) → x ≡ y
same_heads x y xs ys a b h =
    by_cases (nat_lt x y)
    (λ e. never (has (y ∷ ys) x) (sym (h x) ∙ has_head x xs) (let lt = less_test x y e in above_lacks x (y ∷ ys) (lt, above_less x y ys (omega (arith, lt)) b)))
    (λ e.
    by_cases (x == y)
    (λ i. same x y i)
    (λ i. never (has (x ∷ xs) y) (h y ∙ has_head y ys) (let lt = greater_test x y e i in above_lacks y (x ∷ xs) (lt, above_less y x xs (omega (arith, lt)) a)))) where
      same : (x y : ℕ) → (x == y) ≡ true → x ≡ y
      same x y i = grind (arith, nat_tests)

same_tails : (x z : ℕ) (xs ys : List ℕ) → Above x xs → Above x ys → has (x ∷ xs) z ≡ has (x ∷ ys) z → has xs z ≡ has ys z
same_tails x z xs ys a b h =
    by_cases (x == z)
    (λ e. ap (has xs) (sym (same x z e)) ∙ above_lacks x xs a ∙ sym (above_lacks x ys b) ∙ ap (has ys) (same x z e))
    (λ e. sym (ap (λ i. i || has xs z) e) ∙ h ∙ ap (λ i. i || has ys z) e) where
      same : (x y : ℕ) → (x == y) ≡ true → x ≡ y
      same x y i = grind (arith, nat_tests)

pub same_variables : (xs ys : List ℕ) → Rises xs → Rises ys → ((z : ℕ) → has xs z ≡ has ys z) → xs ≡ ys
same_variables [] [] a b h = refl
same_variables [] (y ∷ ys) a b h = never (has (y ∷ ys) y) (has_head y ys) (sym (h y))
same_variables (x ∷ xs) [] a b h = never (has (x ∷ xs) x) (has_head x xs) (h x)
same_variables (x ∷ xs) (y ∷ ys) a b h =
    let e = same_heads x y xs ys a.0 b.0 h in
    let c : Above x ys = subst (λ k. Above k ys) (sym e) b.0 in
    let g = λ (z : ℕ). same_tails x z xs ys a.0 c (h z ∙ ap (λ k. has (k ∷ ys) z) (sym e)) in
    ap₂ (λ k l. k ∷ l) e (same_variables xs ys a.1 b.1 g)

-- those of a list that pass a test

filter_if : (p : ℕ → Bool) (x z : ℕ) (xs : List ℕ) (b : Bool) → p x ≡ b → has (filter p xs) z ≡ has xs z && p z → has (cond b (x ∷ filter p xs) (filter p xs)) z ≡ ((x == z) || has xs z) && p z
filter_if p x z xs true e h =
    by_cases (x == z)
    (λ i. ap (λ b. b || has (filter p xs) z) i ∙ sym (ap (λ b. (b || has xs z) && p z) i ∙ ap p (sym (same x z i)) ∙ e))
    (λ i. ap (λ b. b || has (filter p xs) z) i ∙ h ∙ sym (ap (λ b. (b || has xs z) && p z) i)) where
      same : (x y : ℕ) → (x == y) ≡ true → x ≡ y
      same x y i = grind (arith, nat_tests)
filter_if p x z xs false e h =
    by_cases (x == z)
    (λ i.
    let off : p z ≡ false = ap p (sym (same x z i)) ∙ e in
    h ∙ ap (λ b. has xs z && b) off ∙ none (has xs z) ∙ sym (ap (λ b. (b || has xs z) && p z) i ∙ off))
    (λ i. h ∙ sym (ap (λ b. (b || has xs z) && p z) i)) where
      same : (x y : ℕ) → (x == y) ≡ true → x ≡ y
      same x y i = grind (arith, nat_tests)

      none : (b : Bool) → b && false ≡ false
      none true = refl
      none false = refl

pub has_filter : (p : ℕ → Bool) (xs : List ℕ) (z : ℕ) → has (filter p xs) z ≡ has xs z && p z
has_filter p [] z = refl
has_filter p (x ∷ xs) z = filter_if p x z xs (p x) refl (has_filter p xs z)

-- the variables of a map

found : (k x : ℕ) (v : ℕ) (o : Option ℕ) (h : Bool) → is_some o ≡ h → is_some (cond (is_at (nat_cmp x) k) (Some v) o) ≡ (k == x) || h
found k x v o h e =
    ap (λ b. is_some (cond b (Some v) o)) (at_number x k)
    ∙ by_cases (k == x)
    (λ i. ap (λ b. is_some (cond b (Some v) o)) i ∙ sym (ap (λ b. b || h) i))
    (λ i. ap (λ b. is_some (cond b (Some v) o)) i ∙ e ∙ sym (ap (λ b. b || h) i)) where
      at_number : (x k : ℕ) → is_at (nat_cmp x) k ≡ (k == x)
      at_number x k = grind (arith, nat_tests)

pub has_keys : (es : List (ℕ × ℕ)) (x : ℕ) → is_some (lookup (is_at (nat_cmp x)) es) ≡ has (keys_of es) x
has_keys [] x = refl
has_keys (e ∷ es) x = found e.0 x e.1 (lookup (is_at (nat_cmp x)) es) (has (keys_of es) x) (has_keys es x)

-- where both lists of variables are told by tests, these pass both
pub both_are_kept : (left : BTreeMap ℕ ℕ) (p : ℕ → Bool) (xs ys : List ℕ) → IsOrdered nat_cmp left → ((x : ℕ) → has (keys left) x ≡ has xs x) → ((x : ℕ) → has ys x ≡ p x) → filter p (keys left) ≡ both_write xs ys
both_are_kept left p xs ys o h g =
    same_variables (filter p (keys left)) (both_write xs ys)
    (rises (filter p (keys left)) (IsStrictlySortedBy-filter nat_cmp p (keys left) o))
    (both_write_rises xs ys)
    (λ z. has_filter p (keys left) z ∙ ap₂ (λ a b. a && b) (h z) (sym (g z)) ∙ sym (has_both_write xs ys z))

-- an entry's variable isn't among those in front
pub next_is_new : (done : List (ℕ × ℕ)) (e : ℕ × ℕ) (rest : List (ℕ × ℕ)) → Rises (keys_of (done ++ e ∷ rest)) → has (keys_of done) e.0 ≡ false
next_is_new [] e rest r = refl
next_is_new (d ∷ ds) e rest r =
    none_of (d.0 == e.0) (has (keys_of ds) e.0) (below d.0 e.0 (in_front d.0 ds e rest r.0)) (next_is_new ds e rest r.1) where
      below : (x y : ℕ) → x < y → (x == y) ≡ false
      below x y h = grind (arith, nat_tests)

      in_front : (x : ℕ) (ds : List (ℕ × ℕ)) (e : ℕ × ℕ) (rest : List (ℕ × ℕ)) → Above x (keys_of (ds ++ e ∷ rest)) → x < e.0
      in_front x [] e rest a = a.0
      in_front x (d ∷ ds) e rest a = in_front x ds e rest a.1
