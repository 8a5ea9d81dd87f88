-- One piece after another.
use Rattle.std.proofs.Common.{◌≡◌, ℕ, zero, suc, ◌+◌, ◌≤◌, List, [], ◌∷◌, ◌++◌, length, take, drop, refl, sym, ap, ◌∙◌, arith, length-append, length-drop, append_assoc, min, ◌-◌, inl, inr}
use Rattle.std.proofs.lemmas.Bool.{cases_lt}
use Rattle.std.proofs.Math.Seq.{take-add}
use Rattle.std.specs.Prelude.{Option, Some, None}
use Rattle.sj_io.specs.definitions.Files.{ReadsAt}
use Rattle.sj_io.specs.definitions.Sinks.{TakesMore}

take_more : (i n : ℕ) (xs : List ℕ) → take i xs ++ take n (drop i xs) ≡ take (i + n) xs
take_more i n xs = sym (take-add i n xs)

length_take : (n : ℕ) (xs : List ℕ) → n ≤ length xs → length (take n xs) ≡ n
length_take zero xs h = refl
length_take (suc n) [] h = absurd (omega arith)
length_take (suc n) (x ∷ xs) h = omega (arith, length_take n xs (omega arith))

pub reads_on : (all items buf : List ℕ) (n : ℕ) → items ≡ take (length items) all → ReadsAt all (length items) n buf → items ++ take n buf ≡ take (length (items ++ take n buf)) all
reads_on all items buf n h r =
    let len : length items + n ≡ length (items ++ take n buf) = omega (arith, length-append items (take n buf), ap length r.bytes, length_take n (drop (length items) all) r.within) in
    ap (λ l. items ++ l) r.bytes ∙ ap (λ l. l ++ take n (drop (length items) all)) h ∙ take_more (length items) n all ∙ ap (λ k. take k all) len

more : (b c : Option (List ℕ)) (old x y z : List ℕ) → x ++ y ≡ z → b ≡ Some (old ++ x) → TakesMore b c y → c ≡ Some (old ++ z)
more None c old x y z e h t = cc
more (Some v) c old x y z e h t =
    let v_is : v ≡ old ++ x = cc in
    t ∙ ap (λ l. Some (l ++ y)) v_is ∙ ap Some (append_assoc old x y ∙ ap (λ l. old ++ l) e)

pub takes_on : (a b c : Option (List ℕ)) (xs : List ℕ) (i n : ℕ) → TakesMore a b (take i xs) → TakesMore b c (take n (drop i xs)) → TakesMore a c (take (i + n) xs)
takes_on None b c xs i n h t = tt
takes_on (Some old) b c xs i n h t = more b c old (take i xs) (take n (drop i xs)) (take (i + n) xs) (take_more i n xs) h t

-- a copied prefix of a buffer
pub copies : (all buf buf2 : List ℕ) (at start n piece : ℕ) → start ≡ min (length all) at → n ≡ min (min (length buf) piece) (length all - start) → 1 ≤ piece → length buf2 ≡ length buf → take n buf2 ≡ take n (drop start all) → ReadsAt all at n buf2
copies all buf buf2 at start n piece s c p len h = record { bytes = prefix_is; within = omega (arith, length-drop at all); end = λ z one. omega arith } where
  prefix_is : take n buf2 ≡ take n (drop at all)
  prefix_is = elim (cases_lt at (length all)) [
    | inl lt ↦ (let e : start ≡ at = omega arith in h ∙ ap (λ k. take n (drop k all)) e)
    | inr le ↦ (let z : n ≡ 0 = omega arith in ap (λ k. take k buf2) z ∙ sym (ap (λ k. take k (drop at all)) z))
  ]
