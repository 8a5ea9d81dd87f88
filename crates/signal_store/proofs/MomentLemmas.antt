-- Numbers by signal and tick.
use Rattle.std.proofs.Common.{◌≡◌, ℕ, ℤ, Bool, true, false, ◌==◌, ◌&&◌, cond, nat_lt, List, Option, Some, None, ap, refl, sym, ◌∙◌, arith}
use Rattle.std.specs.Prelude.{Result, Ok, Err, OnOk, is_some, is_err}
use Rattle.std.specs.Ordering.{is_eq, nat_cmp, ordering_then}
use Rattle.std.specs.declared.cmp.Ordering.{Ordering}
use Rattle.std.specs.declared.cmp.Ordering.TheVariants.{Less, Equal, Greater}
use Rattle.std.specs.BTreeMap.{is_at}
use Rattle.std.specs.Map.{lookup}
use Rattle.std.proofs.Math.Path.{fun_ext}
use Rattle.std.proofs.lemmas.Bool.Decides.{nat_tests}
use Rattle.signal_store.specs.declared.inputs.Moment.{Moment}
use Rattle.signal_store.specs.contracts.inputs.MomentOrd.TheImpl as ord
use Rattle.signal_store.specs.definitions.Handed.{is_moment, handed, with_number, IsAdded}

both_equal : (a b : Ordering) → is_eq (ordering_then a b) ≡ (is_eq a && is_eq b)
both_equal Less b = refl
both_equal Equal b = refl
both_equal Greater b = refl

equal_numbers : (x y : ℕ) → is_eq (nat_cmp x y) ≡ (x == y)
equal_numbers x y = step (nat_lt x y) (x == y) (λ h. grind (arith, nat_tests))
  where
    step : (b c : Bool) → (b ≡ true → c ≡ false) → is_eq (cond b Less (cond c Equal Greater)) ≡ c
    step true c h = sym (h refl)
    step false true h = refl
    step false false h = refl

moment : ℕ → ℕ → Moment
moment s t = record { signal = s; tick = t }

-- moments tie in the order exactly where they are the same
same_moment : (s t : ℕ) (m : Moment) → is_at ((ord.ghosts).cmp (record { signal = s; tick = t })) m ≡ is_moment s t m
same_moment s t m =
    both_equal (nat_cmp s m.signal) (nat_cmp t m.tick)
    ∙ ap (λ b. b && is_eq (nat_cmp t m.tick)) (equal_numbers s m.signal)
    ∙ ap (λ b. (s == m.signal) && b) (equal_numbers t m.tick)

-- looking up by the order finds what is handed in
looked_up : (es : List (Moment × ℤ)) (s t : ℕ) → lookup (is_at ((ord.ghosts).cmp (record { signal = s; tick = t }))) es ≡ handed es s t
looked_up es s t = ap (λ test. lookup test es) (fun_ext (same_moment s t))

-- one number more
added : (old new : List (Moment × ℤ)) (s t : ℕ) (n : ℤ) → ((q : Moment) → lookup (is_at ((ord.ghosts).cmp q)) new ≡ cond (is_at ((ord.ghosts).cmp (record { signal = s; tick = t })) q) (Some n) (lookup (is_at ((ord.ghosts).cmp q)) old)) → handed new ≡ with_number (handed old) s t n
added old new s t n updates = fun_ext (λ s2. fun_ext (λ t2. one s2 t2))
  where
    one : (s2 t2 : ℕ) → handed new s2 t2 ≡ with_number (handed old) s t n s2 t2
    one s2 t2 =
        sym (looked_up new s2 t2)
        ∙ updates (record { signal = s2; tick = t2 })
        ∙ ap (λ b. cond b (Some n) (lookup (is_at ((ord.ghosts).cmp (record { signal = s2; tick = t2 }))) old)) (same_moment s t (record { signal = s2; tick = t2 }))
        ∙ ap (λ o. cond ((s == s2) && (t == t2)) (Some n) o) (looked_up old s2 t2)

none_there : (o : Option ℤ) → is_some o ≡ false → o ≡ None
none_there None h = refl
none_there (Some x) h = cc

pub adds : (old inside new : List (Moment × ℤ)) (s t : ℕ) (n m : ℤ) → inside ≡ old → m ≡ n → is_some (handed old s t) ≡ false → ((q : Moment) → lookup (is_at ((ord.ghosts).cmp q)) new ≡ cond (is_at ((ord.ghosts).cmp (record { signal = s; tick = t })) q) (Some m) (lookup (is_at ((ord.ghosts).cmp q)) inside)) → IsAdded old new s t n
adds old inside new s t n m same number free updates = record {
  free = none_there (handed old s t) free;
  added = added inside new s t m updates ∙ ap (λ es. with_number (handed es) s t m) same ∙ ap (λ k. with_number (handed old) s t k) number;
}

pub where_ok : {T E : Type 0} (r : Result T E) (P : Type 0) → is_err r ≡ false → OnOk r P → P
where_ok (Ok x) P h p = p
where_ok (Err x) P h p = cc
