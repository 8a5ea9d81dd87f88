-- The registers after a step, with the literals of the sends written.
use Rattle.std.proofs.Common.{◌≡◌, ℕ, zero, suc, ◌+◌, ◌<◌, ◌≤◌, ℤ, pos, negsuc, Bool, List, [], ◌∷◌, ◌++◌, length, drop, get_or, add-one, arith, refl, sym, ap, ◌∙◌, subst, get_or-set_other, get_or-set_same, length-set}
use Rattle.std.proofs.Math.ListN.{set}
use Rattle.std.proofs.Math.Seq.{drop-cons}
use Rattle.java_values.specs.Arithmetic.{is_true}
use Rattle.plain_code.specs.Formulas.{is_on, number_at}
use Rattle.plain_code.specs.Formulas as code
use Rattle.domain_core.specs.equations.BuiltForms.{Plain, Nothing, Pause, Emit, Seq, Loop, Send, Receive}
use Rattle.domain_core.specs.equations.BuiltRegisters.{registers, literals, HoldsLiteral}
use Rattle.domain_core.specs.equations.BuiltCodes.{written, AreBelow}
use Rattle.domain_core.proofs.lemmas.equations.BuiltRules.{Flags}

pub below_at : (count : ℕ) (ls : List (ℕ × ℤ)) (i : ℕ) (l : ℕ × ℤ) → i < length ls → l ≡ get_or ls i l → AreBelow count (drop i ls) → l.0 < count
below_at count ls i l lt is h = let x : AreBelow count (l ∷ drop (suc i) ls) = subst (λ k. AreBelow count k) (drop-cons ls i l lt ∙ ap (λ k. k ∷ drop (suc i) ls) (sym is)) h in x.0

pub below_on : (count : ℕ) (ls : List (ℕ × ℤ)) (i : ℕ) (l : ℕ × ℤ) → i < length ls → l ≡ get_or ls i l → AreBelow count (drop i ls) → AreBelow count (drop (i + 1) ls)
below_on count ls i l lt is h = let x : AreBelow count (l ∷ drop (suc i) ls) = subst (λ k. AreBelow count k) (drop-cons ls i l lt ∙ ap (λ k. k ∷ drop (suc i) ls) (sym is)) h in rw (add-one) x.1

pub written_on : (all values : List ℤ) (ls : List (ℕ × ℤ)) (i : ℕ) (l : ℕ × ℤ) → i < length ls → l ≡ get_or ls i l → written (drop i ls) values ≡ all → written (drop (i + 1) ls) (set values l.0 l.1) ≡ all
written_on all values ls i l lt is h = rw (add-one) (sym (ap (λ k. written k values) (drop-cons ls i l lt ∙ ap (λ k. k ∷ drop (suc i) ls) (sym is))) ∙ h)

pub ruleset writing_steps = (below_at, below_on, written_on)

pub written-append : (xs ys : List (ℕ × ℤ)) (v : List ℤ) → written (xs ++ ys) v ≡ written ys (written xs v)
written-append [] ys v = refl
written-append (x ∷ xs) ys v = written-append xs ys (set v x.0 x.1)

pub length-written : (ls : List (ℕ × ℤ)) (v : List ℤ) → length (written ls v) ≡ length v
length-written [] v = refl
length-written (l ∷ ls) v = length-written ls (set v l.0 l.1) ∙ length-set v l.0 l.1

-- only registers of the statement are written
pub written_outside : (p : Plain) (n k : ℕ) (v : List ℤ) → k < n → number_at (written (literals p n) v) k ≡ number_at v k
written_outside Nothing n k v lt = refl
written_outside Pause n k v lt = refl
written_outside (Emit s) n k v lt = refl
written_outside (Receive c) n k v lt = refl
written_outside (Loop p) n k v lt = written_outside p n k v lt
written_outside (Send c w) n k v lt = get_or-set_other v (n + 2) k w (pos 0) (λ e. (let clash : k ≡ n + 2 = e in omega arith))
written_outside (Seq p q) n k v lt =
    ap (λ l. number_at l k) (written-append (literals p n) (literals q (n + registers p)) v)
    ∙ written_outside q (n + registers p) k (written (literals p n) v) (omega arith) ∙ written_outside p n k v lt

pub written_past : (p : Plain) (n k : ℕ) (v : List ℤ) → n + registers p ≤ k → number_at (written (literals p n) v) k ≡ number_at v k
written_past Nothing n k v le = refl
written_past Pause n k v le = refl
written_past (Emit s) n k v le = refl
written_past (Receive c) n k v le = refl
written_past (Loop p) n k v le = written_past p n k v le
written_past (Send c w) n k v le = get_or-set_other v (n + 2) k w (pos 0) (λ e. (let clash : k ≡ n + 2 = e in omega arith))
written_past (Seq p q) n k v le =
    ap (λ l. number_at l k) (written-append (literals p n) (literals q (n + registers p)) v)
    ∙ written_past q (n + registers p) k (written (literals p n) v) (omega arith) ∙ written_past p n k v (omega arith)

pub below_literals : (p : Plain) (n count : ℕ) → n + registers p ≤ count → AreBelow count (literals p n)
below_literals Nothing n count le = tt
below_literals Pause n count le = tt
below_literals (Emit s) n count le = tt
below_literals (Receive c) n count le = tt
below_literals (Loop p) n count le = below_literals p n count le
below_literals (Send c w) n count le = (omega arith, tt)
below_literals (Seq p q) n count le = below_both (literals p n) (literals q (n + registers p)) (below_literals p n count (omega arith)) (below_literals q (n + registers p) count (omega arith)) where
  below_both : (xs ys : List (ℕ × ℤ)) → AreBelow count xs → AreBelow count ys → AreBelow count (xs ++ ys)
  below_both [] ys a b = b
  below_both (x ∷ xs) ys a b = (a.0, below_both xs ys a.1 b)

pub same_truth : (z : ℤ) → is_true z ≡ code.is_true z
same_truth (pos zero) = refl
same_truth (pos (suc n)) = refl
same_truth (negsuc n) = refl

pub flag : (v : List ℤ) (r : ℕ → ℤ) (on : ℕ → Bool) (k : ℕ) → r k ≡ number_at v k → is_on v k ≡ on k → is_true (r k) ≡ on k
flag v r on k e h = same_truth (r k) ∙ ap code.is_true e ∙ h

-- registers of which those that hold no literal are as in the list
pub record Written (p : Plain) (n : ℕ) (r : ℕ → ℤ) (on : ℕ → Bool) : Type 0 where
  pub flags : Flags p n r on
  pub holds : HoldsLiteral p n r

same_registers : (p : Plain) (n : ℕ) (r s : ℕ → ℤ) (on : ℕ → Bool) → ((k : ℕ) → k < n + registers p → s k ≡ r k) → Written p n r on → Written p n s on
same_registers Nothing n r s on e w = record { flags = tt; holds = tt }
same_registers Pause n r s on e w = record { flags = ap is_true (e n (omega arith)) ∙ w.flags; holds = tt }
same_registers (Emit x) n r s on e w = record { flags = tt; holds = tt }
same_registers (Receive c) n r s on e w = record { flags = (ap is_true (e n (omega arith)) ∙ w.flags.0, ap is_true (e (n + 1) (omega arith)) ∙ w.flags.1); holds = tt }
same_registers (Send c v) n r s on e w =
    record { flags = (ap is_true (e n (omega arith)) ∙ w.flags.0, ap is_true (e (n + 1) (omega arith)) ∙ w.flags.1); holds = λ l. e (n + 2) (omega arith) ∙ w.holds (sym (ap is_true (e n (omega arith))) ∙ l) }
same_registers (Loop p) n r s on e w = let x = same_registers p n r s on e (record { flags = w.flags; holds = w.holds }) in record { flags = x.flags; holds = x.holds }
same_registers (Seq p q) n r s on e w =
    let x = same_registers p n r s on (λ k lt. e k (omega arith)) (record { flags = w.flags.0; holds = w.holds.0 }) in
    let y = same_registers q (n + registers p) r s on (λ k lt. e k (omega arith)) (record { flags = w.flags.1; holds = w.holds.1 }) in
    record { flags = (x.flags, y.flags); holds = (x.holds, y.holds) }

pub after_writing : (p : Plain) (n : ℕ) (v : List ℤ) (on : ℕ → Bool) → n + registers p ≤ length v → ((k : ℕ) → n ≤ k → k < n + registers p → is_on v k ≡ on k) → Written p n (number_at (written (literals p n) v)) on
after_writing Nothing n v on le h = record { flags = tt; holds = tt }
after_writing Pause n v on le h = record { flags = flag v (number_at v) on n refl (h n (omega arith) (omega arith)); holds = tt }
after_writing (Emit s) n v on le h = record { flags = tt; holds = tt }
after_writing (Receive c) n v on le h = record { flags = (flag v (number_at v) on n refl (h n (omega arith) (omega arith)), flag v (number_at v) on (n + 1) refl (h (n + 1) (omega arith) (omega arith))); holds = tt }
after_writing (Send c w) n v on le h =
    let r = number_at (set v (n + 2) w) in
    record {
      flags = (
        flag v r on n (get_or-set_other v (n + 2) n w (pos 0) (λ e. (let clash : n ≡ n + 2 = e in omega arith))) (h n (omega arith) (omega arith)),
        flag v r on (n + 1) (get_or-set_other v (n + 2) (n + 1) w (pos 0) (λ e. (let clash : n + 1 ≡ n + 2 = e in omega arith))) (h (n + 1) (omega arith) (omega arith)),
      );
      holds = λ l. get_or-set_same v (n + 2) w (pos 0) (omega arith);
    }
after_writing (Loop p) n v on le h = let x = after_writing p n v on le h in record { flags = x.flags; holds = x.holds }
after_writing (Seq p q) n v on le h =
    let m = n + registers p in
    let v1 = written (literals p n) v in
    let x = after_writing p n v on (omega arith) (λ k ge lt. h k ge (omega (arith, lt))) in
    let y = after_writing q m v1 on (omega (arith, length-written (literals p n) v)) (λ k ge lt. ap code.is_true (written_past p n k v ge) ∙ h k (omega (arith, ge)) (omega (arith, lt))) in
    let x2 = same_registers p n (number_at v1) (number_at (written (literals q m) v1)) on (λ k lt. written_outside q m k v1 lt) x in
    let e = written-append (literals p n) (literals q m) v in
    let f : Flags (Seq p q) n (number_at (written (literals (Seq p q) n) v)) on = subst (λ l. Flags (Seq p q) n (number_at l) on) (sym e) (x2.flags, y.flags) in
    let g : HoldsLiteral (Seq p q) n (number_at (written (literals (Seq p q) n) v)) = subst (λ l. HoldsLiteral (Seq p q) n (number_at l)) (sym e) (x2.holds, y.holds) in
    record { flags = f; holds = g }

-- any list of registers has its own flags
pub own_flags : (p : Plain) (n : ℕ) (v : List ℤ) → Flags p n (number_at v) (is_on v)
own_flags Nothing n v = tt
own_flags Pause n v = same_truth (number_at v n)
own_flags (Emit s) n v = tt
own_flags (Receive c) n v = (same_truth (number_at v n), same_truth (number_at v (n + 1)))
own_flags (Send c w) n v = (same_truth (number_at v n), same_truth (number_at v (n + 1)))
own_flags (Loop p) n v = own_flags p n v
own_flags (Seq p q) n v = (own_flags p n v, own_flags q (n + registers p) v)
