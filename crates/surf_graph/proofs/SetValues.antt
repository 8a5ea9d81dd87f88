-- Lists of sets, of emissions and of variables' wires.
use Rattle.std.proofs.Common.{◌≡◌, ℕ, ◌<◌, ◌≤◌, nat_lt, ℤ, pos, Bool, true, false, cond, List, [], ◌∷◌, ◌++◌, refl, ap, ap₂, ◌∙◌, arith}
use Rattle.std.proofs.lemmas.List.{append-nil}
use Rattle.std.proofs.lemmas.Bool.Decides.{nat_tests}
use Rattle.std.proofs.Math.Path.{fun_ext}
use Rattle.java_values.specs.Arithmetic.{is_true}
use Rattle.kernel_terms.specs.declared.tables.Tables.{Tables}
use Rattle.kernel_terms.specs.Statements.{Stmt}
use Rattle.kernel_rules.specs.definitions.Signals.{Emission}
use Rattle.kernel_rules.specs.definitions.TickRule.{writes, variables_of_both}
use Rattle.java_values.specs.Arithmetic.{of_bool}
use Rattle.surf_graph.specs.definitions.Formulas.{Equation, Satisfies, is_on, told}
use Rattle.surf_graph.specs.definitions.Copies.{Emits, Sets, none, below, from, joined, wires_of_both}
use Rattle.surf_graph.specs.definitions.Tells.{emitted, set_value, AllOff, Off, registers_set, PureZero}

pub truth_of : (b : Bool) → is_true (of_bool b) ≡ b
truth_of true = refl
truth_of false = refl

pub satisfies_front : (f w : ℕ → ℤ) (es ds : List Equation) → Satisfies f w (es ++ ds) → Satisfies f w es
satisfies_front f w [] ds h = tt
satisfies_front f w (e ∷ es) ds h = (h.0, satisfies_front f w es ds h.1)

pub satisfies_back : (f w : ℕ → ℤ) (es ds : List Equation) → Satisfies f w (es ++ ds) → Satisfies f w ds
satisfies_back f w [] ds h = h
satisfies_back f w (e ∷ es) ds h = satisfies_back f w es ds h.1

pub off_value : (w : ℕ → ℤ) (ss : List Sets) → AllOff w ss → set_value w ss ≡ pos 0
off_value w [] h = refl
off_value w (s ∷ ss) h = ap (λ b. cond b (w s.value) (set_value w ss)) h.0 ∙ off_value w ss h.1

pub off_append : (w : ℕ → ℤ) (ss ts : List Sets) → AllOff w ss → AllOff w ts → AllOff w (ss ++ ts)
off_append w [] ts h k = k
off_append w (s ∷ ss) ts h k = (h.0, off_append w ss ts h.1 k)

pub set_after_off : (w : ℕ → ℤ) (ss ts : List Sets) → AllOff w ss → set_value w (ss ++ ts) ≡ set_value w ts
set_after_off w [] ts h = refl
set_after_off w (s ∷ ss) ts h = ap (λ b. cond b (w s.value) (set_value w (ss ++ ts))) h.0 ∙ set_after_off w ss ts h.1

pub set_before_off : (w : ℕ → ℤ) (ss ts : List Sets) → AllOff w ts → set_value w (ss ++ ts) ≡ set_value w ss
set_before_off w [] ts h = off_value w ts h
set_before_off w (s ∷ ss) ts h = ap (λ v. cond (is_on w s.condition) (w s.value) v) (set_before_off w ss ts h)

pub off_joined : (w : ℕ → ℤ) (s t : ℕ → List Sets) → Off w s → Off w t → Off w (joined s t)
off_joined w s t h k = record { each = λ i. off_append w (s i) (t i) (h.each i) (k.each i) }

off_if : (w : ℕ → ℤ) (b : Bool) (ss : List Sets) → AllOff w ss → AllOff w (cond b ss [])
off_if w true ss h = h
off_if w false ss h = tt

off_unless : (w : ℕ → ℤ) (b : Bool) (ss : List Sets) → AllOff w ss → AllOff w (cond b [] ss)
off_unless w true ss h = tt
off_unless w false ss h = h

pub off_below : (w : ℕ → ℤ) (m : ℕ) (s : ℕ → List Sets) → Off w s → Off w (below m s)
off_below w m s h = record { each = λ k. off_if w (nat_lt k m) (s k) (h.each k) }

pub off_from : (w : ℕ → ℤ) (m : ℕ) (s : ℕ → List Sets) → Off w s → Off w (from m s)
off_from w m s h = record { each = λ k. off_unless w (nat_lt k m) (s k) (h.each k) }

pub off_none : (w : ℕ → ℤ) → Off w none
off_none w = record { each = λ k. tt }

pub is_less : (k m : ℕ) → k < m → nat_lt k m ≡ true
is_less k m h = grind (arith, nat_tests)

pub is_not_less : (k m : ℕ) → m ≤ k → nat_lt k m ≡ false
is_not_less k m h = grind (arith, nat_tests)

pub at_below : (w : ℕ → ℤ) (m k : ℕ) (s : ℕ → List Sets) → k < m → registers_set w (below m s) k ≡ registers_set w s k
at_below w m k s h = ap (λ b. set_value w (cond b (s k) [])) (is_less k m h)

pub at_from : (w : ℕ → ℤ) (m k : ℕ) (s : ℕ → List Sets) → m ≤ k → registers_set w (from m s) k ≡ registers_set w s k
at_from w m k s h = ap (λ b. set_value w (cond b [] (s k))) (is_not_less k m h)

-- the registers of two parts beside each other
pub set_first : (w : ℕ → ℤ) (m k : ℕ) (s t : ℕ → List Sets) → k < m → registers_set w (joined (below m s) (from m t)) k ≡ registers_set w s k
set_first w m k s t h = ap (λ b. set_value w (cond b (s k) [] ++ cond b [] (t k))) (is_less k m h) ∙ ap (set_value w) (append-nil (s k))

pub set_second : (w : ℕ → ℤ) (m k : ℕ) (s t : ℕ → List Sets) → m ≤ k → registers_set w (joined (below m s) (from m t)) k ≡ registers_set w t k
set_second w m k s t h = ap (λ b. set_value w (cond b (s k) [] ++ cond b [] (t k))) (is_not_less k m h)

emitted_if : (w : ℕ → ℤ) (b : Bool) (e : Emission) (m n : List Emission) → cond b (e ∷ (m ++ n)) (m ++ n) ≡ cond b (e ∷ m) m ++ n
emitted_if w true e m n = refl
emitted_if w false e m n = refl

pub emitted_append : (w : ℕ → ℤ) (es ds : List Emits) → emitted w (es ++ ds) ≡ emitted w es ++ emitted w ds
emitted_append w [] ds = refl
emitted_append w (e ∷ es) ds =
    let m : Emission = record { signal = e.signal; value = w e.value } in
    ap (λ l. cond (is_on w e.condition) (m ∷ l) l) (emitted_append w es ds) ∙ emitted_if w (is_on w e.condition) m (emitted w es) (emitted w ds)

pub emitted_first : (w : ℕ → ℤ) (es ds : List Emits) (m : List Emission) → emitted w es ≡ m → emitted w ds ≡ [] → emitted w (es ++ ds) ≡ m
emitted_first w es ds m h k = emitted_append w es ds ∙ ap₂ (λ a b. a ++ b) h k ∙ append-nil m

pub emitted_second : (w : ℕ → ℤ) (es ds : List Emits) (m : List Emission) → emitted w es ≡ [] → emitted w ds ≡ m → emitted w (es ++ ds) ≡ m
emitted_second w es ds m h k = emitted_append w es ds ∙ ap₂ (λ a b. a ++ b) h k

pub pure_append : (tables : Tables) (m n : List Emission) → PureZero tables m → PureZero tables n → PureZero tables (m ++ n)
pure_append tables [] n h k = k
pure_append tables (e ∷ m) n h k = (h.0, pure_append tables m n h.1 k)

both_at : (w : ℕ → ℤ) (b : Bool) (x y : ℕ) → w (cond b x y) ≡ cond b (w x) (w y)
both_at w true x y = refl
both_at w false x y = refl

pub told_both : (w : ℕ → ℤ) (p : Stmt) (a b : ℕ → ℕ) → told w (wires_of_both p a b) ≡ variables_of_both p (told w a) (told w b)
told_both w p a b = fun_ext (λ x. both_at w (writes p x) (a x) (b x))

same_both : (b : Bool) (x : ℤ) → cond b x x ≡ x
same_both true x = refl
same_both false x = refl

pub told_neither : (p : Stmt) (x : ℕ → ℤ) → variables_of_both p x x ≡ x
told_neither p x = fun_ext (λ n. same_both (writes p n) (x n))
