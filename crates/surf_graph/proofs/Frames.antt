-- Wires below a limit: what a copy's equations say and tell depends on its own wires and on those given.
use Rattle.std.proofs.Common.{◌≡◌, ℕ, suc, ◌+◌, ◌-◌, ◌<◌, ◌≤◌, nat_lt, ◌==◌, ℤ, pos, Bool, true, false, ◌&&◌, ◌||◌, not, cond, List, [], ◌∷◌, ◌++◌, get_or, refl, sym, ap, ap₂, ◌∙◌, subst, arith}
use Rattle.std.proofs.Math.Path.{fun_ext}
use Rattle.java_values.specs.Arithmetic.{is_true}
use Rattle.kernel_terms.specs.declared.tables.Tables.{Tables}
use Rattle.kernel_terms.specs.TableEntries.{value_kind}
use Rattle.kernel_terms.specs.Statements.{Stmt}
use Rattle.kernel_rules.specs.definitions.Signals.{Env, Emission, combined}
use Rattle.kernel_rules.specs.definitions.Signals as signals
use Rattle.kernel_rules.specs.definitions.Expressions.{Readings, value_of, holds}
use Rattle.kernel_rules.specs.definitions.TickRule.{Tick}
pub use Rattle.surf_graph.specs.definitions.Shows.{Agreeing}
pub use Rattle.surf_graph.specs.definitions.Formulas.{WiresBelow, Reads, Within}
use Rattle.java_values.specs.Arithmetic.{of_bool}
use Rattle.std.specs.Int.{int_max}
use Rattle.surf_graph.specs.definitions.Formulas.{Wires, Formula, Const, Get, Same, And, AndNot, Or, Choose, Zero, StatusOf, Status, IsStatus, Greater, OfTrap, OfWeakAbort, Combine, Value, Holds, Equation, Satisfies, formula_value, to_nat, is_on, of_trap, of_weak_abort, told, told_env, readings}
use Rattle.surf_graph.specs.definitions.Copies.{Copy, Emits, Sets}
use Rattle.surf_graph.specs.definitions.Tells.{emitted, AllOff, Stands, Tells, registers_set, set_value}
use Rattle.surf_graph.proofs.SetValues.{is_less, is_not_less}

pub wires_more : (n m : ℕ) (v : Wires) → n ≤ m → WiresBelow n v → WiresBelow m v
wires_more n m v le h =
    record {
      variables = λ x. let b = h.variables x in omega (arith, b);
      present = λ x. let b = h.present x in omega (arith, b);
      value = λ x. let b = h.value x in omega (arith, b);
      last = λ x. let b = h.last x in omega (arith, b);
    }

abbrev pub EmitsBelow : ℕ → List Emits → Type 0
EmitsBelow limit [] = Unit {0}
EmitsBelow limit (e ∷ es) = (e.condition < limit) × ((e.value < limit) × EmitsBelow limit es)

abbrev pub SetsBelow : ℕ → List Sets → Type 0
SetsBelow limit [] = Unit {0}
SetsBelow limit (s ∷ ss) = (s.condition < limit) × ((s.value < limit) × SetsBelow limit ss)

-- the wires that a copy gives
pub record Inside (n : ℕ) (copy : Copy) : Type 0 where
  pub grows : n ≤ copy.next
  pub status : copy.status < copy.next
  pub live : copy.live < copy.next
  pub emits : EmitsBelow copy.next copy.emits
  pub variables : (x : ℕ) → copy.variables x < copy.next
  pub sets : (k : ℕ) → SetsBelow copy.next (copy.sets k)
  pub equations : Within copy.next copy.equations

pub reads_more : (n m : ℕ) (f : Formula) → n ≤ m → Reads n f → Reads m f
reads_more n m (Const i) le h = tt
reads_more n m (Get r) le h = tt
reads_more n m (Same a) le h = omega (arith, h)
reads_more n m (And a b) le h = let i = h.0 in let j = h.1 in (omega (arith, i), omega (arith, j))
reads_more n m (AndNot a b) le h = let i = h.0 in let j = h.1 in (omega (arith, i), omega (arith, j))
reads_more n m (Or a b) le h = let i = h.0 in let j = h.1 in (omega (arith, i), omega (arith, j))
reads_more n m (Choose c a b) le h = let i = h.0 in let j = h.1 in let k = h.2 in (omega (arith, i), omega (arith, j), omega (arith, k))
reads_more n m (Zero k) le h = tt
reads_more n m (StatusOf code) le h = tt
reads_more n m (Status go code) le h = omega (arith, h)
reads_more n m (IsStatus a k) le h = omega (arith, h)
reads_more n m (Greater a b) le h = let i = h.0 in let j = h.1 in (omega (arith, i), omega (arith, j))
reads_more n m (OfTrap a) le h = omega (arith, h)
reads_more n m (OfWeakAbort t a) le h = let i = h.0 in let j = h.1 in (omega (arith, i), omega (arith, j))
reads_more n m (Combine info s a b) le h = let i = h.0 in let j = h.1 in let k = h.2 in (omega (arith, i), omega (arith, j), omega (arith, k))
reads_more n m (Value e v) le h = wires_more n m v le h
reads_more n m (Holds t v) le h = wires_more n m v le h

pub within_more : (n m : ℕ) (es : List Equation) → n ≤ m → Within n es → Within m es
within_more n m [] le h = tt
within_more n m (e ∷ es) le h = let i = h.0 in (omega (arith, i), (reads_more n m e.formula le h.1.0, within_more n m es le h.1.1))

pub within_append : (n : ℕ) (es ds : List Equation) → Within n es → Within n ds → Within n (es ++ ds)
within_append n [] ds h k = k
within_append n (e ∷ es) ds h k = (h.0, (h.1.0, within_append n es ds h.1.1 k))

pub emits_more : (n m : ℕ) (es : List Emits) → n ≤ m → EmitsBelow n es → EmitsBelow m es
emits_more n m [] le h = tt
emits_more n m (e ∷ es) le h = let i = h.0 in let j = h.1.0 in (omega (arith, i), (omega (arith, j), emits_more n m es le h.1.1))

pub emits_append : (n : ℕ) (es ds : List Emits) → EmitsBelow n es → EmitsBelow n ds → EmitsBelow n (es ++ ds)
emits_append n [] ds h k = k
emits_append n (e ∷ es) ds h k = (h.0, (h.1.0, emits_append n es ds h.1.1 k))

pub sets_more : (n m : ℕ) (ss : List Sets) → n ≤ m → SetsBelow n ss → SetsBelow m ss
sets_more n m [] le h = tt
sets_more n m (s ∷ ss) le h = let i = h.0 in let j = h.1.0 in (omega (arith, i), (omega (arith, j), sets_more n m ss le h.1.1))

pub sets_append : (n : ℕ) (ss ts : List Sets) → SetsBelow n ss → SetsBelow n ts → SetsBelow n (ss ++ ts)
sets_append n [] ts h k = k
sets_append n (s ∷ ss) ts h k = (h.0, (h.1.0, sets_append n ss ts h.1.1 k))

pub sets_if : (n : ℕ) (b : Bool) (ss ts : List Sets) → SetsBelow n ss → SetsBelow n ts → SetsBelow n (cond b ss ts)
sets_if n true ss ts h k = h
sets_if n false ss ts h k = k

pub agree_less : (n m : ℕ) (w v : ℕ → ℤ) → n ≤ m → Agreeing m w v → Agreeing n w v
agree_less n m w v le h = record { at = λ k lt. h.at k (omega arith) }

pub agree_twice : (n m : ℕ) (w v u : ℕ → ℤ) → n ≤ m → Agreeing n w v → Agreeing m v u → Agreeing n w u
agree_twice n m w v u le h k = record { at = λ i lt. k.at i (omega arith) ∙ h.at i lt }

pub told_agrees : (n : ℕ) (w v : ℕ → ℤ) (wires : ℕ → ℕ) → Agreeing n w v → ((x : ℕ) → wires x < n) → told v wires ≡ told w wires
told_agrees n w v wires h b = fun_ext (λ x. h.at (wires x) (b x))

pub env_agrees : (n : ℕ) (w v : ℕ → ℤ) (i : Wires) → Agreeing n w v → WiresBelow n i → told_env v i ≡ told_env w i
env_agrees n w v i h b = fun_ext (λ s. ap₂ (λ (x y : ℤ). at x y) (h.at (i.present s) (b.present s)) (h.at (i.value s) (b.value s))) where
  at : ℤ → ℤ → signals.Status
  at x y = record { present = is_true x; value = y }

readings_agree : (n : ℕ) (w v : ℕ → ℤ) (i : Wires) → Agreeing n w v → WiresBelow n i → readings v i ≡ readings w i
readings_agree n w v i h b =
    ap (λ z. make z (told_env v i) (told v i.last)) (told_agrees n w v i.variables h b.variables)
    ∙ ap (λ z. make (told w i.variables) z (told v i.last)) (env_agrees n w v i h b)
    ∙ ap (λ z. make (told w i.variables) (told_env w i) z) (told_agrees n w v i.last h b.last) where
      make : (ℕ → ℤ) → Env → (ℕ → ℤ) → Readings
      make x e l = record { variables = x; env = e; last = l }

pub value_agrees : (n : ℕ) (f w v : ℕ → ℤ) (i : Formula) → Agreeing n w v → Reads n i → formula_value f v i ≡ formula_value f w i
value_agrees n f w v (Const k) h r = refl
value_agrees n f w v (Get k) h r = refl
value_agrees n f w v (Same a) h r = h.at a r
value_agrees n f w v (And a b) h r = ap₂ (λ x y. of_bool (is_true x && is_true y)) (h.at a r.0) (h.at b r.1)
value_agrees n f w v (AndNot a b) h r = ap₂ (λ x y. of_bool (is_true x && not (is_true y))) (h.at a r.0) (h.at b r.1)
value_agrees n f w v (Or a b) h r = ap₂ (λ x y. of_bool (is_true x || is_true y)) (h.at a r.0) (h.at b r.1)
value_agrees n f w v (Choose c a b) h r = ap (λ x. cond (is_true x) (v a) (v b)) (h.at c r.0) ∙ ap₂ (λ x y. cond (is_on w c) x y) (h.at a r.1) (h.at b r.2)
value_agrees n f w v (Zero k) h r = refl
value_agrees n f w v (StatusOf code) h r = refl
value_agrees n f w v (Status go code) h r = ap (λ x. cond (is_true x) (pos (suc code)) (pos 0)) (h.at go r)
value_agrees n f w v (IsStatus a k) h r = ap (λ x. of_bool (to_nat x == suc k)) (h.at a r)
value_agrees n f w v (Greater a b) h r = ap₂ int_max (h.at a r.0) (h.at b r.1)
value_agrees n f w v (OfTrap a) h r = ap of_trap (h.at a r)
value_agrees n f w v (OfWeakAbort t a) h r = ap₂ (λ x y. cond (is_true x) (of_weak_abort y) y) (h.at t r.0) (h.at a r.1)
value_agrees n f w v (Combine info s a b) h r =
    ap (λ x. cond (is_true x) (combined info.combine (value_kind info) (v a) (v b)) (v b)) (h.at s r.0)
    ∙ ap₂ (λ x y. cond (is_on w s) (combined info.combine (value_kind info) x y) y) (h.at a r.1) (h.at b r.2)
value_agrees n f w v (Value e i) h r = ap (λ x. value_of x e) (readings_agree n w v i h r)
value_agrees n f w v (Holds t i) h r = ap (λ x. of_bool (holds x t)) (env_agrees n w v i h r)

-- equations within a limit say the same of values that agree below it
pub satisfies_still : (n : ℕ) (f w v : ℕ → ℤ) (es : List Equation) → Agreeing n w v → Within n es → Satisfies f w es → Satisfies f v es
satisfies_still n f w v [] h b s = tt
satisfies_still n f w v (e ∷ es) h b s = (h.at e.wire b.0 ∙ s.0 ∙ sym (value_agrees n f w v e.formula h b.1.0), satisfies_still n f w v es h b.1.1 s.1)

pub emitted_agrees : (n : ℕ) (w v : ℕ → ℤ) (es : List Emits) → Agreeing n w v → EmitsBelow n es → emitted v es ≡ emitted w es
emitted_agrees n w v [] h b = refl
emitted_agrees n w v (e ∷ es) h b =
    ap₂ (λ x y. one e x y (emitted v es)) (h.at e.condition b.0) (h.at e.value b.1.0) ∙ ap (λ l. one e (w e.condition) (w e.value) l) (emitted_agrees n w v es h b.1.1) where
      one : Emits → ℤ → ℤ → List Emission → List Emission
      one e x y l = cond (is_true x) (record { signal = e.signal; value = y } ∷ l) l

set_agrees : (n : ℕ) (w v : ℕ → ℤ) (ss : List Sets) → Agreeing n w v → SetsBelow n ss → set_value v ss ≡ set_value w ss
set_agrees n w v [] h b = refl
set_agrees n w v (s ∷ ss) h b =
    ap₂ (λ x y. cond (is_true x) y (set_value v ss)) (h.at s.condition b.0) (h.at s.value b.1.0) ∙ ap (λ z. cond (is_on w s.condition) (w s.value) z) (set_agrees n w v ss h b.1.1)

off_still : (n : ℕ) (w v : ℕ → ℤ) (ss : List Sets) → Agreeing n w v → SetsBelow n ss → AllOff w ss → AllOff v ss
off_still n w v [] h b o = tt
off_still n w v (s ∷ ss) h b o = (ap is_true (h.at s.condition b.0) ∙ o.0, off_still n w v ss h b.1.1 o.1)

-- what a copy tells is told by values that agree on its wires
pub tells_still : (tables : Tables) (w v : ℕ → ℤ) (p : Stmt) (n keep m : ℕ) (copy : Copy) (o : Tick) → Agreeing copy.next w v → Inside m copy → keep < copy.next → Tells tables w p n keep copy o → Tells tables v p n keep copy o
tells_still tables w v p n keep m copy o h i lt t =
    let on : is_on v keep ≡ is_on w keep = ap is_true (h.at keep lt) in
    let set : registers_set v copy.sets ≡ registers_set w copy.sets = fun_ext (λ k. set_agrees copy.next w v (copy.sets k) h (i.sets k)) in
    record {
      status = h.at copy.status i.status ∙ t.status;
      emits = emitted_agrees copy.next w v copy.emits h i.emits ∙ t.emits;
      variables = told_agrees copy.next w v copy.variables h i.variables ∙ t.variables;
      pure = t.pure;
      sets = λ e. subst (λ r. Stands tables p n r o.rest) (sym set) (t.sets (ap (λ b. (o.code == 1) && b) (sym on) ∙ e));
      unset = λ e. let off = t.unset (ap (λ b. (o.code == 1) && b) (sym on) ∙ e) in record { each = λ k. off_still copy.next w v (copy.sets k) h (i.sets k) (off.each k) };
    }

-- Values for wires from n on, the others as they are.
abbrev pub own : ℕ → List ℤ → (ℕ → ℤ) → ℕ → ℤ
own n vs w k = cond (nat_lt k n) (w k) (get_or vs (k - n) (pos 0))

pub own_agrees : (n : ℕ) (vs : List ℤ) (w : ℕ → ℤ) → Agreeing n w (own n vs w)
own_agrees n vs w = record { at = λ k lt. ap (λ b. cond b (w k) (get_or vs (k - n) (pos 0))) (is_less k n lt) }

pub own_at : (n i : ℕ) (vs : List ℤ) (w : ℕ → ℤ) → own n vs w (n + i) ≡ get_or vs i (pos 0)
own_at n i vs w = ap (λ b. cond b (w (n + i)) (get_or vs (n + i - n) (pos 0))) (is_not_less (n + i) n (omega arith)) ∙ ap (λ k. get_or vs k (pos 0)) (omega arith)

pub own_first : (n : ℕ) (vs : List ℤ) (w : ℕ → ℤ) → own n vs w n ≡ get_or vs 0 (pos 0)
own_first n vs w = ap (λ b. cond b (w n) (get_or vs (n - n) (pos 0))) (is_not_less n n (omega arith)) ∙ ap (λ k. get_or vs k (pos 0)) (omega arith)
