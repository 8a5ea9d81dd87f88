-- The statuses of a domain's interface signals, as its wires tell them.
use Rattle.std.proofs.Common.{◌≡◌, ℕ, suc, ◌+◌, ◌==◌, ℤ, pos, Bool, true, false, ◌&&◌, ◌||◌, cond, List, [], ◌∷◌, length, refl, sym, ap, ap₂, ◌∙◌, subst, arith, Option, None, Some}
use Rattle.std.specs.Prelude.{is_some}
use Rattle.std.proofs.lemmas.Bool.{true≢false, eqb-true}
use Rattle.java_values.specs.declared.kind.Kind.{Kind}
use Rattle.java_values.specs.Arithmetic.{is_true}
use Rattle.kernel_terms.specs.declared.tables.Tables.{Tables}
use Rattle.kernel_terms.specs.Statements.{Stmt}
use Rattle.kernel_terms.specs.TableEntries.{signal_at, no_signal, is_input, is_interface_of, is_valued_of, interface_of, valued_of}
use Rattle.kernel_rules.specs.definitions.Signals.{Emission, Status, is_emitted, values_of, folded}
use Rattle.kernel_rules.specs.definitions.LegalTick.{input_status, emitted_status, status_in}
use Rattle.kernel_rules.specs.definitions.Registers.{first_value, values_held}
use Rattle.surf_graph.specs.definitions.Formulas.{Equation, Satisfies, is_on, told_env, formula_value}
use Rattle.surf_graph.specs.definitions.Formulas as formula
use Rattle.surf_graph.specs.definitions.Copies.{Emits, has}
use Rattle.surf_graph.specs.definitions.Tells.{emitted, PureZero}
use Rattle.surf_graph.specs.definitions.DomainCopies.{wire_for, is_input_of, value_before, domain_wires, fold_conditions, folded_as, folded_status, emitted_equations, handed_equations, status_equations, all_statuses, first_presence_wire, first_value_wire}
use Rattle.surf_graph.specs.definitions.DomainTells.{HandsIn}
use Rattle.surf_graph.proofs.SetValues.{truth_of, satisfies_front, satisfies_back}
use Rattle.surf_graph.proofs.Locals.{fold_says, folded_from, fold_zero}
use Rattle.surf_graph.proofs.DomainLists.{has_number, number_has, within_table, held_at, not_held}

-- where the equations of a signal stand
pub record Found (tables : Tables) (d : ℕ) (p : Stmt) (f w : ℕ → ℤ) (es : List Emits) (is : List ℕ) (b0 v0 s : ℕ) : Type 0 where
  pub b : ℕ
  pub v : ℕ
  pub k : ℕ
  pub n : ℕ
  pub present : wire_for is b0 s ≡ b
  pub value : wire_for is v0 s ≡ v
  pub solved : Satisfies f w (status_equations tables d p s b v k n es)

pub found : (tables : Tables) (d : ℕ) (p : Stmt) (f w : ℕ → ℤ) (es : List Emits) (is : List ℕ) (b v k n s : ℕ) → has is s ≡ true
    → Satisfies f w (all_statuses tables d p is b v k n es) → Found tables d p f w es is b v s
found tables d p f w es [] b v k n s m h = absurd (true≢false (sym m))
found tables d p f w es (i ∷ is) b v k n s m h =
    let here = status_equations tables d p i b v k n es in
    let there = all_statuses tables d p is (suc b) (suc v) (suc k) (n + length (folded_status tables i n k es).equations) es in
    by_test (i == s) refl m (satisfies_front f w here there h)
    (λ g. found tables d p f w es is (suc b) (suc v) (suc k) (n + length (folded_status tables i n k es).equations) s g (satisfies_back f w here there h))
  where
    by_test : (c : Bool) → (i == s) ≡ c → c || has is s ≡ true → Satisfies f w (status_equations tables d p i b v k n es)
        → (has is s ≡ true → Found tables d p f w es is (suc b) (suc v) s) → Found tables d p f w es (i ∷ is) b v s
    by_test true e g here rest = record {
      b = b;
      v = v;
      k = k;
      n = n;
      present = ap (λ c. cond c b (wire_for is (suc b) s)) e;
      value = ap (λ c. cond c v (wire_for is (suc v) s)) e;
      solved = subst (λ j. Satisfies f w (status_equations tables d p j b v k n es)) (eqb-true i s e) here;
    }
    by_test false e g here rest = let r = rest g in record {
      b = r.b;
      v = r.v;
      k = r.k;
      n = r.n;
      present = ap (λ c. cond c b (wire_for is (suc b) s)) e ∙ r.present;
      value = ap (λ c. cond c v (wire_for is (suc v) s)) e ∙ r.value;
      solved = r.solved;
    }

-- the emissions of a pure signal

emitted_here : (c : Bool) (e : Emission) (m : List Emission) (s : ℕ) → (e.signal == s) ≡ true → c || is_emitted m s ≡ is_emitted (cond c (e ∷ m) m) s
emitted_here true e m s h = sym (ap (λ b. b || is_emitted m s) h)
emitted_here false e m s h = refl

emitted_there : (c : Bool) (e : Emission) (m : List Emission) (s : ℕ) → (e.signal == s) ≡ false → is_emitted m s ≡ is_emitted (cond c (e ∷ m) m) s
emitted_there true e m s h = sym (ap (λ b. b || is_emitted m s) h)
emitted_there false e m s h = refl

either_of_three : (a b c : Bool) → (a || b) || c ≡ a || (b || c)
either_of_three true b c = refl
either_of_three false b c = refl

nothing_more : (b : Bool) → b ≡ b || false
nothing_more true = refl
nothing_more false = refl

pub conditions_say : (f w : ℕ → ℤ) (s n some : ℕ) (es : List Emits) → Satisfies f w (fold_conditions s n some es).equations
    → is_on w (fold_conditions s n some es).some ≡ is_on w some || is_emitted (emitted w es) s
conditions_say f w s n some [] h = nothing_more (is_on w some)
conditions_say f w s n some (e ∷ es) h =
    by_test (e.signal == s) refl h (conditions_say f w s (n + 1) n es) (conditions_say f w s n some es)
  where
    first : Emission
    first = record { signal = e.signal; value = w e.value }

    by_test : (b : Bool) → (e.signal == s) ≡ b
        → Satisfies f w
        (cond b (record (fold_conditions s (n + 1) n es) { equations = record { wire = n; formula = formula.Or some e.condition } ∷ (fold_conditions s (n + 1) n es).equations }) (fold_conditions s n some es)).equations
        → (Satisfies f w (fold_conditions s (n + 1) n es).equations → is_on w (fold_conditions s (n + 1) n es).some ≡ is_on w n || is_emitted (emitted w es) s)
        → (Satisfies f w (fold_conditions s n some es).equations → is_on w (fold_conditions s n some es).some ≡ is_on w some || is_emitted (emitted w es) s)
        → is_on w
        (cond b (record (fold_conditions s (n + 1) n es) { equations = record { wire = n; formula = formula.Or some e.condition } ∷ (fold_conditions s (n + 1) n es).equations }) (fold_conditions s n some es)).some
        ≡ is_on w some || is_emitted (emitted w (e ∷ es)) s
    by_test true q g here there =
        here g.1 ∙ ap (λ b. b || is_emitted (emitted w es) s) (ap is_true g.0 ∙ truth_of (is_on w some || is_on w e.condition))
        ∙ either_of_three (is_on w some) (is_on w e.condition) (is_emitted (emitted w es) s)
        ∙ ap (λ b. is_on w some || b) (emitted_here (is_on w e.condition) first (emitted w es) s q)
    by_test false q g here there = there g ∙ ap (λ b. is_on w some || b) (emitted_there (is_on w e.condition) first (emitted w es) s q)

pub no_value : (s n some : ℕ) (es : List Emits) → (fold_conditions s n some es).value ≡ 0
no_value s n some [] = refl
no_value s n some (e ∷ es) = by_test (e.signal == s) (no_value s (n + 1) n es) (no_value s n some es)
  where
    by_test : (b : Bool) → (fold_conditions s (n + 1) n es).value ≡ 0 → (fold_conditions s n some es).value ≡ 0
        → (cond b (record (fold_conditions s (n + 1) n es) { equations = record { wire = n; formula = formula.Or some e.condition } ∷ (fold_conditions s (n + 1) n es).equations }) (fold_conditions s n some es)).value ≡ 0
    by_test true here there = here
    by_test false here there = there

-- values of signals before the tick

valued : (tables : Tables) (d s : ℕ) (k : Kind) → is_interface_of d (signal_at tables s) ≡ true → (signal_at tables s).kind ≡ Some k → is_valued_of d (signal_at tables s) ≡ true
valued tables d s k i e = ap (λ b. b && is_some (signal_at tables s).kind) i ∙ ap is_some e

pub interface_has : (tables : Tables) (d s : ℕ) → is_interface_of d (signal_at tables s) ≡ true → has (interface_of tables d) s ≡ true
interface_has tables d s i = has_number (is_interface_of d) 0 tables.signals no_signal s s (omega arith) (within_table (is_interface_of d) tables.signals no_signal s (off (0 == d)) i) i
  where
    off : (b : Bool) → b && false ≡ false
    off true = refl
    off false = refl

pub valued_has : (tables : Tables) (d s : ℕ) (k : Kind) → is_interface_of d (signal_at tables s) ≡ true → (signal_at tables s).kind ≡ Some k → has (valued_of tables d) s ≡ true
valued_has tables d s k i e =
    let v = valued tables d s k i e in
    has_number (is_valued_of d) 0 tables.signals no_signal s s (omega arith) (within_table (is_valued_of d) tables.signals no_signal s (off (0 == d)) v) v
  where
    off : (b : Bool) → (b && false) && false ≡ false
    off true = refl
    off false = refl

not_has : (b : Bool) → (b ≡ true → ⊥) → b ≡ false
not_has true h = absurd (h refl)
not_has false h = refl

pub pure_has_none : (tables : Tables) (d s : ℕ) → (signal_at tables s).kind ≡ None → has (valued_of tables d) s ≡ false
pure_has_none tables d s e = not_has (has (valued_of tables d) s) (λ h. true≢false (sym (number_has (is_valued_of d) 0 tables.signals no_signal s s (omega arith) h) ∙ ap (λ o. is_interface_of d (signal_at tables s) && is_some o) e ∙ off (is_interface_of d (signal_at tables s))))
  where
    off : (b : Bool) → b && false ≡ false
    off true = refl
    off false = refl

pub foreign_has_none : (tables : Tables) (d s : ℕ) → is_interface_of d (signal_at tables s) ≡ false → has (valued_of tables d) s ≡ false
foreign_has_none tables d s e = not_has (has (valued_of tables d) s) (λ h. true≢false (sym (number_has (is_valued_of d) 0 tables.signals no_signal s s (omega arith) h) ∙ ap (λ o. o && is_some (signal_at tables s).kind) e))

pub pure_before : (tables : Tables) (d : ℕ) (p : Stmt) (f : ℕ → ℤ) (s : ℕ) → (signal_at tables s).kind ≡ None → values_held tables d p f s ≡ pos 0
pure_before tables d p f s e = not_held (valued_of tables d) (first_value tables d p) f s (pure_has_none tables d s e)

-- an emitted signal

pub record StatusSays (w : ℕ → ℤ) (b v : ℕ) (status : Status) : Type 0 where
  pub present : is_on w b ≡ status.present
  pub value : w v ≡ status.value

emitted_by_kind : (tables : Tables) (d : ℕ) (p : Stmt) (f w : ℕ → ℤ) (es : List Emits) (s b v k n : ℕ) (o : Option Kind) → (signal_at tables s).kind ≡ o → w 0 ≡ pos 0
    → is_interface_of d (signal_at tables s) ≡ true → PureZero tables (emitted w es)
    → is_on w b ≡ is_on w (folded_as (signal_at tables s) o s n k es).some → w v ≡ w (folded_as (signal_at tables s) o s n k es).value
    → w k ≡ formula_value f w (value_before tables d p s o) → Satisfies f w (folded_as (signal_at tables s) o s n k es).equations
    → StatusSays w b v (emitted_status (signal_at tables s) s (values_held tables d p f s) (emitted w es))
emitted_by_kind tables d p f w es s b v k n None e z i pure present value before h =
    let info = signal_at tables s in
    let m = emitted w es in
    record {
      present = present ∙ conditions_say f w s n 0 es h ∙ ap (λ x. x || is_emitted m s) (ap is_true z);
      value = value ∙ ap w (no_value s n 0 es) ∙ z ∙ sym (fold_zero tables s m e pure) ∙ sym (ap (λ u. folded info u (values_of s m)) (pure_before tables d p f s e));
    }
emitted_by_kind tables d p f w es s b v k n (Some j) e z i pure present value before h =
    let info = signal_at tables s in
    let m = emitted w es in
    let y = fold_says f w info s n 0 k es h in
    let off : is_on w 0 ≡ false = ap is_true z in
    record {
      present = present ∙ y.some ∙ ap (λ x. x || is_emitted m s) off;
      value =
          value ∙ y.value ∙ ap (λ x. folded_from info x (w k) (values_of s m)) off
          ∙ ap (λ u. folded info u (values_of s m)) (before ∙ sym (held_at (valued_of tables d) (first_value tables d p) f s (valued_has tables d s j i e)));
    }

emitted_says : (tables : Tables) (d : ℕ) (p : Stmt) (f w : ℕ → ℤ) (es : List Emits) (s b v k n : ℕ) → w 0 ≡ pos 0
    → is_interface_of d (signal_at tables s) ≡ true → PureZero tables (emitted w es)
    → Satisfies f w (emitted_equations tables d p s b v k (folded_status tables s n k es))
    → StatusSays w b v (emitted_status (signal_at tables s) s (values_held tables d p f s) (emitted w es))
emitted_says tables d p f w es s b v k n z i pure h =
    emitted_by_kind tables d p f w es s b v k n (signal_at tables s).kind refl z i pure (ap is_true h.0) h.1.0 h.1.1.0 h.1.1.1

-- an input

handed_says : (tables : Tables) (d : ℕ) (p : Stmt) (handed : ℕ → Option ℤ) (f w : ℕ → ℤ) (s b v : ℕ) → is_input_of d (signal_at tables s) ≡ true → HandsIn tables d p handed f
    → Satisfies f w (handed_equations tables d p s b v) → StatusSays w b v (input_status (handed s) (values_held tables d p f s))
handed_says tables d p handed f w s b v i given h =
    record { present = ap is_true (h.0 ∙ given.present s i) ∙ truth_of (is_some (handed s)); value = h.1.0 ∙ given.value s i }

-- each interface signal of the domain

status_says : (tables : Tables) (d : ℕ) (p : Stmt) (handed : ℕ → Option ℤ) (f w : ℕ → ℤ) (es : List Emits) (s b v k n : ℕ) (t : Bool) → is_input (signal_at tables s).sort ≡ t → w 0 ≡ pos 0
    → is_interface_of d (signal_at tables s) ≡ true → HandsIn tables d p handed f → PureZero tables (emitted w es)
    → Satisfies f w (cond t (handed_equations tables d p s b v) (emitted_equations tables d p s b v k (folded_status tables s n k es)))
    → StatusSays w b v (cond t (input_status (handed s) (values_held tables d p f s)) (emitted_status (signal_at tables s) s (values_held tables d p f s) (emitted w es)))
status_says tables d p handed f w es s b v k n true e z i given pure h = handed_says tables d p handed f w s b v (ap (λ x. x && is_input (signal_at tables s).sort) i ∙ e) given h
status_says tables d p handed f w es s b v k n false e z i given pure h = emitted_says tables d p f w es s b v k n z i pure h

abbrev status_with : Bool → ℤ → Status
status_with x y = record { present = x; value = y }

same_status : (w : ℕ → ℤ) (b v : ℕ) (status : Status) → StatusSays w b v status → record { present = is_on w b; value = w v } ≡ status
same_status w b v status h = ap₂ status_with h.present h.value

pub told_statuses : (tables : Tables) (d : ℕ) (p : Stmt) (handed : ℕ → Option ℤ) (f w : ℕ → ℤ) (es : List Emits) (k n : ℕ) → w 0 ≡ pos 0 → HandsIn tables d p handed f → PureZero tables (emitted w es)
    → Satisfies f w (all_statuses tables d p (interface_of tables d) (first_presence_wire tables d) (first_value_wire tables d) k n es)
    → (s : ℕ) → is_interface_of d (signal_at tables s) ≡ true → told_env w (domain_wires tables d) s ≡ status_in tables handed (values_held tables d p f) (emitted w es) s
told_statuses tables d p handed f w es k n z given pure h s i =
    let x = found tables d p f w es (interface_of tables d) (first_presence_wire tables d) (first_value_wire tables d) k n s (interface_has tables d s i) h in
    let says = status_says tables d p handed f w es s x.b x.v x.k x.n (is_input (signal_at tables s).sort) refl z i given pure x.solved in
    ap₂ (λ b v. status_with (is_on w b) (w v)) x.present x.value ∙ same_status w x.b x.v (status_in tables handed (values_held tables d p f) (emitted w es) s) says
