-- Local signals: their emissions fold to the wires of presence and value.
use Rattle.std.proofs.Common.{◌≡◌, ℕ, ◌+◌, ◌==◌, ℤ, pos, Bool, true, false, ◌&&◌, ◌||◌, cond, List, [], ◌∷◌, refl, sym, ap, ap₂, ◌∙◌, arith, Option, None, Some}
use Rattle.std.specs.Prelude.{unwrap_or}
use Rattle.std.specs.Int.{int_wrap}
use Rattle.std.proofs.lemmas.Bool.Decides.{nat_tests}
use Rattle.std.proofs.Math.Path.{fun_ext}
use Rattle.java_values.specs.Arithmetic.{is_true}
use Rattle.java_values.specs.declared.kind.Kind.{Kind}
use Rattle.java_values.specs.declared.kind.Kind.TheVariants as kind
use Rattle.kernel_terms.specs.declared.tables.Tables.{Tables}
use Rattle.kernel_terms.specs.declared.tables.SignalInfo.{SignalInfo}
use Rattle.kernel_terms.specs.declared.tables.Combine.{Combine}
use Rattle.kernel_terms.specs.declared.tables.Combine.TheVariants.{Add, Max, Min, And, Or, Xor}
use Rattle.kernel_terms.specs.TableEntries.{signal_at, value_kind}
use Rattle.kernel_rules.specs.definitions.Signals.{Emission, Status, put_at, is_emitted, values_of, without, combined, combined_all, folded}
use Rattle.surf_graph.specs.definitions.Formulas.{Wires, Formula, Reads, formula_value, Satisfies, to_nat, is_on, told_env}
use Rattle.surf_graph.specs.definitions.Copies.{fold_info, combined_as, Copy, Context, Emits, Folded, fold_step, fold_emits, emits_without, with_signal, local_copy}
use Rattle.surf_graph.specs.definitions.StartingCopies.{first_formula}
use Rattle.surf_graph.specs.definitions.Tells.{emitted, PureZero}
use Rattle.surf_graph.proofs.SetValues.{truth_of}

-- the environment that the wires tell inside

abbrev status_at : (ℕ → ℤ) → ℕ → ℕ → Status
status_at w b x = record { present = is_on w b; value = w x }

at_signal : (w : ℕ → ℤ) (t : Bool) (b d x y : ℕ) → status_at w (cond t b d) (cond t x y) ≡ cond t (status_at w b x) (status_at w d y)
at_signal w true b d x y = refl
at_signal w false b d x y = refl

pub told_local : (w : ℕ → ℤ) (v : Wires) (s b x : ℕ) → told_env w (with_signal s b x v) ≡ put_at (told_env w v) s (record { present = is_on w b; value = w x })
told_local w v s b x = fun_ext (λ k. at_signal w (k == s) b (v.present k) x (v.value k))

-- folding

abbrev pub folded_from : SignalInfo → Bool → ℤ → List ℤ → ℤ
folded_from info true v vs = combined_all info.combine (value_kind info) v vs
folded_from info false v vs = folded info v vs

pub record Says (w : ℕ → ℤ) (info : SignalInfo) (s before so_far : ℕ) (m : List Emission) (r : Folded) : Type 0 where
  pub some : is_on w r.some ≡ is_on w before || is_emitted m s
  pub value : w r.value ≡ folded_from info (is_on w before) (w so_far) (values_of s m)

step_some : (a b c : Bool) → (a || b) || c ≡ a || (b || c)
step_some true b c = refl
step_some false b c = refl

step_value : (info : SignalInfo) (some c : Bool) (v u : ℤ) (vs : List ℤ)
    → folded_from info (some || c) (cond c (cond some (combined info.combine (value_kind info) v u) u) v) vs ≡ folded_from info some v (cond c (u ∷ vs) vs)
step_value info true true v u vs = refl
step_value info true false v u vs = refl
step_value info false true v u vs = refl
step_value info false false v u vs = refl

emitted_here : (c : Bool) (e : Emission) (m : List Emission) (s : ℕ) → (e.signal == s) ≡ true → is_emitted (cond c (e ∷ m) m) s ≡ c || is_emitted m s
emitted_here true e m s h = ap (λ b. b || is_emitted m s) h
emitted_here false e m s h = refl

values_here : (c : Bool) (e : Emission) (m : List Emission) (s : ℕ) → (e.signal == s) ≡ true → values_of s (cond c (e ∷ m) m) ≡ cond c (e.value ∷ values_of s m) (values_of s m)
values_here true e m s h = ap (λ b. cond b (e.value ∷ values_of s m) (values_of s m)) h
values_here false e m s h = refl

emitted_there : (c : Bool) (e : Emission) (m : List Emission) (s : ℕ) → (e.signal == s) ≡ false → is_emitted (cond c (e ∷ m) m) s ≡ is_emitted m s
emitted_there true e m s h = ap (λ b. b || is_emitted m s) h
emitted_there false e m s h = refl

values_there : (c : Bool) (e : Emission) (m : List Emission) (s : ℕ) → (e.signal == s) ≡ false → values_of s (cond c (e ∷ m) m) ≡ values_of s m
values_there true e m s h = ap (λ b. cond b (e.value ∷ values_of s m) (values_of s m)) h
values_there false e m s h = refl

fold_case : (f w : ℕ → ℤ) (info : SignalInfo) (s n some value : ℕ) (e : Emits) (es : List Emits) (b : Bool) → (e.signal == s) ≡ b
    → (Satisfies f w (fold_emits info s (n + 3) (n + 2) (n + 1) es).equations → Says w info s (n + 2) (n + 1) (emitted w es) (fold_emits info s (n + 3) (n + 2) (n + 1) es))
    → (Satisfies f w (fold_emits info s n some value es).equations → Says w info s some value (emitted w es) (fold_emits info s n some value es))
    → Satisfies f w (cond b (fold_step info n some value e (fold_emits info s (n + 3) (n + 2) (n + 1) es)) (fold_emits info s n some value es)).equations
    → Says w info s some value (emitted w (e ∷ es)) (cond b (fold_step info n some value e (fold_emits info s (n + 3) (n + 2) (n + 1) es)) (fold_emits info s n some value es))
fold_case f w info s n some value e es true eq here there k =
    let c = is_on w e.condition in
    let i : Emission = record { signal = e.signal; value = w e.value } in
    let m = emitted w es in
    let rest = here k.1.1.1 in
    let on : is_on w (n + 2) ≡ is_on w some || c = ap is_true k.1.1.0 ∙ truth_of (is_on w some || c) in
    let v : w (n + 1) ≡ cond c (cond (is_on w some) (combined info.combine (value_kind info) (w value) (w e.value)) (w e.value)) (w value) = k.1.0 ∙ ap (λ z. cond c z (w value)) k.0 in
    record {
      some = rest.some ∙ ap (λ b. b || is_emitted m s) on ∙ step_some (is_on w some) c (is_emitted m s) ∙ ap (λ b. is_on w some || b) (sym (emitted_here c i m s eq));
      value = rest.value ∙ ap₂ (λ b z. folded_from info b z (values_of s m)) on v ∙ step_value info (is_on w some) c (w value) (w e.value) (values_of s m) ∙ ap (folded_from info (is_on w some) (w value)) (sym (values_here c i m s eq));
    }
fold_case f w info s n some value e es false eq here there k =
    let c = is_on w e.condition in
    let i : Emission = record { signal = e.signal; value = w e.value } in
    let m = emitted w es in
    let rest = there k in
    record {
      some = rest.some ∙ ap (λ b. is_on w some || b) (sym (emitted_there c i m s eq));
      value = rest.value ∙ ap (folded_from info (is_on w some) (w value)) (sym (values_there c i m s eq));
    }

pub fold_says : (f w : ℕ → ℤ) (info : SignalInfo) (s n some value : ℕ) (es : List Emits)
    → Satisfies f w (fold_emits info s n some value es).equations → Says w info s some value (emitted w es) (fold_emits info s n some value es)
fold_says f w info s n some value [] h = record { some = nil (is_on w some); value = none (is_on w some) } where
  nil : (b : Bool) → b ≡ b || false
  nil true = refl
  nil false = refl

  none : (b : Bool) → w value ≡ folded_from info b (w value) []
  none true = refl
  none false = refl
fold_says f w info s n some value (e ∷ es) h =
    fold_case f w info s n some value e es (e.signal == s) refl
    (λ k. fold_says f w info s (n + 3) (n + 2) (n + 1) es k) (λ k. fold_says f w info s n some value es k) h

-- emissions of other signals

without_if : (s : ℕ) (c : Bool) (e : Emission) (m : List Emission) → without s (cond c (e ∷ m) m) ≡ cond c (cond (e.signal == s) (without s m) (e ∷ without s m)) (without s m)
without_if s true e m = refl
without_if s false e m = refl

same_either : {X : Type 0} (d : Bool) (x : X) → x ≡ cond d x x
same_either true x = refl
same_either false x = refl

without_case : (w : ℕ → ℤ) (s : ℕ) (e : Emits) (es : List Emits) (b : Bool) → emitted w (emits_without s es) ≡ without s (emitted w es)
    → emitted w (cond b (emits_without s es) (e ∷ emits_without s es)) ≡ cond (is_on w e.condition) (cond b (without s (emitted w es)) (record { signal = e.signal; value = w e.value } ∷ without s (emitted w es))) (without s (emitted w es))
without_case w s e es true h = h ∙ same_either (is_on w e.condition) (without s (emitted w es))
without_case w s e es false h = ap (λ l. cond (is_on w e.condition) (record { signal = e.signal; value = w e.value } ∷ l) l) h

pub emitted_without : (w : ℕ → ℤ) (s : ℕ) (es : List Emits) → emitted w (emits_without s es) ≡ without s (emitted w es)
emitted_without w s [] = refl
emitted_without w s (e ∷ es) = without_case w s e es (e.signal == s) (emitted_without w s es) ∙ sym (without_if s (is_on w e.condition) (record { signal = e.signal; value = w e.value }) (emitted w es))

pure_case : (tables : Tables) (s : ℕ) (e : Emission) (m : List Emission) (b : Bool) → ((signal_at tables e.signal).kind ≡ None → e.value ≡ pos 0) → PureZero tables (without s m) → PureZero tables (cond b (without s m) (e ∷ without s m))
pure_case tables s e m true h k = k
pure_case tables s e m false h k = (h, k)

pub pure_without : (tables : Tables) (s : ℕ) (m : List Emission) → PureZero tables m → PureZero tables (without s m)
pure_without tables s [] h = tt
pure_without tables s (e ∷ m) h = pure_case tables s e m (e.signal == s) h.0 (pure_without tables s m h.1)

-- a pure signal has the value 0

no_value : (c : Combine) → combined c kind.Boolean (pos 0) (pos 0) ≡ pos 0
unfolding int_wrap
no_value Add = refl
no_value Max = refl
no_value Min = refl
no_value And = refl
no_value Or = refl
no_value Xor = refl

same_signal : (a b : ℕ) → (a == b) ≡ true → a ≡ b
same_signal a b h = grind (arith, nat_tests)

its_zero : (tables : Tables) (s : ℕ) (i : Emission) → (i.signal == s) ≡ true → (signal_at tables s).kind ≡ None → ((signal_at tables i.signal).kind ≡ None → i.value ≡ pos 0) → i.value ≡ pos 0
its_zero tables s i eq e h = h (ap (λ k. (signal_at tables k).kind) (same_signal i.signal s eq) ∙ e)

zero_case : (c : Combine) (v : ℤ) (vs : List ℤ) (b : Bool) → (b ≡ true → v ≡ pos 0) → combined_all c kind.Boolean (pos 0) vs ≡ pos 0 → combined_all c kind.Boolean (pos 0) (cond b (v ∷ vs) vs) ≡ pos 0
zero_case c v vs true z h = ap (λ u. combined_all c kind.Boolean (combined c kind.Boolean (pos 0) u) vs) (z refl) ∙ ap (λ u. combined_all c kind.Boolean u vs) (no_value c) ∙ h
zero_case c v vs false z h = h

all_zero : (tables : Tables) (s : ℕ) (c : Combine) (m : List Emission) → (signal_at tables s).kind ≡ None → PureZero tables m → combined_all c kind.Boolean (pos 0) (values_of s m) ≡ pos 0
all_zero tables s c [] e h = refl
all_zero tables s c (i ∷ m) e h = zero_case c i.value (values_of s m) (i.signal == s) (λ eq. its_zero tables s i eq e h.0) (all_zero tables s c m e h.1)

fold_zero_case : (info : SignalInfo) (v : ℤ) (vs : List ℤ) (b : Bool) → (b ≡ true → v ≡ pos 0) → combined_all info.combine (value_kind info) (pos 0) vs ≡ pos 0 → folded info (pos 0) vs ≡ pos 0 → folded info (pos 0) (cond b (v ∷ vs) vs) ≡ pos 0
fold_zero_case info v vs true z h k = ap (λ u. combined_all info.combine (value_kind info) u vs) (z refl) ∙ h
fold_zero_case info v vs false z h k = k

pub fold_zero : (tables : Tables) (s : ℕ) (m : List Emission) → (signal_at tables s).kind ≡ None → PureZero tables m → folded (signal_at tables s) (pos 0) (values_of s m) ≡ pos 0
fold_zero tables s [] e h = refl
fold_zero tables s (i ∷ m) e h =
    let info = signal_at tables s in
    fold_zero_case info i.value (values_of s m) (i.signal == s) (λ eq. its_zero tables s i eq e h.0)
    (ap (λ (k : Option Kind). combined_all info.combine (unwrap_or k kind.Boolean) (pos 0) (values_of s m)) e ∙ all_zero tables s info.combine m e h.1) (fold_zero tables s m e h.1)

fold_zero_as : (tables : Tables) (s : ℕ) (o : Combine) (m : List Emission) → (signal_at tables s).kind ≡ None → PureZero tables m → folded (record (signal_at tables s) { combine = o }) (pos 0) (values_of s m) ≡ pos 0
fold_zero_as tables s o [] e h = refl
fold_zero_as tables s o (i ∷ m) e h =
    let info : SignalInfo = record (signal_at tables s) { combine = o } in
    fold_zero_case info i.value (values_of s m) (i.signal == s) (λ eq. its_zero tables s i eq e h.0)
    (ap (λ (k : Option Kind). combined_all o (unwrap_or k kind.Boolean) (pos 0) (values_of s m)) e ∙ all_zero tables s o m e h.1) (fold_zero_as tables s o m e h.1)

same_fold_at : (tables : Tables) (s : ℕ) (v : ℤ) (m : List Emission) (k : Option Kind) → (signal_at tables s).kind ≡ k → ((signal_at tables s).kind ≡ None → v ≡ pos 0) → PureZero tables m
    → folded (combined_as k (signal_at tables s)) v (values_of s m) ≡ folded (signal_at tables s) v (values_of s m)
same_fold_at tables s v m None e z h =
    let or : SignalInfo = record (signal_at tables s) { combine = Or } in
    ap (λ u. folded or u (values_of s m)) (z e) ∙ fold_zero_as tables s Or m e h ∙ sym (ap (λ u. folded (signal_at tables s) u (values_of s m)) (z e) ∙ fold_zero tables s m e h)
same_fold_at tables s v m (Some k) e z h = refl

-- combined as it is, a pure signal has the value 0 too
pub same_fold : (tables : Tables) (s : ℕ) (v : ℤ) (m : List Emission) → ((signal_at tables s).kind ≡ None → v ≡ pos 0) → PureZero tables m
    → folded (fold_info tables s) v (values_of s m) ≡ folded (signal_at tables s) v (values_of s m)
same_fold tables s v m z h = same_fold_at tables s v m (signal_at tables s).kind refl z h

-- what it begins with

pub first_is : (f w : ℕ → ℤ) (k : Option Kind) → formula_value f w (first_formula k) ≡ pos 0
first_is f w None = refl
first_is f w (Some k) = refl

pub first_reads : (m : ℕ) (k : Option Kind) → Reads m (first_formula k)
first_reads m None = tt
first_reads m (Some k) = tt

-- what the wires of a local signal say
pub record LocalSays (tables : Tables) (w : ℕ → ℤ) (s : ℕ) (c : Context) (a : Copy) : Type 0 where
  pub present : is_on w c.next ≡ is_emitted (emitted w a.emits) s
  pub value : w (c.next + 1) ≡ folded (fold_info tables s) (w (c.next + 2)) (values_of s (emitted w a.emits))
  pub pauses : is_on w (c.next + 4) ≡ is_on w c.keep && (to_nat (w a.status) == 2)
  pub holds : is_on w (c.next + 5) ≡ is_on w c.keep && is_on w c.hold

pub local_equations : (tables : Tables) (f w : ℕ → ℤ) (s : ℕ) (last : Formula) (c : Context) (a : Copy) → w 0 ≡ pos 0
    → Satisfies f w (local_copy tables s last c a).equations → Satisfies f w (fold_emits (fold_info tables s) s a.next 0 (c.next + 2) a.emits).equations → LocalSays tables w s c a
local_equations tables f w s last c a z h k =
    let y = fold_says f w (fold_info tables s) s a.next 0 (c.next + 2) a.emits k in
    let zero_off : is_on w 0 ≡ false = ap is_true z in
    record {
      present = ap is_true h.0 ∙ y.some ∙ ap (λ b. b || is_emitted (emitted w a.emits) s) zero_off;
      value = h.1.0 ∙ y.value ∙ ap (λ b. folded_from (fold_info tables s) b (w (c.next + 2)) (values_of s (emitted w a.emits))) zero_off;
      pauses = ap is_true h.1.1.1.1.0 ∙ truth_of (is_on w c.keep && is_on w (c.next + 3)) ∙ ap (λ b. is_on w c.keep && b) (ap is_true h.1.1.1.0 ∙ truth_of (to_nat (w a.status) == 2));
      holds = ap is_true h.1.1.1.1.1.0 ∙ truth_of (is_on w c.keep && is_on w c.hold);
    }
