-- Kinds of the wires of a domain's interface signals.
use Rattle.std.proofs.Common.{◌≡◌, ℕ, suc, ◌+◌, ◌<◌, ◌≤◌, ◌==◌, pos, Bool, true, false, ◌&&◌, ◌||◌, cond, List, [], ◌∷◌, length, map, Option, Some, None, refl, sym, ap, ◌∙◌, subst, arith}
use Rattle.std.specs.Prelude.{unwrap_or}
use Rattle.std.proofs.lemmas.List.{length-append, length-map}
use Rattle.std.proofs.lemmas.Bool.{true≢false, or_left, or_right, eq-eqb, eqb-true}
use Rattle.java_values.specs.declared.kind.Kind.{Kind}
use Rattle.java_values.specs.declared.kind.Kind.TheVariants as kind
use Rattle.kernel_terms.specs.declared.tables.Tables.{Tables}
use Rattle.kernel_terms.specs.declared.tables.SignalInfo.{SignalInfo}
use Rattle.kernel_terms.specs.Statements.{Stmt}
use Rattle.kernel_terms.specs.TableEntries.{signal_at, value_kind, is_input, is_interface_of, valued_of}
use Rattle.kernel_terms.specs.WellFormed.{combines}
use Rattle.kernel_rules.specs.definitions.Registers.{first_value}
use Rattle.tick_code.specs.WellKinded.{Class, Of, Constant, Fits}
use Rattle.surf_graph.specs.definitions.Formulas.{Formula, Const, Get, Same, Equation, Within, Reads}
use Rattle.surf_graph.specs.definitions.Formulas as formula
use Rattle.surf_graph.specs.definitions.Copies.{Emits, Folded, fold_step, fold_emits, has}
use Rattle.surf_graph.specs.definitions.DomainCopies.{value_before, fold_conditions, folded_as, folded_status, emitted_equations, handed_equations, status_equations, all_statuses}
use Rattle.surf_graph.specs.definitions.KindedWires.{SameBelow}
use Rattle.surf_graph.specs.definitions.KindedFormulas.{HasKind, HaveKinds}
use Rattle.surf_graph.specs.definitions.KindedCopies.{EachCombines, EmissionsFit}
use Rattle.surf_graph.proofs.DomainStatuses.{no_value, valued_has}
use Rattle.surf_graph.proofs.Frames.{EmitsBelow, emits_more, within_append}
use Rattle.surf_graph.proofs.StartInside.{FoldInside, fold_inside}
use Rattle.surf_graph.proofs.KindedExpressions.{same_twice}
use Rattle.surf_graph.proofs.KindedOperations.{listed, listed_below, listed_first, fits_as}
use Rattle.surf_graph.proofs.KindedEquations.{fits_still, kinds_still, kinds_both}
use Rattle.surf_graph.proofs.KindedParts.{same_itself, truth, off_fits, emissions_still}
use Rattle.surf_graph.proofs.KindedLocals.{emits_signal, one_class, last_class, fold_kinded}
use Rattle.surf_graph.proofs.KindedPlaces.{FrameParts, input_has, listed_register, Places, places_still, places_head, places_tail}

-- the emissions of a signal

-- wires of whether some was on, and of their combination
pub record StatusKinded (tables : Tables) (frame : List Kind) (b : Bool) (o : Option Kind) (n : ℕ) (c : ℕ → Class) (r : Folded) : Type 0 where
  pub classes : ℕ → Class
  pub same : SameBelow n c classes
  pub each : HaveKinds tables frame classes r.equations
  pub some_is : classes r.some ≡ cond b (Of kind.Boolean) (Constant (pos 0))
  pub value_is : classes r.value ≡ last_class o

pub record ConditionsKinded (tables : Tables) (frame : List Kind) (b : Bool) (n some : ℕ) (c : ℕ → Class) (r : Folded) : Type 0 where
  pub classes : ℕ → Class
  pub same : SameBelow n c classes
  pub each : HaveKinds tables frame classes r.equations
  pub some_is : classes r.some ≡ cond b (Of kind.Boolean) (c some)

abbrev condition_step : ℕ → ℕ → Emits → Folded → Folded
condition_step n some e r = record r { equations = record { wire = n; formula = formula.Or some e.condition } ∷ r.equations }

pick_conditions : (tables : Tables) (frame : List Kind) (t b : Bool) (n some : ℕ) (c : ℕ → Class) (r q : Folded) → (t ≡ true → ConditionsKinded tables frame true n some c r) → ConditionsKinded tables frame b n some c q → ConditionsKinded tables frame (t || b) n some c (cond t r q)
pick_conditions tables frame true b n some c r q h i = h refl
pick_conditions tables frame false b n some c r q h i = i

condition_kinded : (tables : Tables) (frame : List Kind) (b : Bool) (n some : ℕ) (c : ℕ → Class) (e : Emits) (r : Folded) → some < n → e.condition < n → Fits kind.Boolean (c some) → Fits kind.Boolean (c e.condition)
    → ConditionsKinded tables frame b (n + 1) n (listed c n (Of kind.Boolean ∷ [])) r → ConditionsKinded tables frame true n some c (condition_step n some e r)
condition_kinded tables frame b n some c e r ls lc fs fc h =
    let xs : List Class = Of kind.Boolean ∷ [] in
    let c1 = listed c n xs in
    let d = h.classes in
    let s : SameBelow n c d = same_twice n (n + 1) c c1 d (omega arith) (listed_below c n xs) h.same in
    let at : d n ≡ Of kind.Boolean = (h.same).at n (omega arith) ∙ listed_first c n xs in
    record {
      classes = d;
      same = s;
      each = ((fits_still kind.Boolean n c d some s ls fs, fits_still kind.Boolean n c d e.condition s lc fc, at), h.each);
      some_is = h.some_is ∙ ap (λ z. cond b (Of kind.Boolean) z) (listed_first c n xs) ∙ one_class b (Of kind.Boolean);
    }

conditions_kinded : (tables : Tables) (frame : List Kind) (s n some : ℕ) (es : List Emits) (c : ℕ → Class) → EmitsBelow n es → some < n → Fits kind.Boolean (c some) → EmissionsFit tables c es → ConditionsKinded tables frame (emits_signal s es) n some c (fold_conditions s n some es)
conditions_kinded tables frame s n some [] c b ls fs h = record { classes = c; same = same_itself n c; each = tt; some_is = refl }
conditions_kinded tables frame s n some (e ∷ es) c b ls fs h =
    let xs : List Class = Of kind.Boolean ∷ [] in
    let c1 = listed c n xs in
    let g = listed_below c n xs in
    let one = h.0 in
    pick_conditions tables frame (e.signal == s) (emits_signal s es) n some c (condition_step n some e (fold_conditions s (n + 1) n es)) (fold_conditions s n some es)
    (λ t. condition_kinded tables frame (emits_signal s es) n some c e (fold_conditions s (n + 1) n es) ls b.0 fs one.condition
    (conditions_kinded tables frame s (n + 1) n es c1 (emits_more n (n + 1) es (omega arith) b.1.1) (omega arith) (truth c1 n (listed_first c n xs)) (emissions_still tables n c c1 es g b.1.1 h.1)))
    (conditions_kinded tables frame s n some es c b.1.1 ls fs h.1)

folded_kinded : (tables : Tables) (frame : List Kind) (s n before : ℕ) (es : List Emits) (c : ℕ → Class) (o : Option Kind) → EachCombines tables → (signal_at tables s).kind ≡ o → c 0 ≡ Constant (pos 0) → 0 < n → EmitsBelow n es → before < n → c before ≡ last_class o → EmissionsFit tables c es
    → StatusKinded tables frame (emits_signal s es) o n c (folded_as (signal_at tables s) o s n before es)
folded_kinded tables frame s n before es c None each e z some b lb at h =
    let q = conditions_kinded tables frame s n 0 es c b some (off_fits kind.Boolean c z) h in
    record {
      classes = q.classes;
      same = q.same;
      each = q.each;
      some_is = q.some_is ∙ ap (λ t. cond (emits_signal s es) (Of kind.Boolean) t) z;
      value_is = ap q.classes (no_value s n 0 es) ∙ (q.same).at 0 some ∙ z;
    }
folded_kinded tables frame s n before es c (Some k) each e z some b lb at h =
    let info = signal_at tables s in
    let is : value_kind info ≡ k = ap (λ t. unwrap_or t kind.Boolean) e in
    let fits : Fits (value_kind info) (c before) = fits_as (value_kind info) c before (Of k) at (sym is) in
    let q =
    fold_kinded tables frame info s n 0 before es c refl b some lb (off_fits kind.Boolean c z) fits
    (ap (λ t. combines (Some t) info.combine) is ∙ ap (λ t. combines t info.combine) (sym e) ∙ each.at s) (λ t. at ∙ ap Of (sym is)) h in
    record {
      classes = q.classes;
      same = q.same;
      each = q.each;
      some_is = q.some_is ∙ ap (λ t. cond (emits_signal s es) (Of kind.Boolean) t) z;
      value_is = q.value_is ∙ ap (λ t. cond (emits_signal s es) (Of t) (c before)) is ∙ ap (λ t. cond (emits_signal s es) (Of k) t) at ∙ one_class (emits_signal s es) (Of k);
    }

pick_inside : (limit n some : ℕ) (e : Emits) (t : Bool) (r q : Folded) → some < n → e.condition < n → (n + 1 + length r.equations ≤ limit → FoldInside limit r) → (n + length q.equations ≤ limit → FoldInside limit q)
    → n + length (cond t (condition_step n some e r) q).equations ≤ limit → FoldInside limit (cond t (condition_step n some e r) q)
pick_inside limit n some e true r q ls lc here there le =
    let z = here (omega (arith, le)) in
    record { some = z.some; value = z.value; equations = (omega (arith, le), ((omega (arith, ls, le), omega (arith, lc, le)), z.equations)) }
pick_inside limit n some e false r q ls lc here there le = there le

conditions_inside : (s n some limit : ℕ) (es : List Emits) → 0 < n → EmitsBelow n es → some < n → n + length (fold_conditions s n some es).equations ≤ limit → FoldInside limit (fold_conditions s n some es)
conditions_inside s n some limit [] p h u le = record { some = omega (arith, u, le); value = omega (arith, p, le); equations = tt }
conditions_inside s n some limit (e ∷ es) p h u le =
    pick_inside limit n some e (e.signal == s) (fold_conditions s (n + 1) n es) (fold_conditions s n some es) u h.0
    (λ i. conditions_inside s (n + 1) n limit es (omega arith) (emits_more n (n + 1) es (omega arith) h.1.1) (omega arith) i) (λ i. conditions_inside s n some limit es p h.1.1 u i) le

folded_inside : (info : SignalInfo) (o : Option Kind) (s n before limit : ℕ) (es : List Emits) → 0 < n → EmitsBelow n es → before < n → n + length (folded_as info o s n before es).equations ≤ limit → FoldInside limit (folded_as info o s n before es)
folded_inside info None s n before limit es p h lb le = conditions_inside s n 0 limit es p h p le
folded_inside info (Some k) s n before limit es p h lb le = fold_inside info s n 0 before limit es h p lb le

-- the classes of the wires of a signal's presence, of its value, and of its value before

abbrev pub presence_class : Tables → List Emits → ℕ → Class
presence_class tables es s = cond (is_input (signal_at tables s).sort) (Of kind.Boolean) (cond (emits_signal s es) (Of kind.Boolean) (Constant (pos 0)))

abbrev pub signal_class : Tables → ℕ → Class
signal_class tables s = cond (is_input (signal_at tables s).sort) (Of (value_kind (signal_at tables s))) (last_class (signal_at tables s).kind)

abbrev pub before_class : Tables → ℕ → Class
before_class tables s = last_class (signal_at tables s).kind

before_has : (tables : Tables) (d : ℕ) (p : Stmt) (frame : List Kind) (s : ℕ) (o : Option Kind) (c : ℕ → Class) → FrameParts tables d p frame → is_interface_of d (signal_at tables s) ≡ true → (signal_at tables s).kind ≡ o → HasKind tables frame c (value_before tables d p s o) (last_class o)
before_has tables d p frame s None c h i e = refl
before_has tables d p frame s (Some k) c h i e =
    let x = listed_register frame (first_value tables d p) (λ r. value_kind (signal_at tables r)) (valued_of tables d) s h.values (valued_has tables d s k i e) in
    (x.0, ap Of (sym (x.1 ∙ ap (λ t. unwrap_or t kind.Boolean) e)))

before_reads : (tables : Tables) (d : ℕ) (p : Stmt) (s : ℕ) (o : Option Kind) (limit : ℕ) → Reads limit (value_before tables d p s o)
before_reads tables d p s None limit = tt
before_reads tables d p s (Some k) limit = tt

pub record AllKinded (tables : Tables) (frame : List Kind) (n : ℕ) (es : List Equation) (c : ℕ → Class) : Type 0 where
  pub classes : ℕ → Class
  pub same : SameBelow n c classes
  pub each : HaveKinds tables frame classes es

one_kinded : (tables : Tables) (d : ℕ) (p : Stmt) (frame : List Kind) (s b v k n : ℕ) (es : List Emits) (c : ℕ → Class) (t : Bool) → is_input (signal_at tables s).sort ≡ t → EachCombines tables → FrameParts tables d p frame → is_interface_of d (signal_at tables s) ≡ true → c 0 ≡ Constant (pos 0) → 0 < n → EmitsBelow n es → EmissionsFit tables c es
    → b < n → v < n → k < n → c b ≡ cond t (Of kind.Boolean) (cond (emits_signal s es) (Of kind.Boolean) (Constant (pos 0))) → c v ≡ cond t (Of (value_kind (signal_at tables s))) (last_class (signal_at tables s).kind) → c k ≡ before_class tables s
    → AllKinded tables frame n (cond t (handed_equations tables d p s b v) (emitted_equations tables d p s b v k (folded_status tables s n k es))) c
one_kinded tables d p frame s b v k n es c true e each parts i z some be fe lb lv lk cb cv ck =
    let x = input_has tables d p frame s parts (ap (λ q. q && is_input (signal_at tables s).sort) i ∙ e) in
    let l = x.less in
    record { classes = c; same = same_itself n c; each = ((omega (arith, l), cb ∙ ap Of (sym x.present)), ((l, cv ∙ ap Of (sym x.value)), tt)) }
one_kinded tables d p frame s b v k n es c false e each parts i z some be fe lb lv lk cb cv ck =
    let o = (signal_at tables s).kind in
    let q = folded_kinded tables frame s n k es c o each refl z some be lk ck fe in
    let f = q.classes in
    let g = q.same in
    record {
      classes = f;
      same = g;
      each = (
        g.at b lb ∙ cb ∙ sym q.some_is,
        (
          g.at v lv ∙ cv ∙ sym q.value_is,
          (subst (λ x. HasKind tables frame f (value_before tables d p s o) x) (sym (g.at k lk ∙ ck)) (before_has tables d p frame s o f parts i refl), q.each),
        ),
      );
    }

one_inside : (tables : Tables) (d : ℕ) (p : Stmt) (s b v k n limit : ℕ) (es : List Emits) (t : Bool) → 0 < n → EmitsBelow n es → b < n → v < n → k < n → n + length (folded_status tables s n k es).equations ≤ limit
    → Within limit (cond t (handed_equations tables d p s b v) (emitted_equations tables d p s b v k (folded_status tables s n k es)))
one_inside tables d p s b v k n limit es true some be lb lv lk le = (omega (arith, lb, le), (tt, (omega (arith, lv, le), (tt, tt))))
one_inside tables d p s b v k n limit es false some be lb lv lk le =
    let x = folded_inside (signal_at tables s) (signal_at tables s).kind s n k limit es some be lk le in
    (omega (arith, lb, le), (x.some, (omega (arith, lv, le), (x.value, (omega (arith, lk, le), (before_reads tables d p s (signal_at tables s).kind limit, x.equations))))))

-- an input isn't emitted

no_emission : (tables : Tables) (c : ℕ → Class) (es : List Emits) (s : ℕ) → EmissionsFit tables c es → is_input (signal_at tables s).sort ≡ true → emits_signal s es ≡ false
no_emission tables c [] s h i = refl
no_emission tables c (e ∷ es) s h i = by_test (e.signal == s) refl (no_emission tables c es s h.1 i)
  where
    by_test : (t : Bool) → (e.signal == s) ≡ t → emits_signal s es ≡ false → t || emits_signal s es ≡ false
    by_test true q rest = let one = h.0 in absurd (true≢false (sym i ∙ ap (λ j. is_input (signal_at tables j).sort) (sym (eqb-true e.signal s q)) ∙ one.emitted))
    by_test false q rest = rest

no_conditions : (s n some : ℕ) (es : List Emits) → emits_signal s es ≡ false → (fold_conditions s n some es).equations ≡ []
no_conditions s n some [] h = refl
no_conditions s n some (e ∷ es) h = by_test (e.signal == s) h (λ g. no_conditions s n some es g)
  where
    by_test : (t : Bool) → t || emits_signal s es ≡ false → (emits_signal s es ≡ false → (fold_conditions s n some es).equations ≡ []) → (cond t (condition_step n some e (fold_conditions s (n + 1) n es)) (fold_conditions s n some es)).equations ≡ []
    by_test true g rest = absurd (true≢false g)
    by_test false g rest = rest g

no_fold : (info : SignalInfo) (s n some value : ℕ) (es : List Emits) → emits_signal s es ≡ false → (fold_emits info s n some value es).equations ≡ []
no_fold info s n some value [] h = refl
no_fold info s n some value (e ∷ es) h = by_test (e.signal == s) h (λ g. no_fold info s n some value es g)
  where
    by_test : (t : Bool) → t || emits_signal s es ≡ false → (emits_signal s es ≡ false → (fold_emits info s n some value es).equations ≡ [])
        → (cond t (fold_step info n some value e (fold_emits info s (n + 3) (n + 2) (n + 1) es)) (fold_emits info s n some value es)).equations ≡ []
    by_test true g rest = absurd (true≢false g)
    by_test false g rest = rest g

no_folded : (info : SignalInfo) (o : Option Kind) (s n before : ℕ) (es : List Emits) → emits_signal s es ≡ false → (folded_as info o s n before es).equations ≡ []
no_folded info None s n before es h = no_conditions s n 0 es h
no_folded info (Some k) s n before es h = no_fold info s n 0 before es h

-- a signal has as many equations as its fold at least
fold_is_less : (tables : Tables) (d : ℕ) (p : Stmt) (c : ℕ → Class) (s b v k n : ℕ) (es : List Emits) (t : Bool) → is_input (signal_at tables s).sort ≡ t → EmissionsFit tables c es
    → length (folded_status tables s n k es).equations ≤ length (cond t (handed_equations tables d p s b v) (emitted_equations tables d p s b v k (folded_status tables s n k es)))
fold_is_less tables d p c s b v k n es true e h =
    let none = ap (λ (xs : List Equation). length xs) (no_folded (signal_at tables s) (signal_at tables s).kind s n k es (no_emission tables c es s h e)) in
    omega (arith, none)
fold_is_less tables d p c s b v k n es false e h = omega arith

pub statuses_inside : (tables : Tables) (d : ℕ) (p : Stmt) (c : ℕ → Class) (is : List ℕ) (b v k n limit : ℕ) (es : List Emits) → EmissionsFit tables c es → 0 < n → EmitsBelow n es → b + length is ≤ n → v + length is ≤ n → k + length is ≤ n → n + length (all_statuses tables d p is b v k n es) ≤ limit
    → Within limit (all_statuses tables d p is b v k n es)
statuses_inside tables d p c [] b v k n limit es fe some be lb lv lk le = tt
statuses_inside tables d p c (s ∷ is) b v k n limit es fe some be lb lv lk le =
    let t = is_input (signal_at tables s).sort in
    let r = folded_status tables s n k es in
    let m = n + length r.equations in
    let here = status_equations tables d p s b v k n es in
    let rest = all_statuses tables d p is (suc b) (suc v) (suc k) m es in
    let l = length-append here rest in
    let f = fold_is_less tables d p c s b v k n es t refl fe in
    let more = emits_more n m es (omega arith) be in
    within_append limit here rest (one_inside tables d p s b v k n limit es t some be (omega (arith, lb)) (omega (arith, lv)) (omega (arith, lk)) (omega (arith, l, f, le)))
    (statuses_inside tables d p c is (suc b) (suc v) (suc k) m limit es fe (omega (arith, some)) more (omega (arith, lb)) (omega (arith, lv)) (omega (arith, lk)) (omega (arith, l, f, le)))

pub statuses_kinded : (tables : Tables) (d : ℕ) (p : Stmt) (frame : List Kind) (is : List ℕ) (b v k n : ℕ) (es : List Emits) (c : ℕ → Class) → EachCombines tables → FrameParts tables d p frame → ((s : ℕ) → has is s ≡ true → is_interface_of d (signal_at tables s) ≡ true) → c 0 ≡ Constant (pos 0) → 0 < n → EmitsBelow n es → EmissionsFit tables c es
    → b + length is ≤ n → v + length is ≤ n → k + length is ≤ n → Places c b (map (presence_class tables es) is) → Places c v (map (signal_class tables) is) → Places c k (map (before_class tables) is) → AllKinded tables frame n (all_statuses tables d p is b v k n es) c
statuses_kinded tables d p frame [] b v k n es c each parts own z some be fe lb lv lk pb pv pk = record { classes = c; same = same_itself n c; each = tt }
statuses_kinded tables d p frame (s ∷ is) b v k n es c each parts own z some be fe lb lv lk pb pv pk =
    let t = is_input (signal_at tables s).sort in
    let r = folded_status tables s n k es in
    let m = n + length r.equations in
    let here = status_equations tables d p s b v k n es in
    let rest = all_statuses tables d p is (suc b) (suc v) (suc k) m es in
    let ps = map (presence_class tables es) is in
    let vs = map (signal_class tables) is in
    let ks = map (before_class tables) is in
    let lp = length-map is (presence_class tables es) in
    let lw = length-map is (signal_class tables) in
    let ll = length-map is (before_class tables) in
    let i : is_interface_of d (signal_at tables s) ≡ true = own s (or_left (s == s) (has is s) (eq-eqb s s refl)) in
    let x =
    one_kinded tables d p frame s b v k n es c t refl each parts i z some be fe (omega (arith, lb)) (omega (arith, lv)) (omega (arith, lk)) (places_head c b (presence_class tables es s) ps pb) (places_head c v (signal_class tables s) vs pv)
    (places_head c k (before_class tables s) ks pk) in
    let e = x.classes in
    let g = x.same in
    let more = emits_more n m es (omega arith) be in
    let q =
    statuses_kinded tables d p frame is (suc b) (suc v) (suc k) m es e each parts (λ j h. own j (or_right (s == j) (has is j) h)) (g.at 0 some ∙ z) (omega (arith, some)) more (emissions_still tables n c e es g be fe) (omega (arith, lb)) (omega (arith, lv)) (omega (arith, lk))
    (places_still c e (suc b) n ps g (omega (arith, lb, lp)) (places_tail c b (presence_class tables es s) ps pb)) (places_still c e (suc v) n vs g (omega (arith, lv, lw)) (places_tail c v (signal_class tables s) vs pv))
    (places_still c e (suc k) n ks g (omega (arith, lk, ll)) (places_tail c k (before_class tables s) ks pk)) in
    let f = q.classes in
    record {
      classes = f;
      same = same_twice n m c e f (omega arith) g q.same;
      each =
          kinds_both tables frame f here rest (kinds_still tables frame m e f here q.same (one_inside tables d p s b v k n m es t some be (omega (arith, lb)) (omega (arith, lv)) (omega (arith, lk)) (omega arith)) x.each) q.each;
    }
