-- Kinds of the wires of local signals, and of the combinations of their emissions.
use Rattle.std.proofs.Common.{◌≡◌, ℕ, zero, suc, get_or, ◌+◌, ◌<◌, ◌≤◌, nat_lt, ◌==◌, pos, Bool, true, false, ◌||◌, cond, List, [], ◌∷◌, length, Option, Some, None, refl, sym, ap, ◌∙◌, subst, arith}
use Rattle.std.proofs.lemmas.Bool.{true≢false, eqb-true, eqb-false, ne_eqb}
use Rattle.std.specs.Prelude.{unwrap_or}
use Rattle.std.specs.List.{list_all}
use Rattle.surf_graph.proofs.Booleans.{left_of, right_of}
use Rattle.java_values.specs.declared.kind.Kind.{Kind}
use Rattle.java_values.specs.declared.kind.Kind.TheVariants as kind
use Rattle.kernel_terms.specs.declared.tables.Tables.{Tables}
use Rattle.kernel_terms.specs.declared.tables.SignalInfo.{SignalInfo}
use Rattle.kernel_terms.specs.declared.tables.Combine.TheVariants as combine
use Rattle.kernel_terms.specs.TableEntries.{no_signal, signal_at, value_kind, is_interface_of}
use Rattle.kernel_terms.specs.WellFormed.{Scope, combines, has_entries, is_signal_entry, can_use, stands_in}
use Rattle.kernel_rules.specs.definitions.Registers.{value_kinds}
use Rattle.tick_code.specs.WellKinded.{Class, Of, Constant, Fits, IsEither}
use Rattle.surf_graph.specs.definitions.Formulas.{Formula}
use Rattle.surf_graph.specs.definitions.Copies.{Context, Copy, Emits, Folded, fold_step, fold_emits, fold_info, combined_as, emits_without, own_registers, local_context, local_copy}
use Rattle.surf_graph.specs.definitions.KindedWires.{SameBelow}
use Rattle.surf_graph.specs.definitions.KindedFormulas.{is_choice, HasKind, HaveKinds}
use Rattle.surf_graph.specs.definitions.KindedCopies.{register_kind, EachCombines, HasRegisters, ContextFits, EmissionsFit}
use Rattle.surf_graph.proofs.Frames.{EmitsBelow, emits_more, Inside}
use Rattle.surf_graph.proofs.StartInside.{Outside}
use Rattle.surf_graph.proofs.KindedExpressions.{none_fits, operands_still}
use Rattle.surf_graph.proofs.KindedOperations.{listed, listed_below, listed_at, fits_as, small}
use Rattle.surf_graph.proofs.KindedEquations.{fits_still, kinds_both}
use Rattle.surf_graph.proofs.KindedParts.{Kinded, same_itself, variables_still, emissions_still, fitted_still, Own, own_listed, own_still, truth, off_fits, at_register, sets_pair}

-- combinations

one_combines : (domains : ℕ) (xs : List SignalInfo) (s : ℕ) → list_all (is_signal_entry domains) xs ≡ true → combines (get_or xs s no_signal).kind (get_or xs s no_signal).combine ≡ true
one_combines domains [] s h = refl
one_combines domains (x ∷ xs) zero h = right_of (nat_lt x.domain domains) (combines x.kind x.combine) (left_of (is_signal_entry domains x) (list_all (is_signal_entry domains) xs) h)
one_combines domains (x ∷ xs) (suc s) h = one_combines domains xs s (right_of (is_signal_entry domains x) (list_all (is_signal_entry domains) xs) h)

pub entries_combine : (tables : Tables) (domains : ℕ) → has_entries tables domains ≡ true → EachCombines tables
entries_combine tables domains h = record { at = λ s. one_combines domains tables.signals s (left_of (list_all (is_signal_entry domains) tables.signals) _ h) }

-- whether the signal is among those that are emitted
abbrev pub emits_signal : ℕ → List Emits → Bool
emits_signal s [] = false
emits_signal s (e ∷ es) = (e.signal == s) || emits_signal s es

pub record FoldKinded (tables : Tables) (frame : List Kind) (k : Kind) (b : Bool) (n some value : ℕ) (c : ℕ → Class) (r : Folded) : Type 0 where
  pub classes : ℕ → Class
  pub same : SameBelow n c classes
  pub each : HaveKinds tables frame classes r.equations
  pub some_is : classes r.some ≡ cond b (Of kind.Boolean) (c some)
  pub value_is : classes r.value ≡ cond b (Of k) (c value)

pub one_class : (b : Bool) (x : Class) → cond b x x ≡ x
one_class true x = refl
one_class false x = refl

-- an emission of the signal, and then the others
step_kinded : (tables : Tables) (frame : List Kind) (info : SignalInfo) (b : Bool) (n some value : ℕ) (c : ℕ → Class) (e : Emits) (r : Folded) → some < n → value < n → e.condition < n → e.value < n → Fits kind.Boolean (c some) → Fits (value_kind info) (c value)
    → combines (Some (value_kind info)) info.combine ≡ true → (is_choice info.combine ≡ true → c value ≡ Of (value_kind info)) → Fits kind.Boolean (c e.condition) → Fits (value_kind info) (c e.value)
    → FoldKinded tables frame (value_kind info) b (n + 3) (n + 2) (n + 1) (listed c n (Of (value_kind info) ∷ Of (value_kind info) ∷ Of kind.Boolean ∷ [])) r → FoldKinded tables frame (value_kind info) true n some value c (fold_step info n some value e r)
step_kinded tables frame info b n some value c e r ls lv lc le fs fv one choice fc fe h =
    let k = value_kind info in
    let xs : List Class = Of k ∷ Of k ∷ Of kind.Boolean ∷ [] in
    let c1 = listed c n xs in
    let d = h.classes in
    let w = own_still c n 3 (n + 3) xs c1 d (omega arith) (omega arith) h.same (own_listed c n 3 xs) in
    let s = w.below in
    let at1 = w.at 1 (omega arith) in
    let at2 = w.at 2 (omega arith) in
    record {
      classes = d;
      same = s;
      each = (
        (
          fits_still kind.Boolean n c d some s ls fs,
          fits_still k n c d value s lv fv,
          fits_still k n c d e.value s le fe,
          one,
          λ t. s.at value lv ∙ choice t,
          w.first,
        ),
        (
          (fits_still kind.Boolean n c d e.condition s lc fc, subst (λ z. IsEither z (d value) (d (n + 1))) (sym w.first) (fits_still k n c d value s lv fv, at1)),
          ((fits_still kind.Boolean n c d some s ls fs, fits_still kind.Boolean n c d e.condition s lc fc, at2), h.each),
        ),
      );
      some_is = h.some_is ∙ ap (λ z. cond b (Of kind.Boolean) z) (listed_at c n 2 xs) ∙ one_class b (Of kind.Boolean);
      value_is = h.value_is ∙ ap (λ z. cond b (Of k) z) (listed_at c n 1 xs) ∙ one_class b (Of k);
    }

pick_fold : (tables : Tables) (frame : List Kind) (k : Kind) (t b : Bool) (n some value : ℕ) (c : ℕ → Class) (r q : Folded) → (t ≡ true → FoldKinded tables frame k true n some value c r) → FoldKinded tables frame k b n some value c q → FoldKinded tables frame k (t || b) n some value c (cond t r q)
pick_fold tables frame k true b n some value c r q h i = h refl
pick_fold tables frame k false b n some value c r q h i = i

pub fold_kinded : (tables : Tables) (frame : List Kind) (info : SignalInfo) (s n some value : ℕ) (es : List Emits) (c : ℕ → Class) → value_kind info ≡ value_kind (signal_at tables s) → EmitsBelow n es → some < n → value < n → Fits kind.Boolean (c some) → Fits (value_kind info) (c value)
    → combines (Some (value_kind info)) info.combine ≡ true → (is_choice info.combine ≡ true → c value ≡ Of (value_kind info)) → EmissionsFit tables c es → FoldKinded tables frame (value_kind info) (emits_signal s es) n some value c (fold_emits info s n some value es)
fold_kinded tables frame info s n some value [] c ek b ls lv fs fv one choice h = record { classes = c; same = same_itself n c; each = tt; some_is = refl; value_is = refl }
fold_kinded tables frame info s n some value (e ∷ es) c ek b ls lv fs fv one choice h =
    let k = value_kind info in
    let xs : List Class = Of k ∷ Of k ∷ Of kind.Boolean ∷ [] in
    let c1 = listed c n xs in
    let g = listed_below c n xs in
    let fe = h.0 in
    pick_fold tables frame k (e.signal == s) (emits_signal s es) n some value c (fold_step info n some value e (fold_emits info s (n + 3) (n + 2) (n + 1) es)) (fold_emits info s n some value es)
    (λ t.
    let is : e.signal ≡ s = eqb-true e.signal s t in
    let fits : Fits k (c e.value) = subst (λ z. Fits z (c e.value)) (ap (λ i. value_kind (signal_at tables i)) is ∙ sym ek) fe.value in
    step_kinded tables frame info (emits_signal s es) n some value c e (fold_emits info s (n + 3) (n + 2) (n + 1) es) ls lv b.0 b.1.0 fs fv one choice fe.condition fits
    (fold_kinded tables frame info s (n + 3) (n + 2) (n + 1) es c1 ek (emits_more n (n + 3) es (omega arith) b.1.1) (omega arith) (omega arith) (truth c1 (n + 2) (listed_at c n 2 xs)) (fits_as k c1 (n + 1) (Of k) (listed_at c n 1 xs) refl) one
    (λ t. listed_at c n 1 xs) (emissions_still tables n c c1 es g b.1.1 h.1)))
    (fold_kinded tables frame info s n some value es c ek b.1.1 ls lv fs fv one choice h.1)

-- a local signal

-- the class of the wire of its last value
abbrev pub last_class : Option Kind → Class
last_class None = Constant (pos 0)
last_class (Some k) = Of k

abbrev pub local_classes : Option Kind → Bool → List Class
local_classes o b =
    cond b (Of kind.Boolean) (Constant (pos 0)) ∷ cond b (Of (unwrap_or o kind.Boolean)) (last_class o) ∷ last_class o ∷ Of kind.Boolean ∷ Of kind.Boolean ∷ Of kind.Boolean ∷ []

pub last_fits : (o : Option Kind) → Fits (unwrap_or o kind.Boolean) (last_class o)
last_fits None = none_fits kind.Boolean
last_fits (Some k) = refl

given_class : (o : Option Kind) (b : Bool) (k : Kind) → o ≡ Some k → cond b (Of (unwrap_or o kind.Boolean)) (last_class o) ≡ Of k
given_class o b k e = ap (λ z. cond b (Of (unwrap_or z kind.Boolean)) (last_class z)) e ∙ one_class b (Of k)

truth_class : (b : Bool) → Fits kind.Boolean (cond b (Of kind.Boolean) (Constant (pos 0)))
truth_class true = refl
truth_class false = none_fits kind.Boolean

same_values : (o : Option Kind) (info : SignalInfo) → value_kind (combined_as o info) ≡ value_kind info
same_values None info = refl
same_values (Some k) info = refl

they_combine : (o : Option Kind) (info : SignalInfo) → info.kind ≡ o → combines o info.combine ≡ true → combines (Some (value_kind (combined_as o info))) (combined_as o info).combine ≡ true
they_combine None info e h = ap (λ z. combines (Some (unwrap_or z kind.Boolean)) combine.Or) e
they_combine (Some k) info e h = ap (λ z. combines (Some (unwrap_or z kind.Boolean)) info.combine) e ∙ h

chosen_class : (o : Option Kind) (info : SignalInfo) → info.kind ≡ o → is_choice (combined_as o info).combine ≡ true → last_class o ≡ Of (value_kind (combined_as o info))
chosen_class None info e h = absurd (true≢false (sym h))
chosen_class (Some k) info e h = sym (ap (λ z. Of (unwrap_or z kind.Boolean)) e)

put_class : (v : ℕ → ℕ) (s n y : ℕ) (t : Bool) (d : ℕ → Class) (k : Kind) → (t ≡ true → Fits k (d n)) → (t ≡ false → Fits k (d (v y))) → Fits k (d (cond t n (v y)))
put_class v s n y true d k h i = h refl
put_class v s n y false d k h i = i refl

used_before : (tables : Tables) (scope : Scope) (s y : ℕ) (t : Bool) → t ≡ false → is_interface_of scope.domain (signal_at tables y) || (t || stands_in y scope.locals) ≡ true → can_use tables scope y ≡ true
used_before tables scope s y true e h = absurd (true≢false e)
used_before tables scope s y false e h = h

other_name : (s y : ℕ) → (y == s) ≡ false → (s == y) ≡ false
other_name s y e = ne_eqb s y (λ q. eqb-false y s e (sym q))

abbrev pub inner_scope : ℕ → Scope → Scope
inner_scope s scope = record scope { locals = s ∷ scope.locals }

-- the block of a local signal is given wires of their kinds
pub local_context_fits : (tables : Tables) (scope : Scope) (s : ℕ) (b : Bool) (c d : ℕ → Class) (x : Context) → Outside x → Own c x.next 6 (local_classes (signal_at tables s).kind b) d → ContextFits tables scope c x → ContextFits tables (inner_scope s scope) d (local_context tables s x)
local_context_fits tables scope s b c d x o w h =
    let n = x.next in
    let g = w.below in
    let kind_of : Option Kind = (signal_at tables s).kind in
    let f = operands_still tables scope n c d x.wires o.wires g h.operands in
    record {
      zero = g.at 0 o.some ∙ h.zero;
      go = fits_still kind.Boolean n c d x.go g o.go h.go;
      hold = fits_still kind.Boolean n c d x.hold g o.hold h.hold;
      keep = fits_still kind.Boolean n c d x.keep g o.keep h.keep;
      operands = record {
        variables = f.variables;
        present = λ y may.
            put_class x.wires.present s n y (y == s) d kind.Boolean (λ t. fits_as kind.Boolean d n (cond b (Of kind.Boolean) (Constant (pos 0))) w.first (truth_class b))
            (λ t. f.present y (used_before tables scope s y (s == y) (other_name s y t) may));
        value = λ y k may e.
            put_class x.wires.value s (n + 1) y (y == s) d k
            (λ t.
            let is : y ≡ s = eqb-true y s t in
            let own : kind_of ≡ Some k = ap (λ i. (signal_at tables i).kind) (sym is) ∙ e in
            fits_as k d (n + 1) (Of k) (w.at 1 (omega arith) ∙ given_class kind_of b k own) refl)
            (λ t. f.value y k (used_before tables scope s y (s == y) (other_name s y t) may) e);
        last = f.last;
      };
      variables = record { at = λ y own. (variables_still tables scope.domain n c d x.wires.variables g (o.wires).variables h.variables).at y own };
    }

without_fits : (tables : Tables) (d : ℕ → Class) (s : ℕ) (es : List Emits) → EmissionsFit tables d es → EmissionsFit tables d (emits_without s es)
without_fits tables d s [] h = tt
without_fits tables d s (e ∷ es) h = pick (e.signal == s) (without_fits tables d s es h.1) where
  pick : (t : Bool) → EmissionsFit tables d (emits_without s es) → EmissionsFit tables d (cond t (emits_without s es) (e ∷ emits_without s es))
  pick true i = i
  pick false i = (h.0, i)

-- the register of a local signal, if it has one
own_register : (frame : List Kind) (o : Option Kind) (r k : ℕ) → HasRegisters frame r (value_kinds o) → r ≤ k → k < r + length (value_kinds o) → o ≡ Some (register_kind frame k)
own_register frame None r k h low high = absurd (omega (arith, low, high))
own_register frame (Some l) r k h low high = ap Some (sym (at_register frame r (l ∷ []) k 0 h (omega (arith, low, high)) (omega arith)))

pub local_kinded : (tables : Tables) (frame : List Kind) (scope : Scope) (m s : ℕ) (y : Class) (last : Formula) (c : ℕ → Class) (x : Context) (a : Copy) → EachCombines tables → Outside x → ContextFits tables scope c x → HasRegisters frame x.register (value_kinds (signal_at tables s).kind)
    → ((d : ℕ → Class) → HasKind tables frame d last (last_class (signal_at tables s).kind)) → Fits kind.Int y → Inside (x.next + 6) a
    → Kinded tables frame scope.domain (x.register + own_registers tables s) m (x.next + 6) y (listed c x.next (local_classes (signal_at tables s).kind (emits_signal s a.emits))) a → Kinded tables frame scope.domain x.register m x.next y c (local_copy tables s last x a)
local_kinded tables frame scope m s y last c x a each o g regs hl fy u h =
    let n = x.next in
    let info = signal_at tables s in
    let ok : Option Kind = info.kind in
    let b = emits_signal s a.emits in
    let xs = local_classes ok b in
    let d = h.classes in
    let f = h.fitted in
    let grows = u.grows in
    let w = own_still c n 6 (n + 6) xs (listed c n xs) d (omega arith) (omega arith) h.same (own_listed c n 6 xs) in
    let i2 = fold_info tables s in
    let values : value_kind i2 ≡ value_kind info = same_values ok info in
    let lastfits : Fits (value_kind i2) (d (n + 2)) = subst (λ z. Fits z (d (n + 2))) (sym values) (fits_as (unwrap_or ok kind.Boolean) d (n + 2) (last_class ok) (w.at 2 (omega arith)) (last_fits ok)) in
    let z0 : d 0 ≡ Constant (pos 0) = (w.below).at 0 o.some ∙ g.zero in
    let q =
    fold_kinded tables frame i2 s a.next 0 (n + 2) a.emits d values u.emits (omega (arith, grows)) (omega (arith, grows)) (off_fits kind.Boolean d z0) lastfits (they_combine ok info refl (each.at s))
    (λ t. w.at 2 (omega arith) ∙ chosen_class ok info refl t) f.emits in
    let e = q.classes in
    let we = own_still c n 6 a.next xs d e (omega arith) grows q.same w in
    let v = we.below in
    let fe = fitted_still tables frame scope.domain (x.register + own_registers tables s) m (n + 6) y d e a q.same u f in
    let at1 = we.at 1 (omega arith) in
    let at2 = we.at 2 (omega arith) in
    let at3 = we.at 3 (omega arith) in
    let at4 = we.at 4 (omega arith) in
    let at5 = we.at 5 (omega arith) in
    let keep = fits_still kind.Boolean n c e x.keep v o.keep g.keep in
    let r = fold_emits i2 s a.next 0 (n + 2) a.emits in
    let some_is : e r.some ≡ cond b (Of kind.Boolean) (Constant (pos 0)) = q.some_is ∙ ap (λ t. cond b (Of kind.Boolean) t) z0 in
    let value_is : e r.value ≡ cond b (Of (unwrap_or ok kind.Boolean)) (last_class ok) = q.value_is ∙ ap (λ t. cond b (Of t) (d (n + 2))) values ∙ ap (λ t. cond b (Of (unwrap_or ok kind.Boolean)) t) (w.at 2 (omega arith)) in
    record {
      classes = e;
      same = v;
      fitted = record {
        each = (
          we.first ∙ sym some_is,
          (
            at1 ∙ sym value_is,
            (
              subst (λ t. HasKind tables frame e last t) (sym at2) (hl e),
              (
                (fits_as kind.Int e a.status y fe.status fy, small 2 refl, at3),
                (
                  (keep, truth e (n + 3) at3, at4),
                  (
                    (keep, fits_still kind.Boolean n c e x.hold v o.hold g.hold, at5),
                    kinds_both tables frame e r.equations a.equations q.each fe.each,
                  ),
                ),
              ),
            ),
          ),
        );
        status = fe.status;
        live = fe.live;
        emits = without_fits tables e s a.emits fe.emits;
        variables = fe.variables;
        sets =
            sets_pair frame e x.register (x.register + own_registers tables s) m _ a.sets
            (λ k low high.
            let l = register_kind frame k in
            let is : ok ≡ Some l = own_register frame ok x.register k regs low high in (
              record { condition = truth e (n + 4) at4; value = fits_as l e (n + 1) (Of l) (at1 ∙ given_class ok b l is) refl },
              (record { condition = truth e (n + 5) at5; value = fits_as l e (n + 2) (Of l) (at2 ∙ ap last_class is) refl }, tt),
            ))
            fe.sets;
      };
    }
