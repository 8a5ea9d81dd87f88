-- Kinds of the wires of copies, by those of their parts.
use Rattle.std.proofs.Common.{◌≡◌, ℕ, suc, ◌+◌, ◌<◌, ◌≤◌, nat_lt, ◌==◌, pos, Bool, true, false, ◌||◌, cond, List, [], ◌∷◌, ◌++◌, length, get_or, refl, sym, ap, ◌∙◌, subst, arith}
use Rattle.std.proofs.lemmas.List.{get_or_append_left, get_or-append-add, length-append}
use Rattle.std.proofs.lemmas.Bool.{eqb-true}
use Rattle.std.proofs.lemmas.Bool.Decides.{nat_tests}
use Rattle.java_values.specs.declared.kind.Kind.{Kind}
use Rattle.java_values.specs.declared.kind.Kind.TheVariants as kind
use Rattle.java_values.specs.Kinds.{IsInRange}
use Rattle.kernel_terms.specs.declared.tables.Tables.{Tables}
use Rattle.kernel_terms.specs.TableEntries.{signal_at, variable_at, value_kind}
use Rattle.kernel_terms.specs.Expressions.{Test}
use Rattle.kernel_terms.specs.Statements.{Stmt}
use Rattle.kernel_terms.specs.WellFormed.{Scope, fits_test, is_variable_of}
use Rattle.kernel_rules.specs.definitions.TickRule.{writes}
use Rattle.kernel_rules.specs.definitions.Registers.{registers}
use Rattle.tick_code.specs.WellKinded.{Class, Of, Constant, Fits, IsEither}
use Rattle.surf_graph.specs.definitions.Formulas.{WiresBelow, Equation, Within}
use Rattle.surf_graph.specs.definitions.Copies.{Context, Copy, Emits, Sets, below, from, joined, has, both_write, joins, join_wires, wires_by, nothing_built, behind, alternatives, beside, of_trap_copy, weak_copy, tested_copy, plain_copy, starting_if}
use Rattle.surf_graph.specs.definitions.KindedWires.{SameBelow}
use Rattle.surf_graph.specs.definitions.KindedFormulas.{HaveKinds}
use Rattle.surf_graph.specs.definitions.KindedCopies.{register_kind, HasRegisters, HaveVariables, ContextFits, EmissionsFit, SetsFit}
use Rattle.surf_graph.proofs.Frames.{EmitsBelow, SetsBelow, Inside}
use Rattle.surf_graph.proofs.StartInside.{Outside}
use Rattle.surf_graph.proofs.KindedExpressions.{none_fits, same_twice, operands_still}
use Rattle.surf_graph.proofs.KindedOperations.{listed, listed_below, listed_at, listed_first, fits_as, small}
use Rattle.surf_graph.proofs.KindedEquations.{same_less, fits_still, kinds_still, kinds_both}

-- what classes say of a copy, of which status it has; its registers are those from r on below m
pub record Fitted (tables : Tables) (frame : List Kind) (domain r m : ℕ) (x : Class) (d : ℕ → Class) (a : Copy) : Type 0 where
  pub each : HaveKinds tables frame d a.equations
  pub status : d a.status ≡ x
  pub live : Fits kind.Boolean (d a.live)
  pub emits : EmissionsFit tables d a.emits
  pub variables : HaveVariables tables domain d a.variables
  pub sets : (k : ℕ) → r ≤ k → k < m → SetsFit (register_kind frame k) d (a.sets k)

-- there are such classes, which are these below n
pub record Kinded (tables : Tables) (frame : List Kind) (domain r m n : ℕ) (x : Class) (c : ℕ → Class) (a : Copy) : Type 0 where
  pub classes : ℕ → Class
  pub same : SameBelow n c classes
  pub fitted : Fitted tables frame domain r m x classes a

pub same_itself : (n : ℕ) (c : ℕ → Class) → SameBelow n c c
same_itself n c = record { at = λ k less. refl }

pub kinded_before : (tables : Tables) (frame : List Kind) (domain r m n i : ℕ) (x : Class) (c d : ℕ → Class) (a : Copy) → n ≤ i → SameBelow n c d → Kinded tables frame domain r m i x d a → Kinded tables frame domain r m n x c a
kinded_before tables frame domain r m n i x c d a le s h = record { classes = h.classes; same = same_twice n i c d h.classes le s h.same; fitted = h.fitted }

-- classes that stay

pub variables_still : (tables : Tables) (domain n : ℕ) (c d : ℕ → Class) (v : ℕ → ℕ) → SameBelow n c d → ((x : ℕ) → v x < n) → HaveVariables tables domain c v → HaveVariables tables domain d v
variables_still tables domain n c d v s b h = record { at = λ x own. s.at (v x) (b x) ∙ h.at x own }

pub emissions_still : (tables : Tables) (n : ℕ) (c d : ℕ → Class) (es : List Emits) → SameBelow n c d → EmitsBelow n es → EmissionsFit tables c es → EmissionsFit tables d es
emissions_still tables n c d [] s b h = tt
emissions_still tables n c d (e ∷ es) s b h =
    let one = h.0 in (
      record {
        emitted = one.emitted;
        condition = fits_still kind.Boolean n c d e.condition s b.0 one.condition;
        value = fits_still (value_kind (signal_at tables e.signal)) n c d e.value s b.1.0 one.value;
        pure = λ k. s.at e.value b.1.0 ∙ one.pure k;
      },
      emissions_still tables n c d es s b.1.1 h.1,
    )

pub sets_still : (k : Kind) (n : ℕ) (c d : ℕ → Class) (ss : List Sets) → SameBelow n c d → SetsBelow n ss → SetsFit k c ss → SetsFit k d ss
sets_still k n c d [] s b h = tt
sets_still k n c d (i ∷ ss) s b h =
    let one = h.0 in (
      record { condition = fits_still kind.Boolean n c d i.condition s b.0 one.condition; value = fits_still k n c d i.value s b.1.0 one.value },
      sets_still k n c d ss s b.1.1 h.1,
    )

pub fitted_still : (tables : Tables) (frame : List Kind) (domain r m i : ℕ) (x : Class) (d e : ℕ → Class) (a : Copy) → SameBelow a.next d e → Inside i a → Fitted tables frame domain r m x d a → Fitted tables frame domain r m x e a
fitted_still tables frame domain r m i x d e a s u h = record {
  each = kinds_still tables frame a.next d e a.equations s u.equations h.each;
  status = s.at a.status u.status ∙ h.status;
  live = fits_still kind.Boolean a.next d e a.live s u.live h.live;
  emits = emissions_still tables a.next d e a.emits s u.emits h.emits;
  variables = variables_still tables domain a.next d e a.variables s u.variables h.variables;
  sets = λ k low high. sets_still (register_kind frame k) a.next d e (a.sets k) s (u.sets k) (h.sets k low high);
}

pub context_still : (tables : Tables) (scope : Scope) (c d : ℕ → Class) (x : Context) (go hold keep register next : ℕ) → Outside x → SameBelow x.next c d → Fits kind.Boolean (d go) → Fits kind.Boolean (d hold) → Fits kind.Boolean (d keep) → ContextFits tables scope c x
    → ContextFits tables scope d (record { go = go; hold = hold; keep = keep; wires = x.wires; register = register; next = next })
context_still tables scope c d x go hold keep register next o s fg fh fk h = record {
  zero = s.at 0 o.some ∙ h.zero;
  go = fg;
  hold = fh;
  keep = fk;
  operands = operands_still tables scope x.next c d x.wires o.wires s h.operands;
  variables = variables_still tables scope.domain x.next c d x.wires.variables s (o.wires).variables h.variables;
}

-- behind a copy: variables have the wires that it leaves
pub context_behind : (tables : Tables) (scope : Scope) (c d : ℕ → Class) (x : Context) (v : ℕ → ℕ) (go hold keep register next : ℕ) → Outside x → SameBelow x.next c d → Fits kind.Boolean (d go) → Fits kind.Boolean (d hold) → Fits kind.Boolean (d keep) → HaveVariables tables scope.domain d v
    → ContextFits tables scope c x → ContextFits tables scope d (record { go = go; hold = hold; keep = keep; wires = record (x.wires) { variables = v }; register = register; next = next })
context_behind tables scope c d x v go hold keep register next o s fg fh fk hv h =
    let b : WiresBelow x.next x.wires = o.wires in
    let w = operands_still tables scope x.next c d x.wires b s h.operands in
    record {
      zero = s.at 0 o.some ∙ h.zero;
      go = fg;
      hold = fh;
      keep = fk;
      operands = record {
        variables = λ y own. subst (Fits (variable_at tables y).kind) (sym (hv.at y own)) refl;
        present = w.present;
        value = w.value;
        last = w.last;
      };
      variables = hv;
    }

-- wires of a copy's own, by a list of their classes

pub record Own (c : ℕ → Class) (n k : ℕ) (xs : List Class) (d : ℕ → Class) : Type 0 where
  pub below : SameBelow n c d
  pub first : d n ≡ get_or xs 0 (Of kind.Boolean)
  pub at : (i : ℕ) → i < k → d (n + i) ≡ get_or xs i (Of kind.Boolean)

pub own_listed : (c : ℕ → Class) (n k : ℕ) (xs : List Class) → Own c n k xs (listed c n xs)
own_listed c n k xs = record { below = listed_below c n xs; first = listed_first c n xs; at = λ i less. listed_at c n i xs }

pub own_still : (c : ℕ → Class) (n k m : ℕ) (xs : List Class) (d e : ℕ → Class) → 0 < k → n + k ≤ m → SameBelow m d e → Own c n k xs d → Own c n k xs e
own_still c n k m xs d e some le s o = record {
  below = same_twice n m c d e (omega (arith, le)) o.below s;
  first = s.at n (omega (arith, le, some)) ∙ o.first;
  at = λ i less. s.at (n + i) (omega (arith, le, less)) ∙ o.at i less;
}

pub truth : (d : ℕ → Class) (a : ℕ) → d a ≡ Of kind.Boolean → Fits kind.Boolean (d a)
truth d a e = fits_as kind.Boolean d a (Of kind.Boolean) e refl

pub whole : (d : ℕ → Class) (a : ℕ) → d a ≡ Of kind.Int → Fits kind.Int (d a)
whole d a e = fits_as kind.Int d a (Of kind.Int) e refl

pub off_fits : (k : Kind) (d : ℕ → Class) → d 0 ≡ Constant (pos 0) → Fits k (d 0)
off_fits k d z = fits_as k d 0 (Constant (pos 0)) z (none_fits k)

-- registers of a frame

pub first_registers : (frame : List Kind) (r : ℕ) (ks ls : List Kind) → HasRegisters frame r (ks ++ ls) → HasRegisters frame r ks
first_registers frame r ks ls h =
    let l = length-append ks ls in
    let room = h.room in
    record { room = omega (arith, l, room); at = λ i less. h.at i (omega (arith, l, less)) ∙ get_or_append_left ks ls kind.Boolean i less }

pub further_registers : (frame : List Kind) (r : ℕ) (ks ls : List Kind) → HasRegisters frame r (ks ++ ls) → HasRegisters frame (r + length ks) ls
further_registers frame r ks ls h =
    let l = length-append ks ls in
    let room = h.room in
    record {
      room = omega (arith, l, room);
      at = λ i less. ap (register_kind frame) (omega arith) ∙ h.at (length ks + i) (omega (arith, l, less)) ∙ get_or-append-add ks ls i kind.Boolean;
    }

pub at_register : (frame : List Kind) (r : ℕ) (ks : List Kind) (k i : ℕ) → HasRegisters frame r ks → k ≡ r + i → i < length ks → register_kind frame k ≡ register_kind ks i
at_register frame r ks k i h e less = ap (register_kind frame) e ∙ h.at i less

-- sets of two copies

pub sets_both : (k : Kind) (d : ℕ → Class) (ss ts : List Sets) → SetsFit k d ss → SetsFit k d ts → SetsFit k d (ss ++ ts)
sets_both k d [] ts h i = i
sets_both k d (s ∷ ss) ts h i = (h.0, sets_both k d ss ts h.1 i)

sets_of_one : (k : Kind) (d : ℕ → Class) (b : Bool) (ss ts : List Sets) → (b ≡ true → SetsFit k d ss) → (b ≡ false → SetsFit k d ts) → SetsFit k d (cond b ss [] ++ cond b [] ts)
sets_of_one k d true ss ts h i = sets_both k d ss [] (h refl) tt
sets_of_one k d false ss ts h i = i refl

is_below : (k m : ℕ) → nat_lt k m ≡ true → k < m
is_below k m e = grind (arith, nat_tests)

is_from : (k m : ℕ) → nat_lt k m ≡ false → m ≤ k
is_from k m e = grind (arith, nat_tests)

pub sets_pair : (frame : List Kind) (d : ℕ → Class) (r m l : ℕ) (S T : ℕ → List Sets) → ((k : ℕ) → r ≤ k → k < m → SetsFit (register_kind frame k) d (S k)) → ((k : ℕ) → m ≤ k → k < l → SetsFit (register_kind frame k) d (T k))
    → (k : ℕ) → r ≤ k → k < l → SetsFit (register_kind frame k) d (joined (below m S) (from m T) k)
sets_pair frame d r m l S T h i k low high = sets_of_one (register_kind frame k) d (nat_lt k m) (S k) (T k) (λ e. h k low (is_below k m e)) (λ e. i k (is_from k m e) high)

pub emissions_both : (tables : Tables) (d : ℕ → Class) (es ds : List Emits) → EmissionsFit tables d es → EmissionsFit tables d ds → EmissionsFit tables d (es ++ ds)
emissions_both tables d [] ds h k = k
emissions_both tables d (e ∷ es) ds h k = (h.0, emissions_both tables d es ds h.1 k)

-- copies of one part or of none

pub nothing_kinded : (tables : Tables) (frame : List Kind) (scope : Scope) (r m : ℕ) (c : ℕ → Class) (x : Context) → ContextFits tables scope c x → Kinded tables frame scope.domain r m x.next (Constant (pos 0)) c (nothing_built x)
nothing_kinded tables frame scope r m c x h = record {
  classes = c;
  same = same_itself x.next c;
  fitted = record { each = tt; status = h.zero; live = off_fits kind.Boolean c h.zero; emits = tt; variables = h.variables; sets = λ k low high. tt };
}

-- the class of the status of what is built only in this case
abbrev pub class_if : Bool → Class
class_if b = cond b (Of kind.Int) (Constant (pos 0))

pub kinded_if : (tables : Tables) (frame : List Kind) (scope : Scope) (r m : ℕ) (b : Bool) (c : ℕ → Class) (x : Context) (a : Copy) → ContextFits tables scope c x → Kinded tables frame scope.domain r m x.next (Of kind.Int) c a
    → Kinded tables frame scope.domain r m x.next (class_if b) c (starting_if b a x)
kinded_if tables frame scope r m true c x a g h = h
kinded_if tables frame scope r m false c x a g h = nothing_kinded tables frame scope r m c x g

pub plain_kinded : (tables : Tables) (frame : List Kind) (scope : Scope) (r m code : ℕ) (c : ℕ → Class) (x : Context) → IsInRange kind.Int (pos (suc code)) → Outside x → ContextFits tables scope c x → Kinded tables frame scope.domain r m x.next (Of kind.Int) c (plain_copy code x)
plain_kinded tables frame scope r m code c x range o h =
    let n = x.next in
    let xs : List Class = Of kind.Int ∷ [] in
    let d = listed c n xs in
    let w = own_listed c n 1 xs in
    let s = w.below in
    record {
      classes = d;
      same = s;
      fitted = record {
        each = ((fits_still kind.Boolean n c d x.go s o.go h.go, range, w.first), tt);
        status = w.first;
        live = off_fits kind.Boolean d (s.at 0 o.some ∙ h.zero);
        emits = tt;
        variables = variables_still tables scope.domain n c d x.wires.variables s (o.wires).variables h.variables;
        sets = λ k low high. tt;
      };
    }

pub trap_kinded : (tables : Tables) (frame : List Kind) (domain r m : ℕ) (y : Class) (c : ℕ → Class) (x : Context) (a : Copy) → Fits kind.Int y → Kinded tables frame domain r m (x.next + 1) y (listed c x.next (Of kind.Int ∷ [])) a → Kinded tables frame domain r m x.next (Of kind.Int) c (of_trap_copy x a)
trap_kinded tables frame domain r m y c x a fy h =
    let n = x.next in
    let xs : List Class = Of kind.Int ∷ [] in
    let d = h.classes in
    let f = h.fitted in
    let w = own_still c n 1 (n + 1) xs (listed c n xs) d (omega arith) (omega arith) h.same (own_listed c n 1 xs) in
    record {
      classes = d;
      same = w.below;
      fitted = record { each = ((fits_as kind.Int d a.status y f.status fy, w.first), f.each); status = w.first; live = f.live; emits = f.emits; variables = f.variables; sets = f.sets };
    }

abbrev pub weak_classes : List Class
weak_classes = Of kind.Boolean ∷ Of kind.Boolean ∷ Of kind.Boolean ∷ Of kind.Int ∷ Of kind.Boolean ∷ []

pub weak_kinded : (tables : Tables) (frame : List Kind) (scope : Scope) (r m : ℕ) (y : Class) (t : Test) (c : ℕ → Class) (x : Context) (a : Copy) → Outside x → ContextFits tables scope c x → fits_test tables scope t ≡ true → Fits kind.Int y
    → Kinded tables frame scope.domain r m (x.next + 5) y (listed c x.next weak_classes) a → Kinded tables frame scope.domain r m x.next (Of kind.Int) c (weak_copy t x a)
weak_kinded tables frame scope r m y t c x a o g ft fy h =
    let n = x.next in
    let d = h.classes in
    let f = h.fitted in
    let w = own_still c n 5 (n + 5) weak_classes (listed c n weak_classes) d (omega arith) (omega arith) h.same (own_listed c n 5 weak_classes) in
    let s = w.below in
    let at1 = w.at 1 (omega arith) in
    let at2 = w.at 2 (omega arith) in
    let at3 = w.at 3 (omega arith) in
    let at4 = w.at 4 (omega arith) in
    record {
      classes = d;
      same = s;
      fitted = record {
        each = (
          (fits_still kind.Boolean n c d x.keep s o.keep g.keep, truth d (n + 2) at2, w.first),
          (
            (scope, operands_still tables scope n c d x.wires o.wires s g.operands, ft, at1),
            (
              (fits_still kind.Boolean n c d x.hold s o.hold g.hold, truth d (n + 4) at4, at2),
              (
                (truth d (n + 1) at1, fits_as kind.Int d a.status y f.status fy, at3),
                ((whole d (n + 3) at3, small 2 refl, at4), f.each),
              ),
            ),
          ),
        );
        status = at3;
        live = f.live;
        emits = f.emits;
        variables = f.variables;
        sets = f.sets;
      };
    }

abbrev pub tested_classes : List Class
tested_classes = Of kind.Boolean ∷ Of kind.Boolean ∷ Of kind.Boolean ∷ Of kind.Boolean ∷ Of kind.Int ∷ Of kind.Boolean ∷ Of kind.Int ∷ []

pub tested_kinded : (tables : Tables) (frame : List Kind) (scope : Scope) (r m live code : ℕ) (y : Class) (t : Test) (c : ℕ → Class) (x : Context) (a : Copy) → Outside x → ContextFits tables scope c x → fits_test tables scope t ≡ true → Fits kind.Int y → IsInRange kind.Int (pos (suc code))
    → (h : Kinded tables frame scope.domain r m (x.next + 7) y (listed c x.next tested_classes) a) → Fits kind.Boolean (h.classes live) → Kinded tables frame scope.domain r m x.next (Of kind.Int) c (tested_copy t live code x a)
tested_kinded tables frame scope r m live code y t c x a o g ft fy range h fl =
    let n = x.next in
    let d = h.classes in
    let f = h.fitted in
    let w = own_still c n 7 (n + 7) tested_classes (listed c n tested_classes) d (omega arith) (omega arith) h.same (own_listed c n 7 tested_classes) in
    let s = w.below in
    let at1 = w.at 1 (omega arith) in
    let at2 = w.at 2 (omega arith) in
    let at3 = w.at 3 (omega arith) in
    let at4 = w.at 4 (omega arith) in
    let at5 = w.at 5 (omega arith) in
    let at6 = w.at 6 (omega arith) in
    let go = fits_still kind.Boolean n c d x.go s o.go g.go in
    let test = truth d n w.first in
    record {
      classes = d;
      same = s;
      fitted = record {
        each = (
          (scope, operands_still tables scope n c d x.wires o.wires s g.operands, ft, w.first),
          (
            (go, test, at1),
            (
              (go, test, at2),
              (
                (truth d (n + 2) at2, fl, at3),
                (
                  (truth d (n + 3) at3, subst (λ z. IsEither z (d a.status) (d (n + 4))) (sym at6) (fits_as kind.Int d a.status y f.status fy, at4)),
                  (
                    (fits_still kind.Boolean n c d x.hold s o.hold g.hold, truth d (n + 3) at3, at5),
                    ((range, at6), f.each),
                  ),
                ),
              ),
            ),
          ),
        );
        status = at4;
        live = f.live;
        emits = f.emits;
        variables = f.variables;
        sets = f.sets;
      };
    }

-- copies of two parts

-- the classes of both statuses, and of the greater one
pub record Statuses (x y z : Class) : Type 0 where
  pub first : Fits kind.Int x
  pub second : Fits kind.Int y
  pub either : IsEither x y z

pub class_fits : (b : Bool) → Fits kind.Int (class_if b)
class_fits true = refl
class_fits false = none_fits kind.Int

pub two_statuses : (a b : Bool) → Statuses (class_if a) (class_if b) (class_if (a || b))
two_statuses true b = record { first = refl; second = class_fits b; either = (class_fits b, refl) }
two_statuses false true = record { first = none_fits kind.Int; second = refl; either = (none_fits kind.Int, refl) }
two_statuses false false = record { first = none_fits kind.Int; second = none_fits kind.Int; either = (refl, refl) }

greater_kinded : (d : ℕ → Class) (x y z : Class) (a b n : ℕ) → Statuses x y z → d a ≡ x → d b ≡ y → d n ≡ z → Fits kind.Int (d a) × Fits kind.Int (d b) × IsEither (d a) (d b) (d n)
greater_kinded d x y z a b n s ea eb en = (
  fits_as kind.Int d a x ea s.first,
  fits_as kind.Int d b y eb s.second,
  subst (λ i. IsEither i (d b) (d n)) (sym ea) (subst (λ i. IsEither x i (d n)) (sym eb) (subst (λ i. IsEither x y i) (sym en) s.either)),
)

pub behind_fitted : (tables : Tables) (frame : List Kind) (domain ra ma rb mb r m : ℕ) (x y z : Class) (d : ℕ → Class) (n live : ℕ) (S T : ℕ → List Sets) (own : List Equation) (a b : Copy) → Fitted tables frame domain ra ma x d a → Fitted tables frame domain rb mb y d b
    → Statuses x y z → d n ≡ z → Fits kind.Boolean (d live) → HaveKinds tables frame d own → ((k : ℕ) → r ≤ k → k < m → SetsFit (register_kind frame k) d (joined S T k)) → Fitted tables frame domain r m z d (behind n live S T own a b)
behind_fitted tables frame domain ra ma rb mb r m x y z d n live S T own a b f g both at fl ho hs = record {
  each = (greater_kinded d x y z a.status b.status n both f.status g.status at, kinds_both tables frame d own (a.equations ++ b.equations) ho (kinds_both tables frame d a.equations b.equations f.each g.each));
  status = at;
  live = fl;
  emits = emissions_both tables d a.emits b.emits f.emits g.emits;
  variables = g.variables;
  sets = hs;
}

-- the wires after two alternatives

same_name : (i j : ℕ) → (i == j) ≡ true → i ≡ j
same_name i j e = eqb-true i j e

pub record Joined (tables : Tables) (frame : List Kind) (domain n other : ℕ) (a b v : ℕ → ℕ) (zs : List ℕ) (c : ℕ → Class) : Type 0 where
  pub classes : ℕ → Class
  pub same : SameBelow n c classes
  pub each : HaveKinds tables frame classes (joins other n a b zs)
  pub variables : HaveVariables tables domain classes (join_wires n v zs)

one_of : (tables : Tables) (domain : ℕ) (d : ℕ → Class) (z n y j : ℕ) (t : Bool) → (t ≡ true → z ≡ y) → d n ≡ Of (variable_at tables z).kind → d j ≡ Of (variable_at tables y).kind → d (cond t n j) ≡ Of (variable_at tables y).kind
one_of tables domain d z n y j true same at h = at ∙ ap (λ i. Of (variable_at tables i).kind) (same refl)
one_of tables domain d z n y j false same at h = h

pub joined_kinded : (tables : Tables) (frame : List Kind) (domain n other : ℕ) (a b v : ℕ → ℕ) (zs : List ℕ) (c : ℕ → Class) → other < n → ((y : ℕ) → a y < n) → ((y : ℕ) → b y < n) → ((y : ℕ) → v y < n) → Fits kind.Boolean (c other)
    → HaveVariables tables domain c a → HaveVariables tables domain c b → HaveVariables tables domain c v → ((y : ℕ) → has zs y ≡ true → is_variable_of tables domain y ≡ true) → Joined tables frame domain n other a b v zs c
joined_kinded tables frame domain n other a b v [] c lo la lb lv fo ha hb hv own = record { classes = c; same = same_itself n c; each = tt; variables = hv }
joined_kinded tables frame domain n other a b v (z ∷ zs) c lo la lb lv fo ha hb hv own =
    let k : Kind = (variable_at tables z).kind in
    let xs : List Class = Of k ∷ [] in
    let d = listed c n xs in
    let s = listed_below c n xs in
    let mine : is_variable_of tables domain z ≡ true = own z (ap (λ t. t || has zs z) (itself z)) in
    let r =
    joined_kinded tables frame domain (n + 1) other a b v zs d (omega (arith, lo)) (λ y. let l = la y in omega (arith, l)) (λ y. let l = lb y in omega (arith, l)) (λ y. let l = lv y in omega (arith, l))
    (fits_still kind.Boolean n c d other s lo fo) (variables_still tables domain n c d a s la ha) (variables_still tables domain n c d b s lb hb) (variables_still tables domain n c d v s lv hv) (λ y h. own y (second (z == y) (has zs y) h)) in
    let e = r.classes in
    let g : SameBelow n c e = same_twice n (n + 1) c d e (omega arith) s r.same in
    let at : e n ≡ Of k = (r.same).at n (omega arith) ∙ listed_first c n xs in
    let ea : e (a z) ≡ Of k = g.at (a z) (la z) ∙ ha.at z mine in
    let eb : e (b z) ≡ Of k = g.at (b z) (lb z) ∙ hb.at z mine in
    record {
      classes = e;
      same = g;
      each = ((fits_still kind.Boolean n c e other g lo fo, subst (λ i. IsEither i (e (a z)) (e n)) (sym eb) (fits_as k e (a z) (Of k) ea refl, at)), r.each);
      variables = record { at = λ y is. one_of tables domain e z n y (join_wires (n + 1) v zs y) (z == y) (λ t. same_name z y t) at ((r.variables).at y is) };
    } where
      itself : (i : ℕ) → (i == i) ≡ true
      itself i = grind (arith, nat_tests)

      second : (p q : Bool) → q ≡ true → p || q ≡ true
      second true q h = refl
      second false q h = h

picked : (tables : Tables) (domain : ℕ) (d : ℕ → Class) (i j y : ℕ) (t : Bool) → d i ≡ Of (variable_at tables y).kind → d j ≡ Of (variable_at tables y).kind → d (cond t i j) ≡ Of (variable_at tables y).kind
picked tables domain d i j y true h k = h
picked tables domain d i j y false h k = k

pick_below : (t : Bool) (i j n : ℕ) → i < n → j < n → cond t i j < n
pick_below true i j n x y = x
pick_below false i j n x y = y

pub alternatives_kinded : (tables : Tables) (frame : List Kind) (domain ra ma rb mb r m : ℕ) (x y z : Class) (xs ys : List ℕ) (other n live i : ℕ) (S T : ℕ → List Sets) (own : List Equation) (a b : Copy) (d : ℕ → Class)
    → Inside i a → Inside a.next b → n < b.next → live < b.next → other < b.next → Within b.next own → ((k : ℕ) → SetsBelow b.next (joined S T k)) → Fitted tables frame domain ra ma x d a → Fitted tables frame domain rb mb y d b → Statuses x y z → d n ≡ z → Fits kind.Boolean (d live) → Fits kind.Boolean (d other)
    → HaveKinds tables frame d own → ((k : ℕ) → r ≤ k → k < m → SetsFit (register_kind frame k) d (joined S T k)) → ((v : ℕ) → has (both_write xs ys) v ≡ true → is_variable_of tables domain v ≡ true)
    → Kinded tables frame domain r m b.next z d (alternatives xs ys other n live S T own a b)
alternatives_kinded tables frame domain ra ma rb mb r m x y z xs ys other n live i S T own a b d u v ln ll lo wo ws f g both at fl fo ho hs names =
    let zs = both_write xs ys in
    let l = b.next in
    let grows = v.grows in
    let wires = wires_by ys b.variables a.variables in
    let la : (e : ℕ) → a.variables e < l = λ e. let t = u.variables e in omega (arith, t, grows) in
    let fa = f.variables in
    let fb = g.variables in
    let j =
    joined_kinded tables frame domain l other a.variables b.variables wires zs d lo la v.variables (λ e. pick_below (has ys e) (b.variables e) (a.variables e) l (v.variables e) (la e)) fo fa fb
    (record { at = λ e own. picked tables domain d (b.variables e) (a.variables e) e (has ys e) (fb.at e own) (fa.at e own) }) names in
    let e = j.classes in
    let s = j.same in
    let af = fitted_still tables frame domain ra ma i x d e a (same_less a.next l d e grows s) u f in
    let bf = fitted_still tables frame domain rb mb a.next y d e b s v g in
    let h =
    behind_fitted tables frame domain ra ma rb mb r m x y z e n live S T (own ++ joins other l a.variables b.variables zs) a b af bf both (s.at n ln ∙ at) (fits_still kind.Boolean l d e live s ll fl)
    (kinds_both tables frame e own (joins other l a.variables b.variables zs) (kinds_still tables frame l d e own s wo ho) j.each) (λ k low high. sets_still (register_kind frame k) l d e (joined S T k) s (ws k) (hs k low high)) in
    record { classes = e; same = s; fitted = record { each = h.each; status = h.status; live = h.live; emits = h.emits; variables = j.variables; sets = h.sets } }

-- branches: wires of their own from n on
abbrev pub beside_classes : Class → List Class
beside_classes z = Of kind.Boolean ∷ Of kind.Boolean ∷ Of kind.Boolean ∷ z ∷ Of kind.Boolean ∷ []

pub beside_fitted : (tables : Tables) (frame : List Kind) (scope : Scope) (m : ℕ) (x y z : Class) (p : Stmt) (live : ℕ) (own : List Equation) (c d : ℕ → Class) (o : Context) (a b : Copy) → Outside o → ContextFits tables scope c o → Own c o.next 5 (beside_classes z) d → Fits kind.Int z
    → Fitted tables frame scope.domain o.register (o.register + registers tables p) x d a → Fitted tables frame scope.domain (o.register + registers tables p) m y d b → Statuses x y z → Fits kind.Boolean (d live) → HaveKinds tables frame d own → Fitted tables frame scope.domain o.register m z d (beside tables p live own o a b)
beside_fitted tables frame scope m x y z p live own c d o a b out cf w fz f g both fl ho =
    let n = o.next in
    let s = w.below in
    let at1 = w.at 1 (omega arith) in
    let at2 = w.at 2 (omega arith) in
    let at3 = w.at 3 (omega arith) in
    let fa = f.variables in
    let fb = g.variables in
    record {
      each = (
        (fits_still kind.Boolean n c d o.keep s out.keep cf.keep, truth d (n + 2) at2, w.first),
        (
          (fits_as kind.Int d (n + 3) z at3 fz, small 2 refl, at1),
          (
            (fits_still kind.Boolean n c d o.hold s out.hold cf.hold, truth d (n + 1) at1, at2),
            (
              greater_kinded d x y z a.status b.status (n + 3) both f.status g.status at3,
              kinds_both tables frame d own (a.equations ++ b.equations) ho (kinds_both tables frame d a.equations b.equations f.each g.each),
            ),
          ),
        ),
      );
      status = at3;
      live = fl;
      emits = emissions_both tables d a.emits b.emits f.emits g.emits;
      variables = record { at = λ v is. picked tables scope.domain d (a.variables v) (b.variables v) v (writes p v) (fa.at v is) (fb.at v is) };
      sets = sets_pair frame d o.register (o.register + registers tables p) m a.sets b.sets f.sets g.sets;
    }
