-- The operations of a copy's formulas are well-kinded.
use Rattle.std.proofs.Common.{◌≡◌, ℕ, ◌+◌, ◌-◌, ◌<◌, nat_lt, pos, true, false, cond, List, [], ◌∷◌, get_or, Some, refl, sym, ap, ◌∙◌, subst, arith, rules}
use Rattle.std.proofs.lemmas.Bool.Decides.{nat_tests}
use Rattle.java_values.specs.declared.kind.Kind.{Kind}
use Rattle.java_values.specs.declared.kind.Kind.TheVariants as kind
use Rattle.java_values.specs.declared.op.Op2.{Op2}
use Rattle.java_values.specs.declared.op.Op2.TheVariants as op
use Rattle.java_values.specs.Kinds.{IsInRange, result_kind2, is_castable}
use Rattle.kernel_terms.specs.declared.tables.Tables.{Tables}
use Rattle.kernel_terms.specs.declared.tables.Combine.{Combine}
use Rattle.kernel_terms.specs.declared.tables.Combine.TheVariants as combine
use Rattle.kernel_terms.specs.TableEntries.{value_kind}
use Rattle.kernel_terms.specs.WellFormed.{combines}
use Rattle.wire_code.specs.declared.equation.Equation.{Equation as WireEquation}
use Rattle.tick_code.specs.WellKinded.{Class, Of, Constant, Fits, IsOf, DividesSafely, IsEither, HasClass, HaveClasses}
use Rattle.surf_graph.specs.definitions.Formulas.{Formula, Const, Get, Same, And, AndNot, Or, Choose, Zero, StatusOf, Status, IsStatus, Greater, OfTrap, OfWeakAbort, Value, Holds, Reads, status_of}
use Rattle.surf_graph.specs.definitions.Formulas as formula
use Rattle.surf_graph.specs.definitions.KindedWires.{SameBelow, Among, test_class}
use Rattle.surf_graph.specs.definitions.KindedFormulas.{is_choice, HasKind, IsKindedFormula}
use Rattle.surf_graph.specs.definitions.SpelledOut.{Spelled, value_wires, test_wires, operator_wires, extreme_wires, combined_wires, kind_given, spelled}
use Rattle.surf_graph.proofs.KindedExpressions.{none_fits, value_kinded, test_kinded, test_fits}

-- classes of the wires from n on, by a list

abbrev pub listed : (ℕ → Class) → ℕ → List Class → ℕ → Class
listed c n xs k = cond (nat_lt k n) (c k) (get_or xs (k - n) (Of kind.Boolean))

pub listed_below : (c : ℕ → Class) (n : ℕ) (xs : List Class) → SameBelow n c (listed c n xs)
listed_below c n xs = record { at = λ k less. ap (λ b. cond b (c k) (get_or xs (k - n) (Of kind.Boolean))) (is_less k n less) } where
  is_less : (k n : ℕ) → k < n → nat_lt k n ≡ true
  is_less k n h = grind (arith, nat_tests)

isnt_less : (n i : ℕ) → nat_lt (n + i) n ≡ false
isnt_less n i = grind (arith, nat_tests)

isnt_itself : (n : ℕ) → nat_lt n n ≡ false
isnt_itself n = grind (arith, nat_tests)

pub listed_at : (c : ℕ → Class) (n i : ℕ) (xs : List Class) → listed c n xs (n + i) ≡ get_or xs i (Of kind.Boolean)
listed_at c n i xs = ap (λ b. cond b (c (n + i)) (get_or xs (n + i - n) (Of kind.Boolean))) (isnt_less n i) ∙ ap (λ k. get_or xs k (Of kind.Boolean)) (omega arith)

pub listed_first : (c : ℕ → Class) (n : ℕ) (xs : List Class) → listed c n xs n ≡ get_or xs 0 (Of kind.Boolean)
listed_first c n xs = ap (λ b. cond b (c n) (get_or xs (n - n) (Of kind.Boolean))) (isnt_itself n) ∙ ap (λ k. get_or xs k (Of kind.Boolean)) (omega arith)

-- a wire of this class is an operand of the kind
pub fits_as : (k : Kind) (d : ℕ → Class) (a : ℕ) (x : Class) → d a ≡ x → Fits k x → Fits k (d a)
fits_as k d a x e h = subst (Fits k) (sym e) h

pub either_same : (x y : Class) → y ≡ x → IsEither x x y
either_same (Of k) y e = (refl, e)
either_same (Constant m) y e = (refl, e)

pub either_kind : (k : Kind) (x y : Class) → Fits k x → y ≡ Of k → IsEither (Of k) x y
either_kind k x y h e = (h, e)

pub either_as : (x y u v z : Class) → u ≡ x → v ≡ y → IsEither x y z → IsEither u v z
either_as x y u v z e f h = subst (λ s. IsEither s v z) (sym e) (subst (λ s. IsEither x s z) (sym f) h)

castable_to_itself : (k : Kind) → is_castable k k ≡ true
castable_to_itself kind.Boolean = refl
castable_to_itself kind.Byte = refl
castable_to_itself kind.Short = refl
castable_to_itself kind.Char = refl
castable_to_itself kind.Int = refl
castable_to_itself kind.Long = refl

-- combinations

record CombinedKinded (frame : List Kind) (all : List WireEquation) (n : ℕ) (c : ℕ → Class) (k : Kind) (es : List WireEquation) : Type 0 where
  pub classes : ℕ → Class
  pub same : SameBelow n c classes
  pub each : HaveClasses frame all classes es
  pub wire : classes (n + 1) ≡ Of k

operator_kinded : (frame : List Kind) (all : List WireEquation) (k : Kind) (o : Op2) (n : ℕ) (c : ℕ → Class) (a b : ℕ) → a < n → b < n → Fits k (c a) → Fits k (c b) → result_kind2 o k k ≡ Some (kind_given (result_kind2 o k k) k)
    → is_castable (kind_given (result_kind2 o k k) k) k ≡ true → DividesSafely o all b → CombinedKinded frame all n c k (operator_wires o k n a b).equations
operator_kinded frame all k o n c a b la lb fa fb is castable safe =
    let r = kind_given (result_kind2 o k k) k in
    let xs : List Class = Of r ∷ (Of k ∷ []) in
    let s = listed_below c n xs in
    let first = listed_first c n xs in
    let second = listed_at c n 1 xs in
    record {
      classes = listed c n xs;
      same = s;
      each = ((fits_as k (listed c n xs) a (c a) (s.at a la) fa, fits_as k (listed c n xs) b (c b) (s.at b lb) fb, safe, subst (λ t. IsOf t (listed c n xs n)) (sym is) first), ((fits_as r (listed c n xs) n (Of r) first refl, castable, second), tt));
      wire = second;
    }

pub either_other : (k : Kind) (x y : Class) → Fits k x → y ≡ Of k → IsEither x y (Of k)
either_other k (Of l) y h e = (subst (Fits l) (sym e) (sym h), ap Of (sym h))
either_other k (Constant m) y h e = subst (λ z. IsEither (Constant m) z (Of k)) (sym e) (h, refl)

either_first : (k : Kind) (x y : Class) → x ≡ Of k → Fits k y → IsEither x y (Of k)
either_first k x y e h = subst (λ z. IsEither z y (Of k)) (sym e) (h, refl)

extreme_kinded : (frame : List Kind) (all : List WireEquation) (k : Kind) (n : ℕ) (c : ℕ → Class) (a b i j : ℕ) → a < n → b < n → i < n → j < n → Fits k (c a) → Fits k (c b) → IsEither (c i) (c j) (Of k) → result_kind2 op.LessEq k k ≡ Some kind.Boolean
    → CombinedKinded frame all n c k (extreme_wires k n a b i j).equations
extreme_kinded frame all k n c a b i j la lb li lj fa fb either is =
    let xs : List Class = Of kind.Boolean ∷ (Of k ∷ []) in
    let s = listed_below c n xs in
    let first = listed_first c n xs in
    let second = listed_at c n 1 xs in
    let d = listed c n xs in
    record {
      classes = d;
      same = s;
      each = ((fits_as k d a (c a) (s.at a la) fa, fits_as k d b (c b) (s.at b lb) fb, tt, subst (λ t. IsOf t (d n)) (sym is) first), ((fits_as kind.Boolean d n (Of kind.Boolean) first refl, subst (λ z. IsEither (d i) (d j) z) (sym second) (either_as (c i) (c j) (d i) (d j) (Of k) (s.at i li) (s.at j lj) either)), tt));
      wire = second;
    }

combined_kinded : (frame : List Kind) (all : List WireEquation) (o : Combine) (k : Kind) (n : ℕ) (c : ℕ → Class) (a b : ℕ) → a < n → b < n → Fits k (c a) → Fits k (c b) → combines (Some k) o ≡ true → (is_choice o ≡ true → c a ≡ Of k)
    → CombinedKinded frame all n c k (combined_wires o k n a b).equations
combined_kinded frame all combine.Add kind.Boolean n c a b la lb fa fb h one = cc
combined_kinded frame all combine.Add kind.Byte n c a b la lb fa fb h one = operator_kinded frame all kind.Byte op.Add n c a b la lb fa fb refl refl tt
combined_kinded frame all combine.Add kind.Short n c a b la lb fa fb h one = operator_kinded frame all kind.Short op.Add n c a b la lb fa fb refl refl tt
combined_kinded frame all combine.Add kind.Char n c a b la lb fa fb h one = operator_kinded frame all kind.Char op.Add n c a b la lb fa fb refl refl tt
combined_kinded frame all combine.Add kind.Int n c a b la lb fa fb h one = operator_kinded frame all kind.Int op.Add n c a b la lb fa fb refl refl tt
combined_kinded frame all combine.Add kind.Long n c a b la lb fa fb h one = operator_kinded frame all kind.Long op.Add n c a b la lb fa fb refl refl tt
combined_kinded frame all combine.Max kind.Boolean n c a b la lb fa fb h one = cc
combined_kinded frame all combine.Max kind.Byte n c a b la lb fa fb h one = extreme_kinded frame all kind.Byte n c a b b a la lb lb la fa fb (either_other kind.Byte (c b) (c a) fb (one refl)) refl
combined_kinded frame all combine.Max kind.Short n c a b la lb fa fb h one = extreme_kinded frame all kind.Short n c a b b a la lb lb la fa fb (either_other kind.Short (c b) (c a) fb (one refl)) refl
combined_kinded frame all combine.Max kind.Char n c a b la lb fa fb h one = extreme_kinded frame all kind.Char n c a b b a la lb lb la fa fb (either_other kind.Char (c b) (c a) fb (one refl)) refl
combined_kinded frame all combine.Max kind.Int n c a b la lb fa fb h one = extreme_kinded frame all kind.Int n c a b b a la lb lb la fa fb (either_other kind.Int (c b) (c a) fb (one refl)) refl
combined_kinded frame all combine.Max kind.Long n c a b la lb fa fb h one = extreme_kinded frame all kind.Long n c a b b a la lb lb la fa fb (either_other kind.Long (c b) (c a) fb (one refl)) refl
combined_kinded frame all combine.Min kind.Boolean n c a b la lb fa fb h one = cc
combined_kinded frame all combine.Min kind.Byte n c a b la lb fa fb h one = extreme_kinded frame all kind.Byte n c a b a b la lb la lb fa fb (either_first kind.Byte (c a) (c b) (one refl) fb) refl
combined_kinded frame all combine.Min kind.Short n c a b la lb fa fb h one = extreme_kinded frame all kind.Short n c a b a b la lb la lb fa fb (either_first kind.Short (c a) (c b) (one refl) fb) refl
combined_kinded frame all combine.Min kind.Char n c a b la lb fa fb h one = extreme_kinded frame all kind.Char n c a b a b la lb la lb fa fb (either_first kind.Char (c a) (c b) (one refl) fb) refl
combined_kinded frame all combine.Min kind.Int n c a b la lb fa fb h one = extreme_kinded frame all kind.Int n c a b a b la lb la lb fa fb (either_first kind.Int (c a) (c b) (one refl) fb) refl
combined_kinded frame all combine.Min kind.Long n c a b la lb fa fb h one = extreme_kinded frame all kind.Long n c a b a b la lb la lb fa fb (either_first kind.Long (c a) (c b) (one refl) fb) refl
combined_kinded frame all combine.And kind.Boolean n c a b la lb fa fb h one = operator_kinded frame all kind.Boolean op.And n c a b la lb fa fb refl refl tt
combined_kinded frame all combine.And kind.Byte n c a b la lb fa fb h one = operator_kinded frame all kind.Byte op.And n c a b la lb fa fb refl refl tt
combined_kinded frame all combine.And kind.Short n c a b la lb fa fb h one = operator_kinded frame all kind.Short op.And n c a b la lb fa fb refl refl tt
combined_kinded frame all combine.And kind.Char n c a b la lb fa fb h one = operator_kinded frame all kind.Char op.And n c a b la lb fa fb refl refl tt
combined_kinded frame all combine.And kind.Int n c a b la lb fa fb h one = operator_kinded frame all kind.Int op.And n c a b la lb fa fb refl refl tt
combined_kinded frame all combine.And kind.Long n c a b la lb fa fb h one = operator_kinded frame all kind.Long op.And n c a b la lb fa fb refl refl tt
combined_kinded frame all combine.Or kind.Boolean n c a b la lb fa fb h one = operator_kinded frame all kind.Boolean op.Or n c a b la lb fa fb refl refl tt
combined_kinded frame all combine.Or kind.Byte n c a b la lb fa fb h one = operator_kinded frame all kind.Byte op.Or n c a b la lb fa fb refl refl tt
combined_kinded frame all combine.Or kind.Short n c a b la lb fa fb h one = operator_kinded frame all kind.Short op.Or n c a b la lb fa fb refl refl tt
combined_kinded frame all combine.Or kind.Char n c a b la lb fa fb h one = operator_kinded frame all kind.Char op.Or n c a b la lb fa fb refl refl tt
combined_kinded frame all combine.Or kind.Int n c a b la lb fa fb h one = operator_kinded frame all kind.Int op.Or n c a b la lb fa fb refl refl tt
combined_kinded frame all combine.Or kind.Long n c a b la lb fa fb h one = operator_kinded frame all kind.Long op.Or n c a b la lb fa fb refl refl tt
combined_kinded frame all combine.Xor kind.Boolean n c a b la lb fa fb h one = operator_kinded frame all kind.Boolean op.Xor n c a b la lb fa fb refl refl tt
combined_kinded frame all combine.Xor kind.Byte n c a b la lb fa fb h one = operator_kinded frame all kind.Byte op.Xor n c a b la lb fa fb refl refl tt
combined_kinded frame all combine.Xor kind.Short n c a b la lb fa fb h one = operator_kinded frame all kind.Short op.Xor n c a b la lb fa fb refl refl tt
combined_kinded frame all combine.Xor kind.Char n c a b la lb fa fb h one = operator_kinded frame all kind.Char op.Xor n c a b la lb fa fb refl refl tt
combined_kinded frame all combine.Xor kind.Int n c a b la lb fa fb h one = operator_kinded frame all kind.Int op.Xor n c a b la lb fa fb refl refl tt
combined_kinded frame all combine.Xor kind.Long n c a b la lb fa fb h one = operator_kinded frame all kind.Long op.Xor n c a b la lb fa fb refl refl tt

pub combined_at : (o : Combine) (k : Kind) (n a b : ℕ) → (combined_wires o k n a b).wire ≡ n + 1
combined_at combine.Add k n a b = refl
combined_at combine.Max k n a b = refl
combined_at combine.Min k n a b = refl
combined_at combine.And k n a b = refl
combined_at combine.Or k n a b = refl
combined_at combine.Xor k n a b = refl

-- statuses

status_kinded : (tables : Tables) (frame : List Kind) (all : List WireEquation) (n go code : ℕ) (c : ℕ → Class) (x : Class) → 0 < n → c 0 ≡ Constant (pos 0) → go < n → HasKind tables frame c (Status go code) x → IsKindedFormula frame all n c x (spelled n (Status go code))
status_kinded tables frame all n go code c x some z l h =
    let xs : List Class = Constant (pos (status_of code)) ∷ (Of kind.Int ∷ []) in
    let s = listed_below c n xs in
    let d = listed c n xs in
    let first = listed_first c n xs in
    let second = listed_at c n 1 xs in
    record {
      classes = d;
      same = s;
      each = (first, ((fits_as kind.Int d n (Constant (pos (status_of code))) first h.1, second), tt));
      operation = (
        fits_as kind.Boolean d go (c go) (s.at go l) h.0,
        either_as (Of kind.Int) (Constant (pos 0)) (d (n + 1)) (d 0) x second (s.at 0 some ∙ z) (none_fits kind.Int, h.2),
      );
    }

pub small : (n : ℕ) → nat_lt n 100 ≡ true → IsInRange kind.Int (pos n)
small n h = let l : n < 100 = grind (arith, nat_tests) in search (rules, l)

trap_kinded : (tables : Tables) (frame : List Kind) (all : List WireEquation) (n a : ℕ) (c : ℕ → Class) (x : Class) → a < n → HasKind tables frame c (OfTrap a) x → IsKindedFormula frame all n c x (spelled n (OfTrap a))
trap_kinded tables frame all n a c x l h =
    let xs : List Class = Constant (pos 3) ∷ Of kind.Boolean ∷ Of kind.Boolean ∷ Constant (pos 67) ∷ Of kind.Boolean ∷ Of kind.Boolean ∷ Constant (pos 1) ∷ Of kind.Int ∷ Of kind.Int ∷ [] in
    let s = listed_below c n xs in
    let d = listed c n xs in
    let at0 = listed_first c n xs in
    let at1 = listed_at c n 1 xs in
    let at2 = listed_at c n 2 xs in
    let at3 = listed_at c n 3 xs in
    let at4 = listed_at c n 4 xs in
    let at5 = listed_at c n 5 xs in
    let at6 = listed_at c n 6 xs in
    let at7 = listed_at c n 7 xs in
    let at8 = listed_at c n 8 xs in
    let body : Fits kind.Int (d a) = fits_as kind.Int d a (c a) (s.at a l) h.0 in
    let three : Fits kind.Int (d n) = fits_as kind.Int d n (Constant (pos 3)) at0 (small 3 refl) in
    record {
      classes = d;
      same = s;
      each = (at0, ((body, three, tt, at1), ((three, body, tt, at2), (at3, ((body, fits_as kind.Int d (n + 3) (Constant (pos 67)) at3 (small 67 refl), tt, at4), ((fits_as kind.Boolean d (n + 2) (Of kind.Boolean) at2 refl, fits_as kind.Boolean d (n + 4) (Of kind.Boolean) at4 refl, at5), (at6, ((body, fits_as kind.Int d (n + 6) (Constant (pos 1)) at6 (small 1 refl), tt, at7), ((fits_as kind.Boolean d (n + 5) (Of kind.Boolean) at5 refl, subst (λ z. IsEither z (d a) (d (n + 8))) (sym at7) (body, at8)), tt)))))))));
      operation = (
        fits_as kind.Boolean d (n + 1) (Of kind.Boolean) at1 refl,
        either_as (Constant (pos 1)) (Of kind.Int) (d (n + 6)) (d (n + 8)) x at6 at8 (small 1 refl, h.1),
      );
    }

weak_kinded : (tables : Tables) (frame : List Kind) (all : List WireEquation) (n t a : ℕ) (c : ℕ → Class) (x : Class) → t < n → a < n → HasKind tables frame c (OfWeakAbort t a) x → IsKindedFormula frame all n c x (spelled n (OfWeakAbort t a))
weak_kinded tables frame all n t a c x lt la h =
    let xs : List Class = Constant (pos 2) ∷ Of kind.Boolean ∷ Of kind.Boolean ∷ Constant (pos 1) ∷ Of kind.Int ∷ [] in
    let s = listed_below c n xs in
    let d = listed c n xs in
    let at0 = listed_first c n xs in
    let at1 = listed_at c n 1 xs in
    let at2 = listed_at c n 2 xs in
    let at3 = listed_at c n 3 xs in
    let at4 = listed_at c n 4 xs in
    let body : Fits kind.Int (d a) = fits_as kind.Int d a (c a) (s.at a la) h.1 in
    record {
      classes = d;
      same = s;
      each = (at0, ((body, fits_as kind.Int d n (Constant (pos 2)) at0 (small 2 refl), tt, at1), ((fits_as kind.Boolean d t (c t) (s.at t lt) h.0, fits_as kind.Boolean d (n + 1) (Of kind.Boolean) at1 refl, at2), (at3, ((fits_as kind.Int d (n + 3) (Constant (pos 1)) at3 (small 1 refl), at4), tt)))));
      operation = (
        fits_as kind.Boolean d (n + 2) (Of kind.Boolean) at2 refl,
        subst (λ z. IsEither z (d a) x) (sym at4) (body, h.2),
      );
    }

-- one further wire

one_more : (frame : List Kind) (all : List WireEquation) (n : ℕ) (c : ℕ → Class) (y x : Class) (s : Spelled)
    → HaveClasses frame all (listed c n (y ∷ [])) s.equations → HasClass frame all (listed c n (y ∷ [])) s.operation x → IsKindedFormula frame all n c x s
one_more frame all n c y x s e o = record { classes = listed c n (y ∷ []); same = listed_below c n (y ∷ []); each = e; operation = o }

pub formula_kinded : (tables : Tables) (frame : List Kind) (all : List WireEquation) (n : ℕ) (c : ℕ → Class) (f : Formula) (x : Class) → 0 < n → c 0 ≡ Constant (pos 0) → Reads n f → HasKind tables frame c f x → Among (spelled n f).equations all
    → IsKindedFormula frame all n c x (spelled n f)
formula_kinded tables frame all n c (Const m) x some z r h among = record { classes = c; same = record { at = λ i less. refl }; each = tt; operation = h }
formula_kinded tables frame all n c (Get k) x some z r h among = record { classes = c; same = record { at = λ i less. refl }; each = tt; operation = h }
formula_kinded tables frame all n c (Same a) x some z r h among =
    record {
      classes = c;
      same = record { at = λ i less. refl };
      each = tt;
      operation = (fits_as kind.Boolean c 0 (Constant (pos 0)) z (none_fits kind.Boolean), either_same (c a) x h);
    }
formula_kinded tables frame all n c (And a b) x some z r h among = record { classes = c; same = record { at = λ i less. refl }; each = tt; operation = h }
formula_kinded tables frame all n c (AndNot a b) x some z r h among =
    let d = listed c n (Of kind.Boolean ∷ []) in
    let s = listed_below c n (Of kind.Boolean ∷ []) in
    let first = listed_first c n (Of kind.Boolean ∷ []) in
    one_more frame all n c (Of kind.Boolean) x (spelled n (AndNot a b)) ((fits_as kind.Boolean d b (c b) (s.at b r.1) h.1, first), tt)
    (fits_as kind.Boolean d a (c a) (s.at a r.0) h.0, fits_as kind.Boolean d n (Of kind.Boolean) first refl, h.2)
formula_kinded tables frame all n c (Or a b) x some z r h among = record { classes = c; same = record { at = λ i less. refl }; each = tt; operation = h }
formula_kinded tables frame all n c (Choose t a b) x some z r h among = record { classes = c; same = record { at = λ i less. refl }; each = tt; operation = h }
formula_kinded tables frame all n c (Zero k) x some z r h among =
    let d = listed c n (Constant (pos 0) ∷ []) in
    let first = listed_first c n (Constant (pos 0) ∷ []) in
    one_more frame all n c (Constant (pos 0)) x (spelled n (Zero k)) (first, tt) (fits_as k d n (Constant (pos 0)) first (none_fits k), castable_to_itself k, h)
formula_kinded tables frame all n c (StatusOf code) x some z r h among =
    let y : Class = Constant (pos (status_of code)) in
    let d = listed c n (y ∷ []) in
    let first = listed_first c n (y ∷ []) in
    one_more frame all n c y x (spelled n (StatusOf code)) (first, tt) (fits_as kind.Int d n y first h.0, h.1)
formula_kinded tables frame all n c (Status go code) x some z r h among = status_kinded tables frame all n go code c x some z r h
formula_kinded tables frame all n c (IsStatus a code) x some z r h among =
    let y : Class = Constant (pos (status_of code)) in
    let d = listed c n (y ∷ []) in
    let s = listed_below c n (y ∷ []) in
    let first = listed_first c n (y ∷ []) in
    one_more frame all n c y x (spelled n (IsStatus a code)) (first, tt) (fits_as kind.Int d a (c a) (s.at a r) h.0, fits_as kind.Int d n y first h.1, tt, h.2)
formula_kinded tables frame all n c (Greater a b) x some z r h among =
    let d = listed c n (Of kind.Boolean ∷ []) in
    let s = listed_below c n (Of kind.Boolean ∷ []) in
    let first = listed_first c n (Of kind.Boolean ∷ []) in
    one_more frame all n c (Of kind.Boolean) x (spelled n (Greater a b)) ((fits_as kind.Int d b (c b) (s.at b r.1) h.1, fits_as kind.Int d a (c a) (s.at a r.0) h.0, tt, first), tt)
    (fits_as kind.Boolean d n (Of kind.Boolean) first refl, either_as (c a) (c b) (d a) (d b) x (s.at a r.0) (s.at b r.1) h.2)
formula_kinded tables frame all n c (OfTrap a) x some z r h among = trap_kinded tables frame all n a c x r h
formula_kinded tables frame all n c (OfWeakAbort t a) x some z r h among = weak_kinded tables frame all n t a c x r.0 r.1 h
formula_kinded tables frame all n c (formula.Combine info some a b) x more z r h among =
    let k = value_kind info in
    let y = combined_kinded frame all info.combine k n c a b r.1 r.2 h.1 h.2 h.3 h.4 in
    let at = combined_at info.combine k n a b in
    record {
      classes = y.classes;
      same = y.same;
      each = y.each;
      operation = (
        fits_as kind.Boolean y.classes some (c some) ((y.same).at some r.0) h.0,
        either_as (Of k) (c b) (y.classes (combined_wires info.combine k n a b).wire) (y.classes b) x (ap y.classes at ∙ y.wire) ((y.same).at b r.2) (h.2, h.5),
      );
    }
formula_kinded tables frame all n c (Value e v) x some z r h among =
    let y = value_kinded tables h.0 frame all v e n c r h.1 h.2 h.3 among in
    record {
      classes = y.classes;
      same = y.same;
      each = y.each;
      operation = (fits_as kind.Boolean y.classes 0 (Constant (pos 0)) ((y.same).at 0 some ∙ z) (none_fits kind.Boolean), either_same (y.classes (value_wires v n e).wire) x (h.4 ∙ sym y.wire));
    }
formula_kinded tables frame all n c (Holds t v) x some z r h among =
    let y = test_kinded tables h.0 frame all v t n c r h.1 h.2 in
    let fits = fits_as kind.Boolean y.classes (test_wires v n t).wire (test_class c v t) y.wire (test_fits tables h.0 c v t h.1 h.2) in
    record { classes = y.classes; same = y.same; each = y.each; operation = (fits, fits, h.3) }
