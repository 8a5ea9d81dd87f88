-- Equations keep their kinds where the classes of their wires stay, and spelled out they have their classes.
use Rattle.std.proofs.Common.{◌≡◌, ℕ, ◌+◌, ◌<◌, ◌≤◌, pos, List, [], ◌∷◌, ◌++◌, inr, refl, sym, ◌∙◌, subst, arith}
use Rattle.java_values.specs.declared.kind.Kind.{Kind}
use Rattle.java_values.specs.declared.kind.Kind.TheVariants as kind
use Rattle.kernel_terms.specs.declared.tables.Tables.{Tables}
use Rattle.kernel_terms.specs.declared.tables.Combine.{Combine}
use Rattle.kernel_terms.specs.declared.tables.Combine.TheVariants as combine
use Rattle.kernel_terms.specs.TableEntries.{value_kind}
use Rattle.kernel_terms.specs.Expressions.{Expression, Literal, Variable, SignalValue, ChannelValue, Unary, Binary, Cast}
use Rattle.wire_code.specs.declared.equation.Equation.{Equation as WireEquation}
use Rattle.wire_code.specs.Formulas.{ReadsBelow}
use Rattle.tick_code.specs.WellKinded.{Class, Constant, Fits, IsEither, HasClass}
use Rattle.surf_graph.specs.definitions.Formulas.{Wires, WiresBelow, Formula, Const, Get, Same, And, AndNot, Or, Choose, Zero, StatusOf, Status, IsStatus, Greater, OfTrap, OfWeakAbort, Value, Holds, Equation, Reads, Within}
use Rattle.surf_graph.specs.definitions.Formulas as formula
use Rattle.surf_graph.specs.definitions.KindedWires.{SameBelow, Among, value_class}
use Rattle.surf_graph.specs.definitions.KindedFormulas.{HasKind, HaveKinds, AreKinded}
use Rattle.surf_graph.specs.definitions.SpelledOut.{gives, combined_wires, spelled, spelled_out}
use Rattle.surf_graph.proofs.Frames.{reads_more}
use Rattle.surf_graph.proofs.FurtherWires.{value_computes, test_computes, spelled_runs}
use Rattle.surf_graph.proofs.KindedExpressions.{same_twice, has_still, still_classed, classed_both, operands_still, among_front, among_back}
use Rattle.surf_graph.proofs.KindedOperations.{either_as, combined_at, formula_kinded}

pub same_less : (n m : ℕ) (c d : ℕ → Class) → n ≤ m → SameBelow m c d → SameBelow n c d
same_less n m c d le s = record { at = λ k less. s.at k (omega (arith, less, le)) }

pub value_class_still : (n : ℕ) (c d : ℕ → Class) (v : Wires) (e : Expression) → SameBelow n c d → WiresBelow n v → value_class d v e ≡ value_class c v e
value_class_still n c d v (Literal k m) s b = refl
value_class_still n c d v (Variable k x) s b = s.at (v.variables x) (b.variables x)
value_class_still n c d v (SignalValue k x) s b = s.at (v.value x) (b.value x)
value_class_still n c d v (ChannelValue k x) s b = s.at (v.last x) (b.last x)
value_class_still n c d v (Unary k o e) s b = refl
value_class_still n c d v (Binary k o e g) s b = refl
value_class_still n c d v (Cast k e) s b = refl

pub fits_still : (k : Kind) (n : ℕ) (c d : ℕ → Class) (a : ℕ) → SameBelow n c d → a < n → Fits k (c a) → Fits k (d a)
fits_still k n c d a s less h = subst (Fits k) (sym (s.at a less)) h

either_still : (n : ℕ) (c d : ℕ → Class) (a b : ℕ) (x : Class) → SameBelow n c d → a < n → b < n → IsEither (c a) (c b) x → IsEither (d a) (d b) x
either_still n c d a b x s la lb h = either_as (c a) (c b) (d a) (d b) x (s.at a la) (s.at b lb) h

pub kind_still : (tables : Tables) (frame : List Kind) (n : ℕ) (c d : ℕ → Class) (f : Formula) (x : Class) → SameBelow n c d → Reads n f → HasKind tables frame c f x → HasKind tables frame d f x
kind_still tables frame n c d (Const m) x s r h = h
kind_still tables frame n c d (Get k) x s r h = h
kind_still tables frame n c d (Same a) x s r h = h ∙ sym (s.at a r)
kind_still tables frame n c d (And a b) x s r h = (fits_still kind.Boolean n c d a s r.0 h.0, fits_still kind.Boolean n c d b s r.1 h.1, h.2)
kind_still tables frame n c d (AndNot a b) x s r h = (fits_still kind.Boolean n c d a s r.0 h.0, fits_still kind.Boolean n c d b s r.1 h.1, h.2)
kind_still tables frame n c d (Or a b) x s r h = (fits_still kind.Boolean n c d a s r.0 h.0, fits_still kind.Boolean n c d b s r.1 h.1, h.2)
kind_still tables frame n c d (Choose t a b) x s r h = (fits_still kind.Boolean n c d t s r.0 h.0, either_still n c d a b x s r.1 r.2 h.1)
kind_still tables frame n c d (Zero k) x s r h = h
kind_still tables frame n c d (StatusOf code) x s r h = h
kind_still tables frame n c d (Status go code) x s r h = (fits_still kind.Boolean n c d go s r h.0, h.1, h.2)
kind_still tables frame n c d (IsStatus a code) x s r h = (fits_still kind.Int n c d a s r h.0, h.1, h.2)
kind_still tables frame n c d (Greater a b) x s r h = (fits_still kind.Int n c d a s r.0 h.0, fits_still kind.Int n c d b s r.1 h.1, either_still n c d a b x s r.0 r.1 h.2)
kind_still tables frame n c d (OfTrap a) x s r h = (fits_still kind.Int n c d a s r h.0, h.1)
kind_still tables frame n c d (OfWeakAbort t a) x s r h = (fits_still kind.Boolean n c d t s r.0 h.0, fits_still kind.Int n c d a s r.1 h.1, h.2)
kind_still tables frame n c d (formula.Combine info some a b) x s r h = (
  fits_still kind.Boolean n c d some s r.0 h.0,
  fits_still (value_kind info) n c d a s r.1 h.1,
  fits_still (value_kind info) n c d b s r.2 h.2,
  h.3,
  λ e. s.at a r.1 ∙ h.4 e,
  h.5,
)
kind_still tables frame n c d (Value e v) x s r h = (h.0, operands_still tables h.0 n c d v r s h.1, h.2, h.3, h.4 ∙ sym (value_class_still n c d v e s r))
kind_still tables frame n c d (Holds t v) x s r h = (h.0, operands_still tables h.0 n c d v r s h.1, h.2, h.3)

pub kinds_still : (tables : Tables) (frame : List Kind) (n : ℕ) (c d : ℕ → Class) (es : List Equation) → SameBelow n c d → Within n es → HaveKinds tables frame c es → HaveKinds tables frame d es
kinds_still tables frame n c d [] s b h = tt
kinds_still tables frame n c d (e ∷ es) s b h = (
  subst (λ x. HasKind tables frame d e.formula x) (sym (s.at e.wire b.0)) (kind_still tables frame n c d e.formula (c e.wire) s b.1.0 h.0),
  kinds_still tables frame n c d es s b.1.1 h.1,
)

pub kinds_both : (tables : Tables) (frame : List Kind) (c : ℕ → Class) (es ds : List Equation) → HaveKinds tables frame c es → HaveKinds tables frame c ds → HaveKinds tables frame c (es ++ ds)
kinds_both tables frame c [] ds h k = k
kinds_both tables frame c (e ∷ es) ds h k = (h.0, kinds_both tables frame c es ds h.1 k)

-- spelled out

combined_next : (o : Combine) (k : Kind) (n a b : ℕ) → (combined_wires o k n a b).next ≡ n + 2
combined_next combine.Add k n a b = refl
combined_next combine.Max k n a b = refl
combined_next combine.Min k n a b = refl
combined_next combine.And k n a b = refl
combined_next combine.Or k n a b = refl
combined_next combine.Xor k n a b = refl

operation_reads : (n : ℕ) (f : Formula) → 0 < n → Reads n f → ReadsBelow (spelled n f).next (spelled n f).operation
operation_reads n (Const m) some r = tt
operation_reads n (Get k) some r = tt
operation_reads n (Same a) some r = (some, r, r)
operation_reads n (And a b) some r = r
operation_reads n (AndNot a b) some r = let x = r.0 in (omega (arith, x), omega arith)
operation_reads n (Or a b) some r = r
operation_reads n (Choose t a b) some r = r
operation_reads n (Zero k) some r = omega arith
operation_reads n (StatusOf code) some r = omega arith
operation_reads n (Status go code) some r = (omega (arith, r), omega arith, omega arith)
operation_reads n (IsStatus a code) some r = (omega (arith, r), omega arith)
operation_reads n (Greater a b) some r = let x = r.0 in let y = r.1 in (omega arith, omega (arith, x), omega (arith, y))
operation_reads n (OfTrap a) some r = (omega arith, omega arith, omega arith)
operation_reads n (OfWeakAbort t a) some r = let x = r.1 in (omega arith, omega arith, omega (arith, x))
operation_reads n (formula.Combine info some a b) more r =
    let k = value_kind info in
    let x = r.0 in
    let y = r.2 in
    let at = combined_at info.combine k n a b in
    let next = combined_next info.combine k n a b in
    (omega (arith, x, next), omega (arith, at, next), omega (arith, y, next))
operation_reads n (Value e v) some r =
    let x = value_computes v n e r in
    let g = x.grows in
    (omega (arith, some, g), x.wire, x.wire)
operation_reads n (Holds t v) some r = let x = test_computes v n t r in (x.wire, x.wire)

further_kinded : (tables : Tables) (frame : List Kind) (all : List WireEquation) (m n : ℕ) (c : ℕ → Class) (es : List Equation) → 0 < m → m ≤ n → c 0 ≡ Constant (pos 0) → Within m es → HaveKinds tables frame c es → Among (spelled_out n es) all
    → AreKinded frame all n c (spelled_out n es)
further_kinded tables frame all m n c [] some le z b h among = record { classes = c; same = record { at = λ k less. refl }; each = tt }
further_kinded tables frame all m n c (e ∷ es) some le z b h among =
    let a = spelled n e.formula in
    let own : List WireEquation = gives e.wire a.operation ∷ spelled_out a.next es in
    let reads = reads_more m n e.formula le b.1.0 in
    let positive : 0 < n = omega (arith, some, le) in
    let runs = spelled_runs n e.formula reads in
    let size = runs.size in
    let first = formula_kinded tables frame all n c e.formula (c e.wire) positive z reads h.0 (among_front a.equations own all among) in
    let d = first.classes in
    let md : SameBelow m c d = same_less m n c d le first.same in
    let rest =
    further_kinded tables frame all m a.next d es some (omega (arith, le, size)) (md.at 0 some ∙ z) b.1.1 (kinds_still tables frame m c d es md b.1.1 h.1)
    (λ w f g. among_back a.equations own all among w f (inr g)) in
    let g = rest.classes in
    let nd : SameBelow n c g = same_twice n a.next c d g (omega (arith, size)) first.same rest.same in
    let at : g e.wire ≡ c e.wire = (same_less m n c g le nd).at e.wire b.0 in
    record {
      classes = g;
      same = nd;
      each =
          classed_both frame all g a.equations own (still_classed frame all n a.next d g a.equations runs.ordered size rest.same first.each)
          (subst (λ x. HasClass frame all g a.operation x) (sym at) (has_still frame all a.next d g a.operation (c e.wire) rest.same (operation_reads n e.formula positive reads) first.operation), rest.each);
    }

pub spelled_kinded : (tables : Tables) (frame : List Kind) (all : List WireEquation) (n : ℕ) (c : ℕ → Class) (es : List Equation) → 0 < n → c 0 ≡ Constant (pos 0) → Within n es → HaveKinds tables frame c es → Among (spelled_out n es) all
    → AreKinded frame all n c (spelled_out n es)
spelled_kinded tables frame all n c es some z b h among = further_kinded tables frame all n n c es some (omega arith) z b h among
