-- Equations of single operations say what the formulas say that they stand for.
use Rattle.std.proofs.Common.{◌≡◌, ◌+◌, ℕ, ℤ, pos, Bool, true, false, ◌&&◌, ◌||◌, not, cond, int_le, int_lt, List, [], ◌∷◌, ◌++◌, Option, Some, None, refl, ap, ap₂, ◌∙◌}
use Rattle.java_values.specs.Arithmetic.{is_true, of_bool, applied1, applied2, cast_to}
use Rattle.java_values.specs.declared.kind.Kind.{Kind}
use Rattle.java_values.specs.declared.kind.Kind.TheVariants as kind
use Rattle.std.specs.Int.{int_wrap}
use Rattle.java_values.specs.Kinds.{result_kind1}
use Rattle.java_values.specs.declared.op.Op1.{Op1}
use Rattle.java_values.specs.declared.op.Op2.{Op2}
use Rattle.java_values.specs.declared.op.Op2.TheVariants as op
use Rattle.kernel_terms.specs.declared.tables.Combine.{Combine}
use Rattle.kernel_terms.specs.declared.tables.Combine.TheVariants as combine
use Rattle.kernel_terms.specs.TableEntries.{value_kind}
use Rattle.kernel_terms.specs.Expressions.{Expression, Literal, Variable, SignalValue, ChannelValue, Unary, Binary, Cast, kind_of, Test, IsPresent, Not, Both, Either}
use Rattle.kernel_rules.specs.definitions.Expressions.{Readings, value_of, holds}
use Rattle.kernel_rules.specs.definitions.Signals.{combined}
use Rattle.surf_graph.specs.definitions.Formulas.{Wires, Formula, Const, Get, Same, And, AndNot, Or, Choose, Zero, StatusOf, Status, IsStatus, Greater, OfTrap, OfWeakAbort, Value, Holds, Equation, Satisfies, formula_value, is_on, told_env, readings}
use Rattle.surf_graph.specs.definitions.Formulas as formula
use Rattle.surf_graph.specs.definitions.SpelledOut.{Computing, gives, is_of, where_given, on_literal, constant_of, divisor_of, folded_to, value_wires, test_wires, operator_wires, extreme_wires, combined_wires, spelled, spelled_out}
use Rattle.surf_graph.proofs.SetValues.{truth_of}
use Rattle.std.specs.Ordering.{int_eq}
use Rattle.surf_graph.proofs.StatusOperations.{same_status, trap_given, weak_abort_given}
use Rattle.wire_code.specs.Formulas.{Satisfies as Meets, formula_value as given_by}
use Rattle.wire_code.specs.declared.formula.Formula.TheVariants as wire
use Rattle.wire_code.specs.declared.equation.Equation.{Equation as WireEquation}

pub meets_front : (f w : ℕ → ℤ) (es ds : List WireEquation) → Meets f w (es ++ ds) → Meets f w es
meets_front f w [] ds h = tt
meets_front f w (e ∷ es) ds h = (h.0, meets_front f w es ds h.1)

pub meets_back : (f w : ℕ → ℤ) (es ds : List WireEquation) → Meets f w (es ++ ds) → Meets f w ds
meets_back f w [] ds h = h
meets_back f w (e ∷ es) ds h = meets_back f w es ds h.1

pub meets_both : (f w : ℕ → ℤ) (es ds : List WireEquation) → Meets f w es → Meets f w ds → Meets f w (es ++ ds)
meets_both f w [] ds h k = k
meets_both f w (e ∷ es) ds h k = (h.0, meets_both f w es ds h.1 k)

-- a constant is the value of what it stands for

given_where : (r : Option Kind) (x m : ℤ) → where_given r x ≡ Some m → m ≡ x
given_where None x m h = cc
given_where (Some k) x m h = cc

given_if : (b : Bool) (r : Option Kind) (x m : ℤ) → cond b (where_given r x) None ≡ Some m → m ≡ x
given_if true r x m h = given_where r x m h
given_if false r x m h = cc

on_literal_given : (r : Readings) (o : Op1) (e : Expression) (m : ℤ) → on_literal o e ≡ Some m → m ≡ applied1 o (kind_of e) (value_of r e)
on_literal_given r o (Literal k n) m h = given_if (is_of k n) (result_kind1 o k) (applied1 o k n) m h
on_literal_given r o (Variable k x) m h = cc
on_literal_given r o (SignalValue k s) m h = cc
on_literal_given r o (ChannelValue k c) m h = cc
on_literal_given r o (Unary k p e) m h = cc
on_literal_given r o (Binary k p e g) m h = cc
on_literal_given r o (Cast k e) m h = cc

constant_given : (r : Readings) (g : Expression) (m : ℤ) → constant_of g ≡ Some m → m ≡ value_of r g
constant_given r (Literal k n) m h = cc
constant_given r (Variable k x) m h = cc
constant_given r (SignalValue k s) m h = cc
constant_given r (ChannelValue k c) m h = cc
constant_given r (Unary k o e) m h = on_literal_given r o e m h
constant_given r (Binary k o e g) m h = cc
constant_given r (Cast k e) m h = cc

divisor_given : (r : Readings) (o : Op2) (g : Expression) (m : ℤ) → divisor_of o g ≡ Some m → m ≡ value_of r g
divisor_given r op.Mul g m h = cc
divisor_given r op.Div g m h = constant_given r g m h
divisor_given r op.Rem g m h = constant_given r g m h
divisor_given r op.Add g m h = cc
divisor_given r op.Sub g m h = cc
divisor_given r op.Shl g m h = cc
divisor_given r op.Shr g m h = cc
divisor_given r op.Ushr g m h = cc
divisor_given r op.Less g m h = cc
divisor_given r op.LessEq g m h = cc
divisor_given r op.Greater g m h = cc
divisor_given r op.GreaterEq g m h = cc
divisor_given r op.Equal g m h = cc
divisor_given r op.NotEqual g m h = cc
divisor_given r op.And g m h = cc
divisor_given r op.Xor g m h = cc
divisor_given r op.Or g m h = cc
divisor_given r op.Both g m h = cc
divisor_given r op.Either g m h = cc

folded_given : (f w : ℕ → ℤ) (d : Option ℤ) (n : ℕ) (a : Computing) (x : ℤ) → ((m : ℤ) → d ≡ Some m → m ≡ x) → (Meets f w a.equations → w a.wire ≡ x) → Meets f w (folded_to d n a).equations → w (folded_to d n a).wire ≡ x
folded_given f w None n a x k g h = g h
folded_given f w (Some m) n a x k g h = h.0 ∙ k m refl

pub value_given : (f w : ℕ → ℤ) (v : Wires) (n : ℕ) (e : Expression) → Meets f w (value_wires v n e).equations → w (value_wires v n e).wire ≡ value_of (readings w v) e
value_given f w v n (Literal k m) h = h.0
value_given f w v n (Variable k x) h = refl
value_given f w v n (SignalValue k s) h = refl
value_given f w v n (ChannelValue k c) h = refl
value_given f w v n (Unary k o e) h =
    let a = value_wires v n e in
    let own : List WireEquation = gives a.next (wire.Apply1 o (kind_of e) a.wire) ∷ [] in
    (meets_back f w a.equations own h).0 ∙ ap (λ x. applied1 o (kind_of e) x) (value_given f w v n e (meets_front f w a.equations own h))
value_given f w v n (Binary k o e g) h =
    let a = value_wires v n e in
    let b = folded_to (divisor_of o g) a.next (value_wires v a.next g) in
    let own : List WireEquation = gives b.next (wire.Apply2 o (kind_of e) (kind_of g) a.wire b.wire) ∷ [] in
    let parts = meets_front f w (a.equations ++ b.equations) own h in
    (meets_back f w (a.equations ++ b.equations) own h).0
    ∙ ap₂ (λ x y. applied2 o (kind_of e) x (kind_of g) y) (value_given f w v n e (meets_front f w a.equations b.equations parts)) (folded_given f w (divisor_of o g) a.next (value_wires v a.next g) (value_of (readings w v) g) (λ m e. divisor_given (readings w v) o g m e) (λ s. value_given f w v a.next g s) (meets_back f w a.equations b.equations parts))
value_given f w v n (Cast k e) h =
    let a = value_wires v n e in
    let own : List WireEquation = gives a.next (wire.Cast (kind_of e) k a.wire) ∷ [] in
    (meets_back f w a.equations own h).0 ∙ ap (λ x. cast_to k x) (value_given f w v n e (meets_front f w a.equations own h))

pub test_given : (f w : ℕ → ℤ) (v : Wires) (n : ℕ) (t : Test) → Meets f w (test_wires v n t).equations → is_on w (test_wires v n t).wire ≡ holds (told_env w v) t
test_given f w v n (IsPresent s) h = refl
test_given f w v n (Not t) h =
    let a = test_wires v n t in
    let own : List WireEquation = gives a.next (wire.Not a.wire) ∷ [] in
    ap is_true (meets_back f w a.equations own h).0 ∙ truth_of (not (is_on w a.wire)) ∙ ap not (test_given f w v n t (meets_front f w a.equations own h))
test_given f w v n (Both t u) h =
    let a = test_wires v n t in
    let b = test_wires v a.next u in
    let own : List WireEquation = gives b.next (wire.And a.wire b.wire) ∷ [] in
    let parts = meets_front f w (a.equations ++ b.equations) own h in
    ap is_true (meets_back f w (a.equations ++ b.equations) own h).0 ∙ truth_of (is_on w a.wire && is_on w b.wire)
    ∙ ap₂ (λ x y. x && y) (test_given f w v n t (meets_front f w a.equations b.equations parts)) (test_given f w v a.next u (meets_back f w a.equations b.equations parts))
test_given f w v n (Either t u) h =
    let a = test_wires v n t in
    let b = test_wires v a.next u in
    let own : List WireEquation = gives b.next (wire.Or a.wire b.wire) ∷ [] in
    let parts = meets_front f w (a.equations ++ b.equations) own h in
    ap is_true (meets_back f w (a.equations ++ b.equations) own h).0 ∙ truth_of (is_on w a.wire || is_on w b.wire)
    ∙ ap₂ (λ x y. x || y) (test_given f w v n t (meets_front f w a.equations b.equations parts)) (test_given f w v a.next u (meets_back f w a.equations b.equations parts))

both_same : (b : Bool) → b && b ≡ b
both_same true = refl
both_same false = refl

same_both : (b : Bool) (x : ℤ) → cond b x x ≡ x
same_both true x = refl
same_both false x = refl

operator_given : (f w : ℕ → ℤ) (o : Op2) (k : Kind) (n a b : ℕ) → Meets f w (operator_wires o k n a b).equations → w (n + 1) ≡ cast_to k (applied2 o k (w a) k (w b))
operator_given f w o k n a b h = h.1.0 ∙ ap (λ x. cast_to k x) h.0

extreme_given : (f w : ℕ → ℤ) (k : Kind) (n a b i j : ℕ) → Meets f w (extreme_wires k n a b i j).equations → w (n + 1) ≡ cond (int_le (w a) (w b)) (w i) (w j)
extreme_given f w k n a b i j h = h.1.0 ∙ ap (λ z. cond z (w i) (w j)) (ap is_true h.0 ∙ truth_of (int_le (w a) (w b)))

pub combined_given : (f w : ℕ → ℤ) (c : Combine) (k : Kind) (n a b : ℕ) → Meets f w (combined_wires c k n a b).equations → w (combined_wires c k n a b).wire ≡ combined c k (w a) (w b)
combined_given f w combine.Add k n a b h = operator_given f w op.Add k n a b h
combined_given f w combine.Max k n a b h = extreme_given f w k n a b b a h
combined_given f w combine.Min k n a b h = extreme_given f w k n a b a b h
combined_given f w combine.And k n a b h = operator_given f w op.And k n a b h
combined_given f w combine.Or k n a b h = operator_given f w op.Or k n a b h
combined_given f w combine.Xor k n a b h = operator_given f w op.Xor k n a b h

zero_cast : (k : Kind) → cast_to k (pos 0) ≡ pos 0
unfolding int_wrap
zero_cast kind.Boolean = refl
zero_cast kind.Byte = refl
zero_cast kind.Short = refl
zero_cast kind.Char = refl
zero_cast kind.Int = refl
zero_cast kind.Long = refl

-- the last operation of a formula has its value
pub spelled_given : (f w : ℕ → ℤ) (n : ℕ) (i : Formula) → w 0 ≡ pos 0 → Meets f w (spelled n i).equations → given_by f w (spelled n i).operation ≡ formula_value f w i
spelled_given f w n (Const m) z h = refl
spelled_given f w n (Get r) z h = refl
spelled_given f w n (Same a) z h = same_both (is_on w 0) (w a)
spelled_given f w n (And a b) z h = refl
spelled_given f w n (AndNot a b) z h = ap (λ x. of_bool (is_on w a && x)) (ap is_true h.0 ∙ truth_of (not (is_on w b)))
spelled_given f w n (Or a b) z h = refl
spelled_given f w n (Choose c a b) z h = refl
spelled_given f w n (Zero k) z h = ap (λ x. cast_to k x) h.0 ∙ zero_cast k
spelled_given f w n (StatusOf code) z h = h.0
spelled_given f w n (Status go code) z h = ap₂ (λ x y. cond (is_on w go) x y) (h.1.0 ∙ h.0) z
spelled_given f w n (IsStatus a code) z h = ap of_bool (ap (λ x. int_eq (w a) x) h.0 ∙ same_status (w a) code)
spelled_given f w n (Greater a b) z h = ap (λ x. cond x (w a) (w b)) (ap is_true h.0 ∙ truth_of (int_lt (w b) (w a)))
spelled_given f w n (OfTrap a) z h = trap_given f w n a h
spelled_given f w n (OfWeakAbort t a) z h = weak_abort_given f w n t a h
spelled_given f w n (formula.Combine info some a b) z h = ap (λ x. cond (is_on w some) x (w b)) (combined_given f w info.combine (value_kind info) n a b h)
spelled_given f w n (Value e v) z h = same_both (is_on w 0) (w (value_wires v n e).wire) ∙ value_given f w v n e h
spelled_given f w n (Holds t v) z h = ap of_bool (both_same (is_on w (test_wires v n t).wire) ∙ test_given f w v n t h)

pub spelled_out_given : (f w : ℕ → ℤ) (n : ℕ) (es : List Equation) → w 0 ≡ pos 0 → Meets f w (spelled_out n es) → Satisfies f w es
spelled_out_given f w n [] z h = tt
spelled_out_given f w n (e ∷ es) z h =
    let a = spelled n e.formula in
    let rest : List WireEquation = gives e.wire a.operation ∷ spelled_out a.next es in
    let last = meets_back f w a.equations rest h in (
      last.0 ∙ spelled_given f w n e.formula z (meets_front f w a.equations rest h),
      spelled_out_given f w a.next es z last.1,
    )
