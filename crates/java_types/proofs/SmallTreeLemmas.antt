-- What small typed trees stand for, and what keeps signals apart.
use Rattle.std.proofs.Common.{◌≡◌, ℤ, Bool, true, false, ◌&&◌, List, [], ◌∷◌, ap, ◌∙◌}
use Rattle.java_values.specs.declared.kind.Kind.{Kind}
use Rattle.java_values.specs.declared.kind.Kind.TheVariants as kind
use Rattle.java_values.specs.declared.op.Op1.TheVariants as op1
use Rattle.java_values.specs.declared.op.Op2.TheVariants as op2
use Rattle.kernel_terms.specs.declared.expr.Expr as expr
use Rattle.kernel_terms.specs.Divisors.{has_divisors}
use Rattle.kernel_terms.specs.Expressions.{Expression, Literal, Unary, Binary, Cast, expression}
use Rattle.kernel_terms.specs.WellFormed.{is_default, is_given, is_of_kind}
use Rattle.sj_names.specs.definitions.DeclaredSignals.{DeclaredSignal}
use Rattle.sj_names.specs.definitions.FittingTrees.{term_scope, at_start}
use Rattle.java_types.specs.KindRows.{literal_expr, cast_expr}
use Rattle.java_types.specs.SmallTrees.{small, byte, truth, int, strange, byte_tree, truth_tree, int_tree, strange_tree, quotient_by, minus, sum_of, may_give}
use Rattle.java_types.proofs.NodeLemmas.{of_literal, of_variable, of_unary, of_binary, of_cast}

abbrev pub takes : Kind → Expression → Bool
takes k e = is_given small (term_scope (at_start 0)) k e && has_divisors e

gives : (k : Kind) (e : expr.Expr) (x : Expression) → expression e ≡ x → may_give k e ≡ takes k x
gives k e x h = ap (takes k) h

abbrev pub quotient : ℤ → Expression
quotient n = Binary kind.Int op2.Div int (Literal kind.Int n)

of_int : expression int_tree ≡ int
of_int = of_variable kind.Int 2

of_quotient : (n : ℤ) → expression (quotient_by n) ≡ quotient n
of_quotient n =
    of_binary kind.Int op2.Div int_tree (literal_expr kind.Int n) ∙ ap (λ e. Binary kind.Int op2.Div e (expression (literal_expr kind.Int n))) of_int
    ∙ ap (Binary kind.Int op2.Div int) (of_literal kind.Int n)

pub gives_byte : (k : Kind) → may_give k byte_tree ≡ takes k byte
gives_byte k = gives k byte_tree byte (of_variable kind.Byte 0)

pub gives_truth : (k : Kind) → may_give k truth_tree ≡ takes k truth
gives_truth k = gives k truth_tree truth (of_variable kind.Boolean 1)

pub gives_int : (k : Kind) → may_give k int_tree ≡ takes k int
gives_int k = gives k int_tree int of_int

pub gives_strange : (k : Kind) → may_give k strange_tree ≡ takes k strange
gives_strange k = gives k strange_tree strange (of_variable kind.Int 3)

pub gives_quotient : (k : Kind) (n : ℤ) → may_give k (quotient_by n) ≡ takes k (quotient n)
gives_quotient k n = gives k (quotient_by n) (quotient n) (of_quotient n)

pub gives_minus : (k : Kind) (n : ℤ) → may_give k (minus (quotient_by n)) ≡ takes k (Unary kind.Int op1.Minus (quotient n))
gives_minus k n = gives k (minus (quotient_by n)) (Unary kind.Int op1.Minus (quotient n)) (of_unary kind.Int op1.Minus (quotient_by n) ∙ ap (Unary kind.Int op1.Minus) (of_quotient n))

pub gives_left : (k : Kind) (n : ℤ) → may_give k (sum_of (quotient_by n) int_tree) ≡ takes k (Binary kind.Int op2.Add (quotient n) int)
gives_left k n =
    gives k (sum_of (quotient_by n) int_tree) (Binary kind.Int op2.Add (quotient n) int)
    (of_binary kind.Int op2.Add (quotient_by n) int_tree ∙ ap (λ e. Binary kind.Int op2.Add e (expression int_tree)) (of_quotient n) ∙ ap (Binary kind.Int op2.Add (quotient n)) of_int)

pub gives_right : (k : Kind) (n : ℤ) → may_give k (sum_of int_tree (quotient_by n)) ≡ takes k (Binary kind.Int op2.Add int (quotient n))
gives_right k n =
    gives k (sum_of int_tree (quotient_by n)) (Binary kind.Int op2.Add int (quotient n))
    (of_binary kind.Int op2.Add int_tree (quotient_by n) ∙ ap (λ e. Binary kind.Int op2.Add e (expression (quotient_by n))) of_int ∙ ap (Binary kind.Int op2.Add int) (of_quotient n))

pub gives_cast : (k : Kind) (n : ℤ) → may_give k (cast_expr kind.Byte (quotient_by n)) ≡ takes k (Cast kind.Byte (quotient n))
gives_cast k n = gives k (cast_expr kind.Byte (quotient_by n)) (Cast kind.Byte (quotient n)) (of_cast kind.Byte (quotient_by n) ∙ ap (Cast kind.Byte) (of_quotient n))

-- signals

pub apart : true ≡ false → ⊥
apart h = absurd (cc)

abbrev pub first_is : (DeclaredSignal → Bool) → List DeclaredSignal → Bool
first_is p [] = false
first_is p (t ∷ ts) = p t

abbrev pub is_some_signal : DeclaredSignal → Bool
is_some_signal t = true

abbrev pub is_int : DeclaredSignal → Bool
is_int t = is_of_kind t.kind kind.Int

abbrev pub has_default : DeclaredSignal → Bool
has_default t = is_default t.combine
