-- Typed expressions and tests of the rules, and those that a tree of the program stands for.
use Rattle.std.specs.Prelude.{ℕ, ℤ}
use Rattle.java_values.specs.declared.kind.Kind.{Kind}
use Rattle.java_values.specs.declared.op.Op1.{Op1}
use Rattle.java_values.specs.declared.op.Op2.{Op2}
use Rattle.kernel_terms.specs.declared.expr.Expr.{Expr}
use Rattle.kernel_terms.specs.declared.expr.ExprForm.TheOpen.{ExprForm-F, Expr-F}
use Rattle.kernel_terms.specs.declared.expr.ExprForm.TheFolds.{fold-Expr}
use Rattle.kernel_terms.specs.declared.sig_test.SigTest.{SigTest}
use Rattle.kernel_terms.specs.declared.sig_test.SigTest.TheOpen.{SigTest-F}
use Rattle.kernel_terms.specs.declared.sig_test.SigTest.TheFolds.{fold-SigTest}

-- an expression, each node with its kind
pub data Expression : Type 0 where
  Literal : (kind : Kind) (number : ℤ) → Expression
  Variable : (kind : Kind) (variable : ℕ) → Expression
  SignalValue : (kind : Kind) (signal : ℕ) → Expression
  ChannelValue : (kind : Kind) (channel : ℕ) → Expression
  Unary : (kind : Kind) (op : Op1) (e : Expression) → Expression
  Binary : (kind : Kind) (op : Op2) (e f : Expression) → Expression
  Cast : (kind : Kind) (e : Expression) → Expression

abbrev pub kind_of : Expression → Kind
kind_of (Literal k n) = k
kind_of (Variable k n) = k
kind_of (SignalValue k s) = k
kind_of (ChannelValue k c) = k
kind_of (Unary k op e) = k
kind_of (Binary k op e f) = k
kind_of (Cast k e) = k

-- a test of the presence of signals
pub data Test : Type 0 where
  IsPresent : (signal : ℕ) → Test
  Not : (t : Test) → Test
  Both : (t u : Test) → Test
  Either : (t u : Test) → Test

-- one level of a tree, with the expression of each part in its place, at a kind
abbrev pub form_expression : ExprForm-F (Kind → Expression) Expression → Kind → Expression
form_expression (ExprForm-F.Literal n) k = Literal k n
form_expression (ExprForm-F.Variable n) k = Variable k n
form_expression (ExprForm-F.Signal s) k = SignalValue k s
form_expression (ExprForm-F.Channel c) k = ChannelValue k c
form_expression (ExprForm-F.Unary op e) k = Unary k op e
form_expression (ExprForm-F.Binary op e f) k = Binary k op e f
form_expression (ExprForm-F.Cast e) k = Cast k e

abbrev pub node_expression : Expr-F (Kind → Expression) Expression → Expression
node_expression e = e.form e.kind

abbrev pub expression : Expr → Expression
expression = fold-Expr (Kind → Expression) Expression form_expression node_expression

abbrev pub form_test : SigTest-F Test → Test
form_test (SigTest-F.Signal s) = IsPresent s
form_test (SigTest-F.Not t) = Not t
form_test (SigTest-F.Both t u) = Both t u
form_test (SigTest-F.Either t u) = Either t u

abbrev pub test : SigTest → Test
test = fold-SigTest Test form_test
