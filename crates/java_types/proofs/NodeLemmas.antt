-- The expressions that typed nodes stand for, and their kinds.
use Rattle.std.proofs.Common.{◌≡◌, ℕ, ℤ, ap, ◌∙◌}
use Rattle.java_values.specs.declared.kind.Kind.{Kind}
use Rattle.java_values.specs.declared.op.Op1.{Op1}
use Rattle.java_values.specs.declared.op.Op2.{Op2}
use Rattle.kernel_terms.specs.declared.expr.Expr as expr
use Rattle.kernel_terms.specs.declared.expr.ExprForm as expr_form
use Rattle.kernel_terms.specs.Expressions.{Literal, Variable, Unary, Binary, Cast, expression}
use Rattle.kernel_terms.proofs.StatementLayers.{expression-Literal, expression-Variable, expression-Unary, expression-Binary, expression-Cast}
use Rattle.java_types.specs.definitions.Operands.{expr_of, kind_of}

kind_made : (k : Kind) (f : expr_form.ExprForm) → kind_of (expr_of k f) ≡ k
kind_made k f = ap (λ (e : _). e.kind) (expr.out-roll-Expr (record { kind = k; form = f }))

form_made : (k : Kind) (f : expr_form.ExprForm) → (expr_of k f).form ≡ f
form_made k f = ap (λ (e : _). e.form) (expr.out-roll-Expr (record { kind = k; form = f }))

pub of_literal : (k : Kind) (n : ℤ) → expression (expr_of k (expr_form.Literal n)) ≡ Literal k n
of_literal k n = expression-Literal (expr_of k (expr_form.Literal n)) n (form_made k (expr_form.Literal n)) ∙ ap (λ j. Literal j n) (kind_made k (expr_form.Literal n))

pub of_variable : (k : Kind) (n : ℕ) → expression (expr_of k (expr_form.Variable n)) ≡ Variable k n
of_variable k n = expression-Variable (expr_of k (expr_form.Variable n)) n (form_made k (expr_form.Variable n)) ∙ ap (λ j. Variable j n) (kind_made k (expr_form.Variable n))

pub of_unary : (k : Kind) (op : Op1) (e : expr.Expr) → expression (expr_of k (expr_form.Unary op e)) ≡ Unary k op (expression e)
of_unary k op e = expression-Unary (expr_of k (expr_form.Unary op e)) op e (form_made k (expr_form.Unary op e)) ∙ ap (λ j. Unary j op (expression e)) (kind_made k (expr_form.Unary op e))

pub of_binary : (k : Kind) (op : Op2) (e f : expr.Expr) → expression (expr_of k (expr_form.Binary op e f)) ≡ Binary k op (expression e) (expression f)
of_binary k op e f = expression-Binary (expr_of k (expr_form.Binary op e f)) op e f (form_made k (expr_form.Binary op e f)) ∙ ap (λ j. Binary j op (expression e) (expression f)) (kind_made k (expr_form.Binary op e f))

pub of_cast : (k : Kind) (e : expr.Expr) → expression (expr_of k (expr_form.Cast e)) ≡ Cast k (expression e)
of_cast k e = expression-Cast (expr_of k (expr_form.Cast e)) e (form_made k (expr_form.Cast e)) ∙ ap (λ j. Cast j (expression e)) (kind_made k (expr_form.Cast e))
