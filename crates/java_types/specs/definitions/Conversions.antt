-- What a value may be given to, and where a cast is written for it.
use Rattle.std.specs.Prelude.{ℕ, ◌||◌, cond}
use Rattle.java_values.specs.declared.kind.Kind.{Kind}
use Rattle.java_values.specs.declared.kind.Kind.TheVariants as kind
use Rattle.java_values.specs.declared.op.Op2.{Op2}
use Rattle.java_values.specs.Kinds.{is_widened, is_castable}
use Rattle.kernel_terms.specs.declared.expr.Expr as expr
use Rattle.kernel_terms.specs.declared.expr.ExprForm as expr_form
use Rattle.kernel_terms.specs.WellFormed.{same_kind}
use Rattle.java_types.specs.declared.operand.Operand.{Operand}
use Rattle.java_types.specs.declared.failure.TypeFailure.TheVariants as failure
use Rattle.java_types.specs.definitions.Checks.{Checked, fine, wrong, then}
use Rattle.java_types.specs.definitions.Spellings.{is_given_to}
use Rattle.java_types.specs.definitions.Operands.{expr_of, kind_of, binary}

-- the value as one of this kind: a cast where its own is another
abbrev pub converted : Kind → expr.Expr → expr.Expr
converted k e = cond (same_kind (kind_of e) k) e (expr_of k (expr_form.Cast e))

-- A value is given to its own kind, to one that its kind widens to, and where it is a literal to one that holds its
-- number. Else it is wrong at its first token.
abbrev pub given : Kind → Operand → Checked expr.Expr
given k o =
    cond (is_widened (kind_of o.expr) k ||
    is_given_to k o.spelling) (fine (converted k o.expr)) (wrong (failure.Mismatch o.first))

-- a condition is `boolean`
abbrev pub condition : Operand → Checked expr.Expr
condition o =
    cond (same_kind (kind_of o.expr) kind.Boolean) (fine o.expr) (wrong (failure.Mismatch o.first))

-- `x op= e` is `x = (kind of x)(x op e)`. What is wrong with it is so at its sign, or at its divisor.
abbrev pub cast_back : ℕ → Kind → expr.Expr → Checked expr.Expr
cast_back at k e =
    cond (is_castable (kind_of e) k) (fine (expr_of k (expr_form.Cast e)))
    (wrong (failure.Mismatch at))

abbrev pub variable_of : Kind → ℕ → expr.Expr
variable_of k n = expr_of k (expr_form.Variable n)

abbrev pub updated : Kind → (variable sign_at : ℕ) → Op2 → Operand → Checked expr.Expr
updated k n at op o = then (binary at op (variable_of k n) o) (cast_back at k)
