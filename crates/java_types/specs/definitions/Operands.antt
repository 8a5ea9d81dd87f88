-- The kinds of expressions. Operands come first, from left to right, and then their operator.
use Rattle.std.specs.Prelude.{ℕ, Bool, true, false, cond, [], ◌∷◌, Option, Some, None, option_map}
use Rattle.java_values.specs.declared.kind.Kind.{Kind}
use Rattle.java_values.specs.declared.op.Op1.{Op1}
use Rattle.java_values.specs.declared.op.Op2.{Op2}
use Rattle.java_values.specs.declared.op.Op2.TheVariants as op2
use Rattle.java_values.specs.Kinds.{TypedNumber, is_castable, result_kind1, result_kind2}
use Rattle.java_values.specs.Arithmetic.{wrapped}
use Rattle.kernel_terms.specs.declared.expr.Expr as expr
use Rattle.kernel_terms.specs.declared.expr.ExprForm as expr_form
use Rattle.kernel_terms.specs.declared.tables.Tables.{Tables}
use Rattle.kernel_terms.specs.TableEntries.{signal_at, channel_at, variable_at}
use Rattle.sj_ast.specs.declared.expression.Raw as raw
use Rattle.sj_ast.specs.declared.expression.Raw.TheOpen.{Raw-F}
use Rattle.sj_ast.specs.declared.expression.Raw.TheFolds.{fold-Raw}
use Rattle.sj_names.specs.declared.entry.TableEntry.{TableEntry}
use Rattle.sj_names.specs.declared.entry.TableEntry.TheVariants as entry
use Rattle.java_types.specs.declared.operand.Spelling.{Spelling}
use Rattle.java_types.specs.declared.operand.Spelling.TheVariants as spelling
use Rattle.java_types.specs.declared.operand.Operand.{Operand}
use Rattle.java_types.specs.declared.expressions.Operands.{Operands}
use Rattle.java_types.specs.declared.failure.TypeFailure.TheVariants as failure
use Rattle.java_types.specs.definitions.Spellings.{grouped, unary_spelling, spells_divisor}
use Rattle.java_types.specs.definitions.Checks.{Checked, fine, wrong, map2, then}

abbrev pub expr_of : Kind → expr_form.ExprForm → expr.Expr
expr_of k f = expr.roll-Expr (record { kind = k; form = f })

abbrev pub kind_of : expr.Expr → Kind
kind_of e = (expr.out-Expr e).kind

abbrev pub written : ℕ → Spelling → expr.Expr → Operand
written at s e = record { expr = e; first = at; spelling = s }

-- the value of an entry of the tables; a pure signal has none
abbrev pub entry_expression : Tables → TableEntry → Option expr.Expr
entry_expression t (entry.Signal n) =
    option_map (λ k. expr_of k (expr_form.Signal n)) (signal_at t n).kind
entry_expression t (entry.Channel n) = Some (expr_of (channel_at t n).kind (expr_form.Channel n))
entry_expression t (entry.Variable n) = Some (expr_of (variable_at t n).kind (expr_form.Variable n))

-- a name's value, which starts at one place; where it has none, the name is wrong
abbrev pub value_of_name : (first name_at : ℕ) → Option expr.Expr → Checked Operand
value_of_name first name_at None = wrong (failure.Mismatch name_at)
value_of_name first name_at (Some e) = fine (written first spelling.Other e)

-- operators and casts, on operands with kinds

abbrev pub literal : ℕ → TypedNumber → Spelling → Operand
literal at v s = written at s (expr_of v.kind (expr_form.Literal v.number))

-- the value of a literal: its number is one of its kind, so that wrapping leaves it as it is
abbrev pub literal_value : TypedNumber → TypedNumber
literal_value v = record { kind = v.kind; number = wrapped v.kind v.number }

abbrev pub plain_literal : ℕ → TypedNumber → Operand
plain_literal at v = literal at (literal_value v) (spelling.Literal (literal_value v))

abbrev pub least_literal : ℕ → TypedNumber → Operand
least_literal at v = literal at (literal_value v) (spelling.Least (literal_value v))

abbrev pub with_kind1 : ℕ → Op1 → Operand → Option Kind → Checked Operand
with_kind1 at op e None = wrong (failure.Mismatch at)
with_kind1 at op e (Some k) =
    fine (written at (unary_spelling op e.spelling) (expr_of k (expr_form.Unary op e.expr)))

abbrev pub unary : ℕ → Op1 → Operand → Checked Operand
unary at op e = with_kind1 at op e (result_kind1 op (kind_of e.expr))

abbrev pub cast : ℕ → Kind → Operand → Checked Operand
cast at k e =
    cond (is_castable (kind_of e.expr) k)
    (fine (written at spelling.Other (expr_of k (expr_form.Cast e.expr))))
    (wrong (failure.Mismatch at))

abbrev pub in_parentheses : ℕ → Operand → Operand
in_parentheses at e = written at (grouped e.spelling) e.expr

abbrev pub divides : Op2 → Bool
divides op2.Div = true
divides op2.Rem = true
divides _ = false

-- an operator's divisor is looked at after its kinds
abbrev pub with_divisor : Bool → Operand → expr.Expr → Checked expr.Expr
with_divisor false r e = fine e
with_divisor true r e =
    cond (spells_divisor r.spelling) (fine e) (record {
      value = Some e;
      failures = failure.Divisor r.first ∷ [];
    })

abbrev pub with_kind2 : ℕ → Op2 → expr.Expr → Operand → Option Kind → Checked expr.Expr
with_kind2 at op l r None = wrong (failure.Mismatch at)
with_kind2 at op l r (Some k) =
    with_divisor (divides op) r (expr_of k (expr_form.Binary op l r.expr))

abbrev pub binary : ℕ → Op2 → expr.Expr → Operand → Checked expr.Expr
binary at op l r = with_kind2 at op l r (result_kind2 op (kind_of l) (kind_of r.expr))

abbrev pub operands : Operand → Operand → Operands
operands l r = record { left = l; right = r }

abbrev pub binary_operand : ℕ → Op2 → Operands → Checked Operand
binary_operand at op o =
    then (binary at op o.left.expr o.right) (λ e. fine (written o.left.first spelling.Other e))

abbrev pub checked_layer : Tables → Raw-F TableEntry (Checked Operand) → Checked Operand
checked_layer t (Raw-F.Literal at v) = fine (plain_literal at v)
checked_layer t (Raw-F.Least at v) = fine (least_literal at v)
checked_layer t (Raw-F.Variable at n) = value_of_name at at (entry_expression t n)
checked_layer t (Raw-F.Status at name_at n) = value_of_name at name_at (entry_expression t n)
checked_layer t (Raw-F.Unary at op e) = then e (unary at op)
checked_layer t (Raw-F.Cast at k e) = then e (cast at k)
checked_layer t (Raw-F.Group at e) = then e (λ o. fine (in_parentheses at o))
checked_layer t (Raw-F.Binary at op l r) = then (map2 operands l r) (binary_operand at op)

-- an expression with its kind, in these tables
abbrev pub checked_expression : Tables → raw.Raw TableEntry → Checked Operand
checked_expression t = fold-Raw TableEntry (Checked Operand) (checked_layer t)
