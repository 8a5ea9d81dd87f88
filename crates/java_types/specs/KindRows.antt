-- Operands at small places, and what is expected of them.
use Rattle.std.specs.Prelude.{ℤ, Some, List}
use Rattle.java_values.specs.declared.kind.Kind.{Kind}
use Rattle.java_values.specs.Kinds.{TypedNumber}
use Rattle.kernel_terms.specs.declared.expr.Expr as expr
use Rattle.kernel_terms.specs.declared.expr.ExprForm as expr_form
use Rattle.sj_ast.specs.declared.port.CombineOperator.{CombineOperator}
use Rattle.java_types.specs.declared.operand.Operand.{Operand}
use Rattle.java_types.specs.declared.operand.Spelling.TheVariants as spelling
use Rattle.java_types.specs.declared.failure.TypeFailure.{TypeFailure}
use Rattle.java_types.specs.definitions.Operands.{expr_of, written, literal}
use Rattle.java_types.specs.definitions.Conversions.{variable_of}
use Rattle.java_types.specs.definitions.TypedTrees.{combination_failures}

abbrev pub number_of : Kind → ℤ → TypedNumber
number_of k n = record { kind = k; number = n }

-- at place 7: a literal, and the first variable of this kind
abbrev pub literal_of : Kind → ℤ → Operand
literal_of k n = literal 7 (number_of k n) (spelling.Literal (number_of k n))

abbrev pub variable : Kind → Operand
variable k = written 7 spelling.Other (variable_of k 0)

abbrev pub literal_expr : Kind → ℤ → expr.Expr
literal_expr k n = expr_of k (expr_form.Literal n)

abbrev pub cast_expr : Kind → expr.Expr → expr.Expr
cast_expr k e = expr_of k (expr_form.Cast e)

-- of a signal of this kind, whose operator stands at place 9
abbrev pub failures_with : Kind → CombineOperator → List TypeFailure
failures_with k o =
    combination_failures (Some (record {
      kind = k;
      combine = Some (record { at = 9; operator = o });
    }))
