-- What is asked of the expressions of a tree with kinds.
use Rattle.std.specs.Prelude.{◌&&◌, false}
use Rattle.kernel_terms.specs.declared.expr.Expr.{Expr}
use Rattle.kernel_terms.specs.declared.tables.Tables.{Tables}
use Rattle.kernel_terms.specs.Divisors.{has_divisors, given_divisors}
use Rattle.kernel_terms.specs.Expressions.{expression}
use Rattle.kernel_terms.specs.Statements.{optional_expression}
use Rattle.kernel_terms.specs.WellFormed.{is_emission, is_given}
use Rattle.sj_names.specs.definitions.FittingTrees.{ValueRules}

-- it has its kind by its operators and operands, that of what it is given to, and allowed divisors alone; compound
-- assignments are written out
abbrev pub kind_rules : Tables → ValueRules Expr
kind_rules t = record {
  emitted =
      λ scope k value. is_emission t scope k (optional_expression value) &&
      given_divisors (optional_expression value);
  given = λ scope k e. is_given t scope k (expression e) && has_divisors (expression e);
  updated = false;
}
