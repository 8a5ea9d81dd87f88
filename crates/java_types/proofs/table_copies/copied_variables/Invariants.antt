use Rattle.std.proofs.Common.{◌≡◌, ◌++◌, drop}
use Rattle.java_types.proofs.table_copies.copied_variables.Given as goal

abbrev pub invariant-loop-variable : goal.invariant-loop-variable
invariant-loop-variable l = l.variables ≡ l.copies.items ++ drop l.variable-index l.variables
