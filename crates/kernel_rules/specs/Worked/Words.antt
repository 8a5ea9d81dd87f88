-- Short words for small statements.
use Rattle.std.specs.Prelude.{ℕ, [], Some, None}
use Rattle.java_values.specs.declared.kind.Kind.TheVariants as kind
use Rattle.java_values.specs.declared.op.Op2.TheVariants as op
use Rattle.kernel_terms.specs.declared.tables.Tables.{Tables}
use Rattle.kernel_terms.specs.Expressions.{Expression, Variable, SignalValue, Binary}
use Rattle.kernel_terms.specs.Statements.{Stmt, Emit, Assign}
use Rattle.kernel_rules.specs.Rows.{int, signals_alone}

-- tables without an entry, for statements in which no local signal stands
abbrev pub no_tables : Tables
no_tables = signals_alone []

-- variables and values of signals are of kind `int`
abbrev pub variable : ℕ → Expression
variable x = Variable kind.Int x

abbrev pub signal_value : ℕ → Expression
signal_value s = SignalValue kind.Int s

abbrev pub plus : Expression → Expression → Expression
plus e f = Binary kind.Int op.Add e f

abbrev pub emit : ℕ → Stmt
emit s = Emit s None

abbrev pub emit_value : ℕ → Expression → Stmt
emit_value s e = Emit s (Some e)

abbrev pub assign : ℕ → ℕ → Stmt
assign x n = Assign x (int n)
