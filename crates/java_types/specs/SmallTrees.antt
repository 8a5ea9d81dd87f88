-- Small tables with kinds, and expressions, statements and trees over them.
use Rattle.std.specs.Prelude.{ℕ, ℤ, pos, Bool, true, List, [], ◌∷◌, Option, Some, None, codes}
use Rattle.java_values.specs.declared.kind.Kind.{Kind}
use Rattle.java_values.specs.declared.kind.Kind.TheVariants as kind
use Rattle.java_values.specs.declared.op.Op1.TheVariants as op1
use Rattle.java_values.specs.declared.op.Op2.TheVariants as op2
use Rattle.kernel_terms.specs.declared.expr.Expr as expr
use Rattle.kernel_terms.specs.declared.expr.ExprForm as expr_form
use Rattle.kernel_terms.specs.declared.tables.Sort.{Sort}
use Rattle.kernel_terms.specs.declared.tables.Sort.TheVariants as sort
use Rattle.kernel_terms.specs.declared.tables.Combine.{Combine}
use Rattle.kernel_terms.specs.declared.tables.Combine.TheVariants as combine
use Rattle.kernel_terms.specs.declared.tables.SignalInfo.{SignalInfo}
use Rattle.kernel_terms.specs.declared.tables.ChannelInfo.{ChannelInfo}
use Rattle.kernel_terms.specs.declared.tables.VariableInfo.{VariableInfo}
use Rattle.kernel_terms.specs.declared.tables.Tables.{Tables}
use Rattle.kernel_terms.specs.Expressions.{Expression, Literal, Variable}
use Rattle.kernel_terms.specs.WellFormed.{fits_expression}
use Rattle.sj_ast.specs.declared.port.CombineOperator.{CombineOperator}
use Rattle.sj_ast.specs.declared.port.Valued.{Valued}
use Rattle.sj_ast.specs.declared.port.Direction.TheVariants as direction
use Rattle.sj_ast.specs.declared.port.Port as port
use Rattle.sj_ast.specs.declared.port.Port.TheVariants as port_is
use Rattle.sj_ast.specs.declared.statement.Form.TheOpen.{Form-F}
use Rattle.sj_ast.specs.declared.statement.Tree.{Tree}
use Rattle.sj_names.specs.definitions.FittingTrees.{FittingPart, term_scope, at_start, alone, fits_form_layer}
use Rattle.java_types.specs.definitions.Operands.{expr_of}
use Rattle.java_types.specs.definitions.Conversions.{variable_of}
use Rattle.java_types.specs.definitions.FittingKinds.{kind_rules}
use Rattle.java_types.specs.definitions.Combinations.{combinations_fit}
use Rattle.java_types.specs.KindRows.{literal_expr}

-- entries of tables

abbrev pub signal : ℕ → Sort → Option Kind → Combine → SignalInfo
signal d s k c = record { name = codes "S"; domain = d; sort = s; kind = k; combine = c }

abbrev pub channel : Kind → (sender receiver : ℕ) → ChannelInfo
channel k sender receiver =
    record { name = codes "C"; kind = k; sender = sender; receiver = receiver }

abbrev pub variable_in : ℕ → Kind → VariableInfo
variable_in d k = record { domain = d; kind = k }

-- Domain 0 has the pure output 0, the outputs 1 and 2, the local signal 4, and the variables 0 to
-- 2. Domain 1 has the output 3 and the variable 3. Channel 0 goes from domain 0 to domain 1, and
-- channel 1 back.
abbrev pub small : Tables
small = record {
  signals =
      signal 0 sort.Output None combine.Max
      ∷ signal 0 sort.Output (Some kind.Int) combine.Max
      ∷ signal 0 sort.Output (Some kind.Boolean) combine.Or
      ∷ signal 1 sort.Output (Some kind.Int) combine.Max
      ∷ signal 0 sort.Local (Some kind.Int) combine.Max ∷ [];
  channels = channel kind.Byte 0 1 ∷ channel kind.Long 1 0 ∷ [];
  variables =
      variable_in 0 kind.Byte
      ∷ variable_in 0 kind.Boolean ∷ variable_in 0 kind.Int ∷ variable_in 1 kind.Int ∷ [];
}

-- expressions of the rules: variables of domain 0, a variable of domain 1, and a literal

abbrev pub byte : Expression
byte = Variable kind.Byte 0

abbrev pub truth : Expression
truth = Variable kind.Boolean 1

abbrev pub int : Expression
int = Variable kind.Int 2

abbrev pub strange : Expression
strange = Variable kind.Int 3

abbrev pub long : Expression
long = Literal kind.Long (pos 1)

-- whether an expression fits at the start of domain 0, and in the bodies of local signals
abbrev pub fits_here : Expression → Bool
fits_here = fits_expression small (term_scope (at_start 0))

abbrev pub fits_within : List ℕ → Expression → Bool
fits_within locals = fits_expression small (record { domain = 0; traps = 0; locals = locals })

-- typed trees

abbrev pub byte_tree : expr.Expr
byte_tree = variable_of kind.Byte 0

abbrev pub truth_tree : expr.Expr
truth_tree = variable_of kind.Boolean 1

abbrev pub int_tree : expr.Expr
int_tree = variable_of kind.Int 2

abbrev pub strange_tree : expr.Expr
strange_tree = variable_of kind.Int 3

abbrev pub quotient_by : ℤ → expr.Expr
quotient_by n = expr_of kind.Int (expr_form.Binary op2.Div int_tree (literal_expr kind.Int n))

abbrev pub minus : expr.Expr → expr.Expr
minus e = expr_of kind.Int (expr_form.Unary op1.Minus e)

abbrev pub sum_of : expr.Expr → expr.Expr → expr.Expr
sum_of e f = expr_of kind.Int (expr_form.Binary op2.Add e f)

-- whether the expression may be given to the kind, at the start of domain 0
abbrev pub may_give : Kind → expr.Expr → Bool
may_give k e = (kind_rules small).given (term_scope (at_start 0)) k e

-- whether the statement stands in a typed tree, at the start of domain 0
abbrev pub stands : Form-F ℕ expr.Expr FittingPart FittingPart FittingPart → Bool
stands f = (fits_form_layer small (kind_rules small) f (at_start 0)).fits

abbrev pub fine_part : FittingPart
fine_part = alone true

-- tables and trees that have these signals alone

abbrev pub tables_with : List SignalInfo → Tables
tables_with signals = record { signals = signals; channels = []; variables = [] }

abbrev pub output_of : Option Kind → Combine → SignalInfo
output_of k c = signal 0 sort.Output k c

abbrev pub combined_fits : Option Kind → Combine → Bool
combined_fits k c = combinations_fit (tables_with (output_of k c ∷ []))

-- an output of this number, as it is declared
abbrev pub declares_at : ℕ → Option Valued → port.Port ℕ
declares_at n v =
    port_is.Signal (record {
      direction = direction.Output;
      signal = record { at = 0; name = n; valued = v };
    })

abbrev pub declares : Option Valued → port.Port ℕ
declares = declares_at 0

abbrev pub plain : Kind → Option Valued
plain k = Some (record { kind = k; combine = None })

abbrev pub combined_by : Kind → CombineOperator → Option Valued
combined_by k o = Some (record { kind = k; combine = Some (record { at = 0; operator = o }) })

abbrev pub tree_with : List (port.Port ℕ) → Tree ℕ expr.Expr
tree_with ports = record { ports = ports; domains = [] }
