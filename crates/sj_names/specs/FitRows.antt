-- Small tables, and parts of trees with their numbers.
use Rattle.std.specs.Prelude.{ℕ, Bool, true, false, List, [], ◌∷◌, map, Option, Some, None, codes}
use Rattle.java_values.specs.declared.kind.Kind.{Kind}
use Rattle.java_values.specs.declared.kind.Kind.TheVariants.{Int}
use Rattle.java_values.specs.declared.op.Op2.TheVariants.{Add}
use Rattle.kernel_terms.specs.declared.tables.Sort.TheVariants as sort
use Rattle.kernel_terms.specs.declared.tables.Tables.{Tables}
use Rattle.sj_ast.specs.declared.expression.Raw as raw
use Rattle.sj_ast.specs.declared.expression.Raw.TheOpen.{Raw-F}
use Rattle.sj_ast.specs.declared.test.Test as signal_test
use Rattle.sj_ast.specs.declared.test.Test.TheOpen.{Test-F}
use Rattle.sj_ast.specs.declared.port.Direction.TheVariants.{Output}
use Rattle.sj_ast.specs.declared.port.Port.TheVariants as port
use Rattle.sj_ast.specs.declared.port.Signal.{Signal}
use Rattle.sj_ast.specs.declared.statement.Form as form
use Rattle.sj_ast.specs.declared.statement.Form.TheOpen.{Form-F}
use Rattle.sj_ast.specs.declared.statement.Block as block
use Rattle.sj_ast.specs.declared.statement.Stmt as stmt
use Rattle.sj_ast.specs.declared.statement.Tree.{Tree}
use Rattle.sj_names.specs.declared.entry.TableEntry.{TableEntry}
use Rattle.sj_names.specs.declared.entry.TableEntry.TheVariants as entry
use Rattle.sj_names.specs.definitions.FittingTrees.{FittingPart, ValueRules, term_scope, at_start, fits_form_layer, fits_block_layer, fits_test_layer, fits_raw_layer}
use Rattle.sj_names.specs.NameRows.{pure_signal, int_channel}

-- Domain 0 has the input 0, the output 1, the local signal 3 and the variable 0. Domain 1 has the output 2. Channel 0 goes
-- from domain 0 to domain 1.
abbrev pub small : Tables
small = record {
  signals =
      pure_signal (codes "I") 0 sort.Input ∷ pure_signal (codes "A") 0 sort.Output ∷
      pure_signal (codes "B") 1 sort.Output ∷ pure_signal (codes "L") 0 sort.Local ∷ [];
  channels = int_channel (codes "C") 0 1 ∷ [];
  variables = record { domain = 0; kind = Int } ∷ [];
}

-- In place of each value stands whether it fits.
abbrev pub fits_where_given : Option Bool → Bool
fits_where_given None = true
fits_where_given (Some b) = b

abbrev pub judged : ValueRules Bool
judged = record {
  emitted = λ scope k value. fits_where_given value;
  given = λ scope k e. e;
  updated = true;
}

abbrev pub a_form : Form-F ℕ Bool FittingPart FittingPart FittingPart → FittingPart
a_form = fits_form_layer small judged

abbrev pub in_block : List FittingPart → FittingPart
in_block parts = fits_block_layer small judged (record { at = 0; statements = parts })

-- whether the part fits at the start of the domain
abbrev pub fits_in : ℕ → FittingPart → Bool
fits_in d part = (part (at_start d)).fits

abbrev pub exits : ℕ → FittingPart
exits n = a_form (Form-F.Exit 0 n)

abbrev pub in_trap_of : ℕ → List FittingPart → FittingPart
in_trap_of n parts = a_form (Form-F.Trap 0 n (in_block parts))

abbrev pub declares : ℕ → FittingPart
declares s = a_form (Form-F.Declare (record { at = 0; name = s; valued = None }))

abbrev pub declares_valued : ℕ → Kind → FittingPart
declares_valued s k =
    a_form (Form-F.Declare (record {
      at = 0;
      name = s;
      valued = Some (record { kind = k; combine = None });
    }))

abbrev pub emits : ℕ → Option Bool → FittingPart
emits s value = a_form (Form-F.Emit 0 s value)

abbrev pub sustains : ℕ → Option Bool → FittingPart
sustains s value = a_form (Form-F.Sustain 0 s value)

abbrev pub new_variable : Kind → ℕ → Bool → FittingPart
new_variable k x value = a_form (Form-F.Variable k 0 x value)

abbrev pub assigns : ℕ → Bool → FittingPart
assigns x value = a_form (Form-F.Assign 0 x value)

abbrev pub updates : ℕ → Bool → FittingPart
updates x value = a_form (Form-F.Update 0 x 0 Add value)

-- where compound assignments are written out
abbrev pub updates_written_out : ℕ → Bool → FittingPart
updates_written_out x value =
    fits_form_layer small (record judged { updated = false }) (Form-F.Update 0 x 0 Add value)

abbrev pub sends : ℕ → Bool → FittingPart
sends c value = a_form (Form-F.Send 0 c value)

abbrev pub receives : ℕ → FittingPart
receives c = a_form (Form-F.Receive 0 c)

abbrev pub of_signal : ℕ → signal_test.Test ℕ
of_signal s = signal_test.Signal 0 s

-- a part that doesn't fit, and one that does
abbrev pub wrong : FittingPart
wrong = exits 9

abbrev pub fine : FittingPart
fine = in_block []

-- whether `#` of the entry, or its name, may stand in an expression of the domain
abbrev pub status_fits : ℕ → TableEntry → Bool
status_fits d n = fits_raw_layer small (term_scope (at_start d)) (Raw-F.Status 0 0 n)

abbrev pub name_fits : ℕ → TableEntry → Bool
name_fits d n = fits_raw_layer small (term_scope (at_start d)) (Raw-F.Variable 0 n)

-- whether a test or an expression of domain 0 fits, by whether its parts do
abbrev pub tests_as : Test-F ℕ Bool → Bool
tests_as = fits_test_layer small (term_scope (at_start 0))

abbrev pub reads_as : Raw-F TableEntry Bool → Bool
reads_as = fits_raw_layer small (term_scope (at_start 0))

abbrev pub of_variable : ℕ → raw.Raw TableEntry
of_variable x = raw.Variable 0 (entry.Variable x)

-- trees of domains that emit one signal each
abbrev pub emitting : ℕ → block.Block ℕ Bool
emitting s = block.roll-Block ℕ Bool (record {
  at = 0;
  statements = stmt.roll-Stmt ℕ Bool (record { at = 1; form = form.Emit 2 s None }) ∷ [];
})

abbrev pub tree_of : List (block.Block ℕ Bool) → Tree ℕ Bool
tree_of domains = record { ports = []; domains = domains }

-- an output, and two local signals
abbrev pub two_locals : Tables
two_locals = record {
  signals =
      pure_signal (codes "A") 0 sort.Output ∷ pure_signal (codes "L") 0 sort.Local ∷
      pure_signal (codes "M") 0 sort.Local ∷ [];
  channels = [];
  variables = [];
}

abbrev pub signal_of : ℕ → Signal ℕ
signal_of s = record { at = 0; name = s; valued = None }

abbrev pub declaring : List ℕ → block.Block ℕ Bool
declaring numbers =
    block.roll-Block ℕ Bool (record {
      at = 0;
      statements =
          map (λ s. stmt.roll-Stmt ℕ Bool (record { at = 1; form = form.Declare (signal_of s) }))
          numbers;
    })

-- a tree with an output of the first number, whose domain declares local signals of the others
abbrev pub tree_declaring : ℕ → List ℕ → Tree ℕ Bool
tree_declaring output locals =
    record {
      ports = port.Signal (record { direction = Output; signal = signal_of output }) ∷ [];
      domains = declaring locals ∷ [];
    }
