-- A tree whose expressions have kinds, and what is wrong with the kinds, in source order.
use Rattle.std.specs.Prelude.{ℕ, List, [], ◌∷◌, map, Option, Some, None}
use Rattle.std.specs.List.{flat_map}
use Rattle.java_values.specs.declared.kind.Kind.{Kind}
use Rattle.java_values.specs.declared.kind.Kind.TheVariants as kind
use Rattle.java_values.specs.declared.op.Op2.{Op2}
use Rattle.kernel_terms.specs.declared.expr.Expr as expr
use Rattle.kernel_terms.specs.declared.tables.Tables.{Tables}
use Rattle.kernel_terms.specs.TableEntries.{signal_at, channel_at, variable_at}
use Rattle.sj_ast.specs.declared.expression.Raw as raw
use Rattle.sj_ast.specs.declared.port.CombineOperator.{CombineOperator}
use Rattle.sj_ast.specs.declared.port.CombineOperator.TheVariants as operator
use Rattle.sj_ast.specs.declared.port.Combination.{Combination}
use Rattle.sj_ast.specs.declared.port.Valued.{Valued}
use Rattle.sj_ast.specs.declared.port.Port as port
use Rattle.sj_ast.specs.declared.port.Port.TheVariants as port_is
use Rattle.sj_ast.specs.declared.statement.Form as form
use Rattle.sj_ast.specs.declared.statement.Form.TheOpen.{Form-F, Block-F, Stmt-F}
use Rattle.sj_ast.specs.declared.statement.Form.TheFolds.{fold-Form, fold-Block, fold-Stmt}
use Rattle.sj_ast.specs.declared.statement.Block as block
use Rattle.sj_ast.specs.declared.statement.Stmt as stmt
use Rattle.sj_ast.specs.declared.statement.Tree.{Tree}
use Rattle.sj_names.specs.declared.entry.TableEntry.{TableEntry}
use Rattle.java_types.specs.declared.failure.TypeFailure.{TypeFailure}
use Rattle.java_types.specs.declared.failure.TypeFailure.TheVariants as failure
use Rattle.java_types.specs.definitions.Checks.{Checked, fine, wrong, after, map1, map2, map3, then, all_checked, where_given}
use Rattle.java_types.specs.definitions.Operands.{checked_expression}
use Rattle.java_types.specs.definitions.Conversions.{given, condition, updated}

abbrev pub TypedForm : Type 0
TypedForm = form.Form ℕ expr.Expr

abbrev pub TypedBlock : Type 0
TypedBlock = block.Block ℕ expr.Expr

abbrev pub TypedStmt : Type 0
TypedStmt = stmt.Stmt ℕ expr.Expr

-- A `boolean` signal takes no `+`, `max` or `min`. It is wrong at the operator.

abbrev pub boolean_failures : CombineOperator → ℕ → List TypeFailure
boolean_failures operator.Add at = failure.Mismatch at ∷ []
boolean_failures operator.Max at = failure.Mismatch at ∷ []
boolean_failures operator.Min at = failure.Mismatch at ∷ []
boolean_failures _ at = []

abbrev pub operator_failures : Kind → Combination → List TypeFailure
operator_failures kind.Boolean c = boolean_failures c.operator c.at
operator_failures _ c = []

abbrev pub written_failures : Kind → Option Combination → List TypeFailure
written_failures k None = []
written_failures k (Some c) = operator_failures k c

abbrev pub combination_failures : Option Valued → List TypeFailure
combination_failures None = []
combination_failures (Some v) = written_failures v.kind v.combine

-- values

abbrev pub value_for : Tables → Kind → raw.Raw TableEntry → Checked expr.Expr
value_for t k e = then (checked_expression t e) (given k)

abbrev pub condition_of : Tables → raw.Raw TableEntry → Checked expr.Expr
condition_of t e = then (checked_expression t e) condition

-- A valued signal is emitted with a value, and a pure one without. It is wrong at the signal's name.
abbrev pub emission : Tables → ℕ → Option Kind → Option (raw.Raw TableEntry) →
    Checked (Option expr.Expr)
emission t at None None = fine None
emission t at None (Some e) =
    record { value = None; failures = failure.Mismatch at ∷ (checked_expression t e).failures }
emission t at (Some k) None = wrong (failure.Mismatch at)
emission t at (Some k) (Some e) = map1 Some (value_for t k e)

abbrev pub emission_of : Tables → ℕ → ℕ → Option (raw.Raw TableEntry) → Checked (Option expr.Expr)
emission_of t at s value = emission t at (signal_at t s).kind value

abbrev pub update_of : Tables → (variable sign_at : ℕ) → Op2 → raw.Raw TableEntry →
    Checked expr.Expr
update_of t n at op e = then (checked_expression t e) (updated (variable_at t n).kind n at op)

-- statements

abbrev pub form_layer : Tables →
    Form-F ℕ (raw.Raw TableEntry) (Checked TypedForm) (Checked TypedBlock) (Checked TypedStmt) →
    Checked TypedForm
form_layer t Form-F.Empty = fine form.Empty
form_layer t (Form-F.Par first others) = map2 form.Par first (all_checked others)
form_layer t Form-F.Pause = fine form.Pause
form_layer t Form-F.Halt = fine form.Halt
form_layer t (Form-F.Emit at s value) = map1 (form.Emit at s) (emission_of t at s value)
form_layer t (Form-F.Sustain at s value) = map1 (form.Sustain at s) (emission_of t at s value)
form_layer t (Form-F.Declare signal) =
    after (combination_failures signal.valued) (fine (form.Declare signal))
form_layer t (Form-F.Variable k at x value) = map1 (form.Variable k at x) (value_for t k value)
form_layer t (Form-F.Assign at x value) =
    map1 (form.Assign at x) (value_for t (variable_at t x).kind value)
form_layer t (Form-F.Update at x sign_at op value) =
    map1 (form.Assign at x) (update_of t x sign_at op value)
form_layer t (Form-F.If cond first other) =
    map3 form.If (condition_of t cond) first (where_given other)
form_layer t (Form-F.Present test first other) = map2 (form.Present test) first (where_given other)
form_layer t (Form-F.While body) = map1 form.While body
form_layer t (Form-F.Abort weak immediate test body) = map1 (form.Abort weak immediate test) body
form_layer t (Form-F.Suspend immediate test body) = map1 (form.Suspend immediate test) body
form_layer t (Form-F.Trap at name body) = map1 (form.Trap at name) body
form_layer t (Form-F.Exit at name) = fine (form.Exit at name)
form_layer t (Form-F.Send at c value) =
    map1 (form.Send at c) (value_for t (channel_at t c).kind value)
form_layer t (Form-F.Receive at c) = fine (form.Receive at c)
form_layer t (Form-F.Await immediate test) = fine (form.Await immediate test)
form_layer t (Form-F.Every immediate test body) = map1 (form.Every immediate test) body
form_layer t (Form-F.Loop body test) = map1 (λ b. form.Loop b test) body

abbrev pub block_at : ℕ → List TypedStmt → TypedBlock
block_at at ss = block.roll-Block ℕ expr.Expr (record { at = at; statements = ss })

abbrev pub stmt_at : ℕ → TypedForm → TypedStmt
stmt_at at f = stmt.roll-Stmt ℕ expr.Expr (record { at = at; form = f })

abbrev pub block_layer : Block-F ℕ (raw.Raw TableEntry) (Checked TypedForm) (Checked TypedBlock)
    (Checked TypedStmt) → Checked TypedBlock
block_layer b = map1 (block_at b.at) (all_checked b.statements)

abbrev pub stmt_layer : Stmt-F ℕ (raw.Raw TableEntry) (Checked TypedForm) (Checked TypedBlock)
    (Checked TypedStmt) → Checked TypedStmt
stmt_layer s = map1 (stmt_at s.at) s.form

abbrev pub checked_form : Tables → form.Form ℕ (raw.Raw TableEntry) → Checked TypedForm
checked_form t =
    fold-Form ℕ (raw.Raw TableEntry) (Checked TypedForm) (Checked TypedBlock) (Checked TypedStmt)
    (form_layer t) block_layer stmt_layer

abbrev pub checked_block : Tables → block.Block ℕ (raw.Raw TableEntry) → Checked TypedBlock
checked_block t =
    fold-Block ℕ (raw.Raw TableEntry) (Checked TypedForm) (Checked TypedBlock) (Checked TypedStmt)
    (form_layer t) block_layer stmt_layer

abbrev pub checked_stmt : Tables → stmt.Stmt ℕ (raw.Raw TableEntry) → Checked TypedStmt
checked_stmt t =
    fold-Stmt ℕ (raw.Raw TableEntry) (Checked TypedForm) (Checked TypedBlock) (Checked TypedStmt)
    (form_layer t) block_layer stmt_layer

-- a block that may be given
abbrev pub checked_other : Tables → Option (block.Block ℕ (raw.Raw TableEntry)) →
    Checked (Option TypedBlock)
checked_other t None = fine None
checked_other t (Some b) = map1 Some (checked_block t b)

-- programs

abbrev pub port_failures : port.Port ℕ → List TypeFailure
port_failures (port_is.Signal p) = combination_failures p.signal.valued
port_failures (port_is.Channel c) = []

abbrev pub TypedTree : Type 0
TypedTree = Tree ℕ expr.Expr

abbrev pub with_domains : List (port.Port ℕ) → List TypedBlock → TypedTree
with_domains ports blocks = record { ports = ports; domains = blocks }

abbrev pub checked_tree : Tables → Tree ℕ (raw.Raw TableEntry) → Checked TypedTree
checked_tree t tree =
    after (flat_map port_failures tree.ports)
    (map1 (with_domains tree.ports) (all_checked (map (checked_block t) tree.domains)))
