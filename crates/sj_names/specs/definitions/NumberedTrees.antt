-- The tree with numbers in place of names.
use Rattle.std.specs.Prelude.{ℕ, List, [], ◌∷◌, length, map, Option, Some, None}
use Rattle.sj_ast.specs.declared.name.Name.{Name}
use Rattle.sj_ast.specs.declared.expression.Raw as raw
use Rattle.sj_ast.specs.declared.expression.Raw.TheOpen.{Raw-F}
use Rattle.sj_ast.specs.declared.expression.Raw.TheFolds.{fold-Raw}
use Rattle.sj_ast.specs.declared.test.Test as signal_test
use Rattle.sj_ast.specs.declared.test.Test.TheOpen.{Test-F}
use Rattle.sj_ast.specs.declared.test.Test.TheFolds.{fold-Test}
use Rattle.sj_ast.specs.declared.port.Signal.{Signal}
use Rattle.sj_ast.specs.declared.port.Port as port
use Rattle.sj_ast.specs.declared.port.Port.TheVariants as port_is
use Rattle.sj_ast.specs.declared.statement.Form as form
use Rattle.sj_ast.specs.declared.statement.Form.TheOpen.{Form-F, Block-F, Stmt-F}
use Rattle.sj_ast.specs.declared.statement.Form.TheFolds.{fold-Form, fold-Block, fold-Stmt}
use Rattle.sj_ast.specs.declared.statement.Block as block
use Rattle.sj_ast.specs.declared.statement.Stmt as stmt
use Rattle.sj_ast.specs.declared.statement.Tree.{Tree}
use Rattle.sj_names.specs.declared.mention.NameSort.{NameSort}
use Rattle.sj_names.specs.declared.mention.NameSort.TheVariants as sort
use Rattle.sj_names.specs.declared.mention.Role.{Role}
use Rattle.sj_names.specs.declared.mention.Role.TheVariants as role
use Rattle.sj_names.specs.declared.mention.Meaning.{Meaning}
use Rattle.sj_names.specs.declared.mention.Counts.{Counts}
use Rattle.sj_names.specs.declared.entry.TableEntry.{TableEntry}
use Rattle.sj_names.specs.declared.entry.TableEntry.TheVariants as entry
use Rattle.sj_names.specs.definitions.Scopes.{Scope, no_names, meaning_in, count_of, declare, closed_at}
use Rattle.sj_names.specs.definitions.Mentions.{signal_sort}

-- A name has the number of what it stands for, and one that is declared the next number of its sort. A name with neither
-- is a failure, and has 0.
abbrev pub number_where : Role → Option Meaning → Counts → ℕ
number_where r (Some m) counts = m.number
number_where (role.Declare s) None counts = count_of s counts
number_where r None counts = 0

abbrev pub number_of : Role → Name → Scope → ℕ
number_of r name scope = number_where r (meaning_in scope.visible name.text) scope.counts

-- a `#` reads a channel where its name stands for one, and else a signal
abbrev pub entry_of_sort : NameSort → ℕ → TableEntry
entry_of_sort sort.Channel n = entry.Channel n
entry_of_sort _ n = entry.Signal n

abbrev pub entry_where : Option Meaning → ℕ → TableEntry
entry_where (Some m) n = entry_of_sort m.sort n
entry_where None n = entry.Signal n

abbrev pub status_entry : Name → Scope → TableEntry
status_entry name scope =
    entry_where (meaning_in scope.visible name.text) (number_of role.Status name scope)

-- an expression has entries of the tables in place of names
abbrev pub NumberedExpression : Type 0
NumberedExpression = raw.Raw TableEntry

abbrev pub NumberedTest : Type 0
NumberedTest = signal_test.Test ℕ

abbrev pub NumberedForm : Type 0
NumberedForm = form.Form ℕ (raw.Raw TableEntry)

abbrev pub NumberedStmt : Type 0
NumberedStmt = stmt.Stmt ℕ (raw.Raw TableEntry)

abbrev pub NumberedBlock : Type 0
NumberedBlock = block.Block ℕ (raw.Raw TableEntry)

-- a part of the tree with numbers, and the scope behind it
pub record Numbered (X : Type 0) : Type 0 where
  pub value : X
  pub scope : Scope

-- expressions and tests

abbrev pub numbered_raw_layer : Raw-F Name (Scope → NumberedExpression) → Scope → NumberedExpression
numbered_raw_layer (Raw-F.Literal at v) s = raw.Literal at v
numbered_raw_layer (Raw-F.Least at v) s = raw.Least at v
numbered_raw_layer (Raw-F.Variable at name) s =
    raw.Variable at (entry.Variable (number_of role.Variable name s))
numbered_raw_layer (Raw-F.Status at name_at name) s = raw.Status at name_at (status_entry name s)
numbered_raw_layer (Raw-F.Unary at op e) s = raw.Unary at op (e s)
numbered_raw_layer (Raw-F.Cast at kind e) s = raw.Cast at kind (e s)
numbered_raw_layer (Raw-F.Group at e) s = raw.Group at (e s)
numbered_raw_layer (Raw-F.Binary at op l r) s = raw.Binary at op (l s) (r s)

abbrev pub numbered_expression : raw.Raw Name → Scope → NumberedExpression
numbered_expression = fold-Raw Name (Scope → NumberedExpression) numbered_raw_layer

abbrev pub numbered_test_layer : Test-F Name (Scope → NumberedTest) → Scope → NumberedTest
numbered_test_layer (Test-F.Signal at name) s = signal_test.Signal at (number_of role.Test name s)
numbered_test_layer (Test-F.Not at t) s = signal_test.Not at (t s)
numbered_test_layer (Test-F.Group at t) s = signal_test.Group at (t s)
numbered_test_layer (Test-F.Both at l r) s = signal_test.Both at (l s) (r s)
numbered_test_layer (Test-F.Either at l r) s = signal_test.Either at (l s) (r s)

abbrev pub numbered_test : signal_test.Test Name → Scope → NumberedTest
numbered_test = fold-Test Name (Scope → NumberedTest) numbered_test_layer

abbrev pub numbered_value : Option (raw.Raw Name) → Scope → Option NumberedExpression
numbered_value None s = None
numbered_value (Some e) s = Some (numbered_expression e s)

abbrev pub numbered_signal : NameSort → Signal Name → Scope → Signal ℕ
numbered_signal t signal s =
    record {
      at = signal.at;
      name = number_of (role.Declare t) signal.name s;
      valued = signal.valued;
    }

-- statements

abbrev pub BlockPart : Type 0
BlockPart = Scope → Numbered NumberedBlock

abbrev pub StmtPart : Type 0
StmtPart = Scope → Numbered NumberedStmt

abbrev pub FormPart : Type 0
FormPart = Scope → Numbered NumberedForm

-- a form that changes no scope
abbrev pub plain : NumberedForm → FormPart
plain f s = record { value = f; scope = s }

abbrev pub with_block : Numbered NumberedBlock → (NumberedBlock → NumberedForm) →
    Numbered NumberedForm
with_block b f = record { value = f b.value; scope = b.scope }

abbrev pub blocks_in_order : List BlockPart → Scope → Numbered (List NumberedBlock)
blocks_in_order [] s = record { value = []; scope = s }
blocks_in_order (b ∷ bs) s =
    record {
      value = (b s).value ∷
          (blocks_in_order bs (b s).scope).value;
      scope = (blocks_in_order bs (b s).scope).scope;
    }

abbrev pub stmts_in_order : List StmtPart → Scope → Numbered (List NumberedStmt)
stmts_in_order [] s = record { value = []; scope = s }
stmts_in_order (b ∷ bs) s =
    record {
      value = (b s).value ∷
          (stmts_in_order bs (b s).scope).value;
      scope = (stmts_in_order bs (b s).scope).scope;
    }

abbrev pub block_where_given : Option BlockPart → Scope → Numbered (Option NumberedBlock)
block_where_given None s = record { value = None; scope = s }
block_where_given (Some b) s = record { value = Some (b s).value; scope = (b s).scope }

abbrev pub with_two : Numbered NumberedBlock → (Scope → Numbered (Option NumberedBlock)) →
    (NumberedBlock → Option NumberedBlock → NumberedForm) → Numbered NumberedForm
with_two b other f =
    record { value = f b.value (other b.scope).value; scope = (other b.scope).scope }

abbrev pub with_blocks : Numbered NumberedBlock → (Scope → Numbered (List NumberedBlock)) →
    (NumberedBlock → List NumberedBlock → NumberedForm) → Numbered NumberedForm
with_blocks b others f =
    record { value = f b.value (others b.scope).value; scope = (others b.scope).scope }

-- a trap's name is visible in its block
abbrev pub trap_part : ℕ → Name → BlockPart → FormPart
trap_part at name body s = record {
  value =
      form.Trap at (number_of (role.Declare sort.Trap) name s)
      (body (declare sort.Trap name.text s)).value;
  scope = closed_at (length s.visible) (body (declare sort.Trap name.text s)).scope;
}

abbrev pub numbered_form_layer : Form-F Name (raw.Raw Name) FormPart BlockPart StmtPart → FormPart
numbered_form_layer Form-F.Empty s = plain form.Empty s
numbered_form_layer (Form-F.Par first others) s =
    with_blocks (first s) (blocks_in_order others) form.Par
numbered_form_layer Form-F.Pause s = plain form.Pause s
numbered_form_layer Form-F.Halt s = plain form.Halt s
numbered_form_layer (Form-F.Emit at name value) s =
    plain (form.Emit at (number_of role.Emit name s) (numbered_value value s)) s
numbered_form_layer (Form-F.Sustain at name value) s =
    plain (form.Sustain at (number_of role.Emit name s) (numbered_value value s)) s
numbered_form_layer (Form-F.Declare signal) s =
    record {
      value = form.Declare (numbered_signal sort.Local signal s);
      scope = declare sort.Local signal.name.text s;
    }
numbered_form_layer (Form-F.Variable kind at name value) s =
    record {
      value = form.Variable kind at (number_of (role.Declare sort.Variable) name s)
          (numbered_expression value s);
      scope = declare sort.Variable name.text s;
    }
numbered_form_layer (Form-F.Assign at name value) s =
    plain (form.Assign at (number_of role.Variable name s) (numbered_expression value s)) s
numbered_form_layer (Form-F.Update at name sign_at op value) s =
    plain (form.Update at (number_of role.Variable name s) sign_at op (numbered_expression value s))
    s
numbered_form_layer (Form-F.If cond first other) s =
    with_two (first s) (block_where_given other) (form.If (numbered_expression cond s))
numbered_form_layer (Form-F.Present test first other) s =
    with_two (first s) (block_where_given other) (form.Present (numbered_test test s))
numbered_form_layer (Form-F.While body) s = with_block (body s) form.While
numbered_form_layer (Form-F.Abort weak immediate test body) s =
    with_block (body s) (form.Abort weak immediate (numbered_test test s))
numbered_form_layer (Form-F.Suspend immediate test body) s =
    with_block (body s) (form.Suspend immediate (numbered_test test s))
numbered_form_layer (Form-F.Trap at name body) s = trap_part at name body s
numbered_form_layer (Form-F.Exit at name) s = plain (form.Exit at (number_of role.Exit name s)) s
numbered_form_layer (Form-F.Send at name value) s =
    plain (form.Send at (number_of role.Send name s) (numbered_expression value s)) s
numbered_form_layer (Form-F.Receive at name) s =
    plain (form.Receive at (number_of role.Receive name s)) s
numbered_form_layer (Form-F.Await immediate test) s =
    plain (form.Await immediate (numbered_test test s)) s
numbered_form_layer (Form-F.Every immediate test body) s =
    with_block (body s) (form.Every immediate (numbered_test test s))
numbered_form_layer (Form-F.Loop body test) s =
    record {
      value = form.Loop (body s).value (numbered_test test (body s).scope);
      scope = (body s).scope;
    }

abbrev pub closed_block : ℕ → Scope → Numbered (List NumberedStmt) → Numbered NumberedBlock
closed_block at s n =
    record {
      value = block.roll-Block ℕ (raw.Raw TableEntry) (record { at = at; statements = n.value });
      scope = closed_at (length s.visible) n.scope;
    }

abbrev pub numbered_block_layer : Block-F Name (raw.Raw Name) FormPart BlockPart StmtPart →
    BlockPart
numbered_block_layer b s = closed_block b.at s (stmts_in_order b.statements s)

abbrev pub numbered_stmt_layer : Stmt-F Name (raw.Raw Name) FormPart BlockPart StmtPart → StmtPart
numbered_stmt_layer t s =
    record {
      value = stmt.roll-Stmt ℕ (raw.Raw TableEntry) (record {
        at = t.at;
        form = (t.form s).value;
      });
      scope = (t.form s).scope;
    }

abbrev pub numbered_form : form.Form Name (raw.Raw Name) → FormPart
numbered_form =
    fold-Form Name (raw.Raw Name) FormPart BlockPart StmtPart numbered_form_layer
    numbered_block_layer numbered_stmt_layer

abbrev pub numbered_block : block.Block Name (raw.Raw Name) → BlockPart
numbered_block =
    fold-Block Name (raw.Raw Name) FormPart BlockPart StmtPart numbered_form_layer
    numbered_block_layer numbered_stmt_layer

abbrev pub numbered_stmt : stmt.Stmt Name (raw.Raw Name) → StmtPart
numbered_stmt =
    fold-Stmt Name (raw.Raw Name) FormPart BlockPart StmtPart numbered_form_layer
    numbered_block_layer numbered_stmt_layer

-- a block that may be given
abbrev pub numbered_other : Option (block.Block Name (raw.Raw Name)) → Scope →
    Numbered (Option NumberedBlock)
numbered_other None s = record { value = None; scope = s }
numbered_other (Some b) s =
    record { value = Some (numbered_block b s).value; scope = (numbered_block b s).scope }

-- programs

abbrev pub numbered_port : port.Port Name → Scope → Numbered (port.Port ℕ)
numbered_port (port_is.Signal p) s = record {
  value =
      port_is.Signal (record {
        direction = p.direction;
        signal = numbered_signal (signal_sort p.direction) p.signal s;
      });
  scope = declare (signal_sort p.direction) p.signal.name.text s;
}
numbered_port (port_is.Channel c) s = record {
  value =
      port_is.Channel (record {
        kind = c.kind;
        at = c.at;
        name = number_of (role.Declare sort.Channel) c.name s;
      });
  scope = declare sort.Channel c.name.text s;
}

abbrev pub numbered_ports : List (port.Port Name) → Scope → Numbered (List (port.Port ℕ))
numbered_ports [] s = record { value = []; scope = s }
numbered_ports (p ∷ ps) s =
    record {
      value = (numbered_port p s).value ∷
          (numbered_ports ps (numbered_port p s).scope).value;
      scope = (numbered_ports ps (numbered_port p s).scope).scope;
    }

abbrev pub numbered_tree : Tree Name (raw.Raw Name) → Tree ℕ (raw.Raw TableEntry)
numbered_tree tree =
    record {
      ports = (numbered_ports tree.ports no_names).value;
      domains = (blocks_in_order (map numbered_block tree.domains)
          (numbered_ports tree.ports no_names).scope).value;
    }
