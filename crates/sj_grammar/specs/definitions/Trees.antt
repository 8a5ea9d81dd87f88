-- The tree that a sentence stands for, with the texts of names, and places.
use Rattle.std.specs.Prelude.{ℕ, Bool, true, false, pos, negsuc, ◌-◌, ◌^◌, List, [], ◌∷◌, Option, Some, None}
use Rattle.java_values.specs.Kinds.{TypedNumber}
use Rattle.java_values.specs.declared.kind.Kind.TheVariants as kind
use Rattle.java_values.specs.declared.op.Op2.{Op2}
use Rattle.sj_lexer.specs.declared.token.Class.{Class}
use Rattle.sj_lexer.specs.declared.token.Class.TheVariants.{Reserved, Literal, LongEdge}
use Rattle.sj_lexer.specs.declared.token.Word.TheVariants as word
use Rattle.sj_lexer.specs.declared.token.Token.{Token}
use Rattle.sj_lexer.specs.definitions.Readings.{text_of}
use Rattle.sj_ast.specs.declared.name.Name.{Name}
use Rattle.sj_ast.specs.declared.expression.Raw as raw
use Rattle.sj_ast.specs.declared.test.Test as signal_test
use Rattle.sj_ast.specs.declared.port.Combination.{Combination}
use Rattle.sj_ast.specs.declared.port.Signal.{Signal}
use Rattle.sj_ast.specs.declared.port.Port as port
use Rattle.sj_ast.specs.declared.port.Port.TheVariants as port_is
use Rattle.sj_ast.specs.declared.statement.Form as form
use Rattle.sj_ast.specs.declared.statement.Stmt as stmt
use Rattle.sj_ast.specs.declared.statement.Block as block
use Rattle.sj_ast.specs.declared.statement.Tree.{Tree}
use Rattle.sj_grammar.specs.declared.role.Join.{Join}
use Rattle.sj_grammar.specs.declared.role.Join.TheVariants as join
use Rattle.sj_grammar.specs.definitions.Expressions.{Expr, Atom, Least, Status, Prefix, Cast, Group, Infix}
use Rattle.sj_grammar.specs.definitions.Tests.{Test, SignalTest, NotTest, GroupTest, JoinTest}
use Rattle.sj_grammar.specs.definitions.Statements.{Given, NoValue, Value, Guard, Later, AtOnce, Combined, NotCombined, CombinedBy, Declared, Pure, Valued, Stmt, EmptyStmt, ParStmt, StillStmt, EmitStmt, SignalStmt, VariableStmt, AssignStmt, IfStmt, PresentStmt, WhileStmt, GuardedStmt, WeakStmt, TrapStmt, ExitStmt, SendStmt, ReceiveStmt, AwaitStmt, LoopStmt, Stmts, Done, Then, Block, Braces, Other, NoElse, ElseBlock, Others, NoOther, Beside}
use Rattle.sj_grammar.specs.definitions.Programs.{Port, SignalPort, ChannelPort, Ports, NoPort, PortThen, Program}

abbrev pub name_of : List ℕ → Token → Name
name_of source t = record { text = text_of source t; at = t.start }

-- a literal, or the variable of a name
abbrev pub atom_of : List ℕ → Class → Token → raw.Raw Name
atom_of source (Literal v) t = raw.Literal t.start v
atom_of source (Reserved word.True) t =
    raw.Literal t.start (record { kind = kind.Boolean; number = pos 1 })
atom_of source (Reserved word.False) t =
    raw.Literal t.start (record { kind = kind.Boolean; number = pos 0 })
atom_of source _ t = raw.Variable t.start (name_of source t)

-- the least `long`, and else the least `int`
abbrev pub least_of : Class → TypedNumber
least_of LongEdge = record { kind = kind.Long; number = negsuc (2 ^ 63 - 1) }
least_of _ = record { kind = kind.Int; number = negsuc (2 ^ 31 - 1) }

abbrev pub raw_of : List ℕ → Expr → raw.Raw Name
raw_of source (Atom t) = atom_of source t.class t
raw_of source (Least m e) = raw.Least m.start (least_of e.class)
raw_of source (Status h n) = raw.Status h.start n.start (name_of source n)
raw_of source (Prefix op t e) = raw.Unary t.start op (raw_of source e)
raw_of source (Cast k o w c e) = raw.Cast o.start k (raw_of source e)
raw_of source (Group o e c) = raw.Group o.start (raw_of source e)
raw_of source (Infix op t l r) = raw.Binary t.start op (raw_of source l) (raw_of source r)

abbrev pub joined : Join → ℕ → signal_test.Test Name → signal_test.Test Name → signal_test.Test Name
joined join.Either at l r = signal_test.Either at l r
joined join.Both at l r = signal_test.Both at l r

abbrev pub test_of : List ℕ → Test → signal_test.Test Name
test_of source (SignalTest n) = signal_test.Signal n.start (name_of source n)
test_of source (NotTest b t) = signal_test.Not b.start (test_of source t)
test_of source (GroupTest o t c) = signal_test.Group o.start (test_of source t)
test_of source (JoinTest j t l r) = joined j t.start (test_of source l) (test_of source r)

abbrev pub value_of : List ℕ → Given → Option (raw.Raw Name)
value_of source NoValue = None
value_of source (Value o e c) = Some (raw_of source e)

abbrev pub is_at_once : Guard → Bool
is_at_once (Later o t c) = false
is_at_once (AtOnce o i t c) = true

abbrev pub guard_test : List ℕ → Guard → signal_test.Test Name
guard_test source (Later o t c) = test_of source t
guard_test source (AtOnce o i t c) = test_of source t

abbrev pub combination_of : Combined → Option Combination
combination_of NotCombined = None
combination_of (CombinedBy op w t) = Some (record { at = t.start; operator = op })

abbrev pub signal_of : List ℕ → Declared → Signal Name
signal_of source (Pure w n s) = record { at = n.start; name = name_of source n; valued = None }
signal_of source (Valued k v w n c s) =
    record {
      at = n.start;
      name = name_of source n;
      valued = Some (record { kind = k; combine = combination_of c });
    }

abbrev pub SourceForm : Type 0
SourceForm = form.Form Name (raw.Raw Name)

abbrev pub SourceStmt : Type 0
SourceStmt = stmt.Stmt Name (raw.Raw Name)

abbrev pub SourceBlock : Type 0
SourceBlock = block.Block Name (raw.Raw Name)

-- the form of a statement, by its first word
abbrev pub still_form : Class → SourceForm
still_form (Reserved word.Halt) = form.Halt
still_form _ = form.Pause

abbrev pub emission_form : Class → ℕ → Name → Option (raw.Raw Name) → SourceForm
emission_form (Reserved word.Sustain) at name value = form.Sustain at name value
emission_form _ at name value = form.Emit at name value

abbrev pub assign_form : Option Op2 → ℕ → Name → ℕ → raw.Raw Name → SourceForm
assign_form None at name sign_at value = form.Assign at name value
assign_form (Some op) at name sign_at value = form.Update at name sign_at op value

abbrev pub guarded_form : Class → Bool → signal_test.Test Name → SourceBlock → SourceForm
guarded_form (Reserved word.Abort) immediate test body = form.Abort false immediate test body
guarded_form (Reserved word.Suspend) immediate test body = form.Suspend immediate test body
guarded_form _ immediate test body = form.Every immediate test body

abbrev pub placed : Token → SourceForm → SourceStmt
placed t f = stmt.roll-Stmt Name (raw.Raw Name) (record { at = t.start; form = f })

abbrev pub block_at : Token → List SourceStmt → SourceBlock
block_at t statements =
    block.roll-Block Name (raw.Raw Name) (record { at = t.start; statements = statements })

abbrev pub first_token : Block → Token
first_token (Braces o ss c) = o

abbrev mutual
  pub stmt_of : List ℕ → Stmt → SourceStmt
  stmt_of source (EmptyStmt s) = placed s form.Empty
  stmt_of source (ParStmt b o) =
      placed (first_token b) (form.Par (block_of source b) (others_of source o))
  stmt_of source (StillStmt w s) = placed w (still_form w.class)
  stmt_of source (EmitStmt w n v s) =
      placed w (emission_form w.class n.start (name_of source n) (value_of source v))
  stmt_of source (SignalStmt (Pure w n s)) = placed w (form.Declare (signal_of source (Pure w n s)))
  stmt_of source (SignalStmt (Valued k v w n c s)) =
      placed v (form.Declare (signal_of source (Valued k v w n c s)))
  stmt_of source (VariableStmt k v n t e s) =
      placed v (form.Variable k n.start (name_of source n) (raw_of source e))
  stmt_of source (AssignStmt op n t e s) =
      placed n (assign_form op n.start (name_of source n) t.start (raw_of source e))
  stmt_of source (IfStmt w o e c b other) =
      placed w (form.If (raw_of source e) (block_of source b) (other_of source other))
  stmt_of source (PresentStmt w o t c b other) =
      placed w (form.Present (test_of source t) (block_of source b) (other_of source other))
  stmt_of source (WhileStmt w o t c b) = placed w (form.While (block_of source b))
  stmt_of source (GuardedStmt w g b) =
      placed w (guarded_form w.class (is_at_once g) (guard_test source g) (block_of source b))
  stmt_of source (WeakStmt v w g b) =
      placed v (form.Abort true (is_at_once g) (guard_test source g) (block_of source b))
  stmt_of source (TrapStmt w o n c b) =
      placed w (form.Trap n.start (name_of source n) (block_of source b))
  stmt_of source (ExitStmt w o n c s) = placed w (form.Exit n.start (name_of source n))
  stmt_of source (SendStmt w n o e c s) =
      placed w (form.Send n.start (name_of source n) (raw_of source e))
  stmt_of source (ReceiveStmt w n s) = placed w (form.Receive n.start (name_of source n))
  stmt_of source (AwaitStmt w g s) = placed w (form.Await (is_at_once g) (guard_test source g))
  stmt_of source (LoopStmt w b v o t c s) =
      placed w (form.Loop (block_of source b) (test_of source t))

  pub stmts_of : List ℕ → Stmts → List SourceStmt
  stmts_of source Done = []
  stmts_of source (Then s ss) = stmt_of source s ∷ stmts_of source ss

  pub block_of : List ℕ → Block → SourceBlock
  block_of source (Braces o ss c) = block_at o (stmts_of source ss)

  pub other_of : List ℕ → Other → Option SourceBlock
  other_of source NoElse = None
  other_of source (ElseBlock w b) = Some (block_of source b)

  pub others_of : List ℕ → Others → List SourceBlock
  others_of source NoOther = []
  others_of source (Beside t b o) = block_of source b ∷ others_of source o

abbrev pub port_of : List ℕ → Port → port.Port Name
port_of source (SignalPort d w s) =
    port_is.Signal (record { direction = d; signal = signal_of source s })
port_of source (ChannelPort k v w n s) =
    port_is.Channel (record { kind = k; at = n.start; name = name_of source n })

abbrev pub ports_of : List ℕ → Ports → List (port.Port Name)
ports_of source NoPort = []
ports_of source (PortThen p ps) = port_of source p ∷ ports_of source ps

abbrev pub tree_of : List ℕ → Program → Tree Name (raw.Raw Name)
tree_of source p =
    record {
      ports = ports_of source p.ports;
      domains = block_of source p.first ∷
          others_of source p.others;
    }
