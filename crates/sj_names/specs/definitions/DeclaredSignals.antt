-- The signals that a tree declares, and those of tables.
use Rattle.std.specs.Prelude.{◌≡◌, ℕ, suc, List, [], ◌∷◌, ◌++◌, map, Option, Some, None}
use Rattle.java_values.specs.declared.kind.Kind.{Kind}
use Rattle.kernel_terms.specs.declared.tables.Combine.{Combine}
use Rattle.kernel_terms.specs.declared.tables.SignalInfo.{SignalInfo}
use Rattle.kernel_terms.specs.declared.tables.Tables.{Tables}
use Rattle.sj_ast.specs.declared.port.Signal.{Signal}
use Rattle.sj_ast.specs.declared.port.Port.{Port}
use Rattle.sj_ast.specs.declared.port.Port.TheVariants as port
use Rattle.sj_ast.specs.declared.statement.Form.{Form}
use Rattle.sj_ast.specs.declared.statement.Form.TheOpen.{Form-F, Block-F, Stmt-F}
use Rattle.sj_ast.specs.declared.statement.Form.TheFolds.{fold-Form, fold-Block, fold-Stmt}
use Rattle.sj_ast.specs.declared.statement.Block.{Block}
use Rattle.sj_ast.specs.declared.statement.Stmt.{Stmt}
use Rattle.sj_ast.specs.declared.statement.Tree.{Tree}
use Rattle.sj_names.specs.definitions.DeclaredTables.{kind_of, combine_of}

-- what a declaration says of a signal
pub record DeclaredSignal : Type 0 where
  pub number : ℕ
  pub kind : Option Kind
  pub combine : Combine

abbrev pub declaration_of : Signal ℕ → DeclaredSignal
declaration_of signal =
    record {
      number = signal.name;
      kind = kind_of signal.valued;
      combine = combine_of signal.valued;
    }

-- what tables say of their signals from a number on
abbrev pub listed_from : ℕ → List SignalInfo → List DeclaredSignal
listed_from n [] = []
listed_from n (info ∷ more) =
    record { number = n; kind = info.kind; combine = info.combine } ∷ listed_from (suc n) more

abbrev pub one_list : List (List DeclaredSignal) → List DeclaredSignal
one_list [] = []
one_list (ts ∷ more) = ts ++ one_list more

abbrev pub signals_where_given : Option (List DeclaredSignal) → List DeclaredSignal
signals_where_given None = []
signals_where_given (Some ts) = ts

abbrev pub signals_of_port : Port ℕ → List DeclaredSignal
signals_of_port (port.Signal p) = declaration_of p.signal ∷ []
signals_of_port (port.Channel c) = []

-- each declared signal, in source order
module _ {E : Type 0} where
  abbrev pub form_signals_layer : Form-F ℕ E (List DeclaredSignal) (List DeclaredSignal)
      (List DeclaredSignal) → List DeclaredSignal
  form_signals_layer (Form-F.Declare signal) = declaration_of signal ∷ []
  form_signals_layer (Form-F.Par first others) = first ++ one_list others
  form_signals_layer (Form-F.If cond first other) = first ++ signals_where_given other
  form_signals_layer (Form-F.Present test first other) = first ++ signals_where_given other
  form_signals_layer (Form-F.While body) = body
  form_signals_layer (Form-F.Abort weak immediate test body) = body
  form_signals_layer (Form-F.Suspend immediate test body) = body
  form_signals_layer (Form-F.Trap at name body) = body
  form_signals_layer (Form-F.Every immediate test body) = body
  form_signals_layer (Form-F.Loop body test) = body
  form_signals_layer _ = []

  abbrev pub block_signals_layer : Block-F ℕ E (List DeclaredSignal) (List DeclaredSignal)
      (List DeclaredSignal) → List DeclaredSignal
  block_signals_layer b = one_list b.statements

  abbrev pub stmt_signals_layer : Stmt-F ℕ E (List DeclaredSignal) (List DeclaredSignal)
      (List DeclaredSignal) → List DeclaredSignal
  stmt_signals_layer s = s.form

  abbrev pub signals_of_form : Form ℕ E → List DeclaredSignal
  signals_of_form =
      fold-Form ℕ E (List DeclaredSignal) (List DeclaredSignal) (List DeclaredSignal)
      form_signals_layer block_signals_layer stmt_signals_layer

  abbrev pub signals_of_block : Block ℕ E → List DeclaredSignal
  signals_of_block =
      fold-Block ℕ E (List DeclaredSignal) (List DeclaredSignal) (List DeclaredSignal)
      form_signals_layer block_signals_layer stmt_signals_layer

  abbrev pub signals_of_stmt : Stmt ℕ E → List DeclaredSignal
  signals_of_stmt =
      fold-Stmt ℕ E (List DeclaredSignal) (List DeclaredSignal) (List DeclaredSignal)
      form_signals_layer block_signals_layer stmt_signals_layer

  -- those of the interface, and then those of each domain
  abbrev pub signals_of_tree : Tree ℕ E → List DeclaredSignal
  signals_of_tree tree =
      one_list (map signals_of_port tree.ports) ++ one_list (map signals_of_block tree.domains)

  -- The tables have one entry for each declaration, in order, with its kind and its combination, at
  -- the number that it declares. So no two declare the same number.
  abbrev pub AreDeclared : Tables → Tree ℕ E → Type 0
  AreDeclared t tree = listed_from 0 t.signals ≡ signals_of_tree tree
