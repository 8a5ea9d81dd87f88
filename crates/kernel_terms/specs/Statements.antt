-- The statements of the rules, and the one that a tree of the program stands for.
use Rattle.std.specs.Prelude.{ℕ, ℤ, pos, Bool, false, List, [], ◌∷◌, Option, Some, None}
use Rattle.kernel_terms.specs.declared.expr.Expr.{Expr}
use Rattle.kernel_terms.specs.declared.term.Term.{Term}
use Rattle.kernel_terms.specs.declared.term.Form.{Form}
use Rattle.kernel_terms.specs.declared.term.Form.TheOpen.{Form-F, Term-F}
use Rattle.kernel_terms.specs.declared.term.Form.TheFolds.{fold-Form, fold-Term}
use Rattle.kernel_terms.specs.Expressions.{Expression, Test, expression, test}

-- An abort and a suspend look at their tests where they are armed. A local signal has its last value.
-- The last four stand in no program: they are sends and receives that wait, and that have completed.
pub data Stmt : Type 0 where
  Nothing : Stmt
  Pause : Stmt
  Emit : (signal : ℕ) (value : Option Expression) → Stmt
  Assign : (variable : ℕ) (value : Expression) → Stmt
  If : (condition : Expression) (p q : Stmt) → Stmt
  Present : (test : Test) (p q : Stmt) → Stmt
  Seq : (p q : Stmt) → Stmt
  Loop : (p : Stmt) → Stmt
  Par : (p q : Stmt) → Stmt
  Trap : (p : Stmt) → Stmt
  Exit : (depth : ℕ) → Stmt
  Abort : (weak armed : Bool) (test : Test) (p : Stmt) → Stmt
  Suspend : (armed : Bool) (test : Test) (p : Stmt) → Stmt
  Local : (signal : ℕ) (last : ℤ) (p : Stmt) → Stmt
  Send : (channel : ℕ) (value : Expression) → Stmt
  Receive : (channel : ℕ) → Stmt
  SendWaits : (channel : ℕ) (value : ℤ) → Stmt
  Sent : (channel : ℕ) → Stmt
  ReceiveWaits : (channel : ℕ) → Stmt
  Received : (channel : ℕ) → Stmt

-- A list of parts nests to the right. One part stands for itself, and none for nothing.
abbrev pub sequence_from : Stmt → List Stmt → Stmt
sequence_from p [] = p
sequence_from p (q ∷ rest) = Seq p (sequence_from q rest)

abbrev pub sequence : List Stmt → Stmt
sequence [] = Nothing
sequence (p ∷ rest) = sequence_from p rest

abbrev pub parallel_from : Stmt → List Stmt → Stmt
parallel_from p [] = p
parallel_from p (q ∷ rest) = Par p (parallel_from q rest)

abbrev pub parallel : List Stmt → Stmt
parallel [] = Nothing
parallel (p ∷ rest) = parallel_from p rest

abbrev pub optional_expression : Option Expr → Option Expression
optional_expression None = None
optional_expression (Some e) = Some (expression e)

-- One level of a tree, with the statement of each part in its place. At its start an abort is armed
-- exactly if it is immediate, a suspend isn't, and a local signal has the value 0.
abbrev pub form_statement : Form-F Stmt Stmt → Stmt
form_statement Form-F.Nothing = Nothing
form_statement Form-F.Pause = Pause
form_statement (Form-F.Emit s e) = Emit s (optional_expression e)
form_statement (Form-F.Assign x e) = Assign x (expression e)
form_statement (Form-F.If e p q) = If (expression e) p q
form_statement (Form-F.Present t p q) = Present (test t) p q
form_statement (Form-F.Seq ps) = sequence ps
form_statement (Form-F.Loop p) = Loop p
form_statement (Form-F.Par ps) = parallel ps
form_statement (Form-F.Trap p) = Trap p
form_statement (Form-F.Exit d) = Exit d
form_statement (Form-F.Abort weak immediate t p) = Abort weak immediate (test t) p
form_statement (Form-F.Suspend t p) = Suspend false (test t) p
form_statement (Form-F.Local s p) = Local s (pos 0) p
form_statement (Form-F.Send c e) = Send c (expression e)
form_statement (Form-F.Receive c) = Receive c

abbrev pub term_statement : Term-F Stmt Stmt → Stmt
term_statement t = t.form

abbrev pub statement : Term → Stmt
statement = fold-Term Stmt Stmt form_statement term_statement

abbrev pub statement_of_form : Form → Stmt
statement_of_form = fold-Form Stmt Stmt form_statement term_statement
