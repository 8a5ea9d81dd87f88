-- The statement of each form of tree, one layer at a time, and likewise expressions and tests.
use Rattle.std.proofs.Common.{◌≡◌, ℕ, ℤ, Bool, false, pos, List, ap, ◌∙◌, sym, map}
use Rattle.std.specs.Prelude.{Option}
use Rattle.java_values.specs.declared.kind.Kind.{Kind}
use Rattle.java_values.specs.declared.op.Op1.{Op1}
use Rattle.java_values.specs.declared.op.Op2.{Op2}
use Rattle.kernel_terms.specs.declared.expr.Expr.{Expr}
use Rattle.kernel_terms.specs.declared.expr.ExprForm.{ExprForm}
use Rattle.kernel_terms.specs.declared.expr.ExprForm.TheOpen.{ExprForm-F}
use Rattle.kernel_terms.specs.declared.expr.ExprForm.TheFolds.{fold-ExprForm, fold-roll-ExprForm, fold_out-Expr}
use Rattle.kernel_terms.specs.declared.expr.ExprForm.TheViews as tree
use Rattle.kernel_terms.specs.declared.expr.ExprForm.TheVariants as node
use Rattle.kernel_terms.specs.declared.expr.ExprForm.TheVariants.{rolls-Literal, rolls-Variable, rolls-Signal, rolls-Channel, rolls-Unary, rolls-Binary, rolls-Cast}
use Rattle.kernel_terms.specs.declared.sig_test.SigTest.{SigTest}
use Rattle.kernel_terms.specs.declared.sig_test.SigTest.TheOpen.{SigTest-F}
use Rattle.kernel_terms.specs.declared.sig_test.SigTest.TheFolds.{fold-roll-SigTest}
use Rattle.kernel_terms.specs.declared.sig_test.SigTest.TheViews as sig_tree
use Rattle.kernel_terms.specs.declared.sig_test.SigTest.TheVariants as sig_test
use Rattle.kernel_terms.specs.declared.sig_test.SigTest.TheVariants.{rolls-Not, rolls-Both, rolls-Either}
use Rattle.kernel_terms.specs.declared.term.Term.{Term}
use Rattle.kernel_terms.specs.declared.term.Form.TheOpen.{Form-F}
use Rattle.kernel_terms.specs.declared.term.Form.TheFolds.{fold-roll-Form, fold_out-Term}
use Rattle.kernel_terms.specs.declared.term.Form.TheViews as form
use Rattle.kernel_terms.specs.declared.term.Form.TheVariants as plain
use Rattle.kernel_terms.specs.declared.term.Form.TheVariants.{rolls-Nothing, rolls-Pause, rolls-Emit, rolls-Assign, rolls-If, rolls-Present, rolls-Par, rolls-Trap, rolls-Exit, rolls-Abort, rolls-Suspend, rolls-Local, rolls-Send, rolls-Receive}
use Rattle.kernel_terms.specs.Expressions.{Expression, Literal, Variable, SignalValue, ChannelValue, Unary, Binary, Cast, expression, form_expression, node_expression, Test, IsPresent, Not, Both, Either, test, form_test}
use Rattle.kernel_terms.specs.Statements.{Stmt, Nothing, Pause, Emit, Assign, If, Present, Trap, Exit, Abort, Suspend, Local, Send, Receive, parallel, optional_expression, statement, statement_of_form, form_statement, term_statement}

of_term : (t : Term) → statement t ≡ statement_of_form t.form
of_term = fold_out-Term Stmt Stmt form_statement term_statement

pub statement-Nothing : (t : Term) → t.form ≡ plain.Nothing → statement t ≡ Nothing
statement-Nothing t h = of_term t ∙ ap statement_of_form (h ∙ sym rolls-Nothing) ∙ fold-roll-Form Stmt Stmt form_statement term_statement Form-F.Nothing

pub statement-Pause : (t : Term) → t.form ≡ plain.Pause → statement t ≡ Pause
statement-Pause t h = of_term t ∙ ap statement_of_form (h ∙ sym rolls-Pause) ∙ fold-roll-Form Stmt Stmt form_statement term_statement Form-F.Pause

pub statement-Emit : (t : Term) (s : ℕ) (e : Option Expr) → t.form ≡ plain.Emit s e → statement t ≡ Emit s (optional_expression e)
statement-Emit t s e h = of_term t ∙ ap statement_of_form (h ∙ sym (rolls-Emit s e)) ∙ fold-roll-Form Stmt Stmt form_statement term_statement (Form-F.Emit s e)

pub statement-Assign : (t : Term) (x : ℕ) (e : Expr) → t.form ≡ plain.Assign x e → statement t ≡ Assign x (expression e)
statement-Assign t x e h = of_term t ∙ ap statement_of_form (h ∙ sym (rolls-Assign x e)) ∙ fold-roll-Form Stmt Stmt form_statement term_statement (Form-F.Assign x e)

pub statement-If : (t : Term) (e : Expr) (p q : Term) → t.form ≡ form.If e p q → statement t ≡ If (expression e) (statement p) (statement q)
statement-If t e p q h = of_term t ∙ ap statement_of_form (h ∙ sym (rolls-If e p q)) ∙ fold-roll-Form Stmt Stmt form_statement term_statement (Form-F.If e p q)

pub statement-Present : (t : Term) (u : SigTest) (p q : Term) → t.form ≡ form.Present u p q → statement t ≡ Present (test u) (statement p) (statement q)
statement-Present t u p q h = of_term t ∙ ap statement_of_form (h ∙ sym (rolls-Present u p q)) ∙ fold-roll-Form Stmt Stmt form_statement term_statement (Form-F.Present u p q)

pub statement-Par : (t : Term) (v : List Term) → t.form ≡ form.Par v → statement t ≡ parallel (map statement v)
statement-Par t v h = of_term t ∙ ap statement_of_form (h ∙ sym (rolls-Par v)) ∙ fold-roll-Form Stmt Stmt form_statement term_statement (Form-F.Par v)

pub statement-Trap : (t : Term) (p : Term) → t.form ≡ form.Trap p → statement t ≡ Trap (statement p)
statement-Trap t p h = of_term t ∙ ap statement_of_form (h ∙ sym (rolls-Trap p)) ∙ fold-roll-Form Stmt Stmt form_statement term_statement (Form-F.Trap p)

pub statement-Exit : (t : Term) (d : ℕ) → t.form ≡ plain.Exit d → statement t ≡ Exit d
statement-Exit t d h = of_term t ∙ ap statement_of_form (h ∙ sym (rolls-Exit d)) ∙ fold-roll-Form Stmt Stmt form_statement term_statement (Form-F.Exit d)

pub statement-Abort : (t : Term) (weak immediate : Bool) (u : SigTest) (p : Term) → t.form ≡ form.Abort weak immediate u p → statement t ≡ Abort weak immediate (test u) (statement p)
statement-Abort t weak immediate u p h = of_term t ∙ ap statement_of_form (h ∙ sym (rolls-Abort weak immediate u p)) ∙ fold-roll-Form Stmt Stmt form_statement term_statement (Form-F.Abort weak immediate u p)

pub statement-Suspend : (t : Term) (u : SigTest) (p : Term) → t.form ≡ form.Suspend u p → statement t ≡ Suspend false (test u) (statement p)
statement-Suspend t u p h = of_term t ∙ ap statement_of_form (h ∙ sym (rolls-Suspend u p)) ∙ fold-roll-Form Stmt Stmt form_statement term_statement (Form-F.Suspend u p)

pub statement-Local : (t : Term) (s : ℕ) (p : Term) → t.form ≡ form.Local s p → statement t ≡ Local s (pos 0) (statement p)
statement-Local t s p h = of_term t ∙ ap statement_of_form (h ∙ sym (rolls-Local s p)) ∙ fold-roll-Form Stmt Stmt form_statement term_statement (Form-F.Local s p)

pub statement-Send : (t : Term) (c : ℕ) (e : Expr) → t.form ≡ plain.Send c e → statement t ≡ Send c (expression e)
statement-Send t c e h = of_term t ∙ ap statement_of_form (h ∙ sym (rolls-Send c e)) ∙ fold-roll-Form Stmt Stmt form_statement term_statement (Form-F.Send c e)

pub statement-Receive : (t : Term) (c : ℕ) → t.form ≡ plain.Receive c → statement t ≡ Receive c
statement-Receive t c h = of_term t ∙ ap statement_of_form (h ∙ sym (rolls-Receive c)) ∙ fold-roll-Form Stmt Stmt form_statement term_statement (Form-F.Receive c)

abbrev expression_at : ExprForm → Kind → Expression
expression_at = fold-ExprForm (Kind → Expression) Expression form_expression node_expression

of_node : (e : Expr) → expression e ≡ expression_at e.form e.kind
of_node = fold_out-Expr (Kind → Expression) Expression form_expression node_expression

pub expression-Literal : (e : Expr) (n : ℤ) → e.form ≡ node.Literal n → expression e ≡ Literal e.kind n
expression-Literal e n h = of_node e ∙ ap (λ f. expression_at f e.kind) (h ∙ sym (rolls-Literal n)) ∙ ap (λ (k : Kind → Expression). k e.kind) (fold-roll-ExprForm (Kind → Expression) Expression form_expression node_expression (ExprForm-F.Literal n))

pub expression-Variable : (e : Expr) (x : ℕ) → e.form ≡ node.Variable x → expression e ≡ Variable e.kind x
expression-Variable e x h = of_node e ∙ ap (λ f. expression_at f e.kind) (h ∙ sym (rolls-Variable x)) ∙ ap (λ (k : Kind → Expression). k e.kind) (fold-roll-ExprForm (Kind → Expression) Expression form_expression node_expression (ExprForm-F.Variable x))

pub expression-Signal : (e : Expr) (s : ℕ) → e.form ≡ node.Signal s → expression e ≡ SignalValue e.kind s
expression-Signal e s h = of_node e ∙ ap (λ f. expression_at f e.kind) (h ∙ sym (rolls-Signal s)) ∙ ap (λ (k : Kind → Expression). k e.kind) (fold-roll-ExprForm (Kind → Expression) Expression form_expression node_expression (ExprForm-F.Signal s))

pub expression-Channel : (e : Expr) (c : ℕ) → e.form ≡ node.Channel c → expression e ≡ ChannelValue e.kind c
expression-Channel e c h = of_node e ∙ ap (λ f. expression_at f e.kind) (h ∙ sym (rolls-Channel c)) ∙ ap (λ (k : Kind → Expression). k e.kind) (fold-roll-ExprForm (Kind → Expression) Expression form_expression node_expression (ExprForm-F.Channel c))

pub expression-Unary : (e : Expr) (o : Op1) (f : Expr) → e.form ≡ tree.Unary o f → expression e ≡ Unary e.kind o (expression f)
expression-Unary e o f h = of_node e ∙ ap (λ f. expression_at f e.kind) (h ∙ sym (rolls-Unary o f)) ∙ ap (λ (k : Kind → Expression). k e.kind) (fold-roll-ExprForm (Kind → Expression) Expression form_expression node_expression (ExprForm-F.Unary o f))

pub expression-Binary : (e : Expr) (o : Op2) (f g : Expr) → e.form ≡ tree.Binary o f g → expression e ≡ Binary e.kind o (expression f) (expression g)
expression-Binary e o f g h = of_node e ∙ ap (λ f. expression_at f e.kind) (h ∙ sym (rolls-Binary o f g)) ∙ ap (λ (k : Kind → Expression). k e.kind) (fold-roll-ExprForm (Kind → Expression) Expression form_expression node_expression (ExprForm-F.Binary o f g))

pub expression-Cast : (e : Expr) (f : Expr) → e.form ≡ tree.Cast f → expression e ≡ Cast e.kind (expression f)
expression-Cast e f h = of_node e ∙ ap (λ f. expression_at f e.kind) (h ∙ sym (rolls-Cast f)) ∙ ap (λ (k : Kind → Expression). k e.kind) (fold-roll-ExprForm (Kind → Expression) Expression form_expression node_expression (ExprForm-F.Cast f))

pub test-Signal : (s : ℕ) → test (sig_test.Signal s) ≡ IsPresent s
test-Signal s = ap test (sym (sig_test.rolls-Signal s)) ∙ fold-roll-SigTest Test form_test (SigTest-F.Signal s)

pub test-Not : (u : SigTest) → test (sig_tree.Not u) ≡ Not (test u)
test-Not u = ap test (sym (rolls-Not u)) ∙ fold-roll-SigTest Test form_test (SigTest-F.Not u)

pub test-Both : (u v : SigTest) → test (sig_tree.Both u v) ≡ Both (test u) (test v)
test-Both u v = ap test (sym (rolls-Both u v)) ∙ fold-roll-SigTest Test form_test (SigTest-F.Both u v)

pub test-Either : (u v : SigTest) → test (sig_tree.Either u v) ≡ Either (test u) (test v)
test-Either u v = ap test (sym (rolls-Either u v)) ∙ fold-roll-SigTest Test form_test (SigTest-F.Either u v)
