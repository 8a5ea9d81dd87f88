-- The statement of a tree, one form at a time.
use Rattle.std.proofs.Common.{◌≡◌, ℕ, Bool, false, List, ap, ◌∙◌, sym, map}
use Rattle.std.specs.Prelude.{Option}
use Rattle.kernel_terms.specs.declared.expr.Expr.{Expr}
use Rattle.kernel_terms.specs.declared.sig_test.SigTest.{SigTest}
use Rattle.kernel_terms.specs.declared.term.Term.{Term}
use Rattle.kernel_terms.specs.declared.term.Form.TheOpen.{Form-F}
use Rattle.kernel_terms.specs.declared.term.Form.TheFolds.{fold-roll-Form, fold_out-Term}
use Rattle.kernel_terms.specs.declared.term.Form.TheViews as Form
use Rattle.kernel_terms.specs.declared.term.Form.TheVariants as Plain
use Rattle.kernel_terms.specs.declared.term.Form.TheVariants.{rolls-If, rolls-Present, rolls-Par, rolls-Abort, rolls-Suspend}
use Rattle.kernel_terms.specs.Expressions.{expression, test}
use Rattle.kernel_terms.specs.Statements.{Stmt, Emit, Assign, If, Present, Abort, Suspend, Send, parallel, optional_expression, statement, statement_of_form, form_statement, term_statement}

of_term : (t : Term) → statement t ≡ statement_of_form t.form
of_term = fold_out-Term Stmt Stmt form_statement term_statement

pub statement-Emit : (t : Term) (s : ℕ) (e : Option Expr) → t.form ≡ Plain.Emit s e → statement t ≡ Emit s (optional_expression e)
unfolding Form.roll-Form denote.Hole.Carrier.roll
statement-Emit t s e h = of_term t ∙ ap statement_of_form h ∙ fold-roll-Form Stmt Stmt form_statement term_statement (Form-F.Emit s e)

pub statement-Assign : (t : Term) (x : ℕ) (e : Expr) → t.form ≡ Plain.Assign x e → statement t ≡ Assign x (expression e)
unfolding Form.roll-Form denote.Hole.Carrier.roll
statement-Assign t x e h = of_term t ∙ ap statement_of_form h ∙ fold-roll-Form Stmt Stmt form_statement term_statement (Form-F.Assign x e)

pub statement-If : (t : Term) (e : Expr) (p q : Term) → t.form ≡ Form.If e p q → statement t ≡ If (expression e) (statement p) (statement q)
statement-If t e p q h = of_term t ∙ ap statement_of_form (h ∙ sym (rolls-If e p q)) ∙ fold-roll-Form Stmt Stmt form_statement term_statement (Form-F.If e p q)

pub statement-Present : (t : Term) (u : SigTest) (p q : Term) → t.form ≡ Form.Present u p q → statement t ≡ Present (test u) (statement p) (statement q)
statement-Present t u p q h = of_term t ∙ ap statement_of_form (h ∙ sym (rolls-Present u p q)) ∙ fold-roll-Form Stmt Stmt form_statement term_statement (Form-F.Present u p q)

pub statement-Par : (t : Term) (v : List Term) → t.form ≡ Form.Par v → statement t ≡ parallel (map statement v)
statement-Par t v h = of_term t ∙ ap statement_of_form (h ∙ sym (rolls-Par v)) ∙ fold-roll-Form Stmt Stmt form_statement term_statement (Form-F.Par v)

pub statement-Abort : (t : Term) (weak immediate : Bool) (u : SigTest) (p : Term) → t.form ≡ Form.Abort weak immediate u p → statement t ≡ Abort weak immediate (test u) (statement p)
statement-Abort t weak immediate u p h = of_term t ∙ ap statement_of_form (h ∙ sym (rolls-Abort weak immediate u p)) ∙ fold-roll-Form Stmt Stmt form_statement term_statement (Form-F.Abort weak immediate u p)

pub statement-Suspend : (t : Term) (u : SigTest) (p : Term) → t.form ≡ Form.Suspend u p → statement t ≡ Suspend false (test u) (statement p)
statement-Suspend t u p h = of_term t ∙ ap statement_of_form (h ∙ sym (rolls-Suspend u p)) ∙ fold-roll-Form Stmt Stmt form_statement term_statement (Form-F.Suspend u p)

pub statement-Send : (t : Term) (c : ℕ) (e : Expr) → t.form ≡ Plain.Send c e → statement t ≡ Send c (expression e)
unfolding Form.roll-Form denote.Hole.Carrier.roll
statement-Send t c e h = of_term t ∙ ap statement_of_form h ∙ fold-roll-Form Stmt Stmt form_statement term_statement (Form-F.Send c e)
