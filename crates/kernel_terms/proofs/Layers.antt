-- The statement of a tree, one layer at a time.
use Rattle.std.proofs.Common.{◌≡◌, List, ap, ◌∙◌, sym, map}
use Rattle.kernel_terms.specs.declared.term.Term.{Term}
use Rattle.kernel_terms.specs.declared.term.Form.TheOpen.{Form-F}
use Rattle.kernel_terms.specs.declared.term.Form.TheFolds.{fold-roll-Form, fold_out-Term}
use Rattle.kernel_terms.specs.declared.term.Form.TheViews.{Seq, Loop as Loop'}
use Rattle.kernel_terms.specs.declared.term.Form.TheVariants.{rolls-Seq, rolls-Loop}
use Rattle.kernel_terms.specs.Statements.{Stmt, Loop, sequence, statement, statement_of_form, form_statement, term_statement}

of_term : (t : Term) → statement t ≡ statement_of_form t.form
of_term = fold_out-Term Stmt Stmt form_statement term_statement

pub statement-Seq : (t : Term) (v : List Term) → t.form ≡ Seq v → statement t ≡ sequence (map statement v)
statement-Seq t v h = of_term t ∙ ap statement_of_form (h ∙ sym (rolls-Seq v)) ∙ fold-roll-Form Stmt Stmt form_statement term_statement (Form-F.Seq v)

pub statement-Loop : (t body : Term) → t.form ≡ Loop' body → statement t ≡ Loop (statement body)
statement-Loop t body h = of_term t ∙ ap statement_of_form (h ∙ sym (rolls-Loop body)) ∙ fold-roll-Form Stmt Stmt form_statement term_statement (Form-F.Loop body)
