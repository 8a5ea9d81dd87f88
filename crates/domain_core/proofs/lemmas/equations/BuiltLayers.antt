-- The built statement of a tree, one layer at a time.
use Rattle.std.proofs.Common.{◌≡◌, List, ap, ◌∙◌, sym, map}
use Rattle.kernel_terms.specs.declared.term.Term.{Term}
use Rattle.kernel_terms.specs.declared.term.Form.TheOpen.{Form-F}
use Rattle.kernel_terms.specs.declared.term.Form.TheFolds.{fold-roll-Form, fold_out-Term}
use Rattle.kernel_terms.specs.declared.term.Form as form
use Rattle.kernel_terms.specs.declared.term.Form.TheVariants.{rolls-Seq, rolls-Loop}
use Rattle.domain_core.specs.equations.BuiltForms.{Plain, Loop, sequence, plain, plain_of_form, form_plain, term_plain}

of_term : (t : Term) → plain t ≡ plain_of_form t.form
of_term = fold_out-Term Plain Plain form_plain term_plain

pub plain-Seq : (t : Term) (v : List Term) → t.form ≡ form.Seq v → plain t ≡ sequence (map plain v)
plain-Seq t v h = of_term t ∙ ap plain_of_form (h ∙ sym (rolls-Seq v)) ∙ fold-roll-Form Plain Plain form_plain term_plain (Form-F.Seq v)

pub plain-Loop : (t body : Term) → t.form ≡ form.Loop body → plain t ≡ Loop (plain body)
plain-Loop t body h = of_term t ∙ ap plain_of_form (h ∙ sym (rolls-Loop body)) ∙ fold-roll-Form Plain Plain form_plain term_plain (Form-F.Loop body)
