-- The parts of a tree of the built forms are of the built forms too, and the rules say the same of it.
use Rattle.std.proofs.Common.{◌≡◌, ℕ, zero, suc, ◌<◌, Bool, true, List, [], ◌∷◌, length, get_or, drop, map, arith, sym, ap, ◌∙◌, subst}
use Rattle.kernel_terms.specs.declared.term.Term.{Term}
use Rattle.kernel_terms.specs.declared.term.Form.TheOpen.{Form-F}
use Rattle.kernel_terms.specs.declared.term.Form.TheFolds.{fold-roll-Form, fold_out-Term}
use Rattle.kernel_terms.specs.declared.term.Form as form
use Rattle.kernel_terms.specs.declared.term.Form.TheVariants.{rolls-Seq, rolls-Loop}
use Rattle.kernel_terms.specs.Built.{all_built, form_built, term_built, is_built, is_built_form}
use Rattle.domain_core.proofs.lemmas.equations.BuiltTrees.{first_true, second_true}

of_built : (t : Term) → is_built t ≡ is_built_form t.form
of_built = fold_out-Term Bool Bool form_built term_built

pub built-Seq : (t : Term) (v : List Term) → t.form ≡ form.Seq v → is_built t ≡ true → all_built (map is_built v) ≡ true
built-Seq t v h b = sym (of_built t ∙ ap is_built_form (h ∙ sym (rolls-Seq v)) ∙ fold-roll-Form Bool Bool form_built term_built (Form-F.Seq v)) ∙ b

pub built-Loop : (t body : Term) → t.form ≡ form.Loop body → is_built t ≡ true → is_built body ≡ true
built-Loop t body h b = sym (of_built t ∙ ap is_built_form (h ∙ sym (rolls-Loop body)) ∙ fold-roll-Form Bool Bool form_built term_built (Form-F.Loop body)) ∙ b

pub built_at : (l : List Term) (i : ℕ) (t : Term) → i < length l → t ≡ get_or l i t → all_built (map is_built l) ≡ true → is_built t ≡ true
built_at [] i t less is all = absurd (omega (arith, less))
built_at (x ∷ l) zero t less is all = ap is_built is ∙ first_true (is_built x) (all_built (map is_built l)) all
built_at (x ∷ l) (suc i) t less is all = built_at l i t (omega (arith, less)) is (second_true (is_built x) (all_built (map is_built l)) all)

pub built_drop : (l : List Term) (n : ℕ) → all_built (map is_built l) ≡ true → all_built (map is_built (drop n l)) ≡ true
built_drop l zero all = all
built_drop [] (suc n) all = all
built_drop (x ∷ l) (suc n) all = built_drop l n (second_true (is_built x) (all_built (map is_built l)) all)

pub built_after : (l after : List Term) (n : ℕ) → after ≡ drop n l → all_built (map is_built l) ≡ true → all_built (map is_built after) ≡ true
built_after l after n is all = subst (λ k. all_built (map is_built k) ≡ true) (sym is) (built_drop l n all)

pub ruleset built_parts = (built-Seq, built-Loop, built_at, built_after)
