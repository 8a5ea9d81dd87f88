-- The tree of a small term.
use Rattle.std.proofs.Common.{◌≡◌, ℕ, List, [], ◌∷◌, ◌++◌, map, refl, sym, ap, ◌∙◌, subst}
use Rattle.std.specs.Prelude.{flat_map, get_or, Option, Some, None}
use Rattle.kernel_terms.specs.declared.expr.Expr.{Expr}
use Rattle.kernel_terms.specs.declared.sig_test.SigTest.{SigTest}
use Rattle.kernel_terms.specs.declared.sig_test.SigTest.TheVariants as sig_test
use Rattle.kernel_terms.specs.declared.sig_test.SigTest.TheVariants.{rolls-Signal}
use Rattle.kernel_terms.specs.declared.sig_test.SigTest.TheFolds.{fold-roll-SigTest}
use Rattle.kernel_terms.specs.declared.sig_test.SigTest.TheOpen.{SigTest-F}
use Rattle.kernel_terms.specs.declared.term.Form.{Form}
use Rattle.kernel_terms.specs.declared.term.Term.{Term}
use Rattle.kernel_terms.specs.declared.term.Form.TheOpen.{Form-F}
use Rattle.kernel_terms.specs.declared.term.Form.TheFolds.{fold-Form, fold-roll-Form, fold_out-Term}
use Rattle.kernel_terms.specs.declared.term.Form.TheViews as form
use Rattle.kernel_terms.specs.declared.term.Form.TheVariants as plain
use Rattle.kernel_terms.specs.declared.term.Form.TheVariants.{rolls-Present, rolls-Par, rolls-Pause, rolls-Emit}
use Rattle.kernel_terms.specs.Expressions.{Test, IsPresent, test, form_test}
use Rattle.kernel_terms.specs.Statements.{Stmt, Pause, Emit, Present, Par, statement, statement_of_form, form_statement, term_statement}
use Rattle.tick_tree.specs.definitions.Leaves.{form_places, term_places, places_of}
use Rattle.tick_tree.specs.definitions.Shapes.{starting_shape, resuming_shape}
use Rattle.tick_tree.specs.definitions.Trees.{tree_of, tree_of_some, place_in, starting_tree, resuming_tree}
use Rattle.tick_tree.specs.definitions.Precedence.{IsCausal, IsCausalIf, HasCausalTrees}
use Rattle.tick_tree.specs.Rows.{term_at, testing_term, beside_term, beside_term_started, beside_term_resumed, sees_beside}
use Rattle.tick_tree.proofs.StatementLayers.{statement-Emit, statement-Present, statement-Par}
use Rattle.tick_tree.proofs.RowLemmas.{beside-causal, beside-resumed}

abbrev places_of_form : Form → ℕ → List ℕ
places_of_form = fold-Form (ℕ → List ℕ) (List ℕ) form_places term_places

by_form : (t : Term) (f : Form) (g : ℕ → List ℕ) → t.form ≡ f → places_of_form f ≡ g → places_of t ≡ g t.at
by_form t f g h k = fold_out-Term (ℕ → List ℕ) (List ℕ) form_places term_places t ∙ ap (λ x. places_of_form x t.at) h ∙ ap (λ x. x t.at) k

places-Emit : (t : Term) (s : ℕ) (e : Option Expr) → t.form ≡ plain.Emit s e → places_of t ≡ t.at ∷ []
places-Emit t s e h = by_form t (plain.Emit s e) (λ at. at ∷ []) h (ap places_of_form (sym (rolls-Emit s e)) ∙ fold-roll-Form (ℕ → List ℕ) (List ℕ) form_places term_places (Form-F.Emit s e))

places-Pause : (t : Term) → t.form ≡ plain.Pause → places_of t ≡ t.at ∷ []
places-Pause t h = by_form t plain.Pause (λ at. at ∷ []) h (ap places_of_form (sym rolls-Pause) ∙ fold-roll-Form (ℕ → List ℕ) (List ℕ) form_places term_places Form-F.Pause)

places-Present : (t : Term) (u : SigTest) (p q : Term) → t.form ≡ form.Present u p q → places_of t ≡ t.at ∷ (places_of p ++ places_of q)
places-Present t u p q h =
    by_form t (form.Present u p q) (λ at. at ∷ (places_of p ++ places_of q)) h
    (ap places_of_form (sym (rolls-Present u p q)) ∙ fold-roll-Form (ℕ → List ℕ) (List ℕ) form_places term_places (Form-F.Present u p q))

places-Par : (t : Term) (v : List Term) → t.form ≡ form.Par v → places_of t ≡ flat_map (λ l. l) (map places_of v)
places-Par t v h =
    by_form t (form.Par v) (λ at. flat_map (λ l. l) (map places_of v)) h
    (ap places_of_form (sym (rolls-Par v)) ∙ fold-roll-Form (ℕ → List ℕ) (List ℕ) form_places term_places (Form-F.Par v))

statement-Pause : (t : Term) → t.form ≡ plain.Pause → statement t ≡ Pause
statement-Pause t h =
    fold_out-Term Stmt Stmt form_statement term_statement t ∙ ap statement_of_form (h ∙ sym rolls-Pause) ∙ fold-roll-Form Stmt Stmt form_statement term_statement Form-F.Pause

test-Signal : (s : ℕ) → test (sig_test.Signal s) ≡ IsPresent s
test-Signal s = ap test (sym (rolls-Signal s)) ∙ fold-roll-SigTest Test form_test (SigTest-F.Signal s)

abbrev first : Term
first = term_at 1 (plain.Emit 0 None)

abbrev pausing : Term
pausing = term_at 25 plain.Pause

abbrev emitting : Term
emitting = term_at 37 (plain.Emit 1 None)

testing-statement : statement testing_term ≡ Present (IsPresent 0) Pause (Emit 1 None)
testing-statement =
    statement-Present testing_term (sig_test.Signal 0) pausing emitting refl
    ∙ ap (λ u. Present u (statement pausing) (statement emitting)) (test-Signal 0)
    ∙ ap (λ p. Present (IsPresent 0) p (statement emitting)) (statement-Pause pausing refl)
    ∙ ap (λ p. Present (IsPresent 0) Pause p) (statement-Emit emitting 1 None refl)

beside-statement : statement beside_term ≡ sees_beside
beside-statement =
    statement-Par beside_term (first ∷ testing_term ∷ []) refl
    ∙ ap (λ p. Par p (statement testing_term)) (statement-Emit first 0 None refl)
    ∙ ap (λ p. Par (Emit 0 None) p) testing-statement

testing-places : places_of testing_term ≡ 14 ∷ 25 ∷ 37 ∷ []
testing-places =
    places-Present testing_term (sig_test.Signal 0) pausing emitting refl
    ∙ ap (λ l. 14 ∷ (l ++ places_of emitting)) (places-Pause pausing refl)
    ∙ ap (λ l. 14 ∷ 25 ∷ l) (places-Emit emitting 1 None refl)

beside-places : places_of beside_term ≡ 1 ∷ 14 ∷ 25 ∷ 37 ∷ []
beside-places =
    places-Par beside_term (first ∷ testing_term ∷ []) refl
    ∙ ap (λ l. l ++ (places_of testing_term ++ [])) (places-Emit first 0 None refl)
    ∙ ap (λ l. 1 ∷ (l ++ [])) testing-places

pub beside-started : starting_tree beside_term 2 ≡ beside_term_started
beside-started =
    ap (λ p. tree_of 2 (starting_shape (place_in beside_term) 0 p)) beside-statement
    ∙ ap (λ l. tree_of 2 (starting_shape (λ n. get_or l n 0) 0 sees_beside)) beside-places

pub beside-later : resuming_tree beside_term 2 ≡ Some beside_term_resumed
beside-later =
    ap (λ p. tree_of_some 2 (resuming_shape (place_in beside_term) 0 p)) beside-statement
    ∙ ap (λ l. tree_of_some 2 (resuming_shape (λ n. get_or l n 0) 0 sees_beside)) beside-places

pub beside-trees : HasCausalTrees beside_term 2
beside-trees = record {
  starting = subst (λ p. IsCausal (tree_of 2 (starting_shape (place_in beside_term) 0 p))) (sym beside-statement) (beside-causal (place_in beside_term));
  resuming = subst (λ p. IsCausalIf (tree_of_some 2 (resuming_shape (place_in beside_term) 0 p))) (sym beside-statement) (beside-resumed (place_in beside_term));
}
