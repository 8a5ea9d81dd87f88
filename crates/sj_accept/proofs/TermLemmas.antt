-- A tree of the built forms, one layer at a time.
use Rattle.std.proofs.Common.{◌≡◌, ℕ, ℤ, ◌<◌, Bool, true, false, ◌&&◌, List, [], ◌∷◌, ◌++◌, map, ap, ◌∙◌, sym, refl, subst, ◌≤◌, length, length-append, arith}
use Rattle.std.specs.Prelude.{Option, None}
use Rattle.std.specs.List.{list_all}
use Rattle.java_values.specs.declared.kind.Kind.{Kind}
use Rattle.java_values.specs.declared.kind.Kind.TheVariants.{Int}
use Rattle.kernel_terms.specs.declared.expr.Expr.{Expr}
use Rattle.kernel_terms.specs.declared.expr.ExprForm.{ExprForm}
use Rattle.kernel_terms.specs.declared.expr.ExprForm as value
use Rattle.kernel_terms.specs.declared.expr.ExprForm.TheOpen.{ExprForm-F}
use Rattle.kernel_terms.specs.declared.expr.ExprForm.TheFolds.{fold-ExprForm, fold-roll-ExprForm, fold_out-Expr}
use Rattle.kernel_terms.specs.declared.expr.ExprForm.TheVariants.{rolls-Literal}
use Rattle.kernel_terms.specs.Expressions.{Expression, Literal, expression, form_expression, node_expression}
use Rattle.kernel_terms.specs.declared.term.Term.{Term}
use Rattle.kernel_terms.specs.declared.term.Form.{Form}
use Rattle.kernel_terms.specs.declared.term.Form.TheOpen.{Form-F}
use Rattle.kernel_terms.specs.declared.term.Form.TheFolds.{fold-Form, fold-roll-Form, fold_out-Term}
use Rattle.kernel_terms.specs.declared.term.Form.TheVariants.{rolls-Seq, rolls-Loop, rolls-Nothing, rolls-Pause, rolls-Emit, rolls-Send, rolls-Receive}
use Rattle.kernel_terms.specs.declared.term.Form as form
use Rattle.kernel_terms.specs.declared.tables.Tables.{Tables}
use Rattle.kernel_terms.specs.WellFormed.{has_parts, has_some, form_has_parts, term_has_parts, declared_by, fits_statement}
use Rattle.kernel_terms.specs.Statements.{Stmt, Nothing, Pause, Emit, Seq, Send, Receive, statement, statement_of_form, form_statement, term_statement, sequence_from}
use Rattle.kernel_terms.specs.Divisors.{divisors_are_allowed}
use Rattle.kernel_terms.specs.Built.{is_built, is_built_form, form_built, term_built, all_built, is_int_literal}
use Rattle.kernel_terms.proofs.Layers.{statement-Seq, statement-Loop}
use Rattle.sj_names.specs.definitions.FittingTrees.{Around, term_scope}
use Rattle.sj_accept.specs.BuiltTerms.{IsBuilt, AreBuilt, Fits, AllFit}
use Rattle.sj_accept.specs.definitions.Lowering.{term_at, block_of, int_expression}

-- lists of parts have some

parts_of_form : Form → Bool
parts_of_form = fold-Form Bool Bool form_has_parts term_has_parts

parts_out : (t : Term) → has_parts t ≡ parts_of_form t.form
unfolding parts_of_form
parts_out = fold_out-Term Bool Bool form_has_parts term_has_parts

parts-Seq : (t : Term) (v : List Term) → t.form ≡ form.Seq v → has_parts t ≡ has_some (map has_parts v)
unfolding parts_of_form
parts-Seq t v h = parts_out t ∙ ap parts_of_form (h ∙ sym (rolls-Seq v)) ∙ fold-roll-Form Bool Bool form_has_parts term_has_parts (Form-F.Seq v)

parts-Loop : (t body : Term) → t.form ≡ form.Loop body → has_parts t ≡ has_parts body
unfolding parts_of_form
parts-Loop t body h = parts_out t ∙ ap parts_of_form (h ∙ sym (rolls-Loop body)) ∙ fold-roll-Form Bool Bool form_has_parts term_has_parts (Form-F.Loop body)

parts-Nothing : (t : Term) → t.form ≡ form.Nothing → has_parts t ≡ true
unfolding parts_of_form
parts-Nothing t h = parts_out t ∙ ap parts_of_form (h ∙ sym rolls-Nothing) ∙ fold-roll-Form Bool Bool form_has_parts term_has_parts Form-F.Nothing

parts-Pause : (t : Term) → t.form ≡ form.Pause → has_parts t ≡ true
unfolding parts_of_form
parts-Pause t h = parts_out t ∙ ap parts_of_form (h ∙ sym rolls-Pause) ∙ fold-roll-Form Bool Bool form_has_parts term_has_parts Form-F.Pause

parts-Emit : (t : Term) (s : ℕ) (e : Option Expr) → t.form ≡ form.Emit s e → has_parts t ≡ true
unfolding parts_of_form
parts-Emit t s e h = parts_out t ∙ ap parts_of_form (h ∙ sym (rolls-Emit s e)) ∙ fold-roll-Form Bool Bool form_has_parts term_has_parts (Form-F.Emit s e)

parts-Send : (t : Term) (c : ℕ) (e : Expr) → t.form ≡ form.Send c e → has_parts t ≡ true
unfolding parts_of_form
parts-Send t c e h = parts_out t ∙ ap parts_of_form (h ∙ sym (rolls-Send c e)) ∙ fold-roll-Form Bool Bool form_has_parts term_has_parts (Form-F.Send c e)

parts-Receive : (t : Term) (c : ℕ) → t.form ≡ form.Receive c → has_parts t ≡ true
unfolding parts_of_form
parts-Receive t c h = parts_out t ∙ ap parts_of_form (h ∙ sym (rolls-Receive c)) ∙ fold-roll-Form Bool Bool form_has_parts term_has_parts (Form-F.Receive c)

-- the forms are built

forms_out : (t : Term) → is_built t ≡ is_built_form t.form
forms_out = fold_out-Term Bool Bool form_built term_built

forms-Seq : (t : Term) (v : List Term) → t.form ≡ form.Seq v → is_built t ≡ all_built (map is_built v)
forms-Seq t v h = forms_out t ∙ ap is_built_form (h ∙ sym (rolls-Seq v)) ∙ fold-roll-Form Bool Bool form_built term_built (Form-F.Seq v)

forms-Loop : (t body : Term) → t.form ≡ form.Loop body → is_built t ≡ is_built body
forms-Loop t body h = forms_out t ∙ ap is_built_form (h ∙ sym (rolls-Loop body)) ∙ fold-roll-Form Bool Bool form_built term_built (Form-F.Loop body)

forms-Nothing : (t : Term) → t.form ≡ form.Nothing → is_built t ≡ true
forms-Nothing t h = forms_out t ∙ ap is_built_form (h ∙ sym rolls-Nothing) ∙ fold-roll-Form Bool Bool form_built term_built Form-F.Nothing

forms-Pause : (t : Term) → t.form ≡ form.Pause → is_built t ≡ true
forms-Pause t h = forms_out t ∙ ap is_built_form (h ∙ sym rolls-Pause) ∙ fold-roll-Form Bool Bool form_built term_built Form-F.Pause

forms-Emit : (t : Term) (s : ℕ) → t.form ≡ form.Emit s None → is_built t ≡ true
forms-Emit t s h = forms_out t ∙ ap is_built_form (h ∙ sym (rolls-Emit s None)) ∙ fold-roll-Form Bool Bool form_built term_built (Form-F.Emit s None)

forms-Send : (t : Term) (c : ℕ) (e : Expr) (n : ℤ) → t.form ≡ form.Send c e → expression e ≡ Literal Int n → is_built t ≡ true
forms-Send t c e n h l = forms_out t ∙ ap is_built_form (h ∙ sym (rolls-Send c e)) ∙ fold-roll-Form Bool Bool form_built term_built (Form-F.Send c e) ∙ ap is_int_literal l

forms-Receive : (t : Term) (c : ℕ) → t.form ≡ form.Receive c → is_built t ≡ true
forms-Receive t c h = forms_out t ∙ ap is_built_form (h ∙ sym (rolls-Receive c)) ∙ fold-roll-Form Bool Bool form_built term_built (Form-F.Receive c)

-- the built statement

statement_out : (t : Term) → statement t ≡ statement_of_form t.form
statement_out = fold_out-Term Stmt Stmt form_statement term_statement

pub statement-Nothing : (t : Term) → t.form ≡ form.Nothing → statement t ≡ Nothing
statement-Nothing t h = statement_out t ∙ ap statement_of_form (h ∙ sym rolls-Nothing) ∙ fold-roll-Form Stmt Stmt form_statement term_statement Form-F.Nothing

pub statement-Pause : (t : Term) → t.form ≡ form.Pause → statement t ≡ Pause
statement-Pause t h = statement_out t ∙ ap statement_of_form (h ∙ sym rolls-Pause) ∙ fold-roll-Form Stmt Stmt form_statement term_statement Form-F.Pause

pub statement-Emit : (t : Term) (s : ℕ) → t.form ≡ form.Emit s None → statement t ≡ Emit s None
statement-Emit t s h = statement_out t ∙ ap statement_of_form (h ∙ sym (rolls-Emit s None)) ∙ fold-roll-Form Stmt Stmt form_statement term_statement (Form-F.Emit s None)

pub statement-Send : (t : Term) (c : ℕ) (e : Expr) (n : ℤ) → t.form ≡ form.Send c e → expression e ≡ Literal Int n → statement t ≡ Send c (Literal Int n)
statement-Send t c e n h l =
    statement_out t ∙ ap statement_of_form (h ∙ sym (rolls-Send c e)) ∙ fold-roll-Form Stmt Stmt form_statement term_statement (Form-F.Send c e) ∙ ap (Send c) l

pub statement-Receive : (t : Term) (c : ℕ) → t.form ≡ form.Receive c → statement t ≡ Receive c
statement-Receive t c h = statement_out t ∙ ap statement_of_form (h ∙ sym (rolls-Receive c)) ∙ fold-roll-Form Stmt Stmt form_statement term_statement (Form-F.Receive c)

-- a literal's expression

value_of_form : ExprForm → Kind → Expression
value_of_form = fold-ExprForm (Kind → Expression) Expression form_expression node_expression

value_out : (e : Expr) → expression e ≡ value_of_form e.form e.kind
unfolding value_of_form
value_out = fold_out-Expr (Kind → Expression) Expression form_expression node_expression

pub literal_is : (e : Expr) (n : ℤ) → e.form ≡ value.Literal n → e.kind ≡ Int → expression e ≡ Literal Int n
unfolding value_of_form
literal_is e n h k =
    value_out e ∙ ap (λ f. value_of_form f e.kind) (h ∙ sym (rolls-Literal n)) ∙ ap (λ (f : Kind → Expression). f e.kind) (fold-roll-ExprForm (Kind → Expression) Expression form_expression node_expression (ExprForm-F.Literal n))
    ∙ ap (λ x. Literal x n) k

-- terms of the built forms

pub built-Nothing : (t : Term) → t.form ≡ form.Nothing → IsBuilt t
built-Nothing t h = record { parts = parts-Nothing t h; forms = forms-Nothing t h; declares = ap declared_by (statement-Nothing t h) }

pub built-Pause : (t : Term) → t.form ≡ form.Pause → IsBuilt t
built-Pause t h = record { parts = parts-Pause t h; forms = forms-Pause t h; declares = ap declared_by (statement-Pause t h) }

pub built-Emit : (t : Term) (s : ℕ) → t.form ≡ form.Emit s None → IsBuilt t
built-Emit t s h = record { parts = parts-Emit t s None h; forms = forms-Emit t s h; declares = ap declared_by (statement-Emit t s h) }

pub built-Receive : (t : Term) (c : ℕ) → t.form ≡ form.Receive c → IsBuilt t
built-Receive t c h = record { parts = parts-Receive t c h; forms = forms-Receive t c h; declares = ap declared_by (statement-Receive t c h) }

pub built-Send : (t : Term) (c : ℕ) (e : Expr) (n : ℤ) → t.form ≡ form.Send c e → expression e ≡ Literal Int n → IsBuilt t
built-Send t c e n h v = record { parts = parts-Send t c e h; forms = forms-Send t c e n h v; declares = ap declared_by (statement-Send t c e n h v) }

pub built-Loop : (t body : Term) → t.form ≡ form.Loop body → IsBuilt body → IsBuilt t
built-Loop t body h b = record { parts = parts-Loop t body h ∙ b.parts; forms = forms-Loop t body h ∙ b.forms; declares = ap declared_by (statement-Loop t body h) ∙ b.declares }

and_true : (a b : Bool) → a ≡ true → b ≡ true → (a && b) ≡ true
and_true true b g h = h
and_true false b g h = g

all_parts : (ts : List Term) → AreBuilt ts → list_all (λ b. b) (map has_parts ts) ≡ true
all_parts [] h = refl
all_parts (t ∷ ts) h = and_true (has_parts t) (list_all (λ c. c) (map has_parts ts)) h.0.parts (all_parts ts h.1)

all_forms : (ts : List Term) → AreBuilt ts → all_built (map is_built ts) ≡ true
all_forms [] h = refl
all_forms (t ∷ ts) h = and_true (is_built t) (all_built (map is_built ts)) h.0.forms (all_forms ts h.1)

declare_none : (t : Term) (ts : List Term) → IsBuilt t → AreBuilt ts → declared_by (sequence_from (statement t) (map statement ts)) ≡ []
declare_none t [] g h = g.declares
declare_none t (u ∷ us) g h = ap (λ l. l ++ declared_by (sequence_from (statement u) (map statement us))) g.declares ∙ declare_none u us h.0 h.1

built-Seq : (t first : Term) (rest : List Term) → t.form ≡ form.Seq (first ∷ rest) → AreBuilt (first ∷ rest) → IsBuilt t
built-Seq t first rest h a = record {
  parts = parts-Seq t (first ∷ rest) h ∙ and_true (has_parts first) (list_all (λ c. c) (map has_parts rest)) a.0.parts (all_parts rest a.1);
  forms = forms-Seq t (first ∷ rest) h ∙ all_forms (first ∷ rest) a;
  declares = ap declared_by (statement-Seq t (first ∷ rest) h) ∙ declare_none first rest a.0 a.1;
}

-- terms one after another

pub built_block : (at : ℕ) (ts : List Term) → AreBuilt ts → IsBuilt (block_of at ts)
built_block at [] b = built-Nothing (term_at at form.Nothing) refl
built_block at (t ∷ []) b = b.0
built_block at (t ∷ u ∷ us) b = built-Seq (term_at at (form.Seq (t ∷ u ∷ us))) t (u ∷ us) refl b

-- where each of the terms keeps the rules, so does their block

fit_from : (t : Tables) (a : Around) (p : Term) (ps : List Term) → Fits t a p → AllFit t a ps → fits_statement t (term_scope a) (sequence_from (statement p) (map statement ps)) ≡ true
fit_from t a p [] g h = g.keeps
fit_from t a p (q ∷ qs) g h = and_true (fits_statement t (term_scope a) (statement p)) (fits_statement t (term_scope a) (sequence_from (statement q) (map statement qs))) g.keeps (fit_from t a q qs h.0 h.1)

divided_from : (t : Tables) (a : Around) (p : Term) (ps : List Term) → Fits t a p → AllFit t a ps → divisors_are_allowed (sequence_from (statement p) (map statement ps)) ≡ true
divided_from t a p [] g h = g.divisors
divided_from t a p (q ∷ qs) g h = and_true (divisors_are_allowed (statement p)) (divisors_are_allowed (sequence_from (statement q) (map statement qs))) g.divisors (divided_from t a q qs h.0 h.1)

pub fit_block : (t : Tables) (a : Around) (at : ℕ) (ts : List Term) → AllFit t a ts → Fits t a (block_of at ts)
fit_block t a at [] h = let e = statement-Nothing (term_at at form.Nothing) refl in record { keeps = ap (fits_statement t (term_scope a)) e; divisors = ap divisors_are_allowed e }
fit_block t a at (p ∷ []) h = h.0
fit_block t a at (p ∷ q ∷ ps) h =
    let e = statement-Seq (term_at at (form.Seq (p ∷ q ∷ ps))) (p ∷ q ∷ ps) refl in
    record { keeps = ap (fits_statement t (term_scope a)) e ∙ fit_from t a p (q ∷ ps) h.0 h.1; divisors = ap divisors_are_allowed e ∙ divided_from t a p (q ∷ ps) h.0 h.1 }

pub block_long : (at : ℕ) (ts parts : List Term) → 2 ≤ length ts → parts ≡ ts → term_at at (form.Seq parts) ≡ block_of at ts
block_long at [] parts l e = absurd (omega arith)
block_long at (t ∷ []) parts l e = absurd (omega arith)
block_long at (t ∷ u ∷ us) parts l e = ap (λ p. term_at at (form.Seq p)) e

pub block_one : (at : ℕ) (ts rest : List Term) (t : Term) → length ts < 2 → ts ≡ rest ++ t ∷ [] → t ≡ block_of at ts
block_one at ts [] t l e = sym (ap (block_of at) e)
block_one at ts (u ∷ us) t l e = absurd (let n = ap length e in let m = length-append us (t ∷ []) in omega arith)

pub block_none : (at : ℕ) (ts : List Term) → ts ≡ [] → term_at at form.Nothing ≡ block_of at ts
block_none at ts e = sym (ap (block_of at) e)

built_push : (xs : List Term) (t : Term) → AreBuilt xs → IsBuilt t → AreBuilt (xs ++ t ∷ [])
built_push [] t g h = (h, tt)
built_push (x ∷ xs) t g h = (g.0, built_push xs t g.1 h)

pub built_more : (xs ys : List Term) (t : Term) → ys ≡ xs ++ t ∷ [] → AreBuilt xs → IsBuilt t → AreBuilt ys
built_more xs ys t e g h = subst AreBuilt (sym e) (built_push xs t g h)

fit_push : (t : Tables) (a : Around) (xs : List Term) (x : Term) → AllFit t a xs → Fits t a x → AllFit t a (xs ++ x ∷ [])
fit_push t a [] x g h = (h, tt)
fit_push t a (y ∷ ys) x g h = (g.0, fit_push t a ys x g.1 h)

pub fit_more : (t : Tables) (a : Around) (xs ys : List Term) (x : Term) → ys ≡ xs ++ x ∷ [] → AllFit t a xs → Fits t a x → AllFit t a ys
fit_more t a xs ys x e g h = subst (AllFit t a) (sym e) (fit_push t a xs x g h)

-- statements of terms

pub send_is : (at c : ℕ) (n : ℤ) → statement (term_at at (form.Send c (int_expression n))) ≡ Send c (Literal Int n)
send_is at c n = statement-Send (term_at at (form.Send c (int_expression n))) c (int_expression n) n refl (literal_is (int_expression n) n refl refl)

pub seq_two : (at : ℕ) (a b : Term) (p q : Stmt) → statement a ≡ p → statement b ≡ q → statement (term_at at (form.Seq (a ∷ b ∷ []))) ≡ Seq p q
seq_two at a b p q h k = statement-Seq (term_at at (form.Seq (a ∷ b ∷ []))) (a ∷ b ∷ []) refl ∙ ap (λ x. Seq x (statement b)) h ∙ ap (Seq p) k

pub seq_three : (at : ℕ) (a b c : Term) (p q r : Stmt) → statement a ≡ p → statement b ≡ q → statement c ≡ r → statement (term_at at (form.Seq (a ∷ b ∷ c ∷ []))) ≡ Seq p (Seq q r)
seq_three at a b c p q r h k l = statement-Seq (term_at at (form.Seq (a ∷ b ∷ c ∷ []))) (a ∷ b ∷ c ∷ []) refl ∙ ap (λ x. Seq x (Seq (statement b) (statement c))) h ∙ ap (λ x. Seq p (Seq x (statement c))) k ∙ ap (λ x. Seq p (Seq q x)) l

pub ruleset sequences = (block_long, block_one, block_none)
