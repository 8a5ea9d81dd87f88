-- A tree of the built forms is what its built statement stands for.
use Rattle.std.proofs.Common.{◌≡◌, Bool, true, false, ◌&&◌, List, [], ◌∷◌, map, refl, sym, ap, ◌∙◌, subst}
use Rattle.std.proofs.lemmas.Bool.{true≢false}
use Rattle.std.specs.Prelude.{Some, None}
use Rattle.java_values.specs.declared.kind.Kind.TheVariants as kind
use Rattle.kernel_terms.specs.declared.term.Form.{Form, map-Form}
use Rattle.kernel_terms.specs.declared.term.Term.{Term, map-Term, roll-Term}
use Rattle.kernel_terms.specs.declared.term.Form.TheViews.{roll-Form}
use Rattle.kernel_terms.specs.declared.term.Form.TheOpen.{Form-F, Term-F}
use Rattle.kernel_terms.specs.declared.term.Form.TheFolds.{ind-Term, fold-roll-Form, fold_out-Term}
use Rattle.kernel_terms.specs.Expressions.{Expression, Literal, Variable, SignalValue, ChannelValue, Unary, Binary, Cast, expression}
use Rattle.kernel_terms.specs.Statements.{Stmt, statement, statement_of_form, form_statement, term_statement}
use Rattle.kernel_terms.specs.Statements as rules
use Rattle.domain_core.specs.equations.BuiltForms.{Plain, Nothing, Pause, Emit, Loop, Send, Receive, whole, number_of, sequence, sequence_from, plain, plain_of_form, form_plain, term_plain}
use Rattle.kernel_terms.specs.Built.{is_int_literal, all_built, form_built, term_built, is_built, is_built_form}

pub first_true : (a b : Bool) → a && b ≡ true → a ≡ true
first_true true b h = refl
first_true false b h = cc

pub second_true : (a b : Bool) → a && b ≡ true → b ≡ true
second_true true b h = h
second_true false b h = cc

int_literal : (e : Expression) → is_int_literal e ≡ true → e ≡ Literal kind.Int (number_of e)
int_literal (Literal kind.Boolean n) h = cc
int_literal (Literal kind.Byte n) h = cc
int_literal (Literal kind.Short n) h = cc
int_literal (Literal kind.Char n) h = cc
int_literal (Literal kind.Int n) h = refl
int_literal (Literal kind.Long n) h = cc
int_literal (Variable k n) h = cc
int_literal (SignalValue k n) h = cc
int_literal (ChannelValue k n) h = cc
int_literal (Unary k op e) h = cc
int_literal (Binary k op e f) h = cc
int_literal (Cast k e) h = cc

abbrev FormStands : Form → Type 0
FormStands f = is_built_form f ≡ true → statement_of_form f ≡ whole (plain_of_form f)

abbrev TermStands : Term → Type 0
TermStands t = is_built t ≡ true → statement t ≡ whole (plain t)

-- a part with a proof that it is so
abbrev FormPart : Type 0
FormPart = (f : Form) × FormStands f

abbrev TermPart : Type 0
TermPart = (t : Term) × TermStands t

abbrev terms_of : List TermPart → List Term
terms_of v = map (λ e. e.0) v

sequence_stands_from : (t : Term) (v : List TermPart) → TermStands t → is_built t && all_built (map is_built (terms_of v)) ≡ true
    → rules.sequence_from (statement t) (map statement (terms_of v)) ≡ whole (sequence_from (plain t) (map plain (terms_of v)))
sequence_stands_from t [] k h = k (first_true (is_built t) true h)
sequence_stands_from t (u ∷ v) k h =
    ap (λ p. rules.Seq p (rules.sequence_from (statement u.0) (map statement (terms_of v)))) (k (first_true (is_built t) (all_built (map is_built (terms_of (u ∷ v)))) h))
    ∙ ap (λ q. rules.Seq (whole (plain t)) q) (sequence_stands_from u.0 v u.1 (second_true (is_built t) (all_built (map is_built (terms_of (u ∷ v)))) h))

sequence_stands : (v : List TermPart) → all_built (map is_built (terms_of v)) ≡ true → rules.sequence (map statement (terms_of v)) ≡ whole (sequence (map plain (terms_of v)))
sequence_stands [] h = refl
sequence_stands (t ∷ v) h = sequence_stands_from t.0 v t.1 h

built : (x : Form-F Form Term) → is_built_form (roll-Form x) ≡ form_built (map-Form Form Term Bool Bool is_built_form is_built x)
built x = fold-roll-Form Bool Bool form_built term_built x

rolled : (x : Form-F Form Term) → plain_of_form (roll-Form x) ≡ form_plain (map-Form Form Term Plain Plain plain_of_form plain x)
rolled x = fold-roll-Form Plain Plain form_plain term_plain x

stated : (x : Form-F Form Term) → statement_of_form (roll-Form x) ≡ form_statement (map-Form Form Term Stmt Stmt statement_of_form statement x)
stated x = fold-roll-Form Stmt Stmt form_statement term_statement x

layer : (x : Form-F Form Term) (b : Bool) (p : Plain) (q : Stmt) → is_built_form (roll-Form x) ≡ b → plain_of_form (roll-Form x) ≡ p → statement_of_form (roll-Form x) ≡ q → (b ≡ true → q ≡ whole p) → FormStands (roll-Form x)
layer x b p q hb hp hq m h = hq ∙ m (sym hb ∙ h) ∙ sym (ap whole hp)

unbuilt : (x : Form-F Form Term) → is_built_form (roll-Form x) ≡ false → FormStands (roll-Form x)
unbuilt x e h = absurd (true≢false (sym h ∙ e))

layer_stands : (b : Form-F FormPart TermPart) → FormStands (roll-Form (map-Form FormPart TermPart Form Term (λ e. e.0) (λ e. e.0) b))
layer_stands Form-F.Nothing = let x : Form-F Form Term = Form-F.Nothing in layer x true Nothing rules.Nothing (built x) (rolled x) (stated x) (λ h. refl)
layer_stands Form-F.Pause = let x : Form-F Form Term = Form-F.Pause in layer x true Pause rules.Pause (built x) (rolled x) (stated x) (λ h. refl)
layer_stands (Form-F.Emit s None) = let x : Form-F Form Term = Form-F.Emit s None in layer x true (Emit s) (rules.Emit s None) (built x) (rolled x) (stated x) (λ h. refl)
layer_stands (Form-F.Emit s (Some e)) = let x : Form-F Form Term = Form-F.Emit s (Some e) in unbuilt x (built x)
layer_stands (Form-F.Assign y e) = let x : Form-F Form Term = Form-F.Assign y e in unbuilt x (built x)
layer_stands (Form-F.If e p q) = let x : Form-F Form Term = Form-F.If e p.0 q.0 in unbuilt x (built x)
layer_stands (Form-F.Present t p q) = let x : Form-F Form Term = Form-F.Present t p.0 q.0 in unbuilt x (built x)
layer_stands (Form-F.Seq v) =
    let x : Form-F Form Term = Form-F.Seq (terms_of v) in
    layer x (all_built (map is_built (terms_of v))) (sequence (map plain (terms_of v))) (rules.sequence (map statement (terms_of v))) (built x) (rolled x) (stated x) (sequence_stands v)
layer_stands (Form-F.Loop p) =
    let x : Form-F Form Term = Form-F.Loop p.0 in layer x (is_built p.0) (Loop (plain p.0)) (rules.Loop (statement p.0)) (built x) (rolled x) (stated x) (λ h. ap rules.Loop (p.1 h))
layer_stands (Form-F.Par v) = let x : Form-F Form Term = Form-F.Par (terms_of v) in unbuilt x (built x)
layer_stands (Form-F.Trap p) = let x : Form-F Form Term = Form-F.Trap p.0 in unbuilt x (built x)
layer_stands (Form-F.Exit d) = let x : Form-F Form Term = Form-F.Exit d in unbuilt x (built x)
layer_stands (Form-F.Abort weak immediate t p) = let x : Form-F Form Term = Form-F.Abort weak immediate t p.0 in unbuilt x (built x)
layer_stands (Form-F.Suspend t p) = let x : Form-F Form Term = Form-F.Suspend t p.0 in unbuilt x (built x)
layer_stands (Form-F.Local s p) = let x : Form-F Form Term = Form-F.Local s p.0 in unbuilt x (built x)
layer_stands (Form-F.Send c e) =
    let x : Form-F Form Term = Form-F.Send c e in
    layer x (is_int_literal (expression e)) (Send c (number_of (expression e))) (rules.Send c (expression e)) (built x) (rolled x) (stated x) (λ h. ap (rules.Send c) (int_literal (expression e) h))
layer_stands (Form-F.Receive c) = let x : Form-F Form Term = Form-F.Receive c in layer x true (Receive c) (rules.Receive c) (built x) (rolled x) (stated x) (λ h. refl)

term_stands : (b : Term-F FormPart TermPart) → TermStands (roll-Term (map-Term FormPart TermPart Form Term (λ e. e.0) (λ e. e.0) b))
term_stands b h =
    let t : Term = roll-Term (map-Term FormPart TermPart Form Term (λ e. e.0) (λ e. e.0) b) in
    fold_out-Term Stmt Stmt form_statement term_statement t
    ∙ (b.form).1 (sym (fold_out-Term Bool Bool form_built term_built t) ∙ h)
    ∙ sym (ap whole (fold_out-Term Plain Plain form_plain term_plain t))

pub built_stands : (t : Term) → is_built t ≡ true → statement t ≡ whole (plain t)
built_stands =
    ind-Term FormStands TermStands (λ a b is. subst (λ z. FormStands (roll-Form z)) is (layer_stands b)) (λ a b is. subst (λ z. TermStands (roll-Term z)) is (term_stands b))
