-- A list of parts as a statement.
use Rattle.std.proofs.Math.Seq.{drop-cons}
use Rattle.std.proofs.Common.{◌≡◌, ℕ, zero, suc, ◌<◌, Bool, true, false, ◌&&◌, drop, get_or, add-one, ◌+◌, List, [], ◌∷◌, length, map, refl, sym, ap, ◌∙◌}
use Rattle.std.specs.List.{list_all}
use Rattle.kernel_terms.specs.declared.expr.Expr.{Expr}
use Rattle.kernel_terms.specs.declared.sig_test.SigTest.{SigTest}
use Rattle.kernel_terms.specs.declared.term.Term.{Term}
use Rattle.kernel_terms.specs.declared.term.Form.TheViews as Form
use Rattle.kernel_terms.specs.Statements.{Stmt, sequence, sequence_from, parallel, parallel_from, statement}
use Rattle.kernel_terms.proofs.Layers.{statement-Seq}
use Rattle.tick_tree.specs.definitions.Exits.{exits_fit}
use Rattle.tick_tree.proofs.StatementLayers.{statement-If, statement-Present, statement-Par, statement-Abort, statement-Suspend}

pub and_true : (b : Bool) → b && true ≡ b
and_true b = elim b as (λ v. v && true ≡ v) [ true ↦ refl | false ↦ refl ]

pub and_left : (a b : Bool) → a && b ≡ true → a ≡ true
and_left true b h = refl
and_left false b h = cc

pub and_right : (a b : Bool) → a && b ≡ true → b ≡ true
and_right true b h = h
and_right false b h = cc

fit-sequence_from : (p : Stmt) (ps : List Stmt) → list_all exits_fit (p ∷ ps) ≡ exits_fit (sequence_from p ps)
fit-sequence_from p [] = and_true (exits_fit p)
fit-sequence_from p (q ∷ ps) = ap (λ b. exits_fit p && b) (fit-sequence_from q ps)

fit-sequence : (ps : List Stmt) → list_all exits_fit ps ≡ exits_fit (sequence ps)
fit-sequence [] = refl
fit-sequence (p ∷ ps) = fit-sequence_from p ps

fit-parallel_from : (p : Stmt) (ps : List Stmt) → list_all exits_fit (p ∷ ps) ≡ exits_fit (parallel_from p ps)
fit-parallel_from p [] = and_true (exits_fit p)
fit-parallel_from p (q ∷ ps) = ap (λ b. exits_fit p && b) (fit-parallel_from q ps)

fit-parallel : (ps : List Stmt) → list_all exits_fit ps ≡ exits_fit (parallel ps)
fit-parallel [] = refl
fit-parallel (p ∷ ps) = fit-parallel_from p ps

pub fit-Seq : (t : Term) (v : List Term) → t.form ≡ Form.Seq v → exits_fit (statement t) ≡ true → list_all exits_fit (map statement v) ≡ true
fit-Seq t v h fits = fit-sequence (map statement v) ∙ ap exits_fit (sym (statement-Seq t v h)) ∙ fits

pub fit-Par : (t : Term) (v : List Term) → t.form ≡ Form.Par v → exits_fit (statement t) ≡ true → list_all exits_fit (map statement v) ≡ true
fit-Par t v h fits = fit-parallel (map statement v) ∙ ap exits_fit (sym (statement-Par t v h)) ∙ fits

pub left-If : (t : Term) (e : Expr) (p q : Term) → t.form ≡ Form.If e p q → exits_fit (statement t) ≡ true → exits_fit (statement p) ≡ true
left-If t e p q h fits = and_left (exits_fit (statement p)) (exits_fit (statement q)) (ap exits_fit (sym (statement-If t e p q h)) ∙ fits)

pub right-If : (t : Term) (e : Expr) (p q : Term) → t.form ≡ Form.If e p q → exits_fit (statement t) ≡ true → exits_fit (statement q) ≡ true
right-If t e p q h fits = and_right (exits_fit (statement p)) (exits_fit (statement q)) (ap exits_fit (sym (statement-If t e p q h)) ∙ fits)

pub left-Present : (t : Term) (u : SigTest) (p q : Term) → t.form ≡ Form.Present u p q → exits_fit (statement t) ≡ true → exits_fit (statement p) ≡ true
left-Present t u p q h fits = and_left (exits_fit (statement p)) (exits_fit (statement q)) (ap exits_fit (sym (statement-Present t u p q h)) ∙ fits)

pub right-Present : (t : Term) (u : SigTest) (p q : Term) → t.form ≡ Form.Present u p q → exits_fit (statement t) ≡ true → exits_fit (statement q) ≡ true
right-Present t u p q h fits = and_right (exits_fit (statement p)) (exits_fit (statement q)) (ap exits_fit (sym (statement-Present t u p q h)) ∙ fits)

pub body-Abort : (t : Term) (weak immediate : Bool) (u : SigTest) (p : Term) → t.form ≡ Form.Abort weak immediate u p → exits_fit (statement t) ≡ true → exits_fit (statement p) ≡ true
body-Abort t weak immediate u p h fits = ap exits_fit (sym (statement-Abort t weak immediate u p h)) ∙ fits

pub body-Suspend : (t : Term) (u : SigTest) (p : Term) → t.form ≡ Form.Suspend u p → exits_fit (statement t) ≡ true → exits_fit (statement p) ≡ true
body-Suspend t u p h fits = ap exits_fit (sym (statement-Suspend t u p h)) ∙ fits

pub ruleset parts_of_terms = (
  statement-If,
  statement-Present,
  statement-Seq,
  statement-Par,
  statement-Abort,
  statement-Suspend,
  left-If,
  right-If,
  left-Present,
  right-Present,
  fit-Seq,
  fit-Par,
  body-Abort,
  body-Suspend,
)

pub split_first : (ts : List Term) (i : ℕ) (t : Term) → i < length ts → t ≡ get_or ts i t → map statement (drop i ts) ≡ statement t ∷ map statement (drop (i + 1) ts)
split_first ts i t lt is = rw (add-one, drop-cons ts i t lt) (ap (λ x. statement x ∷ map statement (drop (suc i) ts)) (sym is))

fits-drop : (ts : List Term) (i : ℕ) → list_all exits_fit (map statement ts) ≡ true → list_all exits_fit (map statement (drop i ts)) ≡ true
fits-drop [] zero h = h
fits-drop [] (suc i) h = h
fits-drop (t ∷ ts) zero h = h
fits-drop (t ∷ ts) (suc i) h = fits-drop ts i (and_right (exits_fit (statement t)) (list_all exits_fit (map statement ts)) h)

pub part_fits : (ts : List Term) (i : ℕ) (t : Term) → i < length ts → t ≡ get_or ts i t → list_all exits_fit (map statement ts) ≡ true → exits_fit (statement t) ≡ true
part_fits ts i t lt is h =
    and_left (exits_fit (statement t)) (list_all exits_fit (map statement (drop (i + 1) ts)))
    (ap (list_all exits_fit) (sym (split_first ts i t lt is)) ∙ fits-drop ts i h)

pub ruleset first_parts = (split_first, part_fits)
