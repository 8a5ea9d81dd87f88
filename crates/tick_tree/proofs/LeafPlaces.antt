-- Each leaf of a term's own has a place.
use Rattle.std.proofs.Common.{◌≡◌, ℕ, suc, ◌+◌, Bool, true, ◌&&◌, List, [], ◌∷◌, ◌++◌, length, map, arith, refl, sym, ap, ◌∙◌, subst}
use Rattle.std.specs.Prelude.{flat_map}
use Rattle.std.specs.List.{list_all}
use Rattle.std.proofs.lemmas.List.{length-append}
use Rattle.kernel_terms.specs.declared.term.Form.{Form, map-Form}
use Rattle.kernel_terms.specs.declared.term.Term.{Term, map-Term, roll-Term}
use Rattle.kernel_terms.specs.declared.term.Form.TheViews.{roll-Form}
use Rattle.kernel_terms.specs.declared.term.Form.TheOpen.{Form-F, Term-F}
use Rattle.kernel_terms.specs.declared.term.Form.TheFolds.{fold-Form, ind-Term, fold-roll-Form, fold_out-Term}
use Rattle.kernel_terms.specs.Statements.{Stmt, sequence, sequence_from, parallel, parallel_from, statement, statement_of_form, form_statement, term_statement}
use Rattle.kernel_terms.specs.WellFormed.{has_some, form_has_parts, term_has_parts, has_parts}
use Rattle.tick_tree.specs.definitions.Leaves.{own_leaves, form_places, term_places, places_of}
use Rattle.tick_tree.proofs.PartLists.{and_left, and_right}

abbrev has_parts_of_form : Form → Bool
has_parts_of_form = fold-Form Bool Bool form_has_parts term_has_parts

abbrev places_of_form : Form → ℕ → List ℕ
places_of_form = fold-Form (ℕ → List ℕ) (List ℕ) form_places term_places

abbrev FormCounts : Form → Type 0
FormCounts f = (at : ℕ) → has_parts_of_form f ≡ true → length (places_of_form f at) ≡ own_leaves (statement_of_form f)

abbrev TermCounts : Term → Type 0
TermCounts t = has_parts t ≡ true → length (places_of t) ≡ own_leaves (statement t)

-- a part with a proof that it is so
abbrev FormPart : Type 0
FormPart = (f : Form) × FormCounts f

abbrev TermPart : Type 0
TermPart = (t : Term) × TermCounts t

abbrev terms_of : List TermPart → List Term
terms_of v = map (λ e. e.0) v

two_counts : (a b : List ℕ) (m n : ℕ) → length a ≡ m → length b ≡ n → length (a ++ b) ≡ m + n
two_counts a b m n x y = let e : length (a ++ b) ≡ length a + length b = length-append a b in omega (arith, e, x, y)

one_counts : (a : List ℕ) (m : ℕ) → length a ≡ m → length (a ++ []) ≡ m
one_counts a m x = let e : length (a ++ []) ≡ length a + 0 = length-append a [] in omega (arith, e, x)

abbrev all_places : List Term → List ℕ
all_places ts = flat_map (λ l. l) (map places_of ts)

sequence_counts_from : (t : Term) (v : List TermPart) → TermCounts t → has_parts t && list_all (λ b. b) (map has_parts (terms_of v)) ≡ true
    → length (all_places (t ∷ terms_of v)) ≡ own_leaves (sequence_from (statement t) (map statement (terms_of v)))
sequence_counts_from t [] k h = one_counts (places_of t) (own_leaves (statement t)) (k (and_left (has_parts t) true h))
sequence_counts_from t (u ∷ v) k h =
    let rest : Bool = list_all (λ b. b) (map has_parts (terms_of (u ∷ v))) in
    two_counts (places_of t) (all_places (terms_of (u ∷ v))) (own_leaves (statement t)) (own_leaves (sequence_from (statement u.0) (map statement (terms_of v))))
    (k (and_left (has_parts t) rest h)) (sequence_counts_from u.0 v u.1 (and_right (has_parts t) rest h))

sequence_counts : (v : List TermPart) → has_some (map has_parts (terms_of v)) ≡ true → length (all_places (terms_of v)) ≡ own_leaves (sequence (map statement (terms_of v)))
sequence_counts [] h = cc
sequence_counts (t ∷ v) h = sequence_counts_from t.0 v t.1 h

parallel_counts_from : (t : Term) (v : List TermPart) → TermCounts t → has_parts t && list_all (λ b. b) (map has_parts (terms_of v)) ≡ true
    → length (all_places (t ∷ terms_of v)) ≡ own_leaves (parallel_from (statement t) (map statement (terms_of v)))
parallel_counts_from t [] k h = one_counts (places_of t) (own_leaves (statement t)) (k (and_left (has_parts t) true h))
parallel_counts_from t (u ∷ v) k h =
    let rest : Bool = list_all (λ b. b) (map has_parts (terms_of (u ∷ v))) in
    two_counts (places_of t) (all_places (terms_of (u ∷ v))) (own_leaves (statement t)) (own_leaves (parallel_from (statement u.0) (map statement (terms_of v))))
    (k (and_left (has_parts t) rest h)) (parallel_counts_from u.0 v u.1 (and_right (has_parts t) rest h))

parallel_counts : (v : List TermPart) → has_some (map has_parts (terms_of v)) ≡ true → length (all_places (terms_of v)) ≡ own_leaves (parallel (map statement (terms_of v)))
parallel_counts [] h = cc
parallel_counts (t ∷ v) h = parallel_counts_from t.0 v t.1 h

holds : (x : Form-F Form Term) → has_parts_of_form (roll-Form x) ≡ form_has_parts (map-Form Form Term Bool Bool has_parts_of_form has_parts x)
holds x = fold-roll-Form Bool Bool form_has_parts term_has_parts x

placed : (x : Form-F Form Term) → places_of_form (roll-Form x) ≡ form_places (map-Form Form Term (ℕ → List ℕ) (List ℕ) places_of_form places_of x)
placed x = fold-roll-Form (ℕ → List ℕ) (List ℕ) form_places term_places x

stated : (x : Form-F Form Term) → statement_of_form (roll-Form x) ≡ form_statement (map-Form Form Term Stmt Stmt statement_of_form statement x)
stated x = fold-roll-Form Stmt Stmt form_statement term_statement x

-- by one level of a tree
layer : (x : Form-F Form Term)
    → ((at : ℕ) → form_has_parts (map-Form Form Term Bool Bool has_parts_of_form has_parts x) ≡ true
    → length (form_places (map-Form Form Term (ℕ → List ℕ) (List ℕ) places_of_form places_of x) at) ≡ own_leaves (form_statement (map-Form Form Term Stmt Stmt statement_of_form statement x)))
    → FormCounts (roll-Form x)
layer x m at h = ap (λ f. length (f at)) (placed x) ∙ m at (sym (holds x) ∙ h) ∙ sym (ap own_leaves (stated x))

branches_count : (p q : TermPart) → has_parts p.0 && has_parts q.0 ≡ true → suc (length (places_of p.0 ++ places_of q.0)) ≡ suc (own_leaves (statement p.0) + own_leaves (statement q.0))
branches_count p q h =
    ap suc
    (two_counts (places_of p.0) (places_of q.0) (own_leaves (statement p.0)) (own_leaves (statement q.0))
    (p.1 (and_left (has_parts p.0) (has_parts q.0) h)) (q.1 (and_right (has_parts p.0) (has_parts q.0) h)))

layer_counts : (b : Form-F FormPart TermPart) → FormCounts (roll-Form (map-Form FormPart TermPart Form Term (λ e. e.0) (λ e. e.0) b))
layer_counts Form-F.Nothing = layer Form-F.Nothing (λ at h. refl)
layer_counts Form-F.Pause = layer Form-F.Pause (λ at h. refl)
layer_counts (Form-F.Emit s e) = layer (Form-F.Emit s e) (λ at h. refl)
layer_counts (Form-F.Assign y e) = layer (Form-F.Assign y e) (λ at h. refl)
layer_counts (Form-F.If e p q) = layer (Form-F.If e p.0 q.0) (λ at h. branches_count p q h)
layer_counts (Form-F.Present t p q) = layer (Form-F.Present t p.0 q.0) (λ at h. branches_count p q h)
layer_counts (Form-F.Seq v) = layer (Form-F.Seq (terms_of v)) (λ at h. sequence_counts v h)
layer_counts (Form-F.Loop p) = layer (Form-F.Loop p.0) (λ at h. p.1 h)
layer_counts (Form-F.Par v) = layer (Form-F.Par (terms_of v)) (λ at h. parallel_counts v h)
layer_counts (Form-F.Trap p) = layer (Form-F.Trap p.0) (λ at h. p.1 h)
layer_counts (Form-F.Exit d) = layer (Form-F.Exit d) (λ at h. refl)
layer_counts (Form-F.Abort weak immediate t p) = layer (Form-F.Abort weak immediate t p.0) (λ at h. ap suc (p.1 h))
layer_counts (Form-F.Suspend t p) = layer (Form-F.Suspend t p.0) (λ at h. ap suc (p.1 h))
layer_counts (Form-F.Local s p) = layer (Form-F.Local s p.0) (λ at h. p.1 h)
layer_counts (Form-F.Send c e) = layer (Form-F.Send c e) (λ at h. refl)
layer_counts (Form-F.Receive c) = layer (Form-F.Receive c) (λ at h. refl)

term_counts : (b : Term-F FormPart TermPart) → TermCounts (roll-Term (map-Term FormPart TermPart Form Term (λ e. e.0) (λ e. e.0) b))
term_counts b h =
    let t : Term = roll-Term (map-Term FormPart TermPart Form Term (λ e. e.0) (λ e. e.0) b) in
    ap length (fold_out-Term (ℕ → List ℕ) (List ℕ) form_places term_places t)
    ∙ (b.form).1 b.at (sym (fold_out-Term Bool Bool form_has_parts term_has_parts t) ∙ h)
    ∙ sym (ap own_leaves (fold_out-Term Stmt Stmt form_statement term_statement t))

pub places_count : (t : Term) → has_parts t ≡ true → length (places_of t) ≡ own_leaves (statement t)
places_count =
    ind-Term FormCounts TermCounts (λ a b is. subst (λ z. FormCounts (roll-Form z)) is (layer_counts b)) (λ a b is. subst (λ z. TermCounts (roll-Term z)) is (term_counts b))
