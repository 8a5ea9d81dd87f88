-- What a tree of each form tells of the statement that is built.
use Rattle.std.proofs.Math.Seq.{drop-cons}
use Rattle.std.proofs.Math.ListN.{drop_of_length-le}
use Rattle.std.proofs.lemmas.List.{length-map}
use Rattle.std.proofs.Common.{◌≡◌, ℕ, suc, ◌+◌, ◌<◌, ◌&&◌, add-one, drop, length-drop, length-append, Bool, true, false, List, [], ◌∷◌, length, map, get_or, arith, refl, ap, sym, subst, ◌∙◌}
use Rattle.kernel_terms.specs.declared.expr.Expr.{Expr}
use Rattle.kernel_terms.specs.declared.sig_test.SigTest.{SigTest}
use Rattle.kernel_terms.specs.declared.tables.Tables.{Tables}
use Rattle.kernel_terms.specs.declared.term.Term.{Term}
use Rattle.kernel_terms.specs.declared.term.Form.TheViews as form
use Rattle.kernel_terms.specs.declared.term.Form.TheVariants as plain
use Rattle.kernel_terms.specs.Statements.{Stmt, Seq, statement, sequence, parallel}
use Rattle.kernel_rules.specs.definitions.Registers.{registers, statement_registers}
use Rattle.kernel_terms.proofs.Layers.{statement-Seq, statement-Loop}
use Rattle.kernel_terms.proofs.StatementLayers.{statement-If, statement-Present, statement-Par, statement-Trap, statement-Exit, statement-Abort, statement-Suspend, statement-Local}
use Rattle.surf_graph.specs.declared.copy_builder.CopyBuilder.{CopyBuilder}
use Rattle.surf_graph.specs.declared.copy_builder.Given.{Given}
use Rattle.surf_graph.specs.declared.copy_builder.Made.{Made}
use Rattle.surf_graph.specs.StartsBuilt.{is_built, Starts}

pub loop_registers : (tables : Tables) (t body : Term) → t.form ≡ form.Loop body → registers tables (statement t) ≡ registers tables (statement body)
loop_registers tables t body h = ap (registers tables) (statement-Loop t body h)

pub loop_built : (variables signals : ℕ) (t body : Term) → t.form ≡ form.Loop body → is_built variables signals (statement t) ≡ true → is_built variables signals (statement body) ≡ true
loop_built variables signals t body h b = sym (ap (is_built variables signals) (statement-Loop t body h)) ∙ b

pub ruleset loop_bodies = (statement-Loop, loop_registers, loop_built)

-- the forms that aren't built

pub unbuilt-If : (variables signals : ℕ) (t : Term) (e : Expr) (p q : Term) → t.form ≡ form.If e p q → is_built variables signals (statement t) ≡ true → ⊥
unbuilt-If variables signals t e p q h b = let x : false ≡ true = sym (ap (is_built variables signals) (statement-If t e p q h)) ∙ b in cc

pub unbuilt-Present : (variables signals : ℕ) (t : Term) (u : SigTest) (p q : Term) → t.form ≡ form.Present u p q → is_built variables signals (statement t) ≡ true → ⊥
unbuilt-Present variables signals t u p q h b = let x : false ≡ true = sym (ap (is_built variables signals) (statement-Present t u p q h)) ∙ b in cc

pub unbuilt-Trap : (variables signals : ℕ) (t p : Term) → t.form ≡ form.Trap p → is_built variables signals (statement t) ≡ true → ⊥
unbuilt-Trap variables signals t p h b = let x : false ≡ true = sym (ap (is_built variables signals) (statement-Trap t p h)) ∙ b in cc

pub unbuilt-Exit : (variables signals : ℕ) (t : Term) (d : ℕ) → t.form ≡ plain.Exit d → is_built variables signals (statement t) ≡ true → ⊥
unbuilt-Exit variables signals t d h b = let x : false ≡ true = sym (ap (is_built variables signals) (statement-Exit t d h)) ∙ b in cc

pub unbuilt-Abort : (variables signals : ℕ) (t : Term) (weak immediate : Bool) (u : SigTest) (p : Term) → t.form ≡ form.Abort weak immediate u p → is_built variables signals (statement t) ≡ true → ⊥
unbuilt-Abort variables signals t weak immediate u p h b = let x : false ≡ true = sym (ap (is_built variables signals) (statement-Abort t weak immediate u p h)) ∙ b in cc

pub unbuilt-Suspend : (variables signals : ℕ) (t : Term) (u : SigTest) (p : Term) → t.form ≡ form.Suspend u p → is_built variables signals (statement t) ≡ true → ⊥
unbuilt-Suspend variables signals t u p h b = let x : false ≡ true = sym (ap (is_built variables signals) (statement-Suspend t u p h)) ∙ b in cc

pub unbuilt-Local : (variables signals : ℕ) (t : Term) (s : ℕ) (p : Term) → t.form ≡ form.Local s p → is_built variables signals (statement t) ≡ true → ⊥
unbuilt-Local variables signals t s p h b = let x : false ≡ true = sym (ap (is_built variables signals) (statement-Local t s p h)) ∙ b in cc

wide_unbuilt : (variables signals : ℕ) (p q : Stmt) (ps : List Stmt) → is_built variables signals (parallel (p ∷ q ∷ ps)) ≡ true → ⊥
wide_unbuilt variables signals p q ps b = let x : false ≡ true = b in cc

pub unbuilt-wide : (variables signals : ℕ) (ts : List Term) → 1 < length ts → is_built variables signals (parallel (map statement ts)) ≡ true → ⊥
unbuilt-wide variables signals [] lt b = omega arith
unbuilt-wide variables signals (t ∷ []) lt b = omega arith
unbuilt-wide variables signals (t ∷ u ∷ ts) lt b = wide_unbuilt variables signals (statement t) (statement u) (map statement ts) b

pub ruleset lists_of_parts = (statement-Seq, statement-Par)

pub single_part : (ts : List Term) (t : Term) → length ts ≡ 1 → t ≡ get_or ts 0 t → parallel (map statement ts) ≡ statement t
single_part [] t n h = absurd (omega (arith, n))
single_part (u ∷ []) t n h = ap statement (sym h)
single_part (u ∷ w ∷ ts) t n h = absurd (omega (arith, n))

pub ruleset single_parts = (single_part)

-- a loop has its body's copy
pub loop_starts : (tables : Tables) (old new : CopyBuilder) (given : Given) (t body : Term) (made : Made) → t.form ≡ form.Loop body → Starts tables old new given (statement body) made → Starts tables old new given (statement t) (record made { ends = false })
loop_starts tables old new given t body made h s = subst (λ p. Starts tables old new given p (record made { ends = false })) (sym (statement-Loop t body h)) (record {
  built = s.built;
  status = s.status;
  live = s.live;
  ends = refl;
  register = λ e. absurd (let x : false ≡ true = e in let y : ⊥ = cc in y);
})

-- parts in turn

seq_turn : (p : Stmt) (ps : List Stmt) → 0 < length ps → sequence (p ∷ ps) ≡ Seq p (sequence ps)
seq_turn p [] lt = absurd (omega (arith, lt))
seq_turn p (q ∷ ps) lt = refl

split_first : (ts : List Term) (i : ℕ) (t : Term) → i < length ts → t ≡ get_or ts i t → map statement (drop i ts) ≡ statement t ∷ map statement (drop (i + 1) ts)
split_first ts i t lt is = rw (add-one, drop-cons ts i t lt) (ap (λ x. statement x ∷ map statement (drop (suc i) ts)) (sym is))

pub turn_statement : (ts : List Term) (i : ℕ) (t : Term) → i + 1 < length ts → t ≡ get_or ts i t → sequence (map statement (drop i ts)) ≡ Seq (statement t) (sequence (map statement (drop (i + 1) ts)))
turn_statement ts i t lt is =
    let some : 0 < length (map statement (drop (i + 1) ts)) = simp (length-map, length-drop) (omega (arith, lt)) in
    ap sequence (split_first ts i t (omega (arith, lt)) is) ∙ seq_turn (statement t) (map statement (drop (i + 1) ts)) some

pub turn_registers : (tables : Tables) (ts : List Term) (i : ℕ) (t : Term) → i + 1 < length ts → t ≡ get_or ts i t → registers tables (sequence (map statement (drop i ts))) ≡ registers tables (statement t) + registers tables (sequence (map statement (drop (i + 1) ts)))
turn_registers tables ts i t lt is =
    ap (registers tables) (turn_statement ts i t lt is)
    ∙ length-append (statement_registers tables (statement t)) (statement_registers tables (sequence (map statement (drop (i + 1) ts))))

pub and_first : (a b : Bool) → a && b ≡ true → a ≡ true
and_first true b h = refl
and_first false b h = cc

pub and_second : (a b : Bool) → a && b ≡ true → b ≡ true
and_second true b h = h
and_second false b h = cc

pub turn_built : (variables signals : ℕ) (ts : List Term) (i : ℕ) (t : Term) → i + 1 < length ts → t ≡ get_or ts i t → is_built variables signals (sequence (map statement (drop i ts))) ≡ true → is_built variables signals (statement t) ≡ true
turn_built variables signals ts i t lt is b =
    and_first (is_built variables signals (statement t)) (is_built variables signals (sequence (map statement (drop (i + 1) ts))))
    (sym (ap (is_built variables signals) (turn_statement ts i t lt is)) ∙ b)

pub ruleset turns_of_parts = (turn_statement, turn_registers, turn_built)

pub last_statement : (ts : List Term) (i : ℕ) (t : Term) → i + 1 ≡ length ts → t ≡ get_or ts i t → sequence (map statement (drop i ts)) ≡ statement t
last_statement ts i t n is =
    ap sequence (split_first ts i t (omega (arith, n)) is ∙ ap (λ l. statement t ∷ map statement l) (drop_of_length-le ts (omega (arith, n))))

pub ruleset last_parts = (last_statement)
