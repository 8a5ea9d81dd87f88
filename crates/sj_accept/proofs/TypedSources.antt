-- The kinds and the terms of a tree, one statement at a time: of the built forms nothing is wrong, and nothing is declared.
use Rattle.std.proofs.Common.{◌≡◌, ℕ, suc, ℤ, Bool, true, false, List, [], ◌∷◌, map, length, None, Some, refl, sym, ap, ◌∙◌}
use Rattle.std.specs.Prelude.{Option, option_map, ◌||◌, cond}
use Rattle.std.specs.List.{flat_map}
use Rattle.java_values.specs.declared.kind.Kind.{Kind}
use Rattle.java_values.specs.declared.kind.Kind.TheVariants.{Int}
use Rattle.java_values.specs.declared.value.Value.{Value}
use Rattle.java_values.specs.Arithmetic.{wrapped}
use Rattle.java_values.specs.Kinds.{TypedNumber, is_widened}
use Rattle.kernel_terms.specs.declared.expr.Expr as expr
use Rattle.kernel_terms.specs.declared.expr.Expr.{Expr}
use Rattle.kernel_terms.specs.declared.expr.ExprForm as expr_form
use Rattle.kernel_terms.specs.declared.term.Term.{Term}
use Rattle.kernel_terms.specs.declared.term.Form as term_form
use Rattle.kernel_terms.specs.WellFormed.{same_kind}
use Rattle.kernel_terms.specs.declared.tables.Tables.{Tables}
use Rattle.kernel_terms.specs.TableEntries.{signal_at, channel_at}
use Rattle.sj_ast.specs.declared.name.Name.{Name}
use Rattle.sj_ast.specs.declared.expression.Raw as raw
use Rattle.sj_ast.specs.declared.expression.Raw.{Raw}
use Rattle.sj_ast.specs.declared.expression.Raw.TheOpen.{Raw-F}
use Rattle.sj_ast.specs.declared.expression.Raw.TheFolds.{fold-roll-Raw}
use Rattle.sj_ast.specs.declared.expression.Raw.TheVariants.{rolls-Literal}
use Rattle.sj_ast.specs.declared.statement.Form as form
use Rattle.sj_ast.specs.declared.statement.Stmt as stmt
use Rattle.sj_ast.specs.declared.statement.Block as block
use Rattle.sj_ast.specs.declared.statement.Form.TheOpen.{Form-F}
use Rattle.sj_ast.specs.declared.statement.Form.TheFolds.{fold-Form, fold-roll-Form, fold-roll-Block, fold_out-Stmt}
use Rattle.sj_ast.specs.declared.statement.Form.TheVariants.{rolls-Pause, rolls-Halt, rolls-Emit, rolls-While, rolls-Send, rolls-Receive}
use Rattle.sj_grammar.specs.definitions.Trees.{SourceForm, SourceStmt, SourceBlock}
use Rattle.sj_names.specs.declared.entry.TableEntry.{TableEntry}
use Rattle.sj_names.specs.declared.mention.Role.TheVariants as role
use Rattle.sj_names.specs.definitions.Scopes.{Scope, no_names, closed_at}
use Rattle.sj_names.specs.definitions.NumberedTrees.{Numbered, NumberedForm, NumberedStmt, NumberedBlock, NumberedExpression, FormPart, BlockPart, StmtPart, number_of, numbered_raw_layer, numbered_expression, numbered_form_layer, numbered_block_layer, numbered_stmt_layer, numbered_form, numbered_block, numbered_stmt, stmts_in_order, blocks_in_order, numbered_ports}
use Rattle.sj_names.specs.definitions.DeclaredTables.{Declared, nothing, both, all, declared_form_layer, declared_block_layer, declared_stmt_layer, declared_form, declared_block, declared_stmt, declared_domains, tables_of_tree}
use Rattle.java_types.specs.declared.failure.TypeFailure.{TypeFailure}
use Rattle.java_types.specs.declared.operand.Operand.{Operand}
use Rattle.java_types.specs.declared.operand.Spelling.TheVariants as spelling
use Rattle.java_types.specs.definitions.Checks.{Checked, fine, wrong, after, then, map1, map2, all_checked}
use Rattle.java_types.specs.definitions.Spellings.{is_given_to}
use Rattle.java_types.specs.definitions.Operands.{expr_of, kind_of, literal, checked_layer, checked_expression}
use Rattle.java_types.specs.definitions.Conversions.{given, converted}
use Rattle.java_types.specs.definitions.TypedTrees.{TypedTree, TypedForm, TypedStmt, TypedBlock, emission, value_for, form_layer, block_layer, stmt_layer, checked_form, checked_block, checked_stmt, port_failures, with_domains}
use Rattle.java_types.specs.definitions.TypedTrees as kinds
use Rattle.java_types.specs.declared.failure.TypeFailure.TheVariants as failure
use Rattle.sj_grammar.specs.definitions.SourceTrees.{SourceTree}
use Rattle.sj_ast.specs.declared.port.Port as port
use Rattle.sj_accept.specs.definitions.Kinds.{checked_source, kind_failures, typed_tree}
use Rattle.sj_accept.specs.definitions.Optional.{all_some, with_first}
use Rattle.sj_accept.specs.definitions.BuiltTables.{tables_are_built}
use Rattle.sj_accept.specs.definitions.Lowering.{term_at, block_of, int_of, int_expression, send_of, loop_of, form_term, stmt_term, block_term}
use Rattle.sj_accept.specs.definitions.Lowering as lowering
use Rattle.sj_accept.specs.definitions.Programs.{LoweredProgram, with_terms, lowered, lowered_where, program_of}
use Rattle.sj_accept.proofs.TermLemmas.{literal_is}

-- trees

abbrev stmt_at : ℕ → SourceForm → SourceStmt
stmt_at at f = stmt.roll-Stmt Name (Raw Name) (record { at = at; form = f })

abbrev block_at : ℕ → List SourceStmt → SourceBlock
block_at at ss = block.roll-Block Name (Raw Name) (record { at = at; statements = ss })

abbrev numbered_at : ℕ → NumberedForm → NumberedStmt
numbered_at at f = stmt.roll-Stmt ℕ (Raw TableEntry) (record { at = at; form = f })

abbrev numbered_block_at : ℕ → List NumberedStmt → NumberedBlock
numbered_block_at at ss = block.roll-Block ℕ (Raw TableEntry) (record { at = at; statements = ss })

abbrev with_scope : {X : Type 0} → X → Scope → Numbered X
with_scope x s = record { value = x; scope = s }

-- nothing is wrong with a check that gives this value
abbrev pub Gives : {X : Type 0} → Checked X → X → Type 0
Gives c x = c ≡ fine x

-- The statements in this scope have kinds, their terms are these, and they leave the scope as it is.
pub record Fit (t : Tables) (s : Scope) (ss : List SourceStmt) (ts : List Term) : Type 0 where
  typed : List TypedStmt
  checks : Gives (all_checked (map (checked_stmt t) (stmts_in_order (map numbered_stmt ss) s).value)) typed
  terms : all_some (map stmt_term typed) ≡ Some ts
  declared : (d : ℕ) → all (map (declared_stmt d) ss) ≡ nothing
  same : (stmts_in_order (map numbered_stmt ss) s).scope ≡ s

pub fit_none : (t : Tables) (s : Scope) → Fit t s [] []
fit_none t s = record { typed = []; checks = refl; terms = refl; declared = λ d. refl; same = refl }

both_given : {X : Type 0} (c : Checked X) (x : X) (d : Checked (List X)) (xs : List X) → Gives c x → Gives d xs → Gives (map2 (λ y ys. y ∷ ys) c d) (x ∷ xs)
both_given c x d xs h k = ap (λ e. map2 (λ y ys. y ∷ ys) e d) h ∙ ap (map2 (λ y ys. y ∷ ys) (fine x)) k

all_more : {X : Type 0} (o : Option X) (os : List (Option X)) (x : X) (xs : List X) → o ≡ Some x → all_some os ≡ Some xs → all_some (o ∷ os) ≡ Some (x ∷ xs)
all_more None os x xs h k = cc
all_more (Some y) os x xs h k = ap (with_first y) k ∙ ap (λ z. Some (z ∷ xs)) (cc)

more : (t : Tables) (s : Scope) (st : SourceStmt) (ss : List SourceStmt) (n : NumberedStmt) (u : TypedStmt) (term : Term) (ts : List Term) → numbered_stmt st s ≡ with_scope n s → Gives (checked_stmt t n) u → stmt_term u ≡ Some term → ((d : ℕ) → declared_stmt d st ≡ nothing) → Fit t s ss ts → Fit t s (st ∷ ss) (term ∷ ts)
more t s st ss n u term ts h f g e r = record {
  typed = u ∷ r.typed;
  checks =
      ap (λ (m : Numbered NumberedStmt). all_checked (map (checked_stmt t) (m.value ∷ (stmts_in_order (map numbered_stmt ss) m.scope).value))) h
      ∙ both_given (checked_stmt t n) u (all_checked (map (checked_stmt t) (stmts_in_order (map numbered_stmt ss) s).value)) r.typed f r.checks;
  terms = all_more (stmt_term u) (map stmt_term r.typed) term ts g r.terms;
  declared = λ d. ap (λ x. both x (all (map (declared_stmt d) ss))) (e d) ∙ ap (both nothing) (r.declared d);
  same = ap (λ (m : Numbered NumberedStmt). (stmts_in_order (map numbered_stmt ss) m.scope).scope) h ∙ r.same;
}

-- the number of a statement's form is that of the statement
numbers_at : (at : ℕ) (f : SourceForm) (s : Scope) (g : NumberedForm) → numbered_form f s ≡ with_scope g s → numbered_stmt (stmt_at at f) s ≡ with_scope (numbered_at at g) s
numbers_at at f s g h =
    ap (λ (p : StmtPart). p s) (fold_out-Stmt Name (Raw Name) FormPart BlockPart StmtPart numbered_form_layer numbered_block_layer numbered_stmt_layer (stmt_at at f))
    ∙ ap (λ (m : Numbered NumberedForm). with_scope (numbered_at at m.value) m.scope) h

abbrev typed_at : ℕ → TypedForm → TypedStmt
typed_at = kinds.stmt_at

gives_at : (t : Tables) (at : ℕ) (g : NumberedForm) (f : TypedForm) → Gives (checked_form t g) f → Gives (checked_stmt t (numbered_at at g)) (typed_at at f)
gives_at t at g f h =
    fold_out-Stmt ℕ (Raw TableEntry) (Checked TypedForm) (Checked TypedBlock) (Checked TypedStmt) (form_layer t) block_layer stmt_layer (numbered_at at g) ∙ ap (map1 (kinds.stmt_at at)) h

form_made : TypedForm → ℕ → Option Term
form_made = fold-Form ℕ Expr (ℕ → Option Term) (Option Term) (Option Term) form_term lowering.block_layer lowering.stmt_layer

made_at : (at : ℕ) (f : TypedForm) (made : ℕ → Option Term) (term : Term) → form_made f ≡ made → made at ≡ Some term → stmt_term (typed_at at f) ≡ Some term
unfolding form_made
made_at at f made term h k =
    fold_out-Stmt ℕ Expr (ℕ → Option Term) (Option Term) (Option Term) form_term lowering.block_layer lowering.stmt_layer (typed_at at f) ∙ ap (λ (g : ℕ → Option Term). g at) h ∙ k

declared_at : (d at : ℕ) (f : SourceForm) → declared_form d f ≡ nothing → declared_stmt d (stmt_at at f) ≡ nothing
declared_at d at f h = fold_out-Stmt Name (Raw Name) Declared Declared Declared (declared_form_layer d) declared_block_layer declared_stmt_layer (stmt_at at f) ∙ h

of_form : (t : Tables) (at : ℕ) (f : SourceForm) (s : Scope) (ss : List SourceStmt) (g : NumberedForm) (h : TypedForm) (made : ℕ → Option Term) (term : Term) (ts : List Term)
    → numbered_form f s ≡ with_scope g s → Gives (checked_form t g) h → form_made h ≡ made → made at ≡ Some term → ((d : ℕ) → declared_form d f ≡ nothing) → Fit t s ss ts → Fit t s (stmt_at at f ∷ ss) (term ∷ ts)
of_form t at f s ss g h made term ts n k l m e r = more t s (stmt_at at f) ss (numbered_at at g) (typed_at at h) term ts (numbers_at at f s g n) (gives_at t at g h k) (made_at at h made term l m) (λ d. declared_at d at f (e d)) r

-- one statement

pub pause_fits : (t : Tables) (s : Scope) (at : ℕ) (ss : List SourceStmt) (ts : List Term) → Fit t s ss ts → Fit t s (stmt_at at form.Pause ∷ ss) (term_at at term_form.Pause ∷ ts)
unfolding form_made
pause_fits t s at ss ts r =
    of_form t at form.Pause s ss form.Pause form.Pause (form_term Form-F.Pause) (term_at at term_form.Pause) ts
    (ap (λ (p : FormPart). p s) (ap numbered_form (sym rolls-Pause) ∙ fold-roll-Form Name (Raw Name) FormPart BlockPart StmtPart numbered_form_layer numbered_block_layer numbered_stmt_layer Form-F.Pause))
    (ap (checked_form t) (sym rolls-Pause) ∙ fold-roll-Form ℕ (Raw TableEntry) (Checked TypedForm) (Checked TypedBlock) (Checked TypedStmt) (form_layer t) block_layer stmt_layer Form-F.Pause)
    (ap form_made (sym rolls-Pause) ∙ fold-roll-Form ℕ Expr (ℕ → Option Term) (Option Term) (Option Term) form_term lowering.block_layer lowering.stmt_layer Form-F.Pause)
    refl
    (λ d. ap (declared_form d) (sym rolls-Pause) ∙ fold-roll-Form Name (Raw Name) Declared Declared Declared (declared_form_layer d) declared_block_layer declared_stmt_layer Form-F.Pause)
    r

pub emit_fits : (t : Tables) (s : Scope) (at name_at : ℕ) (name : Name) (n : ℕ) (ss : List SourceStmt) (ts : List Term) → number_of role.Emit name s ≡ n → (signal_at t n).kind ≡ None → Fit t s ss ts
    → Fit t s (stmt_at at (form.Emit name_at name None) ∷ ss) (term_at at (term_form.Emit n None) ∷ ts)
unfolding form_made
emit_fits t s at name_at name n ss ts e pure r =
    of_form t at (form.Emit name_at name None) s ss (form.Emit name_at n None) (form.Emit name_at n None) (form_term (Form-F.Emit name_at n None)) (term_at at (term_form.Emit n None)) ts
    (ap (λ (p : FormPart). p s) (ap numbered_form (sym (rolls-Emit name_at name None)) ∙ fold-roll-Form Name (Raw Name) FormPart BlockPart StmtPart numbered_form_layer numbered_block_layer numbered_stmt_layer (Form-F.Emit name_at name None))
    ∙ ap (λ m. with_scope (form.Emit name_at m None) s) e)
    (ap (checked_form t) (sym (rolls-Emit name_at n None)) ∙ fold-roll-Form ℕ (Raw TableEntry) (Checked TypedForm) (Checked TypedBlock) (Checked TypedStmt) (form_layer t) block_layer stmt_layer (Form-F.Emit name_at n None)
    ∙ ap (λ k. map1 (form.Emit name_at n) (emission t name_at k None)) pure)
    (ap form_made (sym (rolls-Emit name_at n None)) ∙ fold-roll-Form ℕ Expr (ℕ → Option Term) (Option Term) (Option Term) form_term lowering.block_layer lowering.stmt_layer (Form-F.Emit name_at n None))
    refl
    (λ d. ap (declared_form d) (sym (rolls-Emit name_at name None)) ∙ fold-roll-Form Name (Raw Name) Declared Declared Declared (declared_form_layer d) declared_block_layer declared_stmt_layer (Form-F.Emit name_at name None))
    r

pub receive_fits : (t : Tables) (s : Scope) (at name_at : ℕ) (name : Name) (n : ℕ) (ss : List SourceStmt) (ts : List Term) → number_of role.Receive name s ≡ n → Fit t s ss ts
    → Fit t s (stmt_at at (form.Receive name_at name) ∷ ss) (term_at at (term_form.Receive n) ∷ ts)
unfolding form_made
receive_fits t s at name_at name n ss ts e r =
    of_form t at (form.Receive name_at name) s ss (form.Receive name_at n) (form.Receive name_at n) (form_term (Form-F.Receive name_at n)) (term_at at (term_form.Receive n)) ts
    (ap (λ (p : FormPart). p s) (ap numbered_form (sym (rolls-Receive name_at name)) ∙ fold-roll-Form Name (Raw Name) FormPart BlockPart StmtPart numbered_form_layer numbered_block_layer numbered_stmt_layer (Form-F.Receive name_at name))
    ∙ ap (λ m. with_scope (form.Receive name_at m) s) e)
    (ap (checked_form t) (sym (rolls-Receive name_at n)) ∙ fold-roll-Form ℕ (Raw TableEntry) (Checked TypedForm) (Checked TypedBlock) (Checked TypedStmt) (form_layer t) block_layer stmt_layer (Form-F.Receive name_at n))
    (ap form_made (sym (rolls-Receive name_at n)) ∙ fold-roll-Form ℕ Expr (ℕ → Option Term) (Option Term) (Option Term) form_term lowering.block_layer lowering.stmt_layer (Form-F.Receive name_at n))
    refl
    (λ d. ap (declared_form d) (sym (rolls-Receive name_at name)) ∙ fold-roll-Form Name (Raw Name) Declared Declared Declared (declared_form_layer d) declared_block_layer declared_stmt_layer (Form-F.Receive name_at name))
    r

-- the value of a literal

number_of_literal : (at : ℕ) (v : Value) (s : Scope) → numbered_expression (raw.Literal at v) s ≡ raw.Literal at v
number_of_literal at v s = ap (λ (p : Scope → NumberedExpression). p s) (ap numbered_expression (sym (rolls-Literal at v)) ∙ fold-roll-Raw Name (Scope → NumberedExpression) numbered_raw_layer (Raw-F.Literal at v))

kind_of_made : (k : Kind) (f : expr_form.ExprForm) → kind_of (expr_of k f) ≡ k
kind_of_made k f = ap (λ (e : _). e.kind) (expr.out-roll-Expr (record { kind = k; form = f }))

abbrev int : ℤ → TypedNumber
int n = record { kind = Int; number = n }

int_is_given : (at : ℕ) (n : ℤ) → Gives (given Int (literal at (int n) (spelling.Literal (int n)))) (int_expression n)
int_is_given at n =
    let e = expr_of Int (expr_form.Literal n) in
    ap (λ k. cond (is_widened k Int || is_given_to Int (spelling.Literal (int n))) (fine (converted Int e)) (wrong (failure.Mismatch at))) (kind_of_made Int (expr_form.Literal n))
    ∙ ap (λ k. fine (cond (same_kind k Int) e (expr_of Int (expr_form.Cast e)))) (kind_of_made Int (expr_form.Literal n))

literal_fits : (t : Tables) (k : Kind) (at : ℕ) (n : ℤ) → wrapped Int n ≡ n → k ≡ Int → Gives (value_for t k (raw.Literal at (int n))) (int_expression n)
literal_fits t k at n w i =
    ap (λ (c : Checked Operand). then c (given k)) (ap (checked_expression t) (sym (rolls-Literal at (int n))) ∙ fold-roll-Raw TableEntry (Checked Operand) (checked_layer t) (Raw-F.Literal at (int n)))
    ∙ ap (λ m. after [] (given k (literal at (int m) (spelling.Literal (int m))))) w
    ∙ ap (λ l. after [] (given l (literal at (int n) (spelling.Literal (int n))))) i
    ∙ ap (after []) (int_is_given at n)

pub send_fits : (t : Tables) (s : Scope) (at name_at : ℕ) (name : Name) (value_at : ℕ) (c : ℕ) (n : ℤ) (ss : List SourceStmt) (ts : List Term) → number_of role.Send name s ≡ c → wrapped Int n ≡ n → (channel_at t c).kind ≡ Int → Fit t s ss ts
    → Fit t s (stmt_at at (form.Send name_at name (raw.Literal value_at (record { kind = Int; number = n }))) ∷ ss) (term_at at (term_form.Send c (int_expression n)) ∷ ts)
unfolding form_made
send_fits t s at name_at name value_at c n ss ts e x k r =
    let number : Value = record { kind = Int; number = n } in
    let v : raw.Raw Name = raw.Literal value_at number in
    let w : raw.Raw TableEntry = raw.Literal value_at number in
    of_form t at (form.Send name_at name v) s ss (form.Send name_at c w) (form.Send name_at c (int_expression n)) (form_term (Form-F.Send name_at c (int_expression n))) (term_at at (term_form.Send c (int_expression n))) ts
    (ap (λ (p : FormPart). p s) (ap numbered_form (sym (rolls-Send name_at name v)) ∙ fold-roll-Form Name (Raw Name) FormPart BlockPart StmtPart numbered_form_layer numbered_block_layer numbered_stmt_layer (Form-F.Send name_at name v))
    ∙ ap (λ x. with_scope (form.Send name_at (number_of role.Send name s) x) s) (number_of_literal value_at number s)
    ∙ ap (λ m. with_scope (form.Send name_at m w) s) e)
    (ap (checked_form t) (sym (rolls-Send name_at c w))
    ∙ fold-roll-Form ℕ (Raw TableEntry) (Checked TypedForm) (Checked TypedBlock) (Checked TypedStmt) (form_layer t) block_layer stmt_layer (Form-F.Send name_at c w)
    ∙ ap (map1 (form.Send name_at c)) (literal_fits t (channel_at t c).kind value_at n x k))
    (ap form_made (sym (rolls-Send name_at c (int_expression n))) ∙ fold-roll-Form ℕ Expr (ℕ → Option Term) (Option Term) (Option Term) form_term lowering.block_layer lowering.stmt_layer (Form-F.Send name_at c (int_expression n)))
    (ap (λ x. send_of at c (int_of x)) (literal_is (int_expression n) n refl refl))
    (λ d. ap (declared_form d) (sym (rolls-Send name_at name v)) ∙ fold-roll-Form Name (Raw Name) Declared Declared Declared (declared_form_layer d) declared_block_layer declared_stmt_layer (Form-F.Send name_at name v))
    r

-- one block

-- at its end the scope is as before
abbrev pub closes : Scope → Type 0
closes s = closed_at (length s.visible) s ≡ s

block_numbered : (at : ℕ) (s : Scope) (ss : List SourceStmt) → (stmts_in_order (map numbered_stmt ss) s).scope ≡ s → closes s → numbered_block (block_at at ss) s ≡ with_scope (numbered_block_at at (stmts_in_order (map numbered_stmt ss) s).value) s
block_numbered at s ss same c =
    ap (λ (p : BlockPart). p s) (fold-roll-Block Name (Raw Name) FormPart BlockPart StmtPart numbered_form_layer numbered_block_layer numbered_stmt_layer (record { at = at; statements = ss }))
    ∙ ap (λ x. with_scope (numbered_block_at at (stmts_in_order (map numbered_stmt ss) s).value) (closed_at (length s.visible) x)) same
    ∙ ap (λ x. with_scope (numbered_block_at at (stmts_in_order (map numbered_stmt ss) s).value) x) c

abbrev typed_block_at : ℕ → List TypedStmt → TypedBlock
typed_block_at = kinds.block_at

block_given : (t : Tables) (at : ℕ) (ns : List NumberedStmt) (us : List TypedStmt) → Gives (all_checked (map (checked_stmt t) ns)) us → Gives (checked_block t (numbered_block_at at ns)) (typed_block_at at us)
block_given t at ns us h = fold-roll-Block ℕ (Raw TableEntry) (Checked TypedForm) (Checked TypedBlock) (Checked TypedStmt) (form_layer t) block_layer stmt_layer (record { at = at; statements = ns }) ∙ ap (map1 (kinds.block_at at)) h

block_made : (at : ℕ) (us : List TypedStmt) (ts : List Term) → all_some (map stmt_term us) ≡ Some ts → block_term (typed_block_at at us) ≡ Some (block_of at ts)
block_made at us ts h = fold-roll-Block ℕ Expr (ℕ → Option Term) (Option Term) (Option Term) form_term lowering.block_layer lowering.stmt_layer (record { at = at; statements = us }) ∙ ap (option_map (block_of at)) h

block_declares : (d at : ℕ) (ss : List SourceStmt) → all (map (declared_stmt d) ss) ≡ nothing → declared_block d (block_at at ss) ≡ nothing
block_declares d at ss h = fold-roll-Block Name (Raw Name) Declared Declared Declared (declared_form_layer d) declared_block_layer declared_stmt_layer (record { at = at; statements = ss }) ∙ h

pub while_fits : (t : Tables) (s : Scope) (at body_at : ℕ) (bs : List SourceStmt) (body : List Term) (ss : List SourceStmt) (ts : List Term) → closes s → Fit t s bs body → Fit t s ss ts
    → Fit t s (stmt_at at (form.While (block_at body_at bs)) ∷ ss) (term_at at (term_form.Loop (block_of body_at body)) ∷ ts)
unfolding form_made
while_fits t s at body_at bs body ss ts c b r =
    let n = numbered_block_at body_at (stmts_in_order (map numbered_stmt bs) s).value in
    let u = typed_block_at body_at b.typed in
    of_form t at (form.While (block_at body_at bs)) s ss (form.While n) (form.While u) (λ a. loop_of a (block_term u)) (term_at at (term_form.Loop (block_of body_at body))) ts
    (ap (λ (p : FormPart). p s) (ap numbered_form (sym (rolls-While (block_at body_at bs))) ∙ fold-roll-Form Name (Raw Name) FormPart BlockPart StmtPart numbered_form_layer numbered_block_layer numbered_stmt_layer (Form-F.While (block_at body_at bs)))
    ∙ ap (λ (m : Numbered NumberedBlock). with_scope (form.While m.value) m.scope) (block_numbered body_at s bs b.same c))
    (ap (checked_form t) (sym (rolls-While n)) ∙ fold-roll-Form ℕ (Raw TableEntry) (Checked TypedForm) (Checked TypedBlock) (Checked TypedStmt) (form_layer t) block_layer stmt_layer (Form-F.While n)
    ∙ ap (map1 form.While) (block_given t body_at (stmts_in_order (map numbered_stmt bs) s).value b.typed b.checks))
    (ap form_made (sym (rolls-While u)) ∙ fold-roll-Form ℕ Expr (ℕ → Option Term) (Option Term) (Option Term) form_term lowering.block_layer lowering.stmt_layer (Form-F.While u))
    (ap (loop_of at) (block_made body_at b.typed body b.terms))
    (λ d. ap (declared_form d) (sym (rolls-While (block_at body_at bs))) ∙ fold-roll-Form Name (Raw Name) Declared Declared Declared (declared_form_layer d) declared_block_layer declared_stmt_layer (Form-F.While (block_at body_at bs)) ∙ block_declares d body_at bs (b.declared d))
    r

-- the domains
pub record FitAll (t : Tables) (s : Scope) (bs : List SourceBlock) (terms : Option (List Term)) : Type 0 where
  typed : List TypedBlock
  checks : Gives (all_checked (map (checked_block t) (blocks_in_order (map numbered_block bs) s).value)) typed
  are : all_some (map block_term typed) ≡ terms
  declared : (d : ℕ) → declared_domains d bs ≡ nothing

pub no_block_fits : (t : Tables) (s : Scope) → FitAll t s [] (Some [])
no_block_fits t s = record { typed = []; checks = refl; are = refl; declared = λ d. refl }

pub block_then_fits : (t : Tables) (s : Scope) (at : ℕ) (ss : List SourceStmt) (us : List Term) (bs : List SourceBlock) (ts : List Term) → closes s → Fit t s ss us → FitAll t s bs (Some ts) → FitAll t s (block_at at ss ∷ bs) (Some (block_of at us ∷ ts))
block_then_fits t s at ss us bs ts c r b =
    let n = numbered_block_at at (stmts_in_order (map numbered_stmt ss) s).value in
    record {
      typed = typed_block_at at r.typed ∷ b.typed;
      checks =
          ap (λ (m : Numbered NumberedBlock). all_checked (map (checked_block t) (m.value ∷ (blocks_in_order (map numbered_block bs) m.scope).value))) (block_numbered at s ss r.same c)
          ∙ both_given (checked_block t n) (typed_block_at at r.typed) (all_checked (map (checked_block t) (blocks_in_order (map numbered_block bs) s).value)) b.typed (block_given t at (stmts_in_order (map numbered_stmt ss) s).value r.typed r.checks) b.checks;
      are = all_more (block_term (typed_block_at at r.typed)) (map block_term b.typed) (block_of at us) ts (block_made at r.typed us r.terms) b.are;
      declared = λ d. ap (λ x. both x (declared_domains (suc d) bs)) (block_declares d at ss (r.declared d)) ∙ ap (both nothing) (b.declared (suc d));
    }

-- a domain whose statement has no term
pub halting_block_fits : (t : Tables) (s : Scope) (at halt_at : ℕ) → closes s → FitAll t s (block_at at (stmt_at halt_at form.Halt ∷ []) ∷ []) None
unfolding form_made
halting_block_fits t s at halt_at c =
    let ss = stmt_at halt_at form.Halt ∷ [] in
    let n : numbered_stmt (stmt_at halt_at form.Halt) s ≡ with_scope (numbered_at halt_at form.Halt) s =
    numbers_at halt_at form.Halt s form.Halt (ap (λ (p : FormPart). p s) (ap numbered_form (sym rolls-Halt) ∙ fold-roll-Form Name (Raw Name) FormPart BlockPart StmtPart numbered_form_layer numbered_block_layer numbered_stmt_layer Form-F.Halt)) in
    let g : Gives (checked_stmt t (numbered_at halt_at form.Halt)) (typed_at halt_at form.Halt) =
    gives_at t halt_at form.Halt form.Halt (ap (checked_form t) (sym rolls-Halt) ∙ fold-roll-Form ℕ (Raw TableEntry) (Checked TypedForm) (Checked TypedBlock) (Checked TypedStmt) (form_layer t) block_layer stmt_layer Form-F.Halt) in
    let none : stmt_term (typed_at halt_at form.Halt) ≡ None =
    fold_out-Stmt ℕ Expr (ℕ → Option Term) (Option Term) (Option Term) form_term lowering.block_layer lowering.stmt_layer (typed_at halt_at form.Halt)
    ∙ ap (λ (f : ℕ → Option Term). f halt_at) (ap form_made (sym rolls-Halt) ∙ fold-roll-Form ℕ Expr (ℕ → Option Term) (Option Term) (Option Term) form_term lowering.block_layer lowering.stmt_layer Form-F.Halt) in
    let same = ap (λ (m : Numbered NumberedStmt). m.scope) n in
    let value = ap (λ (m : Numbered NumberedStmt). m.value ∷ []) n in
    record {
      typed = typed_block_at at (typed_at halt_at form.Halt ∷ []) ∷ [];
      checks =
          ap (λ (m : Numbered NumberedBlock). all_checked (map (checked_block t) (m.value ∷ []))) (block_numbered at s ss same c)
          ∙ ap (λ ns. all_checked (map (checked_block t) (numbered_block_at at ns ∷ []))) value
          ∙ both_given (checked_block t (numbered_block_at at (numbered_at halt_at form.Halt ∷ []))) (typed_block_at at (typed_at halt_at form.Halt ∷ [])) (fine []) []
          (block_given t at (numbered_at halt_at form.Halt ∷ []) (typed_at halt_at form.Halt ∷ []) (both_given (checked_stmt t (numbered_at halt_at form.Halt)) (typed_at halt_at form.Halt) (fine []) [] g refl)) refl;
      are =
          ap (λ o. all_some (o ∷ []))
          (fold-roll-Block ℕ Expr (ℕ → Option Term) (Option Term) (Option Term) form_term lowering.block_layer lowering.stmt_layer (record { at = at; statements = typed_at halt_at form.Halt ∷ [] })
          ∙ ap (λ o. option_map (block_of at) (all_some (o ∷ []))) none);
      declared = λ d.
          ap (λ x. both x nothing)
          (block_declares d at ss
          (ap (λ x. both x nothing) (declared_at d halt_at form.Halt (ap (declared_form d) (sym rolls-Halt) ∙ fold-roll-Form Name (Raw Name) Declared Declared Declared (declared_form_layer d) declared_block_layer declared_stmt_layer Form-F.Halt))));
    }

-- the tree

abbrev pub scope_of_ports : SourceTree → Scope
scope_of_ports tree = (numbered_ports tree.ports no_names).scope

-- nothing is wrong with its kinds, its program has these terms where the tables are built, and its domains declare nothing
pub record FitTree (tree : SourceTree) (terms : Option (List Term)) : Type 0 where
  pub typed : kind_failures tree ≡ []
  pub program : program_of tree ≡ cond (tables_are_built (tables_of_tree tree)) (option_map (with_terms (tables_of_tree tree)) terms) None
  pub declared : declared_domains 0 tree.domains ≡ nothing

checked_source_is : (tree : SourceTree) (bs : List TypedBlock) → flat_map port_failures (numbered_ports tree.ports no_names).value ≡ []
    → Gives (all_checked (map (checked_block (tables_of_tree tree)) (blocks_in_order (map numbered_block tree.domains) (scope_of_ports tree)).value)) bs → Gives (checked_source tree) (with_domains (numbered_ports tree.ports no_names).value bs)
checked_source_is tree bs p h =
    ap (λ fs. after fs (map1 (with_domains (numbered_ports tree.ports no_names).value) (all_checked (map (checked_block (tables_of_tree tree)) (blocks_in_order (map numbered_block tree.domains) (scope_of_ports tree)).value)))) p
    ∙ ap (λ c. after [] (map1 (with_domains (numbered_ports tree.ports no_names).value) c)) h

pub tree_fits : (tree : SourceTree) (terms : Option (List Term)) → flat_map port_failures (numbered_ports tree.ports no_names).value ≡ [] → FitAll (tables_of_tree tree) (scope_of_ports tree) tree.domains terms → FitTree tree terms
tree_fits tree terms p f =
    let c = checked_source_is tree f.typed p f.checks in
    record {
      typed = ap (λ (x : Checked TypedTree). x.failures) c;
      program =
          ap (λ (x : Checked TypedTree). lowered_where (tables_of_tree tree) x.value) c
          ∙ ap (λ o. cond (tables_are_built (tables_of_tree tree)) (option_map (with_terms (tables_of_tree tree)) o) None) f.are;
      declared = f.declared 0;
    }

-- its program, where these are its tables and they are built
pub program_is : (tree : SourceTree) (t : Tables) (terms : List Term) → FitTree tree (Some terms) → tables_of_tree tree ≡ t → tables_are_built t ≡ true → program_of tree ≡ Some (with_terms t terms)
program_is tree t terms f e b =
    f.program
    ∙ ap (λ x. cond (tables_are_built x) (Some (with_terms x terms)) None) e
    ∙ ap (λ x. cond x (Some (with_terms t terms)) None) b

pub no_program_is : (tree : SourceTree) (t : Tables) (terms : Option (List Term)) → FitTree tree terms → tables_of_tree tree ≡ t → tables_are_built t ≡ false → program_of tree ≡ None
no_program_is tree t terms f e b =
    f.program
    ∙ ap (λ x. cond (tables_are_built x) (option_map (with_terms x) terms) None) e
    ∙ ap (λ x. cond x (option_map (with_terms t) terms) None) b

abbrev no_program : Option LoweredProgram
no_program = None

either_way : (b : Bool) → cond b no_program no_program ≡ no_program
either_way true = refl
either_way false = refl

pub no_terms_no_program : (tree : SourceTree) → FitTree tree None → program_of tree ≡ None
no_terms_no_program tree f = f.program ∙ either_way (tables_are_built (tables_of_tree tree))
