-- Forms that have no expression, and where a condition or a block behind it fails.
use Rattle.std.proofs.Common.{◌≡◌, ℕ, Bool, Option, ap, sym, ◌∙◌}
use Rattle.kernel_terms.specs.declared.expr.Expr.{Expr}
use Rattle.kernel_terms.specs.declared.tables.Tables.{Tables}
use Rattle.sj_ast.specs.declared.expression.Raw.{Raw}
use Rattle.sj_ast.specs.declared.test.Test.{Test}
use Rattle.sj_ast.specs.declared.statement.Block.{Block}
use Rattle.sj_ast.specs.declared.statement.Form as form
use Rattle.sj_ast.specs.declared.statement.Form.TheOpen.{Form-F}
use Rattle.sj_ast.specs.declared.statement.Form.TheFolds.{fold-roll-Form}
use Rattle.sj_ast.specs.declared.statement.Form.TheVariants.{rolls-Exit, rolls-Receive, rolls-Await, rolls-If}
use Rattle.sj_names.specs.declared.entry.TableEntry.{TableEntry}
use Rattle.java_types.specs.declared.failure.TypeError.{TypeError}
use Rattle.java_types.specs.definitions.Checks.{Checked, fine, map2, map3, IsFirst}
use Rattle.java_types.specs.definitions.TypedTrees.{TypedForm, TypedBlock, TypedStmt, condition_of, form_layer, block_layer, stmt_layer, checked_form, checked_block}
use Rattle.java_types.proofs.CheckLemmas.{fails_left, fails_right, same_first}

pub is_exit : (t : Tables) (f : form.Form ℕ (Raw TableEntry)) (at n : ℕ) → f ≡ form.Exit at n → checked_form t f ≡ fine (form.Exit at n)
is_exit t f at n h = ap (checked_form t) (h ∙ sym (rolls-Exit at n)) ∙ fold-roll-Form ℕ (Raw TableEntry) (Checked TypedForm) (Checked TypedBlock) (Checked TypedStmt) (form_layer t) block_layer stmt_layer (Form-F.Exit at n)

pub is_receive : (t : Tables) (f : form.Form ℕ (Raw TableEntry)) (at n : ℕ) → f ≡ form.Receive at n → checked_form t f ≡ fine (form.Receive at n)
is_receive t f at n h = ap (checked_form t) (h ∙ sym (rolls-Receive at n)) ∙ fold-roll-Form ℕ (Raw TableEntry) (Checked TypedForm) (Checked TypedBlock) (Checked TypedStmt) (form_layer t) block_layer stmt_layer (Form-F.Receive at n)

pub is_await : (t : Tables) (f : form.Form ℕ (Raw TableEntry)) (immediate : Bool) (test : Test ℕ) → f ≡ form.Await immediate test → checked_form t f ≡ fine (form.Await immediate test)
is_await t f i u h = ap (checked_form t) (h ∙ sym (rolls-Await i u)) ∙ fold-roll-Form ℕ (Raw TableEntry) (Checked TypedForm) (Checked TypedBlock) (Checked TypedStmt) (form_layer t) block_layer stmt_layer (Form-F.Await i u)

-- a choice, with what is said of its second branch
record Choice (t : Tables) (f : form.Form ℕ (Raw TableEntry)) (c : Raw TableEntry) (b : Block ℕ (Raw TableEntry)) : Type 0 where
  other : Checked (Option TypedBlock)
  is : checked_form t f ≡ map3 form.If (condition_of t c) (checked_block t b) other

is_if : (t : Tables) (f : form.Form ℕ (Raw TableEntry)) (c : Raw TableEntry) (b : Block ℕ (Raw TableEntry)) (o : Option (Block ℕ (Raw TableEntry))) → f ≡ form.If c b o → Choice t f c b
is_if t f c b o h =
    record { other = _; is = ap (checked_form t) (h ∙ sym (rolls-If c b o)) ∙ fold-roll-Form ℕ (Raw TableEntry) (Checked TypedForm) (Checked TypedBlock) (Checked TypedStmt) (form_layer t) block_layer stmt_layer (Form-F.If c b o) }

pub condition_fails : (t : Tables) (f : form.Form ℕ (Raw TableEntry)) (c : Raw TableEntry) (b : Block ℕ (Raw TableEntry)) (o : Option (Block ℕ (Raw TableEntry))) (e : TypeError)
    → f ≡ form.If c b o → IsFirst (condition_of t c) e → IsFirst (checked_form t f) e
condition_fails t f c b o e h i =
    let choice = is_if t f c b o h in
    same_first (checked_form t f) (map3 form.If (condition_of t c) (checked_block t b) choice.other) e choice.is
    (fails_left (λ g z. g z) (map2 form.If (condition_of t c) (checked_block t b)) choice.other e (fails_left form.If (condition_of t c) (checked_block t b) e i))

pub branch_fails : (t : Tables) (f : form.Form ℕ (Raw TableEntry)) (c : Raw TableEntry) (b : Block ℕ (Raw TableEntry)) (o : Option (Block ℕ (Raw TableEntry))) (x : Expr) (e : TypeError)
    → f ≡ form.If c b o → condition_of t c ≡ fine x → IsFirst (checked_block t b) e → IsFirst (checked_form t f) e
branch_fails t f c b o x e h k i =
    let choice = is_if t f c b o h in
    same_first (checked_form t f) (map3 form.If (condition_of t c) (checked_block t b) choice.other) e choice.is
    (fails_left (λ g z. g z) (map2 form.If (condition_of t c) (checked_block t b)) choice.other e (fails_right form.If (condition_of t c) (checked_block t b) e (ap (λ (d : Checked Expr). d.failures) k) i))
