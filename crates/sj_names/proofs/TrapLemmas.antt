-- The traps of a tree with numbers nest as deep as those of the tree with names.
use Rattle.std.proofs.Common.{◌≡◌, ℕ, ◌&&◌, Bool, true, List, [], ◌∷◌, length, map, max, nat_le, Some, None, ap, refl, sym, ◌∙◌, subst, suc}
use Rattle.std.specs.List.{list_all}
use Rattle.std.proofs.lemmas.List.{length-map}
use Rattle.sj_ast.specs.declared.name.Name.{Name}
use Rattle.sj_ast.specs.declared.expression.Raw.{Raw}
use Rattle.sj_ast.specs.declared.statement.Form as form
use Rattle.sj_ast.specs.declared.statement.Form.TheVariants as form_is
use Rattle.sj_ast.specs.declared.statement.Block as block
use Rattle.sj_ast.specs.declared.statement.Stmt as stmt
use Rattle.sj_ast.specs.declared.statement.Form.TheOpen.{Form-F, Block-F, Stmt-F}
use Rattle.sj_ast.specs.declared.statement.Form.TheFolds.{fold-roll-Form, fold-roll-Block, fold-roll-Stmt, ind-Block}
use Rattle.sj_ast.specs.declared.statement.Tree.{Tree}
use Rattle.sj_names.specs.declared.entry.TableEntry.{TableEntry}
use Rattle.sj_names.specs.declared.mention.NameSort.TheVariants as sort
use Rattle.sj_names.specs.declared.mention.Role.TheVariants as role
use Rattle.sj_names.specs.definitions.Scopes.{Scope, no_names, declare}
use Rattle.sj_names.specs.definitions.NumberedTrees.{NumberedForm, NumberedBlock, NumberedStmt, BlockPart, StmtPart, FormPart, number_of, numbered_expression, numbered_test, numbered_value, numbered_signal, blocks_in_order, stmts_in_order, closed_block, numbered_form_layer, numbered_block_layer, numbered_stmt_layer, numbered_form, numbered_block, numbered_stmt, numbered_ports, numbered_tree}
use Rattle.sj_names.specs.definitions.NestedTraps.{deepest, form_depth_layer, block_depth_layer, stmt_depth_layer, form_trap_depth, block_trap_depth, stmt_trap_depth, traps_nest}
use Rattle.sj_names.proofs.DomainEntries.{SourceForm, SourceBlock, SourceStmt}

-- so many domains
counted : (bs : List BlockPart) (s : Scope) → length (blocks_in_order bs s).value ≡ length bs
counted [] s = refl
counted (b ∷ bs) s = ap suc (counted bs (b s).scope)

pub as_many_domains : (tree : Tree Name (Raw Name)) → length (numbered_tree tree).domains ≡ length tree.domains
as_many_domains tree = counted (map numbered_block tree.domains) (numbered_ports tree.ports no_names).scope ∙ length-map tree.domains numbered_block

-- The depths of parts are the same, whatever is visible before them.

abbrev OfForm : SourceForm → Type 0
OfForm f = (s : Scope) → form_trap_depth (numbered_form f s).value ≡ form_trap_depth f

abbrev OfBlock : SourceBlock → Type 0
OfBlock b = (s : Scope) → block_trap_depth (numbered_block b s).value ≡ block_trap_depth b

abbrev OfStmt : SourceStmt → Type 0
OfStmt x = (s : Scope) → stmt_trap_depth (numbered_stmt x s).value ≡ stmt_trap_depth x

abbrev ProvedForm : Type 0
ProvedForm = (f : SourceForm) × OfForm f

abbrev ProvedBlock : Type 0
ProvedBlock = (b : SourceBlock) × OfBlock b

abbrev ProvedStmt : Type 0
ProvedStmt = (x : SourceStmt) × OfStmt x

abbrev blocks_of : List ProvedBlock → List SourceBlock
blocks_of = map (λ b. b.0)

abbrev stmts_of : List ProvedStmt → List SourceStmt
stmts_of = map (λ x. x.0)

both : (a b c d : ℕ) → a ≡ c → b ≡ d → max a b ≡ max c d
both a b c d e f = ap (λ n. max n b) e ∙ ap (max c) f

all_blocks : (bs : List ProvedBlock) (s : Scope) → deepest (map block_trap_depth (blocks_in_order (map numbered_block (blocks_of bs)) s).value) ≡ deepest (map block_trap_depth (blocks_of bs))
all_blocks [] s = refl
all_blocks (b ∷ bs) s =
    let r = (blocks_in_order (map numbered_block (blocks_of bs)) (numbered_block b.0 s).scope).value in
    both (block_trap_depth (numbered_block b.0 s).value) (deepest (map block_trap_depth r)) (block_trap_depth b.0) (deepest (map block_trap_depth (blocks_of bs))) (b.1 s) (all_blocks bs (numbered_block b.0 s).scope)

all_stmts : (xs : List ProvedStmt) (s : Scope) → deepest (map stmt_trap_depth (stmts_in_order (map numbered_stmt (stmts_of xs)) s).value) ≡ deepest (map stmt_trap_depth (stmts_of xs))
all_stmts [] s = refl
all_stmts (x ∷ xs) s =
    let r = (stmts_in_order (map numbered_stmt (stmts_of xs)) (numbered_stmt x.0 s).scope).value in
    both (stmt_trap_depth (numbered_stmt x.0 s).value) (deepest (map stmt_trap_depth r)) (stmt_trap_depth x.0) (deepest (map stmt_trap_depth (stmts_of xs))) (x.1 s) (all_stmts xs (numbered_stmt x.0 s).scope)

-- a form by its layer

abbrev SourceLayer : Type 0
SourceLayer = Form-F Name (Raw Name) SourceForm SourceBlock SourceStmt

abbrev Layer : Type 0
Layer = Form-F ℕ (Raw TableEntry) NumberedForm NumberedBlock NumberedStmt

abbrev numbered_of : SourceLayer → Form-F Name (Raw Name) FormPart BlockPart StmtPart
numbered_of = form.map-Form Name (Raw Name) SourceForm SourceBlock SourceStmt FormPart BlockPart StmtPart numbered_form numbered_block numbered_stmt

abbrev source_depth : SourceLayer → ℕ
source_depth z = form_depth_layer (form.map-Form Name (Raw Name) SourceForm SourceBlock SourceStmt ℕ ℕ ℕ form_trap_depth block_trap_depth stmt_trap_depth z)

abbrev depth : Layer → ℕ
depth z = form_depth_layer (form.map-Form ℕ (Raw TableEntry) NumberedForm NumberedBlock NumberedStmt ℕ ℕ ℕ form_trap_depth block_trap_depth stmt_trap_depth z)

-- the value that the layer has is that of another layer, whose parts are as deep
form_by : (z : SourceLayer) (l : Scope → Layer) → ((s : Scope) → form.roll-Form ℕ (Raw TableEntry) (l s) ≡ (numbered_form_layer (numbered_of z) s).value) → ((s : Scope) → depth (l s) ≡ source_depth z) → OfForm (form.roll-Form Name (Raw Name) z)
form_by z l r e s =
    ap (λ (q : FormPart). form_trap_depth (q s).value) (fold-roll-Form Name (Raw Name) FormPart BlockPart StmtPart numbered_form_layer numbered_block_layer numbered_stmt_layer z)
    ∙ ap form_trap_depth (sym (r s))
    ∙ fold-roll-Form ℕ (Raw TableEntry) ℕ ℕ ℕ form_depth_layer block_depth_layer stmt_depth_layer (l s)
    ∙ e s
    ∙ sym (fold-roll-Form Name (Raw Name) ℕ ℕ ℕ form_depth_layer block_depth_layer stmt_depth_layer z)

abbrev plain_of : Form-F Name (Raw Name) ProvedForm ProvedBlock ProvedStmt → SourceLayer
plain_of = form.map-Form Name (Raw Name) ProvedForm ProvedBlock ProvedStmt SourceForm SourceBlock SourceStmt (λ f. f.0) (λ b. b.0) (λ x. x.0)

two : (b c : ProvedBlock) (s : Scope) → max (block_trap_depth (numbered_block b.0 s).value) (block_trap_depth (numbered_block c.0 (numbered_block b.0 s).scope).value) ≡ max (block_trap_depth b.0) (block_trap_depth c.0)
two b c s = both (block_trap_depth (numbered_block b.0 s).value) (block_trap_depth (numbered_block c.0 (numbered_block b.0 s).scope).value) (block_trap_depth b.0) (block_trap_depth c.0) (b.1 s) (c.1 (numbered_block b.0 s).scope)

form_step : (y : Form-F Name (Raw Name) ProvedForm ProvedBlock ProvedStmt) → OfForm (form.roll-Form Name (Raw Name) (plain_of y))
form_step Form-F.Empty = form_by Form-F.Empty (λ s. Form-F.Empty) (λ s. form_is.rolls-Empty) (λ s. refl)
form_step (Form-F.Par first others) =
    form_by (Form-F.Par first.0 (blocks_of others)) (λ s. Form-F.Par (numbered_block first.0 s).value (blocks_in_order (map numbered_block (blocks_of others)) (numbered_block first.0 s).scope).value)
    (λ s. form_is.rolls-Par (numbered_block first.0 s).value (blocks_in_order (map numbered_block (blocks_of others)) (numbered_block first.0 s).scope).value)
    (λ s. both (block_trap_depth (numbered_block first.0 s).value) (deepest (map block_trap_depth (blocks_in_order (map numbered_block (blocks_of others)) (numbered_block first.0 s).scope).value)) (block_trap_depth first.0) (deepest (map block_trap_depth (blocks_of others))) (first.1 s)
    (all_blocks others (numbered_block first.0 s).scope))
form_step Form-F.Pause = form_by Form-F.Pause (λ s. Form-F.Pause) (λ s. form_is.rolls-Pause) (λ s. refl)
form_step Form-F.Halt = form_by Form-F.Halt (λ s. Form-F.Halt) (λ s. form_is.rolls-Halt) (λ s. refl)
form_step (Form-F.Emit at name value) = form_by (Form-F.Emit at name value) (λ s. Form-F.Emit at (number_of role.Emit name s) (numbered_value value s)) (λ s. form_is.rolls-Emit at (number_of role.Emit name s) (numbered_value value s)) (λ s. refl)
form_step (Form-F.Sustain at name value) = form_by (Form-F.Sustain at name value) (λ s. Form-F.Sustain at (number_of role.Emit name s) (numbered_value value s)) (λ s. form_is.rolls-Sustain at (number_of role.Emit name s) (numbered_value value s)) (λ s. refl)
form_step (Form-F.Declare signal) = form_by (Form-F.Declare signal) (λ s. Form-F.Declare (numbered_signal sort.Local signal s)) (λ s. form_is.rolls-Declare (numbered_signal sort.Local signal s)) (λ s. refl)
form_step (Form-F.Variable k at name value) =
    form_by (Form-F.Variable k at name value) (λ s. Form-F.Variable k at (number_of (role.Declare sort.Variable) name s) (numbered_expression value s)) (λ s. form_is.rolls-Variable k at (number_of (role.Declare sort.Variable) name s) (numbered_expression value s)) (λ s. refl)
form_step (Form-F.Assign at name value) = form_by (Form-F.Assign at name value) (λ s. Form-F.Assign at (number_of role.Variable name s) (numbered_expression value s)) (λ s. form_is.rolls-Assign at (number_of role.Variable name s) (numbered_expression value s)) (λ s. refl)
form_step (Form-F.Update at name sign_at op value) =
    form_by (Form-F.Update at name sign_at op value) (λ s. Form-F.Update at (number_of role.Variable name s) sign_at op (numbered_expression value s)) (λ s. form_is.rolls-Update at (number_of role.Variable name s) sign_at op (numbered_expression value s)) (λ s. refl)
form_step (Form-F.If cond first None) =
    form_by (Form-F.If cond first.0 None) (λ s. Form-F.If (numbered_expression cond s) (numbered_block first.0 s).value None) (λ s. form_is.rolls-If (numbered_expression cond s) (numbered_block first.0 s).value None) (λ s. ap (λ n. max n 0) (first.1 s))
form_step (Form-F.If cond first (Some other)) =
    form_by (Form-F.If cond first.0 (Some other.0)) (λ s. Form-F.If (numbered_expression cond s) (numbered_block first.0 s).value (Some (numbered_block other.0 (numbered_block first.0 s).scope).value))
    (λ s. form_is.rolls-If (numbered_expression cond s) (numbered_block first.0 s).value (Some (numbered_block other.0 (numbered_block first.0 s).scope).value)) (λ s. two first other s)
form_step (Form-F.Present test first None) =
    form_by (Form-F.Present test first.0 None) (λ s. Form-F.Present (numbered_test test s) (numbered_block first.0 s).value None) (λ s. form_is.rolls-Present (numbered_test test s) (numbered_block first.0 s).value None) (λ s. ap (λ n. max n 0) (first.1 s))
form_step (Form-F.Present test first (Some other)) =
    form_by (Form-F.Present test first.0 (Some other.0)) (λ s. Form-F.Present (numbered_test test s) (numbered_block first.0 s).value (Some (numbered_block other.0 (numbered_block first.0 s).scope).value))
    (λ s. form_is.rolls-Present (numbered_test test s) (numbered_block first.0 s).value (Some (numbered_block other.0 (numbered_block first.0 s).scope).value)) (λ s. two first other s)
form_step (Form-F.While body) = form_by (Form-F.While body.0) (λ s. Form-F.While (numbered_block body.0 s).value) (λ s. form_is.rolls-While (numbered_block body.0 s).value) body.1
form_step (Form-F.Abort weak immediate test body) =
    form_by (Form-F.Abort weak immediate test body.0) (λ s. Form-F.Abort weak immediate (numbered_test test s) (numbered_block body.0 s).value) (λ s. form_is.rolls-Abort weak immediate (numbered_test test s) (numbered_block body.0 s).value) body.1
form_step (Form-F.Suspend immediate test body) =
    form_by (Form-F.Suspend immediate test body.0) (λ s. Form-F.Suspend immediate (numbered_test test s) (numbered_block body.0 s).value) (λ s. form_is.rolls-Suspend immediate (numbered_test test s) (numbered_block body.0 s).value) body.1
form_step (Form-F.Trap at name body) =
    form_by (Form-F.Trap at name body.0) (λ s. Form-F.Trap at (number_of (role.Declare sort.Trap) name s) (numbered_block body.0 (declare sort.Trap name.text s)).value)
    (λ s. form_is.rolls-Trap at (number_of (role.Declare sort.Trap) name s) (numbered_block body.0 (declare sort.Trap name.text s)).value) (λ s. ap suc (body.1 (declare sort.Trap name.text s)))
form_step (Form-F.Exit at name) = form_by (Form-F.Exit at name) (λ s. Form-F.Exit at (number_of role.Exit name s)) (λ s. form_is.rolls-Exit at (number_of role.Exit name s)) (λ s. refl)
form_step (Form-F.Send at name value) = form_by (Form-F.Send at name value) (λ s. Form-F.Send at (number_of role.Send name s) (numbered_expression value s)) (λ s. form_is.rolls-Send at (number_of role.Send name s) (numbered_expression value s)) (λ s. refl)
form_step (Form-F.Receive at name) = form_by (Form-F.Receive at name) (λ s. Form-F.Receive at (number_of role.Receive name s)) (λ s. form_is.rolls-Receive at (number_of role.Receive name s)) (λ s. refl)
form_step (Form-F.Await immediate test) = form_by (Form-F.Await immediate test) (λ s. Form-F.Await immediate (numbered_test test s)) (λ s. form_is.rolls-Await immediate (numbered_test test s)) (λ s. refl)
form_step (Form-F.Every immediate test body) =
    form_by (Form-F.Every immediate test body.0) (λ s. Form-F.Every immediate (numbered_test test s) (numbered_block body.0 s).value) (λ s. form_is.rolls-Every immediate (numbered_test test s) (numbered_block body.0 s).value) body.1
form_step (Form-F.Loop body test) =
    form_by (Form-F.Loop body.0 test) (λ s. Form-F.Loop (numbered_block body.0 s).value (numbered_test test (numbered_block body.0 s).scope)) (λ s. form_is.rolls-Loop (numbered_block body.0 s).value (numbered_test test (numbered_block body.0 s).scope)) body.1

block_of : (y : Block-F Name (Raw Name) ProvedForm ProvedBlock ProvedStmt) → OfBlock (block.roll-Block Name (Raw Name) (block.map-Block Name (Raw Name) ProvedForm ProvedBlock ProvedStmt SourceForm SourceBlock SourceStmt (λ f. f.0) (λ b. b.0) (λ x. x.0) y))
block_of y s =
    let z = block.map-Block Name (Raw Name) ProvedForm ProvedBlock ProvedStmt SourceForm SourceBlock SourceStmt (λ f. f.0) (λ b. b.0) (λ x. x.0) y in
    ap (λ (q : BlockPart). block_trap_depth (q s).value) (fold-roll-Block Name (Raw Name) FormPart BlockPart StmtPart numbered_form_layer numbered_block_layer numbered_stmt_layer z)
    ∙ fold-roll-Block ℕ (Raw TableEntry) ℕ ℕ ℕ form_depth_layer block_depth_layer stmt_depth_layer (record { at = y.at; statements = (stmts_in_order (map numbered_stmt (stmts_of y.statements)) s).value })
    ∙ all_stmts y.statements s
    ∙ sym (fold-roll-Block Name (Raw Name) ℕ ℕ ℕ form_depth_layer block_depth_layer stmt_depth_layer z)

stmt_of : (y : Stmt-F Name (Raw Name) ProvedForm ProvedBlock ProvedStmt) → OfStmt (stmt.roll-Stmt Name (Raw Name) (stmt.map-Stmt Name (Raw Name) ProvedForm ProvedBlock ProvedStmt SourceForm SourceBlock SourceStmt (λ f. f.0) (λ b. b.0) (λ x. x.0) y))
stmt_of y s =
    let z = stmt.map-Stmt Name (Raw Name) ProvedForm ProvedBlock ProvedStmt SourceForm SourceBlock SourceStmt (λ f. f.0) (λ b. b.0) (λ x. x.0) y in
    ap (λ (q : StmtPart). stmt_trap_depth (q s).value) (fold-roll-Stmt Name (Raw Name) FormPart BlockPart StmtPart numbered_form_layer numbered_block_layer numbered_stmt_layer z)
    ∙ fold-roll-Stmt ℕ (Raw TableEntry) ℕ ℕ ℕ form_depth_layer block_depth_layer stmt_depth_layer (record { at = y.at; form = (numbered_form y.form.0 s).value })
    ∙ y.form.1 s
    ∙ sym (fold-roll-Stmt Name (Raw Name) ℕ ℕ ℕ form_depth_layer block_depth_layer stmt_depth_layer z)

block_as_deep : (b : SourceBlock) → OfBlock b
block_as_deep =
    ind-Block Name (Raw Name) OfForm OfBlock OfStmt (λ x y is. subst (λ z. OfForm (form.roll-Form Name (Raw Name) z)) is (form_step y)) (λ x y is. subst (λ z. OfBlock (block.roll-Block Name (Raw Name) z)) is (block_of y))
    (λ x y is. subst (λ z. OfStmt (stmt.roll-Stmt Name (Raw Name) z)) is (stmt_of y))

domains_nest : (most : ℕ) (bs : List SourceBlock) (s : Scope)
    → list_all (λ b. nat_le (block_trap_depth b) most) (blocks_in_order (map numbered_block bs) s).value ≡ list_all (λ b. nat_le (block_trap_depth b) most) bs
domains_nest most [] s = refl
domains_nest most (b ∷ bs) s =
    ap (λ n. nat_le n most && list_all (λ c. nat_le (block_trap_depth c) most) (blocks_in_order (map numbered_block bs) (numbered_block b s).scope).value) (block_as_deep b s)
    ∙ ap (λ r. nat_le (block_trap_depth b) most && r) (domains_nest most bs (numbered_block b s).scope)

pub traps_as_deep : (most : ℕ) (tree : Tree Name (Raw Name)) → traps_nest most (numbered_tree tree) ≡ traps_nest most tree
traps_as_deep most tree = domains_nest most tree.domains (numbered_ports tree.ports no_names).scope
