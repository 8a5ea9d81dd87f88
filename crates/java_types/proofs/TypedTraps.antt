-- A tree with kinds has as many domains as the tree that it is typed from, and its traps nest as deep.
use Rattle.std.proofs.Common.{◌≡◌, ℕ, suc, max, nat_le, Bool, true, ◌&&◌, List, [], ◌∷◌, length, map, Option, Some, None, ap, refl, sym, ◌∙◌, subst}
use Rattle.std.specs.Prelude.{option_map}
use Rattle.std.specs.List.{flat_map, list_all}
use Rattle.kernel_terms.specs.declared.expr.Expr.{Expr}
use Rattle.kernel_terms.specs.declared.tables.Tables.{Tables}
use Rattle.kernel_terms.specs.TableEntries.{channel_at, variable_at}
use Rattle.sj_ast.specs.declared.expression.Raw.{Raw}
use Rattle.sj_ast.specs.declared.statement.Form as form
use Rattle.sj_ast.specs.declared.statement.Block as block
use Rattle.sj_ast.specs.declared.statement.Stmt as stmt
use Rattle.sj_ast.specs.declared.statement.Form.TheOpen.{Form-F, Block-F, Stmt-F}
use Rattle.sj_ast.specs.declared.statement.Form.TheFolds.{fold-roll-Form, fold-roll-Block, fold-roll-Stmt, ind-Block}
use Rattle.sj_ast.specs.declared.statement.Form.TheVariants.{rolls-Abort, rolls-Assign, rolls-Await, rolls-Declare, rolls-Emit, rolls-Empty, rolls-Every, rolls-Exit, rolls-Halt, rolls-If, rolls-Loop, rolls-Par, rolls-Pause, rolls-Present, rolls-Receive, rolls-Send, rolls-Suspend, rolls-Sustain, rolls-Trap, rolls-Variable, rolls-While}
use Rattle.sj_ast.specs.declared.statement.Tree.{Tree}
use Rattle.sj_names.specs.declared.entry.TableEntry.{TableEntry}
use Rattle.sj_names.specs.definitions.NestedTraps.{deepest, depth_where_given, form_depth_layer, block_depth_layer, stmt_depth_layer, form_trap_depth, block_trap_depth, stmt_trap_depth, traps_nest}
use Rattle.java_types.specs.definitions.Checks.{Checked, fine, map1, map2, all_checked, where_given}
use Rattle.java_types.specs.definitions.TypedTrees.{TypedForm, TypedBlock, TypedStmt, TypedTree, emission_of, value_for, condition_of, update_of, form_layer, block_layer, stmt_layer, block_at, stmt_at, checked_form, checked_block, checked_stmt, port_failures, with_domains, checked_tree}
use Rattle.java_types.proofs.CheckParts.{Gives, given_fine, given_map, given_both, some_is, second_nil}
use Rattle.java_types.proofs.FormLayers.{map_twice, layers_twice}

abbrev SourceForm : Type 0
SourceForm = form.Form ℕ (Raw TableEntry)

abbrev SourceBlock : Type 0
SourceBlock = block.Block ℕ (Raw TableEntry)

abbrev SourceStmt : Type 0
SourceStmt = stmt.Stmt ℕ (Raw TableEntry)

two_depths : (a b c d : ℕ) → a ≡ c → b ≡ d → max a b ≡ max c d
two_depths a b c d e f = ap (λ n. max n b) e ∙ ap (max c) f

abbrev depths : Form-F ℕ Expr TypedForm TypedBlock TypedStmt → ℕ
depths z = form_depth_layer (form.map-Form ℕ Expr TypedForm TypedBlock TypedStmt ℕ ℕ ℕ form_trap_depth block_trap_depth stmt_trap_depth z)

typed_depth : (z : Form-F ℕ Expr TypedForm TypedBlock TypedStmt) (w v : TypedForm) → v ≡ w → form.roll-Form ℕ Expr z ≡ w → form_trap_depth v ≡ depths z
typed_depth z w v e r = ap form_trap_depth (e ∙ sym r) ∙ fold-roll-Form ℕ Expr ℕ ℕ ℕ form_depth_layer block_depth_layer stmt_depth_layer z

module _ (t : Tables) where
  abbrev OfForm : SourceForm → Type 0
  OfForm f = (v : TypedForm) → Gives (checked_form t f) v → form_trap_depth v ≡ form_trap_depth f

  abbrev OfBlock : SourceBlock → Type 0
  OfBlock b = (v : TypedBlock) → Gives (checked_block t b) v → block_trap_depth v ≡ block_trap_depth b

  abbrev OfStmt : SourceStmt → Type 0
  OfStmt s = (v : TypedStmt) → Gives (checked_stmt t s) v → stmt_trap_depth v ≡ stmt_trap_depth s

  abbrev ProvedForm : Type 0
  ProvedForm = (f : SourceForm) × OfForm f

  abbrev ProvedBlock : Type 0
  ProvedBlock = (b : SourceBlock) × OfBlock b

  abbrev ProvedStmt : Type 0
  ProvedStmt = (s : SourceStmt) × OfStmt s

  -- lists of parts

  blocks_deep : (bs : List ProvedBlock) (vs : List TypedBlock) → Gives (all_checked (map (λ b. checked_block t b.0) bs)) vs → deepest (map block_trap_depth vs) ≡ deepest (map (λ b. block_trap_depth b.0) bs)
  blocks_deep [] vs g = ap (λ (l : List TypedBlock). deepest (map block_trap_depth l)) (given_fine [] vs g)
  blocks_deep (b ∷ bs) vs g =
      let two = given_both (λ x xs. x ∷ xs) (checked_block t b.0) (all_checked (map (λ (c : ProvedBlock). checked_block t c.0) bs)) vs g in
      ap (λ (l : List TypedBlock). deepest (map block_trap_depth l)) two.is
      ∙ two_depths (block_trap_depth two.left) (deepest (map block_trap_depth two.right)) (block_trap_depth b.0) (deepest (map (λ (c : ProvedBlock). block_trap_depth c.0) bs)) (b.1 two.left two.first) (blocks_deep bs two.right two.second)

  stmts_deep : (ss : List ProvedStmt) (vs : List TypedStmt) → Gives (all_checked (map (λ s. checked_stmt t s.0) ss)) vs → deepest (map stmt_trap_depth vs) ≡ deepest (map (λ s. stmt_trap_depth s.0) ss)
  stmts_deep [] vs g = ap (λ (l : List TypedStmt). deepest (map stmt_trap_depth l)) (given_fine [] vs g)
  stmts_deep (s ∷ ss) vs g =
      let two = given_both (λ x xs. x ∷ xs) (checked_stmt t s.0) (all_checked (map (λ (c : ProvedStmt). checked_stmt t c.0) ss)) vs g in
      ap (λ (l : List TypedStmt). deepest (map stmt_trap_depth l)) two.is
      ∙ two_depths (stmt_trap_depth two.left) (deepest (map stmt_trap_depth two.right)) (stmt_trap_depth s.0) (deepest (map (λ (c : ProvedStmt). stmt_trap_depth c.0) ss)) (s.1 two.left two.first) (stmts_deep ss two.right two.second)

  -- one layer

  abbrev checks_of : Form-F ℕ (Raw TableEntry) ProvedForm ProvedBlock ProvedStmt → Form-F ℕ (Raw TableEntry) (Checked TypedForm) (Checked TypedBlock) (Checked TypedStmt)
  checks_of = form.map-Form ℕ (Raw TableEntry) ProvedForm ProvedBlock ProvedStmt (Checked TypedForm) (Checked TypedBlock) (Checked TypedStmt) (λ f. checked_form t f.0) (λ b. checked_block t b.0) (λ s. checked_stmt t s.0)

  abbrev depths_of : Form-F ℕ (Raw TableEntry) ProvedForm ProvedBlock ProvedStmt → Form-F ℕ (Raw TableEntry) ℕ ℕ ℕ
  depths_of = form.map-Form ℕ (Raw TableEntry) ProvedForm ProvedBlock ProvedStmt ℕ ℕ ℕ (λ f. form_trap_depth f.0) (λ b. block_trap_depth b.0) (λ s. stmt_trap_depth s.0)

  abbrev plain_of : Form-F ℕ (Raw TableEntry) ProvedForm ProvedBlock ProvedStmt → Form-F ℕ (Raw TableEntry) SourceForm SourceBlock SourceStmt
  plain_of = form.map-Form ℕ (Raw TableEntry) ProvedForm ProvedBlock ProvedStmt SourceForm SourceBlock SourceStmt (λ f. f.0) (λ b. b.0) (λ s. s.0)

  abbrev Goal : Form-F ℕ (Raw TableEntry) ProvedForm ProvedBlock ProvedStmt → Type 0
  Goal y = (v : TypedForm) → Gives (form_layer t (checks_of y)) v → form_trap_depth v ≡ form_depth_layer (depths_of y)

  form_step : (y : Form-F ℕ (Raw TableEntry) ProvedForm ProvedBlock ProvedStmt) → Goal y
  form_step Form-F.Empty v g = typed_depth Form-F.Empty form.Empty v (given_fine form.Empty v g) rolls-Empty
  form_step Form-F.Pause v g = typed_depth Form-F.Pause form.Pause v (given_fine form.Pause v g) rolls-Pause
  form_step Form-F.Halt v g = typed_depth Form-F.Halt form.Halt v (given_fine form.Halt v g) rolls-Halt
  form_step (Form-F.Exit at n) v g = typed_depth (Form-F.Exit at n) (form.Exit at n) v (given_fine (form.Exit at n) v g) (rolls-Exit at n)
  form_step (Form-F.Receive at n) v g = typed_depth (Form-F.Receive at n) (form.Receive at n) v (given_fine (form.Receive at n) v g) (rolls-Receive at n)
  form_step (Form-F.Await immediate test) v g = typed_depth (Form-F.Await immediate test) (form.Await immediate test) v (given_fine (form.Await immediate test) v g) (rolls-Await immediate test)
  form_step (Form-F.Declare signal) v g = typed_depth (Form-F.Declare signal) (form.Declare signal) v (some_is (form.Declare signal) v g.value) (rolls-Declare signal)
  form_step (Form-F.Emit at n value) v g = let made = given_map (form.Emit at n) (emission_of t at n value) v g in typed_depth (Form-F.Emit at n made.part) (form.Emit at n made.part) v made.is (rolls-Emit at n made.part)
  form_step (Form-F.Sustain at n value) v g = let made = given_map (form.Sustain at n) (emission_of t at n value) v g in typed_depth (Form-F.Sustain at n made.part) (form.Sustain at n made.part) v made.is (rolls-Sustain at n made.part)
  form_step (Form-F.Variable k at n value) v g =
      let made = given_map (form.Variable k at n) (value_for t k value) v g in typed_depth (Form-F.Variable k at n made.part) (form.Variable k at n made.part) v made.is (rolls-Variable k at n made.part)
  form_step (Form-F.Assign at n value) v g =
      let made = given_map (form.Assign at n) (value_for t (variable_at t n).kind value) v g in typed_depth (Form-F.Assign at n made.part) (form.Assign at n made.part) v made.is (rolls-Assign at n made.part)
  form_step (Form-F.Update at n sign_at op value) v g =
      let made = given_map (form.Assign at n) (update_of t n sign_at op value) v g in typed_depth (Form-F.Assign at n made.part) (form.Assign at n made.part) v made.is (rolls-Assign at n made.part)
  form_step (Form-F.Send at n value) v g =
      let made = given_map (form.Send at n) (value_for t (channel_at t n).kind value) v g in typed_depth (Form-F.Send at n made.part) (form.Send at n made.part) v made.is (rolls-Send at n made.part)
  form_step (Form-F.Par first others) v g =
      let two = given_both form.Par (checked_block t first.0) (all_checked (map (λ (b : ProvedBlock). checked_block t b.0) others)) v g in
      typed_depth (Form-F.Par two.left two.right) (form.Par two.left two.right) v two.is (rolls-Par two.left two.right)
      ∙ two_depths (block_trap_depth two.left) (deepest (map block_trap_depth two.right)) (block_trap_depth first.0) (deepest (map (λ (b : ProvedBlock). block_trap_depth b.0) others)) (first.1 two.left two.first) (blocks_deep others two.right two.second)
  form_step (Form-F.If cond first None) v g =
      let outer = given_both (λ f z. f z) (map2 form.If (condition_of t cond) (checked_block t first.0)) (fine None) v g in
      let inner = given_both form.If (condition_of t cond) (checked_block t first.0) outer.left outer.first in
      typed_depth (Form-F.If inner.left inner.right None) (form.If inner.left inner.right None) v (outer.is ∙ ap (λ f. f outer.right) inner.is ∙ ap (form.If inner.left inner.right) (given_fine None outer.right outer.second)) (rolls-If inner.left inner.right None)
      ∙ ap (λ n. max n 0) (first.1 inner.right inner.second)
  form_step (Form-F.If cond first (Some other)) v g =
      let outer = given_both (λ f z. f z) (map2 form.If (condition_of t cond) (checked_block t first.0)) (map1 Some (checked_block t other.0)) v g in
      let inner = given_both form.If (condition_of t cond) (checked_block t first.0) outer.left outer.first in
      let last = given_map Some (checked_block t other.0) outer.right outer.second in
      typed_depth (Form-F.If inner.left inner.right (Some last.part)) (form.If inner.left inner.right (Some last.part)) v (outer.is ∙ ap (λ f. f outer.right) inner.is ∙ ap (form.If inner.left inner.right) last.is) (rolls-If inner.left inner.right (Some last.part))
      ∙ two_depths (block_trap_depth inner.right) (block_trap_depth last.part) (block_trap_depth first.0) (block_trap_depth other.0) (first.1 inner.right inner.second) (other.1 last.part last.gives)
  form_step (Form-F.Present test first None) v g =
      let inner = given_both (form.Present test) (checked_block t first.0) (fine None) v g in
      typed_depth (Form-F.Present test inner.left None) (form.Present test inner.left None) v (inner.is ∙ ap (form.Present test inner.left) (given_fine None inner.right inner.second)) (rolls-Present test inner.left None)
      ∙ ap (λ n. max n 0) (first.1 inner.left inner.first)
  form_step (Form-F.Present test first (Some other)) v g =
      let inner = given_both (form.Present test) (checked_block t first.0) (map1 Some (checked_block t other.0)) v g in
      let last = given_map Some (checked_block t other.0) inner.right inner.second in
      typed_depth (Form-F.Present test inner.left (Some last.part)) (form.Present test inner.left (Some last.part)) v (inner.is ∙ ap (form.Present test inner.left) last.is) (rolls-Present test inner.left (Some last.part))
      ∙ two_depths (block_trap_depth inner.left) (block_trap_depth last.part) (block_trap_depth first.0) (block_trap_depth other.0) (first.1 inner.left inner.first) (other.1 last.part last.gives)
  form_step (Form-F.While body) v g =
      let made = given_map form.While (checked_block t body.0) v g in typed_depth (Form-F.While made.part) (form.While made.part) v made.is (rolls-While made.part) ∙ body.1 made.part made.gives
  form_step (Form-F.Trap at n body) v g =
      let made = given_map (form.Trap at n) (checked_block t body.0) v g in typed_depth (Form-F.Trap at n made.part) (form.Trap at n made.part) v made.is (rolls-Trap at n made.part) ∙ ap suc (body.1 made.part made.gives)
  form_step (Form-F.Abort weak immediate test body) v g =
      let made = given_map (form.Abort weak immediate test) (checked_block t body.0) v g in
      typed_depth (Form-F.Abort weak immediate test made.part) (form.Abort weak immediate test made.part) v made.is (rolls-Abort weak immediate test made.part) ∙ body.1 made.part made.gives
  form_step (Form-F.Suspend immediate test body) v g =
      let made = given_map (form.Suspend immediate test) (checked_block t body.0) v g in
      typed_depth (Form-F.Suspend immediate test made.part) (form.Suspend immediate test made.part) v made.is (rolls-Suspend immediate test made.part) ∙ body.1 made.part made.gives
  form_step (Form-F.Every immediate test body) v g =
      let made = given_map (form.Every immediate test) (checked_block t body.0) v g in
      typed_depth (Form-F.Every immediate test made.part) (form.Every immediate test made.part) v made.is (rolls-Every immediate test made.part) ∙ body.1 made.part made.gives
  form_step (Form-F.Loop body test) v g =
      let made = given_map (λ b. form.Loop b test) (checked_block t body.0) v g in typed_depth (Form-F.Loop made.part test) (form.Loop made.part test) v made.is (rolls-Loop made.part test) ∙ body.1 made.part made.gives

  -- all layers

  form_of : (y : Form-F ℕ (Raw TableEntry) ProvedForm ProvedBlock ProvedStmt) → OfForm (form.roll-Form ℕ (Raw TableEntry) (plain_of y))
  form_of y v g =
      let check = fold-roll-Form ℕ (Raw TableEntry) (Checked TypedForm) (Checked TypedBlock) (Checked TypedStmt) (form_layer t) block_layer stmt_layer (plain_of y)
      ∙ ap (form_layer t) (layers_twice (λ (f : ProvedForm). f.0) (λ (b : ProvedBlock). b.0) (λ (s : ProvedStmt). s.0) (checked_form t) (checked_block t) (checked_stmt t) y) in
      let deep = fold-roll-Form ℕ (Raw TableEntry) ℕ ℕ ℕ form_depth_layer block_depth_layer stmt_depth_layer (plain_of y)
      ∙ ap form_depth_layer (layers_twice (λ (f : ProvedForm). f.0) (λ (b : ProvedBlock). b.0) (λ (s : ProvedStmt). s.0) form_trap_depth block_trap_depth stmt_trap_depth y) in
      form_step y v (subst (λ c. Gives c v) check g) ∙ sym deep

  abbrev plain_block : Block-F ℕ (Raw TableEntry) ProvedForm ProvedBlock ProvedStmt → Block-F ℕ (Raw TableEntry) SourceForm SourceBlock SourceStmt
  plain_block = block.map-Block ℕ (Raw TableEntry) ProvedForm ProvedBlock ProvedStmt SourceForm SourceBlock SourceStmt (λ f. f.0) (λ b. b.0) (λ s. s.0)

  block_of : (y : Block-F ℕ (Raw TableEntry) ProvedForm ProvedBlock ProvedStmt) → OfBlock (block.roll-Block ℕ (Raw TableEntry) (plain_block y))
  block_of y v g =
      let check = fold-roll-Block ℕ (Raw TableEntry) (Checked TypedForm) (Checked TypedBlock) (Checked TypedStmt) (form_layer t) block_layer stmt_layer (plain_block y)
      ∙ ap (λ l. map1 (block_at y.at) (all_checked l)) (map_twice (λ (s : ProvedStmt). s.0) (checked_stmt t) y.statements) in
      let deep = fold-roll-Block ℕ (Raw TableEntry) ℕ ℕ ℕ form_depth_layer block_depth_layer stmt_depth_layer (plain_block y) ∙ ap deepest (map_twice (λ (s : ProvedStmt). s.0) stmt_trap_depth y.statements) in
      let made = given_map (block_at y.at) (all_checked (map (λ (s : ProvedStmt). checked_stmt t s.0) y.statements)) v (subst (λ c. Gives c v) check g) in
      ap block_trap_depth made.is ∙ fold-roll-Block ℕ Expr ℕ ℕ ℕ form_depth_layer block_depth_layer stmt_depth_layer (record { at = y.at; statements = made.part }) ∙ stmts_deep y.statements made.part made.gives ∙ sym deep

  abbrev plain_stmt : Stmt-F ℕ (Raw TableEntry) ProvedForm ProvedBlock ProvedStmt → Stmt-F ℕ (Raw TableEntry) SourceForm SourceBlock SourceStmt
  plain_stmt = stmt.map-Stmt ℕ (Raw TableEntry) ProvedForm ProvedBlock ProvedStmt SourceForm SourceBlock SourceStmt (λ f. f.0) (λ b. b.0) (λ s. s.0)

  stmt_of : (y : Stmt-F ℕ (Raw TableEntry) ProvedForm ProvedBlock ProvedStmt) → OfStmt (stmt.roll-Stmt ℕ (Raw TableEntry) (plain_stmt y))
  stmt_of y v g =
      let check = fold-roll-Stmt ℕ (Raw TableEntry) (Checked TypedForm) (Checked TypedBlock) (Checked TypedStmt) (form_layer t) block_layer stmt_layer (plain_stmt y) in
      let deep = fold-roll-Stmt ℕ (Raw TableEntry) ℕ ℕ ℕ form_depth_layer block_depth_layer stmt_depth_layer (plain_stmt y) in
      let made = given_map (stmt_at y.at) (checked_form t y.form.0) v (subst (λ c. Gives c v) check g) in
      ap stmt_trap_depth made.is ∙ fold-roll-Stmt ℕ Expr ℕ ℕ ℕ form_depth_layer block_depth_layer stmt_depth_layer (record { at = y.at; form = made.part }) ∙ y.form.1 made.part made.gives ∙ sym deep

  block_deep : (b : SourceBlock) → OfBlock b
  block_deep =
      ind-Block ℕ (Raw TableEntry) OfForm OfBlock OfStmt (λ x y is. subst (λ z. OfForm (form.roll-Form ℕ (Raw TableEntry) z)) is (form_of y)) (λ x y is. subst (λ z. OfBlock (block.roll-Block ℕ (Raw TableEntry) z)) is (block_of y))
      (λ x y is. subst (λ z. OfStmt (stmt.roll-Stmt ℕ (Raw TableEntry) z)) is (stmt_of y))

  -- domains and the tree

  as_many : (bs : List SourceBlock) (vs : List TypedBlock) → Gives (all_checked (map (checked_block t) bs)) vs → length vs ≡ length bs
  as_many [] vs g = ap (λ (l : List TypedBlock). length l) (given_fine [] vs g)
  as_many (b ∷ bs) vs g =
      let two = given_both (λ x xs. x ∷ xs) (checked_block t b) (all_checked (map (checked_block t) bs)) vs g in
      ap (λ (l : List TypedBlock). length l) two.is ∙ ap suc (as_many bs two.right two.second)

  domains_nest : (most : ℕ) (bs : List SourceBlock) (vs : List TypedBlock) → Gives (all_checked (map (checked_block t) bs)) vs → list_all (λ b. nat_le (block_trap_depth b) most) vs ≡ list_all (λ b. nat_le (block_trap_depth b) most) bs
  domains_nest most [] vs g = ap (λ (l : List TypedBlock). list_all (λ b. nat_le (block_trap_depth b) most) l) (given_fine [] vs g)
  domains_nest most (b ∷ bs) vs g =
      let two = given_both (λ x xs. x ∷ xs) (checked_block t b) (all_checked (map (checked_block t) bs)) vs g in
      ap (λ (l : List TypedBlock). list_all (λ b. nat_le (block_trap_depth b) most) l) two.is
      ∙ ap (λ n. nat_le n most && list_all (λ (c : TypedBlock). nat_le (block_trap_depth c) most) two.right) (block_deep b two.left two.first)
      ∙ ap (λ r. nat_le (block_trap_depth b) most && r) (domains_nest most bs two.right two.second)

  record GivesDomains (tree : Tree ℕ (Raw TableEntry)) (v : TypedTree) : Type 0 where
    domains : List TypedBlock
    gives : Gives (all_checked (map (checked_block t) tree.domains)) domains
    is : v.domains ≡ domains

  domains_of : (tree : Tree ℕ (Raw TableEntry)) (v : TypedTree) → checked_tree t tree ≡ fine v → GivesDomains tree v
  domains_of tree v c =
      let checks = map1 (with_domains tree.ports) (all_checked (map (checked_block t) tree.domains)) in
      let gives : Gives checks v = record { failures = second_nil (flat_map port_failures tree.ports) checks.failures (ap (λ (x : Checked TypedTree). x.failures) c); value = ap (λ (x : Checked TypedTree). x.value) c } in
      let made = given_map (with_domains tree.ports) (all_checked (map (checked_block t) tree.domains)) v gives in
      record { domains = made.part; gives = made.gives; is = ap (λ (x : TypedTree). x.domains) made.is }

  pub as_many_domains : (tree : Tree ℕ (Raw TableEntry)) (v : TypedTree) → checked_tree t tree ≡ fine v → length v.domains ≡ length tree.domains
  as_many_domains tree v c = let d = domains_of tree v c in ap (λ (l : List TypedBlock). length l) d.is ∙ as_many tree.domains d.domains d.gives

  pub traps_as_deep : (most : ℕ) (tree : Tree ℕ (Raw TableEntry)) (v : TypedTree) → checked_tree t tree ≡ fine v → traps_nest most v ≡ traps_nest most tree
  traps_as_deep most tree v c = let d = domains_of tree v c in ap (λ (l : List TypedBlock). list_all (λ b. nat_le (block_trap_depth b) most) l) d.is ∙ domains_nest most tree.domains d.domains d.gives
