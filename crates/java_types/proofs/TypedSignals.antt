-- A tree with kinds declares the signals of the tree that it is typed from, and their combinations fit their kinds.
use Rattle.std.proofs.Common.{◌≡◌, ℕ, suc, Bool, true, ◌&&◌, List, [], ◌∷◌, ◌++◌, map, Option, Some, None, ap, refl, sym, ◌∙◌, subst}
use Rattle.std.specs.List.{flat_map, list_all}
use Rattle.std.proofs.lemmas.List.Folds.{list_all-append}
use Rattle.java_values.specs.declared.kind.Kind.{Kind}
use Rattle.java_values.specs.declared.kind.Kind.TheVariants as kind
use Rattle.kernel_terms.specs.declared.tables.SignalInfo.{SignalInfo}
use Rattle.kernel_terms.specs.WellFormed.{combines, is_bitwise}
use Rattle.sj_ast.specs.declared.port.CombineOperator.{CombineOperator}
use Rattle.sj_ast.specs.declared.port.CombineOperator.TheVariants as operator
use Rattle.sj_ast.specs.declared.port.Combination.{Combination}
use Rattle.sj_ast.specs.declared.port.Valued.{Valued}
use Rattle.sj_ast.specs.declared.port.Signal.{Signal}
use Rattle.sj_ast.specs.declared.port.Port.{Port}
use Rattle.sj_ast.specs.declared.port.Port.TheVariants as port
use Rattle.kernel_terms.specs.declared.expr.Expr.{Expr}
use Rattle.kernel_terms.specs.declared.tables.Tables.{Tables}
use Rattle.kernel_terms.specs.TableEntries.{channel_at, variable_at}
use Rattle.sj_ast.specs.declared.expression.Raw.{Raw}
use Rattle.sj_ast.specs.declared.statement.Form as form
use Rattle.sj_ast.specs.declared.statement.Block as block
use Rattle.sj_ast.specs.declared.statement.Stmt as stmt
use Rattle.sj_ast.specs.declared.statement.Form.TheOpen.{Form-F, Block-F, Stmt-F}
use Rattle.sj_ast.specs.declared.statement.Form.TheFolds.{fold-roll-Form, fold-roll-Block, fold-roll-Stmt, ind-Block}
use Rattle.sj_ast.specs.declared.statement.Form.TheVariants.{rolls-Abort, rolls-Assign, rolls-Await, rolls-Declare, rolls-Emit, rolls-Empty, rolls-Every, rolls-Exit, rolls-Halt, rolls-If, rolls-Loop, rolls-Par, rolls-Pause, rolls-Present, rolls-Receive, rolls-Send, rolls-Suspend, rolls-Sustain, rolls-Trap, rolls-Variable, rolls-While}
use Rattle.sj_ast.specs.declared.statement.Tree.{Tree}
use Rattle.sj_names.specs.declared.entry.TableEntry.{TableEntry}
use Rattle.sj_names.specs.definitions.DeclaredTables.{operator_of, combination_of, kind_of, combine_of}
use Rattle.sj_names.specs.definitions.DeclaredSignals.{DeclaredSignal, declaration_of, listed_from, one_list, form_signals_layer, block_signals_layer, stmt_signals_layer, signals_of_form, signals_of_block, signals_of_stmt, signals_of_port, signals_of_tree, AreDeclared}
use Rattle.java_types.specs.definitions.Checks.{Checked, fine, map1, map2, all_checked, where_given}
use Rattle.java_types.specs.definitions.Combinations.{combinations_fit}
use Rattle.java_types.specs.definitions.TypedTrees.{TypedForm, TypedBlock, TypedStmt, TypedTree, boolean_failures, written_failures, combination_failures, emission_of, value_for, condition_of, update_of, form_layer, block_layer, stmt_layer, block_at, stmt_at, checked_form, checked_block, checked_stmt, port_failures, with_domains, checked_tree}
use Rattle.java_types.proofs.CheckParts.{Gives, given_fine, given_map, given_both, some_is, first_nil, second_nil}
use Rattle.java_types.proofs.FormLayers.{map_twice, layers_twice}
use Rattle.java_types.proofs.TypedExpressions.{both_true}

abbrev SourceForm : Type 0
SourceForm = form.Form ℕ (Raw TableEntry)

abbrev SourceBlock : Type 0
SourceBlock = block.Block ℕ (Raw TableEntry)

abbrev SourceStmt : Type 0
SourceStmt = stmt.Stmt ℕ (Raw TableEntry)

-- single signals

bitwise : (o : CombineOperator) (at : ℕ) → boolean_failures o at ≡ [] → is_bitwise (operator_of o) ≡ true
bitwise operator.Add at h = absurd (cc)
bitwise operator.Max at h = absurd (cc)
bitwise operator.Min at h = absurd (cc)
bitwise operator.And at h = refl
bitwise operator.Or at h = refl
bitwise operator.Xor at h = refl

written_fits : (k : Kind) (c : Option Combination) → written_failures k c ≡ [] → combines (Some k) (combination_of k c) ≡ true
written_fits kind.Boolean None h = refl
written_fits kind.Boolean (Some c) h = bitwise c.operator c.at h
written_fits kind.Byte c h = refl
written_fits kind.Short c h = refl
written_fits kind.Char c h = refl
written_fits kind.Int c h = refl
written_fits kind.Long c h = refl

valued_fits : (v : Option Valued) → combination_failures v ≡ [] → combines (kind_of v) (combine_of v) ≡ true
valued_fits None h = refl
valued_fits (Some v) h = written_fits v.kind v.combine h

-- declared signals

abbrev signal_fits : DeclaredSignal → Bool
signal_fits s = combines s.kind s.combine

abbrev all_fit : List DeclaredSignal → Bool
all_fit = list_all signal_fits

-- the declared signals are these, and their combinations fit their kinds
record Kept (these declared : List DeclaredSignal) : Type 0 where
  same : declared ≡ these
  fit : all_fit these ≡ true

none_kept : (declared : List DeclaredSignal) → declared ≡ [] → Kept [] declared
none_kept declared e = record { same = e; fit = refl }

kept_as : {these : List DeclaredSignal} (x y : List DeclaredSignal) → y ≡ x → Kept these x → Kept these y
kept_as x y e k = record { same = e ∙ k.same; fit = k.fit }

two_kept : (a b c d : List DeclaredSignal) → Kept a c → Kept b d → Kept (a ++ b) (c ++ d)
two_kept a b c d k l = record {
  same = ap (λ x. x ++ d) k.same ∙ ap (λ x. a ++ x) l.same;
  fit = list_all-append signal_fits a b ∙ both_true (all_fit a) (all_fit b) k.fit l.fit;
}

signal_kept : (signal : Signal ℕ) → combination_failures signal.valued ≡ [] → Kept (declaration_of signal ∷ []) (declaration_of signal ∷ [])
signal_kept signal h = record { same = refl; fit = both_true (combines (kind_of signal.valued) (combine_of signal.valued)) true (valued_fits signal.valued h) refl }

abbrev signals : Form-F ℕ Expr TypedForm TypedBlock TypedStmt → List DeclaredSignal
signals z = form_signals_layer (form.map-Form ℕ Expr TypedForm TypedBlock TypedStmt (List DeclaredSignal) (List DeclaredSignal) (List DeclaredSignal) signals_of_form signals_of_block signals_of_stmt z)

typed_signals : (z : Form-F ℕ Expr TypedForm TypedBlock TypedStmt) (w v : TypedForm) → v ≡ w → form.roll-Form ℕ Expr z ≡ w → signals_of_form v ≡ signals z
typed_signals z w v e r = ap signals_of_form (e ∙ sym r) ∙ fold-roll-Form ℕ Expr (List DeclaredSignal) (List DeclaredSignal) (List DeclaredSignal) form_signals_layer block_signals_layer stmt_signals_layer z

module _ (t : Tables) where
  abbrev OfForm : SourceForm → Type 0
  OfForm f = (v : TypedForm) → Gives (checked_form t f) v → Kept (signals_of_form f) (signals_of_form v)

  abbrev OfBlock : SourceBlock → Type 0
  OfBlock b = (v : TypedBlock) → Gives (checked_block t b) v → Kept (signals_of_block b) (signals_of_block v)

  abbrev OfStmt : SourceStmt → Type 0
  OfStmt s = (v : TypedStmt) → Gives (checked_stmt t s) v → Kept (signals_of_stmt s) (signals_of_stmt v)

  abbrev ProvedForm : Type 0
  ProvedForm = (f : SourceForm) × OfForm f

  abbrev ProvedBlock : Type 0
  ProvedBlock = (b : SourceBlock) × OfBlock b

  abbrev ProvedStmt : Type 0
  ProvedStmt = (s : SourceStmt) × OfStmt s

  -- lists of parts

  blocks_kept : (bs : List ProvedBlock) (vs : List TypedBlock) → Gives (all_checked (map (λ b. checked_block t b.0) bs)) vs → Kept (one_list (map (λ b. signals_of_block b.0) bs)) (one_list (map signals_of_block vs))
  blocks_kept [] vs g = none_kept (one_list (map signals_of_block vs)) (ap (λ (l : List TypedBlock). one_list (map signals_of_block l)) (given_fine [] vs g))
  blocks_kept (b ∷ bs) vs g =
      let two = given_both (λ x xs. x ∷ xs) (checked_block t b.0) (all_checked (map (λ (c : ProvedBlock). checked_block t c.0) bs)) vs g in
      kept_as (signals_of_block two.left ++ one_list (map signals_of_block two.right)) (one_list (map signals_of_block vs)) (ap (λ (l : List TypedBlock). one_list (map signals_of_block l)) two.is)
      (two_kept (signals_of_block b.0) (one_list (map (λ (c : ProvedBlock). signals_of_block c.0) bs)) (signals_of_block two.left) (one_list (map signals_of_block two.right)) (b.1 two.left two.first) (blocks_kept bs two.right two.second))

  stmts_kept : (ss : List ProvedStmt) (vs : List TypedStmt) → Gives (all_checked (map (λ s. checked_stmt t s.0) ss)) vs → Kept (one_list (map (λ s. signals_of_stmt s.0) ss)) (one_list (map signals_of_stmt vs))
  stmts_kept [] vs g = none_kept (one_list (map signals_of_stmt vs)) (ap (λ (l : List TypedStmt). one_list (map signals_of_stmt l)) (given_fine [] vs g))
  stmts_kept (s ∷ ss) vs g =
      let two = given_both (λ x xs. x ∷ xs) (checked_stmt t s.0) (all_checked (map (λ (c : ProvedStmt). checked_stmt t c.0) ss)) vs g in
      kept_as (signals_of_stmt two.left ++ one_list (map signals_of_stmt two.right)) (one_list (map signals_of_stmt vs)) (ap (λ (l : List TypedStmt). one_list (map signals_of_stmt l)) two.is)
      (two_kept (signals_of_stmt s.0) (one_list (map (λ (c : ProvedStmt). signals_of_stmt c.0) ss)) (signals_of_stmt two.left) (one_list (map signals_of_stmt two.right)) (s.1 two.left two.first) (stmts_kept ss two.right two.second))

  -- one layer

  abbrev checks_of : Form-F ℕ (Raw TableEntry) ProvedForm ProvedBlock ProvedStmt → Form-F ℕ (Raw TableEntry) (Checked TypedForm) (Checked TypedBlock) (Checked TypedStmt)
  checks_of = form.map-Form ℕ (Raw TableEntry) ProvedForm ProvedBlock ProvedStmt (Checked TypedForm) (Checked TypedBlock) (Checked TypedStmt) (λ f. checked_form t f.0) (λ b. checked_block t b.0) (λ s. checked_stmt t s.0)

  abbrev signals_of : Form-F ℕ (Raw TableEntry) ProvedForm ProvedBlock ProvedStmt → Form-F ℕ (Raw TableEntry) (List DeclaredSignal) (List DeclaredSignal) (List DeclaredSignal)
  signals_of = form.map-Form ℕ (Raw TableEntry) ProvedForm ProvedBlock ProvedStmt (List DeclaredSignal) (List DeclaredSignal) (List DeclaredSignal) (λ f. signals_of_form f.0) (λ b. signals_of_block b.0) (λ s. signals_of_stmt s.0)

  abbrev plain_of : Form-F ℕ (Raw TableEntry) ProvedForm ProvedBlock ProvedStmt → Form-F ℕ (Raw TableEntry) SourceForm SourceBlock SourceStmt
  plain_of = form.map-Form ℕ (Raw TableEntry) ProvedForm ProvedBlock ProvedStmt SourceForm SourceBlock SourceStmt (λ f. f.0) (λ b. b.0) (λ s. s.0)

  abbrev Goal : Form-F ℕ (Raw TableEntry) ProvedForm ProvedBlock ProvedStmt → Type 0
  Goal y = (v : TypedForm) → Gives (form_layer t (checks_of y)) v → Kept (form_signals_layer (signals_of y)) (signals_of_form v)

  form_step : (y : Form-F ℕ (Raw TableEntry) ProvedForm ProvedBlock ProvedStmt) → Goal y
  form_step Form-F.Empty v g = none_kept (signals_of_form v) (typed_signals Form-F.Empty form.Empty v (given_fine form.Empty v g) rolls-Empty)
  form_step Form-F.Pause v g = none_kept (signals_of_form v) (typed_signals Form-F.Pause form.Pause v (given_fine form.Pause v g) rolls-Pause)
  form_step Form-F.Halt v g = none_kept (signals_of_form v) (typed_signals Form-F.Halt form.Halt v (given_fine form.Halt v g) rolls-Halt)
  form_step (Form-F.Exit at n) v g = none_kept (signals_of_form v) (typed_signals (Form-F.Exit at n) (form.Exit at n) v (given_fine (form.Exit at n) v g) (rolls-Exit at n))
  form_step (Form-F.Receive at n) v g = none_kept (signals_of_form v) (typed_signals (Form-F.Receive at n) (form.Receive at n) v (given_fine (form.Receive at n) v g) (rolls-Receive at n))
  form_step (Form-F.Await immediate test) v g = none_kept (signals_of_form v) (typed_signals (Form-F.Await immediate test) (form.Await immediate test) v (given_fine (form.Await immediate test) v g) (rolls-Await immediate test))
  form_step (Form-F.Declare signal) v g =
      kept_as (declaration_of signal ∷ []) (signals_of_form v) (typed_signals (Form-F.Declare signal) (form.Declare signal) v (some_is (form.Declare signal) v g.value) (rolls-Declare signal))
      (signal_kept signal (first_nil (combination_failures signal.valued) [] g.failures))
  form_step (Form-F.Emit at n value) v g =
      let made = given_map (form.Emit at n) (emission_of t at n value) v g in none_kept (signals_of_form v) (typed_signals (Form-F.Emit at n made.part) (form.Emit at n made.part) v made.is (rolls-Emit at n made.part))
  form_step (Form-F.Sustain at n value) v g =
      let made = given_map (form.Sustain at n) (emission_of t at n value) v g in none_kept (signals_of_form v) (typed_signals (Form-F.Sustain at n made.part) (form.Sustain at n made.part) v made.is (rolls-Sustain at n made.part))
  form_step (Form-F.Variable k at n value) v g =
      let made = given_map (form.Variable k at n) (value_for t k value) v g in none_kept (signals_of_form v) (typed_signals (Form-F.Variable k at n made.part) (form.Variable k at n made.part) v made.is (rolls-Variable k at n made.part))
  form_step (Form-F.Assign at n value) v g =
      let made = given_map (form.Assign at n) (value_for t (variable_at t n).kind value) v g in none_kept (signals_of_form v) (typed_signals (Form-F.Assign at n made.part) (form.Assign at n made.part) v made.is (rolls-Assign at n made.part))
  form_step (Form-F.Update at n sign_at op value) v g =
      let made = given_map (form.Assign at n) (update_of t n sign_at op value) v g in none_kept (signals_of_form v) (typed_signals (Form-F.Assign at n made.part) (form.Assign at n made.part) v made.is (rolls-Assign at n made.part))
  form_step (Form-F.Send at n value) v g =
      let made = given_map (form.Send at n) (value_for t (channel_at t n).kind value) v g in none_kept (signals_of_form v) (typed_signals (Form-F.Send at n made.part) (form.Send at n made.part) v made.is (rolls-Send at n made.part))
  form_step (Form-F.Par first others) v g =
      let two = given_both form.Par (checked_block t first.0) (all_checked (map (λ (b : ProvedBlock). checked_block t b.0) others)) v g in
      kept_as (signals_of_block two.left ++ one_list (map signals_of_block two.right)) (signals_of_form v) (typed_signals (Form-F.Par two.left two.right) (form.Par two.left two.right) v two.is (rolls-Par two.left two.right))
      (two_kept (signals_of_block first.0) (one_list (map (λ (b : ProvedBlock). signals_of_block b.0) others)) (signals_of_block two.left) (one_list (map signals_of_block two.right)) (first.1 two.left two.first) (blocks_kept others two.right two.second))
  form_step (Form-F.If cond first None) v g =
      let outer = given_both (λ f z. f z) (map2 form.If (condition_of t cond) (checked_block t first.0)) (fine None) v g in
      let inner = given_both form.If (condition_of t cond) (checked_block t first.0) outer.left outer.first in
      kept_as (signals_of_block inner.right ++ []) (signals_of_form v)
      (typed_signals (Form-F.If inner.left inner.right None) (form.If inner.left inner.right None) v (outer.is ∙ ap (λ f. f outer.right) inner.is ∙ ap (form.If inner.left inner.right) (given_fine None outer.right outer.second)) (rolls-If inner.left inner.right None))
      (two_kept (signals_of_block first.0) [] (signals_of_block inner.right) [] (first.1 inner.right inner.second) (none_kept [] refl))
  form_step (Form-F.If cond first (Some other)) v g =
      let outer = given_both (λ f z. f z) (map2 form.If (condition_of t cond) (checked_block t first.0)) (map1 Some (checked_block t other.0)) v g in
      let inner = given_both form.If (condition_of t cond) (checked_block t first.0) outer.left outer.first in
      let last = given_map Some (checked_block t other.0) outer.right outer.second in
      kept_as (signals_of_block inner.right ++ signals_of_block last.part) (signals_of_form v)
      (typed_signals (Form-F.If inner.left inner.right (Some last.part)) (form.If inner.left inner.right (Some last.part)) v (outer.is ∙ ap (λ f. f outer.right) inner.is ∙ ap (form.If inner.left inner.right) last.is) (rolls-If inner.left inner.right (Some last.part)))
      (two_kept (signals_of_block first.0) (signals_of_block other.0) (signals_of_block inner.right) (signals_of_block last.part) (first.1 inner.right inner.second) (other.1 last.part last.gives))
  form_step (Form-F.Present test first None) v g =
      let inner = given_both (form.Present test) (checked_block t first.0) (fine None) v g in
      kept_as (signals_of_block inner.left ++ []) (signals_of_form v)
      (typed_signals (Form-F.Present test inner.left None) (form.Present test inner.left None) v (inner.is ∙ ap (form.Present test inner.left) (given_fine None inner.right inner.second)) (rolls-Present test inner.left None))
      (two_kept (signals_of_block first.0) [] (signals_of_block inner.left) [] (first.1 inner.left inner.first) (none_kept [] refl))
  form_step (Form-F.Present test first (Some other)) v g =
      let inner = given_both (form.Present test) (checked_block t first.0) (map1 Some (checked_block t other.0)) v g in
      let last = given_map Some (checked_block t other.0) inner.right inner.second in
      kept_as (signals_of_block inner.left ++ signals_of_block last.part) (signals_of_form v)
      (typed_signals (Form-F.Present test inner.left (Some last.part)) (form.Present test inner.left (Some last.part)) v (inner.is ∙ ap (form.Present test inner.left) last.is) (rolls-Present test inner.left (Some last.part)))
      (two_kept (signals_of_block first.0) (signals_of_block other.0) (signals_of_block inner.left) (signals_of_block last.part) (first.1 inner.left inner.first) (other.1 last.part last.gives))
  form_step (Form-F.While body) v g =
      let made = given_map form.While (checked_block t body.0) v g in
      kept_as (signals_of_block made.part) (signals_of_form v) (typed_signals (Form-F.While made.part) (form.While made.part) v made.is (rolls-While made.part)) (body.1 made.part made.gives)
  form_step (Form-F.Trap at n body) v g =
      let made = given_map (form.Trap at n) (checked_block t body.0) v g in
      kept_as (signals_of_block made.part) (signals_of_form v) (typed_signals (Form-F.Trap at n made.part) (form.Trap at n made.part) v made.is (rolls-Trap at n made.part)) (body.1 made.part made.gives)
  form_step (Form-F.Abort weak immediate test body) v g =
      let made = given_map (form.Abort weak immediate test) (checked_block t body.0) v g in
      kept_as (signals_of_block made.part) (signals_of_form v) (typed_signals (Form-F.Abort weak immediate test made.part) (form.Abort weak immediate test made.part) v made.is (rolls-Abort weak immediate test made.part)) (body.1 made.part made.gives)
  form_step (Form-F.Suspend immediate test body) v g =
      let made = given_map (form.Suspend immediate test) (checked_block t body.0) v g in
      kept_as (signals_of_block made.part) (signals_of_form v) (typed_signals (Form-F.Suspend immediate test made.part) (form.Suspend immediate test made.part) v made.is (rolls-Suspend immediate test made.part)) (body.1 made.part made.gives)
  form_step (Form-F.Every immediate test body) v g =
      let made = given_map (form.Every immediate test) (checked_block t body.0) v g in
      kept_as (signals_of_block made.part) (signals_of_form v) (typed_signals (Form-F.Every immediate test made.part) (form.Every immediate test made.part) v made.is (rolls-Every immediate test made.part)) (body.1 made.part made.gives)
  form_step (Form-F.Loop body test) v g =
      let made = given_map (λ b. form.Loop b test) (checked_block t body.0) v g in
      kept_as (signals_of_block made.part) (signals_of_form v) (typed_signals (Form-F.Loop made.part test) (form.Loop made.part test) v made.is (rolls-Loop made.part test)) (body.1 made.part made.gives)

  -- all layers

  form_of : (y : Form-F ℕ (Raw TableEntry) ProvedForm ProvedBlock ProvedStmt) → OfForm (form.roll-Form ℕ (Raw TableEntry) (plain_of y))
  form_of y v g =
      let check = fold-roll-Form ℕ (Raw TableEntry) (Checked TypedForm) (Checked TypedBlock) (Checked TypedStmt) (form_layer t) block_layer stmt_layer (plain_of y)
      ∙ ap (form_layer t) (layers_twice (λ (f : ProvedForm). f.0) (λ (b : ProvedBlock). b.0) (λ (s : ProvedStmt). s.0) (checked_form t) (checked_block t) (checked_stmt t) y) in
      let these = fold-roll-Form ℕ (Raw TableEntry) (List DeclaredSignal) (List DeclaredSignal) (List DeclaredSignal) form_signals_layer block_signals_layer stmt_signals_layer (plain_of y)
      ∙ ap form_signals_layer (layers_twice (λ (f : ProvedForm). f.0) (λ (b : ProvedBlock). b.0) (λ (s : ProvedStmt). s.0) signals_of_form signals_of_block signals_of_stmt y) in
      subst (λ l. Kept l (signals_of_form v)) (sym these) (form_step y v (subst (λ c. Gives c v) check g))

  abbrev plain_block : Block-F ℕ (Raw TableEntry) ProvedForm ProvedBlock ProvedStmt → Block-F ℕ (Raw TableEntry) SourceForm SourceBlock SourceStmt
  plain_block = block.map-Block ℕ (Raw TableEntry) ProvedForm ProvedBlock ProvedStmt SourceForm SourceBlock SourceStmt (λ f. f.0) (λ b. b.0) (λ s. s.0)

  block_of : (y : Block-F ℕ (Raw TableEntry) ProvedForm ProvedBlock ProvedStmt) → OfBlock (block.roll-Block ℕ (Raw TableEntry) (plain_block y))
  block_of y v g =
      let check = fold-roll-Block ℕ (Raw TableEntry) (Checked TypedForm) (Checked TypedBlock) (Checked TypedStmt) (form_layer t) block_layer stmt_layer (plain_block y)
      ∙ ap (λ l. map1 (block_at y.at) (all_checked l)) (map_twice (λ (s : ProvedStmt). s.0) (checked_stmt t) y.statements) in
      let these = fold-roll-Block ℕ (Raw TableEntry) (List DeclaredSignal) (List DeclaredSignal) (List DeclaredSignal) form_signals_layer block_signals_layer stmt_signals_layer (plain_block y) ∙ ap one_list (map_twice (λ (s : ProvedStmt). s.0) signals_of_stmt y.statements) in
      let made = given_map (block_at y.at) (all_checked (map (λ (s : ProvedStmt). checked_stmt t s.0) y.statements)) v (subst (λ c. Gives c v) check g) in
      subst (λ l. Kept l (signals_of_block v)) (sym these)
      (kept_as (one_list (map signals_of_stmt made.part)) (signals_of_block v)
      (ap signals_of_block made.is ∙ fold-roll-Block ℕ Expr (List DeclaredSignal) (List DeclaredSignal) (List DeclaredSignal) form_signals_layer block_signals_layer stmt_signals_layer (record { at = y.at; statements = made.part }))
      (stmts_kept y.statements made.part made.gives))

  abbrev plain_stmt : Stmt-F ℕ (Raw TableEntry) ProvedForm ProvedBlock ProvedStmt → Stmt-F ℕ (Raw TableEntry) SourceForm SourceBlock SourceStmt
  plain_stmt = stmt.map-Stmt ℕ (Raw TableEntry) ProvedForm ProvedBlock ProvedStmt SourceForm SourceBlock SourceStmt (λ f. f.0) (λ b. b.0) (λ s. s.0)

  stmt_of : (y : Stmt-F ℕ (Raw TableEntry) ProvedForm ProvedBlock ProvedStmt) → OfStmt (stmt.roll-Stmt ℕ (Raw TableEntry) (plain_stmt y))
  stmt_of y v g =
      let check = fold-roll-Stmt ℕ (Raw TableEntry) (Checked TypedForm) (Checked TypedBlock) (Checked TypedStmt) (form_layer t) block_layer stmt_layer (plain_stmt y) in
      let these = fold-roll-Stmt ℕ (Raw TableEntry) (List DeclaredSignal) (List DeclaredSignal) (List DeclaredSignal) form_signals_layer block_signals_layer stmt_signals_layer (plain_stmt y) in
      let made = given_map (stmt_at y.at) (checked_form t y.form.0) v (subst (λ c. Gives c v) check g) in
      subst (λ l. Kept l (signals_of_stmt v)) (sym these)
      (kept_as (signals_of_form made.part) (signals_of_stmt v)
      (ap signals_of_stmt made.is ∙ fold-roll-Stmt ℕ Expr (List DeclaredSignal) (List DeclaredSignal) (List DeclaredSignal) form_signals_layer block_signals_layer stmt_signals_layer (record { at = y.at; form = made.part }))
      (y.form.1 made.part made.gives))

  block_kept : (b : SourceBlock) → OfBlock b
  block_kept =
      ind-Block ℕ (Raw TableEntry) OfForm OfBlock OfStmt (λ x y is. subst (λ z. OfForm (form.roll-Form ℕ (Raw TableEntry) z)) is (form_of y)) (λ x y is. subst (λ z. OfBlock (block.roll-Block ℕ (Raw TableEntry) z)) is (block_of y))
      (λ x y is. subst (λ z. OfStmt (stmt.roll-Stmt ℕ (Raw TableEntry) z)) is (stmt_of y))

  -- domains, ports and the tree

  domains_kept : (bs : List SourceBlock) (vs : List TypedBlock) → Gives (all_checked (map (checked_block t) bs)) vs → Kept (one_list (map signals_of_block bs)) (one_list (map signals_of_block vs))
  domains_kept [] vs g = none_kept (one_list (map signals_of_block vs)) (ap (λ (l : List TypedBlock). one_list (map signals_of_block l)) (given_fine [] vs g))
  domains_kept (b ∷ bs) vs g =
      let two = given_both (λ x xs. x ∷ xs) (checked_block t b) (all_checked (map (checked_block t) bs)) vs g in
      kept_as (signals_of_block two.left ++ one_list (map signals_of_block two.right)) (one_list (map signals_of_block vs)) (ap (λ (l : List TypedBlock). one_list (map signals_of_block l)) two.is)
      (two_kept (signals_of_block b) (one_list (map signals_of_block bs)) (signals_of_block two.left) (one_list (map signals_of_block two.right)) (block_kept b two.left two.first) (domains_kept bs two.right two.second))

  ports_kept : (ps : List (Port ℕ)) → flat_map port_failures ps ≡ [] → Kept (one_list (map signals_of_port ps)) (one_list (map signals_of_port ps))
  ports_kept [] h = none_kept [] refl
  ports_kept (port.Signal p ∷ ps) h =
      two_kept (declaration_of p.signal ∷ []) (one_list (map signals_of_port ps)) (declaration_of p.signal ∷ []) (one_list (map signals_of_port ps)) (signal_kept p.signal (first_nil (combination_failures p.signal.valued) (flat_map port_failures ps) h))
      (ports_kept ps (second_nil (combination_failures p.signal.valued) (flat_map port_failures ps) h))
  ports_kept (port.Channel c ∷ ps) h = ports_kept ps h

  tree_kept : (tree : Tree ℕ (Raw TableEntry)) (v : TypedTree) → checked_tree t tree ≡ fine v → Kept (signals_of_tree tree) (signals_of_tree v)
  tree_kept tree v c =
      let checks = map1 (with_domains tree.ports) (all_checked (map (checked_block t) tree.domains)) in
      let nil = ap (λ (x : Checked TypedTree). x.failures) c in
      let gives : Gives checks v = record { failures = second_nil (flat_map port_failures tree.ports) checks.failures nil; value = ap (λ (x : Checked TypedTree). x.value) c } in
      let made = given_map (with_domains tree.ports) (all_checked (map (checked_block t) tree.domains)) v gives in
      kept_as (one_list (map signals_of_port tree.ports) ++ one_list (map signals_of_block made.part)) (signals_of_tree v) (ap signals_of_tree made.is)
      (two_kept (one_list (map signals_of_port tree.ports)) (one_list (map signals_of_block tree.domains)) (one_list (map signals_of_port tree.ports)) (one_list (map signals_of_block made.part)) (ports_kept tree.ports (first_nil (flat_map port_failures tree.ports) checks.failures nil)) (domains_kept tree.domains made.part made.gives))

  pub still_declared : (u : Tables) (tree : Tree ℕ (Raw TableEntry)) (v : TypedTree) → checked_tree t tree ≡ fine v → AreDeclared u tree → AreDeclared u v
  still_declared u tree v c d = d ∙ sym (tree_kept tree v c).same

  pub combined : (u : Tables) (tree : Tree ℕ (Raw TableEntry)) (v : TypedTree) → checked_tree t tree ≡ fine v → AreDeclared u tree → combinations_fit u ≡ true
  combined u tree v c d = as_listed 0 u.signals ∙ ap all_fit d ∙ (tree_kept tree v c).fit
    where
      as_listed : (n : ℕ) (infos : List SignalInfo) → combinations_fit (record u { signals = infos }) ≡ all_fit (listed_from n infos)
      as_listed n [] = refl
      as_listed n (x ∷ xs) = ap (λ b. combines x.kind x.combine && b) (as_listed (suc n) xs)
