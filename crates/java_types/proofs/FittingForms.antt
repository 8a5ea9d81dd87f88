-- Where the numbers of a tree fit its tables, those of the tree with kinds do, and its expressions keep the rules on kinds.
use Rattle.std.proofs.Common.{◌≡◌, ℕ, suc, Bool, true, ◌&&◌, List, [], ◌∷◌, map, Option, Some, None, ap, refl, sym, ◌∙◌, subst}
use Rattle.std.specs.Prelude.{option_map}
use Rattle.std.specs.List.{flat_map}
use Rattle.java_values.specs.declared.kind.Kind.{Kind}
use Rattle.java_values.specs.declared.kind.Kind.TheVariants as kind
use Rattle.kernel_terms.specs.declared.expr.Expr.{Expr}
use Rattle.kernel_terms.specs.declared.tables.Tables.{Tables}
use Rattle.kernel_terms.specs.Divisors.{given_divisors}
use Rattle.kernel_terms.specs.Statements.{optional_expression}
use Rattle.kernel_terms.specs.TableEntries.{signal_at, channel_at, variable_at}
use Rattle.kernel_terms.specs.WellFormed.{Scope, is_emission, can_emit, is_variable_of, is_sender_of}
use Rattle.sj_ast.specs.declared.expression.Raw.{Raw}
use Rattle.sj_ast.specs.declared.test.Test.{Test}
use Rattle.sj_ast.specs.declared.statement.Form as form
use Rattle.sj_ast.specs.declared.statement.Block as block
use Rattle.sj_ast.specs.declared.statement.Stmt as stmt
use Rattle.sj_ast.specs.declared.statement.Form.TheOpen.{Form-F, Block-F, Stmt-F}
use Rattle.sj_ast.specs.declared.statement.Form.TheFolds.{fold-roll-Form, fold-roll-Block, fold-roll-Stmt, ind-Block}
use Rattle.sj_ast.specs.declared.statement.Form.TheVariants.{rolls-Abort, rolls-Assign, rolls-Await, rolls-Declare, rolls-Emit, rolls-Empty, rolls-Every, rolls-Exit, rolls-Halt, rolls-If, rolls-Loop, rolls-Par, rolls-Pause, rolls-Present, rolls-Receive, rolls-Send, rolls-Suspend, rolls-Sustain, rolls-Trap, rolls-Variable, rolls-While}
use Rattle.sj_ast.specs.declared.statement.Tree.{Tree}
use Rattle.sj_names.specs.declared.entry.TableEntry.{TableEntry}
use Rattle.sj_names.specs.definitions.FittingTrees.{Around, Fitted, FittingPart, ValueRules, term_scope, in_trap, with_local, at_start, alone, blocks_fit, stmts_fit, other_fits, fits_test, is_declared_variable, fits_form_layer, fits_block_layer, fits_stmt_layer, fits_form, fits_block, fits_stmt, fit_domains, fits_tree, uses_entries, value_uses_entries, entry_rules}
use Rattle.java_types.specs.definitions.Checks.{Checked, fine, map1, map2, map3, all_checked, where_given}
use Rattle.java_types.specs.definitions.FittingKinds.{kind_rules}
use Rattle.java_types.specs.declared.failure.TypeFailure.TheVariants as failure
use Rattle.java_types.specs.definitions.TypedTrees.{TypedForm, TypedBlock, TypedStmt, emission, emission_of, value_for, condition_of, update_of, form_layer, block_layer, stmt_layer, block_at, stmt_at, checked_form, checked_block, checked_stmt, port_failures, with_domains, checked_tree}
use Rattle.java_types.proofs.CheckParts.{Gives, given_fine, none_wrong, given_map, given_both, some_is, second_nil}
use Rattle.java_types.proofs.TypedExpressions.{both_true, left_true, right_true, rules_kept, value_given, condition_given, update_given}

abbrev SourceForm : Type 0
SourceForm = form.Form ℕ (Raw TableEntry)

abbrev SourceBlock : Type 0
SourceBlock = block.Block ℕ (Raw TableEntry)

abbrev SourceStmt : Type 0
SourceStmt = stmt.Stmt ℕ (Raw TableEntry)

map_twice : {X Y Z : Type 0} (f : X → Y) (g : Y → Z) (xs : List X) → map g (map f xs) ≡ map (λ x. g (f x)) xs
map_twice f g [] = refl
map_twice f g (x ∷ xs) = ap (λ l. g (f x) ∷ l) (map_twice f g xs)

-- the part fits, and this is around what is behind it
record FitsBefore (x : Fitted) (a : Around) : Type 0 where
  fits : x.fits ≡ true
  around : x.around ≡ a

module _ (t : Tables) where
  abbrev names : ValueRules (Raw TableEntry)
  names = entry_rules t

  abbrev kinds : ValueRules Expr
  kinds = kind_rules t

  abbrev OfForm : SourceForm → Type 0
  OfForm f = (a : Around) (v : TypedForm) → (fits_form t names f a).fits ≡ true → Gives (checked_form t f) v → FitsBefore (fits_form t kinds v a) (fits_form t names f a).around

  abbrev OfBlock : SourceBlock → Type 0
  OfBlock b = (a : Around) (v : TypedBlock) → (fits_block t names b a).fits ≡ true → Gives (checked_block t b) v → (fits_block t kinds v a).fits ≡ true

  abbrev OfStmt : SourceStmt → Type 0
  OfStmt s = (a : Around) (v : TypedStmt) → (fits_stmt t names s a).fits ≡ true → Gives (checked_stmt t s) v → FitsBefore (fits_stmt t kinds v a) (fits_stmt t names s a).around

  abbrev ProvedForm : Type 0
  ProvedForm = (f : SourceForm) × OfForm f

  abbrev ProvedBlock : Type 0
  ProvedBlock = (b : SourceBlock) × OfBlock b

  abbrev ProvedStmt : Type 0
  ProvedStmt = (s : SourceStmt) × OfStmt s

  -- lists of parts

  blocks_kept : (a : Around) (bs : List ProvedBlock) (vs : List TypedBlock) → blocks_fit (map (λ b. fits_block t names b.0) bs) a ≡ true → Gives (all_checked (map (λ b. checked_block t b.0) bs)) vs → blocks_fit (map (fits_block t kinds) vs) a ≡ true
  blocks_kept a [] vs h g = ap (λ l. blocks_fit (map (fits_block t kinds) l) a) (given_fine [] vs g)
  blocks_kept a (b ∷ bs) vs h g =
      let two = given_both (λ x xs. x ∷ xs) (checked_block t b.0) (all_checked (map (λ (c : ProvedBlock). checked_block t c.0) bs)) vs g in
      ap (λ l. blocks_fit (map (fits_block t kinds) l) a) two.is
      ∙ both_true (fits_block t kinds two.left a).fits (blocks_fit (map (fits_block t kinds) two.right) a)
      (b.1 a two.left (left_true (fits_block t names b.0 a).fits (blocks_fit (map (λ (c : ProvedBlock). fits_block t names c.0) bs) a) h) two.first)
      (blocks_kept a bs two.right (right_true (fits_block t names b.0 a).fits (blocks_fit (map (λ (c : ProvedBlock). fits_block t names c.0) bs) a) h) two.second)

  stmts_kept : (ss : List ProvedStmt) (a : Around) (vs : List TypedStmt) → stmts_fit (map (λ s. fits_stmt t names s.0) ss) a ≡ true → Gives (all_checked (map (λ s. checked_stmt t s.0) ss)) vs → stmts_fit (map (fits_stmt t kinds) vs) a ≡ true
  stmts_kept [] a vs h g = ap (λ l. stmts_fit (map (fits_stmt t kinds) l) a) (given_fine [] vs g)
  stmts_kept (s ∷ ss) a vs h g =
      let two = given_both (λ x xs. x ∷ xs) (checked_stmt t s.0) (all_checked (map (λ (c : ProvedStmt). checked_stmt t c.0) ss)) vs g in
      let head = s.1 a two.left (left_true (fits_stmt t names s.0 a).fits (stmts_fit (map (λ (c : ProvedStmt). fits_stmt t names c.0) ss) (fits_stmt t names s.0 a).around) h) two.first in
      ap (λ l. stmts_fit (map (fits_stmt t kinds) l) a) two.is
      ∙ both_true (fits_stmt t kinds two.left a).fits (stmts_fit (map (fits_stmt t kinds) two.right) (fits_stmt t kinds two.left a).around) head.fits
      (ap (stmts_fit (map (fits_stmt t kinds) two.right)) head.around
      ∙ stmts_kept ss (fits_stmt t names s.0 a).around two.right (right_true (fits_stmt t names s.0 a).fits (stmts_fit (map (λ (c : ProvedStmt). fits_stmt t names c.0) ss) (fits_stmt t names s.0 a).around) h) two.second)

  -- emissions

  abbrev emits : Scope → Option Kind → Option Expr → Bool
  emits scope k x = is_emission t scope k (optional_expression x) && given_divisors (optional_expression x)

  emission_kept : (scope : Scope) (at : ℕ) (k : Option Kind) (value : Option (Raw TableEntry)) (x : Option Expr) → value_uses_entries t scope value ≡ true → Gives (emission t at k value) x → emits scope k x ≡ true
  emission_kept scope at None None x h g = ap (emits scope None) (given_fine None x g)
  emission_kept scope at None (Some e) x h g = absurd (let v = g.value in cc)
  emission_kept scope at (Some k) None x h g = absurd (none_wrong (failure.Mismatch at) x g)
  emission_kept scope at (Some k) (Some e) x h g =
      let made = given_map Some (value_for t k e) x g in ap (emits scope (Some k)) made.is ∙ rules_kept t scope k made.part (value_given t scope k e made.part h made.gives)

  -- one layer

  abbrev kinds_of : Form-F ℕ Expr TypedForm TypedBlock TypedStmt → Form-F ℕ Expr FittingPart FittingPart FittingPart
  kinds_of = form.map-Form ℕ Expr TypedForm TypedBlock TypedStmt FittingPart FittingPart FittingPart (fits_form t kinds) (fits_block t kinds) (fits_stmt t kinds)

  rolled_fits : (z : Form-F ℕ Expr TypedForm TypedBlock TypedStmt) (w v : TypedForm) → v ≡ w → form.roll-Form ℕ Expr z ≡ w → (a b : Around) → FitsBefore (fits_form_layer t kinds (kinds_of z) a) b → FitsBefore (fits_form t kinds v a) b
  rolled_fits z w v e r a b s =
      subst (λ u. FitsBefore (fits_form t kinds u a) b) (r ∙ sym e)
      (subst (λ (p : FittingPart). FitsBefore (p a) b) (sym (fold-roll-Form ℕ Expr FittingPart FittingPart FittingPart (fits_form_layer t kinds) (fits_block_layer t kinds) (fits_stmt_layer t kinds) z)) s)

  fits_same : (x : Bool) (a : Around) → x ≡ true → FitsBefore (alone x a) a
  fits_same x a h = record { fits = h; around = refl }

  abbrev parts_of : Form-F ℕ (Raw TableEntry) ProvedForm ProvedBlock ProvedStmt → Form-F ℕ (Raw TableEntry) FittingPart FittingPart FittingPart
  parts_of = form.map-Form ℕ (Raw TableEntry) ProvedForm ProvedBlock ProvedStmt FittingPart FittingPart FittingPart (λ f. fits_form t names f.0) (λ b. fits_block t names b.0) (λ s. fits_stmt t names s.0)

  abbrev checks_of : Form-F ℕ (Raw TableEntry) ProvedForm ProvedBlock ProvedStmt → Form-F ℕ (Raw TableEntry) (Checked TypedForm) (Checked TypedBlock) (Checked TypedStmt)
  checks_of = form.map-Form ℕ (Raw TableEntry) ProvedForm ProvedBlock ProvedStmt (Checked TypedForm) (Checked TypedBlock) (Checked TypedStmt) (λ f. checked_form t f.0) (λ b. checked_block t b.0) (λ s. checked_stmt t s.0)

  abbrev plain_of : Form-F ℕ (Raw TableEntry) ProvedForm ProvedBlock ProvedStmt → Form-F ℕ (Raw TableEntry) SourceForm SourceBlock SourceStmt
  plain_of = form.map-Form ℕ (Raw TableEntry) ProvedForm ProvedBlock ProvedStmt SourceForm SourceBlock SourceStmt (λ f. f.0) (λ b. b.0) (λ s. s.0)

  -- a signal is emitted

  emit_fits : (at n : ℕ) (value : Option (Raw TableEntry)) (a : Around) (v : TypedForm) → (can_emit t (term_scope a) n && value_uses_entries t (term_scope a) value) ≡ true → Gives (map1 (form.Emit at n) (emission_of t at n value)) v → FitsBefore (fits_form t kinds v a) a
  emit_fits at n value a v h g =
      let made = given_map (form.Emit at n) (emission_of t at n value) v g in
      split made.part made.is
      (both_true (can_emit t (term_scope a) n) (emits (term_scope a) (signal_at t n).kind made.part) (left_true (can_emit t (term_scope a) n) (value_uses_entries t (term_scope a) value) h)
      (emission_kept (term_scope a) at (signal_at t n).kind value made.part (right_true (can_emit t (term_scope a) n) (value_uses_entries t (term_scope a) value) h) made.gives))
    where
      split : (x : Option Expr) → v ≡ form.Emit at n x → (can_emit t (term_scope a) n && emits (term_scope a) (signal_at t n).kind x) ≡ true → FitsBefore (fits_form t kinds v a) a
      split None e i = rolled_fits (Form-F.Emit at n None) (form.Emit at n None) v e (rolls-Emit at n None) a a (record { fits = i; around = refl })
      split (Some x) e i = rolled_fits (Form-F.Emit at n (Some x)) (form.Emit at n (Some x)) v e (rolls-Emit at n (Some x)) a a (record { fits = i; around = refl })

  sustain_fits : (at n : ℕ) (value : Option (Raw TableEntry)) (a : Around) (v : TypedForm) → (can_emit t (term_scope a) n && value_uses_entries t (term_scope a) value) ≡ true → Gives (map1 (form.Sustain at n) (emission_of t at n value)) v → FitsBefore (fits_form t kinds v a) a
  sustain_fits at n value a v h g =
      let made = given_map (form.Sustain at n) (emission_of t at n value) v g in
      split made.part made.is
      (both_true (can_emit t (term_scope a) n) (emits (term_scope a) (signal_at t n).kind made.part) (left_true (can_emit t (term_scope a) n) (value_uses_entries t (term_scope a) value) h)
      (emission_kept (term_scope a) at (signal_at t n).kind value made.part (right_true (can_emit t (term_scope a) n) (value_uses_entries t (term_scope a) value) h) made.gives))
    where
      split : (x : Option Expr) → v ≡ form.Sustain at n x → (can_emit t (term_scope a) n && emits (term_scope a) (signal_at t n).kind x) ≡ true → FitsBefore (fits_form t kinds v a) a
      split None e i = rolled_fits (Form-F.Sustain at n None) (form.Sustain at n None) v e (rolls-Sustain at n None) a a (record { fits = i; around = refl })
      split (Some x) e i = rolled_fits (Form-F.Sustain at n (Some x)) (form.Sustain at n (Some x)) v e (rolls-Sustain at n (Some x)) a a (record { fits = i; around = refl })

  -- a choice

  other_kept : (a : Around) (other : Option ProvedBlock) (x : Option TypedBlock) → other_fits (option_map (λ b. fits_block t names b.0) other) a ≡ true → Gives (where_given (option_map (λ b. checked_block t b.0) other)) x → other_fits (option_map (fits_block t kinds) x) a ≡ true
  other_kept a None x h g = ap (λ o. other_fits (option_map (fits_block t kinds) o) a) (given_fine None x g)
  other_kept a (Some b) x h g =
      let made = given_map Some (checked_block t b.0) x g in ap (λ o. other_fits (option_map (fits_block t kinds) o) a) made.is ∙ b.1 a made.part h made.gives

  if_rolled : (cond : Expr) (first : TypedBlock) (other : Option TypedBlock) (a : Around) (v : TypedForm) → v ≡ form.If cond first other → (kinds.given (term_scope a) kind.Boolean cond && ((fits_block t kinds first a).fits && other_fits (option_map (fits_block t kinds) other) a)) ≡ true → FitsBefore (fits_form t kinds v a) a
  if_rolled cond first None a v e i = rolled_fits (Form-F.If cond first None) (form.If cond first None) v e (rolls-If cond first None) a a (record { fits = i; around = refl })
  if_rolled cond first (Some other) a v e i = rolled_fits (Form-F.If cond first (Some other)) (form.If cond first (Some other)) v e (rolls-If cond first (Some other)) a a (record { fits = i; around = refl })

  present_rolled : (test : Test ℕ) (first : TypedBlock) (other : Option TypedBlock) (a : Around) (v : TypedForm) → v ≡ form.Present test first other → (fits_test t (term_scope a) test && ((fits_block t kinds first a).fits && other_fits (option_map (fits_block t kinds) other) a)) ≡ true → FitsBefore (fits_form t kinds v a) a
  present_rolled test first None a v e i = rolled_fits (Form-F.Present test first None) (form.Present test first None) v e (rolls-Present test first None) a a (record { fits = i; around = refl })
  present_rolled test first (Some other) a v e i = rolled_fits (Form-F.Present test first (Some other)) (form.Present test first (Some other)) v e (rolls-Present test first (Some other)) a a (record { fits = i; around = refl })

  if_fits : (cond : Raw TableEntry) (first : ProvedBlock) (other : Option ProvedBlock) (a : Around) (v : TypedForm)
      → (uses_entries t (term_scope a) cond && ((fits_block t names first.0 a).fits && other_fits (option_map (λ b. fits_block t names b.0) other) a)) ≡ true
      → Gives (map3 form.If (condition_of t cond) (checked_block t first.0) (where_given (option_map (λ b. checked_block t b.0) other))) v → FitsBefore (fits_form t kinds v a) a
  if_fits cond first other a v h g =
      let outer = given_both (λ f z. f z) (map2 form.If (condition_of t cond) (checked_block t first.0)) (where_given (option_map (λ (b : ProvedBlock). checked_block t b.0) other)) v g in
      let inner = given_both form.If (condition_of t cond) (checked_block t first.0) outer.left outer.first in
      let uses = left_true (uses_entries t (term_scope a) cond) ((fits_block t names first.0 a).fits && other_fits (option_map (λ (b : ProvedBlock). fits_block t names b.0) other) a) h in
      let blocks = right_true (uses_entries t (term_scope a) cond) ((fits_block t names first.0 a).fits && other_fits (option_map (λ (b : ProvedBlock). fits_block t names b.0) other) a) h in
      let one = left_true (fits_block t names first.0 a).fits (other_fits (option_map (λ (b : ProvedBlock). fits_block t names b.0) other) a) blocks in
      let two = right_true (fits_block t names first.0 a).fits (other_fits (option_map (λ (b : ProvedBlock). fits_block t names b.0) other) a) blocks in
      if_rolled inner.left inner.right outer.right a v (outer.is ∙ ap (λ f. f outer.right) inner.is)
      (both_true (kinds.given (term_scope a) kind.Boolean inner.left) ((fits_block t kinds inner.right a).fits && other_fits (option_map (fits_block t kinds) outer.right) a)
      (rules_kept t (term_scope a) kind.Boolean inner.left (condition_given t (term_scope a) cond inner.left uses inner.first))
      (both_true (fits_block t kinds inner.right a).fits (other_fits (option_map (fits_block t kinds) outer.right) a) (first.1 a inner.right one inner.second) (other_kept a other outer.right two outer.second)))

  present_fits : (test : Test ℕ) (first : ProvedBlock) (other : Option ProvedBlock) (a : Around) (v : TypedForm)
      → (fits_test t (term_scope a) test && ((fits_block t names first.0 a).fits && other_fits (option_map (λ b. fits_block t names b.0) other) a)) ≡ true
      → Gives (map2 (form.Present test) (checked_block t first.0) (where_given (option_map (λ b. checked_block t b.0) other))) v → FitsBefore (fits_form t kinds v a) a
  present_fits test first other a v h g =
      let inner = given_both (form.Present test) (checked_block t first.0) (where_given (option_map (λ (b : ProvedBlock). checked_block t b.0) other)) v g in
      let uses = left_true (fits_test t (term_scope a) test) ((fits_block t names first.0 a).fits && other_fits (option_map (λ (b : ProvedBlock). fits_block t names b.0) other) a) h in
      let blocks = right_true (fits_test t (term_scope a) test) ((fits_block t names first.0 a).fits && other_fits (option_map (λ (b : ProvedBlock). fits_block t names b.0) other) a) h in
      let one = left_true (fits_block t names first.0 a).fits (other_fits (option_map (λ (b : ProvedBlock). fits_block t names b.0) other) a) blocks in
      let two = right_true (fits_block t names first.0 a).fits (other_fits (option_map (λ (b : ProvedBlock). fits_block t names b.0) other) a) blocks in
      present_rolled test inner.left inner.right a v inner.is
      (both_true (fits_test t (term_scope a) test) ((fits_block t kinds inner.left a).fits && other_fits (option_map (fits_block t kinds) inner.right) a) uses
      (both_true (fits_block t kinds inner.left a).fits (other_fits (option_map (fits_block t kinds) inner.right) a) (first.1 a inner.left one inner.first) (other_kept a other inner.right two inner.second)))

  form_step : (y : Form-F ℕ (Raw TableEntry) ProvedForm ProvedBlock ProvedStmt) (a : Around) (v : TypedForm) → (fits_form_layer t names (parts_of y) a).fits ≡ true → Gives (form_layer t (checks_of y)) v → FitsBefore (fits_form t kinds v a) (fits_form_layer t names (parts_of y) a).around
  form_step Form-F.Empty a v h g = rolled_fits Form-F.Empty form.Empty v (given_fine form.Empty v g) rolls-Empty a a (record { fits = refl; around = refl })
  form_step Form-F.Pause a v h g = rolled_fits Form-F.Pause form.Pause v (given_fine form.Pause v g) rolls-Pause a a (record { fits = refl; around = refl })
  form_step Form-F.Halt a v h g = rolled_fits Form-F.Halt form.Halt v (given_fine form.Halt v g) rolls-Halt a a (record { fits = refl; around = refl })
  form_step (Form-F.Exit at n) a v h g = rolled_fits (Form-F.Exit at n) (form.Exit at n) v (given_fine (form.Exit at n) v g) (rolls-Exit at n) a a (record { fits = h; around = refl })
  form_step (Form-F.Receive at n) a v h g = rolled_fits (Form-F.Receive at n) (form.Receive at n) v (given_fine (form.Receive at n) v g) (rolls-Receive at n) a a (record { fits = h; around = refl })
  form_step (Form-F.Await immediate test) a v h g = rolled_fits (Form-F.Await immediate test) (form.Await immediate test) v (given_fine (form.Await immediate test) v g) (rolls-Await immediate test) a a (record { fits = h; around = refl })
  form_step (Form-F.Declare signal) a v h g = rolled_fits (Form-F.Declare signal) (form.Declare signal) v (some_is (form.Declare signal) v g.value) (rolls-Declare signal) a (with_local signal.name a) (record { fits = h; around = refl })
  form_step (Form-F.Emit at n None) a v h g = emit_fits at n None a v h g
  form_step (Form-F.Emit at n (Some e)) a v h g = emit_fits at n (Some e) a v h g
  form_step (Form-F.Sustain at n None) a v h g = sustain_fits at n None a v h g
  form_step (Form-F.Sustain at n (Some e)) a v h g = sustain_fits at n (Some e) a v h g
  form_step (Form-F.Par first others) a v h g =
      let two = given_both form.Par (checked_block t first.0) (all_checked (map (λ (b : ProvedBlock). checked_block t b.0) others)) v g in
      rolled_fits (Form-F.Par two.left two.right) (form.Par two.left two.right) v two.is (rolls-Par two.left two.right) a a
      (record {
        fits = both_true (fits_block t kinds two.left a).fits (blocks_fit (map (fits_block t kinds) two.right) a)
            (first.1 a two.left (left_true (fits_block t names first.0 a).fits (blocks_fit (map (λ (b : ProvedBlock). fits_block t names b.0) others) a) h) two.first)
            (blocks_kept a others two.right (right_true (fits_block t names first.0 a).fits (blocks_fit (map (λ (b : ProvedBlock). fits_block t names b.0) others) a) h) two.second);
        around = refl;
      })
  form_step (Form-F.Variable k at n value) a v h g =
      let made = given_map (form.Variable k at n) (value_for t k value) v g in
      rolled_fits (Form-F.Variable k at n made.part) (form.Variable k at n made.part) v made.is (rolls-Variable k at n made.part) a a
      (record {
        fits = both_true (is_declared_variable t a.domain k n) (kinds.given (term_scope a) k made.part) (left_true (is_declared_variable t a.domain k n) (uses_entries t (term_scope a) value) h)
            (rules_kept t (term_scope a) k made.part (value_given t (term_scope a) k value made.part (right_true (is_declared_variable t a.domain k n) (uses_entries t (term_scope a) value) h) made.gives));
        around = refl;
      })
  form_step (Form-F.Assign at n value) a v h g =
      let made = given_map (form.Assign at n) (value_for t (variable_at t n).kind value) v g in
      rolled_fits (Form-F.Assign at n made.part) (form.Assign at n made.part) v made.is (rolls-Assign at n made.part) a a
      (record {
        fits = both_true (is_variable_of t a.domain n) (kinds.given (term_scope a) (variable_at t n).kind made.part) (left_true (is_variable_of t a.domain n) (uses_entries t (term_scope a) value) h)
            (rules_kept t (term_scope a) (variable_at t n).kind made.part (value_given t (term_scope a) (variable_at t n).kind value made.part (right_true (is_variable_of t a.domain n) (uses_entries t (term_scope a) value) h) made.gives));
        around = refl;
      })
  form_step (Form-F.Send at n value) a v h g =
      let made = given_map (form.Send at n) (value_for t (channel_at t n).kind value) v g in
      rolled_fits (Form-F.Send at n made.part) (form.Send at n made.part) v made.is (rolls-Send at n made.part) a a
      (record {
        fits = both_true (is_sender_of t a.domain n) (kinds.given (term_scope a) (channel_at t n).kind made.part) (left_true (is_sender_of t a.domain n) (uses_entries t (term_scope a) value) h)
            (rules_kept t (term_scope a) (channel_at t n).kind made.part (value_given t (term_scope a) (channel_at t n).kind value made.part (right_true (is_sender_of t a.domain n) (uses_entries t (term_scope a) value) h) made.gives));
        around = refl;
      })
  form_step (Form-F.Update at n sign_at op value) a v h g =
      let made = given_map (form.Assign at n) (update_of t n sign_at op value) v g in
      let is_own = left_true (is_variable_of t a.domain n) (uses_entries t (term_scope a) value) h in
      rolled_fits (Form-F.Assign at n made.part) (form.Assign at n made.part) v made.is (rolls-Assign at n made.part) a a
      (record {
        fits = both_true (is_variable_of t a.domain n) (kinds.given (term_scope a) (variable_at t n).kind made.part) is_own
            (rules_kept t (term_scope a) (variable_at t n).kind made.part (update_given t (term_scope a) n sign_at op value made.part is_own (right_true (is_variable_of t a.domain n) (uses_entries t (term_scope a) value) h) made.gives));
        around = refl;
      })
  form_step (Form-F.If cond first None) a v h g = if_fits cond first None a v h g
  form_step (Form-F.If cond first (Some other)) a v h g = if_fits cond first (Some other) a v h g
  form_step (Form-F.Present test first None) a v h g = present_fits test first None a v h g
  form_step (Form-F.Present test first (Some other)) a v h g = present_fits test first (Some other) a v h g
  form_step (Form-F.While body) a v h g =
      let made = given_map form.While (checked_block t body.0) v g in
      rolled_fits (Form-F.While made.part) (form.While made.part) v made.is (rolls-While made.part) a a (record { fits = body.1 a made.part h made.gives; around = refl })
  form_step (Form-F.Trap at n body) a v h g =
      let made = given_map (form.Trap at n) (checked_block t body.0) v g in
      rolled_fits (Form-F.Trap at n made.part) (form.Trap at n made.part) v made.is (rolls-Trap at n made.part) a a (record { fits = body.1 (in_trap n a) made.part h made.gives; around = refl })
  form_step (Form-F.Abort weak immediate test body) a v h g =
      let made = given_map (form.Abort weak immediate test) (checked_block t body.0) v g in
      rolled_fits (Form-F.Abort weak immediate test made.part) (form.Abort weak immediate test made.part) v made.is (rolls-Abort weak immediate test made.part) a a
      (record {
        fits = both_true (fits_test t (term_scope a) test) (fits_block t kinds made.part a).fits (left_true (fits_test t (term_scope a) test) (fits_block t names body.0 a).fits h)
            (body.1 a made.part (right_true (fits_test t (term_scope a) test) (fits_block t names body.0 a).fits h) made.gives);
        around = refl;
      })
  form_step (Form-F.Suspend immediate test body) a v h g =
      let made = given_map (form.Suspend immediate test) (checked_block t body.0) v g in
      rolled_fits (Form-F.Suspend immediate test made.part) (form.Suspend immediate test made.part) v made.is (rolls-Suspend immediate test made.part) a a
      (record {
        fits = both_true (fits_test t (term_scope a) test) (fits_block t kinds made.part a).fits (left_true (fits_test t (term_scope a) test) (fits_block t names body.0 a).fits h)
            (body.1 a made.part (right_true (fits_test t (term_scope a) test) (fits_block t names body.0 a).fits h) made.gives);
        around = refl;
      })
  form_step (Form-F.Every immediate test body) a v h g =
      let made = given_map (form.Every immediate test) (checked_block t body.0) v g in
      rolled_fits (Form-F.Every immediate test made.part) (form.Every immediate test made.part) v made.is (rolls-Every immediate test made.part) a a
      (record {
        fits = both_true (fits_test t (term_scope a) test) (fits_block t kinds made.part a).fits (left_true (fits_test t (term_scope a) test) (fits_block t names body.0 a).fits h)
            (body.1 a made.part (right_true (fits_test t (term_scope a) test) (fits_block t names body.0 a).fits h) made.gives);
        around = refl;
      })
  form_step (Form-F.Loop body test) a v h g =
      let made = given_map (λ b. form.Loop b test) (checked_block t body.0) v g in
      rolled_fits (Form-F.Loop made.part test) (form.Loop made.part test) v made.is (rolls-Loop made.part test) a a
      (record {
        fits = both_true (fits_block t kinds made.part a).fits (fits_test t (term_scope a) test) (body.1 a made.part (left_true (fits_block t names body.0 a).fits (fits_test t (term_scope a) test) h) made.gives)
            (right_true (fits_block t names body.0 a).fits (fits_test t (term_scope a) test) h);
        around = refl;
      })

  same_parts : {P B S : Type 0} (f : SourceForm → P) (g : SourceBlock → B) (h : SourceStmt → S) (y : Form-F ℕ (Raw TableEntry) ProvedForm ProvedBlock ProvedStmt)
      → form.map-Form ℕ (Raw TableEntry) SourceForm SourceBlock SourceStmt P B S f g h (plain_of y) ≡ form.map-Form ℕ (Raw TableEntry) ProvedForm ProvedBlock ProvedStmt P B S (λ x. f x.0) (λ x. g x.0) (λ x. h x.0) y
  same_parts f g h (Form-F.Par first others) = ap (Form-F.Par (g first.0)) (map_twice (λ (b : ProvedBlock). b.0) g others)
  same_parts f g h Form-F.Empty = refl
  same_parts f g h Form-F.Pause = refl
  same_parts f g h Form-F.Halt = refl
  same_parts f g h (Form-F.Emit at n None) = refl
  same_parts f g h (Form-F.Emit at n (Some e)) = refl
  same_parts f g h (Form-F.Sustain at n None) = refl
  same_parts f g h (Form-F.Sustain at n (Some e)) = refl
  same_parts f g h (Form-F.Declare signal) = refl
  same_parts f g h (Form-F.Variable k at n value) = refl
  same_parts f g h (Form-F.Assign at n value) = refl
  same_parts f g h (Form-F.Update at n sign_at op value) = refl
  same_parts f g h (Form-F.If cond first None) = refl
  same_parts f g h (Form-F.If cond first (Some other)) = refl
  same_parts f g h (Form-F.Present test first None) = refl
  same_parts f g h (Form-F.Present test first (Some other)) = refl
  same_parts f g h (Form-F.While body) = refl
  same_parts f g h (Form-F.Abort weak immediate test body) = refl
  same_parts f g h (Form-F.Suspend immediate test body) = refl
  same_parts f g h (Form-F.Trap at n body) = refl
  same_parts f g h (Form-F.Exit at n) = refl
  same_parts f g h (Form-F.Send at n value) = refl
  same_parts f g h (Form-F.Receive at n) = refl
  same_parts f g h (Form-F.Await immediate test) = refl
  same_parts f g h (Form-F.Every immediate test body) = refl
  same_parts f g h (Form-F.Loop body test) = refl

  form_of : (y : Form-F ℕ (Raw TableEntry) ProvedForm ProvedBlock ProvedStmt) → OfForm (form.roll-Form ℕ (Raw TableEntry) (plain_of y))
  form_of y a v h g =
      let fit = fold-roll-Form ℕ (Raw TableEntry) FittingPart FittingPart FittingPart (fits_form_layer t names) (fits_block_layer t names) (fits_stmt_layer t names) (plain_of y) ∙ ap (fits_form_layer t names) (same_parts (fits_form t names) (fits_block t names) (fits_stmt t names) y) in
      let check = fold-roll-Form ℕ (Raw TableEntry) (Checked TypedForm) (Checked TypedBlock) (Checked TypedStmt) (form_layer t) block_layer stmt_layer (plain_of y) ∙ ap (form_layer t) (same_parts (checked_form t) (checked_block t) (checked_stmt t) y) in
      subst (λ (p : FittingPart). FitsBefore (fits_form t kinds v a) (p a).around) (sym fit) (form_step y a v (ap (λ (p : FittingPart). (p a).fits) (sym fit) ∙ h) (subst (λ c. Gives c v) check g))

  abbrev plain_block : Block-F ℕ (Raw TableEntry) ProvedForm ProvedBlock ProvedStmt → Block-F ℕ (Raw TableEntry) SourceForm SourceBlock SourceStmt
  plain_block = block.map-Block ℕ (Raw TableEntry) ProvedForm ProvedBlock ProvedStmt SourceForm SourceBlock SourceStmt (λ f. f.0) (λ b. b.0) (λ s. s.0)

  block_of : (y : Block-F ℕ (Raw TableEntry) ProvedForm ProvedBlock ProvedStmt) → OfBlock (block.roll-Block ℕ (Raw TableEntry) (plain_block y))
  block_of y a v h g =
      let fit = fold-roll-Block ℕ (Raw TableEntry) FittingPart FittingPart FittingPart (fits_form_layer t names) (fits_block_layer t names) (fits_stmt_layer t names) (plain_block y) in
      let fitting = ap (λ (p : FittingPart). (p a).fits) fit ∙ ap (λ l. stmts_fit l a) (map_twice (λ (s : ProvedStmt). s.0) (fits_stmt t names) y.statements) in
      let check = fold-roll-Block ℕ (Raw TableEntry) (Checked TypedForm) (Checked TypedBlock) (Checked TypedStmt) (form_layer t) block_layer stmt_layer (plain_block y)
      ∙ ap (λ l. map1 (block_at y.at) (all_checked l)) (map_twice (λ (s : ProvedStmt). s.0) (checked_stmt t) y.statements) in
      let made = given_map (block_at y.at) (all_checked (map (λ (s : ProvedStmt). checked_stmt t s.0) y.statements)) v (subst (λ c. Gives c v) check g) in
      ap (λ u. (fits_block t kinds u a).fits) made.is
      ∙ ap (λ (p : FittingPart). (p a).fits) (fold-roll-Block ℕ Expr FittingPart FittingPart FittingPart (fits_form_layer t kinds) (fits_block_layer t kinds) (fits_stmt_layer t kinds) (record { at = y.at; statements = made.part }))
      ∙ stmts_kept y.statements a made.part (sym fitting ∙ h) made.gives

  abbrev plain_stmt : Stmt-F ℕ (Raw TableEntry) ProvedForm ProvedBlock ProvedStmt → Stmt-F ℕ (Raw TableEntry) SourceForm SourceBlock SourceStmt
  plain_stmt = stmt.map-Stmt ℕ (Raw TableEntry) ProvedForm ProvedBlock ProvedStmt SourceForm SourceBlock SourceStmt (λ f. f.0) (λ b. b.0) (λ s. s.0)

  stmt_of : (y : Stmt-F ℕ (Raw TableEntry) ProvedForm ProvedBlock ProvedStmt) → OfStmt (stmt.roll-Stmt ℕ (Raw TableEntry) (plain_stmt y))
  stmt_of y a v h g =
      let fit = fold-roll-Stmt ℕ (Raw TableEntry) FittingPart FittingPart FittingPart (fits_form_layer t names) (fits_block_layer t names) (fits_stmt_layer t names) (plain_stmt y) in
      let check = fold-roll-Stmt ℕ (Raw TableEntry) (Checked TypedForm) (Checked TypedBlock) (Checked TypedStmt) (form_layer t) block_layer stmt_layer (plain_stmt y) in
      let made = given_map (stmt_at y.at) (checked_form t y.form.0) v (subst (λ c. Gives c v) check g) in
      let inner = y.form.1 a made.part (ap (λ (p : FittingPart). (p a).fits) (sym fit) ∙ h) made.gives in
      let whole = ap (λ u. fits_stmt t kinds u a) made.is ∙ ap (λ (p : FittingPart). p a) (fold-roll-Stmt ℕ Expr FittingPart FittingPart FittingPart (fits_form_layer t kinds) (fits_block_layer t kinds) (fits_stmt_layer t kinds) (record { at = y.at; form = made.part })) in
      record { fits = ap (λ (x : Fitted). x.fits) whole ∙ inner.fits; around = ap (λ (x : Fitted). x.around) whole ∙ inner.around ∙ ap (λ (p : FittingPart). (p a).around) (sym fit) }

  block_kept : (b : SourceBlock) → OfBlock b
  block_kept =
      ind-Block ℕ (Raw TableEntry) OfForm OfBlock OfStmt (λ x y is. subst (λ z. OfForm (form.roll-Form ℕ (Raw TableEntry) z)) is (form_of y)) (λ x y is. subst (λ z. OfBlock (block.roll-Block ℕ (Raw TableEntry) z)) is (block_of y))
      (λ x y is. subst (λ z. OfStmt (stmt.roll-Stmt ℕ (Raw TableEntry) z)) is (stmt_of y))

  -- domains and the tree

  domains_kept : (d : ℕ) (bs : List SourceBlock) (vs : List TypedBlock) → fit_domains t names d bs ≡ true → Gives (all_checked (map (checked_block t) bs)) vs → fit_domains t kinds d vs ≡ true
  domains_kept d [] vs h g = ap (fit_domains t kinds d) (given_fine [] vs g)
  domains_kept d (b ∷ bs) vs h g =
      let two = given_both (λ x xs. x ∷ xs) (checked_block t b) (all_checked (map (checked_block t) bs)) vs g in
      ap (fit_domains t kinds d) two.is
      ∙ both_true (fits_block t kinds two.left (at_start d)).fits (fit_domains t kinds (suc d) two.right)
      (block_kept b (at_start d) two.left (left_true (fits_block t names b (at_start d)).fits (fit_domains t names (suc d) bs) h) two.first)
      (domains_kept (suc d) bs two.right (right_true (fits_block t names b (at_start d)).fits (fit_domains t names (suc d) bs) h) two.second)

  pub tree_kept : (tree : Tree ℕ (Raw TableEntry)) (v : Tree ℕ Expr) → fits_tree t names tree ≡ true → checked_tree t tree ≡ fine v → fits_tree t kinds v ≡ true
  tree_kept tree v h c =
      let checks = map1 (with_domains tree.ports) (all_checked (map (checked_block t) tree.domains)) in
      let gives : Gives checks v = record { failures = second_nil (flat_map port_failures tree.ports) checks.failures (ap (λ (x : Checked (Tree ℕ Expr)). x.failures) c); value = ap (λ (x : Checked (Tree ℕ Expr)). x.value) c } in
      let made = given_map (with_domains tree.ports) (all_checked (map (checked_block t) tree.domains)) v gives in
      ap (fits_tree t kinds) made.is ∙ domains_kept 0 tree.domains made.part h made.gives
