-- What each domain of a tree declares, and what its names stand for, in the tables.
use Rattle.std.proofs.Common.{◌≡◌, ℕ, List, [], ◌∷◌, map, Some, None, ap, refl, sym, ◌∙◌, subst}
use Rattle.std.specs.Prelude.{Option}
use Rattle.kernel_terms.specs.declared.tables.Tables.{Tables}
use Rattle.sj_ast.specs.declared.name.Name.{Name}
use Rattle.sj_ast.specs.declared.expression.Raw.{Raw}
use Rattle.sj_ast.specs.declared.statement.Form as form
use Rattle.sj_ast.specs.declared.statement.Block as block
use Rattle.sj_ast.specs.declared.statement.Stmt as stmt
use Rattle.sj_ast.specs.declared.statement.Form.{Form}
use Rattle.sj_ast.specs.declared.statement.Block.{Block}
use Rattle.sj_ast.specs.declared.statement.Stmt.{Stmt}
use Rattle.sj_ast.specs.declared.statement.Form.TheOpen.{Form-F, Block-F, Stmt-F}
use Rattle.sj_ast.specs.declared.statement.Form.TheFolds.{fold-Form, fold-roll-Form, fold-roll-Block, fold-roll-Stmt, ind-Block, ind-Stmt}
use Rattle.sj_names.specs.declared.mention.Mention.{Mention}
use Rattle.sj_names.specs.definitions.Mentions.{NamedPart, silent, then, in_order, closed, expression_mentions, test_mentions, read, read_where_given, form_layer, block_layer, stmt_layer, block_part, stmt_part}
use Rattle.sj_names.specs.definitions.DeclaredTables.{Declared, nothing, both, all, declared_form_layer, declared_block_layer, declared_stmt_layer, declared_form, declared_block, declared_stmt}
use Rattle.sj_names.proofs.EntryLemmas.{emit_read, send_read, receive_read, exit_read, variable_read, raw_read, tests_read}
use Rattle.sj_names.proofs.PartEntries.{Declares, declares_read, declares_silent, declares_then, declares_behind, declares_before, declares_closed, declares_signal, declares_trap, declares_variable}

abbrev pub SourceForm : Type 0
SourceForm = Form Name (Raw Name)

abbrev pub SourceBlock : Type 0
SourceBlock = Block Name (Raw Name)

abbrev pub SourceStmt : Type 0
SourceStmt = Stmt Name (Raw Name)

abbrev pub form_part : SourceForm → NamedPart
form_part = fold-Form Name (Raw Name) NamedPart NamedPart NamedPart form_layer block_layer stmt_layer

map_twice : {X Y Z : Type 0} (f : X → Y) (g : Y → Z) (xs : List X) → map g (map f xs) ≡ map (λ x. g (f x)) xs
map_twice f g [] = refl
map_twice f g (x ∷ xs) = ap (λ l. g (f x) ∷ l) (map_twice f g xs)

module _ (t : Tables) (ns : List (List Mention)) (d : ℕ) where
  abbrev OfForm : SourceForm → Type 0
  OfForm f = Declares t ns d (form_part f) (declared_form d f)

  abbrev OfBlock : SourceBlock → Type 0
  OfBlock b = Declares t ns d (block_part b) (declared_block d b)

  abbrev OfStmt : SourceStmt → Type 0
  OfStmt s = Declares t ns d (stmt_part s) (declared_stmt d s)

  abbrev ProvedForm : Type 0
  ProvedForm = (f : SourceForm) × OfForm f

  abbrev ProvedBlock : Type 0
  ProvedBlock = (b : SourceBlock) × OfBlock b

  abbrev ProvedStmt : Type 0
  ProvedStmt = (s : SourceStmt) × OfStmt s

  -- lists of parts, and a block that may be given

  blocks_in_order : (bs : List ProvedBlock) → Declares t ns d (in_order (map (λ b. block_part b.0) bs)) (all (map (λ b. declared_block d b.0) bs))
  blocks_in_order [] = declares_silent t ns d
  blocks_in_order (b ∷ bs) = declares_then t ns d (block_part b.0) (in_order (map (λ b. block_part b.0) bs)) (declared_block d b.0) (all (map (λ b. declared_block d b.0) bs)) b.1 (blocks_in_order bs)

  stmts_in_order : (ss : List ProvedStmt) → Declares t ns d (in_order (map (λ s. stmt_part s.0) ss)) (all (map (λ s. declared_stmt d s.0) ss))
  stmts_in_order [] = declares_silent t ns d
  stmts_in_order (s ∷ ss) = declares_then t ns d (stmt_part s.0) (in_order (map (λ s. stmt_part s.0) ss)) (declared_stmt d s.0) (all (map (λ s. declared_stmt d s.0) ss)) s.1 (stmts_in_order ss)

  value_given : (o : Option (Raw Name)) → Declares t ns d (read_where_given o) nothing
  value_given None = declares_silent t ns d
  value_given (Some e) = declares_read t ns d (expression_mentions e) (raw_read t ns d e)

  -- one layer

  abbrev parts_of : Form-F Name (Raw Name) ProvedForm ProvedBlock ProvedStmt → Form-F Name (Raw Name) NamedPart NamedPart NamedPart
  parts_of = form.map-Form Name (Raw Name) ProvedForm ProvedBlock ProvedStmt NamedPart NamedPart NamedPart (λ f. form_part f.0) (λ b. block_part b.0) (λ s. stmt_part s.0)

  abbrev declared_of : Form-F Name (Raw Name) ProvedForm ProvedBlock ProvedStmt → Form-F Name (Raw Name) Declared Declared Declared
  declared_of = form.map-Form Name (Raw Name) ProvedForm ProvedBlock ProvedStmt Declared Declared Declared (λ f. declared_form d f.0) (λ b. declared_block d b.0) (λ s. declared_stmt d s.0)

  abbrev plain_of : Form-F Name (Raw Name) ProvedForm ProvedBlock ProvedStmt → Form-F Name (Raw Name) SourceForm SourceBlock SourceStmt
  plain_of = form.map-Form Name (Raw Name) ProvedForm ProvedBlock ProvedStmt SourceForm SourceBlock SourceStmt (λ f. f.0) (λ b. b.0) (λ s. s.0)

  form_step : (y : Form-F Name (Raw Name) ProvedForm ProvedBlock ProvedStmt) → Declares t ns d (form_layer (parts_of y)) (declared_form_layer d (declared_of y))
  form_step Form-F.Empty = declares_silent t ns d
  form_step (Form-F.Par first others) = declares_then t ns d (block_part first.0) (in_order (map (λ b. block_part b.0) others)) (declared_block d first.0) (all (map (λ b. declared_block d b.0) others)) first.1 (blocks_in_order others)
  form_step Form-F.Pause = declares_silent t ns d
  form_step Form-F.Halt = declares_silent t ns d
  form_step (Form-F.Emit at name value) = declares_behind t ns d _ (read_where_given value) nothing (emit_read t ns d name) (value_given value)
  form_step (Form-F.Sustain at name value) = declares_behind t ns d _ (read_where_given value) nothing (emit_read t ns d name) (value_given value)
  form_step (Form-F.Declare signal) = declares_signal t ns d signal
  form_step (Form-F.Variable kind at name value) = declares_variable t ns d kind name value
  form_step (Form-F.Assign at name value) = declares_behind t ns d _ (read value) nothing (variable_read t ns d name) (declares_read t ns d (expression_mentions value) (raw_read t ns d value))
  form_step (Form-F.Update at name sign_at op value) = declares_behind t ns d _ (read value) nothing (variable_read t ns d name) (declares_read t ns d (expression_mentions value) (raw_read t ns d value))
  form_step (Form-F.If cond first None) =
      declares_behind t ns d (expression_mentions cond) (then (block_part first.0) silent) (both (declared_block d first.0) nothing) (raw_read t ns d cond) (declares_then t ns d (block_part first.0) silent (declared_block d first.0) nothing first.1 (declares_silent t ns d))
  form_step (Form-F.If cond first (Some other)) =
      declares_behind t ns d (expression_mentions cond) (then (block_part first.0) (block_part other.0)) (both (declared_block d first.0) (declared_block d other.0)) (raw_read t ns d cond)
      (declares_then t ns d (block_part first.0) (block_part other.0) (declared_block d first.0) (declared_block d other.0) first.1 other.1)
  form_step (Form-F.Present test first None) =
      declares_behind t ns d (test_mentions test) (then (block_part first.0) silent) (both (declared_block d first.0) nothing) (tests_read t ns d test) (declares_then t ns d (block_part first.0) silent (declared_block d first.0) nothing first.1 (declares_silent t ns d))
  form_step (Form-F.Present test first (Some other)) =
      declares_behind t ns d (test_mentions test) (then (block_part first.0) (block_part other.0)) (both (declared_block d first.0) (declared_block d other.0)) (tests_read t ns d test)
      (declares_then t ns d (block_part first.0) (block_part other.0) (declared_block d first.0) (declared_block d other.0) first.1 other.1)
  form_step (Form-F.While body) = body.1
  form_step (Form-F.Abort weak immediate test body) = declares_behind t ns d (test_mentions test) (block_part body.0) (declared_block d body.0) (tests_read t ns d test) body.1
  form_step (Form-F.Suspend immediate test body) = declares_behind t ns d (test_mentions test) (block_part body.0) (declared_block d body.0) (tests_read t ns d test) body.1
  form_step (Form-F.Trap at name body) = declares_closed t ns d _ (declared_block d body.0) (declares_then t ns d _ (block_part body.0) nothing (declared_block d body.0) (declares_trap t ns d name) body.1)
  form_step (Form-F.Exit at name) = declares_read t ns d _ (exit_read t ns d name)
  form_step (Form-F.Send at name value) = declares_behind t ns d _ (read value) nothing (send_read t ns d name) (declares_read t ns d (expression_mentions value) (raw_read t ns d value))
  form_step (Form-F.Receive at name) = declares_read t ns d _ (receive_read t ns d name)
  form_step (Form-F.Await immediate test) = declares_read t ns d (test_mentions test) (tests_read t ns d test)
  form_step (Form-F.Every immediate test body) = declares_behind t ns d (test_mentions test) (block_part body.0) (declared_block d body.0) (tests_read t ns d test) body.1
  form_step (Form-F.Loop body test) = declares_before t ns d (test_mentions test) (block_part body.0) (declared_block d body.0) body.1 (tests_read t ns d test)

  parts_same : (y : Form-F Name (Raw Name) ProvedForm ProvedBlock ProvedStmt) → form.map-Form Name (Raw Name) SourceForm SourceBlock SourceStmt NamedPart NamedPart NamedPart form_part block_part stmt_part (plain_of y) ≡ parts_of y
  parts_same (Form-F.Par first others) = ap (Form-F.Par (block_part first.0)) (map_twice (λ (b : ProvedBlock). b.0) block_part others)
  parts_same Form-F.Empty = refl
  parts_same Form-F.Pause = refl
  parts_same Form-F.Halt = refl
  parts_same (Form-F.Emit at name None) = refl
  parts_same (Form-F.Emit at name (Some value)) = refl
  parts_same (Form-F.Sustain at name None) = refl
  parts_same (Form-F.Sustain at name (Some value)) = refl
  parts_same (Form-F.Declare signal) = refl
  parts_same (Form-F.Variable kind at name value) = refl
  parts_same (Form-F.Assign at name value) = refl
  parts_same (Form-F.Update at name sign_at op value) = refl
  parts_same (Form-F.If cond first None) = refl
  parts_same (Form-F.If cond first (Some other)) = refl
  parts_same (Form-F.Present test first None) = refl
  parts_same (Form-F.Present test first (Some other)) = refl
  parts_same (Form-F.While body) = refl
  parts_same (Form-F.Abort weak immediate test body) = refl
  parts_same (Form-F.Suspend immediate test body) = refl
  parts_same (Form-F.Trap at name body) = refl
  parts_same (Form-F.Exit at name) = refl
  parts_same (Form-F.Send at name value) = refl
  parts_same (Form-F.Receive at name) = refl
  parts_same (Form-F.Await immediate test) = refl
  parts_same (Form-F.Every immediate test body) = refl
  parts_same (Form-F.Loop body test) = refl

  declared_same : (y : Form-F Name (Raw Name) ProvedForm ProvedBlock ProvedStmt) → form.map-Form Name (Raw Name) SourceForm SourceBlock SourceStmt Declared Declared Declared (declared_form d) (declared_block d) (declared_stmt d) (plain_of y) ≡ declared_of y
  declared_same (Form-F.Par first others) = ap (Form-F.Par (declared_block d first.0)) (map_twice (λ (b : ProvedBlock). b.0) (declared_block d) others)
  declared_same Form-F.Empty = refl
  declared_same Form-F.Pause = refl
  declared_same Form-F.Halt = refl
  declared_same (Form-F.Emit at name None) = refl
  declared_same (Form-F.Emit at name (Some value)) = refl
  declared_same (Form-F.Sustain at name None) = refl
  declared_same (Form-F.Sustain at name (Some value)) = refl
  declared_same (Form-F.Declare signal) = refl
  declared_same (Form-F.Variable kind at name value) = refl
  declared_same (Form-F.Assign at name value) = refl
  declared_same (Form-F.Update at name sign_at op value) = refl
  declared_same (Form-F.If cond first None) = refl
  declared_same (Form-F.If cond first (Some other)) = refl
  declared_same (Form-F.Present test first None) = refl
  declared_same (Form-F.Present test first (Some other)) = refl
  declared_same (Form-F.While body) = refl
  declared_same (Form-F.Abort weak immediate test body) = refl
  declared_same (Form-F.Suspend immediate test body) = refl
  declared_same (Form-F.Trap at name body) = refl
  declared_same (Form-F.Exit at name) = refl
  declared_same (Form-F.Send at name value) = refl
  declared_same (Form-F.Receive at name) = refl
  declared_same (Form-F.Await immediate test) = refl
  declared_same (Form-F.Every immediate test body) = refl
  declared_same (Form-F.Loop body test) = refl

  form_of : (y : Form-F Name (Raw Name) ProvedForm ProvedBlock ProvedStmt) → OfForm (form.roll-Form Name (Raw Name) (plain_of y))
  form_of y =
      subst (λ p. Declares t ns d p (declared_form d (form.roll-Form Name (Raw Name) (plain_of y)))) (sym (fold-roll-Form Name (Raw Name) NamedPart NamedPart NamedPart form_layer block_layer stmt_layer (plain_of y) ∙ ap form_layer (parts_same y)))
      (subst (Declares t ns d (form_layer (parts_of y))) (sym (fold-roll-Form Name (Raw Name) Declared Declared Declared (declared_form_layer d) declared_block_layer declared_stmt_layer (plain_of y) ∙ ap (declared_form_layer d) (declared_same y))) (form_step y))

  block_of : (y : Block-F Name (Raw Name) ProvedForm ProvedBlock ProvedStmt) → OfBlock (block.roll-Block Name (Raw Name) (block.map-Block Name (Raw Name) ProvedForm ProvedBlock ProvedStmt SourceForm SourceBlock SourceStmt (λ f. f.0) (λ b. b.0) (λ s. s.0) y))
  block_of y =
      subst (λ p. Declares t ns d p (declared_block d (block.roll-Block Name (Raw Name) (block.map-Block Name (Raw Name) ProvedForm ProvedBlock ProvedStmt SourceForm SourceBlock SourceStmt (λ f. f.0) (λ b. b.0) (λ s. s.0) y))))
      (sym (fold-roll-Block Name (Raw Name) NamedPart NamedPart NamedPart form_layer block_layer stmt_layer (block.map-Block Name (Raw Name) ProvedForm ProvedBlock ProvedStmt SourceForm SourceBlock SourceStmt (λ f. f.0) (λ b. b.0) (λ s. s.0) y)
      ∙ ap (λ l. closed (in_order l)) (map_twice (λ (s : ProvedStmt). s.0) stmt_part y.statements)))
      (subst (Declares t ns d (closed (in_order (map (λ (s : ProvedStmt). stmt_part s.0) y.statements))))
      (sym (fold-roll-Block Name (Raw Name) Declared Declared Declared (declared_form_layer d) declared_block_layer declared_stmt_layer (block.map-Block Name (Raw Name) ProvedForm ProvedBlock ProvedStmt SourceForm SourceBlock SourceStmt (λ f. f.0) (λ b. b.0) (λ s. s.0) y)
      ∙ ap all (map_twice (λ (s : ProvedStmt). s.0) (declared_stmt d) y.statements)))
      (declares_closed t ns d (in_order (map (λ (s : ProvedStmt). stmt_part s.0) y.statements)) (all (map (λ (s : ProvedStmt). declared_stmt d s.0) y.statements)) (stmts_in_order y.statements)))

  stmt_of : (y : Stmt-F Name (Raw Name) ProvedForm ProvedBlock ProvedStmt) → OfStmt (stmt.roll-Stmt Name (Raw Name) (stmt.map-Stmt Name (Raw Name) ProvedForm ProvedBlock ProvedStmt SourceForm SourceBlock SourceStmt (λ f. f.0) (λ b. b.0) (λ s. s.0) y))
  stmt_of y =
      subst (λ p. Declares t ns d p (declared_stmt d (stmt.roll-Stmt Name (Raw Name) (stmt.map-Stmt Name (Raw Name) ProvedForm ProvedBlock ProvedStmt SourceForm SourceBlock SourceStmt (λ f. f.0) (λ b. b.0) (λ s. s.0) y))))
      (sym (fold-roll-Stmt Name (Raw Name) NamedPart NamedPart NamedPart form_layer block_layer stmt_layer (stmt.map-Stmt Name (Raw Name) ProvedForm ProvedBlock ProvedStmt SourceForm SourceBlock SourceStmt (λ f. f.0) (λ b. b.0) (λ s. s.0) y)))
      (subst (Declares t ns d (form_part y.form.0))
      (sym (fold-roll-Stmt Name (Raw Name) Declared Declared Declared (declared_form_layer d) declared_block_layer declared_stmt_layer (stmt.map-Stmt Name (Raw Name) ProvedForm ProvedBlock ProvedStmt SourceForm SourceBlock SourceStmt (λ f. f.0) (λ b. b.0) (λ s. s.0) y)))
      y.form.1)

  pub block_declares : (b : SourceBlock) → Declares t ns d (block_part b) (declared_block d b)
  block_declares =
      ind-Block Name (Raw Name) OfForm OfBlock OfStmt (λ x y is. subst (λ z. OfForm (form.roll-Form Name (Raw Name) z)) is (form_of y)) (λ x y is. subst (λ z. OfBlock (block.roll-Block Name (Raw Name) z)) is (block_of y))
      (λ x y is. subst (λ z. OfStmt (stmt.roll-Stmt Name (Raw Name) z)) is (stmt_of y))

  pub stmt_declares : (s : SourceStmt) → Declares t ns d (stmt_part s) (declared_stmt d s)
  stmt_declares =
      ind-Stmt Name (Raw Name) OfForm OfBlock OfStmt (λ x y is. subst (λ z. OfForm (form.roll-Form Name (Raw Name) z)) is (form_of y)) (λ x y is. subst (λ z. OfBlock (block.roll-Block Name (Raw Name) z)) is (block_of y))
      (λ x y is. subst (λ z. OfStmt (stmt.roll-Stmt Name (Raw Name) z)) is (stmt_of y))
