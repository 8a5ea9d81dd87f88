-- The signals that a tree with numbers declares are those of the tables, each with its number.
use Rattle.std.proofs.Common.{◌≡◌, ℕ, suc, ◌+◌, List, [], ◌∷◌, ◌++◌, length, map, Some, None, ap, refl, sym, ◌∙◌, subst, arith}
use Rattle.std.specs.Prelude.{Option}
use Rattle.std.specs.List.{flat_map}
use Rattle.kernel_terms.specs.declared.tables.SignalInfo.{SignalInfo}
use Rattle.kernel_terms.specs.declared.tables.Tables.{Tables}
use Rattle.sj_ast.specs.declared.name.Name.{Name}
use Rattle.sj_ast.specs.declared.expression.Raw.{Raw}
use Rattle.sj_ast.specs.declared.port.Port.{Port}
use Rattle.sj_ast.specs.declared.port.Port.TheVariants as port
use Rattle.sj_ast.specs.declared.port.Signal.{Signal}
use Rattle.sj_ast.specs.declared.statement.Form as form
use Rattle.sj_ast.specs.declared.statement.Form.TheVariants as form_is
use Rattle.sj_ast.specs.declared.statement.Block as block
use Rattle.sj_ast.specs.declared.statement.Stmt as stmt
use Rattle.sj_ast.specs.declared.statement.Form.TheOpen.{Form-F, Block-F, Stmt-F}
use Rattle.sj_ast.specs.declared.statement.Form.TheFolds.{fold-roll-Form, fold-roll-Block, fold-roll-Stmt, ind-Block}
use Rattle.sj_ast.specs.declared.statement.Tree.{Tree}
use Rattle.sj_names.specs.declared.entry.TableEntry.{TableEntry}
use Rattle.sj_names.specs.declared.mention.Counts.{Counts}
use Rattle.sj_names.specs.declared.mention.Meaning.{Meaning}
use Rattle.sj_names.specs.declared.mention.Mention.{Mention}
use Rattle.sj_names.specs.declared.mention.NameSort.TheVariants as sort
use Rattle.sj_names.specs.declared.mention.Role.TheVariants as role
use Rattle.sj_names.specs.definitions.Scopes.{Scope, no_names, meaning_in, declare, declared_where}
use Rattle.sj_names.specs.definitions.Mentions.{NamedPart, mention, in_order, expression_mentions, test_mentions, form_layer, block_layer, stmt_layer, block_part, stmt_part, port_part, signal_sort, domain_mentions, interface_names, names_of_tree}
use Rattle.sj_names.specs.definitions.Failures.{own_failures, failures_of}
use Rattle.sj_names.specs.definitions.NumberedTrees.{NumberedForm, NumberedBlock, NumberedStmt, BlockPart, StmtPart, FormPart, number_of, numbered_expression, numbered_test, numbered_value, numbered_signal, blocks_in_order, stmts_in_order, numbered_form_layer, numbered_block_layer, numbered_stmt_layer, numbered_form, numbered_block, numbered_stmt, numbered_ports, numbered_tree}
use Rattle.sj_names.specs.definitions.DeclaredTables.{Declared, all, kind_of, combine_of, port_signals, declared_form_layer, declared_block_layer, declared_stmt_layer, declared_form, declared_block, declared_stmt, declared_domains, tables_of_tree}
use Rattle.sj_names.specs.definitions.DeclaredSignals.{DeclaredSignal, listed_from, one_list, form_signals_layer, block_signals_layer, stmt_signals_layer, signals_of_form, signals_of_block, signals_of_stmt, signals_of_port, AreDeclared}
use Rattle.sj_names.proofs.ListedNames.{empty_first, empty_second}
use Rattle.sj_names.proofs.PartEntries.{first_sound, second_sound, not_visible}
use Rattle.sj_names.proofs.DomainEntries.{SourceForm, SourceBlock, SourceStmt, form_part, block_declares, stmt_declares}
use Rattle.sj_names.proofs.PortEntries.{one_step, counts_new, number_of_signal, counted_signal}
use Rattle.sj_names.proofs.SoundLemmas.{no_failure, ports_of_tree}
use Rattle.sj_names.proofs.FitParts.{number_new}
use Rattle.sj_names.proofs.FitForms.{block_numbers_fit, stmt_numbers_fit}
use Rattle.sj_names.proofs.FitTrees.{ports_scope}

zero_more : (n : ℕ) → n + 0 ≡ n
zero_more n = omega arith

step_more : (n m : ℕ) → n + suc m ≡ suc n + m
step_more n m = omega arith

-- what stands in the tables from the number n on, and then from m on
two_lists : (n m : ℕ) (a b : List DeclaredSignal) (xs ys : List SignalInfo) → m ≡ n + length xs → a ≡ listed_from n xs → b ≡ listed_from m ys → a ++ b ≡ listed_from n (xs ++ ys)
two_lists n m a b [] ys i e f = ap (λ l. l ++ b) e ∙ f ∙ ap (λ k. listed_from k ys) (i ∙ zero_more n)
two_lists n m a b (x ∷ xs) ys i e f =
    ap (λ l. l ++ b) e ∙ ap (λ l. first ∷ l) (two_lists (suc n) m (listed_from (suc n) xs) b xs ys (i ∙ step_more n (length xs)) refl f)
  where
    first : DeclaredSignal
    first = record { number = n; kind = x.kind; combine = x.combine }

abbrev SourceLayer : Type 0
SourceLayer = Form-F Name (Raw Name) SourceForm SourceBlock SourceStmt

abbrev Layer : Type 0
Layer = Form-F ℕ (Raw TableEntry) NumberedForm NumberedBlock NumberedStmt

abbrev numbered_of : SourceLayer → Form-F Name (Raw Name) FormPart BlockPart StmtPart
numbered_of = form.map-Form Name (Raw Name) SourceForm SourceBlock SourceStmt FormPart BlockPart StmtPart numbered_form numbered_block numbered_stmt

abbrev signals : Layer → List DeclaredSignal
signals z = form_signals_layer (form.map-Form ℕ (Raw TableEntry) NumberedForm NumberedBlock NumberedStmt (List DeclaredSignal) (List DeclaredSignal) (List DeclaredSignal) signals_of_form signals_of_block signals_of_stmt z)

-- a trap is no signal
trap_counts : (o : Option Meaning) (name : List ℕ) (s : Scope) → (declared_where o sort.Trap name s).counts.signals ≡ s.counts.signals
trap_counts None name s = refl
trap_counts (Some m) name s = refl

-- the names have no failure by themselves
abbrev Own : List Mention → Type 0
Own ms = flat_map own_failures ms ≡ []

-- A part whose names have no failure declares the next numbers.
module _ (t : Tables) (d : ℕ) where
  abbrev OfForm : SourceForm → Type 0
  OfForm f = (s : Scope) → Own (form_part f s).mentions → signals_of_form (numbered_form f s).value ≡ listed_from s.counts.signals (declared_form d f).signals

  abbrev OfBlock : SourceBlock → Type 0
  OfBlock b = (s : Scope) → Own (block_part b s).mentions → signals_of_block (numbered_block b s).value ≡ listed_from s.counts.signals (declared_block d b).signals

  abbrev OfStmt : SourceStmt → Type 0
  OfStmt x = (s : Scope) → Own (stmt_part x s).mentions → signals_of_stmt (numbered_stmt x s).value ≡ listed_from s.counts.signals (declared_stmt d x).signals

  abbrev ProvedForm : Type 0
  ProvedForm = (f : SourceForm) × OfForm f

  abbrev ProvedBlock : Type 0
  ProvedBlock = (b : SourceBlock) × OfBlock b

  abbrev ProvedStmt : Type 0
  ProvedStmt = (x : SourceStmt) × OfStmt x

  abbrev blocks_of : List ProvedBlock → List SourceBlock
  blocks_of = map (λ b. b.0)

  abbrev stmts_of : List ProvedStmt → List SourceStmt
  stmts_of = map (λ x. x.0)

  -- a block or a statement, and what stands behind it

  block_then : (b : ProvedBlock) (s : Scope) (q : Scope → List DeclaredSignal) (ns : Scope → List Mention) (ys : List SignalInfo) → ((c : Scope) → Own (ns c) → q c ≡ listed_from c.counts.signals ys) → Own ((block_part b.0 s).mentions ++ ns (block_part b.0 s).scope)
      → signals_of_block (numbered_block b.0 s).value ++ q (numbered_block b.0 s).scope ≡ listed_from s.counts.signals ((declared_block d b.0).signals ++ ys)
  block_then b s q ns ys g h =
      let u = block_part b.0 s in
      let own = first_sound u.mentions (ns u.scope) h in
      two_lists s.counts.signals u.scope.counts.signals (signals_of_block (numbered_block b.0 s).value) (q (numbered_block b.0 s).scope) (declared_block d b.0).signals ys ((block_declares t [] d b.0).counts s own).signals (b.1 s own)
      (ap q ((block_numbers_fit t d b.0).scope s) ∙ g u.scope (second_sound u.mentions (ns u.scope) h))

  stmt_then : (x : ProvedStmt) (s : Scope) (q : Scope → List DeclaredSignal) (ns : Scope → List Mention) (ys : List SignalInfo) → ((c : Scope) → Own (ns c) → q c ≡ listed_from c.counts.signals ys) → Own ((stmt_part x.0 s).mentions ++ ns (stmt_part x.0 s).scope)
      → signals_of_stmt (numbered_stmt x.0 s).value ++ q (numbered_stmt x.0 s).scope ≡ listed_from s.counts.signals ((declared_stmt d x.0).signals ++ ys)
  stmt_then x s q ns ys g h =
      let u = stmt_part x.0 s in
      let own = first_sound u.mentions (ns u.scope) h in
      two_lists s.counts.signals u.scope.counts.signals (signals_of_stmt (numbered_stmt x.0 s).value) (q (numbered_stmt x.0 s).scope) (declared_stmt d x.0).signals ys ((stmt_declares t [] d x.0).counts s own).signals (x.1 s own)
      (ap q ((stmt_numbers_fit t d x.0).scope s) ∙ g u.scope (second_sound u.mentions (ns u.scope) h))

  all_blocks : (bs : List ProvedBlock) (s : Scope) → Own (in_order (map block_part (blocks_of bs)) s).mentions → one_list (map signals_of_block (blocks_in_order (map numbered_block (blocks_of bs)) s).value) ≡ listed_from s.counts.signals (all (map (declared_block d) (blocks_of bs))).signals
  all_blocks [] s h = refl
  all_blocks (b ∷ bs) s h =
      block_then b s (λ c. one_list (map signals_of_block (blocks_in_order (map numbered_block (blocks_of bs)) c).value)) (λ c. (in_order (map block_part (blocks_of bs)) c).mentions) (all (map (declared_block d) (blocks_of bs))).signals (λ c k. all_blocks bs c k) h

  all_stmts : (xs : List ProvedStmt) (s : Scope) → Own (in_order (map stmt_part (stmts_of xs)) s).mentions → one_list (map signals_of_stmt (stmts_in_order (map numbered_stmt (stmts_of xs)) s).value) ≡ listed_from s.counts.signals (all (map (declared_stmt d) (stmts_of xs))).signals
  all_stmts [] s h = refl
  all_stmts (x ∷ xs) s h =
      stmt_then x s (λ c. one_list (map signals_of_stmt (stmts_in_order (map numbered_stmt (stmts_of xs)) c).value)) (λ c. (in_order (map stmt_part (stmts_of xs)) c).mentions) (all (map (declared_stmt d) (stmts_of xs))).signals (λ c k. all_stmts xs c k) h

  -- a form by its layer

  abbrev source_signals : SourceLayer → List SignalInfo
  source_signals z = (declared_form_layer d (form.map-Form Name (Raw Name) SourceForm SourceBlock SourceStmt Declared Declared Declared (declared_form d) (declared_block d) (declared_stmt d) z)).signals

  abbrev source_names : SourceLayer → Scope → List Mention
  source_names z s = (form_layer (form.map-Form Name (Raw Name) SourceForm SourceBlock SourceStmt NamedPart NamedPart NamedPart form_part block_part stmt_part z) s).mentions

  -- the value that the layer has is that of another layer, whose parts declare the next numbers
  form_by : (z : SourceLayer) (l : Scope → Layer) → ((s : Scope) → form.roll-Form ℕ (Raw TableEntry) (l s) ≡ (numbered_form_layer (numbered_of z) s).value) → ((s : Scope) → Own (source_names z s) → signals (l s) ≡ listed_from s.counts.signals (source_signals z)) → OfForm (form.roll-Form Name (Raw Name) z)
  form_by z l r e s h =
      ap (λ (q : FormPart). signals_of_form (q s).value) (fold-roll-Form Name (Raw Name) FormPart BlockPart StmtPart numbered_form_layer numbered_block_layer numbered_stmt_layer z)
      ∙ ap signals_of_form (sym (r s))
      ∙ fold-roll-Form ℕ (Raw TableEntry) (List DeclaredSignal) (List DeclaredSignal) (List DeclaredSignal) form_signals_layer block_signals_layer stmt_signals_layer (l s)
      ∙ e s (subst (λ (p : NamedPart). Own (p s).mentions) (fold-roll-Form Name (Raw Name) NamedPart NamedPart NamedPart form_layer block_layer stmt_layer z) h)
      ∙ sym (ap (λ (x : Declared). listed_from s.counts.signals x.signals) (fold-roll-Form Name (Raw Name) Declared Declared Declared (declared_form_layer d) declared_block_layer declared_stmt_layer z))

  abbrev plain_of : Form-F Name (Raw Name) ProvedForm ProvedBlock ProvedStmt → SourceLayer
  plain_of = form.map-Form Name (Raw Name) ProvedForm ProvedBlock ProvedStmt SourceForm SourceBlock SourceStmt (λ f. f.0) (λ b. b.0) (λ x. x.0)

  one : (b : ProvedBlock) (s : Scope) → Own ((block_part b.0 s).mentions ++ []) → signals_of_block (numbered_block b.0 s).value ++ [] ≡ listed_from s.counts.signals ((declared_block d b.0).signals ++ [])
  one b s h = block_then b s (λ c. []) (λ c. []) [] (λ c k. refl) h

  two : (b c : ProvedBlock) (s : Scope) → Own ((block_part b.0 s).mentions ++ (block_part c.0 (block_part b.0 s).scope).mentions)
      → signals_of_block (numbered_block b.0 s).value ++ signals_of_block (numbered_block c.0 (numbered_block b.0 s).scope).value ≡ listed_from s.counts.signals ((declared_block d b.0).signals ++ (declared_block d c.0).signals)
  two b c s h = block_then b s (λ w. signals_of_block (numbered_block c.0 w).value) (λ w. (block_part c.0 w).mentions) (declared_block d c.0).signals c.1 h

  new_signal : (signal : Signal Name) (s : Scope) → Own (mention (role.Declare sort.Local) signal.name s ∷ []) → number_of (role.Declare sort.Local) signal.name s ≡ s.counts.signals
  new_signal signal s h = number_new t d sort.Local signal.name s (not_visible sort.Local signal.name s [] h)

  in_trap : (name : Name) (body : ProvedBlock) (s : Scope) → Own (mention (role.Declare sort.Trap) name s ∷ (block_part body.0 (declare sort.Trap name.text s)).mentions)
      → signals_of_block (numbered_block body.0 (declare sort.Trap name.text s)).value ≡ listed_from s.counts.signals (declared_block d body.0).signals
  in_trap name body s h =
      let w = declare sort.Trap name.text s in
      body.1 w (second_sound (mention (role.Declare sort.Trap) name s ∷ []) (block_part body.0 w).mentions h) ∙ ap (λ k. listed_from k (declared_block d body.0).signals) (trap_counts (meaning_in s.visible name.text) name.text s)

  form_step : (y : Form-F Name (Raw Name) ProvedForm ProvedBlock ProvedStmt) → OfForm (form.roll-Form Name (Raw Name) (plain_of y))
  form_step Form-F.Empty = form_by Form-F.Empty (λ s. Form-F.Empty) (λ s. form_is.rolls-Empty) (λ s h. refl)
  form_step (Form-F.Par first others) =
      form_by (Form-F.Par first.0 (blocks_of others)) (λ s. Form-F.Par (numbered_block first.0 s).value (blocks_in_order (map numbered_block (blocks_of others)) (numbered_block first.0 s).scope).value)
      (λ s. form_is.rolls-Par (numbered_block first.0 s).value (blocks_in_order (map numbered_block (blocks_of others)) (numbered_block first.0 s).scope).value)
      (λ s h.
      block_then first s (λ c. one_list (map signals_of_block (blocks_in_order (map numbered_block (blocks_of others)) c).value)) (λ c. (in_order (map block_part (blocks_of others)) c).mentions) (all (map (declared_block d) (blocks_of others))).signals (all_blocks others) h)
  form_step Form-F.Pause = form_by Form-F.Pause (λ s. Form-F.Pause) (λ s. form_is.rolls-Pause) (λ s h. refl)
  form_step Form-F.Halt = form_by Form-F.Halt (λ s. Form-F.Halt) (λ s. form_is.rolls-Halt) (λ s h. refl)
  form_step (Form-F.Emit at name value) = form_by (Form-F.Emit at name value) (λ s. Form-F.Emit at (number_of role.Emit name s) (numbered_value value s)) (λ s. form_is.rolls-Emit at (number_of role.Emit name s) (numbered_value value s)) (λ s h. refl)
  form_step (Form-F.Sustain at name value) = form_by (Form-F.Sustain at name value) (λ s. Form-F.Sustain at (number_of role.Emit name s) (numbered_value value s)) (λ s. form_is.rolls-Sustain at (number_of role.Emit name s) (numbered_value value s)) (λ s h. refl)
  form_step (Form-F.Declare signal) = form_by (Form-F.Declare signal) (λ s. Form-F.Declare (numbered_signal sort.Local signal s)) (λ s. form_is.rolls-Declare (numbered_signal sort.Local signal s)) (λ s h. ap (λ n. record { number = n; kind = kind_of signal.valued; combine = combine_of signal.valued } ∷ []) (new_signal signal s h))
  form_step (Form-F.Variable k at name value) =
      form_by (Form-F.Variable k at name value) (λ s. Form-F.Variable k at (number_of (role.Declare sort.Variable) name s) (numbered_expression value s)) (λ s. form_is.rolls-Variable k at (number_of (role.Declare sort.Variable) name s) (numbered_expression value s)) (λ s h. refl)
  form_step (Form-F.Assign at name value) = form_by (Form-F.Assign at name value) (λ s. Form-F.Assign at (number_of role.Variable name s) (numbered_expression value s)) (λ s. form_is.rolls-Assign at (number_of role.Variable name s) (numbered_expression value s)) (λ s h. refl)
  form_step (Form-F.Update at name sign_at op value) =
      form_by (Form-F.Update at name sign_at op value) (λ s. Form-F.Update at (number_of role.Variable name s) sign_at op (numbered_expression value s)) (λ s. form_is.rolls-Update at (number_of role.Variable name s) sign_at op (numbered_expression value s)) (λ s h. refl)
  form_step (Form-F.If cond first None) =
      form_by (Form-F.If cond first.0 None) (λ s. Form-F.If (numbered_expression cond s) (numbered_block first.0 s).value None) (λ s. form_is.rolls-If (numbered_expression cond s) (numbered_block first.0 s).value None) (λ s h. one first s (second_sound (expression_mentions cond s) ((block_part first.0 s).mentions ++ []) h))
  form_step (Form-F.If cond first (Some other)) =
      form_by (Form-F.If cond first.0 (Some other.0)) (λ s. Form-F.If (numbered_expression cond s) (numbered_block first.0 s).value (Some (numbered_block other.0 (numbered_block first.0 s).scope).value))
      (λ s. form_is.rolls-If (numbered_expression cond s) (numbered_block first.0 s).value (Some (numbered_block other.0 (numbered_block first.0 s).scope).value)) (λ s h. two first other s (second_sound (expression_mentions cond s) ((block_part first.0 s).mentions ++ (block_part other.0 (block_part first.0 s).scope).mentions) h))
  form_step (Form-F.Present test first None) =
      form_by (Form-F.Present test first.0 None) (λ s. Form-F.Present (numbered_test test s) (numbered_block first.0 s).value None) (λ s. form_is.rolls-Present (numbered_test test s) (numbered_block first.0 s).value None) (λ s h. one first s (second_sound (test_mentions test s) ((block_part first.0 s).mentions ++ []) h))
  form_step (Form-F.Present test first (Some other)) =
      form_by (Form-F.Present test first.0 (Some other.0)) (λ s. Form-F.Present (numbered_test test s) (numbered_block first.0 s).value (Some (numbered_block other.0 (numbered_block first.0 s).scope).value))
      (λ s. form_is.rolls-Present (numbered_test test s) (numbered_block first.0 s).value (Some (numbered_block other.0 (numbered_block first.0 s).scope).value)) (λ s h. two first other s (second_sound (test_mentions test s) ((block_part first.0 s).mentions ++ (block_part other.0 (block_part first.0 s).scope).mentions) h))
  form_step (Form-F.While body) = form_by (Form-F.While body.0) (λ s. Form-F.While (numbered_block body.0 s).value) (λ s. form_is.rolls-While (numbered_block body.0 s).value) body.1
  form_step (Form-F.Abort weak immediate test body) =
      form_by (Form-F.Abort weak immediate test body.0) (λ s. Form-F.Abort weak immediate (numbered_test test s) (numbered_block body.0 s).value) (λ s. form_is.rolls-Abort weak immediate (numbered_test test s) (numbered_block body.0 s).value) (λ s h. body.1 s (second_sound (test_mentions test s) (block_part body.0 s).mentions h))
  form_step (Form-F.Suspend immediate test body) =
      form_by (Form-F.Suspend immediate test body.0) (λ s. Form-F.Suspend immediate (numbered_test test s) (numbered_block body.0 s).value) (λ s. form_is.rolls-Suspend immediate (numbered_test test s) (numbered_block body.0 s).value) (λ s h. body.1 s (second_sound (test_mentions test s) (block_part body.0 s).mentions h))
  form_step (Form-F.Trap at name body) =
      form_by (Form-F.Trap at name body.0) (λ s. Form-F.Trap at (number_of (role.Declare sort.Trap) name s) (numbered_block body.0 (declare sort.Trap name.text s)).value)
      (λ s. form_is.rolls-Trap at (number_of (role.Declare sort.Trap) name s) (numbered_block body.0 (declare sort.Trap name.text s)).value) (λ s h. in_trap name body s h)
  form_step (Form-F.Exit at name) = form_by (Form-F.Exit at name) (λ s. Form-F.Exit at (number_of role.Exit name s)) (λ s. form_is.rolls-Exit at (number_of role.Exit name s)) (λ s h. refl)
  form_step (Form-F.Send at name value) = form_by (Form-F.Send at name value) (λ s. Form-F.Send at (number_of role.Send name s) (numbered_expression value s)) (λ s. form_is.rolls-Send at (number_of role.Send name s) (numbered_expression value s)) (λ s h. refl)
  form_step (Form-F.Receive at name) = form_by (Form-F.Receive at name) (λ s. Form-F.Receive at (number_of role.Receive name s)) (λ s. form_is.rolls-Receive at (number_of role.Receive name s)) (λ s h. refl)
  form_step (Form-F.Await immediate test) = form_by (Form-F.Await immediate test) (λ s. Form-F.Await immediate (numbered_test test s)) (λ s. form_is.rolls-Await immediate (numbered_test test s)) (λ s h. refl)
  form_step (Form-F.Every immediate test body) =
      form_by (Form-F.Every immediate test body.0) (λ s. Form-F.Every immediate (numbered_test test s) (numbered_block body.0 s).value) (λ s. form_is.rolls-Every immediate (numbered_test test s) (numbered_block body.0 s).value) (λ s h. body.1 s (second_sound (test_mentions test s) (block_part body.0 s).mentions h))
  form_step (Form-F.Loop body test) =
      form_by (Form-F.Loop body.0 test) (λ s. Form-F.Loop (numbered_block body.0 s).value (numbered_test test (numbered_block body.0 s).scope)) (λ s. form_is.rolls-Loop (numbered_block body.0 s).value (numbered_test test (numbered_block body.0 s).scope)) (λ s h. body.1 s (first_sound (block_part body.0 s).mentions (test_mentions test (block_part body.0 s).scope) h))

  block_of : (y : Block-F Name (Raw Name) ProvedForm ProvedBlock ProvedStmt) → OfBlock (block.roll-Block Name (Raw Name) (block.map-Block Name (Raw Name) ProvedForm ProvedBlock ProvedStmt SourceForm SourceBlock SourceStmt (λ f. f.0) (λ b. b.0) (λ x. x.0) y))
  block_of y s h =
      let z = block.map-Block Name (Raw Name) ProvedForm ProvedBlock ProvedStmt SourceForm SourceBlock SourceStmt (λ f. f.0) (λ b. b.0) (λ x. x.0) y in
      ap (λ (q : BlockPart). signals_of_block (q s).value) (fold-roll-Block Name (Raw Name) FormPart BlockPart StmtPart numbered_form_layer numbered_block_layer numbered_stmt_layer z)
      ∙ fold-roll-Block ℕ (Raw TableEntry) (List DeclaredSignal) (List DeclaredSignal) (List DeclaredSignal) form_signals_layer block_signals_layer stmt_signals_layer (record { at = y.at; statements = (stmts_in_order (map numbered_stmt (stmts_of y.statements)) s).value })
      ∙ all_stmts y.statements s (subst (λ (p : NamedPart). Own (p s).mentions) (fold-roll-Block Name (Raw Name) NamedPart NamedPart NamedPart form_layer block_layer stmt_layer z) h)
      ∙ sym (ap (λ (x : Declared). listed_from s.counts.signals x.signals) (fold-roll-Block Name (Raw Name) Declared Declared Declared (declared_form_layer d) declared_block_layer declared_stmt_layer z))

  stmt_of : (y : Stmt-F Name (Raw Name) ProvedForm ProvedBlock ProvedStmt) → OfStmt (stmt.roll-Stmt Name (Raw Name) (stmt.map-Stmt Name (Raw Name) ProvedForm ProvedBlock ProvedStmt SourceForm SourceBlock SourceStmt (λ f. f.0) (λ b. b.0) (λ x. x.0) y))
  stmt_of y s h =
      let z = stmt.map-Stmt Name (Raw Name) ProvedForm ProvedBlock ProvedStmt SourceForm SourceBlock SourceStmt (λ f. f.0) (λ b. b.0) (λ x. x.0) y in
      ap (λ (q : StmtPart). signals_of_stmt (q s).value) (fold-roll-Stmt Name (Raw Name) FormPart BlockPart StmtPart numbered_form_layer numbered_block_layer numbered_stmt_layer z)
      ∙ fold-roll-Stmt ℕ (Raw TableEntry) (List DeclaredSignal) (List DeclaredSignal) (List DeclaredSignal) form_signals_layer block_signals_layer stmt_signals_layer (record { at = y.at; form = (numbered_form y.form.0 s).value })
      ∙ y.form.1 s (subst (λ (p : NamedPart). Own (p s).mentions) (fold-roll-Stmt Name (Raw Name) NamedPart NamedPart NamedPart form_layer block_layer stmt_layer z) h)
      ∙ sym (ap (λ (x : Declared). listed_from s.counts.signals x.signals) (fold-roll-Stmt Name (Raw Name) Declared Declared Declared (declared_form_layer d) declared_block_layer declared_stmt_layer z))

  pub block_declared : (b : SourceBlock) → OfBlock b
  block_declared =
      ind-Block Name (Raw Name) OfForm OfBlock OfStmt (λ x y is. subst (λ z. OfForm (form.roll-Form Name (Raw Name) z)) is (form_step y)) (λ x y is. subst (λ z. OfBlock (block.roll-Block Name (Raw Name) z)) is (block_of y))
      (λ x y is. subst (λ z. OfStmt (stmt.roll-Stmt Name (Raw Name) z)) is (stmt_of y))

-- domains, ports and the tree

domains_declare : (t : Tables) (d : ℕ) (bs : List SourceBlock) (s : Scope) → flat_map (flat_map own_failures) (domain_mentions s bs) ≡ [] → one_list (map signals_of_block (blocks_in_order (map numbered_block bs) s).value) ≡ listed_from s.counts.signals (declared_domains d bs).signals
domains_declare t d [] s h = refl
domains_declare t d (b ∷ bs) s h =
    let u = block_part b s in
    let rest = flat_map (flat_map own_failures) (domain_mentions u.scope bs) in
    let own = empty_first (flat_map own_failures u.mentions) rest h in
    two_lists s.counts.signals u.scope.counts.signals (signals_of_block (numbered_block b s).value) (one_list (map signals_of_block (blocks_in_order (map numbered_block bs) (numbered_block b s).scope).value)) (declared_block d b).signals (declared_domains (suc d) bs).signals
    ((block_declares t [] d b).counts s own).signals (block_declared t d b s own)
    (ap (λ c. one_list (map signals_of_block (blocks_in_order (map numbered_block bs) c).value)) ((block_numbers_fit t d b).scope s)
    ∙ domains_declare t (suc d) bs u.scope (empty_second (flat_map own_failures u.mentions) rest h))

ports_declare : (t : Tables) (ns : List (List Mention)) (n : ℕ) (ps : List (Port Name)) (s : Scope) → Own (in_order (map port_part ps) s).mentions → s.counts.signals ≡ n → one_list (map signals_of_port (numbered_ports ps s).value) ≡ listed_from n (port_signals ns n ps)
ports_declare t ns n [] s h e = refl
ports_declare t ns n (port.Signal p ∷ ps) s h e =
    let k = signal_sort p.direction in
    let w = declare k p.signal.name.text s in
    let rest = (in_order (map port_part ps) w).mentions in
    let fresh = not_visible k p.signal.name s rest h in
    let counts = counts_new k p.signal.name.text s fresh ∙ counted_signal p.direction s.counts in
    ap (λ m. record { number = m; kind = kind_of p.signal.valued; combine = combine_of p.signal.valued } ∷ one_list (map signals_of_port (numbered_ports ps w).value)) (number_new t 0 k p.signal.name s fresh ∙ number_of_signal p.direction s.counts ∙ e)
    ∙ ap (λ l. record { number = n; kind = kind_of p.signal.valued; combine = combine_of p.signal.valued } ∷ l)
    (ports_declare t ns (suc n) ps w (empty_second (own_failures (mention (role.Declare k) p.signal.name s)) (flat_map own_failures rest) h) (ap (λ (c : Counts). c.signals) counts ∙ one_step s.counts.signals n e))
ports_declare t ns n (port.Channel c ∷ ps) s h e =
    let w = declare sort.Channel c.name.text s in
    let rest = (in_order (map port_part ps) w).mentions in
    let fresh = not_visible sort.Channel c.name s rest h in
    ports_declare t ns n ps w (empty_second (own_failures (mention (role.Declare sort.Channel) c.name s)) (flat_map own_failures rest) h) (ap (λ (m : Counts). m.signals) (counts_new sort.Channel c.name.text s fresh) ∙ e)

pub tables_are_declared : (tree : Tree Name (Raw Name)) → failures_of (names_of_tree tree) ≡ [] → AreDeclared (tables_of_tree tree) (numbered_tree tree)
tables_are_declared tree h =
    let t = tables_of_tree tree in
    let ns = (names_of_tree tree).domains in
    let none = no_failure (names_of_tree tree) h in
    let w = (interface_names tree).scope in
    let ports = numbered_ports tree.ports no_names in
    sym (two_lists 0 w.counts.signals (one_list (map signals_of_port ports.value)) (one_list (map signals_of_block (blocks_in_order (map numbered_block tree.domains) ports.scope).value)) (port_signals ns 0 tree.ports) (declared_domains 0 tree.domains).signals (ports_of_tree tree h).signals
    (ports_declare t ns 0 tree.ports no_names none.ports refl)
    (ap (λ c. one_list (map signals_of_block (blocks_in_order (map numbered_block tree.domains) c).value)) (ports_scope tree.ports no_names) ∙ domains_declare t 0 tree.domains w none.domains))
