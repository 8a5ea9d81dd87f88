-- The numbers of forms, blocks and statements may be used where they stand.
use Rattle.std.proofs.Common.{◌≡◌, ℕ, Bool, true, ◌&&◌, List, [], ◌∷◌, ◌++◌, length, map, take, Some, None, ap, refl, sym, ◌∙◌, subst}
use Rattle.std.specs.Prelude.{Option}
use Rattle.std.specs.List.{flat_map, list_all}
use Rattle.kernel_terms.specs.declared.tables.Tables.{Tables}
use Rattle.kernel_terms.specs.declared.tables.Sort.TheVariants as table_sort
use Rattle.kernel_terms.specs.WellFormed.{can_emit, is_variable_of, is_sender_of, is_receiver_of, stands_in}
use Rattle.java_values.specs.declared.kind.Kind.{Kind}
use Rattle.java_values.specs.declared.op.Op2.{Op2}
use Rattle.sj_ast.specs.declared.name.Name.{Name}
use Rattle.sj_ast.specs.declared.expression.Raw.{Raw}
use Rattle.sj_ast.specs.declared.test.Test.{Test}
use Rattle.sj_ast.specs.declared.port.Signal.{Signal}
use Rattle.sj_ast.specs.declared.statement.Form as form
use Rattle.sj_ast.specs.declared.statement.Form.TheVariants as form_is
use Rattle.sj_ast.specs.declared.statement.Block as block
use Rattle.sj_ast.specs.declared.statement.Stmt as stmt
use Rattle.sj_ast.specs.declared.statement.Form.TheOpen.{Form-F, Block-F, Stmt-F}
use Rattle.sj_ast.specs.declared.statement.Form.TheFolds.{fold-roll-Form, fold-roll-Block, fold-roll-Stmt, ind-Block, ind-Stmt}
use Rattle.sj_names.specs.declared.entry.TableEntry.{TableEntry}
use Rattle.sj_names.specs.declared.mention.NameSort.TheVariants as sort
use Rattle.sj_names.specs.declared.mention.Role.TheVariants as role
use Rattle.sj_names.specs.declared.mention.Mention.{Mention}
use Rattle.sj_names.specs.definitions.Scopes.{Named, Scope, meaning_in, declare, declared_where, closed_at}
use Rattle.sj_names.specs.definitions.Mentions.{NamedPart, mention, silent, then, in_order, closed, told, mentioned, declared, expression_mentions, test_mentions, read, read_where_given, tested, new_variable, form_layer, block_layer, stmt_layer, block_part, stmt_part}
use Rattle.sj_names.specs.definitions.Failures.{own_failures}
use Rattle.sj_names.specs.definitions.SoundTables.{is_sound}
use Rattle.sj_names.specs.definitions.DeclaredTables.{Declared, nothing, both, all, signal_info, declared_form_layer, declared_block_layer, declared_stmt_layer, declared_form, declared_block, declared_stmt}
use Rattle.sj_names.specs.definitions.NumberedTrees.{NumberedForm, NumberedBlock, NumberedStmt, BlockPart, StmtPart, FormPart, number_of, numbered_expression, numbered_test, numbered_value, numbered_signal, with_block, with_blocks, with_two, trap_part, plain, blocks_in_order, stmts_in_order, block_where_given, closed_block, numbered_form_layer, numbered_block_layer, numbered_stmt_layer, numbered_form, numbered_block, numbered_stmt}
use Rattle.sj_names.specs.definitions.FittingTrees.{Around, Fitted, term_scope, in_trap, with_local, alone, blocks_fit, stmts_fit, other_fits, fits_test, is_declared_signal, is_declared_variable, fits_form_layer, fits_block_layer, fits_stmt_layer, fits_form, fits_block, fits_stmt, uses_entries, value_uses_entries, entry_rules}
use Rattle.sj_names.specs.definitions.FittingTrees as fitting
use Rattle.sj_names.proofs.ListedNames.{empty_second}
use Rattle.sj_names.proofs.EntryLemmas.{AllNamed}
use Rattle.sj_names.proofs.PartEntries.{StandsAt, pair_true, extends_taken, extends_declared, not_visible}
use Rattle.sj_names.proofs.DomainEntries.{SourceForm, SourceBlock, SourceStmt, form_part, block_declares, stmt_declares}
use Rattle.sj_names.proofs.SoundLemmas.{block_same}
use Rattle.sj_names.proofs.FitValues.{StandsAround, one_holds, second_holds, all_first, all_second, emit_fits, variable_fits, send_fits, receive_fits, exit_fits, raw_fits, value_fits, tests_fit}
use Rattle.sj_names.proofs.FitParts.{Start, Ended, PartFits, BlockFits, alone_ended, first_start, second_start, behind_read, before_read, number_new, local_visible, trap_visible, variable_visible, own_variable, own_signal}

module _ (t : Tables) (d : ℕ) where
  abbrev pub form_fit : NumberedForm → fitting.FittingPart
  form_fit = fits_form t (entry_rules t)

  abbrev pub block_fit : NumberedBlock → fitting.FittingPart
  block_fit = fits_block t (entry_rules t)

  abbrev pub stmt_fit : NumberedStmt → fitting.FittingPart
  stmt_fit = fits_stmt t (entry_rules t)

  abbrev OfForm : SourceForm → Type 0
  OfForm f = PartFits t d form_fit (form_part f) (declared_form d f) (numbered_form f)

  abbrev OfBlock : SourceBlock → Type 0
  OfBlock b = BlockFits t d block_fit (block_part b) (declared_block d b) (numbered_block b)

  abbrev OfStmt : SourceStmt → Type 0
  OfStmt s = PartFits t d stmt_fit (stmt_part s) (declared_stmt d s) (numbered_stmt s)

  abbrev ProvedForm : Type 0
  ProvedForm = (f : SourceForm) × OfForm f

  abbrev ProvedBlock : Type 0
  ProvedBlock = (b : SourceBlock) × OfBlock b

  abbrev ProvedStmt : Type 0
  ProvedStmt = (s : SourceStmt) × OfStmt s

  -- the same names stand around what comes behind a block
  behind_block : (b : SourceBlock) (s : Scope) (a : Around) → AllNamed (StandsAround a) s.visible → AllNamed (StandsAround a) (block_part b s).scope.visible
  behind_block b s a v = subst (AllNamed (StandsAround a)) (sym (block_same t [] d b s)) v

  -- lists of blocks and of statements

  abbrev blocks_of : List ProvedBlock → List SourceBlock
  blocks_of = map (λ b. b.0)

  abbrev stmts_of : List ProvedStmt → List SourceStmt
  stmts_of = map (λ s. s.0)

  blocks_scope : (bs : List ProvedBlock) (s : Scope) → (blocks_in_order (map numbered_block (blocks_of bs)) s).scope ≡ (in_order (map block_part (blocks_of bs)) s).scope
  blocks_scope [] s = refl
  blocks_scope (b ∷ bs) s = ap (λ c. (blocks_in_order (map numbered_block (blocks_of bs)) c).scope) (b.1.scope s) ∙ blocks_scope bs (block_part b.0 s).scope

  blocks_visible : (bs : List ProvedBlock) (s : Scope) (a : Around) → AllNamed (StandsAround a) s.visible → AllNamed (StandsAround a) (in_order (map block_part (blocks_of bs)) s).scope.visible
  blocks_visible [] s a v = v
  blocks_visible (b ∷ bs) s a v = blocks_visible bs (block_part b.0 s).scope a (behind_block b.0 s a v)

  behind_first : (b : ProvedBlock) (s : Scope) (a : Around) (E : Declared) (ns : List Mention) → Start t d s a (both (declared_block d b.0) E) ((block_part b.0 s).mentions ++ ns) → Start t d (block_part b.0 s).scope a E ns
  behind_first b s a E ns h =
      let own = (first_start t d s a (declared_block d b.0) E (block_part b.0 s).mentions ns h).own in
      second_start t d s a (declared_block d b.0) E (block_part b.0 s) ns a h ((block_declares t [] d b.0).counts s own) h.domain (behind_block b.0 s a h.visible)

  all_blocks : (bs : List ProvedBlock) (s : Scope) (a : Around) → Start t d s a (all (map (declared_block d) (blocks_of bs))) (in_order (map block_part (blocks_of bs)) s).mentions
      → blocks_fit (map block_fit (blocks_in_order (map numbered_block (blocks_of bs)) s).value) a ≡ true
  all_blocks [] s a h = refl
  all_blocks (b ∷ bs) s a h =
      let w = (block_part b.0 s).scope in
      let ns = (in_order (map block_part (blocks_of bs)) w).mentions in
      let E = all (map (declared_block d) (blocks_of bs)) in
      pair_true (block_fit (numbered_block b.0 s).value a).fits (blocks_fit (map block_fit (blocks_in_order (map numbered_block (blocks_of bs)) (numbered_block b.0 s).scope).value) a) (b.1.fits s a (first_start t d s a (declared_block d b.0) E (block_part b.0 s).mentions ns h))
      (subst (λ c. blocks_fit (map block_fit (blocks_in_order (map numbered_block (blocks_of bs)) c).value) a ≡ true) (sym (b.1.scope s)) (all_blocks bs w a (behind_first b s a E ns h)))

  stmts_scope : (ss : List ProvedStmt) (s : Scope) → (stmts_in_order (map numbered_stmt (stmts_of ss)) s).scope ≡ (in_order (map stmt_part (stmts_of ss)) s).scope
  stmts_scope [] s = refl
  stmts_scope (x ∷ xs) s = ap (λ c. (stmts_in_order (map numbered_stmt (stmts_of xs)) c).scope) (x.1.scope s) ∙ stmts_scope xs (stmt_part x.0 s).scope

  all_stmts : (ss : List ProvedStmt) (s : Scope) (a : Around) → Start t d s a (all (map (declared_stmt d) (stmts_of ss))) (in_order (map stmt_part (stmts_of ss)) s).mentions
      → stmts_fit (map stmt_fit (stmts_in_order (map numbered_stmt (stmts_of ss)) s).value) a ≡ true
  all_stmts [] s a h = refl
  all_stmts (x ∷ xs) s a h =
      let w = (stmt_part x.0 s).scope in
      let ns = (in_order (map stmt_part (stmts_of xs)) w).mentions in
      let E = all (map (declared_stmt d) (stmts_of xs)) in
      let f = first_start t d s a (declared_stmt d x.0) E (stmt_part x.0 s).mentions ns h in
      let r = x.1.fits s a f in
      let b = (stmt_fit (numbered_stmt x.0 s).value a).around in
      let g = second_start t d s a (declared_stmt d x.0) E (stmt_part x.0 s) ns b h ((stmt_declares t [] d x.0).counts s f.own) r.domain r.visible in
      pair_true (stmt_fit (numbered_stmt x.0 s).value a).fits (stmts_fit (map stmt_fit (stmts_in_order (map numbered_stmt (stmts_of xs)) (numbered_stmt x.0 s).scope).value) b) r.fits
      (subst (λ c. stmts_fit (map stmt_fit (stmts_in_order (map numbered_stmt (stmts_of xs)) c).value) b ≡ true) (sym (x.1.scope s)) (all_stmts xs w b g))

  -- a form by its layer

  abbrev Layer : Type 0
  Layer = Form-F ℕ (Raw TableEntry) NumberedForm NumberedBlock NumberedStmt

  abbrev layer_fits : Layer → fitting.FittingPart
  layer_fits z = fits_form_layer t (entry_rules t) (form.map-Form ℕ (Raw TableEntry) NumberedForm NumberedBlock NumberedStmt fitting.FittingPart fitting.FittingPart fitting.FittingPart form_fit block_fit stmt_fit z)

  fit_as : (v : NumberedForm) (z : Layer) (a : Around) → form.roll-Form ℕ (Raw TableEntry) z ≡ v → form_fit v a ≡ layer_fits z a
  fit_as v z a e = ap (λ x. form_fit x a) (sym e) ∙ ap (λ (f : fitting.FittingPart). f a) (fold-roll-Form ℕ (Raw TableEntry) fitting.FittingPart fitting.FittingPart fitting.FittingPart (fits_form_layer t (entry_rules t)) (fits_block_layer t (entry_rules t)) (fits_stmt_layer t (entry_rules t)) z)

  ended_as : (v : NumberedForm) (z : Layer) (a : Around) (vs : List Named) → form.roll-Form ℕ (Raw TableEntry) z ≡ v → Ended d (layer_fits z a) vs → Ended d (form_fit v a) vs
  ended_as v z a vs e h = subst (λ r. Ended d r vs) (sym (fit_as v z a e)) h

  -- a form that fits alone
  ended_alone : (v : NumberedForm) (z : Layer) (a : Around) (vs : List Named) (ok : Bool) → form.roll-Form ℕ (Raw TableEntry) z ≡ v → layer_fits z a ≡ alone ok a → ok ≡ true → a.domain ≡ d → AllNamed (StandsAround a) vs → Ended d (form_fit v a) vs
  ended_alone v z a vs ok e l h x y = ended_as v z a vs e (subst (λ r. Ended d r vs) (sym l) (alone_ended d ok a vs h x y))

  -- forms without parts

  abbrev Fits : NamedPart → Declared → FormPart → Type 0
  Fits p D q = PartFits t d form_fit p D q

  quiet : (v : NumberedForm) (z : Layer) → form.roll-Form ℕ (Raw TableEntry) z ≡ v → ((a : Around) → layer_fits z a ≡ alone true a) → Fits silent nothing (plain v)
  quiet v z e l = record { scope = λ s. refl; fits = λ s a h. ended_alone v z a s.visible true e (l a) refl h.domain h.visible }

  emit_step : (at : ℕ) (name : Name) (value : Option (Raw Name)) → Fits (then (mentioned role.Emit name) (read_where_given value)) nothing (λ s. plain (form.Emit at (number_of role.Emit name s) (numbered_value value s)) s)
  emit_step at name value = record { scope = scopes value; fits = fits }
    where
      scopes : (o : Option (Raw Name)) (s : Scope) → s ≡ (read_where_given o s).scope
      scopes None s = refl
      scopes (Some x) s = refl

      fits : (s : Scope) (a : Around) → Start t d s a nothing (then (mentioned role.Emit name) (read_where_given value) s).mentions
          → Ended d (form_fit (form.Emit at (number_of role.Emit name s) (numbered_value value s)) a) (read_where_given value s).scope.visible
      fits s a h =
          let n = number_of role.Emit name s in
          let x = numbered_value value s in
          ended_alone (form.Emit at n x) (Form-F.Emit at n x) a (read_where_given value s).scope.visible (can_emit t (term_scope a) n && value_uses_entries t (term_scope a) x) (form_is.rolls-Emit at n x) refl
          (pair_true (can_emit t (term_scope a) n) (value_uses_entries t (term_scope a) x) (emit_fits t d a name s h.domain h.visible (one_holds (is_sound t d) (mention role.Emit name s) (read_where_given value s).mentions h.sound))
          (value_fits t d value s a h.domain h.visible (all_second (is_sound t d) (mention role.Emit name s ∷ []) (read_where_given value s).mentions h.sound)))
          h.domain (subst (λ (c : Scope). AllNamed (StandsAround a) c.visible) (scopes value s) h.visible)

  sustain_step : (at : ℕ) (name : Name) (value : Option (Raw Name)) → Fits (then (mentioned role.Emit name) (read_where_given value)) nothing (λ s. plain (form.Sustain at (number_of role.Emit name s) (numbered_value value s)) s)
  sustain_step at name value = record { scope = scopes value; fits = fits }
    where
      scopes : (o : Option (Raw Name)) (s : Scope) → s ≡ (read_where_given o s).scope
      scopes None s = refl
      scopes (Some x) s = refl

      fits : (s : Scope) (a : Around) → Start t d s a nothing (then (mentioned role.Emit name) (read_where_given value) s).mentions
          → Ended d (form_fit (form.Sustain at (number_of role.Emit name s) (numbered_value value s)) a) (read_where_given value s).scope.visible
      fits s a h =
          let n = number_of role.Emit name s in
          let x = numbered_value value s in
          ended_alone (form.Sustain at n x) (Form-F.Sustain at n x) a (read_where_given value s).scope.visible (can_emit t (term_scope a) n && value_uses_entries t (term_scope a) x) (form_is.rolls-Sustain at n x) refl
          (pair_true (can_emit t (term_scope a) n) (value_uses_entries t (term_scope a) x) (emit_fits t d a name s h.domain h.visible (one_holds (is_sound t d) (mention role.Emit name s) (read_where_given value s).mentions h.sound))
          (value_fits t d value s a h.domain h.visible (all_second (is_sound t d) (mention role.Emit name s ∷ []) (read_where_given value s).mentions h.sound)))
          h.domain (subst (λ (c : Scope). AllNamed (StandsAround a) c.visible) (scopes value s) h.visible)

  -- a name in a role, and a value
  with_value : (a : Around) (ok : Bool) (m : Mention) (value : Raw Name) (s : Scope) (D : Declared) → Start t d s a D (m ∷ expression_mentions value s) → (is_sound t d m ≡ true → ok ≡ true) → (ok && uses_entries t (term_scope a) (numbered_expression value s)) ≡ true
  with_value a ok m value s D h f =
      pair_true ok (uses_entries t (term_scope a) (numbered_expression value s)) (f (one_holds (is_sound t d) m (expression_mentions value s) h.sound))
      (raw_fits t d value s a h.domain h.visible (all_second (is_sound t d) (m ∷ []) (expression_mentions value s) h.sound))

  assign_step : (at : ℕ) (name : Name) (value : Raw Name) → Fits (then (mentioned role.Variable name) (read value)) nothing (λ s. plain (form.Assign at (number_of role.Variable name s) (numbered_expression value s)) s)
  assign_step at name value = record {
    scope = λ s. refl;
    fits = λ s a h.
        let n = number_of role.Variable name s in
        let x = numbered_expression value s in
        ended_alone (form.Assign at n x) (Form-F.Assign at n x) a s.visible (is_variable_of t a.domain n && uses_entries t (term_scope a) x) (form_is.rolls-Assign at n x) refl
        (with_value a (is_variable_of t a.domain n) (mention role.Variable name s) value s nothing h (variable_fits t d a name s h.domain)) h.domain h.visible;
  }

  update_step : (at : ℕ) (name : Name) (sign_at : ℕ) (op : Op2) (value : Raw Name) → Fits (then (mentioned role.Variable name) (read value)) nothing (λ s. plain (form.Update at (number_of role.Variable name s) sign_at op (numbered_expression value s)) s)
  update_step at name sign_at op value = record {
    scope = λ s. refl;
    fits = λ s a h.
        let n = number_of role.Variable name s in
        let x = numbered_expression value s in
        ended_alone (form.Update at n sign_at op x) (Form-F.Update at n sign_at op x) a s.visible (is_variable_of t a.domain n && uses_entries t (term_scope a) x) (form_is.rolls-Update at n sign_at op x) refl
        (with_value a (is_variable_of t a.domain n) (mention role.Variable name s) value s nothing h (variable_fits t d a name s h.domain)) h.domain h.visible;
  }

  send_step : (at : ℕ) (name : Name) (value : Raw Name) → Fits (then (mentioned role.Send name) (read value)) nothing (λ s. plain (form.Send at (number_of role.Send name s) (numbered_expression value s)) s)
  send_step at name value = record {
    scope = λ s. refl;
    fits = λ s a h.
        let n = number_of role.Send name s in
        let x = numbered_expression value s in
        ended_alone (form.Send at n x) (Form-F.Send at n x) a s.visible (is_sender_of t a.domain n && uses_entries t (term_scope a) x) (form_is.rolls-Send at n x) refl
        (with_value a (is_sender_of t a.domain n) (mention role.Send name s) value s nothing h (send_fits t d a name s h.domain)) h.domain h.visible;
  }

  receive_step : (at : ℕ) (name : Name) → Fits (mentioned role.Receive name) nothing (λ s. plain (form.Receive at (number_of role.Receive name s)) s)
  receive_step at name = record {
    scope = λ s. refl;
    fits = λ s a h.
        let n = number_of role.Receive name s in
        ended_alone (form.Receive at n) (Form-F.Receive at n) a s.visible (is_receiver_of t a.domain n) (form_is.rolls-Receive at n) refl
        (receive_fits t d a name s h.domain (one_holds (is_sound t d) (mention role.Receive name s) [] h.sound)) h.domain h.visible;
  }

  exit_step : (at : ℕ) (name : Name) → Fits (mentioned role.Exit name) nothing (λ s. plain (form.Exit at (number_of role.Exit name s)) s)
  exit_step at name = record {
    scope = λ s. refl;
    fits = λ s a h.
        let n = number_of role.Exit name s in
        ended_alone (form.Exit at n) (Form-F.Exit at n) a s.visible (stands_in n a.traps) (form_is.rolls-Exit at n) refl
        (exit_fits t d a name s h.visible (one_holds (is_sound t d) (mention role.Exit name s) [] h.sound)) h.domain h.visible;
  }

  await_step : (immediate : Bool) (test : Test Name) → Fits (tested test) nothing (λ s. plain (form.Await immediate (numbered_test test s)) s)
  await_step immediate test = record {
    scope = λ s. refl;
    fits = λ s a h.
        let x = numbered_test test s in
        ended_alone (form.Await immediate x) (Form-F.Await immediate x) a s.visible (fits_test t (term_scope a) x) (form_is.rolls-Await immediate x) refl
        (tests_fit t d test s a h.domain h.visible h.sound) h.domain h.visible;
  }

  -- forms that declare

  declare_step : (signal : Signal Name) → Fits (declared sort.Local signal.name) (record { signals = signal_info table_sort.Local d signal ∷ []; variables = [] }) (λ s. record { value = form.Declare (numbered_signal sort.Local signal s); scope = declare sort.Local signal.name.text s })
  declare_step signal = record {
    scope = λ s. refl;
    fits = λ s a h.
        let x = numbered_signal sort.Local signal s in
        let fresh = not_visible sort.Local signal.name s [] h.own in
        ended_as (form.Declare x) (Form-F.Declare x) a (declare sort.Local signal.name.text s).visible (form_is.rolls-Declare x)
        (record {
          fits = ap (λ k. is_declared_signal t k x) h.domain ∙ ap (λ n. is_declared_signal t d (record { at = signal.at; name = n; valued = signal.valued })) (number_new t d sort.Local signal.name s fresh)
              ∙ own_signal t d s.counts.signals signal h.signals;
          domain = h.domain;
          visible = local_visible t d a signal.name s fresh h.visible;
        });
  }

  variable_step : (k : Kind) (at : ℕ) (name : Name) (value : Raw Name)
      → Fits (new_variable name value) (record { signals = []; variables = record { domain = d; kind = k } ∷ [] }) (λ s. record { value = form.Variable k at (number_of (role.Declare sort.Variable) name s) (numbered_expression value s); scope = declare sort.Variable name.text s })
  variable_step k at name value = record {
    scope = λ s. refl;
    fits = λ s a h.
        let n = number_of (role.Declare sort.Variable) name s in
        let x = numbered_expression value s in
        let fresh = not_visible sort.Variable name s (expression_mentions value s) h.own in
        ended_alone (form.Variable k at n x) (Form-F.Variable k at n x) a (declare sort.Variable name.text s).visible (is_declared_variable t a.domain k n && uses_entries t (term_scope a) x) (form_is.rolls-Variable k at n x) refl
        (with_value a (is_declared_variable t a.domain k n) (mention (role.Declare sort.Variable) name s) value s (record { signals = []; variables = record { domain = d; kind = k } ∷ [] }) h
        (λ i. ap (λ e. is_declared_variable t e k n) h.domain ∙ ap (is_declared_variable t d k) (number_new t d sort.Variable name s fresh) ∙ own_variable t d k s.counts.variables (record { domain = d; kind = k }) refl h.variables))
        h.domain (variable_visible t d a name s fresh h.visible);
  }

  -- forms with blocks

  par_step : (first : ProvedBlock) (others : List ProvedBlock)
      → Fits (then (block_part first.0) (in_order (map block_part (blocks_of others)))) (both (declared_block d first.0) (all (map (declared_block d) (blocks_of others)))) (λ s. with_blocks (numbered_block first.0 s) (blocks_in_order (map numbered_block (blocks_of others))) form.Par)
  par_step first others = record { scope = λ s. ap (λ c. (blocks_in_order (map numbered_block (blocks_of others)) c).scope) (first.1.scope s) ∙ blocks_scope others (block_part first.0 s).scope; fits = fits }
    where
      fits : (s : Scope) (a : Around) → Start t d s a (both (declared_block d first.0) (all (map (declared_block d) (blocks_of others)))) (then (block_part first.0) (in_order (map block_part (blocks_of others))) s).mentions
          → Ended d (form_fit (form.Par (numbered_block first.0 s).value (blocks_in_order (map numbered_block (blocks_of others)) (numbered_block first.0 s).scope).value) a) (in_order (map block_part (blocks_of others)) (block_part first.0 s).scope).scope.visible
      fits s a h =
          let x = (numbered_block first.0 s).value in
          let xs = (blocks_in_order (map numbered_block (blocks_of others)) (numbered_block first.0 s).scope).value in
          let w = (block_part first.0 s).scope in
          let ns = (in_order (map block_part (blocks_of others)) w).mentions in
          let E = all (map (declared_block d) (blocks_of others)) in
          ended_alone (form.Par x xs) (Form-F.Par x xs) a (in_order (map block_part (blocks_of others)) w).scope.visible ((block_fit x a).fits && blocks_fit (map block_fit xs) a) (form_is.rolls-Par x xs) refl
          (pair_true (block_fit x a).fits (blocks_fit (map block_fit xs) a) (first.1.fits s a (first_start t d s a (declared_block d first.0) E (block_part first.0 s).mentions ns h))
          (subst (λ c. blocks_fit (map block_fit (blocks_in_order (map numbered_block (blocks_of others)) c).value) a ≡ true) (sym (first.1.scope s)) (all_blocks others w a (behind_first first s a E ns h))))
          h.domain (blocks_visible others w a (behind_block first.0 s a h.visible))

  -- what a form with one block asks beside it
  one_block : (b : ProvedBlock) (ms : Scope → List Mention) (ok : Scope → Around → Bool) (f : Scope → NumberedBlock → NumberedForm) (z : Scope → NumberedBlock → Layer)
      → ((s : Scope) (x : NumberedBlock) → form.roll-Form ℕ (Raw TableEntry) (z s x) ≡ f s x) → ((s : Scope) (x : NumberedBlock) (a : Around) → layer_fits (z s x) a ≡ alone (ok s a && (block_fit x a).fits) a)
      → ((s : Scope) (a : Around) → a.domain ≡ d → AllNamed (StandsAround a) s.visible → list_all (is_sound t d) (ms s) ≡ true → ok s a ≡ true)
      → Fits (then (told ms) (block_part b.0)) (declared_block d b.0) (λ s. with_block (numbered_block b.0 s) (f s))
  one_block b ms ok f z e l o = record {
    scope = λ s. b.1.scope s;
    fits = λ s a h.
        let x = (numbered_block b.0 s).value in
        let ns = (block_part b.0 s).mentions in
        ended_alone (f s x) (z s x) a (block_part b.0 s).scope.visible (ok s a && (block_fit x a).fits) (e s x) (l s x a)
        (pair_true (ok s a) (block_fit x a).fits (o s a h.domain h.visible (all_first (is_sound t d) (ms s) ns h.sound)) (b.1.fits s a (behind_read t d s a (declared_block d b.0) (ms s) ns h)))
        h.domain (behind_block b.0 s a h.visible);
  }

  while_step : (b : ProvedBlock) → Fits (block_part b.0) (declared_block d b.0) (λ s. with_block (numbered_block b.0 s) form.While)
  while_step b = record {
    scope = λ s. b.1.scope s;
    fits = λ s a h.
        let x = (numbered_block b.0 s).value in
        ended_alone (form.While x) (Form-F.While x) a (block_part b.0 s).scope.visible (block_fit x a).fits (form_is.rolls-While x) refl (b.1.fits s a h) h.domain (behind_block b.0 s a h.visible);
  }

  loop_step : (b : ProvedBlock) (test : Test Name) → Fits (then (block_part b.0) (tested test)) (declared_block d b.0) (λ s. record { value = form.Loop (numbered_block b.0 s).value (numbered_test test (numbered_block b.0 s).scope); scope = (numbered_block b.0 s).scope })
  loop_step b test = record {
    scope = λ s. b.1.scope s;
    fits = λ s a h.
        let x = (numbered_block b.0 s).value in
        let y = numbered_test test (numbered_block b.0 s).scope in
        let w = (block_part b.0 s).scope in
        let v = behind_block b.0 s a h.visible in
        ended_alone (form.Loop x y) (Form-F.Loop x y) a w.visible ((block_fit x a).fits && fits_test t (term_scope a) y) (form_is.rolls-Loop x y) refl
        (pair_true (block_fit x a).fits (fits_test t (term_scope a) y) (b.1.fits s a (before_read t d s a (declared_block d b.0) (block_part b.0 s).mentions (test_mentions test w) h))
        (subst (λ c. fits_test t (term_scope a) (numbered_test test c) ≡ true) (sym (b.1.scope s)) (tests_fit t d test w a h.domain v (all_second (is_sound t d) (block_part b.0 s).mentions (test_mentions test w) h.sound))))
        h.domain v;
  }

  -- and one with a block, and another that may be given
  two_blocks_none : (b : ProvedBlock) (ms : Scope → List Mention) (ok : Scope → Around → Bool) (f : Scope → NumberedBlock → Option NumberedBlock → NumberedForm) (z : Scope → NumberedBlock → Option NumberedBlock → Layer)
      → ((s : Scope) (x : NumberedBlock) (y : Option NumberedBlock) → form.roll-Form ℕ (Raw TableEntry) (z s x y) ≡ f s x y)
      → ((s : Scope) (x : NumberedBlock) (a : Around) → layer_fits (z s x None) a ≡ alone (ok s a && ((block_fit x a).fits && true)) a)
      → ((s : Scope) (a : Around) → a.domain ≡ d → AllNamed (StandsAround a) s.visible → list_all (is_sound t d) (ms s) ≡ true → ok s a ≡ true)
      → Fits (then (told ms) (then (block_part b.0) silent)) (both (declared_block d b.0) nothing) (λ s. with_two (numbered_block b.0 s) (block_where_given None) (f s))
  two_blocks_none b ms ok f z e l o = record {
    scope = λ s. b.1.scope s;
    fits = λ s a h.
        let x = (numbered_block b.0 s).value in
        let ns = (then (block_part b.0) silent s).mentions in
        let g = behind_read t d s a (both (declared_block d b.0) nothing) (ms s) ns h in
        ended_alone (f s x None) (z s x None) a (block_part b.0 s).scope.visible (ok s a && ((block_fit x a).fits && true)) (e s x None) (l s x a)
        (pair_true (ok s a) ((block_fit x a).fits && true) (o s a h.domain h.visible (all_first (is_sound t d) (ms s) ns h.sound))
        (pair_true (block_fit x a).fits true (b.1.fits s a (first_start t d s a (declared_block d b.0) nothing (block_part b.0 s).mentions [] g)) refl))
        h.domain (behind_block b.0 s a h.visible);
  }

  two_blocks_some : (b c : ProvedBlock) (ms : Scope → List Mention) (ok : Scope → Around → Bool) (f : Scope → NumberedBlock → Option NumberedBlock → NumberedForm) (z : Scope → NumberedBlock → Option NumberedBlock → Layer)
      → ((s : Scope) (x : NumberedBlock) (y : Option NumberedBlock) → form.roll-Form ℕ (Raw TableEntry) (z s x y) ≡ f s x y)
      → ((s : Scope) (x y : NumberedBlock) (a : Around) → layer_fits (z s x (Some y)) a ≡ alone (ok s a && ((block_fit x a).fits && (block_fit y a).fits)) a)
      → ((s : Scope) (a : Around) → a.domain ≡ d → AllNamed (StandsAround a) s.visible → list_all (is_sound t d) (ms s) ≡ true → ok s a ≡ true)
      → Fits (then (told ms) (then (block_part b.0) (block_part c.0))) (both (declared_block d b.0) (declared_block d c.0)) (λ s. with_two (numbered_block b.0 s) (block_where_given (Some (numbered_block c.0))) (f s))
  two_blocks_some b c ms ok f z e l o = record {
    scope = λ s. ap (λ w. (numbered_block c.0 w).scope) (b.1.scope s) ∙ c.1.scope (block_part b.0 s).scope;
    fits = λ s a h.
        let x = (numbered_block b.0 s).value in
        let y = (numbered_block c.0 (numbered_block b.0 s).scope).value in
        let w = (block_part b.0 s).scope in
        let ns = (block_part c.0 w).mentions in
        let g = behind_read t d s a (both (declared_block d b.0) (declared_block d c.0)) (ms s) ((block_part b.0 s).mentions ++ ns) h in
        ended_alone (f s x (Some y)) (z s x (Some y)) a (block_part c.0 w).scope.visible (ok s a && ((block_fit x a).fits && (block_fit y a).fits)) (e s x (Some y)) (l s x y a)
        (pair_true (ok s a) ((block_fit x a).fits && (block_fit y a).fits) (o s a h.domain h.visible (all_first (is_sound t d) (ms s) ((block_part b.0 s).mentions ++ ns) h.sound))
        (pair_true (block_fit x a).fits (block_fit y a).fits (b.1.fits s a (first_start t d s a (declared_block d b.0) (declared_block d c.0) (block_part b.0 s).mentions ns g))
        (subst (λ k. (block_fit (numbered_block c.0 k).value a).fits ≡ true) (sym (b.1.scope s)) (c.1.fits w a (behind_first b s a (declared_block d c.0) ns g)))))
        h.domain (behind_block c.0 w a (behind_block b.0 s a h.visible));
  }

  trap_step : (at : ℕ) (name : Name) (b : ProvedBlock) → Fits (closed (then (declared sort.Trap name) (block_part b.0))) (declared_block d b.0) (trap_part at name (numbered_block b.0))
  trap_step at name b = record { scope = λ s. ap (closed_at (length s.visible)) (b.1.scope (declare sort.Trap name.text s)); fits = fits }
    where
      fits : (s : Scope) (a : Around) → Start t d s a (declared_block d b.0) (mention (role.Declare sort.Trap) name s ∷ (block_part b.0 (declare sort.Trap name.text s)).mentions)
          → Ended d (form_fit (form.Trap at (number_of (role.Declare sort.Trap) name s) (numbered_block b.0 (declare sort.Trap name.text s)).value) a) (take (length s.visible) (block_part b.0 (declare sort.Trap name.text s)).scope.visible)
      fits s a h =
          let n = number_of (role.Declare sort.Trap) name s in
          let w = declare sort.Trap name.text s in
          let x = (numbered_block b.0 w).value in
          let ms = (block_part b.0 w).mentions in
          let m = mention (role.Declare sort.Trap) name s in
          let fresh = not_visible sort.Trap name s ms h.own in
          let signals = sym (ap (λ o. (declared_where o sort.Trap name.text s).counts.signals) fresh) in
          let variables = sym (ap (λ o. (declared_where o sort.Trap name.text s).counts.variables) fresh) in
          let same = ap (take (length s.visible)) (block_same t [] d b.0 w) ∙ extends_taken s.visible w.visible (extends_declared (meaning_in s.visible name.text) sort.Trap name.text s) in
          ended_alone (form.Trap at n x) (Form-F.Trap at n x) a (take (length s.visible) (block_part b.0 w).scope.visible) (block_fit x (in_trap n a)).fits (form_is.rolls-Trap at n x) refl
          (b.1.fits w (in_trap n a) (record {
            domain = h.domain;
            own = empty_second (own_failures m) (flat_map own_failures ms) h.own;
            sound = second_holds (is_sound t d m) (list_all (is_sound t d) ms) h.sound;
            signals = subst (StandsAt (declared_block d b.0).signals t.signals) signals h.signals;
            variables = subst (StandsAt (declared_block d b.0).variables t.variables) variables h.variables;
            visible = trap_visible t d a name s fresh h.visible;
          }))
          h.domain (subst (AllNamed (StandsAround a)) (sym same) h.visible)

  -- each form, block and statement

  abbrev SourceLayer : Type 0
  SourceLayer = Form-F Name (Raw Name) SourceForm SourceBlock SourceStmt

  abbrev parts_of : SourceLayer → Form-F Name (Raw Name) NamedPart NamedPart NamedPart
  parts_of = form.map-Form Name (Raw Name) SourceForm SourceBlock SourceStmt NamedPart NamedPart NamedPart form_part block_part stmt_part

  abbrev declared_of : SourceLayer → Form-F Name (Raw Name) Declared Declared Declared
  declared_of = form.map-Form Name (Raw Name) SourceForm SourceBlock SourceStmt Declared Declared Declared (declared_form d) (declared_block d) (declared_stmt d)

  abbrev numbered_of : SourceLayer → Form-F Name (Raw Name) FormPart BlockPart StmtPart
  numbered_of = form.map-Form Name (Raw Name) SourceForm SourceBlock SourceStmt FormPart BlockPart StmtPart numbered_form numbered_block numbered_stmt

  form_by : (z : SourceLayer) → Fits (form_layer (parts_of z)) (declared_form_layer d (declared_of z)) (numbered_form_layer (numbered_of z)) → OfForm (form.roll-Form Name (Raw Name) z)
  form_by z h =
      subst (λ p. Fits p (declared_form d (form.roll-Form Name (Raw Name) z)) (numbered_form (form.roll-Form Name (Raw Name) z))) (sym (fold-roll-Form Name (Raw Name) NamedPart NamedPart NamedPart form_layer block_layer stmt_layer z))
      (subst (λ D. Fits (form_layer (parts_of z)) D (numbered_form (form.roll-Form Name (Raw Name) z))) (sym (fold-roll-Form Name (Raw Name) Declared Declared Declared (declared_form_layer d) declared_block_layer declared_stmt_layer z))
      (subst (λ q. Fits (form_layer (parts_of z)) (declared_form_layer d (declared_of z)) q) (sym (fold-roll-Form Name (Raw Name) FormPart BlockPart StmtPart numbered_form_layer numbered_block_layer numbered_stmt_layer z)) h))

  abbrev plain_of : Form-F Name (Raw Name) ProvedForm ProvedBlock ProvedStmt → SourceLayer
  plain_of = form.map-Form Name (Raw Name) ProvedForm ProvedBlock ProvedStmt SourceForm SourceBlock SourceStmt (λ f. f.0) (λ b. b.0) (λ s. s.0)

  form_step : (y : Form-F Name (Raw Name) ProvedForm ProvedBlock ProvedStmt) → OfForm (form.roll-Form Name (Raw Name) (plain_of y))
  form_step Form-F.Empty = form_by Form-F.Empty (quiet form.Empty Form-F.Empty form_is.rolls-Empty (λ a. refl))
  form_step (Form-F.Par first others) = form_by (Form-F.Par first.0 (blocks_of others)) (par_step first others)
  form_step Form-F.Pause = form_by Form-F.Pause (quiet form.Pause Form-F.Pause form_is.rolls-Pause (λ a. refl))
  form_step Form-F.Halt = form_by Form-F.Halt (quiet form.Halt Form-F.Halt form_is.rolls-Halt (λ a. refl))
  form_step (Form-F.Emit at name value) = form_by (Form-F.Emit at name value) (emit_step at name value)
  form_step (Form-F.Sustain at name value) = form_by (Form-F.Sustain at name value) (sustain_step at name value)
  form_step (Form-F.Declare signal) = form_by (Form-F.Declare signal) (declare_step signal)
  form_step (Form-F.Variable k at name value) = form_by (Form-F.Variable k at name value) (variable_step k at name value)
  form_step (Form-F.Assign at name value) = form_by (Form-F.Assign at name value) (assign_step at name value)
  form_step (Form-F.Update at name sign_at op value) = form_by (Form-F.Update at name sign_at op value) (update_step at name sign_at op value)
  form_step (Form-F.If cond first None) =
      form_by (Form-F.If cond first.0 None)
      (two_blocks_none first (expression_mentions cond) (λ s a. uses_entries t (term_scope a) (numbered_expression cond s)) (λ s. form.If (numbered_expression cond s)) (λ s. Form-F.If (numbered_expression cond s)) (λ s x y. form_is.rolls-If (numbered_expression cond s) x y) (λ s x a. refl) (raw_fits t d cond))
  form_step (Form-F.If cond first (Some other)) =
      form_by (Form-F.If cond first.0 (Some other.0))
      (two_blocks_some first other (expression_mentions cond) (λ s a. uses_entries t (term_scope a) (numbered_expression cond s)) (λ s. form.If (numbered_expression cond s)) (λ s. Form-F.If (numbered_expression cond s)) (λ s x y. form_is.rolls-If (numbered_expression cond s) x y) (λ s x y a. refl) (raw_fits t d cond))
  form_step (Form-F.Present test first None) =
      form_by (Form-F.Present test first.0 None)
      (two_blocks_none first (test_mentions test) (λ s a. fits_test t (term_scope a) (numbered_test test s)) (λ s. form.Present (numbered_test test s)) (λ s. Form-F.Present (numbered_test test s)) (λ s x y. form_is.rolls-Present (numbered_test test s) x y) (λ s x a. refl) (tests_fit t d test))
  form_step (Form-F.Present test first (Some other)) =
      form_by (Form-F.Present test first.0 (Some other.0))
      (two_blocks_some first other (test_mentions test) (λ s a. fits_test t (term_scope a) (numbered_test test s)) (λ s. form.Present (numbered_test test s)) (λ s. Form-F.Present (numbered_test test s)) (λ s x y. form_is.rolls-Present (numbered_test test s) x y) (λ s x y a. refl) (tests_fit t d test))
  form_step (Form-F.While body) = form_by (Form-F.While body.0) (while_step body)
  form_step (Form-F.Abort weak immediate test body) =
      form_by (Form-F.Abort weak immediate test body.0)
      (one_block body (test_mentions test) (λ s a. fits_test t (term_scope a) (numbered_test test s)) (λ s. form.Abort weak immediate (numbered_test test s)) (λ s. Form-F.Abort weak immediate (numbered_test test s)) (λ s x. form_is.rolls-Abort weak immediate (numbered_test test s) x) (λ s x a. refl) (tests_fit t d test))
  form_step (Form-F.Suspend immediate test body) =
      form_by (Form-F.Suspend immediate test body.0)
      (one_block body (test_mentions test) (λ s a. fits_test t (term_scope a) (numbered_test test s)) (λ s. form.Suspend immediate (numbered_test test s)) (λ s. Form-F.Suspend immediate (numbered_test test s)) (λ s x. form_is.rolls-Suspend immediate (numbered_test test s) x) (λ s x a. refl) (tests_fit t d test))
  form_step (Form-F.Trap at name body) = form_by (Form-F.Trap at name body.0) (trap_step at name body)
  form_step (Form-F.Exit at name) = form_by (Form-F.Exit at name) (exit_step at name)
  form_step (Form-F.Send at name value) = form_by (Form-F.Send at name value) (send_step at name value)
  form_step (Form-F.Receive at name) = form_by (Form-F.Receive at name) (receive_step at name)
  form_step (Form-F.Await immediate test) = form_by (Form-F.Await immediate test) (await_step immediate test)
  form_step (Form-F.Every immediate test body) =
      form_by (Form-F.Every immediate test body.0)
      (one_block body (test_mentions test) (λ s a. fits_test t (term_scope a) (numbered_test test s)) (λ s. form.Every immediate (numbered_test test s)) (λ s. Form-F.Every immediate (numbered_test test s)) (λ s x. form_is.rolls-Every immediate (numbered_test test s) x) (λ s x a. refl) (tests_fit t d test))
  form_step (Form-F.Loop body test) = form_by (Form-F.Loop body.0 test) (loop_step body test)

  block_step : (at : ℕ) (ss : List ProvedStmt)
      → BlockFits t d block_fit (closed (in_order (map stmt_part (stmts_of ss)))) (all (map (declared_stmt d) (stmts_of ss))) (λ s. closed_block at s (stmts_in_order (map numbered_stmt (stmts_of ss)) s))
  block_step at ss = record {
    scope = λ s. ap (closed_at (length s.visible)) (stmts_scope ss s);
    fits = λ s a h.
        let xs = (stmts_in_order (map numbered_stmt (stmts_of ss)) s).value in
        ap (λ (f : fitting.FittingPart). (f a).fits) (fold-roll-Block ℕ (Raw TableEntry) fitting.FittingPart fitting.FittingPart fitting.FittingPart (fits_form_layer t (entry_rules t)) (fits_block_layer t (entry_rules t)) (fits_stmt_layer t (entry_rules t)) (record { at = at; statements = xs }))
        ∙ all_stmts ss s a h;
  }

  block_of : (y : Block-F Name (Raw Name) ProvedForm ProvedBlock ProvedStmt) → OfBlock (block.roll-Block Name (Raw Name) (block.map-Block Name (Raw Name) ProvedForm ProvedBlock ProvedStmt SourceForm SourceBlock SourceStmt (λ f. f.0) (λ b. b.0) (λ s. s.0) y))
  block_of y = by (block.map-Block Name (Raw Name) ProvedForm ProvedBlock ProvedStmt SourceForm SourceBlock SourceStmt (λ f. f.0) (λ b. b.0) (λ s. s.0) y) (block_step y.at y.statements)
    where
      by : (z : Block-F Name (Raw Name) SourceForm SourceBlock SourceStmt)
          → BlockFits t d block_fit (closed (in_order (map stmt_part z.statements))) (all (map (declared_stmt d) z.statements)) (λ s. closed_block z.at s (stmts_in_order (map numbered_stmt z.statements) s)) → OfBlock (block.roll-Block Name (Raw Name) z)
      by z h =
          subst (λ p. BlockFits t d block_fit p (declared_block d (block.roll-Block Name (Raw Name) z)) (numbered_block (block.roll-Block Name (Raw Name) z))) (sym (fold-roll-Block Name (Raw Name) NamedPart NamedPart NamedPart form_layer block_layer stmt_layer z))
          (subst (λ D. BlockFits t d block_fit (closed (in_order (map stmt_part z.statements))) D (numbered_block (block.roll-Block Name (Raw Name) z))) (sym (fold-roll-Block Name (Raw Name) Declared Declared Declared (declared_form_layer d) declared_block_layer declared_stmt_layer z))
          (subst (λ q. BlockFits t d block_fit (closed (in_order (map stmt_part z.statements))) (all (map (declared_stmt d) z.statements)) q) (sym (fold-roll-Block Name (Raw Name) FormPart BlockPart StmtPart numbered_form_layer numbered_block_layer numbered_stmt_layer z)) h))

  stmt_step : (at : ℕ) (f : ProvedForm) → PartFits t d stmt_fit (form_part f.0) (declared_form d f.0) (λ s. record { value = stmt.roll-Stmt ℕ (Raw TableEntry) (record { at = at; form = (numbered_form f.0 s).value }); scope = (numbered_form f.0 s).scope })
  stmt_step at f = record {
    scope = λ s. f.1.scope s;
    fits = λ s a h.
        let x = (numbered_form f.0 s).value in
        subst (λ r. Ended d r (form_part f.0 s).scope.visible) (sym (ap (λ (g : fitting.FittingPart). g a) (fold-roll-Stmt ℕ (Raw TableEntry) fitting.FittingPart fitting.FittingPart fitting.FittingPart (fits_form_layer t (entry_rules t)) (fits_block_layer t (entry_rules t)) (fits_stmt_layer t (entry_rules t)) (record { at = at; form = x }))))
        (f.1.fits s a h);
  }

  stmt_of : (y : Stmt-F Name (Raw Name) ProvedForm ProvedBlock ProvedStmt) → OfStmt (stmt.roll-Stmt Name (Raw Name) (stmt.map-Stmt Name (Raw Name) ProvedForm ProvedBlock ProvedStmt SourceForm SourceBlock SourceStmt (λ f. f.0) (λ b. b.0) (λ s. s.0) y))
  stmt_of y = by (stmt.map-Stmt Name (Raw Name) ProvedForm ProvedBlock ProvedStmt SourceForm SourceBlock SourceStmt (λ f. f.0) (λ b. b.0) (λ s. s.0) y) (stmt_step y.at y.form)
    where
      by : (z : Stmt-F Name (Raw Name) SourceForm SourceBlock SourceStmt)
          → PartFits t d stmt_fit (form_part z.form) (declared_form d z.form) (λ s. record { value = stmt.roll-Stmt ℕ (Raw TableEntry) (record { at = z.at; form = (numbered_form z.form s).value }); scope = (numbered_form z.form s).scope }) → OfStmt (stmt.roll-Stmt Name (Raw Name) z)
      by z h =
          subst (λ p. PartFits t d stmt_fit p (declared_stmt d (stmt.roll-Stmt Name (Raw Name) z)) (numbered_stmt (stmt.roll-Stmt Name (Raw Name) z))) (sym (fold-roll-Stmt Name (Raw Name) NamedPart NamedPart NamedPart form_layer block_layer stmt_layer z))
          (subst (λ D. PartFits t d stmt_fit (form_part z.form) D (numbered_stmt (stmt.roll-Stmt Name (Raw Name) z))) (sym (fold-roll-Stmt Name (Raw Name) Declared Declared Declared (declared_form_layer d) declared_block_layer declared_stmt_layer z))
          (subst (λ q. PartFits t d stmt_fit (form_part z.form) (declared_form d z.form) q) (sym (fold-roll-Stmt Name (Raw Name) FormPart BlockPart StmtPart numbered_form_layer numbered_block_layer numbered_stmt_layer z)) h))

  pub block_numbers_fit : (b : SourceBlock) → BlockFits t d block_fit (block_part b) (declared_block d b) (numbered_block b)
  block_numbers_fit =
      ind-Block Name (Raw Name) OfForm OfBlock OfStmt (λ x y is. subst (λ z. OfForm (form.roll-Form Name (Raw Name) z)) is (form_step y)) (λ x y is. subst (λ z. OfBlock (block.roll-Block Name (Raw Name) z)) is (block_of y))
      (λ x y is. subst (λ z. OfStmt (stmt.roll-Stmt Name (Raw Name) z)) is (stmt_of y))

  pub stmt_numbers_fit : (x : SourceStmt) → PartFits t d stmt_fit (stmt_part x) (declared_stmt d x) (numbered_stmt x)
  stmt_numbers_fit =
      ind-Stmt Name (Raw Name) OfForm OfBlock OfStmt (λ x y is. subst (λ z. OfForm (form.roll-Form Name (Raw Name) z)) is (form_step y)) (λ x y is. subst (λ z. OfBlock (block.roll-Block Name (Raw Name) z)) is (block_of y))
      (λ x y is. subst (λ z. OfStmt (stmt.roll-Stmt Name (Raw Name) z)) is (stmt_of y))
