-- Whether the numbers of a tree name entries of the tables that may be used where they stand.
use Rattle.std.specs.Prelude.{ℕ, suc, Bool, true, false, ◌&&◌, List, [], ◌∷◌, length, Option, Some, None}
use Rattle.java_values.specs.declared.kind.Kind.{Kind}
use Rattle.java_values.specs.declared.kind.Kind.TheVariants as kind
use Rattle.kernel_terms.specs.declared.tables.Tables.{Tables}
use Rattle.kernel_terms.specs.TableEntries.{signal_at, channel_at, variable_at}
use Rattle.kernel_terms.specs.WellFormed as terms
use Rattle.kernel_terms.specs.WellFormed.{can_use, can_emit, is_variable_of, is_sender_of, is_receiver_of, is_local_of, same_kind, stands_in}
use Rattle.sj_ast.specs.declared.port.Signal.{Signal}
use Rattle.sj_ast.specs.declared.expression.Raw.{Raw}
use Rattle.sj_ast.specs.declared.expression.Raw.TheOpen.{Raw-F}
use Rattle.sj_ast.specs.declared.expression.Raw.TheFolds.{fold-Raw}
use Rattle.sj_ast.specs.declared.test.Test.{Test}
use Rattle.sj_ast.specs.declared.test.Test.TheOpen.{Test-F}
use Rattle.sj_ast.specs.declared.test.Test.TheFolds.{fold-Test}
use Rattle.sj_ast.specs.declared.statement.Form.{Form}
use Rattle.sj_ast.specs.declared.statement.Form.TheOpen.{Form-F, Block-F, Stmt-F}
use Rattle.sj_ast.specs.declared.statement.Form.TheFolds.{fold-Form, fold-Block, fold-Stmt}
use Rattle.sj_ast.specs.declared.statement.Block.{Block}
use Rattle.sj_ast.specs.declared.statement.Stmt.{Stmt}
use Rattle.sj_ast.specs.declared.statement.Tree.{Tree}
use Rattle.sj_names.specs.declared.entry.TableEntry.{TableEntry}
use Rattle.sj_names.specs.declared.entry.TableEntry.TheVariants as entry
use Rattle.sj_names.specs.definitions.DeclaredTables.{kind_of}

-- the domain in which a part stands, the traps around it, and the local signals that are visible there, innermost first
pub record Around : Type 0 where
  pub domain : ℕ
  pub traps : List ℕ
  pub locals : List ℕ

abbrev pub term_scope : Around → terms.Scope
term_scope a = record { domain = a.domain; traps = length a.traps; locals = a.locals }

abbrev pub in_trap : ℕ → Around → Around
in_trap n a = record { domain = a.domain; traps = n ∷ a.traps; locals = a.locals }

abbrev pub with_local : ℕ → Around → Around
with_local n a = record { domain = a.domain; traps = a.traps; locals = n ∷ a.locals }

-- at the start of a domain
abbrev pub at_start : ℕ → Around
at_start d = record { domain = d; traps = []; locals = [] }

-- What is asked of a value: of one that is emitted, for a signal of this kind or a pure one, and of one that is given to a
-- kind; and whether compound assignments may stand in the tree.
pub record ValueRules (E : Type 0) : Type 0 where
  pub emitted : terms.Scope → Option Kind → Option E → Bool
  pub given : terms.Scope → Kind → E → Bool
  pub updated : Bool

-- whether a part fits, and what is around the part behind it
pub record Fitted : Type 0 where
  pub fits : Bool
  pub around : Around

abbrev pub FittingPart : Type 0
FittingPart = Around → Fitted

-- a part that declares nothing
abbrev pub alone : Bool → FittingPart
alone fits a = record { fits = fits; around = a }

abbrev pub blocks_fit : List FittingPart → Around → Bool
blocks_fit [] a = true
blocks_fit (b ∷ bs) a = (b a).fits && blocks_fit bs a

abbrev pub stmts_fit : List FittingPart → Around → Bool
stmts_fit [] a = true
stmts_fit (s ∷ ss) a = (s a).fits && stmts_fit ss (s a).around

abbrev pub other_fits : Option FittingPart → Around → Bool
other_fits None a = true
other_fits (Some b) a = (b a).fits

abbrev pub fits_test_layer : Tables → terms.Scope → Test-F ℕ Bool → Bool
fits_test_layer t scope (Test-F.Signal at s) = can_use t scope s
fits_test_layer t scope (Test-F.Not at u) = u
fits_test_layer t scope (Test-F.Group at u) = u
fits_test_layer t scope (Test-F.Both at u v) = u && v
fits_test_layer t scope (Test-F.Either at u v) = u && v

abbrev pub fits_test : Tables → terms.Scope → Test ℕ → Bool
fits_test t scope = fold-Test ℕ Bool (fits_test_layer t scope)

abbrev pub same_value : Option Kind → Option Kind → Bool
same_value None None = true
same_value (Some k) (Some l) = same_kind k l
same_value _ _ = false

-- a declared local signal's entry is its own, and so is a declared variable's
abbrev pub is_declared_signal : Tables → ℕ → Signal ℕ → Bool
is_declared_signal t d s =
    is_local_of t d s.name && same_value (signal_at t s.name).kind (kind_of s.valued)

abbrev pub is_declared_variable : Tables → ℕ → Kind → ℕ → Bool
is_declared_variable t d k x = is_variable_of t d x && same_kind (variable_at t x).kind k

module _ (t : Tables) {E : Type 0} (rules : ValueRules E) where
  abbrev pub fits_form_layer : Form-F ℕ E FittingPart FittingPart FittingPart → FittingPart
  fits_form_layer Form-F.Empty a = alone true a
  fits_form_layer (Form-F.Par first others) a = alone ((first a).fits && blocks_fit others a) a
  fits_form_layer Form-F.Pause a = alone true a
  fits_form_layer Form-F.Halt a = alone true a
  fits_form_layer (Form-F.Emit at s value) a =
      alone (can_emit t (term_scope a) s &&
      rules.emitted (term_scope a) (signal_at t s).kind value) a
  fits_form_layer (Form-F.Sustain at s value) a =
      alone (can_emit t (term_scope a) s &&
      rules.emitted (term_scope a) (signal_at t s).kind value) a
  fits_form_layer (Form-F.Declare signal) a =
      record { fits = is_declared_signal t a.domain signal; around = with_local signal.name a }
  fits_form_layer (Form-F.Variable k at x value) a =
      alone (is_declared_variable t a.domain k x && rules.given (term_scope a) k value) a
  fits_form_layer (Form-F.Assign at x value) a =
      alone (is_variable_of t a.domain x &&
      rules.given (term_scope a) (variable_at t x).kind value) a
  fits_form_layer (Form-F.Update at x sign_at op value) a =
      alone (rules.updated &&
      (is_variable_of t a.domain x &&
      rules.given (term_scope a) (variable_at t x).kind value)) a
  fits_form_layer (Form-F.If cond first other) a =
      alone (rules.given (term_scope a) kind.Boolean cond &&
      ((first a).fits && other_fits other a)) a
  fits_form_layer (Form-F.Present test first other) a =
      alone (fits_test t (term_scope a) test && ((first a).fits && other_fits other a)) a
  fits_form_layer (Form-F.While body) a = alone (body a).fits a
  fits_form_layer (Form-F.Abort weak immediate test body) a =
      alone (fits_test t (term_scope a) test && (body a).fits) a
  fits_form_layer (Form-F.Suspend immediate test body) a =
      alone (fits_test t (term_scope a) test && (body a).fits) a
  fits_form_layer (Form-F.Trap at n body) a = alone (body (in_trap n a)).fits a
  fits_form_layer (Form-F.Exit at n) a = alone (stands_in n a.traps) a
  fits_form_layer (Form-F.Send at c value) a =
      alone (is_sender_of t a.domain c && rules.given (term_scope a) (channel_at t c).kind value) a
  fits_form_layer (Form-F.Receive at c) a = alone (is_receiver_of t a.domain c) a
  fits_form_layer (Form-F.Await immediate test) a = alone (fits_test t (term_scope a) test) a
  fits_form_layer (Form-F.Every immediate test body) a =
      alone (fits_test t (term_scope a) test && (body a).fits) a
  fits_form_layer (Form-F.Loop body test) a =
      alone ((body a).fits && fits_test t (term_scope a) test) a

  abbrev pub fits_block_layer : Block-F ℕ E FittingPart FittingPart FittingPart → FittingPart
  fits_block_layer b a = alone (stmts_fit b.statements a) a

  abbrev pub fits_stmt_layer : Stmt-F ℕ E FittingPart FittingPart FittingPart → FittingPart
  fits_stmt_layer s = s.form

  abbrev pub fits_form : Form ℕ E → FittingPart
  fits_form =
      fold-Form ℕ E FittingPart FittingPart FittingPart fits_form_layer fits_block_layer
      fits_stmt_layer

  abbrev pub fits_block : Block ℕ E → FittingPart
  fits_block =
      fold-Block ℕ E FittingPart FittingPart FittingPart fits_form_layer fits_block_layer
      fits_stmt_layer

  abbrev pub fits_stmt : Stmt ℕ E → FittingPart
  fits_stmt =
      fold-Stmt ℕ E FittingPart FittingPart FittingPart fits_form_layer fits_block_layer
      fits_stmt_layer

  -- the domains, by rising number
  abbrev pub fit_domains : ℕ → List (Block ℕ E) → Bool
  fit_domains d [] = true
  fit_domains d (b ∷ bs) = (fits_block b (at_start d)).fits && fit_domains (suc d) bs

  abbrev pub fits_tree : Tree ℕ E → Bool
  fits_tree tree = fit_domains 0 tree.domains

-- Of an expression with entries it is asked that it may use each of them, whatever it is given to. A plain name is that of
-- a variable.
abbrev pub is_named : Tables → terms.Scope → TableEntry → Bool
is_named t scope (entry.Signal s) = false
is_named t scope (entry.Channel c) = false
is_named t scope (entry.Variable x) = is_variable_of t scope.domain x

-- a `#` reads a signal or a channel
abbrev pub has_status : Tables → terms.Scope → TableEntry → Bool
has_status t scope (entry.Signal s) = can_use t scope s
has_status t scope (entry.Channel c) = is_receiver_of t scope.domain c
has_status t scope (entry.Variable x) = false

abbrev pub fits_raw_layer : Tables → terms.Scope → Raw-F TableEntry Bool → Bool
fits_raw_layer t scope (Raw-F.Literal at v) = true
fits_raw_layer t scope (Raw-F.Least at v) = true
fits_raw_layer t scope (Raw-F.Variable at n) = is_named t scope n
fits_raw_layer t scope (Raw-F.Status at name_at n) = has_status t scope n
fits_raw_layer t scope (Raw-F.Unary at op e) = e
fits_raw_layer t scope (Raw-F.Cast at k e) = e
fits_raw_layer t scope (Raw-F.Group at e) = e
fits_raw_layer t scope (Raw-F.Binary at op l r) = l && r

abbrev pub uses_entries : Tables → terms.Scope → Raw TableEntry → Bool
uses_entries t scope = fold-Raw TableEntry Bool (fits_raw_layer t scope)

abbrev pub value_uses_entries : Tables → terms.Scope → Option (Raw TableEntry) → Bool
value_uses_entries t scope None = true
value_uses_entries t scope (Some e) = uses_entries t scope e

abbrev pub entry_rules : Tables → ValueRules (Raw TableEntry)
entry_rules t =
    record {
      emitted = λ scope k value. value_uses_entries t scope value;
      given = λ scope k e. uses_entries t scope e;
      updated = true;
    }
