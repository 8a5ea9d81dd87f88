-- When tables and terms are a system.
use Rattle.std.specs.Prelude.{ℕ, zero, suc, Bool, true, false, not, ◌&&◌, ◌||◌, cond, nat_lt, nat_le, int_le, ◌==◌, List, [], ◌∷◌, ◌++◌, length, map, Option, Some, None}
use Rattle.std.specs.List.{list_all, list_any}
use Rattle.java_values.specs.declared.kind.Kind.{Kind}
use Rattle.java_values.specs.declared.kind.Kind.TheVariants as kind
use Rattle.java_values.specs.Kinds.{lowest, highest, is_castable, result_kind1, result_kind2}
use Rattle.java_values.specs.Names.{is_name, is_channel_name, are_distinct}
use Rattle.kernel_terms.specs.declared.term.Term.{Term}
use Rattle.kernel_terms.specs.declared.term.Form.TheOpen.{Form-F, Term-F}
use Rattle.kernel_terms.specs.declared.term.Form.TheFolds.{fold-Term}
use Rattle.kernel_terms.specs.declared.tables.SignalInfo.{SignalInfo}
use Rattle.kernel_terms.specs.declared.tables.ChannelInfo.{ChannelInfo}
use Rattle.kernel_terms.specs.declared.tables.VariableInfo.{VariableInfo}
use Rattle.kernel_terms.specs.declared.tables.Combine.{Combine}
use Rattle.kernel_terms.specs.declared.tables.Combine.TheVariants as combine
use Rattle.kernel_terms.specs.declared.tables.Tables.{Tables}
use Rattle.kernel_terms.specs.Limits.{most_domains, most_channels, most_signals, most_variables, most_traps}
use Rattle.kernel_terms.specs.TableEntries.{signal_at, channel_at, variable_at, is_input, is_local, is_interface_of, variables_of, numbers_where}
use Rattle.kernel_terms.specs.Expressions.{Expression, Literal, Variable, SignalValue, ChannelValue, Unary, Binary, Cast, kind_of, Test, IsPresent, Not, Both, Either}
use Rattle.kernel_terms.specs.Statements.{Stmt, Nothing, Pause, Emit, Assign, If, Present, Seq, Loop, Par, Trap, Exit, Abort, Suspend, Local, Send, Receive, SendWaits, Sent, ReceiveWaits, Received, statement}

-- Names: those of interface signals and of channels are names, and no two of them are equal.

abbrev pub interface_names : List SignalInfo → List (List ℕ)
interface_names [] = []
interface_names (s ∷ ss) = cond (is_local s.sort) (interface_names ss) (s.name ∷ interface_names ss)

abbrev pub channel_names : Tables → List (List ℕ)
channel_names t = map (λ c. c.name) t.channels

abbrev pub has_names : Tables → Bool
has_names t =
    list_all is_name (interface_names t.signals)
    && (list_all is_channel_name (channel_names t)
    && are_distinct (interface_names t.signals ++ channel_names t))

-- Limits: on domains and channels, and on the signals and variables of each domain.

abbrev pub all_below : (ℕ → Bool) → ℕ → Bool
all_below keeps zero = true
all_below keeps (suc n) = keeps n && all_below keeps n

abbrev pub signals_of : Tables → ℕ → List ℕ
signals_of t d = numbers_where (λ (s : SignalInfo). s.domain == d) 0 t.signals

abbrev pub is_within_limits : Tables → ℕ → Bool
is_within_limits t domains =
    nat_le domains most_domains
    && (nat_le (length t.channels) most_channels
    && all_below (λ d. nat_le (length (signals_of t d)) most_signals &&
    nat_le (length (variables_of t d)) most_variables) domains)

-- Tables: each entry names domains, those of a channel differ, and interface signals come before local
-- ones.

abbrev pub interface_comes_first : List SignalInfo → Bool
interface_comes_first [] = true
interface_comes_first (s ∷ ss) =
    cond (is_local s.sort) (list_all (λ (l : SignalInfo). is_local l.sort) ss)
    (interface_comes_first ss)

-- A combination fits its signal's kind: a pure signal has the default, and `boolean` has the bitwise ones.
abbrev pub is_default : Combine → Bool
is_default combine.Max = true
is_default _ = false

abbrev pub is_bitwise : Combine → Bool
is_bitwise combine.And = true
is_bitwise combine.Or = true
is_bitwise combine.Xor = true
is_bitwise _ = false

abbrev pub combines : Option Kind → Combine → Bool
combines None c = is_default c
combines (Some kind.Boolean) c = is_bitwise c
combines (Some _) c = true

abbrev pub is_signal_entry : ℕ → SignalInfo → Bool
is_signal_entry domains s = nat_lt s.domain domains && combines s.kind s.combine

abbrev pub is_channel_entry : ℕ → ChannelInfo → Bool
is_channel_entry domains c =
    nat_lt c.sender domains && (nat_lt c.receiver domains && not (c.sender == c.receiver))

abbrev pub is_variable_entry : ℕ → VariableInfo → Bool
is_variable_entry domains x = nat_lt x.domain domains

abbrev pub has_entries : Tables → ℕ → Bool
has_entries t domains =
    list_all (is_signal_entry domains) t.signals
    && (interface_comes_first t.signals
    && (list_all (is_channel_entry domains) t.channels
    && list_all (is_variable_entry domains) t.variables))

-- Lists of parts aren't empty.

abbrev pub has_some : List Bool → Bool
has_some [] = false
has_some (b ∷ bs) = b && list_all (λ c. c) bs

abbrev pub form_has_parts : Form-F Bool Bool → Bool
form_has_parts Form-F.Nothing = true
form_has_parts Form-F.Pause = true
form_has_parts (Form-F.Emit s e) = true
form_has_parts (Form-F.Assign x e) = true
form_has_parts (Form-F.If e b c) = b && c
form_has_parts (Form-F.Present t b c) = b && c
form_has_parts (Form-F.Seq bs) = has_some bs
form_has_parts (Form-F.Loop b) = b
form_has_parts (Form-F.Par bs) = has_some bs
form_has_parts (Form-F.Trap b) = b
form_has_parts (Form-F.Exit d) = true
form_has_parts (Form-F.Abort weak immediate t b) = b
form_has_parts (Form-F.Suspend t b) = b
form_has_parts (Form-F.Local s b) = b
form_has_parts (Form-F.Send c e) = true
form_has_parts (Form-F.Receive c) = true

abbrev pub term_has_parts : Term-F Bool Bool → Bool
term_has_parts t = t.form

abbrev pub has_parts : Term → Bool
has_parts = fold-Term Bool Bool form_has_parts term_has_parts

-- Uses. Within a domain a signal is used that is an interface signal of it, or a local one in whose body
-- the use stands.

pub record Scope : Type 0 where
  pub domain : ℕ
  pub traps : ℕ  -- around the statement
  pub locals : List ℕ  -- in whose bodies it stands

abbrev pub stands_in : ℕ → List ℕ → Bool
stands_in n ns = list_any (λ m. m == n) ns

abbrev pub can_use : Tables → Scope → ℕ → Bool
can_use t scope s = is_interface_of scope.domain (signal_at t s) || stands_in s scope.locals

abbrev pub can_emit : Tables → Scope → ℕ → Bool
can_emit t scope s = can_use t scope s && not (is_input (signal_at t s).sort)

abbrev pub is_variable_of : Tables → ℕ → ℕ → Bool
is_variable_of t d x = nat_lt x (length t.variables) && ((variable_at t x).domain == d)

abbrev pub is_sender_of : Tables → ℕ → ℕ → Bool
is_sender_of t d c = nat_lt c (length t.channels) && ((channel_at t c).sender == d)

abbrev pub is_receiver_of : Tables → ℕ → ℕ → Bool
is_receiver_of t d c = nat_lt c (length t.channels) && ((channel_at t c).receiver == d)

-- Kinds.

abbrev pub same_kind : Kind → Kind → Bool
same_kind kind.Boolean kind.Boolean = true
same_kind kind.Byte kind.Byte = true
same_kind kind.Short kind.Short = true
same_kind kind.Char kind.Char = true
same_kind kind.Int kind.Int = true
same_kind kind.Long kind.Long = true
same_kind _ _ = false

abbrev pub is_of_kind : Option Kind → Kind → Bool
is_of_kind None k = false
is_of_kind (Some l) k = same_kind l k

-- each node has the kind that its operator and its operands give it, and names what may be named
abbrev pub fits_expression : Tables → Scope → Expression → Bool
fits_expression t scope (Literal k n) = int_le (lowest k) n && int_le n (highest k)
fits_expression t scope (Variable k x) =
    is_variable_of t scope.domain x && same_kind (variable_at t x).kind k
fits_expression t scope (SignalValue k s) = can_use t scope s && is_of_kind (signal_at t s).kind k
fits_expression t scope (ChannelValue k c) =
    is_receiver_of t scope.domain c && same_kind (channel_at t c).kind k
fits_expression t scope (Unary k op e) =
    fits_expression t scope e && is_of_kind (result_kind1 op (kind_of e)) k
fits_expression t scope (Binary k op e f) =
    fits_expression t scope e &&
    (fits_expression t scope f && is_of_kind (result_kind2 op (kind_of e) (kind_of f)) k)
fits_expression t scope (Cast k e) = fits_expression t scope e && is_castable (kind_of e) k

-- an expression that is given to something of this kind
abbrev pub is_given : Tables → Scope → Kind → Expression → Bool
is_given t scope k e = fits_expression t scope e && same_kind (kind_of e) k

-- a valued signal is emitted with a value of its kind, and a pure one without
abbrev pub is_emission : Tables → Scope → Option Kind → Option Expression → Bool
is_emission t scope None None = true
is_emission t scope None (Some e) = false
is_emission t scope (Some k) None = false
is_emission t scope (Some k) (Some e) = is_given t scope k e

abbrev pub fits_test : Tables → Scope → Test → Bool
fits_test t scope (IsPresent s) = can_use t scope s
fits_test t scope (Not u) = fits_test t scope u
fits_test t scope (Both u v) = fits_test t scope u && fits_test t scope v
fits_test t scope (Either u v) = fits_test t scope u && fits_test t scope v

-- a local signal of the domain
abbrev pub is_local_of : Tables → ℕ → ℕ → Bool
is_local_of t d s =
    nat_lt s (length t.signals) && (is_local (signal_at t s).sort && ((signal_at t s).domain == d))

-- the statement keeps these rules; sends and receives that wait or have completed stand in no program
abbrev pub fits_statement : Tables → Scope → Stmt → Bool
fits_statement t scope Nothing = true
fits_statement t scope Pause = true
fits_statement t scope (Emit s e) = can_emit t scope s && is_emission t scope (signal_at t s).kind e
fits_statement t scope (Assign x e) =
    is_variable_of t scope.domain x && is_given t scope (variable_at t x).kind e
fits_statement t scope (If e p q) =
    is_given t scope kind.Boolean e && (fits_statement t scope p && fits_statement t scope q)
fits_statement t scope (Present u p q) =
    fits_test t scope u && (fits_statement t scope p && fits_statement t scope q)
fits_statement t scope (Seq p q) = fits_statement t scope p && fits_statement t scope q
fits_statement t scope (Loop p) = fits_statement t scope p
fits_statement t scope (Par p q) = fits_statement t scope p && fits_statement t scope q
fits_statement t scope (Trap p) = fits_statement t (record scope { traps = suc scope.traps }) p
fits_statement t scope (Exit d) = nat_lt d scope.traps && nat_lt d most_traps
fits_statement t scope (Abort weak armed u p) = fits_test t scope u && fits_statement t scope p
fits_statement t scope (Suspend armed u p) = fits_test t scope u && fits_statement t scope p
fits_statement t scope (Local s v p) =
    is_local_of t scope.domain s && fits_statement t (record scope { locals = s ∷ scope.locals }) p
fits_statement t scope (Send c e) =
    is_sender_of t scope.domain c && is_given t scope (channel_at t c).kind e
fits_statement t scope (Receive c) = is_receiver_of t scope.domain c
fits_statement t scope (SendWaits c v) = false
fits_statement t scope (Sent c) = false
fits_statement t scope (ReceiveWaits c) = false
fits_statement t scope (Received c) = false

-- of each domain, by number
abbrev pub fit_statements : Tables → ℕ → List Stmt → Bool
fit_statements t d [] = true
fit_statements t d (p ∷ ps) =
    fits_statement t (record { domain = d; traps = 0; locals = [] }) p &&
    fit_statements t (suc d) ps

-- Each local signal is declared by one statement.

abbrev pub declared_by : Stmt → List ℕ
declared_by Nothing = []
declared_by Pause = []
declared_by (Emit s e) = []
declared_by (Assign x e) = []
declared_by (If e p q) = declared_by p ++ declared_by q
declared_by (Present u p q) = declared_by p ++ declared_by q
declared_by (Seq p q) = declared_by p ++ declared_by q
declared_by (Loop p) = declared_by p
declared_by (Par p q) = declared_by p ++ declared_by q
declared_by (Trap p) = declared_by p
declared_by (Exit d) = []
declared_by (Abort weak armed u p) = declared_by p
declared_by (Suspend armed u p) = declared_by p
declared_by (Local s v p) = s ∷ declared_by p
declared_by (Send c e) = []
declared_by (Receive c) = []
declared_by (SendWaits c v) = []
declared_by (Sent c) = []
declared_by (ReceiveWaits c) = []
declared_by (Received c) = []

abbrev pub declared_by_all : List Stmt → List ℕ
declared_by_all [] = []
declared_by_all (p ∷ ps) = declared_by p ++ declared_by_all ps

abbrev pub are_apart : List ℕ → Bool
are_apart [] = true
are_apart (n ∷ ns) = not (stands_in n ns) && are_apart ns

abbrev pub declares_each_once : Tables → List Stmt → Bool
declares_each_once t ps =
    are_apart (declared_by_all ps)
    && list_all (λ s. stands_in s (declared_by_all ps))
    (numbers_where (λ (s : SignalInfo). is_local s.sort) 0 t.signals)

-- the tables and the terms of the domains keep all of this
abbrev pub is_well_formed : Tables → List Term → Bool
is_well_formed t domains =
    has_names t
    && (is_within_limits t (length domains)
    && (has_entries t (length domains)
    && (list_all has_parts domains
    && (fit_statements t 0 (map statement domains)
    && declares_each_once t (map statement domains)))))
