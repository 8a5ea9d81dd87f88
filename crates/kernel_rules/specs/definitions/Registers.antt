-- The registers of a domain, the statement that they stand for, and when they fit.
use Rattle.std.specs.Prelude.{◌≡◌, ℕ, suc, ◌+◌, ◌==◌, ℤ, pos, Bool, true, false, ◌&&◌, ◌||◌, cond, List, [], ◌∷◌, ◌++◌, length, map, Option, Some, None}
use Rattle.java_values.specs.declared.kind.Kind.{Kind}
use Rattle.java_values.specs.declared.kind.Kind.TheVariants as kind
use Rattle.java_values.specs.Arithmetic.{is_true}
use Rattle.kernel_terms.specs.declared.tables.Tables.{Tables}
use Rattle.kernel_terms.specs.TableEntries.{value_kind, signal_at, channel_at, variable_at, valued_of, variables_of, received_by}
use Rattle.kernel_terms.specs.Statements.{Stmt, Nothing, Pause, Emit, Assign, If, Present, Seq, Loop, Par, Trap, Exit, Abort, Suspend, Local, Send, Receive, SendWaits, Sent, ReceiveWaits, Received}
use Rattle.kernel_terms.specs.MayEnd.{ends0, ends1}

-- a pure signal has no register
abbrev pub value_kinds : Option Kind → List Kind
value_kinds None = []
value_kinds (Some k) = k ∷ []

-- The kinds of a statement's registers, by its position from the left, a statement before its parts: a
-- pause has a flag `on`, a receive `on` and then `met`, a send `on`, `met` and its value, and a local
-- signal its last value.
abbrev pub statement_registers : Tables → Stmt → List Kind
statement_registers tables Nothing = []
statement_registers tables Pause = kind.Boolean ∷ []
statement_registers tables (Emit s e) = []
statement_registers tables (Assign x e) = []
statement_registers tables (If e p q) = statement_registers tables p ++ statement_registers tables q
statement_registers tables (Present t p q) =
    statement_registers tables p ++ statement_registers tables q
statement_registers tables (Seq p q) = statement_registers tables p ++ statement_registers tables q
statement_registers tables (Loop p) = statement_registers tables p
statement_registers tables (Par p q) = statement_registers tables p ++ statement_registers tables q
statement_registers tables (Trap p) = statement_registers tables p
statement_registers tables (Exit d) = []
statement_registers tables (Abort weak armed t p) = statement_registers tables p
statement_registers tables (Suspend armed t p) = statement_registers tables p
statement_registers tables (Local s v p) =
    value_kinds (signal_at tables s).kind ++ statement_registers tables p
statement_registers tables (Send c e) =
    kind.Boolean ∷ kind.Boolean ∷ (channel_at tables c).kind ∷ []
statement_registers tables (Receive c) = kind.Boolean ∷ kind.Boolean ∷ []
statement_registers tables (SendWaits c v) = []
statement_registers tables (Sent c) = []
statement_registers tables (ReceiveWaits c) = []
statement_registers tables (Received c) = []

-- how many registers the statement has
abbrev pub registers : Tables → Stmt → ℕ
registers tables p = length (statement_registers tables p)

-- The kinds of all registers of a domain: those of its statement, then one for each of its variables, for
-- each of its valued interface signals and for each channel that it receives from, by rising number.
abbrev pub domain_registers : Tables → ℕ → Stmt → List Kind
domain_registers tables d p =
    statement_registers tables p
    ++ (map (λ x. (variable_at tables x).kind) (variables_of tables d)
    ++ (map (λ s. value_kind (signal_at tables s)) (valued_of tables d)
    ++ map (λ c. (channel_at tables c).kind) (received_by tables d)))

-- the number of the first register of a variable, of a valued interface signal, and of a channel
abbrev pub first_variable : Tables → Stmt → ℕ
first_variable tables p = registers tables p

abbrev pub first_value : Tables → ℕ → Stmt → ℕ
first_value tables d p = first_variable tables p + length (variables_of tables d)

abbrev pub first_last : Tables → ℕ → Stmt → ℕ
first_last tables d p = first_value tables d p + length (valued_of tables d)

-- What the registers from n on hold for the entries of a list, one each; any other number has 0.
abbrev pub held_for : List ℕ → ℕ → (ℕ → ℤ) → ℕ → ℤ
held_for [] n r k = pos 0
held_for (i ∷ is) n r k = cond (i == k) (r n) (held_for is (suc n) r k)

-- the variables, the values of the interface signals and the last values of the channels that a domain's
-- registers stand for; a pure signal has 0
abbrev pub variables_held : Tables → ℕ → Stmt → (ℕ → ℤ) → ℕ → ℤ
variables_held tables d p r = held_for (variables_of tables d) (first_variable tables p) r

abbrev pub values_held : Tables → ℕ → Stmt → (ℕ → ℤ) → ℕ → ℤ
values_held tables d p r = held_for (valued_of tables d) (first_value tables d p) r

abbrev pub last_held : Tables → ℕ → Stmt → (ℕ → ℤ) → ℕ → ℤ
last_held tables d p r = held_for (received_by tables d) (first_last tables d p) r

-- Some pause, send or receive of the statement, whose first register has the number n, is on.
abbrev pub live : Tables → Stmt → ℕ → (ℕ → ℤ) → Bool
live tables Nothing n r = false
live tables Pause n r = is_true (r n)
live tables (Emit s e) n r = false
live tables (Assign x e) n r = false
live tables (If e p q) n r = live tables p n r || live tables q (n + registers tables p) r
live tables (Present t p q) n r = live tables p n r || live tables q (n + registers tables p) r
live tables (Seq p q) n r = live tables p n r || live tables q (n + registers tables p) r
live tables (Loop p) n r = live tables p n r
live tables (Par p q) n r = live tables p n r || live tables q (n + registers tables p) r
live tables (Trap p) n r = live tables p n r
live tables (Exit d) n r = false
live tables (Abort weak armed t p) n r = live tables p n r
live tables (Suspend armed t p) n r = live tables p n r
live tables (Local s v p) n r = live tables p (n + length (value_kinds (signal_at tables s).kind)) r
live tables (Send c e) n r = is_true (r n)
live tables (Receive c) n r = is_true (r n)
live tables (SendWaits c v) n r = false
live tables (Sent c) n r = false
live tables (ReceiveWaits c) n r = false
live tables (Received c) n r = false

-- the last value of a local signal, whose first register has the number n
abbrev pub last_value : Option Kind → ℕ → (ℕ → ℤ) → ℤ
last_value None n r = pos 0
last_value (Some k) n r = r n

-- The statement that the registers of a live statement stand for. A branch that isn't live has ended.
abbrev pub residual : Tables → Stmt → ℕ → (ℕ → ℤ) → Stmt
residual tables Nothing n r = Nothing
residual tables Pause n r = Nothing
residual tables (Emit s e) n r = Nothing
residual tables (Assign x e) n r = Nothing
residual tables (If e p q) n r =
    cond (live tables p n r) (residual tables p n r) (residual tables q (n + registers tables p) r)
residual tables (Present t p q) n r =
    cond (live tables p n r) (residual tables p n r) (residual tables q (n + registers tables p) r)
residual tables (Seq p q) n r =
    cond (live tables p n r) (Seq (residual tables p n r) q)
    (residual tables q (n + registers tables p) r)
residual tables (Loop p) n r = Seq (residual tables p n r) (Loop p)
residual tables (Par p q) n r =
    Par (cond (live tables p n r) (residual tables p n r) Nothing)
    (cond (live tables q (n + registers tables p) r) (residual tables q (n + registers tables p) r)
    Nothing)
residual tables (Trap p) n r = Trap (residual tables p n r)
residual tables (Exit d) n r = Nothing
residual tables (Abort weak armed t p) n r = Abort weak true t (residual tables p n r)
residual tables (Suspend armed t p) n r = Suspend true t (residual tables p n r)
residual tables (Local s v p) n r =
    Local s (last_value (signal_at tables s).kind n r)
    (residual tables p (n + length (value_kinds (signal_at tables s).kind)) r)
residual tables (Send c e) n r = cond (is_true (r (n + 1))) (Sent c) (SendWaits c (r (n + 2)))
residual tables (Receive c) n r = cond (is_true (r (n + 1))) (Received c) (ReceiveWaits c)
residual tables (SendWaits c v) n r = Nothing
residual tables (Sent c) n r = Nothing
residual tables (ReceiveWaits c) n r = Nothing
residual tables (Received c) n r = Nothing

-- at most one of the two is live
abbrev pub AtMostOne : Bool → Bool → Type 0
AtMostOne a b = a && b ≡ false

-- a branch of a live parallel that isn't live has ended, in the starting tick or later
abbrev pub OverOrLive : Bool → Stmt → Type 0
OverOrLive is_live p = is_live || (ends0 p || ends1 p) ≡ true

-- Of the two parts of each sequence and of each choice at most one is live, and each branch of a live
-- parallel that isn't live may have ended.
abbrev pub LivesApart : Tables → Stmt → ℕ → (ℕ → ℤ) → Type 0
LivesApart tables Nothing n r = Unit {0}
LivesApart tables Pause n r = Unit {0}
LivesApart tables (Emit s e) n r = Unit {0}
LivesApart tables (Assign x e) n r = Unit {0}
LivesApart tables (If e p q) n r =
    AtMostOne (live tables p n r) (live tables q (n + registers tables p) r) ×
    LivesApart tables p n r × LivesApart tables q (n + registers tables p) r
LivesApart tables (Present t p q) n r =
    AtMostOne (live tables p n r) (live tables q (n + registers tables p) r) ×
    LivesApart tables p n r × LivesApart tables q (n + registers tables p) r
LivesApart tables (Seq p q) n r =
    AtMostOne (live tables p n r) (live tables q (n + registers tables p) r) ×
    LivesApart tables p n r × LivesApart tables q (n + registers tables p) r
LivesApart tables (Loop p) n r = LivesApart tables p n r
LivesApart tables (Par p q) n r =
    (live tables (Par p q) n r ≡ true →
    OverOrLive (live tables p n r) p × OverOrLive (live tables q (n + registers tables p) r) q)
    × LivesApart tables p n r × LivesApart tables q (n + registers tables p) r
LivesApart tables (Trap p) n r = LivesApart tables p n r
LivesApart tables (Exit d) n r = Unit {0}
LivesApart tables (Abort weak armed t p) n r = LivesApart tables p n r
LivesApart tables (Suspend armed t p) n r = LivesApart tables p n r
LivesApart tables (Local s v p) n r =
    LivesApart tables p (n + length (value_kinds (signal_at tables s).kind)) r
LivesApart tables (Send c e) n r = Unit {0}
LivesApart tables (Receive c) n r = Unit {0}
LivesApart tables (SendWaits c v) n r = Unit {0}
LivesApart tables (Sent c) n r = Unit {0}
LivesApart tables (ReceiveWaits c) n r = Unit {0}
LivesApart tables (Received c) n r = Unit {0}

-- the registers fit the statement, whose first register has the number n
pub record FitRegisters (tables : Tables) (p : Stmt) (n : ℕ) (r : ℕ → ℤ) : Type 0 where
  pub is_live : live tables p n r ≡ true
  pub apart : LivesApart tables p n r
