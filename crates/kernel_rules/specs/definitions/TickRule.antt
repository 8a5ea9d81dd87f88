-- The tick rule: what a statement does in one tick.
use Rattle.std.specs.Prelude.{◌≡◌, ℕ, suc, ◌-◌, max, ◌==◌, nat_le, nat_lt, ℤ, pos, Bool, true, false, ◌&&◌, ◌||◌, cond, List, [], ◌∷◌, ◌++◌, Option, Some, None}
use Rattle.java_values.specs.Arithmetic.{is_true}
use Rattle.kernel_terms.specs.declared.tables.Tables.{Tables}
use Rattle.kernel_terms.specs.Limits.{most_traps}
use Rattle.kernel_terms.specs.TableEntries.{signal_at}
use Rattle.kernel_terms.specs.Expressions.{Expression}
use Rattle.kernel_terms.specs.Statements.{Stmt, Nothing, Pause, Emit, Assign, If, Present, Seq, Loop, Par, Trap, Exit, Abort, Suspend, Local, Send, Receive, SendWaits, Sent, ReceiveWaits, Received}
use Rattle.kernel_rules.specs.definitions.Signals.{Emission, Env, put_at, is_emitted, values_of, without, folded}
use Rattle.kernel_rules.specs.definitions.Expressions.{Readings, GivesValue, holds}

-- A tick: its completion code, what the statement leaves, its emissions in order, and the variables after
-- it.
pub record Tick : Type 0 where
  pub code : ℕ
  pub rest : Stmt
  pub emits : List Emission
  pub variables : ℕ → ℤ

-- Completion codes: a statement has ended, has paused, or exits to the trap of a depth below 64, counted
-- outwards from 0. Codes above all exits are none of these.
abbrev pub ended_code : ℕ
ended_code = 0

abbrev pub paused_code : ℕ
paused_code = 1

abbrev pub exit_code : ℕ → ℕ
exit_code d = suc (suc d)

abbrev pub has_ended : ℕ → Bool
has_ended code = code == ended_code

abbrev pub has_paused : ℕ → Bool
has_paused code = code == paused_code

abbrev pub has_exited : ℕ → Bool
has_exited code = nat_le (exit_code 0) code && nat_lt code (exit_code most_traps)

-- of two parts beside each other
abbrev pub code_of_both : ℕ → ℕ → ℕ
code_of_both = max

-- an exit to the trap itself ends it, an exit further out counts from there, and any other code stays
abbrev pub code_of_trap : ℕ → ℕ
code_of_trap code = cond (code == exit_code 0) ended_code (cond (has_exited code) (code - 1) code)

-- a weak abort ends a body that would pause
abbrev pub code_of_weak_abort : ℕ → ℕ
code_of_weak_abort code = cond (has_paused code) ended_code code

-- nothing is left but where it has paused
abbrev pub left_at : ℕ → Stmt → Stmt
left_at code t = cond (has_paused code) t Nothing

-- a tick with no emission that changes no variable
abbrev pub quiet : ℕ → Stmt → (ℕ → ℤ) → Tick
quiet code rest x = record { code = code; rest = rest; emits = []; variables = x }

abbrev pub ends_with : List Emission → (ℕ → ℤ) → Tick
ends_with m x = record { code = ended_code; rest = Nothing; emits = m; variables = x }

-- the tick of a part, of which the whole has this code and leaves this where it pauses
abbrev pub as_whole : ℕ → Stmt → Tick → Tick
as_whole code rest a =
    record { code = code; rest = left_at code rest; emits = a.emits; variables = a.variables }

-- the statement may assign the variable
abbrev pub writes : Stmt → ℕ → Bool
writes Nothing x = false
writes Pause x = false
writes (Emit s e) x = false
writes (Assign y e) x = y == x
writes (If e p q) x = writes p x || writes q x
writes (Present t p q) x = writes p x || writes q x
writes (Seq p q) x = writes p x || writes q x
writes (Loop p) x = writes p x
writes (Par p q) x = writes p x || writes q x
writes (Trap p) x = writes p x
writes (Exit d) x = false
writes (Abort weak armed t p) x = writes p x
writes (Suspend armed t p) x = writes p x
writes (Local s v p) x = writes p x
writes (Send c e) x = false
writes (Receive c) x = false
writes (SendWaits c v) x = false
writes (Sent c) x = false
writes (ReceiveWaits c) x = false
writes (Received c) x = false

-- the variables after both parts: those that the first may assign come from it, all others from the second
abbrev pub variables_of_both : Stmt → (ℕ → ℤ) → (ℕ → ℤ) → ℕ → ℤ
variables_of_both p x y n = cond (writes p n) (x n) (y n)

abbrev pub tick_of_both : Stmt → Tick → Tick → Tick
tick_of_both p a b = record {
  code = code_of_both a.code b.code;
  rest = left_at (code_of_both a.code b.code) (Par a.rest b.rest);
  emits = a.emits ++ b.emits;
  variables = variables_of_both p a.variables b.variables;
}

-- the second part of a sequence ticks where the first has ended, from the first one's variables
abbrev pub Continues : ((ℕ → ℤ) → Tick → Type 0) → Stmt → Tick → Bool → Tick → Type 0
Continues second q a true o =
    (b : Tick) × second a.variables b × (o ≡ record b { emits = a.emits ++ b.emits })
Continues second q a false o = o ≡ as_whole a.code (Seq a.rest q) a

abbrev pub Chosen : Bool → Type 0 → Type 0 → Type 0
Chosen true A B = A
Chosen false A B = B

abbrev pub IsEmitted : Readings → Option Expression → ℤ → Type 0
IsEmitted r None v = v ≡ pos 0
IsEmitted r (Some e) v = GivesValue r e v

-- An armed abort whose test holds: a strong one ends, and its body doesn't tick; the body of a weak one
-- ticks once more.
abbrev pub Aborts : (weak : Bool) → (Tick → Type 0) → (ℕ → ℤ) → Tick → Type 0
Aborts false body x o = o ≡ ends_with [] x
Aborts true body x o = (a : Tick) × body a × (o ≡ as_whole (code_of_weak_abort a.code) Nothing a)

-- The statement makes this tick in the environment, from these variables. The tables tell how the
-- emissions of local signals are combined, and `last` is the last value of each channel.
abbrev pub Ticks : Tables → (ℕ → ℤ) → Stmt → Env → (ℕ → ℤ) → Tick → Type 0
Ticks tables last Nothing env x o = o ≡ ends_with [] x
Ticks tables last Pause env x o = o ≡ quiet paused_code Nothing x
Ticks tables last (Emit s e) env x o =
    (v : ℤ) × IsEmitted (record { variables = x; env = env; last = last }) e v ×
    (o ≡ ends_with (record { signal = s; value = v } ∷ []) x)
Ticks tables last (Assign y e) env x o =
    (v : ℤ) × GivesValue (record { variables = x; env = env; last = last }) e v ×
    (o ≡ ends_with [] (put_at x y v))
Ticks tables last (If e p q) env x o =
    (v : ℤ) × GivesValue (record { variables = x; env = env; last = last }) e v ×
    Chosen (is_true v) (Ticks tables last p env x o) (Ticks tables last q env x o)
Ticks tables last (Present t p q) env x o =
    Chosen (holds env t) (Ticks tables last p env x o) (Ticks tables last q env x o)
Ticks tables last (Seq p q) env x o =
    (a : Tick) × Ticks tables last p env x a ×
    Continues (λ y b. Ticks tables last q env y b) q a (has_ended a.code) o
Ticks tables last (Loop p) env x o =
    (a : Tick) × Ticks tables last p env x a × (has_ended a.code ≡ false) ×
    (o ≡ as_whole a.code (Seq a.rest (Loop p)) a)
Ticks tables last (Par p q) env x o =
    (a : Tick) × (b : Tick) × Ticks tables last p env x a × Ticks tables last q env x b ×
    (o ≡ tick_of_both p a b)
Ticks tables last (Trap p) env x o =
    (a : Tick) × Ticks tables last p env x a × (o ≡ as_whole (code_of_trap a.code) (Trap a.rest) a)
Ticks tables last (Exit d) env x o = o ≡ quiet (exit_code d) Nothing x
Ticks tables last (Abort weak armed t p) env x o =
    Chosen (armed && holds env t)
    (Aborts weak (λ a. Ticks tables last p env x a) x o)
    ((a : Tick) × Ticks tables last p env x a × (o ≡ as_whole a.code (Abort weak true t a.rest) a))
Ticks tables last (Suspend armed t p) env x o =
    Chosen (armed && holds env t)
    (o ≡ quiet paused_code (Suspend armed t p) x)
    ((a : Tick) × Ticks tables last p env x a × (o ≡ as_whole a.code (Suspend true t a.rest) a))
Ticks tables last (Local s v p) env x o =
    (b : Bool) × (w : ℤ) × (a : Tick) ×
    Ticks tables last p (put_at env s (record { present = b; value = w })) x a
    × (b ≡ is_emitted a.emits s) × (w ≡ folded (signal_at tables s) v (values_of s a.emits))
    × (o ≡ record {
      code = a.code;
      rest = left_at a.code (Local s w a.rest);
      emits = without s a.emits;
      variables = a.variables;
    })
Ticks tables last (Send c e) env x o =
    (v : ℤ) × GivesValue (record { variables = x; env = env; last = last }) e v ×
    (o ≡ quiet paused_code (SendWaits c v) x)
Ticks tables last (Receive c) env x o = o ≡ quiet paused_code (ReceiveWaits c) x
Ticks tables last (SendWaits c v) env x o = o ≡ quiet paused_code (SendWaits c v) x
Ticks tables last (Sent c) env x o = o ≡ ends_with [] x
Ticks tables last (ReceiveWaits c) env x o = o ≡ quiet paused_code (ReceiveWaits c) x
Ticks tables last (Received c) env x o = o ≡ ends_with [] x
