-- The registers of a built statement, and the statement that they stand for.
use Rattle.std.specs.Prelude.{◌≡◌, ℕ, ◌+◌, ℤ, Bool, true, false, ◌&&◌, ◌||◌, cond, List, [], ◌∷◌, ◌++◌}
use Rattle.java_values.specs.Arithmetic.{is_true}
use Rattle.kernel_terms.specs.Statements.{Stmt}
use Rattle.kernel_terms.specs.Statements as rules
use Rattle.domain_core.specs.equations.BuiltForms.{Plain, Nothing, Pause, Emit, Seq, Loop, Send, Receive, whole}

-- how many registers it has: a pause `on`, a receive `on` and `met`, a send `on`, `met` and its value
abbrev pub registers : Plain → ℕ
registers Nothing = 0
registers Pause = 1
registers (Emit s) = 0
registers (Seq p q) = registers p + registers q
registers (Loop p) = registers p
registers (Send c n) = 3
registers (Receive c) = 2

-- Some `on` of the statement, whose first register has number r, is on.
abbrev pub live : Plain → ℕ → (ℕ → Bool) → Bool
live Nothing r on = false
live Pause r on = on r
live (Emit s) r on = false
live (Seq p q) r on = live p r on || live q (r + registers p) on
live (Loop p) r on = live p r on
live (Send c n) r on = on r
live (Receive c) r on = on r

-- what the registers stand for, where each send has its literal
abbrev pub rest : Plain → ℕ → (ℕ → Bool) → Stmt
rest Nothing r on = rules.Nothing
rest Pause r on = rules.Nothing
rest (Emit s) r on = rules.Nothing
rest (Seq p q) r on =
    cond (live p r on) (rules.Seq (rest p r on) (whole q)) (rest q (r + registers p) on)
rest (Loop p) r on = rules.Seq (rest p r on) (rules.Loop (whole p))
rest (Send c n) r on = cond (on (r + 1)) (rules.Sent c) (rules.SendWaits c n)
rest (Receive c) r on = cond (on (r + 1)) (rules.Received c) (rules.ReceiveWaits c)

-- at most one part of each sequence is live
abbrev pub LivesOnce : Plain → ℕ → (ℕ → Bool) → Type 0
LivesOnce (Seq p q) r on =
    (live p r on && live q (r + registers p) on ≡ false) × LivesOnce p r on ×
    LivesOnce q (r + registers p) on
LivesOnce (Loop p) r on = LivesOnce p r on
LivesOnce _ r on = Unit {0}

-- the registers stand for this statement
pub record StandFor (p : Plain) (r : ℕ) (on : ℕ → Bool) (t : Stmt) : Type 0 where
  pub is_live : live p r on ≡ true
  pub residual : rest p r on ≡ t
  pub once : LivesOnce p r on

-- the value registers of the sends, with their literals
abbrev pub literals : Plain → ℕ → List (ℕ × ℤ)
literals (Seq p q) r = literals p r ++ literals q (r + registers p)
literals (Loop p) r = literals p r
literals (Send c n) r = (r + 2, n) ∷ []
literals _ r = []

-- a send that is on has its literal in its value register
abbrev pub HoldsLiteral : Plain → ℕ → (ℕ → ℤ) → Type 0
HoldsLiteral (Seq p q) r f = HoldsLiteral p r f × HoldsLiteral q (r + registers p) f
HoldsLiteral (Loop p) r f = HoldsLiteral p r f
HoldsLiteral (Send c n) r f = is_true (f r) ≡ true → f (r + 2) ≡ n
HoldsLiteral _ r f = Unit {0}
