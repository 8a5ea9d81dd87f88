-- Statements of a source.
use Rattle.std.specs.Prelude.{◌≡◌, ℕ, pos, false, ◌&&◌, None}
use Rattle.kernel_terms.specs.declared.tables.Tables.{Tables}
use Rattle.kernel_terms.specs.TableEntries.{signal_at}
use Rattle.kernel_terms.specs.Statements.{Stmt, Nothing, Pause, Emit, Assign, If, Present, Seq, Loop, Par, Trap, Exit, Abort, Suspend, Local, Send, Receive, SendWaits, Sent, ReceiveWaits, Received}
use Rattle.kernel_rules.specs.definitions.TickRule.{writes}

-- A statement of a source: no suspend is armed, no form of a run stands in it, a local signal begins with
-- 0, a pure signal is emitted without a value, and no variable is assigned by two branches.
abbrev pub IsSource : Tables → Stmt → Type 0
IsSource tables Nothing = Unit {0}
IsSource tables Pause = Unit {0}
IsSource tables (Emit s e) = (signal_at tables s).kind ≡ None → e ≡ None
IsSource tables (Assign y e) = Unit {0}
IsSource tables (If e p q) = IsSource tables p × IsSource tables q
IsSource tables (Present t p q) = IsSource tables p × IsSource tables q
IsSource tables (Seq p q) = IsSource tables p × IsSource tables q
IsSource tables (Loop p) = IsSource tables p
IsSource tables (Par p q) =
    ((x : ℕ) → writes p x && writes q x ≡ false) × IsSource tables p × IsSource tables q
IsSource tables (Trap p) = IsSource tables p
IsSource tables (Exit d) = Unit {0}
IsSource tables (Abort weak armed t p) = IsSource tables p
IsSource tables (Suspend armed t p) = (armed ≡ false) × IsSource tables p
IsSource tables (Local s v p) = (v ≡ pos 0) × IsSource tables p
IsSource tables (Send c e) = Unit {0}
IsSource tables (Receive c) = Unit {0}
IsSource tables (SendWaits c v) = ⊥
IsSource tables (Sent c) = ⊥
IsSource tables (ReceiveWaits c) = ⊥
IsSource tables (Received c) = ⊥
