-- The ends of the sends and receives of any statement, and the kinds of its registers' values.
use Rattle.std.specs.Prelude.{ℕ, suc, ℤ, ◌⊎◌, List, [], ◌∷◌}
use Rattle.java_values.specs.declared.kind.Kind.{Kind}
use Rattle.java_values.specs.Kinds.{IsInRange}
use Rattle.kernel_terms.specs.Statements.{Stmt, If, Present, Seq, Loop, Par, Trap, Abort, Suspend, Local, Send, Receive}
use Rattle.cell_core.specs.declared.moves.Side.TheVariants.{Sender, Receiver}
use Rattle.domain_core.specs.declared.step.ends_of.EndOf.{EndOf}
use Rattle.domain_core.specs.definitions.runs.Systems.{WaitsToSend, WaitsToReceive}
use Rattle.domain_core.specs.step.EndPlaces.{HasEnd}

-- each send and each receive has its end among these
abbrev pub HaveEnds : List EndOf → Stmt → Type 0
HaveEnds ends (If e p q) = HaveEnds ends p × HaveEnds ends q
HaveEnds ends (Present t p q) = HaveEnds ends p × HaveEnds ends q
HaveEnds ends (Seq p q) = HaveEnds ends p × HaveEnds ends q
HaveEnds ends (Loop p) = HaveEnds ends p
HaveEnds ends (Par p q) = HaveEnds ends p × HaveEnds ends q
HaveEnds ends (Trap p) = HaveEnds ends p
HaveEnds ends (Abort weak armed t p) = HaveEnds ends p
HaveEnds ends (Suspend armed t p) = HaveEnds ends p
HaveEnds ends (Local s v p) = HaveEnds ends p
HaveEnds ends (Send c e) = HasEnd ends c Sender
HaveEnds ends (Receive c) = HasEnd ends c Receiver
HaveEnds ends _ = Unit {0}

-- no send and no receive of the statement waits
abbrev pub NoneWaits : Stmt → Type 0
NoneWaits p = ((c : ℕ) (v : ℤ) → WaitsToSend c v p → ⊥) × ((c : ℕ) → WaitsToReceive c p → ⊥)

-- some part of the statement is a receive
abbrev pub Receives : Stmt → Type 0
Receives (If e p q) = Receives p ⊎ Receives q
Receives (Present t p q) = Receives p ⊎ Receives q
Receives (Seq p q) = Receives p ⊎ Receives q
Receives (Loop p) = Receives p
Receives (Par p q) = Receives p ⊎ Receives q
Receives (Trap p) = Receives p
Receives (Abort weak armed t p) = Receives p
Receives (Suspend armed t p) = Receives p
Receives (Local s v p) = Receives p
Receives (Receive c) = Unit {0}
Receives _ = ⊥

-- the registers from n on have values of these kinds
abbrev pub HoldKinds : List Kind → ℕ → (ℕ → ℤ) → Type 0
HoldKinds [] n r = Unit {0}
HoldKinds (k ∷ ks) n r = IsInRange k (r n) × HoldKinds ks (suc n) r
