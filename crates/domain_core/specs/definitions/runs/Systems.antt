-- A program with its inputs, the states of its clock domains and channels, and its steps.
use Rattle.std.specs.Prelude.{◌≡◌, ◌≢◌, ℕ, ◌<◌, ◌==◌, ◌&&◌, ℤ, pos, Bool, cond, ◌⊎◌, List, [], ◌∷◌, ◌++◌, length, map, get_or, Option, Some, None, is_some, unwrap_or}
use Rattle.kernel_terms.specs.declared.tables.Tables.{Tables}
use Rattle.kernel_terms.specs.TableEntries.{channel_at}
use Rattle.kernel_terms.specs.declared.system.System.{System}
use Rattle.kernel_terms.specs.Systems.{tables_of, domains_of}
use Rattle.kernel_terms.specs.Marks.{Going}
use Rattle.kernel_terms.specs.Statements.{statement, Stmt, Nothing, Pause, Emit, Assign, If, Present, Seq, Loop, Par, Trap, Exit, Abort, Suspend, Local, Send, Receive, SendWaits, Sent, ReceiveWaits, Received}
use Rattle.kernel_rules.specs.definitions.Signals.{put_at}
use Rattle.kernel_rules.specs.definitions.LegalTick.{DomainState, Inputs, IsLegalTick}

-- a program, one statement per clock domain, and the inputs that it is given
pub record Setup : Type 0 where
  pub tables : Tables
  pub statements : List Stmt
  pub inputs : Inputs

-- the statement of a domain at its start
abbrev pub source_of : System → ℕ → Stmt
source_of system d = get_or (map statement (domains_of system)) d Nothing

-- a system that is given these inputs
abbrev pub setup_of : System → Inputs → Setup
setup_of system inputs =
    record {
      tables = tables_of system;
      statements = map statement (domains_of system);
      inputs = inputs;
    }

-- how many domains and channels there are
abbrev pub domain_count : Setup → ℕ
domain_count setup = length setup.statements

abbrev pub channel_count : Setup → ℕ
channel_count setup = length setup.tables.channels

-- the domain that sends on a channel, and the one that receives
abbrev pub sender_of : Setup → ℕ → ℕ
sender_of setup c = (channel_at setup.tables c).sender

abbrev pub receiver_of : Setup → ℕ → ℕ
receiver_of setup c = (channel_at setup.tables c).receiver

-- each channel joins two different domains of the program
pub record IsSystem (setup : Setup) : Type 0 where
  pub sender : (c : ℕ) → c < channel_count setup → sender_of setup c < domain_count setup
  pub receiver : (c : ℕ) → c < channel_count setup → receiver_of setup c < domain_count setup
  pub apart : (c : ℕ) → c < channel_count setup → sender_of setup c ≢ receiver_of setup c

-- a part of the statement is a send on the channel that waits with this value
abbrev pub WaitsToSend : ℕ → ℤ → Stmt → Type 0
WaitsToSend c v (If e p q) = WaitsToSend c v p ⊎ WaitsToSend c v q
WaitsToSend c v (Present t p q) = WaitsToSend c v p ⊎ WaitsToSend c v q
WaitsToSend c v (Seq p q) = WaitsToSend c v p ⊎ WaitsToSend c v q
WaitsToSend c v (Loop p) = WaitsToSend c v p
WaitsToSend c v (Par p q) = WaitsToSend c v p ⊎ WaitsToSend c v q
WaitsToSend c v (Trap p) = WaitsToSend c v p
WaitsToSend c v (Abort weak armed t p) = WaitsToSend c v p
WaitsToSend c v (Suspend armed t p) = WaitsToSend c v p
WaitsToSend c v (Local s w p) = WaitsToSend c v p
WaitsToSend c v (SendWaits d w) = (d ≡ c) × (w ≡ v)
WaitsToSend c v _ = ⊥

-- a part of the statement is a receive on the channel that waits
abbrev pub WaitsToReceive : ℕ → Stmt → Type 0
WaitsToReceive c (If e p q) = WaitsToReceive c p ⊎ WaitsToReceive c q
WaitsToReceive c (Present t p q) = WaitsToReceive c p ⊎ WaitsToReceive c q
WaitsToReceive c (Seq p q) = WaitsToReceive c p ⊎ WaitsToReceive c q
WaitsToReceive c (Loop p) = WaitsToReceive c p
WaitsToReceive c (Par p q) = WaitsToReceive c p ⊎ WaitsToReceive c q
WaitsToReceive c (Trap p) = WaitsToReceive c p
WaitsToReceive c (Abort weak armed t p) = WaitsToReceive c p
WaitsToReceive c (Suspend armed t p) = WaitsToReceive c p
WaitsToReceive c (Local s v p) = WaitsToReceive c p
WaitsToReceive c (ReceiveWaits d) = d ≡ c
WaitsToReceive c _ = ⊥

-- the statement once the waiting sends on the channels of `sent` and the waiting receives on those of `got`
-- have completed
abbrev pub rewritten : (sent got : ℕ → Bool) → Stmt → Stmt
rewritten sent got Nothing = Nothing
rewritten sent got Pause = Pause
rewritten sent got (Emit s e) = Emit s e
rewritten sent got (Assign x e) = Assign x e
rewritten sent got (If e p q) = If e (rewritten sent got p) (rewritten sent got q)
rewritten sent got (Present t p q) = Present t (rewritten sent got p) (rewritten sent got q)
rewritten sent got (Seq p q) = Seq (rewritten sent got p) (rewritten sent got q)
rewritten sent got (Loop p) = Loop (rewritten sent got p)
rewritten sent got (Par p q) = Par (rewritten sent got p) (rewritten sent got q)
rewritten sent got (Trap p) = Trap (rewritten sent got p)
rewritten sent got (Exit d) = Exit d
rewritten sent got (Abort weak armed t p) = Abort weak armed t (rewritten sent got p)
rewritten sent got (Suspend armed t p) = Suspend armed t (rewritten sent got p)
rewritten sent got (Local s v p) = Local s v (rewritten sent got p)
rewritten sent got (Send c e) = Send c e
rewritten sent got (Receive c) = Receive c
rewritten sent got (SendWaits c v) = cond (sent c) (Sent c) (SendWaits c v)
rewritten sent got (Sent c) = Sent c
rewritten sent got (ReceiveWaits c) = cond (got c) (Received c) (ReceiveWaits c)
rewritten sent got (Received c) = Received c

-- a join of a channel: its value, and how many ticks its two domains had made
pub record JoinRecord : Type 0 where
  pub value : ℤ
  pub sender_ticks : ℕ
  pub receiver_ticks : ℕ

-- the state of each domain, and the joins of each channel in their order
pub record SystemState : Type 0 where
  pub domain : ℕ → DomainState
  pub joins : ℕ → List JoinRecord

-- a domain at its start, with all values 0
abbrev pub start_of : Setup → ℕ → DomainState
start_of setup d = record {
  statement = get_or setup.statements d Nothing;
  variables = λ x. pos 0;
  values = λ s. pos 0;
  last = λ c. pos 0;
  ticks = 0;
  mark = Going;
}

-- all domains at their start, and no joins
abbrev pub start : Setup → SystemState
start setup = record { domain = start_of setup; joins = λ c. [] }

-- both ends of the channel wait, the sender with this value
pub record BothWait (setup : Setup) (s : SystemState) (c : ℕ) (v : ℤ) : Type 0 where
  pub sends : WaitsToSend c v (s.domain (sender_of setup c)).statement
  pub receives : WaitsToReceive c (s.domain (receiver_of setup c)).statement

-- no statement of the program waits
pub record IsFresh (setup : Setup) : Type 0 where
  pub sends : (d c : ℕ) (v : ℤ) → WaitsToSend c v (start_of setup d).statement → ⊥
  pub receives : (d c : ℕ) → WaitsToReceive c (start_of setup d).statement → ⊥

-- A domain once the joins that are found on channels, each with its value, are applied to its own ends: its
-- waiting sends and receives there have completed, and it has the values that it received.
abbrev pub with_found : Tables → ℕ → (ℕ → Option ℤ) → DomainState → DomainState
with_found tables d found s = record s {
  statement =
      rewritten (λ c. ((channel_at tables c).sender == d) && is_some (found c))
      (λ c. ((channel_at tables c).receiver == d) && is_some (found c)) s.statement;
  last =
      λ c. cond ((channel_at tables c).receiver == d) (unwrap_or (found c) (s.last c)) (s.last c);
}

-- the join of one channel
abbrev pub only : ℕ → ℤ → ℕ → Option ℤ
only c v k = cond (k == c) (Some v) None

-- a domain makes a tick, with the statuses that its log shows, or a channel a join
pub data Move : Type 0 where
  MakesTick : (domain : ℕ) (statuses : List (Option ℤ)) → Move
  MakesJoin : (channel : ℕ) (join : JoinRecord) → Move

-- a domain makes a legal tick, and all else stays
pub record TickStep (setup : Setup) (old : SystemState) (d : ℕ) (statuses : List (Option ℤ))
    (new : SystemState) : Type 0 where
  pub after : DomainState
  pub legal : IsLegalTick setup.tables setup.inputs d (old.domain d) statuses after
  pub next : new ≡ record old { domain = put_at old.domain d after }

-- The two ends of a channel wait and complete: the receiver has the value, and the channel a join more.
pub record JoinStep (setup : Setup) (old : SystemState) (c : ℕ) (join : JoinRecord)
    (new : SystemState) : Type 0 where
  pub sends : WaitsToSend c join.value (old.domain (sender_of setup c)).statement
  pub receives : WaitsToReceive c (old.domain (receiver_of setup c)).statement
  pub sender_ticks : join.sender_ticks ≡ (old.domain (sender_of setup c)).ticks
  pub receiver_ticks : join.receiver_ticks ≡ (old.domain (receiver_of setup c)).ticks
  pub next : new ≡ record {
    domain =
        put_at (put_at old.domain (sender_of setup c)
        (with_found setup.tables (sender_of setup c) (only c join.value)
        (old.domain (sender_of setup c))))
        (receiver_of setup c)
        (with_found setup.tables (receiver_of setup c) (only c join.value)
        (old.domain (receiver_of setup c)));
    joins = put_at old.joins c (old.joins c ++ join ∷ []);
  }

-- a step of the system
abbrev pub Step : Setup → SystemState → Move → SystemState → Type 0
Step setup old (MakesTick d statuses) new =
    (d < domain_count setup) × TickStep setup old d statuses new
Step setup old (MakesJoin c join) new = (c < channel_count setup) × JoinStep setup old c join new

-- these moves, one after another
abbrev pub Steps : Setup → SystemState → List Move → SystemState → Type 0
Steps setup old [] new = old ≡ new
Steps setup old (m ∷ moves) new =
    (mid : SystemState) × Step setup old m mid × Steps setup mid moves new
