-- A domain's own part of a run: its ticks, and its completed sends and receives between them.
use Rattle.std.specs.Prelude.{◌≡◌, ℕ, ◌<◌, ℤ, cond, ◌==◌, suc, zero, Option, Some, None}
use Rattle.domain_core.specs.definitions.runs.Systems.{WaitsToSend, WaitsToReceive, with_found, Setup, SystemState, start_of, sender_of, receiver_of, domain_count, channel_count}
use Rattle.kernel_rules.specs.definitions.LegalTick.{DomainState, IsLegalTick}
use Rattle.domain_core.specs.definitions.runs.LegalRuns.{IsLegalRun}
use Rattle.tick_log.specs.definitions.Runs.{RunState, log_of, join_of, tick_of, tick_count, join_count}

-- the columns of a history
abbrev pub sender_ticks_at : RunState → ℕ → ℕ → ℕ
sender_ticks_at r c i = (join_of r c i).sender_ticks

abbrev pub receiver_ticks_at : RunState → ℕ → ℕ → ℕ
receiver_ticks_at r c i = (join_of r c i).receiver_ticks

abbrev pub value_at : RunState → ℕ → ℕ → ℤ
value_at r c i = (join_of r c i).value

-- the value beside the last n among the first k numbers of a column
abbrev pub value_beside : (ℕ → ℕ) → (ℕ → ℤ) → ℕ → ℕ → Option ℤ
value_beside column values n zero = None
value_beside column values n (suc k) =
    cond (column k == n) (Some (values k)) (value_beside column values n k)

-- the numbers of ticks of the domain at one end of a channel, in the rows of its history
abbrev pub own_ticks_at : Setup → RunState → ℕ → ℕ → ℕ → ℕ
own_ticks_at setup r d c =
    cond (sender_of setup c == d) (sender_ticks_at r c) (receiver_ticks_at r c)

-- what domain d finds, after n ticks, among the first `joins c` joins of each channel c
abbrev pub found_after : Setup → RunState → ℕ → ℕ → (ℕ → ℕ) → ℕ → Option ℤ
found_after setup r d n joins c = value_beside (own_ticks_at setup r d c) (value_at r c) n (joins c)

-- The state s of domain d after n ticks, once those of the first `joins c` joins of each channel c are made
-- that the domain makes after n ticks.
abbrev pub with_joins : Setup → RunState → ℕ → ℕ → (ℕ → ℕ) → DomainState → DomainState
with_joins setup r d n joins s = with_found setup.tables d (found_after setup r d n joins) s

-- The domain's own part of the run is a run of its statement: `after n` is its state right after n ticks,
-- before its joins.
pub record IsOwnRun (setup : Setup) (r : RunState) (d : ℕ) (after : ℕ → DomainState) : Type 0 where
  pub begins : after 0 ≡ start_of setup d
  pub ticks : (n : ℕ) → n < tick_count r d →
      IsLegalTick setup.tables setup.inputs d (with_joins setup r d n (join_count r) (after n))
      (tick_of r d n).statuses (after (suc n))
  pub sends : (c i : ℕ) → c < channel_count setup → i < join_count r c → sender_of setup c ≡ d →
      WaitsToSend c (join_of r c i).value (after (join_of r c i).sender_ticks).statement
  pub receives : (c i : ℕ) → c < channel_count setup → i < join_count r c →
      receiver_of setup c ≡ d →
      WaitsToReceive c (after (join_of r c i).receiver_ticks).statement
  pub mark : (log_of r d).mark ≡ (after (tick_count r d)).mark

-- the numbers of ticks rise from each join of a channel to the next, at both ends
pub record JoinsRise (setup : Setup) (r : RunState) : Type 0 where
  pub sender : (c i j : ℕ) → c < channel_count setup → i < j → j < join_count r c →
      (join_of r c i).sender_ticks < (join_of r c j).sender_ticks
  pub receiver : (c i j : ℕ) → c < channel_count setup → i < j → j < join_count r c →
      (join_of r c i).receiver_ticks < (join_of r c j).receiver_ticks

-- each domain's own part of the run is a run of its statement
pub record HasOwnRuns (setup : Setup) (r : RunState) : Type 0 where
  pub after : ℕ → ℕ → DomainState
  pub own : (d : ℕ) → d < domain_count setup → IsOwnRun setup r d (after d)
  pub rise : JoinsRise setup r

-- the state to which a domain's own run comes, with its last joins
abbrev pub own_end : (setup : Setup) (r : RunState) → HasOwnRuns setup r → ℕ → DomainState
own_end setup r own d =
    with_joins setup r d (tick_count r d) (join_count r) (own.after d (tick_count r d))

-- the run is legal, and each domain ends as its own run does
pub record EndsLegally (setup : Setup) (r : RunState) (own : HasOwnRuns setup r) : Type 0 where
  pub end : SystemState
  pub legal : IsLegalRun setup r end
  pub domains : (d : ℕ) → d < domain_count setup → end.domain d ≡ own_end setup r own d

-- each domain's own part is a run of its statement, which comes to the domain's state in `end`
pub record OwnRunsTo (setup : Setup) (r : RunState) (end : SystemState) : Type 0 where
  pub own : HasOwnRuns setup r
  pub domains : (d : ℕ) → d < domain_count setup → end.domain d ≡ own_end setup r own d
