-- What a scheduled run over cells knows between two turns.
use Rattle.std.specs.Prelude.{◌≡◌, ℕ, ◌+◌, ◌*◌, ◌<◌, ◌≤◌, true, false, ℤ, List, [], ◌++◌, length, map, get_or, max, Option, IsNone, IsSomeAnd}
use Rattle.kernel_terms.specs.declared.tables.Tables.{Tables}
use Rattle.kernel_terms.specs.declared.system.System.{System}
use Rattle.kernel_terms.specs.Systems.{tables_of}
use Rattle.kernel_terms.specs.TableEntries.{channel_at}
use Rattle.kernel_terms.specs.Marks.{Going}
use Rattle.kernel_rules.specs.definitions.LegalTick.{DomainState, Inputs}
use Rattle.tick_log.specs.declared.history.JoinRow.{JoinRow}
use Rattle.tick_log.specs.definitions.Runs.{Entry, RunState, log_of, history_of}
use Rattle.cell_core.specs.declared.moves.Side.{Side}
use Rattle.cell_core.specs.declared.moves.Side.TheVariants.{Sender, Receiver}
use Rattle.cell_core.specs.declared.moves.Joined.{Joined}
use Rattle.cell_core.specs.definitions.Cells.{CellState, standing_at, recall_reply}
use Rattle.cell_core.specs.CellEnds.{standing_offer}
use Rattle.cell_core.specs.definitions.Ends.{StandingOffer}
use Rattle.domain_core.specs.declared.step.ends_of.EndOf.{EndOf}
use Rattle.domain_core.specs.definitions.step.EndCalls.{end_at}
use Rattle.domain_core.specs.step.Answers.{raised}
use Rattle.domain_core.specs.definitions.step.Domains.{DomainView, ends_of, tick_count_of, state_of, joins_at}
use Rattle.domain_core.specs.definitions.step.Steps.{Waits, IsWaitingOffer}
use Rattle.domain_core.specs.step.Answers.{with_answers, newest_of}
use Rattle.domain_core.specs.definitions.runs.Systems.{Setup, SystemState, Move, start_of, domain_count, setup_of}
use Rattle.domain_core.specs.definitions.runs.LegalRuns.{Fits}
use Rattle.domain_core.specs.definitions.runs.Scheduled.{TellsFrom, TakesTurns, IsScheduledRun}
use Rattle.domain_core.specs.runs.StampsByStep.{StampsFrom}

-- the domain that has this side of a channel
abbrev pub domain_at : Tables → Side → ℕ → ℕ
domain_at tables Sender c = (channel_at tables c).sender
domain_at tables Receiver c = (channel_at tables c).receiver

-- an end's side of its channel's cell
abbrev pub own_side : (ℕ → CellState) → EndOf → Option StandingOffer
own_side cell e = standing_offer e.side (standing_at e.side (cell e.channel))

-- the join at each end that its domain has yet to find at a recall
abbrev pub pending : (ℕ → CellState) → List EndOf → List (Option Joined)
pending cell ends = map (λ e. recall_reply (standing_at e.side (cell e.channel))) ends

-- The domain of this number is as its sides of the cells show it: an end stands exactly where it waits, with
-- the offer of the last tick.
pub record IsInCells (system : System) (d : ℕ) (cell : ℕ →
    CellState) (v : DomainView) : Type 0 where
  pub of_system : v.system ≡ system
  pub of_domain : v.domain ≡ d
  pub runs : v.stopped ≡ false
  pub lists : length v.joins ≡ length (ends_of (tables_of system) d)
  pub later : (t : ℕ) → tick_count_of v < t → newest_of t v.joins ≡ 0
  pub stands : (n : ℕ) → n < length (ends_of (tables_of system) d) →
      get_or v.standing n false ≡ true →
      IsSomeAnd (own_side cell (end_at (ends_of (tables_of system) d) n))
      (IsWaitingOffer (end_at (ends_of (tables_of system) d) n) v.stamp (state_of v).statement)
  pub free : (n : ℕ) → n < length (ends_of (tables_of system) d) →
      get_or v.standing n false ≡ false →
      IsNone (own_side cell (end_at (ends_of (tables_of system) d) n))
  pub idle : (n : ℕ) → n < length (ends_of (tables_of system) d) →
      get_or v.standing n false ≡ false → (value : ℤ) →
      Waits (end_at (ends_of (tables_of system) d) n) value (state_of v).statement → ⊥

-- the domain's state with the joins that it has yet to find
abbrev pub found_state : System → ℕ → (ℕ → CellState) → DomainView → DomainState
found_state system d cell v =
    with_answers (ends_of (tables_of system) d) (pending cell (ends_of (tables_of system) d))
    (length (ends_of (tables_of system) d)) (state_of v)

-- the greatest of the stamps of its last tick and of the joins since then, also of those
abbrev pub found_stamp : System → ℕ → (ℕ → CellState) → DomainView → ℕ
found_stamp system d cell v =
    raised (pending cell (ends_of (tables_of system) d)) (length (ends_of (tables_of system) d))
    (max v.stamp (newest_of (tick_count_of v) v.joins))

-- the run's logs and histories begin with these
pub record RunBeginsWith (r : RunState) (entries : ℕ → List Entry) (rows : ℕ →
    List JoinRow) : Type 0 where
  pub more_entries : ℕ → List Entry
  pub more_rows : ℕ → List JoinRow
  pub logs : (d : ℕ) → (log_of r d).entries ≡ entries d ++ more_entries d
  pub histories : (c : ℕ) → history_of r c ≡ rows c ++ more_rows c

-- the run has a log for each domain, with its mark in this state, and a history for each channel
pub record EndsIn (setup : Setup) (r : RunState) (end : SystemState) : Type 0 where
  pub fits : Fits setup r
  pub marks : (d : ℕ) → d < domain_count setup → (log_of r d).mark ≡ (end.domain d).mark

-- Whatever run goes on from here with the turns that are left is the scheduled run of all turns.
pub record GoesOn (system : System) (inputs : Inputs) (turns left : List ℕ)
    (entries : ℕ → List Entry) (rows : ℕ → List JoinRow) (s : SystemState)
    (last since : ℕ → ℕ) : Type 0 where
  pub t : ℕ → ℕ
  pub j : ℕ → ℕ
  pub t_is : (d : ℕ) → t d ≡ length (entries d)
  pub j_is : (c : ℕ) → j c ≡ length (rows c)
  pub completes : (r : RunState) (moves : List Move) (end : SystemState) →
      RunBeginsWith r entries rows → TakesTurns (setup_of system inputs) s left moves end →
      TellsFrom r t j moves →
      StampsFrom (setup_of system inputs) r t j last since moves →
      EndsIn (setup_of system inputs) r end →
      IsScheduledRun (setup_of system inputs) r turns end

-- The domains and the cells of the channels stand for a state of the system from which the turns that are left
-- complete the scheduled run.
pub record StandsFor (system : System) (inputs : Inputs) (turns left : List ℕ)
    (view : ℕ → DomainView) (cell : ℕ → CellState) (rows : ℕ → List JoinRow) : Type 0 where
  pub s : SystemState
  pub last : ℕ → ℕ
  pub since : ℕ → ℕ
  pub goes_on : GoesOn system inputs turns left (λ d. (view d).log.entries) rows s last since
  pub views : (d : ℕ) → d < domain_count (setup_of system inputs) → IsInCells system d cell (view d)
  pub state : (d : ℕ) → d < domain_count (setup_of system inputs) →
      s.domain d ≡ found_state system d cell (view d)
  pub last_is : (d : ℕ) → d < domain_count (setup_of system inputs) → last d ≡ (view d).stamp
  pub since_is : (d : ℕ) → d < domain_count (setup_of system inputs) →
      since d ≡ found_stamp system d cell (view d)
  pub low : (d : ℕ) → d < domain_count (setup_of system inputs) →
      since d + 2 * length left ≤ 2 * length turns

-- a domain of the system before its first tick
pub record IsNew (system : System) (d : ℕ) (v : DomainView) : Type 0 where
  pub of_system : v.system ≡ system
  pub of_domain : v.domain ≡ d
  pub going : v.stopped ≡ false
  pub entries : v.log.entries ≡ []
  pub mark : v.log.mark ≡ Going
  pub stamp : v.stamp ≡ 0
  pub lists : length v.joins ≡ length (ends_of (tables_of system) d)
  pub joins : (n : ℕ) → joins_at v.joins n ≡ []
  pub standing : (n : ℕ) → get_or v.standing n false ≡ false
  pub state : (inputs : Inputs) → state_of v ≡ start_of (setup_of system inputs) d
