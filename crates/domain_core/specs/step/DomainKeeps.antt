-- What a compiled domain keeps between its steps.
use Rattle.std.specs.Prelude.{◌≡◌, ℕ, ◌^◌, ◌<◌, pos, true, false, length, get_or, replicate, max}
use Rattle.kernel_terms.specs.declared.system.System.{System}
use Rattle.kernel_terms.specs.Systems.{tables_of}
use Rattle.kernel_terms.specs.TableEntries.{interface_of}
use Rattle.tick_log.specs.definitions.Containers.{LogState}
use Rattle.kernel_terms.specs.Marks.{Mark, Going}
use Rattle.kernel_rules.specs.definitions.Registers.{domain_registers}
use Rattle.domain_core.specs.declared.step.parts.Program.{Program}
use Rattle.domain_core.specs.declared.step.parts.State.{State}
use Rattle.domain_core.specs.declared.step.parts.Scratch.{Scratch}
use Rattle.domain_core.specs.equations.BuiltForms.{Plain, whole}
use Rattle.domain_core.specs.equations.Places.{plain_places}
use Rattle.domain_core.specs.equations.Codes.{AreCodes}
use Rattle.domain_core.specs.definitions.step.PureSignals.{HasPureOutputs}
use Rattle.domain_core.specs.equations.SendsFit.{SendsFit}
use Rattle.domain_core.specs.definitions.step.Domains.{ends_of, register_at}
use Rattle.domain_core.specs.definitions.runs.Systems.{source_of}
use Rattle.domain_core.specs.definitions.step.EndRegisters.{last_places}
use Rattle.domain_core.specs.step.Answers.{newest_of}
use Rattle.domain_core.specs.step.StatementEnds.{HaveEnds}
use Rattle.domain_core.specs.step.JoinLists.{joins_in}
use Rattle.domain_core.specs.step.StepParts.{PartsHold, FitsAfter}

-- the program of a domain of the system
pub record IsProgram (system : System) (d : ℕ) (program : Program) (source : Plain) : Type 0 where
  pub statement : source_of system d ≡ whole source
  pub are : AreCodes program.codes source (length (tables_of system).signals)
      (interface_of (tables_of system) d)
  pub ends : program.ends.items ≡ ends_of (tables_of system) d
  pub places : program.codes.places.items ≡ plain_places (ends_of (tables_of system) d) source 0
  pub last : program.last.items ≡ last_places (tables_of system) d (whole source)
  pub pure : HasPureOutputs (tables_of system) d
  pub sends : SendsFit (tables_of system) source
  pub has_ends : HaveEnds (ends_of (tables_of system) d) (whole source)

-- the memory for one step
pub record HasScratch (program : Program) (scratch : Scratch) : Type 0 where
  pub answers : length scratch.answers.items ≡ length program.ends.items
  pub replies : length scratch.replies.items ≡ length program.ends.items
  pub asks : length scratch.asks.items ≡ length program.ends.items
  pub wires : length scratch.wires.items ≡ program.codes.wires
  pub present : length scratch.present.items ≡ program.codes.signals
  pub zeros : scratch.zeros.items ≡ replicate program.codes.signals (pos 0)

-- Ends stand only after a tick that paused, and wait then. The registers fit, and the stamps are those of the
-- last tick and of the joins.
pub record IsState (program : Program) (source : Plain) (system : System) (d : ℕ) (state : State)
    (ticks : ℕ) (mark : Mark) : Type 0 where
  pub registers : length state.registers.items ≡
      length (domain_registers (tables_of system) d (whole source))
  pub fits : mark ≡ Going →
      FitsAfter (tables_of system) source ticks (register_at state.registers.items)
  pub stands : (k : ℕ) → k < length program.ends.items →
      get_or state.standing.items k false ≡ true → 0 < ticks
  pub goes : (k : ℕ) → k < length program.ends.items → get_or state.standing.items k false ≡ true →
      mark ≡ Going
  pub last : state.stamp < 2 ^ 62
  pub cause : state.cause ≡ max state.stamp (newest_of ticks (joins_in state.joins.items))
  pub later : (t : ℕ) → ticks < t → newest_of t (joins_in state.joins.items) ≡ 0

pub record Keeps (system : System) (d : ℕ) (program : Program) (state : State) (scratch : Scratch)
    (log : LogState) : Type 0 where
  pub source : Plain
  pub is_program : IsProgram system d program source
  pub memory : HasScratch program scratch
  pub is_state : IsState program source system d state (length log.entries) log.mark
  pub parts : PartsHold program state (length log.entries) log.room
  pub log_signals : log.signals ≡ program.codes.signals
