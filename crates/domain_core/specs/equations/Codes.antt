-- What the codes of a built statement tell.
use Rattle.std.specs.Prelude.{◌≡◌, ℕ, ◌<◌, ◌≤◌, ℤ, pos, Bool, true, false, List, length, map}
use Rattle.std.specs.List.{All}
use Rattle.kernel_terms.specs.declared.tables.Tables.{Tables}
use Rattle.kernel_terms.specs.Statements.{Stmt}
use Rattle.kernel_terms.specs.Statements as rules
use Rattle.kernel_rules.specs.definitions.Signals.{Emission, Env, is_emitted}
use Rattle.kernel_rules.specs.definitions.TickRule.{Tick, Ticks, ended_code, paused_code}
use Rattle.kernel_rules.specs.definitions.Registers.{FitRegisters, residual}
use Rattle.domain_core.specs.declared.equations.codes.Codes.{Codes}
use Rattle.domain_core.specs.equations.BuiltForms.{Plain}
use Rattle.domain_core.specs.equations.BuiltRegisters.{registers, literals}
use Rattle.domain_core.specs.equations.BuiltLimits.{CanBuild}
use Rattle.domain_core.specs.equations.BuiltCodes.{IsStarting, IsResuming}

-- What one tick of a built statement over so many signals told: from the statement `from`, which of the own signals are present,
-- the registers after it, and whether the domain ended. The tick is given for all last values of channels
-- and all variables.
pub record TellsTick (tables : Tables) (p : Stmt) (signals : ℕ) (own : List ℕ) (from : Stmt)
    (present : List Bool) (new : ℕ → ℤ) (ended : Bool) : Type 0 where
  pub env : Env
  pub tick : (last x : ℕ → ℤ) → Tick
  pub ticks : (last x : ℕ → ℤ) → Ticks tables last from env x (tick last x)
  pub variables : (last x : ℕ → ℤ) → (tick last x).variables ≡ x
  pub shows : present ≡ map (λ s. (env s).present) own
  pub emitted : (last x : ℕ → ℤ) (s : ℕ) → s < signals →
      (env s).present ≡ is_emitted (tick last x).emits s
  pub pure : (s : ℕ) → s < signals → (env s).value ≡ pos 0
  pub zeros : (last x : ℕ → ℤ) → All (λ (e : Emission). e.value ≡ pos 0) (tick last x).emits
  pub below : (last x : ℕ → ℤ) → All (λ (e : Emission). e.signal < signals) (tick last x).emits
  pub ends : (last x : ℕ → ℤ) → ended ≡ true → (tick last x).code ≡ ended_code
  pub over : (last x : ℕ → ℤ) → ended ≡ true → (tick last x).rest ≡ rules.Nothing
  pub pauses : (last x : ℕ → ℤ) → ended ≡ false → (tick last x).code ≡ paused_code
  pub fits : ended ≡ false → FitRegisters tables p 0 new
  pub rest : (last x : ℕ → ℤ) → ended ≡ false → residual tables p 0 new ≡ (tick last x).rest

-- the codes of a statement over so many signals, which tell of its own ones
pub record AreCodes (c : Codes) (p : Plain) (n : ℕ) (own : List ℕ) : Type 0 where
  pub can : CanBuild n p
  pub starting : IsStarting c.starting p own
  pub resuming : IsResuming c.resuming p own
  pub start_wires : length c.starting.code ≤ c.wires
  pub resume_wires : length c.resuming.code ≤ c.wires
  pub all_literals : c.literals.items ≡ literals p 0
  pub register_count : c.registers ≡ registers p
  pub signal_count : c.signals ≡ length own

-- they are those of some statement
pub record AreSome (c : Codes) : Type 0 where
  pub source : Plain
  pub count : ℕ
  pub own : List ℕ
  pub are : AreCodes c source count own
