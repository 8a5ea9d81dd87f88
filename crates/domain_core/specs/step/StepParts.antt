-- The parts of a domain between its steps, and what the phases of a step do to them.
use Rattle.std.specs.Prelude.{◌≡◌, ℕ, suc, zero, ◌+◌, ◌^◌, ◌<◌, ◌≤◌, ℤ, Bool, true, false, List, length, get_or, Option, None, Vec, vec_capacity}
use Rattle.std.specs.Global.{Global}
use Rattle.kernel_terms.specs.declared.tables.Tables.{Tables}
use Rattle.kernel_rules.specs.definitions.Registers.{FitRegisters}
use Rattle.cell_core.specs.declared.moves.Joined.{Joined}
use Rattle.domain_core.specs.declared.step.ends_of.EndJoin.{EndJoin}
use Rattle.domain_core.specs.declared.equations.codes.Codes.{Codes}
use Rattle.domain_core.specs.declared.step.parts.Program.{Program}
use Rattle.domain_core.specs.declared.step.parts.State.{State}
use Rattle.domain_core.specs.equations.BuiltForms.{Plain, whole}
use Rattle.domain_core.specs.equations.BuiltRegisters.{HoldsLiteral}
use Rattle.domain_core.specs.equations.Codes.{AreCodes, TellsTick}
use Rattle.domain_core.specs.step.EndPlaces.{PlacesFit, LastFits, HaveOwnRegisters}
use Rattle.domain_core.specs.step.Answers.{raised}
use Rattle.domain_core.specs.definitions.step.EndRegisters.{registers_joined}
use Rattle.kernel_terms.specs.Marks.{Going}
use Rattle.domain_core.specs.definitions.step.Domains.{register_at, joins_at, statement_held}
use Rattle.domain_core.specs.definitions.step.Steps.{add_joins}
use Rattle.domain_core.specs.step.JoinLists.{joins_in}

-- an end that stands may have one join more
abbrev pub pending : Bool → ℕ
pending true = 1
pending false = 0

-- Lists of one item per end, and memory for the joins of the ticks that there is room for.
pub record PartsHold (program : Program) (state : State) (ticks room : ℕ) : Type 0 where
  pub standing : length state.standing.items ≡ length program.ends.items
  pub lists : length state.joins.items ≡ length program.ends.items
  pub places : PlacesFit program.codes.places.items (length program.ends.items)
      (length state.registers.items)
  pub last : LastFits program.last.items program.ends.items (length state.registers.items)
  pub own : HaveOwnRegisters program.codes.places.items program.last.items
  pub counts : (k : ℕ) → k < length program.ends.items →
      length (joins_at (joins_in state.joins.items) k) + pending
      (get_or state.standing.items k false) ≤ ticks
  pub memory : (k : ℕ) (v : Vec EndJoin Global) → k < length program.ends.items →
      ticks + room ≤ vec_capacity (get_or state.joins.items k v)
  pub limit : state.cause ≤ 2 ^ 62

-- no join was answered at any end
pub record AreNoJoins (answers : List (Option Joined)) : Type 0 where
  pub none : (k : ℕ) → get_or answers k None ≡ None

-- The joins that were answered have completed the ends. All else stays.
pub record Applies (program : Program) (old new : State) (answers : List (Option Joined))
    (ticks : ℕ) : Type 0 where
  pub registers : register_at new.registers.items ≡
      registers_joined program.codes.places.items program.last.items program.ends.items answers
      (length program.ends.items) (register_at old.registers.items)
  pub register_count : length new.registers.items ≡ length old.registers.items
  pub joins : joins_in new.joins.items ≡
      add_joins ticks answers (length program.ends.items) (joins_in old.joins.items)
  pub lists : length new.joins.items ≡ length old.joins.items
  pub memory : (k : ℕ) (v : Vec EndJoin Global) → k < length old.joins.items →
      vec_capacity (get_or old.joins.items k v) ≤ vec_capacity (get_or new.joins.items k v)
  pub cause : new.cause ≡ raised answers (length program.ends.items) old.cause
  pub limit : new.cause ≤ 2 ^ 62
  pub stamp : new.stamp ≡ old.stamp
  pub stopped : new.stopped ≡ old.stopped

-- the tick of a domain after so many ticks, from these registers
abbrev pub FitsAfter : Tables → Plain → ℕ → (ℕ → ℤ) → Type 0
FitsAfter tables p zero r = Unit {0}
FitsAfter tables p (suc n) r = FitRegisters tables (whole p) 0 r × HoldsLiteral p 0 r

pub record MakesCodeTick (codes : Codes) (ticks : ℕ) (old new : ℕ →
    ℤ) (present : List Bool) (ended : Bool) : Type 0 where
  pub tells : (tables : Tables) (p : Plain) (n : ℕ) (own : List ℕ) → AreCodes codes p n own →
      FitsAfter tables p ticks old →
      TellsTick tables (whole p) n own (statement_held tables (whole p) ticks Going old) present new
      ended
  pub literals : (tables : Tables) (p : Plain) (n : ℕ) (own : List ℕ) → AreCodes codes p n own →
      FitsAfter tables p ticks old → HoldsLiteral p 0 new
  pub others : (k : ℕ) → codes.registers ≤ k → new k ≡ old k
