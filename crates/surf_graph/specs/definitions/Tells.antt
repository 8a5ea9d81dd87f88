-- What the wires of a copy tell of a tick.
use Rattle.std.specs.Prelude.{◌≡◌, ℕ, ℤ, pos, true, false, ◌&&◌, cond, List, [], ◌∷◌, None}
use Rattle.kernel_terms.specs.declared.tables.Tables.{Tables}
use Rattle.kernel_terms.specs.TableEntries.{signal_at}
use Rattle.kernel_terms.specs.Statements.{Stmt}
use Rattle.kernel_rules.specs.definitions.Signals.{Env, Emission}
use Rattle.kernel_rules.specs.definitions.TickRule.{Tick, Ticks, has_paused}
use Rattle.kernel_rules.specs.definitions.Registers.{live, residual, LivesApart, FitRegisters}
use Rattle.surf_graph.specs.definitions.Formulas.{status_of, is_on, told}
use Rattle.surf_graph.specs.definitions.Copies.{Copy, Emits, Sets}

-- the emissions whose conditions are on, in order
abbrev pub emitted : (ℕ → ℤ) → List Emits → List Emission
emitted w [] = []
emitted w (e ∷ es) =
    cond (is_on w e.condition) (record { signal = e.signal; value = w e.value } ∷
    emitted w es) (emitted w es)

-- the value that the first set that is on gives, and else 0
abbrev pub set_value : (ℕ → ℤ) → List Sets → ℤ
set_value w [] = pos 0
set_value w (s ∷ ss) = cond (is_on w s.condition) (w s.value) (set_value w ss)

abbrev pub AllOff : (ℕ → ℤ) → List Sets → Type 0
AllOff w [] = Unit {0}
AllOff w (s ∷ ss) = (is_on w s.condition ≡ false) × AllOff w ss

-- the registers as set
abbrev pub registers_set : (ℕ → ℤ) → (ℕ → List Sets) → ℕ → ℤ
registers_set w sets k = set_value w (sets k)

-- a pure signal is emitted with the value 0
abbrev pub PureZero : Tables → List Emission → Type 0
PureZero tables [] = Unit {0}
PureZero tables (e ∷ es) =
    ((signal_at tables e.signal).kind ≡ None → e.value ≡ pos 0) × PureZero tables es

-- the registers of p from n on fit it and stand for t
pub record Stands (tables : Tables) (p : Stmt) (n : ℕ) (r : ℕ → ℤ) (t : Stmt) : Type 0 where
  pub fits : FitRegisters tables p n r
  pub residual : residual tables p n r ≡ t

-- the registers r stand for the same as the registers f
pub record Remain (tables : Tables) (p : Stmt) (n : ℕ) (f r : ℕ → ℤ) : Type 0 where
  pub live : live tables p n f ≡ live tables p n r
  pub residual : residual tables p n f ≡ residual tables p n r
  pub apart : LivesApart tables p n f → LivesApart tables p n r

pub record Off (w : ℕ → ℤ) (sets : ℕ → List Sets) : Type 0 where
  pub each : (k : ℕ) → AllOff w (sets k)

-- A copy of p tells this tick.
pub record Tells (tables : Tables) (w : ℕ →
    ℤ) (p : Stmt) (n keep : ℕ) (copy : Copy) (o : Tick) : Type 0 where
  pub status : w copy.status ≡ pos (status_of o.code)
  pub emits : emitted w copy.emits ≡ o.emits
  pub variables : told w copy.variables ≡ o.variables
  pub pure : PureZero tables o.emits
  pub sets : has_paused o.code && is_on w keep ≡ true →
      Stands tables p n (registers_set w copy.sets) o.rest
  pub unset : has_paused o.code && is_on w keep ≡ false → Off w copy.sets

-- a copy in which t ticks
pub record Active (tables : Tables) (last : ℕ → ℤ) (env : Env) (x : ℕ → ℤ) (w : ℕ →
    ℤ) (p t : Stmt) (n keep : ℕ) (copy : Copy) : Type 0 where
  pub tick : Tick
  pub ticks : Ticks tables last t env x tick
  pub tells : Tells tables w p n keep copy tick

-- a copy that doesn't tick
pub record Quiet (w : ℕ → ℤ) (x : ℕ → ℤ) (copy : Copy) : Type 0 where
  pub status : w copy.status ≡ pos 0
  pub emits : emitted w copy.emits ≡ []
  pub variables : told w copy.variables ≡ x

-- and sets no register
pub record Silent (w : ℕ → ℤ) (x : ℕ → ℤ) (copy : Copy) : Type 0 where
  pub quiet : Quiet w x copy
  pub sets : Off w copy.sets

-- and is held: its registers stay where they are kept
pub record Held (tables : Tables) (f w : ℕ → ℤ) (x : ℕ →
    ℤ) (p : Stmt) (n keep : ℕ) (copy : Copy) : Type 0 where
  pub quiet : Quiet w x copy
  pub stays : is_on w keep ≡ true → Remain tables p n f (registers_set w copy.sets)
  pub unset : is_on w keep ≡ false → Off w copy.sets
