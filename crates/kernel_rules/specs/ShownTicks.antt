-- What is seen of a statement's ticks.
use Rattle.std.specs.Prelude.{◌≡◌, ℕ, ℤ, pos, true, false, List, [], ◌∷◌, length, Option, get_or}
use Rattle.kernel_terms.specs.declared.tables.Tables.{Tables}
use Rattle.kernel_terms.specs.Marks.{Mark}
use Rattle.kernel_terms.specs.Statements.{Stmt}
use Rattle.kernel_rules.specs.definitions.Signals.{Emission, Env, Status}
use Rattle.kernel_rules.specs.definitions.TickRule.{Tick, Ticks, ended_code, paused_code, exit_code}
use Rattle.kernel_rules.specs.definitions.LegalTick.{Inputs}
use Rattle.kernel_rules.specs.Rows.{Logs}

-- a tick in an environment, with its completion code and its emissions
pub record Shown : Type 0 where
  pub env : Env
  pub code : ℕ
  pub emits : List Emission

-- The statement makes ticks in the environments of the list, one after the other. Whichever ticks it makes
-- in them, they have these codes and emissions.
abbrev pub MakesAlone : Tables → (ℕ → ℤ) → Stmt → (ℕ → ℤ) → List Shown → Type 0
MakesAlone tables last p x [] = Unit {0}
MakesAlone tables last p x (t ∷ ts) =
    ((o : Tick) × Ticks tables last p t.env x o)
    × ((o : Tick) → Ticks tables last p t.env x o →
    (o.code ≡ t.code) × (o.emits ≡ t.emits) × MakesAlone tables last o.rest o.variables ts)

-- from these variables, and with these last values of channels
pub record ShowsFrom (tables : Tables) (last : ℕ → ℤ) (p : Stmt) (x : ℕ →
    ℤ) (ts : List Shown) : Type 0 where
  pub ticks : MakesAlone tables last p x ts

-- the statement makes this tick, and no other
pub record OnlyTick (tables : Tables) (last : ℕ → ℤ) (p : Stmt) (env : Env) (x : ℕ →
    ℤ) (o : Tick) : Type 0 where
  pub ticks : Ticks tables last p env x o
  pub alone : (other : Tick) → Ticks tables last p env x other → other ≡ o

-- each variable, and each last value, is 0
abbrev pub all_zero : ℕ → ℤ
all_zero n = pos 0

abbrev pub Shows : Tables → Stmt → List Shown → Type 0
Shows tables p ts = ShowsFrom tables all_zero p all_zero ts

-- the domain's legal ticks from its start show these rows, and there is no other log of as many ticks
pub record OnlyLogs (tables : Tables) (inputs : Inputs) (p : Stmt) (rows : List (List (Option ℤ)))
    (rest : Stmt) (mark : Mark) : Type 0 where
  pub logs : Logs tables inputs p rows rest mark
  pub alone : (others : List (List (Option ℤ))) (q : Stmt) (m : Mark) →
      length others ≡ length rows → Logs tables inputs p others q m →
      (others ≡ rows) × (q ≡ rest) × (m ≡ mark)

abbrev pub absent : Status
absent = record { present = false; value = pos 0 }

-- absent, with this last value
abbrev pub absent_with : ℕ → Status
absent_with n = record { present = false; value = pos n }

abbrev pub present : Status
present = record { present = true; value = pos 0 }

abbrev pub present_with : ℕ → Status
present_with n = record { present = true; value = pos n }

-- the statuses of the signals 0, 1 and so on; all others are absent
abbrev pub statuses : List Status → Env
statuses l s = get_or l s absent

abbrev pub none_present : Env
none_present s = absent

abbrev pub emitted : ℕ → ℕ → Emission
emitted s n = record { signal = s; value = pos n }

-- in an environment the statement pauses, ends, or exits, with these emissions
abbrev pub pauses_in : Env → List Emission → Shown
pauses_in env m = record { env = env; code = paused_code; emits = m }

abbrev pub ends_in : Env → List Emission → Shown
ends_in env m = record { env = env; code = ended_code; emits = m }

abbrev pub exits_in : Env → ℕ → List Emission → Shown
exits_in env d m = record { env = env; code = exit_code d; emits = m }

-- where no signal is present
abbrev pub pauses : List Emission → Shown
pauses m = pauses_in none_present m

abbrev pub ends : List Emission → Shown
ends m = ends_in none_present m

abbrev pub exits : ℕ → List Emission → Shown
exits d m = exits_in none_present d m
