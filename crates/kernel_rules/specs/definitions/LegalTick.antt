-- Legal ticks of a domain.
use Rattle.std.specs.Prelude.{◌≡◌, ℕ, suc, ℤ, Bool, true, ◌||◌, cond, List, map, Option, None, is_some, unwrap_or}
use Rattle.kernel_terms.specs.declared.tables.Tables.{Tables}
use Rattle.kernel_terms.specs.declared.tables.SignalInfo.{SignalInfo}
use Rattle.kernel_terms.specs.TableEntries.{signal_at, is_input, is_interface_of, interface_of}
use Rattle.kernel_terms.specs.Marks.{Mark, Going, Ended}
use Rattle.kernel_terms.specs.Statements.{Stmt}
use Rattle.kernel_rules.specs.definitions.Signals.{Emission, Env, Status, is_emitted, values_of, folded, shown}
use Rattle.kernel_rules.specs.definitions.TickRule.{Tick, Ticks, has_ended, has_paused}

-- The state of a domain: its statement, its variables, the last value of each interface signal and of each
-- channel that it receives from, its number of ticks, and how it stands.
pub record DomainState : Type 0 where
  pub statement : Stmt
  pub variables : ℕ → ℤ
  pub values : ℕ → ℤ
  pub last : ℕ → ℤ
  pub ticks : ℕ
  pub mark : Mark

-- what is handed in for a signal at a tick of its domain; ticks count from 1
abbrev pub Inputs : Type 0
Inputs = ℕ → ℕ → Option ℤ

-- nothing is handed in
abbrev pub no_inputs : Inputs
no_inputs s n = None

-- an input is as handed in, and keeps its last value where it isn't
abbrev pub input_status : Option ℤ → ℤ → Status
input_status handed last = record { present = is_some handed; value = unwrap_or handed last }

-- another signal is as emitted, and keeps its last value where it isn't
abbrev pub emitted_status : SignalInfo → ℕ → ℤ → List Emission → Status
emitted_status info s last m =
    record { present = is_emitted m s; value = folded info last (values_of s m) }

-- the status that an interface signal has in a tick with these emissions
abbrev pub status_in : Tables → (ℕ → Option ℤ) → (ℕ → ℤ) → List Emission → ℕ → Status
status_in tables handed values m s =
    cond (is_input (signal_at tables s).sort) (input_status (handed s) (values s))
    (emitted_status (signal_at tables s) s (values s) m)

-- each interface signal of the domain has the status that the inputs and the emissions give it
abbrev pub IsCoherent : Tables → ℕ → (ℕ → Option ℤ) → (ℕ → ℤ) → Env → List Emission → Type 0
IsCoherent tables d handed values env m =
    (s : ℕ) → is_interface_of d (signal_at tables s) ≡ true →
    env s ≡ status_in tables handed values m s

-- a domain's tick ends or pauses
abbrev pub is_tick_code : ℕ → Bool
is_tick_code code = has_ended code || has_paused code

-- how a domain stands after a tick with this code
abbrev pub mark_after : ℕ → Mark
mark_after code = cond (has_ended code) Ended Going

-- the interface signals of the domain have new values, and all other numbers keep theirs
abbrev pub values_after : Tables → ℕ → Env → (ℕ → ℤ) → ℕ → ℤ
values_after tables d env values s =
    cond (is_interface_of d (signal_at tables s)) (env s).value (values s)

-- the statuses of the interface signals of a domain, in order of declaration
abbrev pub shown_statuses : Tables → ℕ → Env → List (Option ℤ)
shown_statuses tables d env = map (λ s. shown (env s)) (interface_of tables d)

-- A domain that goes on makes its next tick, under some coherent environment. The log shows the
-- statuses.
pub record IsLegalTick (tables : Tables) (inputs : Inputs) (d : ℕ) (old : DomainState)
    (statuses : List (Option ℤ)) (new : DomainState) : Type 0 where
  pub goes_on : old.mark ≡ Going
  pub env : Env
  pub tick : Tick
  pub ticks : Ticks tables old.last old.statement env old.variables tick
  pub coherent : IsCoherent tables d (λ s. inputs s (suc old.ticks)) old.values env tick.emits
  pub code : is_tick_code tick.code ≡ true
  pub shows : statuses ≡ shown_statuses tables d env
  pub next : new ≡
      record {
        statement = tick.rest;
        variables = tick.variables;
        values = values_after tables d env old.values;
        last = old.last;
        ticks = suc old.ticks;
        mark = mark_after tick.code;
      }
