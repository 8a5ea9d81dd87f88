-- A log of a test, tick by tick.
use Rattle.std.proofs.Common.{◌≡◌, ℕ, ◌+◌, ◌-◌, ◌<◌, ◌≤◌, All, [], ◌∷◌, ◌++◌, length, refl, sym, subst, arith, length-append}
use Rattle.std.proofs.lemmas.List.Elements.{All-nil, All-push}
use Rattle.kernel_terms.specs.declared.tables.Tables.{Tables}
use Rattle.kernel_terms.specs.Marks.{Going}
use Rattle.tick_log.specs.definitions.Containers.{LogState, logged}
use Rattle.tick_log.specs.definitions.Runs.{Entry}
use Rattle.tick_log.specs.definitions.RunText.{interface_signals}
use Rattle.tick_log.specs.definitions.Fits.{IsEntry, IsLog}

-- a log of one signal, after i of so many ticks
pub record IsLong (t : Tables) (log : LogState) (i ticks : ℕ) : Type 0 where
  pub each : All (IsEntry (interface_signals t 0)) log.entries
  pub count : length log.entries ≡ i
  pub room : log.room + i ≡ ticks
  pub signals : log.signals ≡ 1
  pub mark : log.mark ≡ Going

pub long_first : (t : Tables) (log : LogState) (ticks : ℕ) → log ≡ record { entries = []; mark = Going; signals = 1; room = ticks } → IsLong t log 0 ticks
long_first t log ticks e = subst (λ l. IsLong t l 0 ticks) (sym e) (record { each = All-nil (IsEntry (interface_signals t 0)); count = refl; room = omega arith; signals = refl; mark = refl })

pub long_on : (t : Tables) (log : LogState) (i ticks : ℕ) (e : Entry) → IsLong t log i ticks → i < ticks → IsEntry (interface_signals t 0) e → IsLong t (record { entries = log.entries ++ e ∷ []; mark = Going; signals = log.signals; room = log.room - 1 }) (i + 1) ticks
long_on t log i ticks e l lt is = record {
  each = All-push (IsEntry (interface_signals t 0)) log.entries e l.each is;
  count = omega (arith, length-append log.entries (e ∷ []), l.count);
  room = omega (arith, l.room);
  signals = l.signals;
  mark = refl;
}

pub long_last : (t : Tables) (log : LogState) (i ticks : ℕ) → IsLong t log i ticks → i ≤ 100000 → IsLog t 0 (logged log)
long_last t log i ticks l le = record { ticks = omega (arith, l.count); entries = l.each; mark = λ on. cc }

pub ruleset long_steps = (long_first, long_last)
