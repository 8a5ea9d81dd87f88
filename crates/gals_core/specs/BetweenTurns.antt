-- What a scheduled run keeps between two turns.
use Rattle.std.specs.Prelude.{◌≡◌, ℕ, ◌+◌, ◌*◌, ◌^◌, ◌<◌, ◌≤◌, true, List, [], length, get_or, All}
use Rattle.kernel_rules.specs.definitions.LegalTick.{Inputs}
use Rattle.kernel_terms.specs.declared.system.System.{System}
use Rattle.kernel_terms.specs.Systems.{tables_of}
use Rattle.kernel_terms.specs.Marks.{is_over}
use Rattle.kernel_terms.specs.TableEntries.{channel_at, interface_of}
use Rattle.tick_log.specs.definitions.RunText.{interface_signals}
use Rattle.tick_log.specs.definitions.Fits.{IsEntry, IsRow, most_ticks}
use Rattle.domain_core.specs.definitions.step.Domains.{DomainView, ends_of, tick_count_of}
use Rattle.domain_core.specs.definitions.runs.Systems.{IsSystem, domain_count, channel_count, setup_of}
use Rattle.domain_core.specs.definitions.runs.Scheduled.{turns_of}
use Rattle.gals_core.specs.Channels.{ChannelsState, cell_in, history_in, ticks_in, link_at}
use Rattle.gals_core.specs.RunsOverCells.{StandsFor}
use Rattle.gals_core.specs.definitions.OrderPlans.{view_at}

-- the entries and the rows so far are those of the system
pub record FitSoFar (system : System) (inputs : Inputs) (views : List DomainView)
    (b : ChannelsState) : Type 0 where
  pub signals : (d : ℕ) → d < domain_count (setup_of system inputs) →
      (view_at system views d).log.signals ≡ length (interface_of (tables_of system) d)
  pub entries : (d : ℕ) → d < domain_count (setup_of system inputs) →
      All (IsEntry (interface_signals (tables_of system) d)) (view_at system views d).log.entries
  pub marks : (d : ℕ) → d < domain_count (setup_of system inputs) →
      is_over (view_at system views d).log.mark ≡ true → 1 ≤ tick_count_of (view_at system views d)
  pub rows : (c : ℕ) → c < channel_count (setup_of system inputs) →
      All (IsRow (channel_at (tables_of system) c).kind) (history_in b c).rows

-- The link of each channel, the number of ticks and the ends of each domain are those of the system. Each
-- domain has memory for the turns that are left, and each history for more joins than they can make.
pub record IsBetweenTurns (system : System) (inputs : Inputs) (turns left : List ℕ)
    (views : List DomainView) (b : ChannelsState) : Type 0 where
  pub is_system : IsSystem (setup_of system inputs)
  pub few : 2 * length turns < 2 ^ 62
  pub domains : length views ≡ domain_count (setup_of system inputs)
  pub turns_within : (i : ℕ) → i < length left →
      get_or left i 0 < domain_count (setup_of system inputs)
  pub spare : (d : ℕ) → d < domain_count (setup_of system inputs) →
      turns_of d left ≤ (view_at system views d).spare
  pub limit : (d : ℕ) → d < domain_count (setup_of system inputs) →
      tick_count_of (view_at system views d) + turns_of d left ≤ most_ticks
  pub link_count : length b.links ≡ channel_count (setup_of system inputs)
  pub links : (c : ℕ) → c < channel_count (setup_of system inputs) →
      ((link_at b.links c).sender ≡ (channel_at (tables_of system) c).sender) ×
      ((link_at b.links c).receiver ≡ (channel_at (tables_of system) c).receiver)
  pub kinds : (c : ℕ) → c < channel_count (setup_of system inputs) →
      (link_at b.links c).kind ≡ (channel_at (tables_of system) c).kind
  pub tick_counts : length b.ticks ≡ domain_count (setup_of system inputs)
  pub ticks : (d : ℕ) → d < domain_count (setup_of system inputs) →
      ticks_in b d ≡ tick_count_of (view_at system views d)
  pub lists : (d : ℕ) → d < domain_count (setup_of system inputs) →
      get_or b.lists d [] ≡ ends_of (tables_of system) d
  pub rooms : (c : ℕ) → c < channel_count (setup_of system inputs) →
      2 + turns_of (channel_at (tables_of system) c).sender left + turns_of
      (channel_at (tables_of system) c).receiver left ≤ (history_in b c).room
  pub stands : StandsFor system inputs turns left (view_at system views) (cell_in b)
      (λ c. (history_in b c).rows)
  pub fits : FitSoFar system inputs views b
