-- The channels of a system before the first turn, and domains with memory for their ticks.
use Rattle.std.specs.Prelude.{◌≡◌, ℕ, ◌+◌, ◌<◌, ◌≤◌, List, [], length, map, replicate, get_or, max}
use Rattle.kernel_terms.specs.declared.tables.ChannelInfo.{ChannelInfo}
use Rattle.kernel_terms.specs.declared.system.System.{System}
use Rattle.kernel_terms.specs.Systems.{tables_of, domains_of}
use Rattle.tick_log.specs.definitions.Containers.{HistoryState}
use Rattle.cell_core.specs.definitions.Cells.{empty_cell}
use Rattle.domain_core.specs.definitions.step.Domains.{DomainView, ends_of}
use Rattle.gals_core.specs.declared.links.Link.{Link}
use Rattle.gals_core.specs.Channels.{ChannelsState}

abbrev pub link_of : ChannelInfo → Link
link_of info = record { kind = info.kind; sender = info.sender; receiver = info.receiver }

-- the two domains of a channel are among so many
pub record IsWithin (count : ℕ) (info : ChannelInfo) : Type 0 where
  pub sender : info.sender < count
  pub receiver : info.receiver < count

-- a history of no joins, with room for more than these numbers of ticks of its domains can make
abbrev pub opened_history : List ℕ → ChannelInfo → HistoryState
opened_history ticks info =
    record { rows = []; room = 2 + get_or ticks info.sender 0 + get_or ticks info.receiver 0 }

-- The channels before the first turn: at no cell a side stands, no history has a join, no domain has made a tick.
pub record AreOpened (system : System) (ticks : List ℕ) (b : ChannelsState) : Type 0 where
  pub links : b.links ≡ map link_of (tables_of system).channels
  pub cells : b.cells ≡ replicate (length (tables_of system).channels) empty_cell
  pub histories : b.histories ≡ map (opened_history ticks) (tables_of system).channels
  pub made : b.ticks ≡ replicate (length (domains_of system)) 0
  pub lists : (d : ℕ) → d < length (domains_of system) →
      get_or b.lists d [] ≡ ends_of (tables_of system) d

-- the domain with memory for at least so many ticks more
abbrev pub reserved : ℕ → DomainView → DomainView
reserved ticks v =
    record v { log = record v.log { room = max v.spare ticks }; spare = max v.spare ticks }

-- the first n domains have memory for at least these numbers of ticks more, and the others are as before
pub record Reserves (ticks : List ℕ) (n : ℕ) (old new : List DomainView) : Type 0 where
  pub count : length new ≡ length old
  pub done : (d : ℕ) (v : DomainView) → d < n → d < length old →
      get_or new d v ≡ reserved (get_or ticks d 0) (get_or old d v)
  pub left : (d : ℕ) (v : DomainView) → n ≤ d → get_or new d v ≡ get_or old d v
