-- A run as data: one log per domain and one history per channel.
use Rattle.std.specs.Prelude.{ℕ, ℤ, pos, Bool, cond, List, [], ◌∷◌, length, Option, Some, None, get_or, slice_index_or}
use Rattle.kernel_terms.specs.Marks.{Mark, Going}
use Rattle.tick_log.specs.declared.history.JoinRow.{JoinRow}

-- A tick: its stamp, and for each interface signal of the domain, in order of declaration, its value
-- where it is present. A pure signal has the value 0.
pub record Entry : Type 0 where
  pub stamp : ℕ
  pub statuses : List (Option ℤ)

-- the statuses of signals that are present or not, with these values
abbrev pub statuses_of : List Bool → List ℤ → List (Option ℤ)
statuses_of (b ∷ bs) (v ∷ vs) = cond b (Some v) None ∷ statuses_of bs vs
statuses_of _ _ = []

-- the ticks of a domain, and how it stands after the last of them
pub record DomainLog : Type 0 where
  pub entries : List Entry
  pub mark : Mark

-- the entry at a place, counted from 0
abbrev pub entry_at : List Entry → ℕ → Entry
entry_at entries i = slice_index_or entries i (record { stamp = 0; statuses = [] })

-- the join at a place, counted from 0
abbrev pub row_at : List JoinRow → ℕ → JoinRow
row_at rows i =
    slice_index_or rows i (record {
      value = pos 0;
      sender_ticks = 0;
      receiver_ticks = 0;
      stamp = 0;
    })

-- the log of each domain and the joins of each channel, by number
pub record RunState : Type 0 where
  pub logs : List DomainLog
  pub histories : List (List JoinRow)

abbrev pub log_of : RunState → ℕ → DomainLog
log_of r d = get_or r.logs d (record { entries = []; mark = Going })

abbrev pub history_of : RunState → ℕ → List JoinRow
history_of r c = get_or r.histories c []

-- how many ticks a domain makes, and how many joins a channel has
abbrev pub tick_count : RunState → ℕ → ℕ
tick_count r d = length (log_of r d).entries

abbrev pub join_count : RunState → ℕ → ℕ
join_count r c = length (history_of r c)

-- the tick that a domain makes after n ticks, and the join that a channel has after i joins
abbrev pub tick_of : RunState → ℕ → ℕ → Entry
tick_of r d n = entry_at (log_of r d).entries n

abbrev pub join_of : RunState → ℕ → ℕ → JoinRow
join_of r c i = row_at (history_of r c) i
