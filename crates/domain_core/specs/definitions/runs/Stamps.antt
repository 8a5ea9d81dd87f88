-- The stamps of ticks and of joins.
use Rattle.std.specs.Prelude.{◌≡◌, ℕ, ◌≤◌, ◌⊎◌, suc, zero, max}
use Rattle.cell_core.specs.declared.moves.Joined.{Joined}

-- s is the greatest of a stamp and of the stamps of these joins
pub record IsGreatest (stamp : ℕ) (IsJoined : ℕ → Type 0) (s : ℕ) : Type 0 where
  pub least : stamp ≤ s
  pub joins : (t : ℕ) → IsJoined t → t ≤ s
  pub attained : (s ≡ stamp) ⊎ IsJoined s

-- The stamp of a tick is 1 + the greatest of the stamp of its domain's tick before it and of the stamps of the
-- domain's joins between the two. Before the first tick the stamp is 0, and nothing is joined.
abbrev pub IsTickStamp : (last : ℕ) → (IsJoined : ℕ → Type 0) → ℕ → Type 0
IsTickStamp last IsJoined stamp = (s : ℕ) × (stamp ≡ suc s) × IsGreatest last IsJoined s

-- the stamp of the last of a domain's first n ticks, and 0 where there is none
abbrev pub last_stamp : (ℕ → ℕ) → ℕ → ℕ
last_stamp stamps zero = 0
last_stamp stamps (suc n) = stamps n

-- the stamp of a join is 1 + the greater of the stamps of its two ticks, which are those of the two offers
abbrev pub join_stamp : ℕ → ℕ → ℕ
join_stamp s t = suc (max s t)

abbrev pub stamp_of_join : Joined → ℕ
stamp_of_join j = join_stamp j.mine j.theirs
