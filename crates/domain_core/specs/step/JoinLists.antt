-- The joins of a domain as they are kept.
use Rattle.std.specs.Prelude.{ℕ, ◌<◌, ◌≤◌, ◌^◌, List, map, length, get_or, Option, Vec, vec_len, vec_capacity, IsSome, None}
use Rattle.std.specs.Global.{Global}
use Rattle.cell_core.specs.declared.moves.Joined.{Joined}
use Rattle.domain_core.specs.declared.step.ends_of.EndJoin.{EndJoin}

-- the joins at each end
abbrev pub joins_in : List (Vec EndJoin Global) → List (List EndJoin)
joins_in lists = map (λ (v : Vec EndJoin Global). v.items) lists

-- both stamps are below 2^62
pub record StampsFit (j : Joined) : Type 0 where
  pub mine : j.mine < 2 ^ 62
  pub theirs : j.theirs < 2 ^ 62

-- there is memory for a join more where one is answered
pub record HasRoom (lists : List (Vec EndJoin Global)) (answers : List (Option Joined)) (n : ℕ) :
    Type 0 where
  pub room : (k : ℕ) (v : Vec EndJoin Global) → n ≤ k → k < length lists →
      IsSome (get_or answers k None) → vec_len (get_or lists k v) < vec_capacity (get_or lists k v)
