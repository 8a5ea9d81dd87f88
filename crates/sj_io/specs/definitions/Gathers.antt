-- What waits for a sink, and what it takes of that.
use Rattle.std.specs.Prelude.{◌≡◌, ℕ, List, ◌++◌, take, drop, Option}
use Rattle.sj_io.specs.definitions.Sinks.{TakesMore}
use Rattle.sj_io.specs.declared.gathered.Gathered.{Gathered}

abbrev pub waiting : Gathered → List ℕ
waiting g = drop g.from (take g.to g.buffer)

-- what the sink took, and what waits now, are together what waited and these bytes
pub record Gathers (old new : Option (List ℕ)) (waits waits' bytes : List ℕ) : Type 0 where
  pub part : List ℕ
  pub takes : TakesMore old new part
  pub split : part ++ waits' ≡ waits ++ bytes

-- the same, with a prefix of these bytes
pub record GathersPrefix (old new : Option (List ℕ)) (waits waits' bytes : List ℕ) : Type 0 where
  pub count : ℕ
  pub gathers : Gathers old new waits waits' (take count bytes)
