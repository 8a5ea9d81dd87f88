-- Values that satisfy the equations of one part.
use Rattle.std.specs.Prelude.{ℕ, ℤ}
use Rattle.surf_graph.specs.definitions.Formulas.{Satisfies}
use Rattle.surf_graph.specs.definitions.Copies.{Copy}
use Rattle.surf_graph.specs.definitions.Shows.{Agreeing}

-- values that satisfy a copy's equations, and are these below n
pub record Solution (f w : ℕ → ℤ) (n : ℕ) (copy : Copy) : Type 0 where
  pub values : ℕ → ℤ
  pub same : Agreeing n w values
  pub solves : Satisfies f values copy.equations
