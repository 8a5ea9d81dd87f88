-- Values for a copy's own wires that tell a given tick.
use Rattle.std.specs.Prelude.{◌≡◌, ℕ, ◌<◌, ℤ}
use Rattle.kernel_terms.specs.declared.tables.Tables.{Tables}
use Rattle.kernel_terms.specs.Statements.{Stmt}
use Rattle.kernel_rules.specs.definitions.TickRule.{Tick}
use Rattle.surf_graph.specs.definitions.Formulas.{WiresBelow, Satisfies}
use Rattle.surf_graph.specs.definitions.Copies.{Copy, Context}
use Rattle.surf_graph.specs.definitions.Tells.{Tells}

-- the wires that a copy is given
pub record Outside (c : Context) : Type 0 where
  pub some : 0 < c.next
  pub go : c.go < c.next
  pub hold : c.hold < c.next
  pub keep : c.keep < c.next
  pub wires : WiresBelow c.next c.wires

-- values that agree below a limit
pub record Agreeing (limit : ℕ) (w v : ℕ → ℤ) : Type 0 where
  pub at : (k : ℕ) → k < limit → v k ≡ w k

-- values that satisfy a copy's equations, are these below n, and tell this tick
pub record Shows (tables : Tables) (f w : ℕ →
    ℤ) (p : Stmt) (r keep n : ℕ) (copy : Copy) (o : Tick) : Type 0 where
  pub values : ℕ → ℤ
  pub same : Agreeing n w values
  pub solves : Satisfies f values copy.equations
  pub tells : Tells tables values p r keep copy o
