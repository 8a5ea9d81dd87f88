-- The equations of a copy by single operations.
use Rattle.std.specs.Prelude.{ℕ, ℤ, List}
use Rattle.kernel_terms.specs.declared.tables.Tables.{Tables}
use Rattle.kernel_terms.specs.Statements.{Stmt}
use Rattle.kernel_rules.specs.definitions.TickRule.{Tick}
use Rattle.surf_graph.specs.definitions.Copies.{Copy}
use Rattle.surf_graph.specs.definitions.Shows.{Agreeing}
use Rattle.surf_graph.specs.definitions.SpelledOut.{spelled_out}
use Rattle.surf_graph.specs.definitions.Tells.{Tells}
use Rattle.wire_code.specs.Formulas.{Satisfies}
use Rattle.wire_code.specs.declared.equation.Equation.{Equation as WireEquation}

-- their further wires come behind those of the copy
abbrev pub operations : Copy → List WireEquation
operations copy = spelled_out copy.next copy.equations

-- values that satisfy these equations, and are these below n
pub record Solved (f w : ℕ → ℤ) (n : ℕ) (es : List WireEquation) : Type 0 where
  pub values : ℕ → ℤ
  pub same : Agreeing n w values
  pub solves : Satisfies f values es

-- values that satisfy a copy's operations, are these below n, and tell this tick
pub record OperationsShow (tables : Tables) (f w : ℕ →
    ℤ) (p : Stmt) (r keep n : ℕ) (copy : Copy) (o : Tick) : Type 0 where
  pub values : ℕ → ℤ
  pub same : Agreeing n w values
  pub solves : Satisfies f values (operations copy)
  pub tells : Tells tables values p r keep copy o
