-- The equations of a small domain's starting tick, as a whole list.
use Rattle.std.specs.Prelude.{pos, List, [], ◌∷◌, None, Some}
use Rattle.java_values.specs.declared.kind.Kind.TheVariants.{Boolean, Int}
use Rattle.kernel_terms.specs.declared.tables.Combine.TheVariants.{Max}
use Rattle.kernel_terms.specs.declared.tables.Sort.TheVariants.{Input, Output}
use Rattle.kernel_terms.specs.declared.tables.Tables.{Tables}
use Rattle.surf_graph.specs.definitions.Formulas.{Const, Get, Same, And, Or, Choose, Zero, Status, IsStatus, Greater, Equation}
use Rattle.surf_graph.specs.definitions.Copies.{Copy}
use Rattle.surf_graph.specs.definitions.DomainCopies.{domain_context}
use Rattle.surf_graph.specs.definitions.StartingCopies.{start}
use Rattle.surf_graph.specs.SmallCopies.{is, emission}
use Rattle.kernel_terms.specs.Statements.{Stmt, Pause, Seq}

-- domain 0 has a pure output, an `int` input, an `int` variable, and a channel from domain 1
abbrev pub small_tables : Tables
small_tables = record {
  signals =
      record { name = []; domain = 0; sort = Output; kind = None; combine = Max }
      ∷ record { name = []; domain = 0; sort = Input; kind = Some Int; combine = Max } ∷ [];
  channels = record { name = []; kind = Int; sender = 1; receiver = 0 } ∷ [];
  variables = record { domain = 0; kind = Int } ∷ [];
}

-- the output is emitted
abbrev pub small_statement : Stmt
small_statement = Seq (emission 0) Pause

abbrev pub small_copy : Copy
small_copy = start small_tables small_statement (domain_context small_tables 0)

-- Wires 2 and 3 are the variable and the last value. Wires 4 and 6 are presence and value of the output, wires 5 and 7
-- those of the input, whose places are behind the four registers. Wire 10 is the status of the statement, and wire 24
-- the next register of its pause.
abbrev pub small_domain_equations : List Equation
small_domain_equations =
    is 0 (Const (pos 0)) ∷ is 1 (Const (pos 1)) ∷ is 17 (IsStatus 10 1)
    ∷ is 2 (Get 1) ∷ is 3 (Get 3)
    ∷ is 10 (Greater 13 15) ∷ is 12 (IsStatus 13 0) ∷ is 13 (Status 1 0)
    ∷ is 14 (Const (pos 0)) ∷ is 15 (Status 12 1) ∷ is 16 (And 12 1)
    ∷ is 4 (Same 18) ∷ is 6 (Same 0) ∷ is 8 (Const (pos 0)) ∷ is 18 (Or 0 1)
    ∷ is 5 (Get 4) ∷ is 7 (Get 5)
    ∷ is 24 (Choose 16 16 25) ∷ is 25 (Zero Boolean) ∷ []
