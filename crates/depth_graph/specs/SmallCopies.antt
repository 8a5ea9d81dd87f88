-- Resuming copies of small statements, as whole lists of equations.
use Rattle.std.specs.Prelude.{pos, List, [], ◌∷◌}
use Rattle.kernel_terms.specs.Statements.{Stmt, Pause, Loop}
use Rattle.surf_graph.specs.definitions.Formulas.{Const, Get, And, Or, Status, IsStatus, Greater, Equation}
use Rattle.surf_graph.specs.SmallCopies.{is}

-- wire 8 tells that it is live
abbrev pub pause_equations : List Equation
pause_equations = is 8 (Get 0) ∷ is 9 (And 1 8) ∷ is 10 (Status 9 0) ∷ is 11 (And 2 3) ∷ []

-- Wires 13 to 16 are those of the pause. Wire 12 tells that it has ended, where the emission starts. Nothing
-- is built of an emission that resumes.
abbrev pub pause_then_emission_equations : List Equation
pause_then_emission_equations =
    is 8 (Greater 10 0) ∷ is 9 (Or 13 0)
    ∷ is 10 (Greater 15 17) ∷ is 12 (IsStatus 15 0)
    ∷ is 13 (Get 0) ∷ is 14 (And 1 13) ∷ is 15 (Status 14 0) ∷ is 16 (And 2 3)
    ∷ is 17 (Status 12 0) ∷ is 18 (Const (pos 0)) ∷ []

abbrev pub pauses : Stmt
pauses = Loop Pause

-- wire 10 tells that the pause has ended, where it starts anew
abbrev pub pauses_equations : List Equation
pauses_equations =
    is 8 (Greater 13 15) ∷ is 10 (IsStatus 13 0)
    ∷ is 11 (Get 0) ∷ is 12 (And 1 11) ∷ is 13 (Status 12 0) ∷ is 14 (And 2 3)
    ∷ is 15 (Status 10 1) ∷ is 16 (And 10 3) ∷ []
