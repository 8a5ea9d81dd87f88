-- What is added to a builder.
use Rattle.std.specs.Prelude.{◌≡◌, ℕ, List, [], ◌∷◌, ◌++◌, slice_index}
use Rattle.surf_graph.specs.declared.builder.Builder.{Builder}
use Rattle.surf_graph.specs.declared.wire_tables.WireTables.{WireTables}
use Rattle.surf_graph.specs.definitions.Formulas.{Wires}
use Rattle.surf_graph.specs.definitions.SpelledOut.{gives, Computing, Spelled}
use Rattle.wire_code.specs.declared.equation.Equation.{Equation}

-- new is old with these operations behind, and then this next further wire
pub record Adds (old new : Builder) (es : List Equation) (rest : ℕ) : Type 0 where
  pub equations : new.equations.items ≡ old.equations.items ++ es
  pub further : new.further ≡ rest
  pub next : new.next ≡ old.next

-- new has this computation's operations too, and this is its wire
pub record Computes (old new : Builder) (c : Computing) (at : ℕ) : Type 0 where
  pub adds : Adds old new c.equations c.next
  pub wire : at ≡ c.wire

-- new has a formula's operations too, of which the last gives this wire
abbrev pub Writes : Builder → Builder → Spelled → ℕ → Type 0
Writes old new s wire = Adds old new (s.equations ++ (gives wire s.operation ∷ [])) s.next

-- the tables as functions of a number
abbrev pub wires_in : WireTables → Wires
wires_in t =
    record {
      variables = λ x. slice_index t.variables.items x;
      present = λ s. slice_index t.present.items s;
      value = λ s. slice_index t.value.items s;
      last = λ c. slice_index t.last.items c;
    }
