-- What is added around the copy of a domain's statement.
use Rattle.std.specs.Prelude.{◌≡◌, ℕ, suc, ◌+◌, pos, true, cond, List, [], ◌∷◌, length, Option, None, Some}
use Rattle.java_values.specs.declared.kind.Kind.{Kind}
use Rattle.kernel_terms.specs.declared.tables.Tables.{Tables}
use Rattle.kernel_terms.specs.declared.tables.SignalInfo.{SignalInfo}
use Rattle.kernel_terms.specs.Statements.{Stmt}
use Rattle.kernel_terms.specs.TableEntries.{signal_at, is_input, interface_of}
use Rattle.kernel_rules.specs.definitions.Registers.{domain_registers, first_value}
use Rattle.surf_graph.specs.declared.builder.Builder.{Builder}
use Rattle.surf_graph.specs.declared.copy_builder.Guarded.{Guarded}
use Rattle.surf_graph.specs.declared.domain_statuses.StatusPlaces.{StatusPlaces}
use Rattle.surf_graph.specs.declared.emissions.Emitted.{Emitted}
use Rattle.surf_graph.specs.Copying.{SpellsOut, emits_of}
use Rattle.surf_graph.specs.definitions.Copies.{Emits, Folded}
use Rattle.surf_graph.specs.definitions.Formulas.{Formula, Const, Get, Same, Or, Equation}
use Rattle.surf_graph.specs.definitions.DomainCopies.{folded_as}

-- new is old with so many own wires taken, and these equations spelled out behind
pub record Grows (old new : Builder) (count : ℕ) (es : List Equation) : Type 0 where
  pub equations : SpellsOut old new es
  pub next : new.next ≡ old.next + count

-- the same, with one own wire for each equation
abbrev pub GrowsBy : Builder → Builder → List Equation → Type 0
GrowsBy old new es = Grows old new (length es) es

-- new has the equations of a fold too, and these are its wires
pub record FoldsInto (old new : Builder) (f : Folded) (r : Emitted) : Type 0 where
  pub grows : GrowsBy old new f.equations
  pub some : r.some ≡ f.some
  pub value : r.value ≡ f.value

-- an emission of this signal
abbrev pub emission_of : ℕ → Guarded → Emits
emission_of s g = record { signal = s; condition = g.condition; value = g.value }

-- one emission more of a pure signal, on wire n
abbrev pub condition_step : ℕ → ℕ → Guarded → Folded → Folded
condition_step n some g rest =
    record rest { equations = record { wire = n; formula = Or some g.condition } ∷ rest.equations }

-- the equations of an input, by its place in the frame
abbrev pub input_equations : ℕ → ℕ → ℕ → List Equation
input_equations b v place =
    record { wire = b; formula = Get place } ∷ record { wire = v; formula = Get (suc place) } ∷ []

-- and of an output, by its emissions and by what gives its value before
abbrev pub output_equations : ℕ → ℕ → ℕ → Formula → Folded → List Equation
output_equations b v k before folded =
    record { wire = b; formula = Same folded.some }
    ∷ record { wire = v; formula = Same folded.value }
    ∷ record { wire = k; formula = before } ∷ folded.equations

-- the value before, by its place in the frame; a pure signal has 0
abbrev pub place_before : Option Kind → ℕ → Formula
place_before None place = Const (pos 0)
place_before (Some k) place = Get place

-- how many own wires the emissions of a signal take
abbrev pub wires_folded : SignalInfo → ℕ → ℕ → ℕ → List Emits → ℕ
wires_folded info s n before es =
    cond (is_input info.sort) 0 (length (folded_as info info.kind s n before es).equations)

-- These are the interface signals of a domain, and the first places of inputs and of values in its frame. No input is
-- emitted.
pub record IsFrame (tables : Tables) (d : ℕ) (p : Stmt) (interface : List ℕ) (places : StatusPlaces)
    (es : List Emits) : Type 0 where
  pub signals : interface ≡ interface_of tables d
  pub inputs : places.input ≡ length (domain_registers tables d p)
  pub values : places.value ≡ first_value tables d p
  pub quiet : (s : ℕ) → is_input (signal_at tables s).sort ≡ true → emits_of s es ≡ []
