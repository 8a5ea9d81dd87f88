-- Kinds of the wires of copies.
use Rattle.std.specs.Prelude.{◌≡◌, ℕ, ◌+◌, ◌<◌, ◌≤◌, pos, true, false, List, [], ◌∷◌, length, None, slice_index_or}
use Rattle.java_values.specs.declared.kind.Kind.{Kind}
use Rattle.java_values.specs.declared.kind.Kind.TheVariants.{Boolean, Int}
use Rattle.kernel_terms.specs.declared.tables.Tables.{Tables}
use Rattle.kernel_terms.specs.Statements.{Stmt}
use Rattle.kernel_terms.specs.TableEntries.{signal_at, variable_at, value_kind, is_input}
use Rattle.kernel_terms.specs.WellFormed.{Scope, combines, is_variable_of}
use Rattle.kernel_rules.specs.definitions.Registers.{registers}
use Rattle.tick_code.specs.WellKinded.{Class, Of, Constant, Fits}
use Rattle.surf_graph.specs.definitions.Copies.{Context, Copy, Emits, Sets}
use Rattle.surf_graph.specs.definitions.KindedWires.{SameBelow, OperandsFit}
use Rattle.surf_graph.specs.definitions.KindedFormulas.{HaveKinds}

-- each signal's combination fits its kind
pub record EachCombines (tables : Tables) : Type 0 where
  pub at : (s : ℕ) → combines (signal_at tables s).kind (signal_at tables s).combine ≡ true

abbrev pub register_kind : List Kind → ℕ → Kind
register_kind frame k = slice_index_or frame k Boolean

-- the registers of the frame from r on are of these kinds
pub record HasRegisters (frame : List Kind) (r : ℕ) (kinds : List Kind) : Type 0 where
  pub room : r + length kinds ≤ length frame
  pub at : (i : ℕ) → i < length kinds → register_kind frame (r + i) ≡ register_kind kinds i

-- each variable of the domain has a wire of its kind
pub record HaveVariables (tables : Tables) (domain : ℕ) (c : ℕ → Class) (variables : ℕ → ℕ) : Type 0
  where
    pub at : (x : ℕ) → is_variable_of tables domain x ≡ true →
        c (variables x) ≡ Of (variable_at tables x).kind

-- the wires that a copy is given are of their kinds
pub record ContextFits (tables : Tables) (scope : Scope) (c : ℕ → Class) (x : Context) : Type 0 where
  pub zero : c 0 ≡ Constant (pos 0)
  pub go : Fits Boolean (c x.go)
  pub hold : Fits Boolean (c x.hold)
  pub keep : Fits Boolean (c x.keep)
  pub operands : OperandsFit tables scope c x.wires
  pub variables : HaveVariables tables scope.domain c x.wires.variables

-- An emission is of no input. Its condition is a truth value, and its value of the signal's kind; a pure signal has 0.
pub record EmissionFits (tables : Tables) (c : ℕ → Class) (e : Emits) : Type 0 where
  pub emitted : is_input (signal_at tables e.signal).sort ≡ false
  pub condition : Fits Boolean (c e.condition)
  pub value : Fits (value_kind (signal_at tables e.signal)) (c e.value)
  pub pure : (signal_at tables e.signal).kind ≡ None → c e.value ≡ Constant (pos 0)

abbrev pub EmissionsFit : Tables → (ℕ → Class) → List Emits → Type 0
EmissionsFit tables c [] = Unit {0}
EmissionsFit tables c (e ∷ es) = EmissionFits tables c e × EmissionsFit tables c es

-- what sets a register of this kind
pub record SetFits (k : Kind) (c : ℕ → Class) (s : Sets) : Type 0 where
  pub condition : Fits Boolean (c s.condition)
  pub value : Fits k (c s.value)

abbrev pub SetsFit : Kind → (ℕ → Class) → List Sets → Type 0
SetsFit k c [] = Unit {0}
SetsFit k c (s ∷ ss) = SetFits k c s × SetsFit k c ss

-- There are classes, which are these below n, by which each equation of a copy of p has its kind, and the wires that the
-- copy gives are of theirs. Its first register is r.
pub record IsKindedCopy (tables : Tables) (frame : List Kind) (domain : ℕ) (p : Stmt) (r n : ℕ)
    (c : ℕ → Class) (a : Copy) : Type 0 where
  pub classes : ℕ → Class
  pub same : SameBelow n c classes
  pub each : HaveKinds tables frame classes a.equations
  pub status : Fits Int (classes a.status)
  pub live : Fits Boolean (classes a.live)
  pub emits : EmissionsFit tables classes a.emits
  pub variables : HaveVariables tables domain classes a.variables
  pub sets : (k : ℕ) → r ≤ k → k < r + registers tables p →
      SetsFit (register_kind frame k) classes (a.sets k)
