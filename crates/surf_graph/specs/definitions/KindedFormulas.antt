-- Kinds of the wires of copies, and of their operations.
use Rattle.std.specs.Prelude.{◌≡◌, ℕ, ◌<◌, pos, Bool, true, false, List, [], ◌∷◌, length, Some, slice_index_or}
use Rattle.java_values.specs.declared.kind.Kind.{Kind}
use Rattle.java_values.specs.declared.kind.Kind.TheVariants.{Boolean, Int}
use Rattle.java_values.specs.Kinds.{IsInRange}
use Rattle.kernel_terms.specs.declared.tables.Combine.{Combine}
use Rattle.kernel_terms.specs.declared.tables.Combine.TheVariants as combine
use Rattle.kernel_terms.specs.declared.tables.Tables.{Tables}
use Rattle.kernel_terms.specs.TableEntries.{value_kind}
use Rattle.kernel_terms.specs.Divisors.{has_divisors}
use Rattle.kernel_terms.specs.WellFormed.{Scope, combines, fits_expression, fits_test}
use Rattle.wire_code.specs.declared.equation.Equation.{Equation as WireEquation}
use Rattle.tick_code.specs.WellKinded.{Class, Of, Constant, Fits, IsEither, HasClass, HaveClasses}
use Rattle.surf_graph.specs.definitions.Formulas.{Formula, Const, Get, Same, And, AndNot, Or, Choose, Zero, StatusOf, Status, IsStatus, Greater, OfTrap, OfWeakAbort, Value, Holds, Equation, status_of}
use Rattle.surf_graph.specs.definitions.Formulas as formula
use Rattle.surf_graph.specs.definitions.KindedWires.{SameBelow, OperandsFit, value_class}
use Rattle.surf_graph.specs.definitions.SpelledOut.{Spelled}

-- a combination that is one of the two values
abbrev pub is_choice : Combine → Bool
is_choice combine.Max = true
is_choice combine.Min = true
is_choice _ = false

-- the formula has this class, where the frame has these kinds and the wires these classes
abbrev pub HasKind : Tables → List Kind → (ℕ → Class) → Formula → Class → Type 0
HasKind tables frame c (Const n) x = x ≡ Constant n
HasKind tables frame c (Get r) x =
    (r < length frame) × (x ≡ Of (slice_index_or frame r Boolean))
HasKind tables frame c (Same a) x = x ≡ c a
HasKind tables frame c (And a b) x = Fits Boolean (c a) × Fits Boolean (c b) × (x ≡ Of Boolean)
HasKind tables frame c (AndNot a b) x = Fits Boolean (c a) × Fits Boolean (c b) × (x ≡ Of Boolean)
HasKind tables frame c (Or a b) x = Fits Boolean (c a) × Fits Boolean (c b) × (x ≡ Of Boolean)
HasKind tables frame c (Choose t a b) x = Fits Boolean (c t) × IsEither (c a) (c b) x
HasKind tables frame c (Zero k) x = x ≡ Of k
HasKind tables frame c (StatusOf code) x = IsInRange Int (pos (status_of code)) × (x ≡ Of Int)
HasKind tables frame c (Status go code) x =
    Fits Boolean (c go) × IsInRange Int (pos (status_of code)) × (x ≡ Of Int)
HasKind tables frame c (IsStatus a code) x =
    Fits Int (c a) × IsInRange Int (pos (status_of code)) × (x ≡ Of Boolean)
HasKind tables frame c (Greater a b) x = Fits Int (c a) × Fits Int (c b) × IsEither (c a) (c b) x
HasKind tables frame c (OfTrap a) x = Fits Int (c a) × (x ≡ Of Int)
HasKind tables frame c (OfWeakAbort t a) x = Fits Boolean (c t) × Fits Int (c a) × (x ≡ Of Int)
HasKind tables frame c (formula.Combine info some a b) x =
    Fits Boolean (c some) × Fits (value_kind info) (c a) × Fits (value_kind info) (c b) ×
    (combines (Some (value_kind info)) info.combine ≡ true) ×
    (is_choice info.combine ≡ true → c a ≡ Of (value_kind info)) × (x ≡ Of (value_kind info))
HasKind tables frame c (Value e v) x =
    (scope : Scope) × OperandsFit tables scope c v × (fits_expression tables scope e ≡ true) ×
    (has_divisors e ≡ true) × (x ≡ value_class c v e)
HasKind tables frame c (Holds t v) x =
    (scope : Scope) × OperandsFit tables scope c v × (fits_test tables scope t ≡ true) ×
    (x ≡ Of Boolean)

-- each equation gives a wire of its class
abbrev pub HaveKinds : Tables → List Kind → (ℕ → Class) → List Equation → Type 0
HaveKinds tables frame c [] = Unit {0}
HaveKinds tables frame c (e ∷ es) =
    HasKind tables frame c e.formula (c e.wire) × HaveKinds tables frame c es

-- There are classes, which are these below n, by which each of these operations has its class among all.
pub record AreKinded (frame : List Kind) (all : List WireEquation) (n : ℕ) (c : ℕ → Class)
    (ops : List WireEquation) : Type 0 where
  pub classes : ℕ → Class
  pub same : SameBelow n c classes
  pub each : HaveClasses frame all classes ops

-- There are classes, which are these below n, by which the operations of a formula have their classes among all, and the
-- last one has this class.
pub record IsKindedFormula (frame : List Kind) (all : List WireEquation) (n : ℕ) (c : ℕ → Class)
    (x : Class) (s : Spelled) : Type 0 where
  pub classes : ℕ → Class
  pub same : SameBelow n c classes
  pub each : HaveClasses frame all classes s.equations
  pub operation : HasClass frame all classes s.operation x
