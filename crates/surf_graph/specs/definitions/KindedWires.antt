-- Kinds of the wires of expressions and of tests.
use Rattle.std.specs.Prelude.{◌≡◌, ℕ, ◌<◌, true, List, Some}
use Rattle.java_values.specs.declared.kind.Kind.{Kind}
use Rattle.java_values.specs.declared.kind.Kind.TheVariants.{Boolean}
use Rattle.kernel_terms.specs.declared.tables.Tables.{Tables}
use Rattle.kernel_terms.specs.TableEntries.{signal_at, channel_at, variable_at}
use Rattle.kernel_terms.specs.WellFormed.{Scope, can_use, is_variable_of, is_receiver_of}
use Rattle.wire_code.specs.declared.formula.Formula.{Formula as Operation}
use Rattle.wire_code.specs.declared.equation.Equation.{Equation}
use Rattle.kernel_terms.specs.Expressions.{Expression, Literal, Variable, SignalValue, ChannelValue, Unary, Binary, Cast, Test, IsPresent, Not, Both, Either}
use Rattle.tick_code.specs.WellKinded.{Class, Of, Constant, Fits, Gives, HaveClasses}
use Rattle.surf_graph.specs.definitions.Formulas.{Wires}
use Rattle.surf_graph.specs.definitions.SpelledOut.{Computing}

-- classes that are these below a limit
pub record SameBelow (limit : ℕ) (c d : ℕ → Class) : Type 0 where
  pub at : (k : ℕ) → k < limit → d k ≡ c k

-- each wire that an expression may read in this scope is an operand of the kind of what it stands for
pub record OperandsFit (tables : Tables) (scope : Scope) (c : ℕ → Class) (v : Wires) : Type 0 where
  pub variables : (x : ℕ) → is_variable_of tables scope.domain x ≡ true →
      Fits (variable_at tables x).kind (c (v.variables x))
  pub present : (s : ℕ) → can_use tables scope s ≡ true → Fits Boolean (c (v.present s))
  pub value : (s : ℕ) (k : Kind) → can_use tables scope s ≡ true →
      (signal_at tables s).kind ≡ Some k → Fits k (c (v.value s))
  pub last : (ch : ℕ) → is_receiver_of tables scope.domain ch ≡ true →
      Fits (channel_at tables ch).kind (c (v.last ch))

-- each equation that the first list has is one of the second
abbrev pub Among : List Equation → List Equation → Type 0
Among es all = (w : ℕ) (f : Operation) → Gives es w f → Gives all w f

-- the class of the wire of an expression
abbrev pub value_class : (ℕ → Class) → Wires → Expression → Class
value_class c v (Literal k m) = Constant m
value_class c v (Variable k x) = c (v.variables x)
value_class c v (SignalValue k s) = c (v.value s)
value_class c v (ChannelValue k ch) = c (v.last ch)
value_class c v (Unary k o e) = Of k
value_class c v (Binary k o e f) = Of k
value_class c v (Cast k e) = Of k

abbrev pub test_class : (ℕ → Class) → Wires → Test → Class
test_class c v (IsPresent s) = c (v.present s)
test_class c v (Not t) = Of Boolean
test_class c v (Both t u) = Of Boolean
test_class c v (Either t u) = Of Boolean

-- There are classes, which are these below n, by which each operation of the computation has its class among all, and
-- its wire has this class.
pub record IsKinded (frame : List Kind) (all : List Equation) (n : ℕ) (c : ℕ → Class) (x : Class)
    (a : Computing) : Type 0 where
  pub classes : ℕ → Class
  pub same : SameBelow n c classes
  pub each : HaveClasses frame all classes a.equations
  pub wire : classes a.wire ≡ x
