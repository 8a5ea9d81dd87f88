-- What the wires of a code tell.
use Rattle.plain_code.specs.declared.equation.Equation.{Equation}
use Rattle.plain_code.specs.Formulas.{IsOrdered, FitsFrame, Satisfies, is_on, number_at}
use Rattle.plain_code.specs.declared.formula.Formula.TheVariants.{Const}
use Rattle.domain_core.specs.equations.Circuit.{Part, is_set, start, resume}
use Rattle.domain_core.specs.declared.equations.circuit.Built.{Built}
use Rattle.domain_core.specs.equations.BuiltForms.{Plain}
use Rattle.domain_core.specs.equations.BuiltRegisters.{registers}
use Rattle.std.specs.Prelude.{◌≡◌, ℕ, ◌<◌, ◌≤◌, slice_index, slice_index_or, slice_set, ◌++◌, ℤ, pos, Bool, false, ◌||◌, List, [], ◌∷◌, length}

-- each pair has a number below the count and a wire below the limit
abbrev pub Below : ℕ → ℕ → List (ℕ × ℕ) → Type 0
Below count limit [] = Unit {0}
Below count limit (s ∷ ss) = (s.0 < count) × (s.1 < limit) × Below count limit ss

-- More equations, where a wire is on where either of two is. Wire 0 is off.
pub record TellsEither (old new : List Equation) (first second wire : ℕ) : Type 0 where
  pub ordered : first < length old → second < length old → IsOrdered 0 old → IsOrdered 0 new
  pub fits : (size : ℕ) → FitsFrame size old → FitsFrame size new
  pub grows : length old ≤ length new
  pub below : second < length old → wire < length new
  pub keeps : (frame values : List ℤ) → Satisfies new frame values → Satisfies old frame values
  pub tests : (frame values : List ℤ) → Satisfies new frame values → is_on values 0 ≡ false →
      is_on values wire ≡ (is_on values first || is_on values second)

-- More equations, which give for each number below the count a wire that tells whether some pair of
-- this number is on. The wires stand in the order of the numbers.
pub record Merges (old new : List Equation) (wires : List ℕ) (pairs : List (ℕ ×
    ℕ)) (count : ℕ) : Type 0 where
  pub ordered : IsOrdered 0 old → IsOrdered 0 new
  pub fits : (size : ℕ) → FitsFrame size old → FitsFrame size new
  pub grows : length old ≤ length new
  pub keeps : (frame values : List ℤ) → Satisfies new frame values → Satisfies old frame values
  pub size : length wires ≡ count
  pub wires_below : (n : ℕ) → n < count → slice_index wires n < length new
  pub tests : (n : ℕ) → n < count → (frame values : List ℤ) → Satisfies new frame values →
      is_on values 0 ≡ false → is_on values (slice_index wires n) ≡ is_set values pairs n

-- what the wires of a code tell of a part of its equations, and of the signals of these numbers
pub record Shows (code : List Equation) (present next : List ℕ) (end : ℕ) (head : List Equation)
    (part : Part) (own : List ℕ) (count : ℕ) : Type 0 where
  pub fits : FitsFrame count code
  pub keeps : (frame values : List ℤ) → Satisfies code frame values →
      Satisfies (head ++ part.equations) frame values
  pub done : end ≡ part.done
  pub end_below : end < length code
  pub signal_count : length present ≡ length own
  pub signals_below : (n : ℕ) → n < length own → slice_index present n < length code
  pub emits : (n : ℕ) → n < length own → (frame values : List ℤ) → Satisfies code frame values →
      is_on values 0 ≡ false →
      is_on values (slice_index present n) ≡ is_set values part.emits (slice_index own n)
  pub registers : length next ≡ count
  pub registers_below : (n : ℕ) → n < count → slice_index next n < length code
  pub sets : (n : ℕ) → n < count → (frame values : List ℤ) → Satisfies code frame values →
      is_on values 0 ≡ false → is_on values (slice_index next n) ≡ is_set values part.sets n

-- the wires that are off and on
abbrev pub head : List Equation
head =
    record { wire = 0; formula = Const (pos 0) } ∷ record { wire = 1; formula = Const (pos 1) } ∷ []

-- one step: what the wires told of the first registers, where the others stay
pub record Steps (code : List Equation) (present next : List ℕ) (end : ℕ) (old values : List ℤ)
    (shown : List Bool) (new : List ℤ) (ended : Bool) : Type 0 where
  pub satisfies : Satisfies code old values
  pub count : length shown ≡ length present
  pub tells : (n : ℕ) → n < length present →
      slice_index_or shown n false ≡ is_on values (slice_index present n)
  pub size : length new ≡ length old
  pub moves : (n : ℕ) → n < length next → is_on new n ≡ is_on values (slice_index next n)
  pub stays : (n : ℕ) → length next ≤ n → number_at new n ≡ number_at old n
  pub ends : ended ≡ is_on values end

-- the code of the starting tick
abbrev pub IsStarting : Built → Plain → List ℕ → Type 0
IsStarting built p own =
    Shows built.code built.present.items built.next.items built.end head (start p 2 1 0) own
    (registers p)

-- the code of the resuming tick
abbrev pub IsResuming : Built → Plain → List ℕ → Type 0
IsResuming built p own =
    Shows built.code built.present.items built.next.items built.end head (resume p 2 0) own
    (registers p)

-- a code that can step over so many registers and signals
pub record CanStep (built : Built) (count signals : ℕ) : Type 0 where
  pub fits : FitsFrame count built.code
  pub next : length built.next.items ≤ count
  pub present : signals ≡ length built.present.items
  pub end : built.end < length built.code
  pub signals_below : (n : ℕ) → n < length built.present.items →
      slice_index built.present.items n < length built.code
  pub sets_below : (n : ℕ) → n < length built.next.items →
      slice_index built.next.items n < length built.code

-- the registers with these literals written
abbrev pub written : List (ℕ × ℤ) → List ℤ → List ℤ
written [] values = values
written (l ∷ ls) values = written ls (slice_set values l.0 l.1)

abbrev pub AreBelow : ℕ → List (ℕ × ℤ) → Type 0
AreBelow count [] = Unit {0}
AreBelow count (l ∷ ls) = (l.0 < count) × AreBelow count ls

-- one step, and then the literals of the sends
pub record StepsOn (built : Built) (literals : List (ℕ ×
    ℤ)) (old : List ℤ) (shown : List Bool) (new : List ℤ) (ended : Bool) : Type 0 where
  pub values : List ℤ
  pub between : List ℤ
  pub steps : Steps built.code built.present.items built.next.items built.end old values shown
      between ended
  pub writes : new ≡ written literals between
