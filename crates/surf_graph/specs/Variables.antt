-- The wires of variables: what is left when changes are undone, and how two alternatives are joined.
use Rattle.std.specs.Prelude.{◌≡◌, ℕ, ◌+◌, ◌<◌, nat_le, true, false, cond, List, [], ◌∷◌, ◌++◌, length, set, slice_index, Some, None, IsSome}
use Rattle.std.specs.BTreeMap.{BTreeMap, get}
use Rattle.std.specs.Ordering.{nat_cmp}
use Rattle.surf_graph.specs.declared.builder.Builder.{Builder}
use Rattle.surf_graph.specs.declared.change.Change.{Change}
use Rattle.surf_graph.specs.Copying.{SpellsOut, logs}
use Rattle.surf_graph.specs.definitions.Changes.{undone}
use Rattle.surf_graph.specs.definitions.Copies.{has, both_write, joins, join_wires, wires_by}
use Rattle.surf_graph.specs.definitions.Formulas.{Choose}

-- the changes are of variables below this number
pub record FitChanges (count : ℕ) (cs : List Change) : Type 0 where
  pub at : (x : ℕ) → logs cs x ≡ true → x < count

-- the last of the changes is
pub record FitLast (count : ℕ) (cs : List Change) : Type 0 where
  pub at : (xs : List Change) (c : Change) → cs ≡ xs ++ c ∷ [] → c.variable < count

-- the last change is taken back
pub record UndoesLast (wires : List ℕ) (cs : List Change) (new : List ℕ) (rest : List Change) : Type 0 where
  pub at : (xs : List Change) (c : Change) → cs ≡ xs ++ c ∷ [] →
      (rest ≡ xs) × (new ≡ set wires c.variable c.before)

-- the map has the variables of these changes, each with its wire
pub record HasWires (cs : List Change) (wires : List ℕ) (left : BTreeMap ℕ ℕ) : Type 0 where
  pub at : (x : ℕ) → get nat_cmp left x ≡ cond (logs cs x) (Some (slice_index wires x)) None

-- the map's variables are below this number
pub record FitVariables (count : ℕ) (left : BTreeMap ℕ ℕ) : Type 0 where
  pub at : (x : ℕ) → IsSome (get nat_cmp left x) → x < count

-- A variable of the first alternative has this wire after both: where the second gave it one of its own, the
-- next wire, which chooses between the two.
pub record JoinsWire (old new : Builder) (other first second first_own wire : ℕ) : Type 0 where
  pub wire_is : wire ≡ cond (nat_le first_own second) old.next first
  pub next : new.next ≡ old.next + cond (nat_le first_own second) 1 0
  pub equations : SpellsOut old new (cond (nat_le first_own second)
      (record { wire = old.next; formula = Choose other second first } ∷ []) [])

-- the variable gets this wire in the table, and the log tells its old one
pub record JoinsOne (old new : Builder) (wires now : List ℕ) (cs more : List Change)
    (other first_own variable first : ℕ) : Type 0 where
  pub wire : ℕ
  pub joins : JoinsWire old new other first (slice_index wires variable) first_own wire
  pub wires_are : now ≡ set wires variable wire
  pub logged : more ≡
      cs ++ record { variable = variable; before = slice_index wires variable } ∷ []

-- The first alternative may have changed the variables xs, and left these wires in place of a; the table is that
-- after the second, which may have changed the variables ys, and its own wires begin with first_own.
pub record FirstLeft (xs ys : List ℕ) (a : ℕ → ℕ) (left : BTreeMap ℕ ℕ) (wires : List ℕ)
    (first_own : ℕ) : Type 0 where
  pub left_are : (x : ℕ) → get nat_cmp left x ≡ cond (has xs x) (Some (a x)) None
  pub changed : (x : ℕ) → has ys x ≡ nat_le first_own (slice_index wires x)
  pub neither : (x : ℕ) → has xs x ≡ false → has ys x ≡ false → a x ≡ slice_index wires x

-- the two are joined, and the log tells how the variables xs were before
pub record Joined (old new : Builder) (wires now : List ℕ) (cs after : List Change) (other : ℕ)
    (a : ℕ → ℕ) (xs ys : List ℕ) : Type 0 where
  pub equations : SpellsOut old new
      (joins other old.next a (λ x. slice_index wires x) (both_write xs ys))
  pub next : new.next ≡ old.next + length (both_write xs ys)
  pub count : length now ≡ length wires
  pub wires_are : (x : ℕ) → slice_index now x ≡
      join_wires old.next (wires_by ys (λ y. slice_index wires y) a) (both_write xs ys) x
  pub more : List Change
  pub logged : after ≡ cs ++ more
  pub before : (x : ℕ) → undone more (λ y. slice_index now y) x ≡ slice_index wires x
  pub which : (x : ℕ) → logs more x ≡ has xs x
