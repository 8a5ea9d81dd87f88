-- What the copy of a statement adds to its builder.
use Rattle.std.specs.Prelude.{◌≡◌, ℕ, ◌+◌, ◌==◌, nat_le, nat_lt, Bool, false, ◌&&◌, ◌||◌, cond, List, [], ◌∷◌, ◌++◌, length, map, get_or, Vec, slice_index}
use Rattle.std.specs.Global.{Global}
use Rattle.std.specs.List.Sorted.{IsPermutation}
use Rattle.surf_graph.specs.declared.builder.Builder.{Builder}
use Rattle.surf_graph.specs.declared.change.Change.{Change}
use Rattle.surf_graph.specs.declared.copy_builder.CopyBuilder.{CopyBuilder}
use Rattle.surf_graph.specs.declared.copy_builder.Given.{Given}
use Rattle.surf_graph.specs.declared.copy_builder.Guarded.{Guarded}
use Rattle.surf_graph.specs.declared.wire_tables.WireTables.{WireTables}
use Rattle.surf_graph.specs.Building.{wires_in}
use Rattle.surf_graph.specs.definitions.Changes.{undone}
use Rattle.surf_graph.specs.definitions.Copies.{Context, Copy, Emits, Sets, has}
use Rattle.surf_graph.specs.definitions.Formulas.{Equation}
use Rattle.surf_graph.specs.definitions.SpelledOut.{spelled_out, further_after}

-- new has these equations spelled out behind, in some order
pub record SpellsOut (old new : Builder) (es : List Equation) : Type 0 where
  pub order : List Equation
  pub same : IsPermutation es order
  pub equations : new.equations.items ≡ old.equations.items ++ spelled_out old.further order
  pub further : new.further ≡ further_after old.further order

abbrev pub buckets : List (Vec Guarded Global) → List (List Guarded)
buckets lists = map (λ (v : Vec Guarded Global). v.items) lists

abbrev pub bucket : List (Vec Guarded Global) → ℕ → List Guarded
bucket lists k = get_or (buckets lists) k []

-- the emissions of this signal
abbrev pub emits_of : ℕ → List Emits → List Guarded
emits_of s [] = []
emits_of s (e ∷ es) =
    cond (e.signal == s) (record { condition = e.condition; value = e.value } ∷ emits_of s es)
    (emits_of s es)

abbrev pub sets_of : List Sets → List Guarded
sets_of sets = map (λ (s : Sets). record { condition = s.condition; value = s.value }) sets

-- the number is one of so many from the first on
abbrev pub is_own : ℕ → ℕ → ℕ → Bool
is_own first count k = nat_le first k && nat_lt k (first + count)

-- the sets of a register, where it is one of so many from the first on
abbrev pub own_sets : ℕ → ℕ → (ℕ → List Sets) → ℕ → List Guarded
own_sets first count sets k = cond (is_own first count k) (sets_of (sets k)) []

-- what a copy is given by the builder and these wires
abbrev pub context : CopyBuilder → Given → Context
context b given =
    record {
      go = given.go;
      hold = given.hold;
      keep = given.keep;
      wires = wires_in b.wires;
      register = given.register;
      next = b.builder.next;
    }

-- the variable is among those that were changed
abbrev pub logs : List Change → ℕ → Bool
logs [] x = false
logs (c ∷ cs) x = (c.variable == x) || logs cs x

-- changes of these variables alone are logged behind the old ones, which give back the old wires
pub record Changes (old new : CopyBuilder) (xs : List ℕ) : Type 0 where
  pub more : List Change
  pub logged : new.changes.items ≡ old.changes.items ++ more
  pub before : (x : ℕ) →
      undone more (wires_in new.wires).variables x ≡ (wires_in old.wires).variables x
  pub which : (x : ℕ) → logs more x ≡ has xs x

-- as old, but for the wires of variables
pub record SameTables (old new : WireTables) : Type 0 where
  pub count : length new.variables.items ≡ length old.variables.items
  pub present : new.present.items ≡ old.present.items
  pub value : new.value.items ≡ old.value.items
  pub last : new.last.items ≡ old.last.items

-- new is old with a copy behind, whose statement may assign these variables and has so many registers from
-- the first on
pub record Builds (old new : CopyBuilder) (first count : ℕ) (xs : List ℕ) (a : Copy) : Type 0 where
  pub equations : SpellsOut old.builder new.builder a.equations
  pub next : new.builder.next ≡ a.next
  pub variables : (x : ℕ) → (wires_in new.wires).variables x ≡ a.variables x
  pub tables : SameTables old.wires new.wires
  pub changes : Changes old new xs
  pub signals : length new.emits.items ≡ length old.emits.items
  pub emits : (s : ℕ) →
      bucket new.emits.items s ≡ bucket old.emits.items s ++ emits_of s a.emits
  pub registers : length new.sets.items ≡ length old.sets.items
  pub sets : (k : ℕ) →
      bucket new.sets.items k ≡ bucket old.sets.items k ++ own_sets first count a.sets k
