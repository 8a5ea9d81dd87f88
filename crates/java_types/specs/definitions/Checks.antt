-- What comes of a check of kinds: a value where there is one, and all failures in source order.
use Rattle.std.specs.Prelude.{◌≡◌, List, [], ◌∷◌, ◌++◌, Option, Some, None, option_map}
use Rattle.java_types.specs.declared.failure.TypeFailure.{TypeFailure}
use Rattle.java_types.specs.declared.failure.TypeError.{TypeError}
use Rattle.java_types.specs.declared.failure.TypeError.TheVariants as error

pub record Checked (X : Type 0) : Type 0 where
  pub value : Option X
  pub failures : List TypeFailure

-- nothing is wrong
abbrev pub fine : {X : Type 0} → X → Checked X
fine x = record { value = Some x; failures = [] }

abbrev pub wrong : {X : Type 0} → TypeFailure → Checked X
wrong f = record { value = None; failures = f ∷ [] }

-- these failures stand before those of a part
abbrev pub after : {X : Type 0} → List TypeFailure → Checked X → Checked X
after failures c = record { value = c.value; failures = failures ++ c.failures }

abbrev pub map1 : {X Y : Type 0} → (X → Y) → Checked X → Checked Y
map1 f c = record { value = option_map f c.value; failures = c.failures }

abbrev pub option_map2 : {X Y Z : Type 0} → (X → Y → Z) → Option X → Option Y → Option Z
option_map2 f None o = None
option_map2 f (Some x) o = option_map (f x) o

abbrev pub map2 : {X Y Z : Type 0} → (X → Y → Z) → Checked X → Checked Y → Checked Z
map2 f c d = record { value = option_map2 f c.value d.value; failures = c.failures ++ d.failures }

abbrev pub map3 : {X Y Z W : Type 0} → (X → Y → Z → W) → Checked X → Checked Y → Checked Z →
    Checked W
map3 f c d e = map2 (λ g z. g z) (map2 f c d) e

-- what is asked of a value is asked where there is one
abbrev pub where_value : {X Y : Type 0} → (X → Checked Y) → Option X → Checked Y
where_value f None = record { value = None; failures = [] }
where_value f (Some x) = f x

-- a check of a value that was checked
abbrev pub then : {X Y : Type 0} → Checked X → (X → Checked Y) → Checked Y
then c f = after c.failures (where_value f c.value)

abbrev pub all_checked : {X : Type 0} → List (Checked X) → Checked (List X)
all_checked [] = fine []
all_checked (c ∷ cs) = map2 (λ x xs. x ∷ xs) c (all_checked cs)

abbrev pub where_given : {X : Type 0} → Option (Checked X) → Checked (Option X)
where_given None = fine None
where_given (Some c) = map1 Some c

-- the first failure
abbrev pub first_of : List TypeFailure → Option TypeFailure
first_of [] = None
first_of (f ∷ fs) = Some f

-- the error tells the first failure; want of memory may come at any place
abbrev pub IsFirst : {X : Type 0} → Checked X → TypeError → Type 0
IsFirst c (error.Failed f) = first_of c.failures ≡ Some f
IsFirst c error.NoMemory = Unit {0}
