-- Lists of options, all of which there must be.
use Rattle.std.specs.Prelude.{List, [], ◌∷◌, Option, Some, None}

abbrev pub with_first : {X : Type 0} → X → Option (List X) → Option (List X)
with_first x None = None
with_first x (Some xs) = Some (x ∷ xs)

-- the list of their values
abbrev pub all_some : {X : Type 0} → List (Option X) → Option (List X)
all_some [] = Some []
all_some (None ∷ os) = None
all_some (Some x ∷ os) = with_first x (all_some os)
