-- Words for laws on trees.
use Rattle.std.specs.Prelude.{ℕ, zero, suc, List, [], ◌∷◌, ◌++◌, Option, Some, None}
use Rattle.tick_tree.specs.definitions.Shapes.{Shape, Single, InTurn, OneOf, Beside, WithNew}
use Rattle.tick_tree.specs.definitions.Trees.{Tree, One, Seq, Alt, Both}

-- so many numbers from this one on
abbrev pub numbers_from : ℕ → ℕ → List ℕ
numbers_from n zero = []
numbers_from n (suc k) = n ∷ numbers_from (suc n) k

-- the numbers of the leaves, from the left
abbrev pub leaf_numbers : Tree → List ℕ
leaf_numbers (One x) = x.number ∷ []
leaf_numbers (Seq p q) = leaf_numbers p ++ leaf_numbers q
leaf_numbers (Alt p q) = leaf_numbers p ++ leaf_numbers q
leaf_numbers (Both p q) = leaf_numbers p ++ leaf_numbers q

-- the shape with each place 0
abbrev pub without_places : Shape → Shape
without_places (Single x) = Single (record x { at = 0 })
without_places (InTurn p q) = InTurn (without_places p) (without_places q)
without_places (OneOf p q) = OneOf (without_places p) (without_places q)
without_places (Beside p q) = Beside (without_places p) (without_places q)
without_places (WithNew s p) = WithNew s (without_places p)

abbrev pub without_places_of_some : Option Shape → Option Shape
without_places_of_some None = None
without_places_of_some (Some p) = Some (without_places p)
