-- Tick trees: leaves and copies of local signals by number.
use Rattle.std.specs.Prelude.{ℕ, suc, ◌+◌, ◌==◌, cond, List, map, get_or, Option, Some, None}
use Rattle.kernel_terms.specs.declared.term.Term.{Term}
use Rattle.kernel_terms.specs.Statements.{statement}
use Rattle.tick_tree.specs.definitions.Leaves.{places_of}
use Rattle.tick_tree.specs.definitions.Shapes.{Spot, Shape, Single, InTurn, OneOf, Beside, WithNew, starting_shape, resuming_shape}

-- A copy of one statement: its number from the left, its place in the source, how many nodes its expression or
-- test has, and which signals it reads and writes. A number of a signal is that of an interface signal or of a
-- copy of a local one.
pub record Leaf : Type 0 where
  pub number : ℕ
  pub at : ℕ
  pub nodes : ℕ
  pub reads : List ℕ
  pub writes : List ℕ

-- Two trees stand one after the other, or one of them is passed, or both beside each other.
pub data Tree : Type 0 where
  One : (leaf : Leaf) → Tree
  Seq : (first second : Tree) → Tree
  Alt : (left right : Tree) → Tree
  Both : (left right : Tree) → Tree

-- how many leaves and how many new copies of local signals there are
abbrev pub leaves_in : Shape → ℕ
leaves_in (Single x) = 1
leaves_in (InTurn p q) = leaves_in p + leaves_in q
leaves_in (OneOf p q) = leaves_in p + leaves_in q
leaves_in (Beside p q) = leaves_in p + leaves_in q
leaves_in (WithNew s p) = leaves_in p

abbrev pub copies_in : Shape → ℕ
copies_in (Single x) = 0
copies_in (InTurn p q) = copies_in p + copies_in q
copies_in (OneOf p q) = copies_in p + copies_in q
copies_in (Beside p q) = copies_in p + copies_in q
copies_in (WithNew s p) = suc (copies_in p)

-- the signal s has the number n, and others have theirs
abbrev pub renamed : (ℕ → ℕ) → ℕ → ℕ → ℕ → ℕ
renamed names s n k = cond (k == s) n (names k)

abbrev pub leaf_of : (ℕ → ℕ) → ℕ → Spot → Leaf
leaf_of names number x =
    record {
      number = number;
      at = x.at;
      nodes = x.nodes;
      reads = map names x.reads;
      writes = map names x.writes;
    }

-- Leaves are numbered from the left, and so are copies of local signals, an outer one before an inner one. What
-- reads or writes a local signal within a copy's part reads or writes that copy.
abbrev pub numbered : (names : ℕ → ℕ) → (leaf copy : ℕ) → Shape → Tree
numbered names leaf copy (Single x) = One (leaf_of names leaf x)
numbered names leaf copy (InTurn p q) =
    Seq (numbered names leaf copy p) (numbered names (leaf + leaves_in p) (copy + copies_in p) q)
numbered names leaf copy (OneOf p q) =
    Alt (numbered names leaf copy p) (numbered names (leaf + leaves_in p) (copy + copies_in p) q)
numbered names leaf copy (Beside p q) =
    Both (numbered names leaf copy p) (numbered names (leaf + leaves_in p) (copy + copies_in p) q)
numbered names leaf copy (WithNew s p) = numbered (renamed names s copy) leaf (suc copy) p

-- with the numbers of the leaves from 0, and those of the copies from the number of interface signals
abbrev pub tree_of : ℕ → Shape → Tree
tree_of interface p = numbered (λ s. s) 0 interface p

abbrev pub tree_of_some : ℕ → Option Shape → Option Tree
tree_of_some interface None = None
tree_of_some interface (Some p) = Some (tree_of interface p)

-- the place of the statement that has the n-th leaf of its own
abbrev pub place_in : Term → ℕ → ℕ
place_in t n = get_or (places_of t) n 0

-- the starting and the resuming tree of a domain's term
abbrev pub starting_tree : Term → ℕ → Tree
starting_tree t interface = tree_of interface (starting_shape (place_in t) 0 (statement t))

abbrev pub resuming_tree : Term → ℕ → Option Tree
resuming_tree t interface = tree_of_some interface (resuming_shape (place_in t) 0 (statement t))
