-- When a tree with numbers has kinds, and which.
use Rattle.std.specs.Prelude.{◌≡◌}
use Rattle.sj_names.specs.declared.binding.Bound.{Bound}
use Rattle.java_types.specs.declared.trees.Typed.{Typed}
use Rattle.java_types.specs.declared.failure.TypeError.{TypeError}
use Rattle.java_types.specs.definitions.Checks.{fine, IsFirst}
use Rattle.java_types.specs.definitions.TypedTrees.{checked_tree}

-- nothing is wrong with the kinds; this is the tree with them, and the tables are the same
pub record IsTyping (bound : Bound) (typed : Typed) : Type 0 where
  pub tree : checked_tree bound.tables bound.tree ≡ fine typed.tree
  pub tables : typed.tables ≡ bound.tables

-- the error tells the first thing that is wrong; want of memory may come at any place
abbrev pub IsWhyUntyped : Bound → TypeError → Type 0
IsWhyUntyped bound = IsFirst (checked_tree bound.tables bound.tree)
