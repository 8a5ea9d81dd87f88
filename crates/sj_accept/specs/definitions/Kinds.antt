-- The kinds of a tree whose names have no failure.
use Rattle.std.specs.Prelude.{List, Option}
use Rattle.sj_names.specs.definitions.NumberedTrees.{numbered_tree}
use Rattle.sj_names.specs.definitions.DeclaredTables.{tables_of_tree}
use Rattle.java_types.specs.declared.failure.TypeFailure.{TypeFailure}
use Rattle.java_types.specs.definitions.Checks.{Checked}
use Rattle.java_types.specs.definitions.TypedTrees.{TypedTree, checked_tree}
use Rattle.sj_grammar.specs.definitions.SourceTrees.{SourceTree}

-- the tree with numbers, with its kinds
abbrev pub checked_source : SourceTree → Checked TypedTree
checked_source tree = checked_tree (tables_of_tree tree) (numbered_tree tree)

-- what is wrong with them, in the order in which the source is read
abbrev pub kind_failures : SourceTree → List TypeFailure
kind_failures tree = (checked_source tree).failures

-- the tree with kinds, where nothing is wrong
abbrev pub typed_tree : SourceTree → Option TypedTree
typed_tree tree = (checked_source tree).value
