-- When a tree is bound, and to what.
use Rattle.std.specs.Prelude.{◌≡◌, []}
use Rattle.sj_ast.specs.declared.name.Name.{Name}
use Rattle.sj_ast.specs.declared.expression.Raw.{Raw}
use Rattle.sj_ast.specs.declared.statement.Tree.{Tree}
use Rattle.sj_names.specs.declared.binding.Bound.{Bound}
use Rattle.sj_names.specs.declared.binding.BindError.{BindError}
use Rattle.sj_names.specs.declared.binding.BindError.TheVariants as error
use Rattle.sj_names.specs.definitions.Mentions.{names_of_tree}
use Rattle.sj_names.specs.definitions.Failures.{failures_of, IsLeast}
use Rattle.sj_names.specs.definitions.NumberedTrees.{numbered_tree}
use Rattle.sj_names.specs.definitions.DeclaredTables.{tables_of_tree}

-- the names of the tree have no failure, and this is the tree with numbers, and its tables
pub record IsBinding (tree : Tree Name (Raw Name)) (bound : Bound) : Type 0 where
  pub sound : failures_of (names_of_tree tree) ≡ []
  pub numbered : bound.tree ≡ numbered_tree tree
  pub tables : bound.tables ≡ tables_of_tree tree

-- want of memory may come at any place
abbrev pub IsWhyUnbound : Tree Name (Raw Name) → BindError → Type 0
IsWhyUnbound tree (error.Failed failure) = IsLeast (failures_of (names_of_tree tree)) failure
IsWhyUnbound tree error.NoMemory = Unit {0}
