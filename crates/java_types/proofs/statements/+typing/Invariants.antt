use Rattle.std.proofs.Common.{◌≡◌, drop, map}
use Rattle.java_types.specs.definitions.Checks.{all_checked}
use Rattle.java_types.specs.definitions.TypedTrees.{checked_block, checked_stmt}
use Rattle.java_types.proofs.ListLemmas.{prepended}
use Rattle.java_types.proofs.statements.+typing.Given as goal

abbrev pub invariant-blocks-loop-part : goal.invariant-blocks-loop-part
invariant-blocks-loop-part l = all_checked (map (checked_block l.tables) l.blocks) ≡ prepended l.typed.items (all_checked (map (checked_block l.tables) (drop l.part-index l.blocks)))

abbrev pub invariant-statements-loop-part : goal.invariant-statements-loop-part
invariant-statements-loop-part l = all_checked (map (checked_stmt l.tables) l.statements) ≡ prepended l.typed.items (all_checked (map (checked_stmt l.tables) (drop l.part-index l.statements)))
