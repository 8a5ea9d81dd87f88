use Rattle.std.proofs.Common.{◌≡◌, ◌++◌, drop, map}
use Rattle.sj_names.specs.definitions.NumberedTrees.{numbered_block, numbered_stmt, blocks_in_order, stmts_in_order}
use Rattle.sj_names.specs.VisibleNames.{scope_of}
use Rattle.sj_names.proofs.numbering.+numbering.Given as goal

abbrev pub invariant-blocks-loop-part : goal.invariant-blocks-loop-part
invariant-blocks-loop-part l =
    ((blocks_in_order (map numbered_block l.blocks) (scope_of l.initial.names)).value ≡ l.numbered.items ++ (blocks_in_order (map numbered_block (drop l.part-index l.blocks)) (scope_of l.names)).value)
    × ((blocks_in_order (map numbered_block l.blocks) (scope_of l.initial.names)).scope ≡ (blocks_in_order (map numbered_block (drop l.part-index l.blocks)) (scope_of l.names)).scope)

abbrev pub invariant-statements-loop-part : goal.invariant-statements-loop-part
invariant-statements-loop-part l =
    ((stmts_in_order (map numbered_stmt l.statements) (scope_of l.initial.names)).value ≡ l.numbered.items ++ (stmts_in_order (map numbered_stmt (drop l.part-index l.statements)) (scope_of l.names)).value)
    × ((stmts_in_order (map numbered_stmt l.statements) (scope_of l.initial.names)).scope ≡ (stmts_in_order (map numbered_stmt (drop l.part-index l.statements)) (scope_of l.names)).scope)
