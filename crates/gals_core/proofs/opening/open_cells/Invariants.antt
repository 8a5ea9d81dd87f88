use Rattle.std.proofs.Common.{◌≡◌, replicate}
use Rattle.cell_core.specs.definitions.Cells.{empty_cell}
use Rattle.gals_core.proofs.opening.open_cells.Given as goal

abbrev pub invariant-loop-at : goal.invariant-loop-at
invariant-loop-at l = l.cells.items ≡ replicate l.at empty_cell
