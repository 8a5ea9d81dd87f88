-- Calls of ends, one after another.
use Rattle.std.proofs.Common.{ℕ, List, [], ◌∷◌, ◌++◌, Option, subst}
use Rattle.cell_core.specs.declared.moves.Joined.{Joined}
use Rattle.cell_core.specs.declared.moves.CellMove.{CellMove}
use Rattle.cell_core.specs.definitions.Ends.{EndCall, Through}

module _ {S : Type 0} (moved : S → ℕ → CellMove → Option Joined → S → Type 0) where
  -- no call leads from the ends to themselves
  -- calls after calls
  pub Through-append : (first middle last : S) (calls more : List EndCall) →
      Through moved first calls middle → Through moved middle more last → Through moved first (calls ++ more) last
  Through-append first middle last [] more before after = subst (λ s. Through moved s more last) before after
  Through-append first middle last (c ∷ calls) more before after =
      (before.0, before.1, Through-append before.0 middle last calls more before.2 after)
  -- one call more
