-- What walks over a statement find: the ways of its ticks, the weights of its trees, and how parts in turn end.
use Rattle.std.specs.Prelude.{◌≡◌, ℕ, Bool, true, false, ◌&&◌, ◌||◌, cond, List, [], ◌∷◌, Option, Some, None}
use Rattle.std.specs.Int.{bit_at}
use Rattle.kernel_terms.specs.Statements.{Stmt}
use Rattle.std.specs.List.{list_all}
use Rattle.kernel_terms.specs.MayEnd.{Ways, starting, resuming, resumes, ends0, ends1}
use Rattle.tick_tree.specs.definitions.Weight.{capped, starting_weight, resuming_weight}
use Rattle.tick_tree.specs.declared.measure.Exits.{Exits}
use Rattle.tick_tree.specs.declared.measure.Measure.{Measure}

abbrev pub bit_of : Bool → ℕ
bit_of b = cond b 1 0

-- the bit of a depth tells whether there is an exit to the trap of this depth
pub record AreWays (w : Ways) (found : Exits) : Type 0 where
  pub may_end : found.ends ≡ w.ends
  pub may_exit : (d : ℕ) → bit_at found.traps d ≡ bit_of (w.exits d)

-- it is what a walk over this statement finds
pub record IsMeasure (p : Stmt) (found : Measure) : Type 0 where
  pub at_start : AreWays (starting p) found.starting
  pub at_later : AreWays (resuming p) found.resuming
  pub goes_on : found.resumes ≡ resumes p
  pub weight_at_start : found.starting_weight ≡ capped (starting_weight p)
  pub weight_later : found.resuming_weight ≡ capped (resuming_weight p)

-- Of parts that nest to the right, where there are any.
abbrev pub IsMeasureOfParts : (Stmt → List Stmt → Stmt) → List Stmt → Option Measure → Type 0
IsMeasureOfParts nested [] None = Unit {0}
IsMeasureOfParts nested [] (Some m) = ⊥
IsMeasureOfParts nested (p ∷ ps) None = ⊥
IsMeasureOfParts nested (p ∷ ps) (Some m) = IsMeasure (nested p ps) m

-- some part may end in a later tick, and those after it in their starting ticks
abbrev pub some_ends1 : List Stmt → Bool
some_ends1 [] = false
some_ends1 (p ∷ ps) = some_ends1 ps || (ends1 p && list_all ends0 ps)

-- the parts may end in their starting ticks alone
pub record IsPassed (ps : List Stmt) : Type 0 where
  pub at_start : list_all ends0 ps ≡ true
  pub later : some_ends1 ps ≡ false
