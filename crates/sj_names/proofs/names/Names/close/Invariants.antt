use Rattle.std.proofs.Common.{◌≡◌, length}
use Rattle.sj_names.specs.definitions.Scopes.{closed_at}
use Rattle.sj_names.specs.VisibleNames.{scope_of}
use Rattle.sj_names.proofs.names.Names.close.Given as goal

abbrev pub invariant-loop-self : goal.invariant-loop-self
invariant-loop-self l = closed_at l.first (scope_of l.self) ≡ closed_at l.first (scope_of l.initial.self)

abbrev pub decreases-loop-self : goal.decreases-loop-self
decreases-loop-self l = length l.self.visible.items
