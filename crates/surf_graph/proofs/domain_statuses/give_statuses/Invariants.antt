use Rattle.std.proofs.Common.{◌≡◌, ◌+◌, ◌*◌, ◌≤◌, ℕ, List, drop}
use Rattle.kernel_terms.specs.Statements.{Stmt}
use Rattle.surf_graph.specs.Copying.{bucket, emits_of}
use Rattle.surf_graph.specs.Framing.{IsFrame}
use Rattle.surf_graph.specs.definitions.Copies.{Emits}
use Rattle.surf_graph.specs.definitions.DomainCopies.{all_statuses}
use Rattle.surf_graph.proofs.DomainPlaces.{StatusesLeft, WithinRoom}
use Rattle.surf_graph.proofs.domain_statuses.give_statuses.Given as goal

abbrev pub invariant-loop-s : goal.invariant-loop-s
invariant-loop-s l =
    WithinRoom l.fn.wires l.at l.fn.places l.left l.s-index
    × ((d : ℕ) (p : Stmt) (es : List Emits) → IsFrame l.tables d p l.interface l.fn.places es → ((s : ℕ) → bucket l.emits s ≡ emits_of s es)
    → StatusesLeft l.tables d p es (all_statuses l.tables d p l.interface l.fn.wires.present l.fn.wires.value l.fn.wires.before l.fn.builder.next es) (drop l.s-index l.interface) l.at l.left l.others l.fn.builder l.builder)
