use Rattle.std.proofs.Common.{◌+◌, ◌*◌, ◌<◌, ◌≤◌, arith, subst}
use Rattle.std.proofs.lemmas.Bool.{leb-true, leb-false}
use Rattle.cell_core.specs.declared.moves.Side.TheVariants.{Sender}
use Rattle.channel_cell.specs.Calls.{held}
use Rattle.channel_cell.proofs.NextMoveLemmas.{small}
use Rattle.channel_cell.proofs.BothSeatsLemmas.{may_recall_sender, recalled_sender}
use Rattle.channel_cell.proofs.joined.recall_sender.Goals as goal

pub overflow_mul-goal : goal.overflow_mul-goal
overflow_mul-goal c = omega (arith, (small (held Sender c.args.seat.now.me).moves).joins, c.requires.joins, c.requires.room)

pub overflow_add-goal : goal.overflow_add-goal
overflow_add-goal c = omega (arith, (small (held Sender c.args.seat.now.me).moves).joins, c.requires.joins, c.requires.room)

pub fetch_add-found-requires : goal.fetch_add-found-requires
fetch_add-found-requires c =
    let q = c.requires in
    (q.joined.sits, omega (arith, q.joined.word), may_recall_sender q.joined _ _ _ q.up q.room c.lowered-step.ensures)

pub returns-clause-moved : goal.returns-clause-moved
returns-clause-moved c =
    let w = c.other_counter.ensures in
    recalled_sender c.requires.joined c.fetch_add-found.result c.args.joins _ c.requires.joins c.fetch_add-found.ensures.2 (λ t. subst (λ x. 2 * c.args.joins + 1 ≤ x) w (leb-true _ _ t)) (λ f. subst (λ x. x < 2 * c.args.joins + 1) w (leb-false _ _ f))
