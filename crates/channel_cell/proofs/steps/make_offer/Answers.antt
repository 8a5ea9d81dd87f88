use Rattle.std.proofs.Common.{arith, sym, ◌∙◌}
use Rattle.std.proofs.lemmas.Bool.{eqb-true, eqb-false}
use Rattle.channel_cell.proofs.OneSeatLemmas.{bounds, may_offer, offered, moved}
use Rattle.channel_cell.proofs.steps.make_offer.Goals as goal

pub overflow_mul-goal : goal.overflow_mul-goal
overflow_mul-goal c = omega (arith, (bounds c.args.seat.now.me _ _ c.requires.joins c.requires.counter c.requires.room).0)

pub overflow_add-goal : goal.overflow_add-goal
overflow_add-goal c = omega (arith, (bounds c.args.seat.now.me _ _ c.requires.joins c.requires.counter c.requires.room).0)

pub overflow_sub-goal : goal.overflow_sub-goal
overflow_sub-goal c = (bounds c.args.seat.now.me _ _ c.requires.joins c.requires.counter c.requires.room).1

pub raised-step-requires : goal.raised-step-requires
raised-step-requires c = omega (arith, (bounds c.args.seat.now.me _ _ c.requires.joins c.requires.counter c.requires.room).0)

pub fetch_add-found-requires : goal.fetch_add-found-requires
fetch_add-found-requires c =
    let q = c.requires in
    (q.seated.sits, omega (arith, q.seated.word), may_offer q.seated _ _ _ c.args.joins c.args.counter _ q.joins q.counter q.down q.fits q.room c.raised-step.ensures (omega (arith, (bounds c.args.seat.now.me _ _ q.joins q.counter q.room).1)))

pub returns-clause-moved : goal.returns-clause-moved
returns-clause-moved c =
    let w = c.other_counter.ensures in
    moved _ (offered c.requires.seated c.fetch_add-found.result c.args.joins c.requires.joins c.fetch_add-found.ensures.2) (λ t. sym w ∙ eqb-true _ _ t) (λ f e. eqb-false _ _ f (w ∙ e))
