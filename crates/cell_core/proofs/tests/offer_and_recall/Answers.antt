use Rattle.std.proofs.Common.{[], ◌∷◌, refl}
use Rattle.cell_core.proofs.tests.offer_and_recall.Goals as goal

pub returns-in-Some-clause-calls : goal.returns-in-Some-clause-calls
returns-in-Some-clause-calls g c = (record { at = _; what = _; answer = _ } ∷ [], (_, c.offer-at_once.ensures.moved, refl))

pub returns-in-None-clause-calls : goal.returns-in-None-clause-calls
returns-in-None-clause-calls g c =
    (record { at = _; what = _; answer = _ } ∷ record { at = _; what = _; answer = _ } ∷ [], (_, c.offer-at_once.ensures.moved, (_, c.recall.ensures.moved, refl)))
