use Rattle.cell_core.proofs.HistoryLemmas.{history-by_place, by_place-history}
use Rattle.cell_core.proofs.laws.histories_by_place.Goals as goal

pub returns : goal.returns
returns c = λ sender receiver. (by_place-history sender receiver, history-by_place sender receiver)
