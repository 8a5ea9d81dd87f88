use Rattle.surf_graph.proofs.SpelledAmong.{spelled_in_front, spelled_behind, spelled_in_any_order}
use Rattle.surf_graph.proofs.spelling.equations_stay_spelled.Goals as goal

pub returns-clause-in_front : goal.returns-clause-in_front
returns-clause-in_front c = spelled_in_front

pub returns-clause-behind : goal.returns-clause-behind
returns-clause-behind c = spelled_behind

pub returns-clause-any_order : goal.returns-clause-any_order
returns-clause-any_order c = spelled_in_any_order
