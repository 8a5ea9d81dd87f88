use Rattle.std.proofs.Common.{sym, ◌∙◌}
use Rattle.sj_main.proofs.ReadTurns.{list_last, list_more, list_other}
use Rattle.sj_main.proofs.commands.first_listed.Goals as goal

pub returns-then-is_empty : goal.returns-then-is_empty
returns-then-is_empty c = list_last c.args.word.now c.in_ok-turn.turn.rest.now c.in_ok-turn.turn.domain c.in_ok-turn.ensures (sym c.is_empty.ensures ∙ c.if-is_empty.true)

pub returns-in_default : goal.returns-in_default
returns-in_default c = list_other c.args.word.now c.in_ok-turn.turn.rest.now c.in_ok-turn.turn.domain c.in_ok-turn.ensures (sym c.is_empty.ensures ∙ c.if-is_empty.false) c.in_default.ensures

pub returns : goal.returns
returns c = list_more c.args.word.now c.in_ok-turn.turn.rest.now c.in-Some.after.now c.in_ok-turn.turn.domain c.in_ok-turn.ensures c.in-Some.ensures
