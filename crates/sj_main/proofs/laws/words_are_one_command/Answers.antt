use Rattle.sj_main.proofs.ReadTurns.{command_once}
use Rattle.sj_main.proofs.laws.words_are_one_command.Goals as goal

pub returns : goal.returns
returns c = command_once
