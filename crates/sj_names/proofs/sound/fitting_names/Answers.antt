use Rattle.sj_names.proofs.FitTrees.{names_fit}
use Rattle.sj_names.proofs.sound.fitting_names.Goals as goal

pub returns : goal.returns
returns c = names_fit c.args.tree.now c.requires.sound
