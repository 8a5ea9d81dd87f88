use Rattle.sj_names.proofs.SoundNames.{names_of_tables}
use Rattle.sj_names.proofs.sound.sound_interface.Goals as goal

pub returns : goal.returns
returns c = names_of_tables c.args.tree.now c.requires.sound c.requires.named
