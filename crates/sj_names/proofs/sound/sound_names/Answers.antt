use Rattle.sj_names.proofs.SoundLemmas.{names_sound}
use Rattle.sj_names.proofs.sound.sound_names.Goals as goal

pub returns : goal.returns
returns c = names_sound c.args.tree.now c.requires.sound
