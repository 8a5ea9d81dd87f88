use Rattle.sj_names.proofs.SoundLemmas.{signals_have_domains, interface_first, channels_join_domains, variables_have_domains}
use Rattle.sj_names.proofs.SoundLimits.{within_limits}
use Rattle.sj_names.proofs.sound.sound_tables.Goals as goal

pub returns-clause-limits : goal.returns-clause-limits
returns-clause-limits c = within_limits c.args.tree.now c.requires.sound

pub returns-clause-signals : goal.returns-clause-signals
returns-clause-signals c = signals_have_domains c.args.tree.now c.requires.some

pub returns-clause-order : goal.returns-clause-order
returns-clause-order c = interface_first c.args.tree.now

pub returns-clause-channels : goal.returns-clause-channels
returns-clause-channels c = channels_join_domains c.args.tree.now c.requires.sound c.requires.some

pub returns-clause-variables : goal.returns-clause-variables
returns-clause-variables c = variables_have_domains c.args.tree.now
