use Rattle.std.proofs.Common.{◌≤◌, ◌∙◌, sym, subst}
use Rattle.kernel_terms.specs.Limits.{most_traps}
use Rattle.sj_names.specs.definitions.DeclaredTables.{tables_of_tree}
use Rattle.sj_names.specs.definitions.SoundTables.{AreSoundTables}
use Rattle.sj_names.proofs.DeclaredSignalLemmas.{tables_are_declared}
use Rattle.sj_names.proofs.TrapLemmas.{as_many_domains, traps_as_deep}
use Rattle.sj_names.proofs.sound.numbered_trees_are_sound.Goals as goal

pub returns-clause-tables : goal.returns-clause-tables
returns-clause-tables c =
    subst (AreSoundTables (tables_of_tree c.args.tree.now)) (sym (as_many_domains c.args.tree.now)) (record {
      names = c.sound_interface.ensures;
      limits = c.sound_tables.ensures.limits;
      signals = c.sound_tables.ensures.signals;
      order = c.sound_tables.ensures.order;
      channels = c.sound_tables.ensures.channels;
      variables = c.sound_tables.ensures.variables;
    })

pub returns-clause-some : goal.returns-clause-some
returns-clause-some c = subst (λ n. 1 ≤ n) (sym (as_many_domains c.args.tree.now)) c.requires.some

pub returns-clause-traps : goal.returns-clause-traps
returns-clause-traps c = traps_as_deep most_traps c.args.tree.now ∙ c.requires.traps

pub returns-clause-declared : goal.returns-clause-declared
returns-clause-declared c = tables_are_declared c.args.tree.now c.requires.sound
