use Rattle.std.proofs.Common.{ℕ, ◌≤◌, length, ap, sym, ◌∙◌, subst}
use Rattle.kernel_terms.specs.Limits.{most_traps}
use Rattle.kernel_terms.specs.declared.tables.Tables.{Tables}
use Rattle.sj_names.specs.definitions.DeclaredSignals.{AreDeclared}
use Rattle.sj_names.specs.definitions.FittingTrees.{fits_tree}
use Rattle.sj_names.specs.definitions.SoundTables.{AreSoundTables}
use Rattle.java_types.specs.definitions.FittingKinds.{kind_rules}
use Rattle.java_types.proofs.FittingForms.{tree_kept}
use Rattle.java_types.proofs.TypedTraps.{as_many_domains, traps_as_deep}
use Rattle.java_types.proofs.TypedSignals.{still_declared, combined}
use Rattle.java_types.proofs.laws.kept_facts.Goals as goal

pub returns-clause-fitting : goal.returns-clause-fitting
returns-clause-fitting c =
    ap (λ (t : Tables). fits_tree t (kind_rules t) c.args.tree.now) c.requires.tables
    ∙ tree_kept c.args.bound.now.tables c.args.bound.now.tree c.args.tree.now c.args.bound.now.fitting c.requires.tree

pub returns-clause-sound : goal.returns-clause-sound
returns-clause-sound c =
    subst (λ t. AreSoundTables t (length c.args.tree.now.domains)) (sym c.requires.tables)
    (subst (AreSoundTables c.args.bound.now.tables) (sym (as_many_domains c.args.bound.now.tables c.args.bound.now.tree c.args.tree.now c.requires.tree)) c.args.bound.now.sound)

pub returns-clause-some : goal.returns-clause-some
returns-clause-some c = subst (λ (n : ℕ). 1 ≤ n) (sym (as_many_domains c.args.bound.now.tables c.args.bound.now.tree c.args.tree.now c.requires.tree)) c.args.bound.now.some

pub returns-clause-traps : goal.returns-clause-traps
returns-clause-traps c = traps_as_deep c.args.bound.now.tables most_traps c.args.bound.now.tree c.args.tree.now c.requires.tree ∙ c.args.bound.now.traps

pub returns-clause-declared : goal.returns-clause-declared
returns-clause-declared c =
    still_declared c.args.bound.now.tables c.args.tables.now c.args.bound.now.tree c.args.tree.now c.requires.tree
    (subst (λ t. AreDeclared t c.args.bound.now.tree) (sym c.requires.tables) c.args.bound.now.declared)

pub returns-clause-combined : goal.returns-clause-combined
returns-clause-combined c =
    combined c.args.bound.now.tables c.args.tables.now c.args.bound.now.tree c.args.tree.now c.requires.tree
    (subst (λ t. AreDeclared t c.args.bound.now.tree) (sym c.requires.tables) c.args.bound.now.declared)
