use Rattle.kernel_terms.specs.Limits.{most_traps}
use Rattle.sj_names.specs.definitions.DeclaredTables.{tables_of_tree}
use Rattle.sj_names.specs.definitions.NumberedTrees.{numbered_tree}
use Rattle.sj_names.proofs.BindLemmas.{numbers_kept, tables_kept, domain_kept, traps_kept, declared_kept}
use Rattle.sj_names.proofs.bind_tree.bind.Goals as goal

pub invariant_of-result : goal.invariant_of-result
invariant_of-result c =
    let u = tables_of_tree c.args.tree.now in
    let y = numbered_tree c.args.tree.now in
    record {
      fitting = numbers_kept c.in_ok-tables.tables u c.in_ok-tree.tree y c.in_ok-tables.ensures c.in_ok-tree.ensures c.fitting_names.ensures;
      sound = tables_kept c.in_ok-tables.tables u c.in_ok-tree.tree y c.in_ok-tables.ensures c.in_ok-tree.ensures c.numbered_trees_are_sound.ensures.tables;
      some = domain_kept c.in_ok-tree.tree y c.in_ok-tree.ensures c.numbered_trees_are_sound.ensures.some;
      traps = traps_kept most_traps c.in_ok-tree.tree y c.in_ok-tree.ensures c.numbered_trees_are_sound.ensures.traps;
      declared = declared_kept c.in_ok-tables.tables u c.in_ok-tree.tree y c.in_ok-tables.ensures c.in_ok-tree.ensures c.numbered_trees_are_sound.ensures.declared;
    }
