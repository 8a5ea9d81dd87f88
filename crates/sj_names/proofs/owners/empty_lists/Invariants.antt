use Rattle.sj_names.specs.Places.{place_lists, AreEmpty}
use Rattle.sj_names.proofs.owners.empty_lists.Given as goal

abbrev pub invariant-loop-made : goal.invariant-loop-made
invariant-loop-made l = AreEmpty (place_lists l.lists.items) l.made
