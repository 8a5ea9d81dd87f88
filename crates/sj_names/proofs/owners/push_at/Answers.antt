use Rattle.std.proofs.Common.{◌∷◌, ◌++◌, [], ◌∙◌, set, ap, sym}
use Rattle.std.proofs.lemmas.List.{map-set, get_or-map}
use Rattle.sj_names.specs.Places.{place_lists}
use Rattle.sj_names.proofs.OwnedLemmas.{below_lists}
use Rattle.sj_names.proofs.owners.push_at.Goals as goal

pub returns : goal.returns
returns c =
    map-set (λ places. places.items) c.args.lists.now.items c.args.index c.push.new.self
    ∙ ap (set (place_lists c.args.lists.now.items) c.args.index)
    (c.in_ok-push.ensures.items ∙ ap (λ v. v.items ++ c.args.at ∷ []) c.index_mut.ensures.value
    ∙ ap (λ l. l ++ c.args.at ∷ []) (sym (get_or-map (λ places. places.items) c.args.lists.now.items c.args.index c.index_mut.result.now [] (below_lists c.args.lists.now.items c.args.index c.requires))))
