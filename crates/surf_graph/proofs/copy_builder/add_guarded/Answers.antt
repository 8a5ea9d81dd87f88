use Rattle.std.proofs.Common.{◌∷◌, ◌++◌, [], ◌∙◌, set, ap, sym, Vec, Global}
use Rattle.std.proofs.lemmas.List.{map-set, get_or-map}
use Rattle.surf_graph.specs.declared.copy_builder.Guarded.{Guarded}
use Rattle.surf_graph.specs.Copying.{buckets}
use Rattle.surf_graph.proofs.copy_builder.add_guarded.Goals as goal

pub returns : goal.returns
returns c =
    let items = λ (v : Vec Guarded Global). v.items in
    let more : Guarded = record { condition = c.args.condition; value = c.args.value } in
    map-set items c.args.lists.now.items c.args.at c.push.new.self
    ∙ ap (set (buckets c.args.lists.now.items) c.args.at)
    (c.in_ok-push.ensures.items ∙ ap (λ (v : Vec Guarded Global). v.items ++ more ∷ []) c.index_mut.ensures.value
    ∙ ap (λ l. l ++ more ∷ []) (sym (get_or-map items c.args.lists.now.items c.args.at c.index_mut.result.now [] c.requires.within)))
