use Rattle.std.proofs.Common.{rules, ◌≡◌, length, map, replicate, get_or, [], subst, sym, ap, ◌∙◌}
use Rattle.kernel_terms.specs.Systems.{tables_of}
use Rattle.kernel_terms.specs.declared.tables.Tables.{Tables}
use Rattle.kernel_terms.specs.declared.tables.ChannelInfo.{ChannelInfo}
use Rattle.std.specs.Prelude.{All, List}
use Rattle.cell_core.specs.definitions.Cells.{empty_cell}
use Rattle.gals_core.specs.Channels.{lists_in}
use Rattle.gals_core.specs.Opening.{IsWithin, link_of, opened_history}
use Rattle.gals_core.proofs.OpenedChannels.{all_within, are_channels, are_opened}
use Rattle.gals_core.proofs.channels.Channels.open.Goals as goal

pub open_histories-requires-clause-within : goal.open_histories-requires-clause-within
open_histories-requires-clause-within c =
    let infos : c.as_slice-infos.result.now ≡ (tables_of c.args.system.now).channels = c.as_slice-infos.ensures ∙ ap (λ (t : Tables). t.channels) c.tables.ensures in
    subst (All (IsWithin (length c.args.ticks.now))) (sym infos) (all_within c.args.system.now c.args.ticks.now c.args.domains.now c.requires.domains c.requires.ticks)

pub invariant_of-result : goal.invariant_of-result
invariant_of-result c =
    let infos : c.as_slice-infos.result.now ≡ (tables_of c.args.system.now).channels = c.as_slice-infos.ensures ∙ ap (λ (t : Tables). t.channels) c.tables.ensures in
    let made : c.in_ok-made.made.items ≡ replicate (length c.args.domains.now) 0 = search rules in
    are_channels c.args.system.now c.args.ticks.now c.args.domains.now c.requires.domains c.requires.ticks
    c.in_ok-links.links.items c.in_ok-cells.cells.items c.in_ok-histories.histories.items c.in_ok-made.made.items (lists_in c.in_ok-lists.lists.items) (get_or (lists_in c.in_ok-lists.lists.items) 0 [])
    (c.in_ok-links.ensures ∙ ap (map link_of) infos)
    (c.in_ok-cells.ensures ∙ ap (λ (l : List ChannelInfo). replicate (length l) empty_cell) infos)
    (c.in_ok-histories.ensures ∙ ap (map (opened_history c.args.ticks.now)) infos)
    made
    c.in_ok-lists.ensures

pub returns : goal.returns
returns c =
    let infos : c.as_slice-infos.result.now ≡ (tables_of c.args.system.now).channels = c.as_slice-infos.ensures ∙ ap (λ (t : Tables). t.channels) c.tables.ensures in
    let made : c.in_ok-made.made.items ≡ replicate (length c.args.domains.now) 0 = search rules in
    are_opened c.args.system.now c.args.ticks.now c.args.domains.now c.requires.domains c.requires.ticks
    c.in_ok-links.links.items c.in_ok-cells.cells.items c.in_ok-histories.histories.items c.in_ok-made.made.items (lists_in c.in_ok-lists.lists.items) (get_or (lists_in c.in_ok-lists.lists.items) 0 [])
    (c.in_ok-links.ensures ∙ ap (map link_of) infos)
    (c.in_ok-cells.ensures ∙ ap (λ (l : List ChannelInfo). replicate (length l) empty_cell) infos)
    (c.in_ok-histories.ensures ∙ ap (map (opened_history c.args.ticks.now)) infos)
    made
    c.in_ok-lists.ensures
