use Rattle.std.proofs.Common.{◌≡◌, subst, sym, get_or, set, length, [], ◌<◌, w64}
use Rattle.std.proofs.lemmas.Int.{to_z-of_z}
use Rattle.cell_core.specs.declared.moves.CellMove.TheVariants as moves
use Rattle.cell_core.specs.definitions.Cells.{cell_step, cell_reply, empty_cell}
use Rattle.gals_core.specs.Channels.{ChannelsState, lists_in}
use Rattle.gals_core.proofs.OwnCalls.{offer_moves, offer_own, offer_keeps, offer_joined, offer_left}
use Rattle.gals_core.proofs.channels.ChannelsEnds.offer.Goals as goal

pub invariant_of-self : goal.invariant_of-self
invariant_of-self c =
    let i = c.self.inside in
    let b : ChannelsState = record { links = i.links.items; cells = i.cells.items; histories = i.histories.items; ticks = i.ticks.items; lists = lists_in i.lists.items; ends = get_or (lists_in i.lists.items) i.turn [] } in
    let within = subst (λ (z : ChannelsState). c.args.at < length z.ends) (sym c.self.view_is) c.requires.end in
    let e = c.own_end-end.result in
    let here = get_or i.cells.items e.channel empty_cell in
    let q = to_z-of_z w64 c.args.value c.ranges.value in
    let cells = subst (λ v. c.offer_at-reply.new.cells.items ≡ set i.cells.items e.channel (cell_step (moves.Offer e.side v c.args.stamp) here)) q c.offer_at-reply.ensures.cells in
    let reply = subst (λ v. c.offer_at-reply.result ≡ cell_reply (moves.Offer e.side v c.args.stamp) here) q c.offer_at-reply.ensures.reply in
    offer_keeps c.args.self.now b (sym c.self.view_is) c.self.invariant (c.self.invariant.ends_fit i.turn) c.args.at within e c.own_end-end.ensures c.offer_at-reply.result c.args.value c.args.stamp c.offer_at-reply.new.cells.items
    c.add_reply.new.histories.items c.requires.room c.requires.stamp c.requires.value cells reply c.add_reply.ensures

pub returns-clause-moved : goal.returns-clause-moved
returns-clause-moved c =
    let i = c.self.inside in
    let b : ChannelsState = record { links = i.links.items; cells = i.cells.items; histories = i.histories.items; ticks = i.ticks.items; lists = lists_in i.lists.items; ends = get_or (lists_in i.lists.items) i.turn [] } in
    let within = subst (λ (z : ChannelsState). c.args.at < length z.ends) (sym c.self.view_is) c.requires.end in
    let e = c.own_end-end.result in
    let here = get_or i.cells.items e.channel empty_cell in
    let q = to_z-of_z w64 c.args.value c.ranges.value in
    let cells = subst (λ v. c.offer_at-reply.new.cells.items ≡ set i.cells.items e.channel (cell_step (moves.Offer e.side v c.args.stamp) here)) q c.offer_at-reply.ensures.cells in
    let reply = subst (λ v. c.offer_at-reply.result ≡ cell_reply (moves.Offer e.side v c.args.stamp) here) q c.offer_at-reply.ensures.reply in
    offer_moves c.args.self.now b (sym c.self.view_is) c.self.invariant (c.self.invariant.ends_fit i.turn) c.args.at within e c.own_end-end.ensures c.offer_at-reply.result c.args.value c.args.stamp c.offer_at-reply.new.cells.items
    c.add_reply.new.histories.items c.requires.room c.requires.stamp c.requires.value cells reply c.add_reply.ensures

pub returns-clause-own : goal.returns-clause-own
returns-clause-own c =
    let i = c.self.inside in
    let b : ChannelsState = record { links = i.links.items; cells = i.cells.items; histories = i.histories.items; ticks = i.ticks.items; lists = lists_in i.lists.items; ends = get_or (lists_in i.lists.items) i.turn [] } in
    let within = subst (λ (z : ChannelsState). c.args.at < length z.ends) (sym c.self.view_is) c.requires.end in
    let e = c.own_end-end.result in
    let here = get_or i.cells.items e.channel empty_cell in
    let q = to_z-of_z w64 c.args.value c.ranges.value in
    let cells = subst (λ v. c.offer_at-reply.new.cells.items ≡ set i.cells.items e.channel (cell_step (moves.Offer e.side v c.args.stamp) here)) q c.offer_at-reply.ensures.cells in
    let reply = subst (λ v. c.offer_at-reply.result ≡ cell_reply (moves.Offer e.side v c.args.stamp) here) q c.offer_at-reply.ensures.reply in
    offer_own c.args.self.now b (sym c.self.view_is) c.self.invariant (c.self.invariant.ends_fit i.turn) c.args.at within e c.own_end-end.ensures c.offer_at-reply.result c.args.value c.args.stamp c.offer_at-reply.new.cells.items
    c.add_reply.new.histories.items c.requires.room c.requires.stamp c.requires.value cells reply c.add_reply.ensures

pub returns-clause-joined : goal.returns-clause-joined
returns-clause-joined c =
    let i = c.self.inside in
    let b : ChannelsState = record { links = i.links.items; cells = i.cells.items; histories = i.histories.items; ticks = i.ticks.items; lists = lists_in i.lists.items; ends = get_or (lists_in i.lists.items) i.turn [] } in
    let within = subst (λ (z : ChannelsState). c.args.at < length z.ends) (sym c.self.view_is) c.requires.end in
    let e = c.own_end-end.result in
    let here = get_or i.cells.items e.channel empty_cell in
    let q = to_z-of_z w64 c.args.value c.ranges.value in
    let cells = subst (λ v. c.offer_at-reply.new.cells.items ≡ set i.cells.items e.channel (cell_step (moves.Offer e.side v c.args.stamp) here)) q c.offer_at-reply.ensures.cells in
    let reply = subst (λ v. c.offer_at-reply.result ≡ cell_reply (moves.Offer e.side v c.args.stamp) here) q c.offer_at-reply.ensures.reply in
    offer_joined c.args.self.now b (sym c.self.view_is) c.self.invariant (c.self.invariant.ends_fit i.turn) c.args.at within e c.own_end-end.ensures c.offer_at-reply.result c.args.value c.args.stamp c.offer_at-reply.new.cells.items
    c.add_reply.new.histories.items c.requires.room c.requires.stamp c.requires.value cells reply c.add_reply.ensures

pub returns-clause-stands : goal.returns-clause-stands
returns-clause-stands c =
    let i = c.self.inside in
    let b : ChannelsState = record { links = i.links.items; cells = i.cells.items; histories = i.histories.items; ticks = i.ticks.items; lists = lists_in i.lists.items; ends = get_or (lists_in i.lists.items) i.turn [] } in
    let within = subst (λ (z : ChannelsState). c.args.at < length z.ends) (sym c.self.view_is) c.requires.end in
    let e = c.own_end-end.result in
    let here = get_or i.cells.items e.channel empty_cell in
    let q = to_z-of_z w64 c.args.value c.ranges.value in
    let cells = subst (λ v. c.offer_at-reply.new.cells.items ≡ set i.cells.items e.channel (cell_step (moves.Offer e.side v c.args.stamp) here)) q c.offer_at-reply.ensures.cells in
    let reply = subst (λ v. c.offer_at-reply.result ≡ cell_reply (moves.Offer e.side v c.args.stamp) here) q c.offer_at-reply.ensures.reply in
    offer_left c.args.self.now b (sym c.self.view_is) c.self.invariant (c.self.invariant.ends_fit i.turn) c.args.at within e c.own_end-end.ensures c.offer_at-reply.result c.args.value c.args.stamp c.offer_at-reply.new.cells.items
    c.add_reply.new.histories.items c.requires.room c.requires.stamp c.requires.value cells reply c.add_reply.ensures
