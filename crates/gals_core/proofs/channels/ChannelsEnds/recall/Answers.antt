use Rattle.std.proofs.Common.{subst, sym, get_or, length, [], ◌<◌}
use Rattle.gals_core.specs.Channels.{ChannelsState, lists_in}
use Rattle.gals_core.proofs.OwnCalls.{recall_moves, recall_own, recall_keeps, recall_joined}
use Rattle.gals_core.proofs.channels.ChannelsEnds.recall.Goals as goal

pub invariant_of-self : goal.invariant_of-self
invariant_of-self c =
    let i = c.self.inside in
    let b : ChannelsState = record { links = i.links.items; cells = i.cells.items; histories = i.histories.items; ticks = i.ticks.items; lists = lists_in i.lists.items; ends = get_or (lists_in i.lists.items) i.turn [] } in
    let within = subst (λ (z : ChannelsState). c.args.at < length z.ends) (sym c.self.view_is) c.requires.end in
    recall_keeps c.args.self.now b (sym c.self.view_is) c.self.invariant (c.self.invariant.ends_fit i.turn) c.args.at within c.own_end-end.result c.own_end-end.ensures c.recall_at.result c.recall_at.new.cells.items c.recall_at.ensures.cells c.recall_at.ensures.reply

pub returns-clause-moved : goal.returns-clause-moved
returns-clause-moved c =
    let i = c.self.inside in
    let b : ChannelsState = record { links = i.links.items; cells = i.cells.items; histories = i.histories.items; ticks = i.ticks.items; lists = lists_in i.lists.items; ends = get_or (lists_in i.lists.items) i.turn [] } in
    let within = subst (λ (z : ChannelsState). c.args.at < length z.ends) (sym c.self.view_is) c.requires.end in
    recall_moves c.args.self.now b (sym c.self.view_is) c.self.invariant (c.self.invariant.ends_fit i.turn) c.args.at within c.own_end-end.result c.own_end-end.ensures c.recall_at.result c.recall_at.new.cells.items c.recall_at.ensures.cells c.recall_at.ensures.reply

pub returns-clause-own : goal.returns-clause-own
returns-clause-own c =
    let i = c.self.inside in
    let b : ChannelsState = record { links = i.links.items; cells = i.cells.items; histories = i.histories.items; ticks = i.ticks.items; lists = lists_in i.lists.items; ends = get_or (lists_in i.lists.items) i.turn [] } in
    let within = subst (λ (z : ChannelsState). c.args.at < length z.ends) (sym c.self.view_is) c.requires.end in
    recall_own c.args.self.now b (sym c.self.view_is) c.self.invariant (c.self.invariant.ends_fit i.turn) c.args.at within c.own_end-end.result c.own_end-end.ensures c.recall_at.result c.recall_at.new.cells.items c.recall_at.ensures.cells c.recall_at.ensures.reply

pub returns-clause-joined : goal.returns-clause-joined
returns-clause-joined c =
    let i = c.self.inside in
    let b : ChannelsState = record { links = i.links.items; cells = i.cells.items; histories = i.histories.items; ticks = i.ticks.items; lists = lists_in i.lists.items; ends = get_or (lists_in i.lists.items) i.turn [] } in
    let within = subst (λ (z : ChannelsState). c.args.at < length z.ends) (sym c.self.view_is) c.requires.end in
    recall_joined c.args.self.now b (sym c.self.view_is) c.self.invariant (c.self.invariant.ends_fit i.turn) c.args.at within c.own_end-end.result c.own_end-end.ensures c.recall_at.result c.recall_at.ensures.reply
