use Rattle.std.proofs.Common.{arith, ap, ◌∙◌, get_or}
use Rattle.kernel_terms.specs.Systems.{tables_of}
use Rattle.tick_log.proofs.LineTexts.{channels_more, channel_within}
use Rattle.tick_log.proofs.text.put_channels.Goals as goal

pub loop-i-preserved : goal.loop-i-preserved
loop-i-preserved g c =
    let less = channel_within c.args.system.now c.args.run.now c.loop-i.i c.requires (omega arith) in
    let history = c.history-item.is ∙ ap (λ l. get_or l c.loop-i.i c.history-item.result) c.deref-history-items.ensures.value in
    let info = c.index-channels-i.is ∙ ap (λ l. get_or l c.loop-i.i c.index-channels-i.result) c.as_slice-channels.ensures ∙ ap (λ t. get_or t.channels c.loop-i.i c.index-channels-i.result) c.tables.ensures in
    channels_more _ _ _ (tables_of c.args.system.now) c.args.run.now.channels.items c.loop-i.i c.history-item.result c.index-channels-i.result _ (omega arith) history less info c.loop-i.invariant c.put_channel.ensures
