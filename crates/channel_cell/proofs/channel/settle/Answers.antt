use Rattle.std.proofs.Common.{subst}
use Rattle.channel_cell.specs.definitions.Channels.{EndState, Settles}
use Rattle.channel_cell.proofs.LastRecallLemmas.{settles}
use Rattle.channel_cell.proofs.channel.settle.Goals as goal

pub returns : goal.returns
returns c =
    let e = c.last_recalls-last.ensures in
    let r = c.last_recalls-last.result in
    subst (λ (p : EndState × EndState). Settles p.0 p.1 r.sender r.receiver r.joins) (λ i. (c.sender.view_is i, c.receiver.view_is i))
    (settles c.sender.inside.end c.receiver.inside.end r.sender r.receiver r.joins e.sender_offer e.receiver_offer e.last e.joins e.sent e.received)
