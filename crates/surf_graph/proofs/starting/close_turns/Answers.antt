use Rattle.std.proofs.Common.{◌≡◌, ◌+◌, ◌-◌, ◌<◌, length, drop, get_or, subst, arith}
use Rattle.std.proofs.lemmas.List.{get_or_default}
use Rattle.surf_graph.specs.declared.copy_builder.Turn.{Turn}
use Rattle.surf_graph.specs.StartsBuilt.{Closes}
use Rattle.surf_graph.proofs.SequenceStarts.{closes_more}
use Rattle.surf_graph.proofs.starting.close_turns.Goals as goal

pub loop-i-preserved : goal.loop-i-preserved
loop-i-preserved c =
    let ts = c.args.turns.now in
    let i = c.loop-i.i - 1 in
    let other : Turn = record { own = 0; status = 0 } in
    let within : i < length ts = omega arith in
    let next : c.loop-i.i ≡ i + 1 = omega arith in
    closes_more c.args.builder.now c.loop-i.builder c.give_greater.new.builder ts i c.args.last c.loop-i.status (get_or ts i other) within (get_or_default ts i other (get_or ts i other) within)
    (subst (λ k. Closes c.args.builder.now c.loop-i.builder (drop k ts) c.args.last c.loop-i.status) next c.loop-i.invariant) c.in_ok-give_greater.ensures
