use Rattle.std.proofs.Common.{◌<◌, List, length, get_or, sym, ◌∙◌}
use Rattle.std.proofs.lemmas.List.{get_or_default}
use Rattle.java_values.specs.declared.kind.Kind.{Kind}
use Rattle.java_values.specs.declared.kind.Kind.TheVariants.{Boolean}
use Rattle.surf_graph.specs.definitions.Copies.{Sets}
use Rattle.surf_graph.specs.Copying.{sets_of}
use Rattle.surf_graph.proofs.OwnSets.{registers_more, registers_end, none_left}
use Rattle.surf_graph.proofs.registers.add_registers.Goals as goal

pub loop-r-preserved : goal.loop-r-preserved
loop-r-preserved c =
    let ks = c.args.kinds.now in
    let r = c.loop-r.r in
    let k : Kind = get_or ks r Boolean in
    let less : r < length ks = c.loop-r-test.true in
    registers_more c.args.builder.now c.loop-r.builder c.add_register.new.builder c.args.next.now.items c.loop-r.next.items c.push.new.self.items ks c.args.sets.now r k c.index-sets-r.result c.in_ok-wire.wire less c.requires (get_or_default ks r Boolean k less) c.index-sets-r.is
    c.in_ok-wire.ensures.first (λ ss e. c.in_ok-wire.ensures.grows ss (e ∙ sym c.deref.ensures.value)) c.in_ok-push.ensures.items c.loop-r.invariant

pub returns : goal.returns
returns c = registers_end c.args.builder.now c.loop-r.builder c.args.next.now.items c.loop-r.next.items c.args.kinds.now c.args.sets.now c.loop-r.r (none_left c.args.kinds.now c.loop-r.r c.loop-r-test.false) c.loop-r.invariant
