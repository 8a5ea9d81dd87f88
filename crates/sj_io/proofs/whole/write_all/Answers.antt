use Rattle.std.proofs.Common.{arith, ℕ, length-drop}
use Rattle.std.proofs.lemmas.List.{take_rest}
use Rattle.sj_io.proofs.Pieces.{takes_on}
use Rattle.sj_io.proofs.whole.write_all.Goals as goal

pub loop-done-preserved : goal.loop-done-preserved
loop-done-preserved g c =
    let h = c.loop-done.invariant in
    let rest = take_rest c.args.bytes.now c.loop-done.done in
    let t = rw rest at c.in-Ok.ensures.takes in
    let b = rw rest at c.in-Ok.ensures.bound in (
      takes_on (g.K.Sink.taken c.args.out.now) (g.K.Sink.taken c.loop-done.out) (g.K.Sink.taken c.write.new.self) c.args.bytes.now c.loop-done.done c.in-Ok.n h.0 t,
      omega (arith, h.1, c.in-Ok.ensures.later),
      omega (arith, b, h.2, length-drop {A = ℕ}),
    )
