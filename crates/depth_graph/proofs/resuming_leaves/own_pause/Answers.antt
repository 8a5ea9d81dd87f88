use Rattle.std.proofs.Common.{◌+◌, ◌∙◌}
use Rattle.surf_graph.specs.definitions.Formulas.{Get, And, Status}
use Rattle.surf_graph.proofs.SpellingOut.{owned, one_spelled_out, more_spelled_out, equation}
use Rattle.depth_graph.specs.ResumesBuilt.{pause_own}
use Rattle.depth_graph.proofs.resuming_leaves.own_pause.Goals as goal

pub returns : goal.returns
returns c =
    let b0 = c.take_own.new.self in
    let b1 = c.give_register.new.builder in
    let b2 = c.give_and.new.builder in
    let b3 = c.give_code.new.builder in
    let b4 = c.give_and-2.new.builder in
    let n = c.in_ok-n.n in
    let s1 = one_spelled_out b0 b1 (equation n (Get c.args.given.register)) c.in_ok-give_register.ensures in
    let s2 = more_spelled_out b0 b1 b2 _ (equation (n + 1) (And c.args.given.go n)) s1 c.in_ok-give_and.ensures in
    let s3 = more_spelled_out b0 b2 b3 _ (equation (n + 2) (Status (n + 1) 0)) s2 c.in_ok-give_code.ensures in
    let s4 = more_spelled_out b0 b3 b4 _ (equation (n + 3) (And c.args.given.hold c.args.given.keep)) s3 c.in_ok-give_and-2.ensures in
    owned c.args.builder.now b0 b4 4 n (pause_own c.args.given) c.in_ok-n.ensures.first c.in_ok-n.ensures.next c.in_ok-n.ensures.below c.take_own.ensures.equations c.take_own.ensures.further
    (c.in_ok-give_and-2.ensures.next ∙ c.in_ok-give_code.ensures.next ∙ c.in_ok-give_and.ensures.next ∙ c.in_ok-give_register.ensures.next) s4
