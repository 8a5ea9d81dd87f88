use Rattle.std.proofs.Common.{◌+◌, ◌∙◌}
use Rattle.surf_graph.specs.definitions.Formulas.{Get, And, AndNot, Status, Greater}
use Rattle.surf_graph.proofs.SpellingOut.{owned, one_spelled_out, more_spelled_out, equation}
use Rattle.depth_graph.specs.ResumesBuilt.{waiting_own}
use Rattle.depth_graph.proofs.resuming_leaves.own_waiting.Goals as goal

pub returns : goal.returns
returns c =
    let b0 = c.take_own.new.self in
    let b1 = c.give_register.new.builder in
    let b2 = c.give_register-2.new.builder in
    let b3 = c.give_register-3.new.builder in
    let b4 = c.give_and.new.builder in
    let b5 = c.give_and_not.new.builder in
    let b6 = c.give_code.new.builder in
    let b7 = c.give_code-2.new.builder in
    let b8 = c.give_greater.new.builder in
    let b9 = c.give_and-2.new.builder in
    let b10 = c.give_and-3.new.builder in
    let n = c.in_ok-n.n in
    let r = c.args.given.register in
    let s1 = one_spelled_out b0 b1 (equation n (Get r)) c.in_ok-give_register.ensures in
    let s2 = more_spelled_out b0 b1 b2 _ (equation (n + 1) (Get (r + 1))) s1 c.in_ok-give_register-2.ensures in
    let s3 = more_spelled_out b0 b2 b3 _ (equation (n + 2) (Get (r + 2))) s2 c.in_ok-give_register-3.ensures in
    let s4 = more_spelled_out b0 b3 b4 _ (equation (n + 3) (And c.args.given.go n)) s3 c.in_ok-give_and.ensures in
    let s5 = more_spelled_out b0 b4 b5 _ (equation (n + 4) (AndNot (n + 3) (n + 1))) s4 c.in_ok-give_and_not.ensures in
    let s6 = more_spelled_out b0 b5 b6 _ (equation (n + 5) (Status (n + 3) 0)) s5 c.in_ok-give_code.ensures in
    let s7 = more_spelled_out b0 b6 b7 _ (equation (n + 6) (Status (n + 4) 1)) s6 c.in_ok-give_code-2.ensures in
    let s8 = more_spelled_out b0 b7 b8 _ (equation (n + 7) (Greater (n + 5) (n + 6))) s7 c.in_ok-give_greater.ensures in
    let s9 = more_spelled_out b0 b8 b9 _ (equation (n + 8) (And c.args.given.hold c.args.given.keep)) s8 c.in_ok-give_and-2.ensures in
    let s10 = more_spelled_out b0 b9 b10 _ (equation (n + 9) (And (n + 4) c.args.given.keep)) s9 c.in_ok-give_and-3.ensures in
    owned c.args.builder.now b0 b10 10 n (waiting_own c.args.given) c.in_ok-n.ensures.first c.in_ok-n.ensures.next c.in_ok-n.ensures.below c.take_own.ensures.equations c.take_own.ensures.further
    (c.in_ok-give_and-3.ensures.next ∙ c.in_ok-give_and-2.ensures.next ∙ c.in_ok-give_greater.ensures.next ∙ c.in_ok-give_code-2.ensures.next ∙ c.in_ok-give_code.ensures.next
    ∙ c.in_ok-give_and_not.ensures.next ∙ c.in_ok-give_and.ensures.next ∙ c.in_ok-give_register-3.ensures.next ∙ c.in_ok-give_register-2.ensures.next ∙ c.in_ok-give_register.ensures.next) s10
