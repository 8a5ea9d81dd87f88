use Rattle.std.proofs.Common.{◌∙◌, not, get_or, refl, ap, arith}
use Rattle.sj_names.specs.declared.failure.FailureKind.TheVariants.{ChannelEnds}
use Rattle.sj_names.specs.definitions.Failures.{least_of, where_true, failure_at}
use Rattle.sj_names.specs.DomainNames.{names_in}
use Rattle.sj_names.proofs.LeastLemmas.{unjoined_next}
use Rattle.sj_names.proofs.least.Least.add_unjoined.Goals as goal

pub loop-i-preserved : goal.loop-i-preserved
loop-i-preserved c =
    unjoined_next (names_in c.args.domains.now) c.args.places.now c.loop-i.i (get_or c.args.places.now c.loop-i.i 0) 0 c.in_ok-channel.channel _ c.loop-i.self.found c.add_where.new.self.found (let t = c.loop-i-test.true in omega arith) refl c.in_ok-channel.ensures.value
    c.loop-i.invariant (c.add_where.ensures ∙ ap (λ j. least_of c.loop-i.self.found (where_true (not j) (failure_at ChannelEnds (get_or c.args.places.now c.loop-i.i 0)))) c.is_joined-joined.ensures)
