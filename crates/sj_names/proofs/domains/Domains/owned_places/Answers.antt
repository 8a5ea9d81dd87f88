use Rattle.std.proofs.Common.{arith}
use Rattle.sj_names.specs.DomainNames.{names_in}
use Rattle.sj_names.specs.Places.{place_lists}
use Rattle.sj_names.proofs.OwnedLemmas.{owned_more}
use Rattle.sj_names.proofs.domains.Domains.owned_places.Goals as goal

pub loop-i-preserved : goal.loop-i-preserved
loop-i-preserved c =
    owned_more (names_in c.args.self.now) c.args.places.now c.loop-i.i 0 c.owner-owner.result c.in_ok-number_at.field-0 (place_lists c.loop-i.lists.items) (place_lists c.add_place.new.lists.items) (let t = c.loop-i-test.true in omega arith)
    c.in_ok-number_at.ensures.value c.owner-owner.ensures c.in_ok-add_place.ensures c.loop-i.invariant
