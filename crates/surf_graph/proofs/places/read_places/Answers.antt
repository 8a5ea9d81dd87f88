use Rattle.surf_graph.proofs.OwnSets.{places_more, places_end}
use Rattle.surf_graph.proofs.places.read_places.Goals as goal

pub loop-i-preserved : goal.loop-i-preserved
loop-i-preserved c = places_more c.args.builder.now c.loop-i.builder c.give_place.new.builder c.args.wire c.args.place c.args.count c.loop-i.i c.loop-i-test.true c.loop-i.invariant c.in_ok-give_place.ensures

pub returns : goal.returns
returns c = places_end c.args.builder.now c.loop-i.builder c.args.wire c.args.place c.args.count c.loop-i.i c.loop-i-test.false c.loop-i.invariant
