use Rattle.std.proofs.Common.{◌≡◌, ℕ, ◌+◌, List, [], ◌∷◌, ◌++◌, ◌∙◌, length, ap, subst, sym, arith, append_assoc}
use Rattle.surf_graph.specs.Framing.{Grows, place_before, output_equations}
use Rattle.surf_graph.specs.Copying.{SpellsOut}
use Rattle.surf_graph.specs.definitions.Copies.{Emits}
use Rattle.surf_graph.specs.definitions.DomainCopies.{folded_as}
use Rattle.surf_graph.specs.definitions.Formulas.{Equation, Same}
use Rattle.surf_graph.proofs.DomainPlaces.{output_made}
use Rattle.surf_graph.proofs.domain_statuses.give_output.Goals as goal

pub returns : goal.returns
returns c s es is =
    let info = c.args.info.now in
    let old = c.args.builder.now in
    output_made old c.add_status.new.builder c.give_same.new.builder c.give_same-2.new.builder c.give_before.new.builder c.args.at (place_before info.kind c.args.place) (folded_as info info.kind s old.next c.args.at.before es) c.in_ok-folded.folded (c.in_ok-folded.ensures s es is) c.in_ok-give_same.ensures c.in_ok-give_same-2.ensures
    c.in_ok-give_before.ensures
