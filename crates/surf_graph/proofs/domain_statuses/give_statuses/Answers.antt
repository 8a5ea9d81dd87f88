use Rattle.std.proofs.Common.{◌≡◌, ◌<◌, ◌+◌, ℕ, List, length, get_or, drop, arith, sym, ap, ◌∙◌, subst}
use Rattle.std.proofs.lemmas.List.{get_or_default}
use Rattle.std.proofs.lemmas.List.Elements.{All-get_or}
use Rattle.kernel_terms.specs.Statements.{Stmt}
use Rattle.kernel_terms.specs.TableEntries.{no_signal, signal_at, is_input}
use Rattle.surf_graph.specs.definitions.Copies.{Emits}
use Rattle.surf_graph.specs.definitions.DomainCopies.{all_statuses}
use Rattle.surf_graph.proofs.DomainPlaces.{HasRoom, StatusesLeft, room_start, room_more, room_for, statuses_start, status_more, statuses_end}
use Rattle.surf_graph.proofs.OwnSets.{next_is, none_left, bucket_at}
use Rattle.surf_graph.proofs.domain_statuses.give_statuses.Goals as goal

pub loop-s-init : goal.loop-s-init
loop-s-init c = (room_start c.args.wires c.args.places, λ d p es frame h. statuses_start c.args.tables.now d p es c.args.interface.now c.args.wires c.args.places c.args.builder.now frame)

pub give_status_of-requires : goal.give_status_of-requires
give_status_of-requires c =
    let r = room_for c.args.wires c.loop-s.at c.args.places c.loop-s.left c.loop-s.s-index (length c.args.interface.now) c.loop-s-test.true (c.loop-s.invariant).0 c.requires.present c.requires.value c.requires.before c.requires.inputs c.requires.values in
    let i = r.input in
    omega (arith, i)

pub next_wires-at-requires-clause-present : goal.next_wires-at-requires-clause-present
next_wires-at-requires-clause-present c =
    (room_for c.args.wires c.loop-s.at c.args.places c.loop-s.left c.loop-s.s-index (length c.args.interface.now) c.loop-s-test.true (c.loop-s.invariant).0 c.requires.present c.requires.value c.requires.before c.requires.inputs c.requires.values).present

pub next_wires-at-requires-clause-value : goal.next_wires-at-requires-clause-value
next_wires-at-requires-clause-value c =
    (room_for c.args.wires c.loop-s.at c.args.places c.loop-s.left c.loop-s.s-index (length c.args.interface.now) c.loop-s-test.true (c.loop-s.invariant).0 c.requires.present c.requires.value c.requires.before c.requires.inputs c.requires.values).value

pub next_wires-at-requires-clause-before : goal.next_wires-at-requires-clause-before
next_wires-at-requires-clause-before c =
    (room_for c.args.wires c.loop-s.at c.args.places c.loop-s.left c.loop-s.s-index (length c.args.interface.now) c.loop-s-test.true (c.loop-s.invariant).0 c.requires.present c.requires.value c.requires.before c.requires.inputs c.requires.values).before

pub next_places-left-requires-clause-input : goal.next_places-left-requires-clause-input
next_places-left-requires-clause-input c =
    (room_for c.args.wires c.loop-s.at c.args.places c.loop-s.left c.loop-s.s-index (length c.args.interface.now) c.loop-s-test.true (c.loop-s.invariant).0 c.requires.present c.requires.value c.requires.before c.requires.inputs c.requires.values).input

pub next_places-left-requires-clause-value : goal.next_places-left-requires-clause-value
next_places-left-requires-clause-value c =
    (room_for c.args.wires c.loop-s.at c.args.places c.loop-s.left c.loop-s.s-index (length c.args.interface.now) c.loop-s-test.true (c.loop-s.invariant).0 c.requires.present c.requires.value c.requires.before c.requires.inputs c.requires.values).values

pub loop-s-preserved : goal.loop-s-preserved
loop-s-preserved c =
    let t = c.args.tables.now in
    let is = c.args.interface.now in
    let i = c.loop-s.s-index in
    let s : ℕ = get_or is i 0 in
    let less : i < length is = c.loop-s-test.true in
    let info = c.index-as_slice-s.result in
    let within : s < length t.signals = All-get_or (λ k. k < length t.signals) is i 0 less c.requires.known in
    let known : info ≡ signal_at t s = c.index-as_slice-s.is ∙ ap (λ l. get_or l s info) c.as_slice.ensures ∙ get_or_default t.signals s info no_signal within in
    let buckets = c.requires.buckets in
    let split = next_is is i s less (get_or_default is i 0 s less) in
    let w = c.next_wires-at.ensures in
    let q = c.next_places-left.ensures in (
      room_more c.args.wires c.loop-s.at c.next_wires-at.result c.args.places c.loop-s.left c.next_places-left.result i _ _ (c.loop-s.invariant).0 w.present w.value w.before q.input q.value,
      λ d p es frame h.
          let old = c.args.builder.now in
          let whole = all_statuses t d p is c.args.wires.present c.args.wires.value c.args.wires.before old.next es in
          let so = subst (λ l. StatusesLeft t d p es whole l c.loop-s.at c.loop-s.left c.loop-s.others old c.loop-s.builder) split ((c.loop-s.invariant).1 d p es frame h) in
          let emitted = sym (h s) ∙ bucket_at c.args.emits.now s c.index-emits-s.result (omega (arith, within, buckets)) c.index-emits-s.is ∙ sym c.as_slice-in-loop-s.ensures.value in
          subst (λ n. StatusesLeft t d p es whole (drop (i + 1) is) c.next_wires-at.result c.next_places-left.result n old c.give_status_of.new.builder) (sym c.in_ok-others.ensures)
          (status_more t d p es whole s (drop (i + 1) is) info c.loop-s.at c.next_wires-at.result c.loop-s.left c.next_places-left.result c.loop-s.others old c.loop-s.builder c.give_status_of.new.builder known (frame.quiet s) so (c.in_ok-give_status_of.ensures s es emitted) w.present w.value w.before
          q.input q.value),
    )

pub returns : goal.returns
returns c d p es frame h =
    let t = c.args.tables.now in
    let is = c.args.interface.now in
    let old = c.args.builder.now in
    statuses_end t d p es (all_statuses t d p is c.args.wires.present c.args.wires.value c.args.wires.before old.next es) (drop c.loop-s.s-index is) c.loop-s.at c.loop-s.left c.loop-s.others old c.loop-s.builder c.take_own.new.self (none_left is c.loop-s.s-index c.loop-s-test.false)
    ((c.loop-s.invariant).1 d p es frame h) c.take_own.ensures.equations c.take_own.ensures.further c.in_ok-take_own.ensures.next
