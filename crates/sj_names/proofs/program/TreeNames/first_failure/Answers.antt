use Rattle.std.proofs.Common.{◌≡◌, List, [], None, ◌∙◌, ap}
use Rattle.std.specs.List.{flat_map}
use Rattle.kernel_terms.specs.Limits.{most_domains, most_channels}
use Rattle.sj_names.specs.declared.mention.Group.TheVariants as group
use Rattle.sj_names.specs.declared.mention.Mention.{Mention}
use Rattle.sj_names.specs.definitions.Failures.{is_in, least_of, own_failures, shared_failures, end_failures, unjoined_failures, places_of, too_many, domain_limit_failures, failures_of}
use Rattle.sj_names.specs.definitions.ReadNames.{tree_names_of}
use Rattle.sj_names.specs.FirstDomains.{lists}
use Rattle.sj_names.specs.DomainNames.{names_in}
use Rattle.sj_names.proofs.LeastLemmas.{least_of_parts}
use Rattle.sj_names.proofs.OrderLemmas.{least_is}
use Rattle.sj_names.proofs.program.TreeNames.first_failure.Goals as goal

pub returns-clause-value : goal.returns-clause-value
returns-clause-value c =
    let ports : List Mention = c.args.self.now.ports.items in
    let names : List (List Mention) = lists c.args.self.now.domains.items in
    let are : names_in c.in_ok-domains.domains ≡ names = c.in_ok-domains.ensures ∙ ap lists c.deref.ensures.value in
    let signals = c.deref-8.ensures.value ∙ c.in_ok-signals.ensures ∙ ap (places_of (is_in group.PortSignal)) c.deref-2.ensures.value in
    let channels = c.in_ok-channels.ensures ∙ ap (places_of (is_in group.Channel)) c.deref-3.ensures.value in
    let signal_places = places_of (is_in group.PortSignal) ports in
    let channel_places = places_of (is_in group.Channel) ports in
    least_of_parts None c.add_names.new.self.found c.add_domain_names.new.self.found c.add_shared.new.self.found c.add_second_ends.new.self.found c.add_unjoined.new.self.found c.add_too_many.new.self.found c.add_too_many-2.new.self.found c.add_limits.new.self.found
    (flat_map own_failures ports) (flat_map (flat_map own_failures) names) (shared_failures [] names) (end_failures [] names) (unjoined_failures names 0 channel_places) (too_many most_domains c.args.self.now.places.items) (too_many most_channels channel_places)
    (domain_limit_failures names signal_places 0 names)
    (c.add_names.ensures ∙ ap (λ l. least_of None (flat_map own_failures l)) c.deref-4.ensures.value)
    (c.add_domain_names.ensures ∙ ap (λ l. least_of c.add_names.new.self.found (flat_map (flat_map own_failures) l)) are)
    (c.add_shared.ensures ∙ ap (λ l. least_of c.add_domain_names.new.self.found (shared_failures [] l)) are)
    (c.in_ok-add_second_ends.ensures ∙ ap (λ l. least_of c.add_shared.new.self.found (end_failures [] l)) are)
    (c.in_ok-add_unjoined.ensures ∙ ap (λ l. least_of c.add_second_ends.new.self.found (unjoined_failures l 0 c.deref-5.result.now)) are ∙ ap (λ l. least_of c.add_second_ends.new.self.found (unjoined_failures names 0 l)) (c.deref-5.ensures.value ∙ channels))
    (c.add_too_many.ensures ∙ ap (λ l. least_of c.add_unjoined.new.self.found (too_many most_domains l)) c.deref-6.ensures.value) (c.add_too_many-2.ensures ∙ ap (λ l. least_of c.add_too_many.new.self.found (too_many most_channels l)) (c.deref-7.ensures.value ∙ channels))
    (c.in_ok-add_limits.ensures ∙ ap (λ l. least_of c.add_too_many-2.new.self.found (domain_limit_failures l c.deref-8.result.now 0 l)) are ∙ ap (λ l. least_of c.add_too_many-2.new.self.found (domain_limit_failures names l 0 names)) signals)

pub returns-clause-least : goal.returns-clause-least
returns-clause-least c = least_is (failures_of (tree_names_of c.args.self.now)) c.add_limits.new.self.found (returns-clause-value c)
