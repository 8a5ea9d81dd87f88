use Rattle.std.proofs.Common.{ℕ, ℤ}
use Rattle.surf_graph.specs.definitions.DomainCopies.{domain_context, domain_of_copy}
use Rattle.surf_graph.specs.definitions.StartingCopies.{start}
use Rattle.surf_graph.proofs.Layouts.{told_by_layout, first_numbers}
use Rattle.surf_graph.proofs.DomainStarts.{starting_operations}
use Rattle.surf_graph.proofs.domain_laws.starting_codes_tell_ticks.Goals as goal

pub returns : goal.returns
returns c = λ tables inputs d ticks p f w r ops code l source waits fits given spells are has h.
    let old : ℕ → ℤ = λ k. w (r k) in
    told_by_layout tables inputs d ticks p p f w r (domain_of_copy tables d p (start tables p (domain_context tables d))) l has
    (starting_operations tables inputs d ticks p f old ops source waits fits given (first_numbers r f w ops code are h) spells)
