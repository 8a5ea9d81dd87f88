use Rattle.std.proofs.Common.{ℕ, ℤ}
use Rattle.kernel_rules.specs.definitions.Registers.{residual}
use Rattle.surf_graph.specs.definitions.DomainCopies.{domain_context, domain_of_copy}
use Rattle.surf_graph.proofs.Layouts.{told_by_layout, first_numbers}
use Rattle.depth_graph.specs.definitions.ResumingCopies.{resume}
use Rattle.depth_graph.proofs.DomainResumes.{resuming_operations}
use Rattle.depth_graph.proofs.domain_laws.resuming_codes_tell_ticks.Goals as goal

pub returns : goal.returns
returns c = λ tables inputs d ticks p f w r ops code l source waits fits fit given spells are has h.
    let old : ℕ → ℤ = λ k. w (r k) in
    told_by_layout tables inputs d ticks p (residual tables p 0 f) f w r (domain_of_copy tables d p (resume tables p (domain_context tables d))) l has
    (resuming_operations tables inputs d ticks p f old ops source waits fits fit given (first_numbers r f w ops code are h) spells)
