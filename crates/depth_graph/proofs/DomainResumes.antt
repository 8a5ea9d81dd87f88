-- A domain's resuming tick.
use Rattle.std.proofs.Common.{ℕ, ℤ, suc, ◌≡◌, true, [], ap}
use Rattle.java_values.specs.Arithmetic.{is_true}
use Rattle.kernel_terms.specs.declared.tables.Tables.{Tables}
use Rattle.kernel_terms.specs.MayEnd.{LoopsWait}
use Rattle.kernel_terms.specs.Statements.{Stmt}
use Rattle.kernel_terms.specs.WellFormed.{fits_statement}
use Rattle.kernel_rules.specs.definitions.LegalTick.{Inputs}
use Rattle.kernel_rules.specs.definitions.Registers.{residual, FitRegisters}
use Rattle.kernel_rules.proofs.ResidualNames.{residual_writes}
use Rattle.surf_graph.specs.definitions.DomainCopies.{domain_context, domain_of_copy}
use Rattle.surf_graph.specs.definitions.DomainTells.{DomainTells, HandsIn}
use Rattle.surf_graph.specs.definitions.Formulas.{Satisfies}
use Rattle.surf_graph.specs.definitions.Sources.{IsSource}
use Rattle.surf_graph.proofs.TickCodes.{fitting_inside, residual_inside}
use Rattle.surf_graph.proofs.DomainRegisters.{own_variable, variable_has}
use Rattle.surf_graph.proofs.DomainTicks.{domain_says, domain_tells, spelled_domain}
use Rattle.depth_graph.specs.definitions.ResumingCopies.{resume}
use Rattle.depth_graph.proofs.ResumeActive.{resume_active}
use Rattle.surf_graph.specs.definitions.Spells.{Spells}
use Rattle.wire_code.specs.Formulas.{Satisfies as Meets}
use Rattle.wire_code.specs.declared.equation.Equation.{Equation as Operation}
use Rattle.std.specs.Prelude.{List}

pub resuming_equations : (tables : Tables) (inputs : Inputs) (d ticks : ℕ) (p : Stmt) (f w : ℕ → ℤ) → IsSource tables p → LoopsWait p → fits_statement tables (record { domain = d; traps = 0; locals = [] }) p ≡ true
    → FitRegisters tables p 0 f → HandsIn tables d p (λ s. inputs s (suc ticks)) f → Satisfies f w (domain_of_copy tables d p (resume tables p (domain_context tables d))).equations
    → DomainTells tables inputs d ticks p (residual tables p 0 f) f w (domain_of_copy tables d p (resume tables p (domain_context tables d)))
resuming_equations tables inputs d ticks p f w source waits fits fit given h =
    let a = resume tables p (domain_context tables d) in
    let says = domain_says tables d p f w a h in
    let t = residual tables p 0 f in
    domain_tells tables inputs d ticks p t f w a (residual_inside tables 0 p 0 f (fitting_inside tables _ p fits)) (λ x k. variable_has tables d x (own_variable tables _ p x fits (residual_writes tables p 0 f x k))) given says.0 says.1
    (resume_active tables f w p (domain_context tables d) source waits (says.0).zero (says.0).copy (ap is_true (says.0).one) (ap is_true (says.0).zero) fit.is_live fit.apart)

pub resuming_operations : (tables : Tables) (inputs : Inputs) (d ticks : ℕ) (p : Stmt) (f w : ℕ → ℤ) (ops : List Operation) → IsSource tables p → LoopsWait p → fits_statement tables (record { domain = d; traps = 0; locals = [] }) p ≡ true
    → FitRegisters tables p 0 f → HandsIn tables d p (λ s. inputs s (suc ticks)) f → Meets f w ops → Spells (domain_of_copy tables d p (resume tables p (domain_context tables d))).equations ops
    → DomainTells tables inputs d ticks p (residual tables p 0 f) f w (domain_of_copy tables d p (resume tables p (domain_context tables d)))
resuming_operations tables inputs d ticks p f w ops source waits fits fit given h s =
    resuming_equations tables inputs d ticks p f w source waits fits fit given (spelled_domain tables d p (resume tables p (domain_context tables d)) f w ops h s)
