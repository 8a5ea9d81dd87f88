-- A domain's starting tick.
use Rattle.std.proofs.Common.{ℕ, ℤ, suc, ◌≡◌, true, [], ap}
use Rattle.java_values.specs.Arithmetic.{is_true}
use Rattle.kernel_terms.specs.declared.tables.Tables.{Tables}
use Rattle.kernel_terms.specs.MayEnd.{LoopsWait}
use Rattle.kernel_terms.specs.Statements.{Stmt}
use Rattle.kernel_terms.specs.WellFormed.{fits_statement}
use Rattle.kernel_rules.specs.definitions.LegalTick.{Inputs}
use Rattle.surf_graph.specs.definitions.DomainCopies.{domain_context, domain_of_copy}
use Rattle.surf_graph.specs.definitions.DomainTells.{DomainTells, HandsIn}
use Rattle.surf_graph.specs.definitions.Formulas.{Satisfies}
use Rattle.surf_graph.specs.definitions.Sources.{IsSource}
use Rattle.surf_graph.specs.definitions.StartingCopies.{start}
use Rattle.surf_graph.proofs.StartActive.{start_active}
use Rattle.surf_graph.proofs.TickCodes.{fitting_inside}
use Rattle.surf_graph.proofs.DomainRegisters.{own_variable, variable_has}
use Rattle.surf_graph.proofs.DomainTicks.{domain_says, domain_tells, spelled_domain}
use Rattle.surf_graph.specs.definitions.Spells.{Spells}
use Rattle.wire_code.specs.Formulas.{Satisfies as Meets}
use Rattle.wire_code.specs.declared.equation.Equation.{Equation as Operation}
use Rattle.std.specs.Prelude.{List}

pub starting_equations : (tables : Tables) (inputs : Inputs) (d ticks : ℕ) (p : Stmt) (f w : ℕ → ℤ) → IsSource tables p → LoopsWait p → fits_statement tables (record { domain = d; traps = 0; locals = [] }) p ≡ true
    → HandsIn tables d p (λ s. inputs s (suc ticks)) f → Satisfies f w (domain_of_copy tables d p (start tables p (domain_context tables d))).equations
    → DomainTells tables inputs d ticks p p f w (domain_of_copy tables d p (start tables p (domain_context tables d)))
starting_equations tables inputs d ticks p f w source waits fits given h =
    let a = start tables p (domain_context tables d) in
    let says = domain_says tables d p f w a h in
    domain_tells tables inputs d ticks p p f w a (fitting_inside tables _ p fits) (λ x k. variable_has tables d x (own_variable tables _ p x fits k)) given says.0 says.1
    (start_active tables f w p (domain_context tables d) source waits (says.0).zero (says.0).copy (ap is_true (says.0).one) (ap is_true (says.0).zero))

pub starting_operations : (tables : Tables) (inputs : Inputs) (d ticks : ℕ) (p : Stmt) (f w : ℕ → ℤ) (ops : List Operation) → IsSource tables p → LoopsWait p → fits_statement tables (record { domain = d; traps = 0; locals = [] }) p ≡ true
    → HandsIn tables d p (λ s. inputs s (suc ticks)) f → Meets f w ops → Spells (domain_of_copy tables d p (start tables p (domain_context tables d))).equations ops
    → DomainTells tables inputs d ticks p p f w (domain_of_copy tables d p (start tables p (domain_context tables d)))
starting_operations tables inputs d ticks p f w ops source waits fits given h s =
    starting_equations tables inputs d ticks p f w source waits fits given (spelled_domain tables d p (start tables p (domain_context tables d)) f w ops h s)
