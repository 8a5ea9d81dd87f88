-- The ticks that codes make.
use Rattle.std.proofs.Common.{◌≡◌, ◌≢◌, ℕ, zero, suc, ◌≤◌, ℤ, Bool, List, refl, sym, subst}
use Rattle.kernel_terms.specs.declared.tables.Tables.{Tables}
use Rattle.kernel_rules.specs.definitions.Registers.{FitRegisters, residual}
use Rattle.domain_core.specs.declared.equations.codes.Codes.{Codes}
use Rattle.domain_core.specs.equations.BuiltForms.{Plain, whole}
use Rattle.domain_core.specs.equations.BuiltRegisters.{HoldsLiteral}
use Rattle.domain_core.specs.equations.Codes.{AreCodes, TellsTick}
use Rattle.domain_core.specs.step.StepParts.{MakesCodeTick}

pub started : (codes : Codes) (ticks : ℕ) (old new : ℕ → ℤ) (present : List Bool) (ended : Bool) → ticks ≡ 0 →
    ((tables : Tables) (p : Plain) (n : ℕ) (own : List ℕ) → AreCodes codes p n own → TellsTick tables (whole p) n own (whole p) present new ended) →
    ((p : Plain) (n : ℕ) (own : List ℕ) → AreCodes codes p n own → HoldsLiteral p 0 new) → ((k : ℕ) → codes.registers ≤ k → new k ≡ old k) →
    MakesCodeTick codes ticks old new present ended
started codes ticks old new present ended first tells literals others =
    subst (λ t. MakesCodeTick codes t old new present ended) (sym first) (record {
      tells = λ tables p n own are fits. tells tables p n own are;
      literals = λ tables p n own are fits. literals p n own are;
      others = others;
    })

pub resumed : (codes : Codes) (ticks : ℕ) (old new : ℕ → ℤ) (present : List Bool) (ended : Bool) → ticks ≢ 0 →
    ((tables : Tables) (p : Plain) (n : ℕ) (own : List ℕ) → AreCodes codes p n own → FitRegisters tables (whole p) 0 old → HoldsLiteral p 0 old → TellsTick tables (whole p) n own (residual tables (whole p) 0 old) present new ended) →
    ((tables : Tables) (p : Plain) (n : ℕ) (own : List ℕ) → AreCodes codes p n own → FitRegisters tables (whole p) 0 old → HoldsLiteral p 0 old → HoldsLiteral p 0 new) →
    ((k : ℕ) → codes.registers ≤ k → new k ≡ old k) → MakesCodeTick codes ticks old new present ended
resumed codes zero old new present ended later tells literals others = absurd (later refl)
resumed codes (suc t) old new present ended later tells literals others = record {
  tells = λ tables p n own are fits. tells tables p n own are fits.0 fits.1;
  literals = λ tables p n own are fits. literals tables p n own are fits.0 fits.1;
  others = others;
}
