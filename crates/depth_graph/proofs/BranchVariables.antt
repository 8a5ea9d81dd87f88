-- The variables after two branches.
use Rattle.std.proofs.Common.{◌≡◌, ℕ, ℤ, Bool, true, false, ◌&&◌, cond, sym, ap, ◌∙◌}
use Rattle.std.proofs.Math.Path.{fun_ext}
use Rattle.kernel_terms.specs.declared.tables.Tables.{Tables}
use Rattle.kernel_terms.specs.Statements.{Stmt}
use Rattle.kernel_rules.specs.definitions.Signals.{Env}
use Rattle.kernel_rules.specs.definitions.TickRule.{Tick, Ticks, writes, variables_of_both}
use Rattle.surf_graph.proofs.Parts.{by_cases}
use Rattle.kernel_rules.proofs.TickLocalityLemmas.{keeps_variable}

-- what two branches leave of the variables, by what the branches of the source may assign
pub same_variables :
    (tables : Tables) (last : ℕ → ℤ) (env : Env) (x : ℕ → ℤ) (p q t s : Stmt) (o i : Tick)
    → ((y : ℕ) → writes p y && writes q y ≡ false) → ((y : ℕ) → writes t y ≡ true → writes p y ≡ true) → ((y : ℕ) → writes s y ≡ true → writes q y ≡ true)
    → Ticks tables last t env x o → Ticks tables last s env x i → variables_of_both p o.variables i.variables ≡ variables_of_both t o.variables i.variables
same_variables tables last env x p q t s o i owned tp sq h k = fun_ext each where
  pick : {a b : Bool} (u v : ℤ) → a ≡ b → cond a u v ≡ cond b u v
  pick u v e = ap (λ z. cond z u v) e

  each : (y : ℕ) → cond (writes p y) (o.variables y) (i.variables y) ≡ cond (writes t y) (o.variables y) (i.variables y)
  each y =
      by_cases (writes t y)
      (λ e. pick (o.variables y) (i.variables y) (tp y e ∙ sym e))
      (λ e. by_cases (writes p y)
      (λ g.
      let no_q : writes q y ≡ false = sym (ap (λ z. z && writes q y) g) ∙ owned y in
      let no_s : writes s y ≡ false = by_cases (writes s y) (λ z. absurd (let d = sq y z in let f : ⊥ = cc in f)) (λ z. z) in
      pick (o.variables y) (i.variables y) g ∙ keeps_variable tables last t env x o y h e ∙ sym (keeps_variable tables last s env x i y k no_s) ∙ sym (pick (o.variables y) (i.variables y) e))
      (λ g. pick (o.variables y) (i.variables y) (g ∙ sym e)))
