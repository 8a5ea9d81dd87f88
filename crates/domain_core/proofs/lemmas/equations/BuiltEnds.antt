-- Statements of the built forms exit to no trap, so their exits fit.
use Rattle.std.proofs.Common.{◌≡◌, true, ◌&&◌, refl, ap, ◌∙◌}
use Rattle.kernel_terms.specs.declared.term.Term.{Term}
use Rattle.kernel_terms.specs.Built.{is_built}
use Rattle.kernel_terms.specs.Statements.{statement}
use Rattle.tick_tree.specs.definitions.Exits.{exits_fit}
use Rattle.domain_core.specs.equations.BuiltForms.{Plain, Nothing, Pause, Emit, Seq, Loop, Send, Receive, whole, plain}
use Rattle.domain_core.proofs.lemmas.equations.BuiltTrees.{built_stands}

exits_of : (p : Plain) → exits_fit (whole p) ≡ true
exits_of Nothing = refl
exits_of Pause = refl
exits_of (Emit s) = refl
exits_of (Seq p q) = ap (λ b. b && exits_fit (whole q)) (exits_of p) ∙ exits_of q
exits_of (Loop p) = exits_of p
exits_of (Send c n) = refl
exits_of (Receive c) = refl

pub built_fits : (t : Term) → is_built t ≡ true → exits_fit (statement t) ≡ true
built_fits t h = ap exits_fit (built_stands t h) ∙ exits_of (plain t)

pub ruleset exits_of_built = (built_stands, built_fits)
