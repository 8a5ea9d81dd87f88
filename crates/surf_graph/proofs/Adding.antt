-- Operations that are added to a builder one behind the other.
use Rattle.std.proofs.Common.{◌≡◌, ℕ, List, [], ◌∷◌, ◌++◌, ap, ◌∙◌, subst, append_assoc}
use Rattle.surf_graph.specs.declared.builder.Builder.{Builder}
use Rattle.surf_graph.specs.Building.{Adds}
use Rattle.surf_graph.specs.definitions.SpelledOut.{gives}
use Rattle.wire_code.specs.declared.formula.Formula.{Formula as Operation}
use Rattle.wire_code.specs.declared.equation.Equation.{Equation as WireEquation}

-- one more, of a given wire
pub one_given : (old mid new : Builder) (es : List WireEquation) (m k : ℕ) (o i : Operation) → o ≡ i → Adds old mid es m → Adds mid new (gives k o ∷ []) mid.further → Adds old new (es ++ (gives k i ∷ [])) m
one_given old mid new es m k o i same a b =
    let own : List WireEquation = gives k i ∷ [] in
    let d : Adds mid new own mid.further = subst (λ x. Adds mid new (gives k x ∷ []) mid.further) same b in
    record {
      equations = d.equations ∙ ap (λ l. l ++ own) a.equations ∙ append_assoc old.equations.items es own;
      further = d.further ∙ a.further;
      next = d.next ∙ a.next;
    }
