-- Operations among which equations are spelled.
use Rattle.std.proofs.Common.{◌≡◌, ℕ, ℤ, pos, List, [], ◌∷◌, ◌++◌, ◌∙◌, append_assoc, sym, subst}
use Rattle.std.specs.List.{All, Contains}
use Rattle.std.specs.List.Sorted.{IsPermutation}
use Rattle.std.proofs.lemmas.List.Elements.{All-nil, All-cons, All-head, All-tail, All-append, All-weaker, All-contains, All-contains_itself, Contains-append_left, Contains-append_right, Contains-push}
use Rattle.std.proofs.lemmas.List.Sorted.{Contains-permutation}
use Rattle.surf_graph.specs.definitions.Formulas.{Const, Equation, Satisfies}
use Rattle.surf_graph.specs.definitions.SpelledOut.{gives, spelled, spelled_out}
use Rattle.surf_graph.specs.definitions.Spells.{IsSpelled, Spells}
use Rattle.surf_graph.proofs.ExpressionWires.{spelled_given}
use Rattle.wire_code.specs.Formulas.{Satisfies as Meets, formula_value as given_by}
use Rattle.wire_code.specs.declared.formula.Formula.TheVariants as wire
use Rattle.wire_code.specs.declared.equation.Equation.{Equation as WireEquation}

abbrev Holds : (ℕ → ℤ) → (ℕ → ℤ) → WireEquation → Type 0
Holds f w e = w e.wire ≡ given_by f w e.formula

each_met : (f w : ℕ → ℤ) (ops : List WireEquation) → Meets f w ops → All (Holds f w) ops
each_met f w [] h = All-nil (Holds f w)
each_met f w (e ∷ es) h = All-cons (Holds f w) e es h.0 (each_met f w es h.1)

all_met : (f w : ℕ → ℤ) (ops : List WireEquation) → All (Holds f w) ops → Meets f w ops
all_met f w [] h = tt
all_met f w (e ∷ es) h = (All-head (Holds f w) e es h, all_met f w es (All-tail (Holds f w) e es h))

-- what holds of operations holds of those among them
among_met : (f w : ℕ → ℤ) (ops es : List WireEquation) → All (Holds f w) ops → All (Contains ops) es → Meets f w es
among_met f w ops es h k = all_met f w es (All-weaker (Contains ops) (Holds f w) (λ e c. All-contains (Holds f w) ops e h c) es k)

one_holds : (f w : ℕ → ℤ) (ops : List WireEquation) (e : Equation) → w 0 ≡ pos 0 → All (Holds f w) ops → IsSpelled ops e → Satisfies f w (e ∷ [])
one_holds f w ops e z h s = (
  All-contains (Holds f w) ops (gives e.wire (spelled s.first e.formula).operation) h s.last
      ∙ spelled_given f w s.first e.formula z (among_met f w ops (spelled s.first e.formula).equations h s.parts),
  tt,
)

pub spelled_hold : (f w : ℕ → ℤ) (ops : List WireEquation) (es : List Equation) → w 0 ≡ pos 0 → Meets f w ops → Spells es ops → Satisfies f w es
spelled_hold f w ops [] z h s = tt
spelled_hold f w ops (e ∷ es) z h s = (
  (one_holds f w ops e z (each_met f w ops h) (All-head (IsSpelled ops) e es s)).0,
  spelled_hold f w ops es z h (All-tail (IsSpelled ops) e es s),
)

-- a constant, whatever wire 0 has
pub constant_holds : (f w : ℕ → ℤ) (ops : List WireEquation) (k : ℕ) (n : ℤ) → Meets f w ops → IsSpelled ops (record { wire = k; formula = Const n }) → w k ≡ n
constant_holds f w ops k n h s = All-contains (Holds f w) ops (gives k (wire.Const n)) (each_met f w ops h) s.last

pub none_spelled : (ops : List WireEquation) → Spells [] ops
none_spelled ops = All-nil (IsSpelled ops)

pub one_more_spelled : (ops : List WireEquation) (e : Equation) (es : List Equation) → IsSpelled ops e → Spells es ops → Spells (e ∷ es) ops
one_more_spelled ops e es h k = All-cons (IsSpelled ops) e es h k

pub both_spelled : (ops : List WireEquation) (es ds : List Equation) → Spells es ops → Spells ds ops → Spells (es ++ ds) ops
both_spelled ops es ds h k = All-append (IsSpelled ops) es ds h k

-- where more operations are, as much is spelled
abbrev Includes : List WireEquation → List WireEquation → Type 0
Includes more ops = (x : WireEquation) → Contains ops x → Contains more x

one_included : (ops more : List WireEquation) (e : Equation) → Includes more ops → IsSpelled ops e → IsSpelled more e
one_included ops more e g s =
    record {
      first = s.first;
      parts = All-weaker (Contains ops) (Contains more) g (spelled s.first e.formula).equations s.parts;
      last = g (gives e.wire (spelled s.first e.formula).operation) s.last;
    }

pub included_spelled : (es : List Equation) (ops more : List WireEquation) → Includes more ops → Spells es ops → Spells es more
included_spelled es ops more g s = All-weaker (IsSpelled ops) (IsSpelled more) (λ e h. one_included ops more e g h) es s

pub spelled_in_front : (es : List Equation) (ops more : List WireEquation) → Spells es ops → Spells es (ops ++ more)
spelled_in_front es ops more s = included_spelled es ops (ops ++ more) (λ x h. Contains-append_left ops more x h) s

pub spelled_behind : (es : List Equation) (ops more : List WireEquation) → Spells es ops → Spells es (more ++ ops)
spelled_behind es ops more s = included_spelled es ops (more ++ ops) (λ x h. Contains-append_right more ops x h) s

pub spelled_in_any_order : (es : List Equation) (ops others : List WireEquation) → IsPermutation ops others → Spells es ops → Spells es others
spelled_in_any_order es ops others p s = included_spelled es ops others (λ x h. Contains-permutation ops others x p h) s

-- an equation's own operations, one behind the other
pub own_spelled : (n : ℕ) (e : Equation) → IsSpelled ((spelled n e.formula).equations ++ (gives e.wire (spelled n e.formula).operation ∷ [])) e
own_spelled n e =
    let a = spelled n e.formula in
    let last : WireEquation = gives e.wire a.operation in
    record {
      first = n;
      parts = All-weaker (Contains a.equations) (Contains (a.equations ++ (last ∷ []))) (λ x h. Contains-append_left a.equations (last ∷ []) x h) a.equations
          (All-contains_itself a.equations);
      last = Contains-push a.equations last;
    }

-- an equation whose operations were added is spelled beside those that were
pub added_spelled : (es : List Equation) (old new : List WireEquation) (n : ℕ) (e : Equation) → new ≡ old ++ ((spelled n e.formula).equations ++ (gives e.wire (spelled n e.formula).operation ∷ []))
    → Spells es old → Spells (e ∷ es) new
added_spelled es old new n e is s =
    let own : List WireEquation = (spelled n e.formula).equations ++ (gives e.wire (spelled n e.formula).operation ∷ []) in
    subst (Spells (e ∷ es)) (sym is)
    (one_more_spelled (old ++ own) e es (one_included own (old ++ own) e (λ x h. Contains-append_right old own x h) (own_spelled n e)) (spelled_in_front es old own s))

pub spelled_out_spelled : (n : ℕ) (es : List Equation) → Spells es (spelled_out n es)
spelled_out_spelled n [] = none_spelled []
spelled_out_spelled n (e ∷ es) =
    let a = spelled n e.formula in
    let own : List WireEquation = a.equations ++ (gives e.wire a.operation ∷ []) in
    let rest : List WireEquation = spelled_out a.next es in
    subst (Spells (e ∷ es)) (append_assoc a.equations (gives e.wire a.operation ∷ []) rest)
    (one_more_spelled (own ++ rest) e es (one_included own (own ++ rest) e (λ x h. Contains-append_left own rest x h) (own_spelled n e)) (spelled_behind es rest own (spelled_out_spelled a.next es)))
