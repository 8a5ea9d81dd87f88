-- A pause's equations among operations in another order, and not among others.
use Rattle.std.proofs.Common.{◌≡◌, ℕ, zero, suc, ◌+◌, ◌<◌, pos, [], ◌∷◌, get_or, refl, ap, arith}
use Rattle.std.specs.List.{Contains}
use Rattle.std.proofs.lemmas.List.Elements.{All-nil, All-cons, All-head, All-tail}
use Rattle.surf_graph.specs.definitions.Formulas.{Status, And}
use Rattle.surf_graph.specs.definitions.SpelledOut.{gives, as_int}
use Rattle.surf_graph.specs.definitions.Spells.{IsSpelled, Spells}
use Rattle.surf_graph.specs.SmallCopies.{is, pause_equations, scattered_pause_operations, incomplete_pause_operations}
use Rattle.wire_code.specs.declared.formula.Formula.{Formula}
use Rattle.wire_code.specs.declared.formula.Formula.TheVariants as wire
use Rattle.wire_code.specs.declared.equation.Equation.{Equation as WireEquation}

abbrev Here : WireEquation → Type 0
Here = Contains scattered_pause_operations

status_spelled : IsSpelled scattered_pause_operations (is 8 (Status 1 1))
status_spelled =
    record {
      first = 50;
      parts = All-cons Here (gives 50 (wire.Const (pos 2))) (gives 51 (as_int 50) ∷ []) (2, omega arith, refl)
          (All-cons Here (gives 51 (as_int 50)) [] (3, omega arith, refl) (All-nil Here));
      last = (1, omega arith, refl);
    }

kept_spelled : IsSpelled scattered_pause_operations (is 9 (And 1 3))
kept_spelled = record { first = 0; parts = All-nil Here; last = (0, omega arith, refl) }

pub pause_spelled : Spells pause_equations scattered_pause_operations
pause_spelled =
    let both = IsSpelled scattered_pause_operations in
    All-cons both (is 8 (Status 1 1)) (is 9 (And 1 3) ∷ []) status_spelled (All-cons both (is 9 (And 1 3)) [] kept_spelled (All-nil both))

abbrev formula : WireEquation → Formula
formula e = e.formula

no_int : (n k : ℕ) → k < 3 → get_or incomplete_pause_operations k (gives (n + 1) (as_int n)) ≡ gives (n + 1) (as_int n) → ⊥
no_int n zero lt e = let f : wire.And 1 3 ≡ as_int n = ap formula e in cc
no_int n (suc zero) lt e = let f : wire.Choose 1 51 0 ≡ as_int n = ap formula e in cc
no_int n (suc (suc zero)) lt e = let f : wire.Const (pos 2) ≡ as_int n = ap formula e in cc
no_int n (suc (suc (suc k))) lt e = absurd (omega (arith, lt))

pub one_missing : Spells pause_equations incomplete_pause_operations → ⊥
one_missing s =
    let a = All-head (IsSpelled incomplete_pause_operations) (is 8 (Status 1 1)) (is 9 (And 1 3) ∷ []) s in
    let n = a.first in
    let there = All-head (Contains incomplete_pause_operations) (gives (n + 1) (as_int n)) [] (All-tail (Contains incomplete_pause_operations) (gives n (wire.Const (pos 2))) (gives (n + 1) (as_int n) ∷ []) a.parts) in
    no_int n there.0 there.1 there.2

no_choice : (n k : ℕ) → k < 4 → get_or scattered_pause_operations k (gives 8 (wire.Choose 2 (n + 1) 0)) ≡ gives 8 (wire.Choose 2 (n + 1) 0) → ⊥
no_choice n zero lt e = let f : wire.And 1 3 ≡ wire.Choose 2 (n + 1) 0 = ap formula e in cc
no_choice n (suc zero) lt e = let f : wire.Choose 1 51 0 ≡ wire.Choose 2 (n + 1) 0 = ap formula e in cc
no_choice n (suc (suc zero)) lt e = let f : wire.Const (pos 2) ≡ wire.Choose 2 (n + 1) 0 = ap formula e in cc
no_choice n (suc (suc (suc zero))) lt e = let f : as_int 50 ≡ wire.Choose 2 (n + 1) 0 = ap formula e in cc
no_choice n (suc (suc (suc (suc k)))) lt e = absurd (omega (arith, lt))

pub other_go : Spells (is 8 (Status 2 1) ∷ []) scattered_pause_operations → ⊥
other_go s =
    let a = All-head (IsSpelled scattered_pause_operations) (is 8 (Status 2 1)) [] s in
    no_choice a.first a.last.0 a.last.1 a.last.2
