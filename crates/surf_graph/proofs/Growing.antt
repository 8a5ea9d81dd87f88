-- Equations that are spelled out one after the other.
use Rattle.std.proofs.Common.{◌≡◌, ℕ, ◌+◌, List, [], ◌∷◌, ◌++◌, length, ap, ◌∙◌, sym, subst, refl, arith, append_assoc, append-nil}
use Rattle.std.proofs.lemmas.List.{length-append}
use Rattle.surf_graph.specs.declared.builder.Builder.{Builder}
use Rattle.surf_graph.specs.Building.{Writes}
use Rattle.surf_graph.specs.Copying.{SpellsOut}
use Rattle.surf_graph.specs.Framing.{Grows}
use Rattle.surf_graph.specs.definitions.Formulas.{Equation}
use Rattle.surf_graph.specs.definitions.SpelledOut.{spelled}
use Rattle.surf_graph.proofs.SpellingOut.{none_spelled_out, both_spelled_out, more_spelled_out}

pub taken_grows : (old new : Builder) (count : ℕ) → new.equations ≡ old.equations → new.further ≡ old.further → new.next ≡ old.next + count → Grows old new count []
taken_grows old new count e f n = record { equations = none_spelled_out old new (ap (λ v. v.items) e) f; next = n }

pub more_grows : (old mid new : Builder) (count : ℕ) (es : List Equation) (e : Equation) → Grows old mid count es → Writes mid new (spelled mid.further e.formula) e.wire → Grows old new count (es ++ (e ∷ []))
more_grows old mid new count es e g w = record { equations = more_spelled_out old mid new es e g.equations w; next = w.next ∙ g.next }

pub both_grow : (old mid new : Builder) (m n : ℕ) (es ds : List Equation) → Grows old mid m es → Grows mid new n ds → Grows old new (m + n) (es ++ ds)
both_grow old mid new m n es ds g h =
    let a = g.next in
    let b = h.next in
    record { equations = both_spelled_out old mid new es ds g.equations h.equations; next = omega (arith, a, b) }

-- own wires that are taken, and then have these equations
pub grown : (old taken new : Builder) (count n : ℕ) (es : ℕ → List Equation) → n ≡ old.next → taken.next ≡ old.next + count → taken.equations ≡ old.equations → taken.further ≡ old.further → new.next ≡ taken.next → SpellsOut taken new (es n)
    → Grows old new count (es old.next)
grown old taken new count n es is next same further still spelled =
    record {
      equations = subst (λ k. SpellsOut old new (es k)) is
          (both_spelled_out old taken new [] (es n) (none_spelled_out old taken (ap (λ v. v.items) same) further) spelled);
      next = still ∙ next;
    }

-- What is still to be spelled out of a list, one own wire for each equation.
pub record Remains (old now : Builder) (all left : List Equation) : Type 0 where
  pub sofar : List Equation
  pub grows : Grows old now (length sofar) sofar
  pub whole : sofar ++ left ≡ all

pub all_remains : (old : Builder) (all : List Equation) → Remains old old all all
all_remains old all = record { sofar = []; grows = taken_grows old old 0 refl refl (omega arith); whole = refl }

pub less_remains : (old now new : Builder) (all left es rest : List Equation) → Remains old now all left → Grows now new (length es) es → left ≡ es ++ rest → Remains old new all rest
less_remains old now new all left es rest r g e =
    let a = r.grows in
    let size = length-append r.sofar es in
    record {
      sofar = r.sofar ++ es;
      grows = subst (λ k. Grows old new k (r.sofar ++ es)) (sym size) (both_grow old now new (length r.sofar) (length es) r.sofar es a g);
      whole = append_assoc r.sofar es rest ∙ ap (λ l. r.sofar ++ l) (sym e) ∙ r.whole;
    }

pub none_remains : (old now : Builder) (all : List Equation) → Remains old now all [] → Grows old now (length all) all
none_remains old now all r = subst (λ l. Grows old now (length l) l) (sym (append-nil r.sofar) ∙ r.whole) r.grows
