-- Equations that are spelled out behind others.
use Rattle.std.proofs.Common.{◌≡◌, ℕ, ◌+◌, ◌^◌, ◌≤◌, List, [], ◌∷◌, ◌++◌, refl, ap, ◌∙◌, sym, subst, append_assoc, append-nil}
use Rattle.std.specs.List.Sorted.{IsPermutation}
use Rattle.std.proofs.lemmas.List.Sorted.{IsPermutation-refl, IsPermutation-sym, IsPermutation-trans, IsPermutation-append}
use Rattle.surf_graph.specs.declared.builder.Builder.{Builder}
use Rattle.surf_graph.specs.Building.{Writes}
use Rattle.surf_graph.specs.Copying.{SpellsOut}
use Rattle.surf_graph.specs.StartsBuilt.{Owns}
use Rattle.surf_graph.specs.definitions.Formulas.{Formula, Equation}
use Rattle.surf_graph.specs.definitions.SpelledOut.{gives, spelled, spelled_out, further_after}

abbrev pub equation : ℕ → Formula → Equation
equation k f = record { wire = k; formula = f }

further_both : (n : ℕ) (xs ys : List Equation) → further_after n (xs ++ ys) ≡ further_after (further_after n xs) ys
further_both n [] ys = refl
further_both n (x ∷ xs) ys = further_both (spelled n x.formula).next xs ys

spelled_both : (n : ℕ) (xs ys : List Equation) → spelled_out n (xs ++ ys) ≡ spelled_out n xs ++ spelled_out (further_after n xs) ys
spelled_both n [] ys = refl
spelled_both n (x ∷ xs) ys =
    let a = spelled n x.formula in
    ap (λ l. a.equations ++ (gives x.wire a.operation ∷ l)) (spelled_both a.next xs ys)
    ∙ sym (append_assoc a.equations (gives x.wire a.operation ∷ spelled_out a.next xs) (spelled_out (further_after a.next xs) ys))

pub none_spelled_out : (old new : Builder) → new.equations.items ≡ old.equations.items → new.further ≡ old.further → SpellsOut old new []
none_spelled_out old new e f =
    record { order = []; same = IsPermutation-refl []; equations = e ∙ sym (append-nil old.equations.items); further = f }

pub one_spelled_out : (old new : Builder) (e : Equation) → Writes old new (spelled old.further e.formula) e.wire → SpellsOut old new (e ∷ [])
one_spelled_out old new e w =
    record { order = e ∷ []; same = IsPermutation-refl (e ∷ []); equations = w.equations; further = w.further }

pub both_spelled_out : (old mid new : Builder) (xs ys : List Equation) → SpellsOut old mid xs → SpellsOut mid new ys → SpellsOut old new (xs ++ ys)
both_spelled_out old mid new xs ys a b =
    let from : mid.further ≡ further_after old.further a.order = a.further in
    record {
      order = a.order ++ b.order;
      same = IsPermutation-append xs a.order ys b.order a.same b.same;
      equations =
          b.equations
          ∙ ap (λ l. l ++ spelled_out mid.further b.order) a.equations
          ∙ append_assoc old.equations.items (spelled_out old.further a.order) (spelled_out mid.further b.order)
          ∙ ap (λ n. old.equations.items ++ (spelled_out old.further a.order ++ spelled_out n b.order)) from
          ∙ ap (λ l. old.equations.items ++ l) (sym (spelled_both old.further a.order b.order));
      further = b.further ∙ ap (λ n. further_after n b.order) from ∙ sym (further_both old.further a.order b.order);
    }

pub other_spelled_out : (old new : Builder) (xs ys : List Equation) → IsPermutation ys xs → SpellsOut old new xs → SpellsOut old new ys
other_spelled_out old new xs ys p a =
    record { order = a.order; same = IsPermutation-trans ys xs a.order p a.same; equations = a.equations; further = a.further }

-- one more behind
pub more_spelled_out : (old mid new : Builder) (xs : List Equation) (e : Equation) → SpellsOut old mid xs → Writes mid new (spelled mid.further e.formula) e.wire → SpellsOut old new (xs ++ (e ∷ []))
more_spelled_out old mid new xs e a w = both_spelled_out old mid new xs (e ∷ []) a (one_spelled_out mid new e w)

-- own wires that are taken, and then have these equations
pub owned : (old taken new : Builder) (count n : ℕ) (es : ℕ → List Equation) → n ≡ old.next → taken.next ≡ old.next + count → taken.next ≤ 2 ^ 31 → taken.equations ≡ old.equations → taken.further ≡ old.further → new.next ≡ taken.next → SpellsOut taken new (es n)
    → Owns old new count (es old.next) n
owned old taken new count n es is next low same further still spelled =
    record {
      first = is;
      next = still ∙ next;
      below = subst (λ k. k ≤ 2 ^ 31) (sym still) low;
      equations = subst (λ k. SpellsOut old new (es k)) is
          (both_spelled_out old taken new [] (es n) (none_spelled_out old taken (ap (λ v. v.items) same) further) spelled);
    }
