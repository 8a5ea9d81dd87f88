-- One text after another.
use Rattle.std.proofs.Common.{◌≡◌, ℕ, min, Bool, true, false, ◌+◌, ◌≤◌, List, ◌++◌, length, take, sym, ap, ◌∙◌, subst, arith, append_assoc, Option, Some, None}
use Rattle.std.proofs.lemmas.List.{take-append-le, take_min}
use Rattle.std.proofs.Math.Seq.{take-append-add}
use Rattle.sj_io.specs.definitions.Causes.{Rose}
use Rattle.sj_io.specs.definitions.Sinks.{TakesMore, TakesPrefix}
use Rattle.tick_log.specs.Puts.{Puts, PutsAt}

more : (b c : Option (List ℕ)) (old x y : List ℕ) → b ≡ Some (old ++ x) → TakesMore b c y → c ≡ Some (old ++ (x ++ y))
more None c old x y e t = cc
more (Some v) c old x y e t = let v_is : v ≡ old ++ x = cc in t ∙ ap (λ l. Some (l ++ y)) v_is ∙ ap Some (append_assoc old x y)

takes_both : (a b c : Option (List ℕ)) (x y : List ℕ) → TakesMore a b x → TakesMore b c y → TakesMore a c (x ++ y)
takes_both None b c x y h t = tt
takes_both (Some old) b c x y h t = more b c old x y h t

-- a part of the second text after the whole first one
takes_part : (a b c : Option (List ℕ)) (x y : List ℕ) → TakesMore a b x → TakesPrefix b c y → TakesPrefix a c (x ++ y)
takes_part a b c x y h t =
    record { count = length x + t.count; takes = subst (λ l. TakesMore a c l) (sym (take-append-add x y t.count)) (takes_both a b c x (take t.count y) h t.takes) }

-- a part of the first text
takes_begun : (a c : Option (List ℕ)) (x y : List ℕ) → TakesPrefix a c x → TakesPrefix a c (x ++ y)
takes_begun a c x y t =
    let n = min t.count (length x) in
    let le : n ≤ length x = omega arith in
    let same : take t.count x ≡ take n (x ++ y) = sym (take_min t.count x) ∙ sym (take-append-le n x y le) in
    record { count = n; takes = subst (λ l. TakesMore a c l) same t.takes }

-- one text after another, whether or not the sink fails
pub puts_both : (p q r : Bool) (a b c : Option (List ℕ)) (f g h : ℕ) (x y : List ℕ) → Puts p q a b f g x → Puts q r b c g h y → Puts p r a c f h (x ++ y)
puts_both p q r a b c f g h x y u v = record { what = at p q r u.what v.what; later = omega (arith, u.later, v.later) } where
  rose : Rose f g → g ≤ h → Rose f h
  rose s t = omega (arith, s, t)

  rose2 : f ≤ g → Rose g h → Rose f h
  rose2 s t = omega (arith, s, t)

  at : (p q r : Bool) → PutsAt p q a b f g x → PutsAt q r b c g h y → PutsAt p r a c f h (x ++ y)
  at true true true s t = takes_both a b c x y s t
  at true true false s t = (takes_part a b c x y s t.0, rose2 u.later t.1)
  at true false true s t = absurd t
  at true false false s t = (takes_begun a c x y (subst (λ o. TakesPrefix a o x) (sym t.0) s.0), rose s.1 v.later)
  at false true r s t = absurd s
  at false false true s t = absurd t
  at false false false s t = (t.0 ∙ s.0, t.1 ∙ s.1)
