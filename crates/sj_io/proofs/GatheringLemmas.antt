-- What waits for a sink, one step after another.
use Rattle.std.proofs.Common.{◌≡◌, ℕ, ◌+◌, ◌-◌, ◌≤◌, List, [], ◌++◌, length, take, drop, min, refl, sym, ap, ◌∙◌, subst, arith, append_assoc, length-take}
use Rattle.std.proofs.lemmas.List.{take-append-drop, drop-append-le, append-nil, drop-drop, drop_all, take_all, take_rest}
use Rattle.std.proofs.lemmas.Slice.{take-put_mid, between_is}
use Rattle.std.proofs.Math.Seq.{take-add}
use Rattle.std.specs.Prelude.{Option, Some, None}
use Rattle.sj_io.specs.definitions.Sinks.{TakesMore}
use Rattle.sj_io.specs.definitions.Gathers.{Gathers, GathersPrefix}
use borrow.Rule.Slice.PartMut.{put_mid}

-- a copy into the buffer from `to` on
pub kept : (xs ys : List ℕ) (from to n k : ℕ) → from ≤ to → to ≤ length xs → n ≡ length ys → drop from (take (to + n) (put_mid to k xs ys)) ≡ drop from (take to xs) ++ ys
kept xs ys from to n k within fits len =
    let e : to + n ≡ to + length ys = omega arith in
    let size : from ≤ length (take to xs) = omega (arith, length-take to xs) in
    ap (drop from) (take-put_mid to k xs ys (to + n) e fits) ∙ drop-append-le from (take to xs) ys size

takes_both : (a b c : Option (List ℕ)) (x y : List ℕ) → TakesMore a b x → TakesMore b c y → TakesMore a c (x ++ y)
takes_both None b c x y h t = tt
takes_both (Some old) b c x y h t = more b c old x y h t where
  more : (b c : Option (List ℕ)) (old x y : List ℕ) → b ≡ Some (old ++ x) → TakesMore b c y → c ≡ Some (old ++ (x ++ y))
  more None c old x y e t = cc
  more (Some v) c old x y e t = let v_is : v ≡ old ++ x = cc in t ∙ ap (λ l. Some (l ++ y)) v_is ∙ ap Some (append_assoc old x y)

takes_nothing : (a : Option (List ℕ)) → TakesMore a a []
takes_nothing None = tt
takes_nothing (Some old) = ap Some (sym (append-nil old))

-- bytes that only wait
pub gathers_kept : (a : Option (List ℕ)) (u x : List ℕ) → Gathers a a u (u ++ x) x
gathers_kept a u x = record { part = []; takes = takes_nothing a; split = refl }

-- a text for which there is room
pub gathers_fitting : (a : Option (List ℕ)) (u w xs : List ℕ) (n room : ℕ) → length xs ≤ room → n ≡ min (length xs) room → w ≡ u ++ take n xs → Gathers a a u w xs
gathers_fitting a u w xs n room le is e =
    let whole : take n xs ≡ xs = take_all n xs (omega (arith, is)) in
    subst (λ l. Gathers a a u l xs) (sym (e ∙ ap (λ l. u ++ l) whole)) (gathers_kept a u xs)

pub gathers_nothing : (a : Option (List ℕ)) (u : List ℕ) → Gathers a a u u []
gathers_nothing a u = record { part = []; takes = takes_nothing a; split = sym (append-nil u) }

-- one after another
pub gathers_both : (a b c : Option (List ℕ)) (u v w x y : List ℕ) → Gathers a b u v x → Gathers b c v w y → Gathers a c u w (x ++ y)
gathers_both a b c u v w x y g h = record {
  part = g.part ++ h.part;
  takes = takes_both a b c g.part h.part g.takes h.takes;
  split = append_assoc g.part h.part w ∙ ap (λ l. g.part ++ l) h.split ∙ sym (append_assoc g.part v y) ∙ ap (λ l. l ++ y) g.split ∙ append_assoc u x y;
}

-- the sink takes n of the bytes from `from` to `to`
pub gathers_taken : (a b c : Option (List ℕ)) (u xs : List ℕ) (from to n : ℕ) → Gathers a b u (drop from (take to xs)) [] → TakesMore b c (take n (take (to - from) (drop from xs))) → Gathers a c u (drop (from + n) (take to xs)) []
gathers_taken a b c u xs from to n g t =
    let v = drop from (take to xs) in
    let more : TakesMore b c (take n v) = subst (λ l. TakesMore b c (take n l)) (between_is xs from to) t in
    let rest : take n v ++ drop (from + n) (take to xs) ≡ v = ap (λ l. take n v ++ l) (sym (drop-drop n from (take to xs))) ∙ take-append-drop n v in
    record {
      part = g.part ++ take n v;
      takes = takes_both a b c g.part (take n v) g.takes more;
      split = append_assoc g.part (take n v) (drop (from + n) (take to xs)) ∙ ap (λ l. g.part ++ l) rest ∙ g.split;
    }

-- all that waited is taken
pub gathers_all : (a b : Option (List ℕ)) (u xs ys : List ℕ) (from to : ℕ) → to ≤ from → Gathers a b u (drop from (take to xs)) [] → Gathers a b u (drop 0 (take 0 ys)) []
gathers_all a b u xs ys from to le g =
    let none : drop from (take to xs) ≡ [] = drop_all from (take to xs) (omega (arith, length-take to xs)) in
    subst (λ l. Gathers a b u l []) none g

-- after the first bytes of a text, n more of them
pub gathers_on : (a b c : Option (List ℕ)) (u v w w' xs : List ℕ) (i n : ℕ) → Gathers a b u v (take i xs) → Gathers b c v w [] → w' ≡ w ++ take n (take (length xs - i) (drop i xs)) → Gathers a c u w' (take (i + n) xs)
gathers_on a b c u v w w' xs i n g h e =
    let y = take n (drop i xs) in
    let more : w' ≡ w ++ y = e ∙ ap (λ l. w ++ take n l) (take_rest xs i) in
    let handed : Gathers a c u w (take i xs) = subst (λ l. Gathers a c u w l) (append-nil (take i xs)) (gathers_both a b c u v w (take i xs) [] g h) in
    let all : take i xs ++ y ≡ take (i + n) xs = sym (take-add i n xs) in
    subst (λ l. Gathers a c u l (take (i + n) xs)) (sym more) (subst (λ l. Gathers a c u (w ++ y) l) all (gathers_both a c c u w (w ++ y) (take i xs) y handed (gathers_kept c w y)))

-- the sink fails after the first bytes of a text
pub gathers_prefix : (a b c : Option (List ℕ)) (u v w xs : List ℕ) (i : ℕ) → Gathers a b u v (take i xs) → Gathers b c v w [] → GathersPrefix a c u w xs
gathers_prefix a b c u v w xs i g h = record { count = i; gathers = subst (λ l. Gathers a c u w l) (append-nil (take i xs)) (gathers_both a b c u v w (take i xs) [] g h) }

pub ruleset flush_steps = (gathers_nothing, gathers_taken, gathers_all)

pub ruleset put_steps = (gathers_nothing, gathers_on, gathers_prefix)
