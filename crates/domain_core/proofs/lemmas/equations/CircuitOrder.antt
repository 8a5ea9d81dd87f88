-- The equations of a copy stand in order, and its pairs name wires and numbers that there are.
use Rattle.std.proofs.Common.{◌≡◌, ℕ, ◌+◌, ◌<◌, ◌≤◌, Bool, true, false, List, [], ◌∷◌, ◌++◌, length, arith, refl, subst, length-append}
use Rattle.domain_core.specs.equations.BuiltForms.{Plain, Nothing, Pause, Emit, Seq, Loop, Send, Receive, ends0, ends1}
use Rattle.plain_code.specs.declared.equation.Equation.{Equation}
use Rattle.plain_code.specs.declared.formula.Formula.TheVariants.{Or}
use Rattle.plain_code.specs.Formulas.{IsOrdered, FitsFrame}
use Rattle.domain_core.specs.equations.BuiltRegisters.{registers}
use Rattle.domain_core.specs.equations.BuiltCodes.{Below}
use Rattle.domain_core.specs.equations.BuiltLimits.{EmitsBelow}
use Rattle.domain_core.specs.equations.Circuit.{Part, joined, joined_if, either, beside, either_if, again_if, waiting, start, resume}

pub ordered_append : (xs ys : List Equation) (n : ℕ) → IsOrdered n xs → IsOrdered (n + length xs) ys → IsOrdered n (xs ++ ys)
ordered_append [] ys n hx hy = let e : n + 0 ≡ n = omega arith in subst (λ k. IsOrdered k ys) e hy
ordered_append (x ∷ xs) ys n hx hy = let e : n + length (x ∷ xs) ≡ n + 1 + length xs = omega arith in (hx.0, hx.1, ordered_append xs ys (n + 1) hx.2 (subst (λ k. IsOrdered k ys) e hy))

pub fits_append : (xs ys : List Equation) (size : ℕ) → FitsFrame size xs → FitsFrame size ys → FitsFrame size (xs ++ ys)
fits_append [] ys size hx hy = hy
fits_append (x ∷ xs) ys size hx hy = (hx.0, fits_append xs ys size hx.1 hy)

pub below_more : (ss : List (ℕ × ℕ)) (count a b : ℕ) → a ≤ b → Below count a ss → Below count b ss
below_more [] count a b le h = tt
below_more (s ∷ ss) count a b le h = (h.0, omega (arith, h.1), below_more ss count a b le h.2)

pub below_append : (xs ys : List (ℕ × ℕ)) (count a : ℕ) → Below count a xs → Below count a ys → Below count a (xs ++ ys)
below_append [] ys count a hx hy = hy
below_append (x ∷ xs) ys count a hx hy = (hx.0, hx.1, below_append xs ys count a hx.2 hy)

-- over a frame of this size, with so many signals
pub record Stands (base size signals : ℕ) (part : Part) : Type 0 where
  pub ordered : IsOrdered base part.equations
  pub done : part.done < base + length part.equations
  pub sets : Below size (base + length part.equations) part.sets
  pub emits : Below signals (base + length part.equations) part.emits
  pub fits : FitsFrame size part.equations

stands_joined : (base size signals : ℕ) (a b : Part) → Stands base size signals a → Stands (base + length a.equations) size signals b → Stands base size signals (joined a b)
stands_joined base size signals a b x y =
    let len : base + length a.equations + length b.equations ≡ base + length (joined a b).equations = omega (arith, length-append a.equations b.equations) in
    record {
      ordered = ordered_append a.equations b.equations base x.ordered y.ordered;
      done = omega (arith, y.done, len);
      sets = below_append a.sets b.sets size _ (below_more a.sets size _ _ (omega (arith, len)) x.sets) (below_more b.sets size _ _ (omega (arith, len)) y.sets);
      emits = below_append a.emits b.emits signals _ (below_more a.emits signals _ _ (omega (arith, len)) x.emits) (below_more b.emits signals _ _ (omega (arith, len)) y.emits);
      fits = fits_append a.equations b.equations size x.fits y.fits;
    }

stands_joined_if : (e : Bool) (base size signals : ℕ) (a b : Part) → Stands base size signals a → Stands (base + length a.equations) size signals b → Stands base size signals (joined_if e a b)
stands_joined_if true base size signals a b x y = stands_joined base size signals a b x y
stands_joined_if false base size signals a b x y = x

quiet : (base size signals : ℕ) (part : Part) → 0 < base → Stands base size signals part → Stands base size signals (record part { done = 0 })
quiet base size signals part z x = record { ordered = x.ordered; done = omega arith; sets = x.sets; emits = x.emits; fits = x.fits }

pub start_stands : (p : Plain) (base go r size signals : ℕ) → 0 < base → go < base → r + registers p ≤ size → EmitsBelow signals p → Stands base size signals (start p base go r)
start_stands Nothing base go r size signals z g k e = record { ordered = tt; done = omega arith; sets = tt; emits = tt; fits = tt }
start_stands Pause base go r size signals z g k e = record { ordered = tt; done = omega arith; sets = (omega arith, omega arith, tt); emits = tt; fits = tt }
start_stands (Send c n) base go r size signals z g k e = record { ordered = tt; done = omega arith; sets = (omega arith, omega arith, tt); emits = tt; fits = tt }
start_stands (Receive c) base go r size signals z g k e = record { ordered = tt; done = omega arith; sets = (omega arith, omega arith, tt); emits = tt; fits = tt }
start_stands (Emit s) base go r size signals z g k e = record { ordered = tt; done = omega arith; sets = tt; emits = (e, omega arith, tt); fits = tt }
start_stands (Seq p q) base go r size signals z g k e =
    let a = start_stands p base go r size signals z g (omega arith) e.0 in
    stands_joined_if (ends0 p) base size signals _ _ a (start_stands q _ _ (r + registers p) size signals (omega arith) a.done (omega arith) e.1)
start_stands (Loop p) base go r size signals z g k e = quiet base size signals _ z (start_stands p base go r size signals z g k e)

stands_either : (base size signals : ℕ) (a b : Part) → Stands base size signals a → Stands (base + length a.equations) size signals b → Stands base size signals (either base a b)
stands_either base size signals a b x y =
    let last : Equation = record { wire = base + length a.equations + length b.equations; formula = Or a.done b.done } in
    let len : length (either base a b).equations ≡ length a.equations + length b.equations + 1 = omega (arith, length-append a.equations (b.equations ++ last ∷ []), length-append b.equations (last ∷ [])) in
    record {
      ordered = ordered_append a.equations (b.equations ++ last ∷ []) base x.ordered (ordered_append b.equations (last ∷ []) (base + length a.equations) y.ordered (refl, (omega (arith, x.done), y.done), tt));
      done = omega (arith, len);
      sets = below_append a.sets b.sets size _ (below_more a.sets size _ _ (omega (arith, len)) x.sets) (below_more b.sets size _ _ (omega (arith, len)) y.sets);
      emits = below_append a.emits b.emits signals _ (below_more a.emits signals _ _ (omega (arith, len)) x.emits) (below_more b.emits signals _ _ (omega (arith, len)) y.emits);
      fits = fits_append a.equations (b.equations ++ last ∷ []) size x.fits (fits_append b.equations (last ∷ []) size y.fits (tt, tt));
    }

stands_beside : (base size signals : ℕ) (a b : Part) → Stands base size signals a → Stands (base + length a.equations) size signals b → Stands base size signals (beside a b)
stands_beside base size signals a b x y =
    let j = stands_joined base size signals a b x y in
    record { ordered = j.ordered; done = omega (arith, x.done, length-append a.equations b.equations); sets = j.sets; emits = j.emits; fits = j.fits }

stands_either_if : (e : Bool) (base size signals : ℕ) (c a b : Part) → Stands base size signals c → Stands (base + length c.equations) size signals a → Stands (base + length c.equations + length a.equations) size signals b → Stands base size signals (either_if e base c a b)
stands_either_if true base size signals c a b u x y = stands_either base size signals c (joined a b) u (stands_joined _ size signals a b x y)
stands_either_if false base size signals c a b u x y = stands_beside base size signals c a u x

stands_again : (e : Bool) (base size signals : ℕ) (a b : Part) → 0 < base → Stands base size signals a → Stands (base + length a.equations) size signals b → Stands base size signals (again_if e a b)
stands_again true base size signals a b z x y = quiet base size signals _ z (stands_joined base size signals a b x y)
stands_again false base size signals a b z x y = quiet base size signals _ z x

waiting_stands : (base r size signals : ℕ) → r + 2 ≤ size → Stands base size signals (waiting base r)
waiting_stands base r size signals g = record {
  ordered = (refl, tt, (omega arith, tt, (omega arith, (omega arith, omega arith), (omega arith, omega arith, (omega arith, (omega arith, omega arith), tt)))));
  done = omega arith;
  sets = (omega arith, omega arith, tt);
  emits = tt;
  fits = (omega arith, (omega arith, (tt, (tt, (tt, tt)))));
}

pub resume_stands : (p : Plain) (base r size signals : ℕ) → 0 < base → r + registers p ≤ size → EmitsBelow signals p → Stands base size signals (resume p base r)
resume_stands Nothing base r size signals z g e = record { ordered = tt; done = omega arith; sets = tt; emits = tt; fits = tt }
resume_stands (Emit s) base r size signals z g e = record { ordered = tt; done = omega arith; sets = tt; emits = tt; fits = tt }
resume_stands (Send c n) base r size signals z g e = waiting_stands base r size signals (omega arith)
resume_stands (Receive c) base r size signals z g e = waiting_stands base r size signals (omega arith)
resume_stands Pause base r size signals z g e = record { ordered = (refl, tt, tt); done = omega arith; sets = tt; emits = tt; fits = (omega arith, tt) }
resume_stands (Loop p) base r size signals z g e =
    let a = resume_stands p base r size signals z g e in
    stands_again (ends1 p) base size signals _ _ z a (start_stands p _ _ r size signals (omega arith) a.done g e)
resume_stands (Seq p q) base r size signals z g e =
    let c = resume_stands q base (r + registers p) size signals z (omega arith) e.1 in
    let a = resume_stands p (base + length (resume q base (r + registers p)).equations) r size signals (omega arith) (omega arith) e.0 in
    let b = start_stands q (base + length (resume q base (r + registers p)).equations + length (resume p (base + length (resume q base (r + registers p)).equations) r).equations) _ (r + registers p) size signals (omega arith) a.done (omega arith) e.1 in
    stands_either_if (ends1 p) base size signals _ _ _ c a b
