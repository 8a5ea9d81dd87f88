-- The order of failures.
use Rattle.std.proofs.Common.{◌≡◌, ◌⊎◌, ℕ, ◌==◌, Bool, true, false, ◌&&◌, ◌||◌, nat_lt, cond, List, [], ◌∷◌, Some, None, inl, inr, ap, refl, sym, ◌∙◌, arith}
use Rattle.std.specs.Prelude.{Option, MatchOption}
use Rattle.std.specs.List.{list_any}
use Rattle.std.proofs.lemmas.Bool.Decides.{nat_tests}
use Rattle.sj_names.specs.declared.failure.Failure.{Failure}
use Rattle.sj_names.specs.definitions.Failures.{rank, is_before, lesser, least_of, IsLeast, IsOneOf}

-- of two numbers each, the first decides, and then the second
abbrev is_less : ℕ → ℕ → ℕ → ℕ → Bool
is_less a x b y = nat_lt a b || ((a == b) && nat_lt x y)

not_less_trans : (a x b y c z : ℕ) → is_less a x b y ≡ false → is_less b y c z ≡ false → is_less a x c z ≡ false
not_less_trans a x b y c z h k = grind (arith, nat_tests)

less_not : (a x b y c z : ℕ) → is_less a x b y ≡ true → is_less a x c z ≡ false → is_less b y c z ≡ false
less_not a x b y c z h k = grind (arith, nat_tests)

not_self : (a x : ℕ) → is_less a x a x ≡ false
not_self a x = grind (arith, nat_tests)

not_before_trans : (f g r : Failure) → is_before f g ≡ false → is_before g r ≡ false → is_before f r ≡ false
not_before_trans f g r = not_less_trans f.at (rank f.fault) g.at (rank g.fault) r.at (rank r.fault)

before_not : (f g r : Failure) → is_before f g ≡ true → is_before f r ≡ false → is_before g r ≡ false
before_not f g r = less_not f.at (rank f.fault) g.at (rank g.fault) r.at (rank r.fault)

abbrev NotBefore : Option Failure → Failure → Type 0
NotBefore None r = Unit {0}
NotBefore (Some g) r = is_before g r ≡ false

at_end : (o : Option Failure) (r : Failure) → o ≡ Some r → NotBefore o r
at_end None r h = tt
at_end (Some g) r h = ap (λ x. is_before x r) (same h) ∙ not_self r.at (rank r.fault)
  where
    same : Some g ≡ Some r → g ≡ r
    same e = cc

both_not : (o : Option Failure) (f r : Failure) → NotBefore (lesser o f) r → (is_before f r ≡ false) × NotBefore o r
both_not None f r h = (h, tt)
both_not (Some g) f r h = by (is_before f g) refl h
  where
    by : (b : Bool) → is_before f g ≡ b → NotBefore (cond b (Some f) (Some g)) r → (is_before f r ≡ false) × (is_before g r ≡ false)
    by true e k = (k, before_not f g r e k)
    by false e k = (not_before_trans f g r e k, k)

none_before : (o : Option Failure) (fs : List Failure) (r : Failure) → least_of o fs ≡ Some r → (list_any (λ g. is_before g r) fs ≡ false) × NotBefore o r
none_before o [] r h = (refl, at_end o r h)
none_before o (f ∷ fs) r h =
    let k = none_before (lesser o f) fs r h in
    let b = both_not o f r k.1 in
    (ap (λ x. x || list_any (λ g. is_before g r) fs) b.0 ∙ k.0, b.1)

one_of : (o : Option Failure) (fs : List Failure) (r : Failure) → least_of o fs ≡ Some r → (o ≡ Some r) ⊎ IsOneOf r fs
one_of o [] r h = inl h
one_of o (f ∷ fs) r h = step o (one_of (lesser o f) fs r h)
  where
    step : (p : Option Failure) → (lesser p f ≡ Some r) ⊎ IsOneOf r fs → (p ≡ Some r) ⊎ IsOneOf r (f ∷ fs)
    step p (inr k) = inr (inr k)
    step None (inl k) = inr (inl (let e : r ≡ f = cc in e))
    step (Some g) (inl k) = by (is_before f g) k
      where
        by : (b : Bool) → cond b (Some f) (Some g) ≡ Some r → (Some g ≡ Some r) ⊎ IsOneOf r (f ∷ fs)
        by true e = inr (inl (let q : r ≡ f = cc in q))
        by false e = inl e

some_stays : (f : Failure) (fs : List Failure) → least_of (Some f) fs ≡ None → ⊥
some_stays f [] h = cc
some_stays f (g ∷ fs) h = by (is_before g f) h (some_stays g fs) (some_stays f fs)
  where
    by : (b : Bool) → least_of (cond b (Some g) (Some f)) fs ≡ None → (least_of (Some g) fs ≡ None → ⊥) → (least_of (Some f) fs ≡ None → ⊥) → ⊥
    by true h i j = i h
    by false h i j = j h

-- the least of a list is none where the list is empty, and else its least
pub least_is : (fs : List Failure) (o : Option Failure) → o ≡ least_of None fs → MatchOption o (fs ≡ []) (λ f. IsLeast fs f)
least_is [] None h = refl
least_is (f ∷ fs) None h = absurd (some_stays f fs (sym h))
least_is fs (Some r) h = record { one = chosen (one_of None fs r (sym h)); first = (none_before None fs r (sym h)).0 }
  where
    chosen : (None ≡ Some r) ⊎ IsOneOf r fs → IsOneOf r fs
    chosen (inl e) = absurd (cc)
    chosen (inr k) = k
