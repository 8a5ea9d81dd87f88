-- Lists of numbers with wires, one after another.
use Rattle.std.proofs.Common.{◌≡◌, ℕ, ◌<◌, ◌≤◌, ℤ, Bool, true, false, ◌&&◌, ◌||◌, cond, nat_eq, List, [], ◌∷◌, ◌++◌, ◌⊎◌, inl, inr, arith, refl, sym, ap, ◌∙◌}
use Rattle.std.proofs.Math.Bool.{or_assoc}
use mathlib.Core.Path.{fun_ext}
use Rattle.plain_code.specs.Formulas.{is_on}
use Rattle.domain_core.specs.equations.Circuit.{is_set, emitted}
use Rattle.kernel_rules.specs.definitions.Signals.{Emission}

pub bool_cases : (b : Bool) → (b ≡ true) ⊎ (b ≡ false)
bool_cases true = inl refl
bool_cases false = inr refl

pub or_off : (b : Bool) → b || false ≡ b
or_off true = refl
or_off false = refl

pub and_off : (b : Bool) → b && false ≡ false
and_off true = refl
and_off false = refl

pub set-append : (w : List ℤ) (xs ys : List (ℕ × ℕ)) (n : ℕ) → is_set w (xs ++ ys) n ≡ is_set w xs n || is_set w ys n
set-append w [] ys n = refl
set-append w (x ∷ xs) ys n =
    ap (λ b. (nat_eq x.0 n && is_on w x.1) || b) (set-append w xs ys n) ∙ sym (or_assoc (nat_eq x.0 n && is_on w x.1) (is_set w xs n) (is_set w ys n))

cond-append : (b : Bool) (n : Emission) (xs ys zs : List Emission) → xs ≡ ys ++ zs → cond b (n ∷ xs) xs ≡ cond b (n ∷ ys) ys ++ zs
cond-append true n xs ys zs e = ap (λ l. n ∷ l) e
cond-append false n xs ys zs e = e

pub emitted-append : (w : List ℤ) (xs ys : List (ℕ × ℕ)) → emitted w (xs ++ ys) ≡ emitted w xs ++ emitted w ys
emitted-append w [] ys = refl
emitted-append w (x ∷ xs) ys = cond-append (is_on w x.1) _ _ _ _ (emitted-append w xs ys)

-- nothing of a list is on
pub record Off (w : List ℤ) (ss : List (ℕ × ℕ)) : Type 0 where
  pub each : (n : ℕ) → is_set w ss n ≡ false

pub off_append : (w : List ℤ) (xs ys : List (ℕ × ℕ)) → Off w xs → Off w ys → Off w (xs ++ ys)
off_append w xs ys a b = record { each = λ n. set-append w xs ys n ∙ ap (λ x. x || is_set w ys n) (a.each n) ∙ b.each n }

pub only_first : (w : List ℤ) (xs ys : List (ℕ × ℕ)) → Off w ys → is_set w (xs ++ ys) ≡ is_set w xs
only_first w xs ys b = fun_ext (λ n. set-append w xs ys n ∙ ap (λ y. is_set w xs n || y) (b.each n) ∙ or_off (is_set w xs n))

pub only_second : (w : List ℤ) (xs ys : List (ℕ × ℕ)) → Off w xs → is_set w (xs ++ ys) ≡ is_set w ys
only_second w xs ys a = fun_ext (λ n. set-append w xs ys n ∙ ap (λ x. x || is_set w ys n) (a.each n))

-- a list sets no register outside these
pub record Within (w : List ℤ) (ss : List (ℕ × ℕ)) (low high : ℕ) : Type 0 where
  pub below : (n : ℕ) → n < low → is_set w ss n ≡ false
  pub above : (n : ℕ) → high ≤ n → is_set w ss n ≡ false

pub within_append : (w : List ℤ) (xs ys : List (ℕ × ℕ)) (a b c d low high : ℕ) → low ≤ a → low ≤ c → b ≤ high → d ≤ high → Within w xs a b → Within w ys c d → Within w (xs ++ ys) low high
within_append w xs ys a b c d low high la lc bh dh x y =
    record {
      below = λ n h. set-append w xs ys n ∙ ap (λ v. v || is_set w ys n) (x.below n (omega arith)) ∙ y.below n (omega arith);
      above = λ n h. set-append w xs ys n ∙ ap (λ v. v || is_set w ys n) (x.above n (omega arith)) ∙ y.above n (omega arith);
    }
