-- Whole numbers up to a multiple of a modulus.
use Rattle.std.proofs.Common.{◌≡◌, ℕ, suc, ◌+◌, ◌-◌, ◌*◌, ◌/◌, ◌%◌, ◌^◌, ◌<◌, ◌≤◌, Bool, true, false, ℤ, pos, negsuc, ◌+ℤ◌}
use Rattle.std.proofs.Common.{refl, sym, ap, ◌∙◌, arith, mod-lt, div-add-mod', mul-le-mul_left, mul_assoc, pow_pos, unsigned_abs, ltb}
use Rattle.std.specs.Int.{Width, int_wrap, int_rem_euclid}
use Rattle.std.proofs.lemmas.Int.{int_rem_euclid_is, ints}
use mir.Val.{bits, hbits, sel}
use borrow.Author.Differences.{up, down}

-- the number from 0 to m - 1 that differs from z by a multiple of m
abbrev pub low : ℕ → ℤ → ℕ
low m z = unsigned_abs (int_rem_euclid z (pos m))

pub low_same : (m : ℕ) (a b : ℤ) (j k : ℕ) → 0 < m → a +ℤ pos (j * m) ≡ b +ℤ pos (k * m) → low m a ≡ low m b
low_same m a b j k some e =
    let t = down a + down b in
    let far : t * 1 ≤ t * m = mul-le-mul_left t some in
    let n = up a + (j + t) * m - down a in
    let from : (z : ℤ) (i : ℕ) → z +ℤ pos ((i + t) * m) ≡ pos n → low m z ≡ n % m = λ z i h. ap unsigned_abs (int_rem_euclid_is z (pos m) m (i + t) n some refl h) in
    from a j (omega (arith, ints)) ∙ sym (from b k (omega (arith, ints)))

pub low_lt : (m : ℕ) (z : ℤ) → 0 < m → low m z < m
low_lt m (pos a) some = mod-lt a some
low_lt m (negsuc a) some = let h = mod-lt a some in omega arith

-- z and its remainder differ by a multiple of m
pub record Near (m : ℕ) (y z : ℤ) : Type 0 where
  pub below : ℕ
  pub above : ℕ
  pub same : y +ℤ pos (below * m) ≡ z +ℤ pos (above * m)

pub low_near : (m : ℕ) (z : ℤ) → 0 < m → Near m (pos (low m z)) z
low_near m (pos a) some = let d = div-add-mod' a m in record { below = a / m; above = 0; same = omega (arith, ints) }
low_near m (negsuc a) some =
    let d = div-add-mod' a m in
    let h = mod-lt a some in
    record { below = 0; above = a / m + 1; same = omega (arith, ints) }

pub low_add : (m : ℕ) (x y c : ℤ) → 0 < m → low m x ≡ low m y → low m (x +ℤ c) ≡ low m (y +ℤ c)
low_add m x y c some e =
    let a = low_near m x some in
    let b = low_near m y some in
    let p = a.same in
    let q = b.same in
    low_same m (x +ℤ c) (y +ℤ c) (a.above + b.below) (b.above + a.below) some (omega (arith, ints))

read : (b n : ℕ) → n < b → (t : Bool) → Near b (sel t (pos n) (negsuc (b - suc n))) (pos n)
read b n lt true = record { below = 0; above = 0; same = omega (arith, ints) }
read b n lt false = record { below = 1; above = 0; same = omega (arith, ints) }

-- a remainder by a divisor of the modulus is the same too
near_low : (m c b : ℕ) (y z : ℤ) → 0 < m → b ≡ c * m → Near b y z → low m y ≡ low m z
near_low m c b y z some e r =
    let times : (x : ℕ) → x * b ≡ x * c * m = λ x. ap (λ k. x * k) e ∙ sym (mul_assoc x c m) in
    low_same m y z (r.below * c) (r.above * c) some
    (ap (λ k. y +ℤ pos k) (sym (times r.below)) ∙ r.same ∙ ap (λ k. z +ℤ pos k) (times r.above))

-- to wrap at more bits changes no remainder
pub low_wrapped : (w : Width) (m c : ℕ) (z : ℤ) → 0 < m → 2 ^ bits w ≡ c * m → low m (int_wrap w z) ≡ low m z
unfolding int_wrap
low_wrapped w m c z some e =
    let b = 2 ^ bits w in
    let n = low b z in
    let more = pow_pos (bits w) in
    near_low m c b (int_wrap w z) (pos n) some e (read b n (low_lt b z more) (ltb n (2 ^ hbits w)))
    ∙ near_low m c b (pos n) z some e (low_near b z more)
