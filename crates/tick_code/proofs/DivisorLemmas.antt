-- Divisors of a small code.
use Rattle.std.proofs.Common.{rules, ◌≡◌, ◌≢◌, ℕ, ℤ, pos, sym, refl, ◌==◌, cond, [], ◌∷◌, inl, inr, arith}
use Rattle.java_values.specs.declared.kind.Kind.TheVariants.{Int}
use Rattle.wire_code.specs.declared.formula.Formula.TheVariants.{Const, Get}
use Rattle.tick_code.specs.WellKinded.{Gives, Of, Constant, Suits}
use Rattle.tick_code.specs.SmallCodes.{divided_by}

const_is : (m d : ℤ) → Const m ≡ Const d → m ≡ d
const_is m d e = search rules

get_not_const : (k : ℕ) (d : ℤ) → Get k ≡ Const d → ⊥
get_not_const k d e = search rules

pub zero_refused : (d : ℤ) → d ≢ pos 0 → Gives (divided_by (Const (pos 0))) 1 (Const d) → ⊥
zero_refused d n (inl h) = absurd (omega (arith, h.0))
zero_refused d n (inr (inl h)) = n (sym (const_is (pos 0) d h.1))
zero_refused d n (inr (inr (inl h))) = absurd (omega (arith, h.0))
zero_refused d n (inr (inr (inr h))) = absurd h

pub place_refused : (d : ℤ) → Gives (divided_by (Get 0)) 1 (Const d) → ⊥
place_refused d (inl h) = absurd (omega (arith, h.0))
place_refused d (inr (inl h)) = get_not_const 0 d h.1
place_refused d (inr (inr (inl h))) = absurd (omega (arith, h.0))
place_refused d (inr (inr (inr h))) = absurd h

pub divided_by_two : Suits (divided_by (Const (pos 2))) (pos 7 ∷ [])
divided_by_two =
    record {
      kinds = Int ∷ [];
      lie = (search rules, tt);
      well = record {
        classes = λ k. cond (k == 1) (Constant (pos 2)) (Of Int);
        each = (
          (search rules, refl),
          (refl, ((refl, search rules, record { divisor = pos 2; gives = inr (inl (refl, refl)); not_zero = search rules }, refl), tt)),
        );
      };
    }
