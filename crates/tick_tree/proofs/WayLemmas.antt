-- Ways as a flag and a number whose bits are depths.
use Rattle.std.proofs.Common.{◌≡◌, ℕ, suc, ◌*◌, ◌/◌, ◌%◌, ◌^◌, ◌<◌, max, ◌==◌, Bool, true, false, ◌&&◌, ◌||◌, cond, arith, refl, sym, ap, ◌∙◌}
use Rattle.std.specs.Int.{bit_at}
use Rattle.std.specs.Int.RustNames.{bit_or}
use Rattle.std.proofs.lemmas.Nat.{one_shl}
use Rattle.std.proofs.lemmas.Bool.Decides.{nat_tests}
use Rattle.std.proofs.lemmas.Nat.Bits.{bit_at_or, bit_at-suc, bit_at_lowest, bit_at-zero, bit_at-pow_same, bit_at-pow_other}
use Rattle.kernel_terms.specs.MayEnd.{Ways, either, in_turn, beside, within_trap, exits_to}
use Rattle.tick_tree.specs.Measures.{bit_of, AreWays}
use Rattle.tick_tree.specs.declared.measure.Exits.{Exits}

max-bits : (a b : Bool) → max (bit_of a) (bit_of b) ≡ bit_of (a || b)
max-bits true true = refl
max-bits true false = refl
max-bits false true = refl
max-bits false false = refl

-- the union of two sets of depths
pub or-bits : (a b d : ℕ) (x y : Bool) → bit_at a d ≡ bit_of x → bit_at b d ≡ bit_of y → bit_at (bit_or a b) d ≡ bit_of (x || y)
or-bits a b d x y h k = bit_at_or a b d ∙ ap (λ i. max i (bit_at b d)) h ∙ ap (λ i. max (bit_of x) i) k ∙ max-bits x y

if-bit : (e : Bool) (b d : ℕ) (y : Bool) → bit_at b d ≡ bit_of y → bit_at (cond e b 0) d ≡ bit_of (e && y)
if-bit true b d y h = h
if-bit false b d y h = bit_at-zero d

pub ways-either : (v w : Ways) (a b c : Exits) → AreWays v a → AreWays w b → c.ends ≡ a.ends || b.ends → c.traps ≡ bit_or a.traps b.traps → AreWays (either v w) c
ways-either v w a b c x y e t = record {
  may_end = e ∙ ap (λ i. i || b.ends) x.may_end ∙ ap (λ i. v.ends || i) y.may_end;
  may_exit = λ d. ap (λ i. bit_at i d) t ∙ or-bits a.traps b.traps d (v.exits d) (w.exits d) (x.may_exit d) (y.may_exit d);
}

pub ways-in_turn : (v w : Ways) (a b c : Exits) → AreWays v a → AreWays w b → c.ends ≡ a.ends && b.ends → c.traps ≡ bit_or a.traps (cond a.ends b.traps 0) → AreWays (in_turn v w) c
ways-in_turn v w a b c x y e t = record {
  may_end = e ∙ ap (λ i. i && b.ends) x.may_end ∙ ap (λ i. v.ends && i) y.may_end;
  may_exit = λ d. ap (λ i. bit_at i d) t
      ∙ ap (λ i. bit_at (bit_or a.traps (cond i b.traps 0)) d) x.may_end
      ∙ or-bits a.traps (cond v.ends b.traps 0) d (v.exits d) (v.ends && w.exits d) (x.may_exit d) (if-bit v.ends b.traps d (w.exits d) (y.may_exit d));
}

pub ways-beside : (v w : Ways) (a b c : Exits) → AreWays v a → AreWays w b → c.ends ≡ a.ends && b.ends → c.traps ≡ bit_or a.traps b.traps → AreWays (beside v w) c
ways-beside v w a b c x y e t = record {
  may_end = e ∙ ap (λ i. i && b.ends) x.may_end ∙ ap (λ i. v.ends && i) y.may_end;
  may_exit = λ d. ap (λ i. bit_at i d) t ∙ or-bits a.traps b.traps d (v.exits d) (w.exits d) (x.may_exit d) (y.may_exit d);
}

test-bit : (b : Bool) (n : ℕ) → n ≡ bit_of b → n == 1 ≡ b
test-bit true n h = ap (λ i. i == 1) h
test-bit false n h = ap (λ i. i == 1) h

pub ways-trap : (w : Ways) (a c : Exits) → AreWays w a → c.ends ≡ a.ends || (a.traps % 2 == 1) → c.traps ≡ a.traps / 2 → AreWays (within_trap w) c
ways-trap w a c x e t = record {
  may_end = e ∙ ap (λ i. i || (a.traps % 2 == 1)) x.may_end ∙ ap (λ i. w.ends || i) (test-bit (w.exits 0) (a.traps % 2) (sym (bit_at_lowest a.traps) ∙ x.may_exit 0));
  may_exit = λ d. ap (λ i. bit_at i d) t ∙ sym (bit_at-suc a.traps d) ∙ x.may_exit (suc d);
}

exit-bit : (n d : ℕ) (b : Bool) → n == d ≡ b → bit_at (2 ^ n) d ≡ bit_of b
exit-bit n d true h = let e : d ≡ n = grind (arith, nat_tests) in ap (λ k. bit_at (2 ^ n) k) e ∙ bit_at-pow_same n
exit-bit n d false h = bit_at-pow_other n d (λ e. grind (arith, nat_tests))

pub ways-exit : (n : ℕ) (c : Exits) → n < 64 → c.ends ≡ false → c.traps ≡ (1 * 2 ^ n) % 2 ^ 64 → AreWays (exits_to n) c
ways-exit n c lt e t = record { may_end = e; may_exit = λ d. ap (λ k. bit_at k d) (t ∙ one_shl n 64 lt) ∙ exit-bit n d (n == d) refl }
