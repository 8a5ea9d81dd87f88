-- One pass over the places and one over the ends complete what the joins of the ends complete one after another.
use Rattle.std.proofs.Common.{◌≡◌, ◌≢◌, ℕ, zero, suc, ◌+◌, ◌<◌, ◌≤◌, ℤ, pos, Bool, true, false, cond, List, [], ◌∷◌, ◌++◌, length, get_or, Option, Some, None, refl, sym, ap, ◌∙◌, inl, inr, ◌⊎◌, arith}
use Rattle.std.specs.Prelude.{◌||◌, ◌&&◌, ◌==◌, is_some}
use Rattle.std.proofs.Math.Path.{fun_ext}
use Rattle.std.proofs.lemmas.Bool.{cases_eq, cases_lt, eq-eqb, eqb-true, ne_eqb, true≢false}
use Rattle.std.proofs.lemmas.List.{get_or_past}
use Rattle.java_values.specs.Arithmetic.{is_true}
use Rattle.kernel_rules.specs.definitions.Signals.{put_at}
use Rattle.cell_core.specs.declared.moves.Side.{Side}
use Rattle.cell_core.specs.declared.moves.Side.TheVariants.{Sender, Receiver}
use Rattle.cell_core.specs.declared.moves.Joined.{Joined}
use Rattle.plain_code.specs.declared.end_place.EndPlace.{EndPlace}
use Rattle.domain_core.specs.declared.step.ends_of.EndOf.{EndOf}
use Rattle.domain_core.specs.definitions.step.EndCalls.{end_at}
use Rattle.domain_core.specs.definitions.step.EndRegisters.{receivers_before, met_at, met, with_last, joined_at, registers_joined}
use Rattle.domain_core.specs.definitions.step.Domains.{is_receiver}
use Rattle.domain_core.specs.step.EndPlaces.{LastFits, is_joined, met_where_at, met_where, kept_at, kept, Rise, HaveOwnRegisters}
use Rattle.domain_core.proofs.lemmas.runs.StatesBetweenTicks.{put_apart}

-- writes to two registers, in either order
put_swap : (r : ℕ → ℤ) (a b : ℕ) (v w : ℤ) → a ≢ b → put_at (put_at r a v) b w ≡ put_at (put_at r b w) a v
put_swap r a b v w ne = fun_ext (λ k. at k (k == a) (k == b) refl refl)
  where
    at : (k : ℕ) (s t : Bool) → (k == a) ≡ s → (k == b) ≡ t → cond t w (cond s v (r k)) ≡ cond s v (cond t w (r k))
    at k true true is it = absurd (ne (sym (eqb-true k a is) ∙ eqb-true k b it))
    at k true false is it = refl
    at k false true is it = refl
    at k false false is it = refl

put_twice : (r : ℕ → ℤ) (a : ℕ) (v : ℤ) → put_at (put_at r a v) a v ≡ put_at r a v
put_twice r a v = fun_ext (λ k. at (k == a) (r k))
  where
    at : (t : Bool) (x : ℤ) → cond t v (cond t v x) ≡ cond t v x
    at true x = refl
    at false x = refl

-- a write to a register that is none of the place's
met_put_at : (t : ℕ → Bool) (p : EndPlace) (r : ℕ → ℤ) (l : ℕ) (v : ℤ) → p.on ≢ l → l ≢ p.met → met_where_at t p (put_at r l v) ≡ put_at (met_where_at t p r) l v
met_put_at t p r l v on ne =
    ap (λ x. cond (t p.which && is_true x) (put_at (put_at r l v) p.met (pos 1)) (put_at r l v)) (put_apart r l v p.on on)
    ∙ by_test (t p.which && is_true (r p.on))
  where
    by_test : (b : Bool) → cond b (put_at (put_at r l v) p.met (pos 1)) (put_at r l v) ≡ put_at (cond b (put_at r p.met (pos 1)) r) l v
    by_test true = put_swap r l p.met v (pos 1) ne
    by_test false = refl

pub rise_within : (n m : ℕ) (ps : List EndPlace) → Rise n ps m → n ≤ m
rise_within n m [] h = h
rise_within n m (p ∷ ps) h = let x = rise_within (p.on + 2) m ps h.2 in omega (arith, x, h.0)

-- the same of all places
met_put : (t : ℕ → Bool) (ps : List EndPlace) (n m : ℕ) (r : ℕ → ℤ) (l : ℕ) (v : ℤ) → Rise n ps m → (l < n) ⊎ (m ≤ l) → met_where t ps (put_at r l v) ≡ put_at (met_where t ps r) l v
met_put t [] n m r l v rise out = refl
met_put t (p ∷ ps) n m r l v rise out =
    let end = rise_within (p.on + 2) m ps rise.2 in
    ap (met_where t ps) (met_put_at t p r l v (elim out [ inl low ↦ omega (arith, low, rise.0) | inr high ↦ omega (arith, high, end) ]) (elim out [ inl low ↦ omega (arith, low, rise.0, rise.1) | inr high ↦ omega (arith, high, end, rise.1) ]))
    ∙ met_put t ps (p.on + 2) m (met_where_at t p r) l v rise.2 (elim out [ inl low ↦ inl (omega (arith, low, rise.0)) | inr high ↦ inr high ])

-- a register before all places stays
met_before : (t : ℕ → Bool) (ps : List EndPlace) (n m : ℕ) (r : ℕ → ℤ) (k : ℕ) → Rise n ps m → k < n → met_where t ps r k ≡ r k
met_before t [] n m r k rise low = refl
met_before t (p ∷ ps) n m r k rise low =
    met_before t ps (p.on + 2) m (met_where_at t p r) k rise.2 (omega (arith, low, rise.0)) ∙ by_test (t p.which && is_true (r p.on))
  where
    by_test : (b : Bool) → cond b (put_at r p.met (pos 1)) r k ≡ r k
    by_test true = put_apart r p.met (pos 1) k (omega (arith, low, rise.0, rise.1))
    by_test false = refl

-- a place, and the places after it, in either order
met_swap : (t u : ℕ → Bool) (p : EndPlace) (ps : List EndPlace) (m : ℕ) (g : ℕ → ℤ) → p.met ≡ p.on + 1 → Rise (p.on + 2) ps m → met_where_at t p (met_where u ps g) ≡ met_where u ps (met_where_at t p g)
met_swap t u p ps m g is rise =
    ap (λ x. cond (t p.which && is_true x) (put_at (met_where u ps g) p.met (pos 1)) (met_where u ps g)) (met_before u ps (p.on + 2) m g p.on rise (omega arith))
    ∙ by_test (t p.which && is_true (g p.on))
  where
    by_test : (b : Bool) → cond b (put_at (met_where u ps g) p.met (pos 1)) (met_where u ps g) ≡ met_where u ps (cond b (put_at g p.met (pos 1)) g)
    by_test true = sym (met_put u ps (p.on + 2) m g p.met (pos 1) rise (inl (omega (arith, is))))
    by_test false = refl

met_again : (t u : ℕ → Bool) (p : EndPlace) (r : ℕ → ℤ) → p.met ≡ p.on + 1 → met_where_at t p (met_where_at u p r) ≡ met_where_at (λ w. u w || t w) p r
met_again t u p r is =
    ap (λ x. cond (t p.which && is_true x) (put_at (met_where_at u p r) p.met (pos 1)) (met_where_at u p r)) (same (u p.which && is_true (r p.on)))
    ∙ by_tests (u p.which) (t p.which) (is_true (r p.on))
  where
    same : (b : Bool) → cond b (put_at r p.met (pos 1)) r p.on ≡ r p.on
    same true = put_apart r p.met (pos 1) p.on (omega (arith, is))
    same false = refl

    by_tests : (a b c : Bool) → cond (b && c) (put_at (cond (a && c) (put_at r p.met (pos 1)) r) p.met (pos 1)) (cond (a && c) (put_at r p.met (pos 1)) r) ≡ cond ((a || b) && c) (put_at r p.met (pos 1)) r
    by_tests true true true = put_twice r p.met (pos 1)
    by_tests true true false = refl
    by_tests true false c = refl
    by_tests false true true = refl
    by_tests false true false = refl
    by_tests false false c = refl

-- two passes in one
met_both : (t u : ℕ → Bool) (ps : List EndPlace) (n m : ℕ) (r : ℕ → ℤ) → Rise n ps m → met_where t ps (met_where u ps r) ≡ met_where (λ w. u w || t w) ps r
met_both t u [] n m r rise = refl
met_both t u (p ∷ ps) n m r rise =
    ap (met_where t ps) (met_swap t u p ps m (met_where_at u p r) rise.1 rise.2)
    ∙ ap (λ x. met_where t ps (met_where u ps x)) (met_again t u p r rise.1)
    ∙ met_both t u ps (p.on + 2) m (met_where_at (λ w. u w || t w) p r) rise.2

met_of_one : (ps : List EndPlace) (k : ℕ) (r : ℕ → ℤ) → met ps k r ≡ met_where (λ w. w == k) ps r
met_of_one [] k r = refl
met_of_one (p ∷ ps) k r = met_of_one ps k (met_at k p r)

met_of_none : (ps : List EndPlace) (r : ℕ → ℤ) → met_where (λ w. false) ps r ≡ r
met_of_none [] r = refl
met_of_none (p ∷ ps) r = met_of_none ps r

-- the ends among the first so many at which a join was answered
abbrev joined_first : List (Option Joined) → ℕ → ℕ → Bool
joined_first answers zero w = false
joined_first answers (suc n) w = joined_first answers n w || (is_some (get_or answers n None) && (w == n))

left_out : (a b c : Bool) → a ≡ false → c ≡ false → a || (b && c) ≡ false
left_out true b c h k = absurd (true≢false h)
left_out false true c h k = k
left_out false false c h k = refl

taken : (a b c x : Bool) → a ≡ false → c ≡ true → b ≡ x → a || (b && c) ≡ x
taken true b c x h k e = absurd (true≢false h)
taken false true c x h k e = k ∙ e
taken false false c x h k e = e

stays : (a b c x : Bool) → a ≡ x → c ≡ false → a || (b && c) ≡ x
stays true b c x h k = h
stays false true c x h k = k ∙ h
stays false false c x h k = h

joined_past : (answers : List (Option Joined)) (n w : ℕ) → n ≤ w → joined_first answers n w ≡ false
joined_past answers zero w le = refl
joined_past answers (suc n) w le =
    left_out (joined_first answers n w) (is_some (get_or answers n None)) (w == n) (joined_past answers n w (omega (arith, le))) (ne_eqb w n (omega (arith, le)))

joined_below : (answers : List (Option Joined)) (n w : ℕ) → w < n → joined_first answers n w ≡ is_joined answers w
joined_below answers zero w less = absurd (omega (arith, less))
joined_below answers (suc n) w less = elim (cases_eq w n) [
  | inl e ↦ taken (joined_first answers n w) (is_some (get_or answers n None)) (w == n) (is_joined answers w) (joined_past answers n w (omega (arith, e))) (eq-eqb w n e) (ap (is_joined answers) (sym e))
  | inr ne ↦ stays (joined_first answers n w) (is_some (get_or answers n None)) (w == n) (is_joined answers w) (joined_below answers n w (omega (arith, less, ne))) (ne_eqb w n ne)
]

joined_all : (answers : List (Option Joined)) (n w : ℕ) → length answers ≡ n → joined_first answers n w ≡ is_joined answers w
joined_all answers n w len = elim (cases_lt w n) [
  | inl less ↦ joined_below answers n w less
  | inr past ↦ joined_past answers n w past ∙ sym (ap is_some (get_or_past answers w None (omega (arith, len, past))))
]

or_none : (a : Bool) → a ≡ a || false
or_none true = refl
or_none false = refl

module _ (places : List EndPlace) (last : List ℕ) (ends : List EndOf) (answers : List (Option Joined)) (m : ℕ) (own : HaveOwnRegisters places last) (fits : LastFits last ends m) where
  -- the values that are kept are in none of the places' registers
  kept_at_met : (t : ℕ → Bool) (k : ℕ) (a : Option Joined) (r : ℕ → ℤ) → k < length ends → met_where t places (kept_at ends last k a r) ≡ kept_at ends last k a (met_where t places r)
  kept_at_met t k None r less = refl
  kept_at_met t k (Some j) r less = by_side (end_at ends k).side refl
    where
      by_side : (s : Side) → (end_at ends k).side ≡ s →
          met_where t places (cond (is_receiver s) (put_at r (get_or last (receivers_before ends k) 0) j.value) r)
          ≡ cond (is_receiver s) (put_at (met_where t places r) (get_or last (receivers_before ends k) 0) j.value) (met_where t places r)
      by_side Sender is = refl
      by_side Receiver is = met_put t places 0 own.bound r (get_or last (receivers_before ends k) 0) j.value own.rise (inr (own.behind (receivers_before ends k) (fits.place k less is)))

  kept_met : (t : ℕ → Bool) (n : ℕ) (r : ℕ → ℤ) → n ≤ length ends → met_where t places (kept ends last answers n r) ≡ kept ends last answers n (met_where t places r)
  kept_met t zero r room = refl
  kept_met t (suc n) r room =
      kept_at_met t n (get_or answers n None) (kept ends last answers n r) (omega (arith, room)) ∙ ap (kept_at ends last n (get_or answers n None)) (kept_met t n r (omega (arith, room)))

  one_pass : (n : ℕ) (r : ℕ → ℤ) → n ≤ length ends → registers_joined places last ends answers n r ≡ kept ends last answers n (met_where (joined_first answers n) places r)
  one_pass zero r room = sym (met_of_none places r)
  one_pass (suc n) r room = by_answer (get_or answers n None) (one_pass n r (omega (arith, room)))
    where
      by_answer : (a : Option Joined) → registers_joined places last ends answers n r ≡ kept ends last answers n (met_where (joined_first answers n) places r) →
          joined_at places last ends n a (registers_joined places last ends answers n r)
          ≡ kept_at ends last n a (kept ends last answers n (met_where (λ w. joined_first answers n w || (is_some a && (w == n))) places r))
      by_answer None before = before ∙ ap (λ t. kept ends last answers n (met_where t places r)) (fun_ext (λ w. or_none (joined_first answers n w)))
      by_answer (Some j) before =
          ap (λ x. with_last ends last n j.value (met places n x)) before
          ∙ ap (with_last ends last n j.value)
          (met_of_one places n (kept ends last answers n (met_where (joined_first answers n) places r))
          ∙ kept_met (λ w. w == n) n (met_where (joined_first answers n) places r) (omega (arith, room))
          ∙ ap (kept ends last answers n) (met_both (λ w. w == n) (joined_first answers n) places 0 own.bound r own.rise))

  pub joins_in_passes : (r : ℕ → ℤ) → length answers ≡ length ends → kept ends last answers (length ends) (met_where (is_joined answers) places r) ≡ registers_joined places last ends answers (length ends) r
  joins_in_passes r len =
      ap (λ t. kept ends last answers (length ends) (met_where t places r)) (sym (fun_ext (λ w. joined_all answers (length ends) w len)))
      ∙ sym (one_pass (length ends) r (omega arith))

-- the registers of the places of a statement rise
pub rise_lower : (n m k : ℕ) (ps : List EndPlace) → n ≤ m → Rise m ps k → Rise n ps k
rise_lower n m k [] le h = omega (arith, le, h)
rise_lower n m k (p ∷ ps) le h = (omega (arith, le, h.0), h.1, h.2)

pub rise-append : (a b : List EndPlace) (n m k : ℕ) → Rise n a m → Rise m b k → Rise n (a ++ b) k
rise-append [] b n m k x y = rise_lower n m k b x y
rise-append (p ∷ a) b n m k x y = (x.0, x.1, rise-append a b (p.on + 2) m k x.2 y)
