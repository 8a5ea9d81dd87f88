-- Two branches beside each other.
use Rattle.std.proofs.Common.{◌≡◌, ℕ, suc, max, ◌+◌, ◌==◌, ℤ, pos, Bool, true, false, ◌&&◌, ◌||◌, cond, List, [], ◌++◌, ◌⊎◌, inl, inr, refl, sym, ap, ap₂, ◌∙◌, subst, arith}
use Rattle.std.proofs.lemmas.Bool.Decides.{nat_tests}
use Rattle.kernel_terms.specs.declared.tables.Tables.{Tables}
use Rattle.kernel_terms.specs.Statements.{Stmt, Nothing, Par}
use Rattle.kernel_terms.specs.MayEnd.{ends0, ends1}
use Rattle.kernel_rules.specs.definitions.Signals.{Env}
use Rattle.kernel_rules.specs.definitions.TickRule.{Tick, Ticks, ends_with, tick_of_both, variables_of_both}
use Rattle.kernel_rules.specs.definitions.Registers.{registers, live, residual, LivesApart, OverOrLive}
use Rattle.surf_graph.proofs.Booleans.{left_of, both_true, or_left, or_right}
use Rattle.std.specs.Int.{int_max}
use Rattle.surf_graph.specs.definitions.Formulas.{Equation, to_nat, is_on, told}
use Rattle.surf_graph.specs.definitions.Copies.{Copy, Context, below, from, joined, beside}
use Rattle.surf_graph.specs.definitions.Tells.{emitted, Off, registers_set, PureZero, Stands, Active, Quiet, Silent, Held}
use Rattle.surf_graph.proofs.SetValues.{off_joined, off_below, off_from, set_first, set_second, emitted_first, emitted_append, pure_append, told_both, told_neither}
use Rattle.surf_graph.proofs.RegisterRanges.{remain_Par, remains_still, Dead}
use Rattle.surf_graph.proofs.Leavings.{left_whole, is_one}
use Rattle.kernel_rules.proofs.TickLocalityLemmas.{leaves_nothing}
use Rattle.surf_graph.proofs.Parts.{by_cases, first_stands, second_stands, first_dies, second_dies, status_is}

-- A part keeps its registers where the whole keeps its own, and is held or pauses.
pub record Keeps (w : ℕ → ℤ) (k keep hold status : ℕ) : Type 0 where
  pub is : is_on w k ≡ is_on w keep && (is_on w hold || (to_nat (w status) == 2))

pub next_one : (n : ℕ) → (suc n == 2) ≡ (n == 1)
next_one n = by_cases (n == 1) (λ e. let i = is_one n e in ap (λ z. suc z == 2) i ∙ sym e) (λ e. let i : (suc n == 2) ≡ false = grind (arith, nat_tests) in i ∙ sym e)

pub and_swap : (a b : Bool) → a && b ≡ b && a
and_swap true true = refl
and_swap true false = refl
and_swap false true = refl
and_swap false false = refl

-- where nothing holds it and it ticks
pub kept : (w : ℕ → ℤ) (k keep hold status code : ℕ) → Keeps w k keep hold status → is_on w hold ≡ false → w status ≡ pos (suc code) → is_on w k ≡ (code == 1) && is_on w keep
kept w k keep hold status code h off s =
    h.is ∙ ap₂ (λ x y. is_on w keep && (x || (to_nat y == 2))) off s ∙ ap (λ x. is_on w keep && x) (next_one code) ∙ and_swap (is_on w keep) (code == 1)

-- where it is held
pub kept_held : (w : ℕ → ℤ) (k keep hold status : ℕ) → Keeps w k keep hold status → is_on w hold ≡ true → is_on w k ≡ is_on w keep
kept_held w k keep hold status h on = h.is ∙ ap (λ x. is_on w keep && (x || (to_nat (w status) == 2))) on ∙ and_swap (is_on w keep) true

pub and_off : (a b : Bool) → b ≡ false → a && b ≡ false
and_off true b h = h
and_off false b h = refl

-- A branch that ticks, or that isn't live.
pub record Branch (tables : Tables) (last : ℕ → ℤ) (env : Env) (x w : ℕ → ℤ) (p t : Stmt) (n keep : ℕ) (copy : Copy) : Type 0 where
  pub tick : Tick
  pub ticks : Ticks tables last t env x tick
  pub status : (w copy.status ≡ pos (suc tick.code)) ⊎ ((w copy.status ≡ pos 0) × (tick.code ≡ 0))
  pub emits : emitted w copy.emits ≡ tick.emits
  pub variables : told w copy.variables ≡ tick.variables
  pub pure : PureZero tables tick.emits
  pub sets : (tick.code == 1) && is_on w keep ≡ true → Stands tables p n (registers_set w copy.sets) tick.rest
  pub unset : (tick.code == 1) && is_on w keep ≡ false → Off w copy.sets
  pub over : tick.code ≡ 0 → ends0 p || ends1 p ≡ true

abbrev pub branch_ticks : (tables : Tables) (last : ℕ → ℤ) (env : Env) (x w : ℕ → ℤ) (p t : Stmt) (n keep : ℕ) (copy : Copy)
    → (u : Active tables last env x w p t n keep copy) → ((u.tick).code ≡ 0 → ends0 p || ends1 p ≡ true) → Branch tables last env x w p t n keep copy
branch_ticks tables last env x w p t n keep copy u over =
    let y = u.tells in
    record { tick = u.tick; ticks = u.ticks; status = inl y.status; emits = y.emits; variables = y.variables; pure = y.pure; sets = y.sets; unset = y.unset; over = over }

pub branch_over : (tables : Tables) (last : ℕ → ℤ) (env : Env) (x w : ℕ → ℤ) (p : Stmt) (n keep : ℕ) (copy : Copy)
    → Silent w x copy → ends0 p || ends1 p ≡ true → Branch tables last env x w p Nothing n keep copy
branch_over tables last env x w p n keep copy s over =
    let q = s.quiet in
    record {
      tick = ends_with [] x;
      ticks = refl;
      status = inr (q.status, refl);
      emits = q.emits;
      variables = q.variables;
      pure = tt;
      sets = λ e. cc;
      unset = λ e. s.sets;
      over = λ e. over;
    }

pub status_of_both : (w : ℕ → ℤ) (s a b i j : ℕ) → w s ≡ int_max (w a) (w b) → (w a ≡ pos (suc i)) ⊎ ((w a ≡ pos 0) × (i ≡ 0)) → (w b ≡ pos (suc j)) ⊎ ((w b ≡ pos 0) × (j ≡ 0)) → (w a ≡ pos 0 → w b ≡ pos 0 → ⊥) → w s ≡ pos (suc (max i j))
status_of_both w s a b i j h (inl x) (inl y) some = status_is w s a b (suc i) (suc j) (suc (max i j)) h x y (omega arith)
status_of_both w s a b i j h (inl x) (inr y) some = let e = y.1 in status_is w s a b (suc i) 0 (suc (max i j)) h x y.0 (omega (arith, e))
status_of_both w s a b i j h (inr x) (inl y) some = let e = x.1 in status_is w s a b 0 (suc j) (suc (max i j)) h x.0 y (omega (arith, e))
status_of_both w s a b i j h (inr x) (inr y) some = absurd (some x.0 y.0)

-- what the registers say of one branch of a whole that pauses
pub record Left (tables : Tables) (p : Stmt) (n : ℕ) (r : ℕ → ℤ) (t : Stmt) (code : ℕ) : Type 0 where
  pub left : cond (live tables p n r) (residual tables p n r) Nothing ≡ t
  pub over : OverOrLive (live tables p n r) p
  pub apart : LivesApart tables p n r
  pub is_live : (code == 1) ≡ true → live tables p n r ≡ true

left_live : (tables : Tables) (p : Stmt) (n : ℕ) (r : ℕ → ℤ) (t : Stmt) (code : ℕ) → Stands tables p n r t → Left tables p n r t code
left_live tables p n r t code s =
    record {
      left = ap (λ b. cond b (residual tables p n r) Nothing) (s.fits).is_live ∙ s.residual;
      over = ap (λ b. b || (ends0 p || ends1 p)) (s.fits).is_live;
      apart = (s.fits).apart;
      is_live = λ e. (s.fits).is_live;
    }

left_over : (tables : Tables) (p : Stmt) (n : ℕ) (r : ℕ → ℤ) (t : Stmt) (code : ℕ) → Dead tables p n r → (code == 1) ≡ false → t ≡ Nothing → ends0 p || ends1 p ≡ true → Left tables p n r t code
left_over tables p n r t code d c e over =
    record {
      left = ap (λ b. cond b (residual tables p n r) Nothing) d.live ∙ sym e;
      over = ap (λ b. b || (ends0 p || ends1 p)) d.live ∙ over;
      apart = d.apart;
      is_live = λ z. cc;
    }

-- by whether the branch pauses
pub left_branch : (tables : Tables) (last : ℕ → ℤ) (env : Env) (x w r : ℕ → ℤ) (p t : Stmt) (n keep : ℕ) (copy : Copy) (u : Branch tables last env x w p t n keep copy)
    → is_on w keep ≡ true → ((u.tick).code == 1 ≡ false → (u.tick).code ≡ 0)
    → ((s : Stmt) → Stands tables p n (registers_set w copy.sets) s → Stands tables p n r s) → (Off w copy.sets → Dead tables p n r)
    → Left tables p n r (u.tick).rest (u.tick).code
left_branch tables last env x w r p t n keep copy u on ends stands dies =
    by_cases ((u.tick).code == 1)
    (λ e. left_live tables p n r (u.tick).rest (u.tick).code (stands (u.tick).rest (u.sets (both_true ((u.tick).code == 1) (is_on w keep) e on))))
    (λ e. left_over tables p n r (u.tick).rest (u.tick).code (dies (u.unset (ap (λ b. b && is_on w keep) e))) e (leaves_nothing tables last t env x u.tick u.ticks e) (u.over (ends e)))

pub left_both : (tables : Tables) (p q : Stmt) (n : ℕ) (r : ℕ → ℤ) (s t : Stmt) (i j : ℕ) → ((i == 1) ≡ true) ⊎ ((j == 1) ≡ true) → Left tables p n r s i → Left tables q (n + registers tables p) r t j → Stands tables (Par p q) n r (Par s t)
left_both tables p q n r s t i j some a b =
    record {
      fits = record {
        is_live = elim some [
          | inl e ↦ or_left (live tables p n r) (live tables q (n + registers tables p) r) (a.is_live e)
          | inr e ↦ or_right (live tables p n r) (live tables q (n + registers tables p) r) (b.is_live e)
        ];
        apart = (λ v. (a.over, b.over), a.apart, b.apart);
      };
      residual = ap₂ Par a.left b.left;
    }

pub one_of : (i j : ℕ) → max i j ≡ 1 → ((i == 1) ≡ true) ⊎ ((j == 1) ≡ true)
one_of i j h = by_cases (i == 1) (λ e. inl e) (λ e. inr (grind (arith, nat_tests)))

pub first_zero : (i j : ℕ) → max i j ≡ 1 → (i == 1) ≡ false → i ≡ 0
first_zero i j h e = grind (arith, nat_tests)

pub second_zero : (i j : ℕ) → max i j ≡ 1 → (j == 1) ≡ false → j ≡ 0
second_zero i j h e = grind (arith, nat_tests)

abbrev pub par_active : (tables : Tables) (last : ℕ → ℤ) (env : Env) (x w : ℕ → ℤ) (p q t s : Stmt) (l : ℕ) (own : List Equation) (c : Context) (a b : Copy)
    → w (c.next + 3) ≡ int_max (w a.status) (w b.status) → Keeps w c.next c.keep c.hold (c.next + 3) → is_on w c.hold ≡ false
    → Branch tables last env x w p t c.register c.next a → Branch tables last env x w q s (c.register + registers tables p) c.next b
    → (w a.status ≡ pos 0 → w b.status ≡ pos 0 → ⊥)
    → ((o i : Tick) → Ticks tables last t env x o → Ticks tables last s env x i → variables_of_both p o.variables i.variables ≡ variables_of_both t o.variables i.variables)
    → Active tables last env x w (Par p q) (Par t s) c.register c.keep (beside tables p l own c a b)
par_active tables last env x w p q t s l own c a b h keeps off u v some same =
    let m = c.register + registers tables p in
    let i = (u.tick).code in
    let j = (v.tick).code in
    let J = joined (below m a.sets) (from m b.sets) in
    let r = registers_set w J in
    let st = status_of_both w (c.next + 3) a.status b.status i j h u.status v.status some in
    let k : is_on w c.next ≡ (max i j == 1) && is_on w c.keep = kept w c.next c.keep c.hold (c.next + 3) (max i j) keeps off st in
    record {
      tick = tick_of_both t u.tick v.tick;
      ticks = (u.tick, v.tick, u.ticks, v.ticks, refl);
      tells = record {
        status = st;
        emits = emitted_append w a.emits b.emits ∙ ap₂ (λ l r. l ++ r) u.emits v.emits;
        variables = told_both w p a.variables b.variables ∙ ap₂ (λ y z. variables_of_both p y z) u.variables v.variables ∙ same u.tick v.tick u.ticks v.ticks;
        pure = pure_append tables (u.tick).emits (v.tick).emits u.pure v.pure;
        sets = λ e.
            let one = is_one (max i j) (left_of (max i j == 1) (is_on w c.keep) e) in
            let y = left_branch tables last env x w r p t c.register c.next a u (k ∙ e) (λ z. first_zero i j one z) (λ z. first_stands tables w p z c.register a.sets b.sets) (λ z. first_dies tables w p c.register a.sets b.sets z) in
            let z = left_branch tables last env x w r q s m c.next b v (k ∙ e) (λ z. second_zero i j one z) (λ z. second_stands tables w q z m a.sets b.sets) (λ z. second_dies tables w q m a.sets b.sets z) in
            subst (λ l. Stands tables (Par p q) c.register r l) (sym (left_whole (max i j) (Par (u.tick).rest (v.tick).rest) (left_of (max i j == 1) (is_on w c.keep) e)))
            (left_both tables p q c.register r (u.tick).rest (v.tick).rest i j (one_of i j one) y z);
        unset = λ e. off_joined w (below m a.sets) (from m b.sets) (off_below w m a.sets (u.unset (and_off (i == 1) (is_on w c.next) (k ∙ e)))) (off_from w m b.sets (v.unset (and_off (j == 1) (is_on w c.next) (k ∙ e))));
      };
    }

quiet_beside : (tables : Tables) (w x : ℕ → ℤ) (p : Stmt) (l : ℕ) (own : List Equation) (c : Context) (a b : Copy)
    → w (c.next + 3) ≡ int_max (w a.status) (w b.status) → Quiet w x a → Quiet w x b → Quiet w x (beside tables p l own c a b)
quiet_beside tables w x p l own c a b h u v =
    record {
      status = status_is w (c.next + 3) a.status b.status 0 0 0 h u.status v.status refl;
      emits = emitted_first w a.emits b.emits [] u.emits v.emits;
      variables = told_both w p a.variables b.variables ∙ ap₂ (λ y z. variables_of_both p y z) u.variables v.variables ∙ told_neither p x;
    }

pub par_silent : (tables : Tables) (w x : ℕ → ℤ) (p : Stmt) (l : ℕ) (own : List Equation) (c : Context) (a b : Copy)
    → w (c.next + 3) ≡ int_max (w a.status) (w b.status) → Silent w x a → Silent w x b → Silent w x (beside tables p l own c a b)
par_silent tables w x p l own c a b h u v =
    let m = c.register + registers tables p in
    record { quiet = quiet_beside tables w x p l own c a b h u.quiet v.quiet; sets = off_joined w (below m a.sets) (from m b.sets) (off_below w m a.sets u.sets) (off_from w m b.sets v.sets) }

pub par_held : (tables : Tables) (f w x : ℕ → ℤ) (p q : Stmt) (l : ℕ) (own : List Equation) (c : Context) (a b : Copy)
    → w (c.next + 3) ≡ int_max (w a.status) (w b.status) → Keeps w c.next c.keep c.hold (c.next + 3) → is_on w c.hold ≡ true
    → Held tables f w x p c.register c.next a → Held tables f w x q (c.register + registers tables p) c.next b
    → Held tables f w x (Par p q) c.register c.keep (beside tables p l own c a b)
par_held tables f w x p q l own c a b h keeps on u v =
    let n = c.register in
    let m = c.register + registers tables p in
    let r = registers_set w (joined (below m a.sets) (from m b.sets)) in
    let k : is_on w c.next ≡ is_on w c.keep = kept_held w c.next c.keep c.hold (c.next + 3) keeps on in
    record {
      quiet = quiet_beside tables w x p l own c a b h u.quiet v.quiet;
      stays = λ e.
          remain_Par tables p q n f r
          (remains_still tables p n f (registers_set w a.sets) r (u.stays (k ∙ e)) (record { at = λ i ge lt. sym (set_first w m i a.sets b.sets lt) }))
          (remains_still tables q m f (registers_set w b.sets) r (v.stays (k ∙ e)) (record { at = λ i ge lt. sym (set_second w m i a.sets b.sets ge) }));
      unset = λ e. off_joined w (below m a.sets) (from m b.sets) (off_below w m a.sets (u.unset (k ∙ e))) (off_from w m b.sets (v.unset (k ∙ e)));
    }
