-- Copies behind one another: what they tell, from what their parts tell.
use Rattle.std.proofs.Common.{◌≡◌, ℕ, suc, max, ◌+◌, ◌<◌, ◌≤◌, nat_lt, ◌==◌, ℤ, pos, Bool, true, false, ◌&&◌, ◌||◌, cond, List, [], ◌++◌, refl, sym, ap, ap₂, ◌∙◌, subst, arith}
use Rattle.kernel_terms.specs.declared.tables.Tables.{Tables}
use Rattle.kernel_terms.specs.Expressions.{Expression}
use Rattle.kernel_terms.specs.Statements.{Stmt, Seq, If}
use Rattle.kernel_rules.specs.definitions.Signals.{Env}
use Rattle.kernel_rules.specs.definitions.TickRule.{Tick, Ticks, Continues, has_ended, as_whole}
use Rattle.kernel_rules.specs.definitions.Registers.{registers, live, residual}
use Rattle.surf_graph.proofs.Booleans.{left_of}
use Rattle.kernel_rules.proofs.StartingTicks.{ended_zero}
use Rattle.std.specs.Int.{int_max}
use Rattle.surf_graph.specs.definitions.Formulas.{Equation, is_on, told}
use Rattle.surf_graph.specs.definitions.Copies.{Copy, Sets, below, from, joined, behind}
use Rattle.surf_graph.specs.definitions.Tells.{Off, registers_set, Stands, Tells, Active, Quiet, Silent}
use Rattle.surf_graph.proofs.SetValues.{off_value, set_first, set_second, set_before_off, set_after_off, emitted_first, emitted_append, pure_append}
use Rattle.surf_graph.proofs.RegisterRanges.{remain, stands_still, Dead, dead, first_dead, second_dead}
use Rattle.surf_graph.proofs.Leavings.{left_whole}
use Rattle.std.proofs.lemmas.Bool.Decides.{nat_tests}

pub by_cases : {C : Type 0} (b : Bool) → (b ≡ true → C) → (b ≡ false → C) → C
by_cases true f g = f refl
by_cases false f g = g refl

-- registers

pub first_stands : (tables : Tables) (w : ℕ → ℤ) (p x : Stmt) (n : ℕ) (s t : ℕ → List Sets)
    → Stands tables p n (registers_set w s) x → Stands tables p n (registers_set w (joined (below (n + registers tables p) s) (from (n + registers tables p) t))) x
first_stands tables w p x n s t h =
    stands_still tables p n (registers_set w s) (registers_set w (joined (below (n + registers tables p) s) (from (n + registers tables p) t))) x
    (remain tables p n (registers_set w s) (registers_set w (joined (below (n + registers tables p) s) (from (n + registers tables p) t))) (record { at = λ k ge lt. sym (set_first w (n + registers tables p) k s t lt) })) h

pub second_stands : (tables : Tables) (w : ℕ → ℤ) (q x : Stmt) (m : ℕ) (s t : ℕ → List Sets)
    → Stands tables q m (registers_set w t) x → Stands tables q m (registers_set w (joined (below m s) (from m t))) x
second_stands tables w q x m s t h =
    stands_still tables q m (registers_set w t) (registers_set w (joined (below m s) (from m t))) x
    (remain tables q m (registers_set w t) (registers_set w (joined (below m s) (from m t))) (record { at = λ k ge lt. sym (set_second w m k s t ge) })) h

pub first_dies : (tables : Tables) (w : ℕ → ℤ) (p : Stmt) (n : ℕ) (s t : ℕ → List Sets)
    → Off w s → Dead tables p n (registers_set w (joined (below (n + registers tables p) s) (from (n + registers tables p) t)))
first_dies tables w p n s t h =
    dead tables p n (registers_set w (joined (below (n + registers tables p) s) (from (n + registers tables p) t)))
    (record { at = λ k ge lt. set_first w (n + registers tables p) k s t lt ∙ off_value w (s k) (h.each k) })

pub second_dies : (tables : Tables) (w : ℕ → ℤ) (q : Stmt) (m : ℕ) (s t : ℕ → List Sets)
    → Off w t → Dead tables q m (registers_set w (joined (below m s) (from m t)))
second_dies tables w q m s t h =
    dead tables q m (registers_set w (joined (below m s) (from m t))) (record { at = λ k ge lt. set_second w m k s t ge ∙ off_value w (t k) (h.each k) })

pub first_alone : (tables : Tables) (w : ℕ → ℤ) (p x : Stmt) (n : ℕ) (s t : ℕ → List Sets) → Off w t → Stands tables p n (registers_set w s) x → Stands tables p n (registers_set w (joined s t)) x
first_alone tables w p x n s t h k =
    stands_still tables p n (registers_set w s) (registers_set w (joined s t)) x
    (remain tables p n (registers_set w s) (registers_set w (joined s t)) (record { at = λ i ge lt. sym (set_before_off w (s i) (t i) (h.each i)) })) k

pub second_alone : (tables : Tables) (w : ℕ → ℤ) (p x : Stmt) (n : ℕ) (s t : ℕ → List Sets) → Off w s → Stands tables p n (registers_set w t) x → Stands tables p n (registers_set w (joined s t)) x
second_alone tables w p x n s t h k =
    stands_still tables p n (registers_set w t) (registers_set w (joined s t)) x
    (remain tables p n (registers_set w t) (registers_set w (joined s t)) (record { at = λ i ge lt. sym (set_after_off w (s i) (t i) (h.each i)) })) k

-- a choice and a sequence stand for what their live part stands for
pub If_first : (tables : Tables) (e : Expression) (p q x : Stmt) (n : ℕ) (r : ℕ → ℤ) → Stands tables p n r x → Dead tables q (n + registers tables p) r → Stands tables (If e p q) n r x
If_first tables e p q x n r s d =
    record {
      fits = record { is_live = ap (λ b. b || live tables q (n + registers tables p) r) (s.fits).is_live; apart = (second_dead (live tables p n r) _ d.live, (s.fits).apart, d.apart) };
      residual = ap (λ b. cond b (residual tables p n r) (residual tables q (n + registers tables p) r)) (s.fits).is_live ∙ s.residual;
    }

pub If_second : (tables : Tables) (e : Expression) (p q x : Stmt) (n : ℕ) (r : ℕ → ℤ) → Dead tables p n r → Stands tables q (n + registers tables p) r x → Stands tables (If e p q) n r x
If_second tables e p q x n r d s =
    record {
      fits = record { is_live = ap (λ b. b || live tables q (n + registers tables p) r) d.live ∙ (s.fits).is_live; apart = (first_dead _ _ d.live, d.apart, (s.fits).apart) };
      residual = ap (λ b. cond b (residual tables p n r) (residual tables q (n + registers tables p) r)) d.live ∙ s.residual;
    }

pub Seq_first : (tables : Tables) (p q x : Stmt) (n : ℕ) (r : ℕ → ℤ) → Stands tables p n r x → Dead tables q (n + registers tables p) r → Stands tables (Seq p q) n r (Seq x q)
Seq_first tables p q x n r s d =
    record {
      fits = record { is_live = ap (λ b. b || live tables q (n + registers tables p) r) (s.fits).is_live; apart = (second_dead (live tables p n r) _ d.live, (s.fits).apart, d.apart) };
      residual = ap (λ b. cond b (Seq (residual tables p n r) q) (residual tables q (n + registers tables p) r)) (s.fits).is_live ∙ ap (λ y. Seq y q) s.residual;
    }

pub Seq_second : (tables : Tables) (p q x : Stmt) (n : ℕ) (r : ℕ → ℤ) → Dead tables p n r → Stands tables q (n + registers tables p) r x → Stands tables (Seq p q) n r x
Seq_second tables p q x n r d s =
    record {
      fits = record { is_live = ap (λ b. b || live tables q (n + registers tables p) r) d.live ∙ (s.fits).is_live; apart = (first_dead _ _ d.live, d.apart, (s.fits).apart) };
      residual = ap (λ b. cond b (Seq (residual tables p n r) q) (residual tables q (n + registers tables p) r)) d.live ∙ s.residual;
    }

-- statuses

pub greater_of : (i j : ℕ) → int_max (pos i) (pos j) ≡ pos (max i j)
greater_of i j =
    by_cases (nat_lt j i)
    (λ e. ap (λ b. cond b (pos i) (pos j)) e ∙ ap pos (let lt : j < i = grind (arith, nat_tests) in omega (arith, lt)))
    (λ e. ap (λ b. cond b (pos i) (pos j)) e ∙ ap pos (let le : i ≤ j = grind (arith, nat_tests) in omega (arith, le)))

pub status_is : (w : ℕ → ℤ) (n a b i j k : ℕ) → w n ≡ int_max (w a) (w b) → w a ≡ pos i → w b ≡ pos j → max i j ≡ k → w n ≡ pos k
status_is w n a b i j k h ea eb e = h ∙ ap₂ int_max ea eb ∙ greater_of i j ∙ ap pos e

pub unpaused : (code : ℕ) → has_ended code ≡ true → (code == 1) ≡ false
unpaused code h = let e = ended_zero code h in ap (λ z. z == 1) e

pub off_ended : (tables : Tables) (w : ℕ → ℤ) (p : Stmt) (n keep : ℕ) (copy : Copy) (o : Tick) → Tells tables w p n keep copy o → (o.code == 1) ≡ false → Off w copy.sets
off_ended tables w p n keep copy o t h = t.unset (ap (λ b. b && is_on w keep) h)

-- quiet copies

pub quiet_behind : (w x : ℕ → ℤ) (n l : ℕ) (S T : ℕ → List Sets) (own : List Equation) (a b : Copy) → w n ≡ int_max (w a.status) (w b.status) → Quiet w x a → Quiet w (told w a.variables) b → Quiet w x (behind n l S T own a b)
quiet_behind w x n l S T own a b h u v =
    record {
      status = status_is w n a.status b.status 0 0 0 h u.status v.status refl;
      emits = emitted_first w a.emits b.emits [] u.emits v.emits;
      variables = v.variables ∙ u.variables;
    }

-- a sequence: its first part ticks, and where it ends its second part starts

pub continues_ended : (second : (ℕ → ℤ) → Tick → Type 0) (q : Stmt) (a b : Tick) → has_ended a.code ≡ true → second a.variables b → Continues second q a (has_ended a.code) (record b { emits = a.emits ++ b.emits })
continues_ended second q a b e h = subst (λ z. Continues second q a z (record b { emits = a.emits ++ b.emits })) (sym e) (b, h, refl)

pub continues_waits : (second : (ℕ → ℤ) → Tick → Type 0) (q : Stmt) (a : Tick) → has_ended a.code ≡ false → Continues second q a (has_ended a.code) (as_whole a.code (Seq a.rest q) a)
continues_waits second q a e = subst (λ z. Continues second q a z (as_whole a.code (Seq a.rest q) a)) (sym e) refl

-- `P` is the sequence, or a loop that starts anew: its first part ends, and its second part ticks
pub turn_ended :
    (tables : Tables) (w : ℕ → ℤ) (p q P q' : Stmt) (n m N keep k l : ℕ) (S U : ℕ → List Sets) (own : List Equation) (a b : Copy)
    → w k ≡ int_max (w a.status) (w b.status) → (o i : Tick) → Tells tables w p n keep a o → Tells tables w q' m keep b i → has_ended o.code ≡ true
    → ((s : Stmt) → Off w a.sets → Stands tables q' m (registers_set w b.sets) s → Stands tables P N (registers_set w (joined S U)) s)
    → (Off w a.sets → Off w b.sets → Off w (joined S U))
    → Tells tables w P N keep (behind k l S U own a b) (record i { emits = o.emits ++ i.emits })
turn_ended tables w p q P q' n m N keep k l S U own a b h o i y z e second off =
    let gone = off_ended tables w p n keep a o y (unpaused o.code e) in
    record {
      status = status_is w k a.status b.status (suc o.code) (suc i.code) (suc i.code) h y.status z.status (let c = ended_zero o.code e in omega (arith, c));
      emits = emitted_append w a.emits b.emits ∙ ap₂ (λ l r. l ++ r) y.emits z.emits;
      variables = z.variables;
      pure = pure_append tables o.emits i.emits y.pure z.pure;
      sets = λ s. second i.rest gone (z.sets s);
      unset = λ s. off gone (z.unset s);
    }

-- its first part doesn't end
pub turn_waits :
    (tables : Tables) (w : ℕ → ℤ) (p q P q' : Stmt) (n m N keep k l : ℕ) (S U : ℕ → List Sets) (own : List Equation) (a b : Copy)
    → w k ≡ int_max (w a.status) (w b.status) → (o : Tick) → Tells tables w p n keep a o → Silent w (told w a.variables) b
    → ((s : Stmt) → Off w b.sets → Stands tables p n (registers_set w a.sets) s → Stands tables P N (registers_set w (joined S U)) (Seq s q))
    → (Off w a.sets → Off w b.sets → Off w (joined S U))
    → Tells tables w P N keep (behind k l S U own a b) (as_whole o.code (Seq o.rest q) o)
turn_waits tables w p q P q' n m N keep k l S U own a b h o y v first off =
    let i = v.quiet in
    record {
      status = status_is w k a.status b.status (suc o.code) 0 (suc o.code) h y.status i.status (omega arith);
      emits = emitted_first w a.emits b.emits o.emits y.emits i.emits;
      variables = i.variables ∙ y.variables;
      pure = y.pure;
      sets = λ s. subst (λ r. Stands tables P N (registers_set w (joined S U)) r) (sym (left_whole o.code (Seq o.rest q) (left_of (o.code == 1) (is_on w keep) s))) (first o.rest v.sets (y.sets s));
      unset = λ s. off (y.unset s) v.sets;
    }

pub turn_active :
    (tables : Tables) (last : ℕ → ℤ) (env : Env) (x w : ℕ → ℤ) (p q t P q' : Stmt) (n m N keep k l : ℕ) (S U : ℕ → List Sets) (own : List Equation) (a b : Copy)
    → w k ≡ int_max (w a.status) (w b.status) → (u : Active tables last env x w p t n keep a)
    → (has_ended (u.tick).code ≡ true → Active tables last env (told w a.variables) w q' q m keep b) → (has_ended (u.tick).code ≡ false → Silent w (told w a.variables) b)
    → ((s : Stmt) → Off w b.sets → Stands tables p n (registers_set w a.sets) s → Stands tables P N (registers_set w (joined S U)) (Seq s q))
    → ((s : Stmt) → Off w a.sets → Stands tables q' m (registers_set w b.sets) s → Stands tables P N (registers_set w (joined S U)) s)
    → (Off w a.sets → Off w b.sets → Off w (joined S U))
    → Active tables last env x w P (Seq t q) N keep (behind k l S U own a b)
turn_active tables last env x w p q t P q' n m N keep k l S U own a b h u active silent first second off =
    let o = u.tick in
    let y = u.tells in
    by_cases (has_ended o.code)
    (λ e.
    let v = active e in
    let i = v.tick in
    record {
      tick = record i { emits = o.emits ++ i.emits };
      ticks = (o, u.ticks, continues_ended (λ s b. Ticks tables last q env s b) q o i e (subst (λ s. Ticks tables last q env s i) y.variables v.ticks));
      tells = turn_ended tables w p q P q' n m N keep k l S U own a b h o i y v.tells e second off;
    })
    (λ e.
    record {
      tick = as_whole o.code (Seq o.rest q) o;
      ticks = (o, u.ticks, continues_waits (λ s b. Ticks tables last q env s b) q o e);
      tells = turn_waits tables w p q P q' n m N keep k l S U own a b h o y (silent e) first off;
    })
