-- A tick of a statement by computation: with the statuses of its local signals given, in the order in which
-- they are met.
use Rattle.std.proofs.Common.{◌≡◌, ℕ, ℤ, pos, Bool, true, false, not, ◌&&◌, List, [], ◌∷◌, ◌++◌, Option, Some, None, refl, sym}
use Rattle.std.specs.Ordering.{int_eq}
use Rattle.std.specs.Cmp.{signed_Decides}
use Rattle.java_values.specs.Arithmetic.{is_true}
use Rattle.kernel_terms.specs.declared.tables.Tables.{Tables}
use Rattle.kernel_terms.specs.TableEntries.{signal_at}
use Rattle.kernel_terms.specs.Expressions.{Expression}
use Rattle.kernel_terms.specs.Statements.{Stmt, Nothing, Pause, Emit, Assign, If, Present, Seq, Loop, Par, Trap, Exit, Abort, Suspend, Local, Send, Receive, SendWaits, Sent, ReceiveWaits, Received}
use Rattle.kernel_rules.specs.definitions.Signals.{Env, Status, put_at, is_emitted, values_of, without, folded}
use Rattle.kernel_rules.specs.definitions.Expressions.{Readings, value_of, holds}
use Rattle.kernel_rules.proofs.BooleanLemmas.{left_of, right_of}
use Rattle.kernel_rules.specs.definitions.TickRule.{Tick, Ticks, has_ended, exit_code, code_of_trap, code_of_weak_abort, left_at, quiet, ends_with, as_whole, tick_of_both, Continues, Chosen, IsEmitted, Aborts}

-- a tick, whether the given statuses were right, and those that are left
pub record Trial : Type 0 where
  pub tick : Tick
  pub right : Bool
  pub left : List Status

abbrev pub sure : Tick → List Status → Trial
sure o g = record { tick = o; right = true; left = g }

abbrev pub emitted_value : Readings → Option Expression → ℤ
emitted_value r None = pos 0
emitted_value r (Some e) = value_of r e

abbrev pub same_bool : Bool → Bool → Bool
same_bool true b = b
same_bool false b = not b

abbrev pub next_status : List Status → Status
next_status [] = record { present = false; value = pos 0 }
next_status (s ∷ g) = s

abbrev pub later_statuses : List Status → List Status
later_statuses [] = []
later_statuses (s ∷ g) = g

abbrev pub after_first : Trial → Trial → Trial
after_first a b = record { tick = record b.tick { emits = a.tick.emits ++ b.tick.emits }; right = a.right && b.right; left = b.left }

abbrev pub continued : ((ℕ → ℤ) → List Status → Trial) → Stmt → Trial → Bool → Trial
continued second q a true = after_first a (second a.tick.variables a.left)
continued second q a false = record { tick = as_whole a.tick.code (Seq a.tick.rest q) a.tick; right = a.right; left = a.left }

abbrev pub looped : Stmt → Trial → Trial
looped p a = record { tick = as_whole a.tick.code (Seq a.tick.rest (Loop p)) a.tick; right = a.right && not (has_ended a.tick.code); left = a.left }

abbrev pub of_both : Stmt → Trial → Trial → Trial
of_both p a b = record { tick = tick_of_both p a.tick b.tick; right = a.right && b.right; left = b.left }

abbrev pub chosen : Bool → (List Status → Trial) → (List Status → Trial) → List Status → Trial
chosen true p q g = p g
chosen false p q g = q g

abbrev pub with_tick : Trial → Tick → Trial
with_tick a o = record { tick = o; right = a.right; left = a.left }

abbrev pub aborts : Bool → (List Status → Trial) → (ℕ → ℤ) → List Status → Trial
aborts false body x g = sure (ends_with [] x) g
aborts true body x g = let a = body g in with_tick a (as_whole (code_of_weak_abort a.tick.code) Nothing a.tick)

abbrev pub local_trial : Tables → ℕ → ℤ → Status → Trial → Trial
local_trial tables s v status a =
    record {
      tick = record { code = a.tick.code; rest = left_at a.tick.code (Local s status.value a.tick.rest); emits = without s a.tick.emits; variables = a.tick.variables };
      right = a.right && (same_bool status.present (is_emitted a.tick.emits s) && int_eq status.value (folded (signal_at tables s) v (values_of s a.tick.emits)));
      left = a.left;
    }

abbrev pub trial : Tables → (ℕ → ℤ) → Stmt → Env → (ℕ → ℤ) → List Status → Trial
trial tables last Nothing env x g = sure (ends_with [] x) g
trial tables last Pause env x g = sure (quiet 1 Nothing x) g
trial tables last (Emit s e) env x g = sure (ends_with (record { signal = s; value = emitted_value (record { variables = x; env = env; last = last }) e } ∷ []) x) g
trial tables last (Assign y e) env x g = sure (ends_with [] (put_at x y (value_of (record { variables = x; env = env; last = last }) e))) g
trial tables last (If e p q) env x g =
    chosen (is_true (value_of (record { variables = x; env = env; last = last }) e)) (λ h. trial tables last p env x h) (λ h. trial tables last q env x h) g
trial tables last (Present t p q) env x g = chosen (holds env t) (λ h. trial tables last p env x h) (λ h. trial tables last q env x h) g
trial tables last (Seq p q) env x g =
    let a = trial tables last p env x g in continued (λ y h. trial tables last q env y h) q a (has_ended a.tick.code)
trial tables last (Loop p) env x g = looped p (trial tables last p env x g)
trial tables last (Par p q) env x g = let a = trial tables last p env x g in of_both p a (trial tables last q env x a.left)
trial tables last (Trap p) env x g =
    let a = trial tables last p env x g in with_tick a (as_whole (code_of_trap a.tick.code) (Trap a.tick.rest) a.tick)
trial tables last (Exit d) env x g = sure (quiet (exit_code d) Nothing x) g
trial tables last (Abort weak armed t p) env x g =
    chosen (armed && holds env t) (λ h. aborts weak (λ k. trial tables last p env x k) x h)
    (λ h. let a = trial tables last p env x h in with_tick a (as_whole a.tick.code (Abort weak true t a.tick.rest) a.tick)) g
trial tables last (Suspend armed t p) env x g =
    chosen (armed && holds env t) (λ h. sure (quiet 1 (Suspend armed t p) x) h)
    (λ h. let a = trial tables last p env x h in with_tick a (as_whole a.tick.code (Suspend true t a.tick.rest) a.tick)) g
trial tables last (Local s v p) env x g =
    local_trial tables s v (next_status g) (trial tables last p (put_at env s (next_status g)) x (later_statuses g))
trial tables last (Send c e) env x g = sure (quiet 1 (SendWaits c (value_of (record { variables = x; env = env; last = last }) e)) x) g
trial tables last (Receive c) env x g = sure (quiet 1 (ReceiveWaits c) x) g
trial tables last (SendWaits c v) env x g = sure (quiet 1 (SendWaits c v) x) g
trial tables last (Sent c) env x g = sure (ends_with [] x) g
trial tables last (ReceiveWaits c) env x g = sure (quiet 1 (ReceiveWaits c) x) g
trial tables last (Received c) env x g = sure (ends_with [] x) g

pub off_of : (a : Bool) → not a ≡ true → a ≡ false
off_of true h = cc
off_of false h = refl

pub equal_bools : (a b : Bool) → same_bool a b ≡ true → a ≡ b
equal_bools true b h = sym h
equal_bools false b h = sym (off_of b h)

same_emitted : (r : Readings) (e : Option Expression) → IsEmitted r e (emitted_value r e)
same_emitted r None = refl
same_emitted r (Some e) = refl

chosen_ticks :
    (t : Bool) (p q : List Status → Trial) (P Q : Tick → Type 0) (g : List Status)
    → ((h : List Status) → (p h).right ≡ true → P (p h).tick)
    → ((h : List Status) → (q h).right ≡ true → Q (q h).tick)
    → (chosen t p q g).right ≡ true → Chosen t (P (chosen t p q g).tick) (Q (chosen t p q g).tick)
chosen_ticks true p q P Q g a b h = a g h
chosen_ticks false p q P Q g a b h = b g h

continued_ticks :
    (second : (ℕ → ℤ) → List Status → Trial) (S : (ℕ → ℤ) → Tick → Type 0) (q : Stmt) (a : Trial) (is_over : Bool)
    → ((y : ℕ → ℤ) (g : List Status) → (second y g).right ≡ true → S y (second y g).tick)
    → (continued second q a is_over).right ≡ true
    → (a.right ≡ true) × Continues S q a.tick is_over (continued second q a is_over).tick
continued_ticks second S q a true s h =
    let b = second a.tick.variables a.left in
    (left_of a.right b.right h, (b.tick, s a.tick.variables a.left (right_of a.right b.right h), refl))
continued_ticks second S q a false s h = (h, refl)

aborts_ticks :
    (weak : Bool) (body : List Status → Trial) (B : Tick → Type 0) (x : ℕ → ℤ) (g : List Status)
    → ((h : List Status) → (body h).right ≡ true → B (body h).tick)
    → (aborts weak body x g).right ≡ true → Aborts weak B x (aborts weak body x g).tick
aborts_ticks false body B x g b h = refl
aborts_ticks true body B x g b h = ((body g).tick, b g h, refl)

pub trial_ticks :
    (tables : Tables) (last : ℕ → ℤ) (p : Stmt) (env : Env) (x : ℕ → ℤ) (g : List Status)
    → (trial tables last p env x g).right ≡ true → Ticks tables last p env x (trial tables last p env x g).tick
trial_ticks tables last Nothing env x g h = refl
trial_ticks tables last Pause env x g h = refl
trial_ticks tables last (Emit s e) env x g h =
    let r : Readings = record { variables = x; env = env; last = last } in (emitted_value r e, same_emitted r e, refl)
trial_ticks tables last (Assign y e) env x g h =
    let r : Readings = record { variables = x; env = env; last = last } in (value_of r e, refl, refl)
trial_ticks tables last (If e p q) env x g h =
    let r : Readings = record { variables = x; env = env; last = last } in (
      value_of r e,
      refl,
      chosen_ticks (is_true (value_of r e)) (λ k. trial tables last p env x k) (λ k. trial tables last q env x k)
          (λ o. Ticks tables last p env x o) (λ o. Ticks tables last q env x o) g (λ k. trial_ticks tables last p env x k) (λ k. trial_ticks tables last q env x k) h,
    )
trial_ticks tables last (Present t p q) env x g h =
    chosen_ticks (holds env t) (λ k. trial tables last p env x k) (λ k. trial tables last q env x k)
    (λ o. Ticks tables last p env x o) (λ o. Ticks tables last q env x o) g (λ k. trial_ticks tables last p env x k) (λ k. trial_ticks tables last q env x k) h
trial_ticks tables last (Seq p q) env x g h =
    let a = trial tables last p env x g in
    let c = continued_ticks (λ y k. trial tables last q env y k) (λ y o. Ticks tables last q env y o) q a (has_ended a.tick.code) (λ y k. trial_ticks tables last q env y k) h in
    (a.tick, trial_ticks tables last p env x g c.0, c.1)
trial_ticks tables last (Loop p) env x g h =
    let a = trial tables last p env x g in
    let e = has_ended a.tick.code in
    (a.tick, trial_ticks tables last p env x g (left_of a.right (not e) h), off_of e (right_of a.right (not e) h), refl)
trial_ticks tables last (Par p q) env x g h =
    let a = trial tables last p env x g in
    let b = trial tables last q env x a.left in
    (a.tick, b.tick, trial_ticks tables last p env x g (left_of a.right b.right h), trial_ticks tables last q env x a.left (right_of a.right b.right h), refl)
trial_ticks tables last (Trap p) env x g h = ((trial tables last p env x g).tick, trial_ticks tables last p env x g h, refl)
trial_ticks tables last (Exit d) env x g h = refl
trial_ticks tables last (Abort weak armed t p) env x g h =
    chosen_ticks (armed && holds env t) (λ k. aborts weak (λ m. trial tables last p env x m) x k)
    (λ k. let a = trial tables last p env x k in with_tick a (as_whole a.tick.code (Abort weak true t a.tick.rest) a.tick))
    (λ o. Aborts weak (λ a. Ticks tables last p env x a) x o)
    (λ o. (a : Tick) × Ticks tables last p env x a × (o ≡ as_whole a.code (Abort weak true t a.rest) a)) g
    (λ k. aborts_ticks weak (λ m. trial tables last p env x m) (λ a. Ticks tables last p env x a) x k (λ m. trial_ticks tables last p env x m))
    (λ k b. ((trial tables last p env x k).tick, trial_ticks tables last p env x k b, refl)) h
trial_ticks tables last (Suspend armed t p) env x g h =
    chosen_ticks (armed && holds env t) (λ k. sure (quiet 1 (Suspend armed t p) x) k)
    (λ k. let a = trial tables last p env x k in with_tick a (as_whole a.tick.code (Suspend true t a.tick.rest) a.tick))
    (λ o. o ≡ quiet 1 (Suspend armed t p) x)
    (λ o. (a : Tick) × Ticks tables last p env x a × (o ≡ as_whole a.code (Suspend true t a.rest) a)) g
    (λ k b. refl)
    (λ k b. ((trial tables last p env x k).tick, trial_ticks tables last p env x k b, refl)) h
trial_ticks tables last (Local s v p) env x g h =
    let status = next_status g in
    let a = trial tables last p (put_at env s status) x (later_statuses g) in
    let m = a.tick.emits in
    let value = folded (signal_at tables s) v (values_of s m) in
    let matches = same_bool status.present (is_emitted m s) in
    let both = right_of a.right (matches && int_eq status.value value) h in (
      status.present,
      status.value,
      a.tick,
      trial_ticks tables last p (put_at env s status) x (later_statuses g) (left_of a.right (matches && int_eq status.value value) h),
      equal_bools status.present (is_emitted m s) (left_of matches (int_eq status.value value) both),
      (signed_Decides status.value value).0 (right_of matches (int_eq status.value value) both),
      refl,
    )
trial_ticks tables last (Send c e) env x g h =
    let r : Readings = record { variables = x; env = env; last = last } in (value_of r e, refl, refl)
trial_ticks tables last (Receive c) env x g h = refl
trial_ticks tables last (SendWaits c v) env x g h = refl
trial_ticks tables last (Sent c) env x g h = refl
trial_ticks tables last (ReceiveWaits c) env x g h = refl
trial_ticks tables last (Received c) env x g h = refl
