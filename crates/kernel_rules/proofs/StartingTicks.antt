-- What a starting tick may do: a statement's tick ends or exits only where its shape allows it.
use Rattle.std.proofs.Common.{◌≡◌, ◌≢◌, ℕ, zero, suc, max, ◌<◌, ◌-◌, ℤ, Bool, true, false, ◌&&◌, ◌||◌, ◌==◌, cond, [], ◌++◌, ◌⊎◌, ⊎_elim, refl, sym, subst, arith}
use Rattle.std.proofs.lemmas.Bool.Decides.{nat_tests}
use Rattle.java_values.specs.Arithmetic.{is_true}
use Rattle.kernel_terms.specs.declared.tables.Tables.{Tables}
use Rattle.kernel_terms.specs.Limits.{most_traps}
use Rattle.kernel_terms.specs.Statements.{Stmt, Nothing, Pause, Emit, Assign, If, Present, Seq, Loop, Par, Trap, Exit, Abort, Suspend, Local, Send, Receive, SendWaits, Sent, ReceiveWaits, Received}
use Rattle.kernel_terms.specs.MayEnd.{Ways, never, ends_alone, exits_to, either, in_turn, beside, within_trap, starting}
use Rattle.kernel_rules.specs.definitions.Signals.{Env, put_at}
use Rattle.kernel_rules.specs.definitions.Expressions.{holds}
use Rattle.kernel_rules.proofs.BooleanLemmas.{left_of, or_left, or_right, both_true}
use Rattle.kernel_rules.specs.definitions.TickRule.{Tick, Ticks, Continues, Chosen, Aborts, has_ended, has_paused, has_exited, exit_code, code_of_trap, code_of_weak_abort, as_whole, quiet, ends_with}

-- a tick with this code is one of these ways
pub record Allows (w : Ways) (code : ℕ) : Type 0 where
  pub ends : code ≡ 0 → w.ends ≡ true
  pub exits : (d : ℕ) → d < most_traps → code ≡ exit_code d → w.exits d ≡ true

pub from_chosen : {C : Type 0} (t : Bool) (A B : Type 0) → (t ≡ true → A → C) → (t ≡ false → B → C) → Chosen t A B → C
from_chosen true A B f g h = f refl h
from_chosen false A B f g h = g refl h

pub pauses : (w : Ways) → Allows w 1
pauses w = record { ends = λ e. cc; exits = λ d l e. cc }

pub ends : (w : Ways) → w.ends ≡ true → Allows w 0
ends w h = record { ends = λ e. h; exits = λ d l e. cc }

pub at_code : (w : Ways) (o b : Tick) → o ≡ b → Allows w b.code → Allows w o.code
at_code w o b e a = subst (λ (z : Tick). Allows w z.code) (sym e) a

pub first_way : (v w : Ways) (code : ℕ) → Allows v code → Allows (either v w) code
first_way v w code a = record { ends = λ e. or_left v.ends w.ends (a.ends e); exits = λ d l e. or_left (v.exits d) (w.exits d) (a.exits d l e) }

pub second_way : (v w : Ways) (code : ℕ) → Allows w code → Allows (either v w) code
second_way v w code a = record { ends = λ e. or_right v.ends w.ends (a.ends e); exits = λ d l e. or_right (v.exits d) (w.exits d) (a.exits d l e) }

pub ended_zero : (code : ℕ) → has_ended code ≡ true → code ≡ 0
ended_zero code h = grind (arith, nat_tests)

pub not_ended : (code : ℕ) → has_ended code ≡ false → code ≢ 0
not_ended zero h e = cc
not_ended (suc n) h e = cc

pub turn_goes : (v w : Ways) (code : ℕ) → v.ends ≡ true → Allows w code → Allows (in_turn v w) code
turn_goes v w code h a =
    record {
      ends = λ e. both_true v.ends w.ends h (a.ends e);
      exits = λ d l e. or_right (v.exits d) (v.ends && w.exits d) (both_true v.ends (w.exits d) h (a.exits d l e));
    }

pub turn_stays : (v w : Ways) (code : ℕ) → code ≢ 0 → Allows v code → Allows (in_turn v w) code
turn_stays v w code h a = record { ends = λ e. absurd (h e); exits = λ d l e. or_left (v.exits d) (v.ends && w.exits d) (a.exits d l e) }

-- the codes of a trap, from that of its body
own_exit : (w : Ways) (code : ℕ) → (code == exit_code 0) ≡ true → Allows w code → w.exits 0 ≡ true
own_exit w code h a = let e : code ≡ 2 = grind (arith, nat_tests) in a.exits 0 (omega arith) e

within_exit : (w : Ways) (code : ℕ) → has_exited code ≡ true → (code == exit_code 0) ≡ false → Allows w code → Allows (within_trap w) (code - 1)
within_exit w code h n a =
    let low : 2 < code = grind (arith, nat_tests) in
    let high : code < 66 = grind (arith, nat_tests) in
    record { ends = λ e. absurd (omega (arith, e, low)); exits = λ d l e. a.exits (suc d) (omega (arith, e, low, high)) (omega (arith, e, low)) }

other_code : (w : Ways) (code : ℕ) → has_exited code ≡ false → Allows w code → Allows (within_trap w) code
other_code w code h a = record {
  ends = λ e. or_left w.ends (w.exits 0) (a.ends e);
  exits = λ d l e. let f : ⊥ = grind (arith, nat_tests) in absurd f;
}

pub trapped : (w : Ways) (code : ℕ) → Allows w code → Allows (within_trap w) (code_of_trap code)
trapped w code a = by_tests (code == exit_code 0) (has_exited code) refl refl
  where
    by_tests : (own out : Bool) → (code == exit_code 0) ≡ own → has_exited code ≡ out → Allows (within_trap w) (cond own 0 (cond out (code - 1) code))
    by_tests true out e f = ends (within_trap w) (or_right w.ends (w.exits 0) (own_exit w code e a))
    by_tests false true e f = within_exit w code f e a
    by_tests false false e f = other_code w code f a

both_zero : (a b : ℕ) → max a b ≡ 0 → (a ≡ 0) × (b ≡ 0)
both_zero a b e = (omega arith, omega arith)

-- what either of two parts beside each other has as its code
pub which : (a b n : ℕ) → max a b ≡ n → (a ≡ n) ⊎ (b ≡ n)
which a b n e = grind arith

pub beside_allows : (v w : Ways) (a b : ℕ) → Allows v a → Allows w b → Allows (beside v w) (max a b)
beside_allows v w a b p q =
    record {
      ends = λ e. both_true v.ends w.ends (p.ends (both_zero a b e).0) (q.ends (both_zero a b e).1);
      exits = λ d l e. ⊎_elim (λ h. or_left (v.exits d) (w.exits d) (p.exits d l h)) (λ h. or_right (v.exits d) (w.exits d) (q.exits d l h)) (which a b (exit_code d) e);
    }

same_depth : (d e : ℕ) → exit_code d ≡ exit_code e → (d == e) ≡ true
same_depth d e h = grind (arith, nat_tests)

pub weakly : (w : Ways) (e : Bool) (code : ℕ) → e ≡ true → Allows w code → Allows (record { ends = e; exits = w.exits }) (code_of_weak_abort code)
weakly w e code h a = by_test (has_paused code)
  where
    by_test : (b : Bool) → Allows (record { ends = e; exits = w.exits }) (cond b 0 code)
    by_test true = ends (record { ends = e; exits = w.exits }) h
    by_test false = record { ends = λ p. h; exits = a.exits }

pub continues_allow :
    (second : (ℕ → ℤ) → Tick → Type 0) (q : Stmt) (a o : Tick) (v w : Ways) (is_over : Bool)
    → has_ended a.code ≡ is_over → Allows v a.code → ((y : ℕ → ℤ) (b : Tick) → second y b → Allows w b.code)
    → Continues second q a is_over o → Allows (in_turn v w) o.code
continues_allow second q a o v w true e p s c =
    at_code (in_turn v w) o (record c.0 { emits = a.emits ++ (c.0).emits }) c.2 (turn_goes v w (c.0).code (p.ends (ended_zero a.code e)) (s a.variables c.0 c.1))
continues_allow second q a o v w false e p s c =
    at_code (in_turn v w) o (as_whole a.code (Seq a.rest q) a) c (turn_stays v w a.code (not_ended a.code e) p)

-- a body that aborts or goes on
pub abort_allows :
    (weak t : Bool) (body : Tick → Type 0) (other : Tick → Stmt) (x : ℕ → ℤ) (o : Tick) (w : Ways) (e : Bool)
    → (t ≡ true → e ≡ true) → (w.ends ≡ true → e ≡ true) → ((a : Tick) → body a → Allows w a.code)
    → Chosen t (Aborts weak body x o) ((a : Tick) × body a × (o ≡ as_whole a.code (other a) a))
    → Allows (record { ends = e; exits = w.exits }) o.code
abort_allows false true body other x o w e armed over s c = at_code (record { ends = e; exits = w.exits }) o (ends_with [] x) c (ends (record { ends = e; exits = w.exits }) (armed refl))
abort_allows true true body other x o w e armed over s c =
    at_code (record { ends = e; exits = w.exits }) o (as_whole (code_of_weak_abort (c.0).code) Nothing c.0) c.2 (weakly w e (c.0).code (armed refl) (s c.0 c.1))
abort_allows weak false body other x o w e armed over s c =
    let a = s c.0 c.1 in
    at_code (record { ends = e; exits = w.exits }) o (as_whole (c.0).code (other c.0) c.0) c.2 (record { ends = λ h. over (a.ends h); exits = a.exits })

pub starting_allows : (tables : Tables) (last : ℕ → ℤ) (p : Stmt) (env : Env) (x : ℕ → ℤ) (o : Tick) → Ticks tables last p env x o → Allows (starting p) o.code
starting_allows tables last Nothing env x o h = at_code ends_alone o (ends_with [] x) h (ends ends_alone refl)
starting_allows tables last Pause env x o h = at_code never o (quiet 1 Nothing x) h (pauses never)
starting_allows tables last (Emit s e) env x o h = at_code ends_alone o _ h.2 (ends ends_alone refl)
starting_allows tables last (Assign y e) env x o h = at_code ends_alone o _ h.2 (ends ends_alone refl)
starting_allows tables last (If e p q) env x o h =
    from_chosen (is_true h.0) (Ticks tables last p env x o) (Ticks tables last q env x o)
    (λ t k. first_way (starting p) (starting q) o.code (starting_allows tables last p env x o k))
    (λ t k. second_way (starting p) (starting q) o.code (starting_allows tables last q env x o k)) h.2
starting_allows tables last (Present t p q) env x o h =
    from_chosen (holds env t) (Ticks tables last p env x o) (Ticks tables last q env x o)
    (λ e k. first_way (starting p) (starting q) o.code (starting_allows tables last p env x o k))
    (λ e k. second_way (starting p) (starting q) o.code (starting_allows tables last q env x o k)) h
starting_allows tables last (Seq p q) env x o h =
    let a : Tick = h.0 in
    continues_allow (λ y b. Ticks tables last q env y b) q a o (starting p) (starting q) (has_ended a.code) refl
    (starting_allows tables last p env x a h.1) (λ y b k. starting_allows tables last q env y b k) h.2
starting_allows tables last (Loop p) env x o h =
    let a : Tick = h.0 in
    let s = starting_allows tables last p env x a h.1 in
    at_code (starting (Loop p)) o (as_whole a.code (Seq a.rest (Loop p)) a) h.3
    (record { ends = λ e. absurd (not_ended a.code h.2 e); exits = s.exits })
starting_allows tables last (Par p q) env x o h =
    let a : Tick = h.0 in
    let b : Tick = h.1 in
    at_code (beside (starting p) (starting q)) o _ h.4
    (beside_allows (starting p) (starting q) a.code b.code (starting_allows tables last p env x a h.2) (starting_allows tables last q env x b h.3))
starting_allows tables last (Trap p) env x o h =
    let a : Tick = h.0 in
    at_code (within_trap (starting p)) o (as_whole (code_of_trap a.code) (Trap a.rest) a) h.2
    (trapped (starting p) a.code (starting_allows tables last p env x a h.1))
starting_allows tables last (Exit n) env x o h =
    at_code (exits_to n) o (quiet (exit_code n) Nothing x) h (record { ends = λ e. cc; exits = λ d l e. same_depth n d e })
starting_allows tables last (Abort weak armed t p) env x o h =
    abort_allows weak (armed && holds env t) (λ a. Ticks tables last p env x a) (λ a. Abort weak true t a.rest) x o
    (starting p) (armed || (starting p).ends)
    (λ e. or_left armed (starting p).ends (left_of armed (holds env t) e))
    (λ e. or_right armed (starting p).ends e)
    (λ a k. starting_allows tables last p env x a k) h
starting_allows tables last (Suspend armed t p) env x o h =
    from_chosen (armed && holds env t) (o ≡ quiet 1 (Suspend armed t p) x)
    ((a : Tick) × Ticks tables last p env x a × (o ≡ as_whole a.code (Suspend true t a.rest) a))
    (λ e k. at_code (starting p) o (quiet 1 (Suspend armed t p) x) k (pauses (starting p)))
    (λ e k. at_code (starting p) o (as_whole (k.0).code (Suspend true t (k.0).rest) k.0) k.2 (starting_allows tables last p env x k.0 k.1)) h
starting_allows tables last (Local s v p) env x o h =
    let a : Tick = h.2 in
    at_code (starting p) o _ h.6 (starting_allows tables last p (put_at env s (record { present = h.0; value = h.1 })) x a h.3)
starting_allows tables last (Send c e) env x o h = at_code never o _ h.2 (pauses never)
starting_allows tables last (Receive c) env x o h = at_code never o (quiet 1 (ReceiveWaits c) x) h (pauses never)
starting_allows tables last (SendWaits c v) env x o h = at_code never o (quiet 1 (SendWaits c v) x) h (pauses never)
starting_allows tables last (Sent c) env x o h = at_code ends_alone o (ends_with [] x) h (ends ends_alone refl)
starting_allows tables last (ReceiveWaits c) env x o h = at_code never o (quiet 1 (ReceiveWaits c) x) h (pauses never)
starting_allows tables last (Received c) env x o h = at_code ends_alone o (ends_with [] x) h (ends ends_alone refl)
