-- What a later tick may do: the tick of the statement that the registers stand for ends or exits only where the
-- source's shape allows it.
use Rattle.std.proofs.Common.{◌≡◌, ℕ, ◌+◌, ℤ, Bool, true, false, ◌&&◌, ◌||◌, cond, [], length, refl}
use Rattle.java_values.specs.Arithmetic.{is_true}
use Rattle.kernel_terms.specs.declared.tables.Tables.{Tables}
use Rattle.kernel_terms.specs.TableEntries.{signal_at}
use Rattle.kernel_terms.specs.Statements.{Stmt, Nothing, Pause, Emit, Assign, If, Present, Seq, Loop, Par, Trap, Exit, Abort, Suspend, Local, Send, Receive, SendWaits, Sent, ReceiveWaits, Received}
use Rattle.kernel_terms.specs.MayEnd.{Ways, ends_alone, within_trap, in_turn, starting, resuming, resumes, ends0, ends1}
use Rattle.kernel_rules.specs.definitions.Signals.{Env, put_at}
use Rattle.kernel_rules.specs.definitions.Expressions.{holds}
use Rattle.kernel_rules.specs.definitions.TickRule.{Tick, Ticks, has_ended, code_of_trap, as_whole, quiet, ends_with}
use Rattle.kernel_rules.specs.definitions.Registers.{registers, value_kinds, live, residual, LivesApart, OverOrLive}
use Rattle.kernel_rules.proofs.BooleanLemmas.{right_of, or_left, or_right, both_true, other_one, or_to}
use Rattle.kernel_rules.proofs.StartingTicks.{Allows, from_chosen, pauses, ends, at_code, first_way, second_way, continues_allow, abort_allows, beside_allows, trapped, starting_allows}

pub live_resumes : (tables : Tables) (p : Stmt) (n : ℕ) (r : ℕ → ℤ) → live tables p n r ≡ true → resumes p ≡ true
live_resumes tables Nothing n r h = h
live_resumes tables Pause n r h = refl
live_resumes tables (Emit s e) n r h = h
live_resumes tables (Assign x e) n r h = h
live_resumes tables (If e p q) n r h =
    let m = n + registers tables p in or_to (live tables p n r) (live tables q m r) (resumes p) (resumes q) (live_resumes tables p n r) (live_resumes tables q m r) h
live_resumes tables (Present t p q) n r h =
    let m = n + registers tables p in or_to (live tables p n r) (live tables q m r) (resumes p) (resumes q) (live_resumes tables p n r) (live_resumes tables q m r) h
live_resumes tables (Seq p q) n r h =
    let m = n + registers tables p in or_to (live tables p n r) (live tables q m r) (resumes p) (resumes q) (live_resumes tables p n r) (live_resumes tables q m r) h
live_resumes tables (Loop p) n r h = live_resumes tables p n r h
live_resumes tables (Par p q) n r h =
    let m = n + registers tables p in or_to (live tables p n r) (live tables q m r) (resumes p) (resumes q) (live_resumes tables p n r) (live_resumes tables q m r) h
live_resumes tables (Trap p) n r h = live_resumes tables p n r h
live_resumes tables (Exit d) n r h = h
live_resumes tables (Abort weak armed t p) n r h = live_resumes tables p n r h
live_resumes tables (Suspend armed t p) n r h = live_resumes tables p n r h
live_resumes tables (Local s v p) n r h = live_resumes tables p (n + length (value_kinds (signal_at tables s).kind)) r h
live_resumes tables (Send c e) n r h = refl
live_resumes tables (Receive c) n r h = refl
live_resumes tables (SendWaits c v) n r h = refl
live_resumes tables (Sent c) n r h = refl
live_resumes tables (ReceiveWaits c) n r h = refl
live_resumes tables (Received c) n r h = refl

pub from_cond : {C : Type 0} (T : Stmt → Type 0) (t : Bool) (p q : Stmt) → (t ≡ true → T p → C) → (t ≡ false → T q → C) → T (cond t p q) → C
from_cond T true p q f g h = f refl h
from_cond T false p q f g h = g refl h

turn_of_first : (p q : Stmt) (code : ℕ) → Allows (in_turn (resuming p) (starting q)) code → Allows (resuming (Seq p q)) code
turn_of_first p q code a =
    let v = resuming p in
    let w = starting q in
    record {
      ends = λ e. or_right (resuming q).ends (v.ends && w.ends) (a.ends e);
      exits = λ d l e. or_to (v.exits d) (v.ends && w.exits d) (v.exits d) ((resuming q).exits d || (v.ends && w.exits d)) (λ h. h)
          (λ h. or_right ((resuming q).exits d) (v.ends && w.exits d) h) (a.exits d l e);
    }

turn_of_second : (p q : Stmt) (code : ℕ) → Allows (resuming q) code → Allows (resuming (Seq p q)) code
turn_of_second p q code a =
    let v = resuming p in
    let w = starting q in
    record {
      ends = λ e. or_left (resuming q).ends (v.ends && w.ends) (a.ends e);
      exits = λ d l e. or_right (v.exits d) ((resuming q).exits d || (v.ends && w.exits d)) (or_left ((resuming q).exits d) (v.ends && w.exits d) (a.exits d l e));
    }

turn_of_loop : (p : Stmt) (code : ℕ) → Allows (in_turn (resuming p) (starting (Loop p))) code → Allows (resuming (Loop p)) code
turn_of_loop p code a = record { ends = λ e. right_of (resuming p).ends false (a.ends e); exits = a.exits }

-- a branch of a live parallel ticks, or has ended
abbrev of_branch : Stmt → Ways
of_branch p = record { ends = ends0 p || ends1 p; exits = (resuming p).exits }

branch_allows :
    (tables : Tables) (last : ℕ → ℤ) (p rest : Stmt) (env : Env) (x : ℕ → ℤ) (a : Tick) (is_live : Bool)
    → OverOrLive is_live p → (is_live ≡ true → Ticks tables last rest env x a → Allows (resuming p) a.code)
    → Ticks tables last (cond is_live rest Nothing) env x a → Allows (of_branch p) a.code
branch_allows tables last p rest env x a is_live over f h =
    from_cond (λ s. Ticks tables last s env x a) is_live rest Nothing
    (λ e k. let b = f e k in record { ends = λ z. or_right (ends0 p) (ends1 p) (b.ends z); exits = b.exits })
    (λ e k. at_code (of_branch p) a (ends_with [] x) k (ends (of_branch p) (other_one is_live (ends0 p || ends1 p) over e))) h

pub resuming_allows :
    (tables : Tables) (last : ℕ → ℤ) (p : Stmt) (n : ℕ) (r : ℕ → ℤ) (env : Env) (x : ℕ → ℤ) (o : Tick)
    → live tables p n r ≡ true → LivesApart tables p n r → Ticks tables last (residual tables p n r) env x o → Allows (resuming p) o.code
resuming_allows tables last Nothing n r env x o l s h = cc
resuming_allows tables last Pause n r env x o l s h = at_code ends_alone o (ends_with [] x) h (ends ends_alone refl)
resuming_allows tables last (Emit c e) n r env x o l s h = cc
resuming_allows tables last (Assign y e) n r env x o l s h = cc
resuming_allows tables last (If e p q) n r env x o l s h =
    let m = n + registers tables p in
    from_cond (λ k. Ticks tables last k env x o) (live tables p n r) (residual tables p n r) (residual tables q m r)
    (λ t k. first_way (resuming p) (resuming q) o.code (resuming_allows tables last p n r env x o t s.1 k))
    (λ t k. second_way (resuming p) (resuming q) o.code (resuming_allows tables last q m r env x o (other_one (live tables p n r) (live tables q m r) l t) s.2 k)) h
resuming_allows tables last (Present t p q) n r env x o l s h =
    let m = n + registers tables p in
    from_cond (λ k. Ticks tables last k env x o) (live tables p n r) (residual tables p n r) (residual tables q m r)
    (λ e k. first_way (resuming p) (resuming q) o.code (resuming_allows tables last p n r env x o e s.1 k))
    (λ e k. second_way (resuming p) (resuming q) o.code (resuming_allows tables last q m r env x o (other_one (live tables p n r) (live tables q m r) l e) s.2 k)) h
resuming_allows tables last (Seq p q) n r env x o l s h =
    let m = n + registers tables p in
    from_cond (λ k. Ticks tables last k env x o) (live tables p n r) (Seq (residual tables p n r) q) (residual tables q m r)
    (λ e k. turn_of_first p q o.code
    (continues_allow (λ y b. Ticks tables last q env y b) q k.0 o (resuming p) (starting q) (has_ended (k.0).code) refl
    (resuming_allows tables last p n r env x k.0 e s.1 k.1) (λ y b i. starting_allows tables last q env y b i) k.2))
    (λ e k. turn_of_second p q o.code (resuming_allows tables last q m r env x o (other_one (live tables p n r) (live tables q m r) l e) s.2 k)) h
resuming_allows tables last (Loop p) n r env x o l s h =
    let a : Tick = h.0 in
    turn_of_loop p o.code
    (continues_allow (λ y b. Ticks tables last (Loop p) env y b) (Loop p) a o (resuming p) (starting (Loop p)) (has_ended a.code) refl
    (resuming_allows tables last p n r env x a l s h.1) (λ y b i. starting_allows tables last (Loop p) env y b i) h.2)
resuming_allows tables last (Par p q) n r env x o l s h =
    let m = n + registers tables p in
    let a : Tick = h.0 in
    let b : Tick = h.1 in
    let over = s.0 l in
    let u = branch_allows tables last p (residual tables p n r) env x a (live tables p n r) over.0 (λ e k. resuming_allows tables last p n r env x a e s.1 k) h.2 in
    let v = branch_allows tables last q (residual tables q m r) env x b (live tables q m r) over.1 (λ e k. resuming_allows tables last q m r env x b e s.2 k) h.3 in
    let c = beside_allows (of_branch p) (of_branch q) a.code b.code u v in
    at_code (resuming (Par p q)) o _ h.4
    (record { ends = λ e. both_true (resumes p || resumes q) ((ends0 p || ends1 p) && (ends0 q || ends1 q)) (live_resumes tables (Par p q) n r l) (c.ends e); exits = c.exits })
resuming_allows tables last (Trap p) n r env x o l s h =
    let a : Tick = h.0 in
    at_code (within_trap (resuming p)) o (as_whole (code_of_trap a.code) (Trap a.rest) a) h.2
    (trapped (resuming p) a.code (resuming_allows tables last p n r env x a l s h.1))
resuming_allows tables last (Exit d) n r env x o l s h = cc
resuming_allows tables last (Abort weak armed t p) n r env x o l s h =
    abort_allows weak (holds env t) (λ a. Ticks tables last (residual tables p n r) env x a) (λ a. Abort weak true t a.rest) x o
    (resuming p) (resumes p) (λ e. live_resumes tables p n r l) (λ e. live_resumes tables p n r l)
    (λ a k. resuming_allows tables last p n r env x a l s k) h
resuming_allows tables last (Suspend armed t p) n r env x o l s h =
    from_chosen (holds env t) (o ≡ quiet 1 (Suspend true t (residual tables p n r)) x)
    ((a : Tick) × Ticks tables last (residual tables p n r) env x a × (o ≡ as_whole a.code (Suspend true t a.rest) a))
    (λ e k. at_code (resuming p) o _ k (pauses (resuming p)))
    (λ e k. at_code (resuming p) o (as_whole (k.0).code (Suspend true t (k.0).rest) k.0) k.2 (resuming_allows tables last p n r env x k.0 l s k.1)) h
resuming_allows tables last (Local c v p) n r env x o l s h =
    let a : Tick = h.2 in
    at_code (resuming p) o _ h.6
    (resuming_allows tables last p (n + length (value_kinds (signal_at tables c).kind)) r (put_at env c (record { present = h.0; value = h.1 })) x a l s h.3)
resuming_allows tables last (Send c e) n r env x o l s h =
    from_cond (λ k. Ticks tables last k env x o) (is_true (r (n + 1))) (Sent c) (SendWaits c (r (n + 2)))
    (λ t k. at_code ends_alone o (ends_with [] x) k (ends ends_alone refl))
    (λ t k. at_code ends_alone o (quiet 1 (SendWaits c (r (n + 2))) x) k (pauses ends_alone)) h
resuming_allows tables last (Receive c) n r env x o l s h =
    from_cond (λ k. Ticks tables last k env x o) (is_true (r (n + 1))) (Received c) (ReceiveWaits c)
    (λ t k. at_code ends_alone o (ends_with [] x) k (ends ends_alone refl))
    (λ t k. at_code ends_alone o (quiet 1 (ReceiveWaits c) x) k (pauses ends_alone)) h
resuming_allows tables last (SendWaits c v) n r env x o l s h = cc
resuming_allows tables last (Sent c) n r env x o l s h = cc
resuming_allows tables last (ReceiveWaits c) n r env x o l s h = cc
resuming_allows tables last (Received c) n r env x o l s h = cc
