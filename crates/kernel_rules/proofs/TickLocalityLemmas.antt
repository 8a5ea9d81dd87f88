-- What a tick leaves: nothing where it doesn't pause, and each variable that the statement doesn't assign.
use Rattle.std.proofs.Common.{◌≡◌, ℕ, ◌==◌, ℤ, Bool, true, false, ◌&&◌, ◌||◌, cond, refl, sym, ap, ◌∙◌, arith}
use Rattle.std.proofs.lemmas.Bool.Decides.{nat_tests}
use Rattle.java_values.specs.Arithmetic.{is_true}
use Rattle.kernel_terms.specs.declared.tables.Tables.{Tables}
use Rattle.kernel_terms.specs.Statements.{Stmt, Nothing, Pause, Emit, Assign, If, Present, Seq, Loop, Par, Trap, Exit, Abort, Suspend, Local, Send, Receive, SendWaits, Sent, ReceiveWaits, Received}
use Rattle.kernel_rules.specs.definitions.Signals.{Env, put_at}
use Rattle.kernel_rules.specs.definitions.Expressions.{holds}
use Rattle.kernel_rules.specs.definitions.TickRule.{Tick, Ticks, has_ended, has_paused, code_of_weak_abort, quiet, as_whole, tick_of_both, Continues, Aborts, writes}
use Rattle.kernel_rules.proofs.StartingTicks.{from_chosen}

-- the variables of a part that doesn't assign this one
first_off : (a b : Bool) → a || b ≡ false → a ≡ false
first_off true b h = absurd cc
first_off false b h = refl

second_off : (a b : Bool) → a || b ≡ false → b ≡ false
second_off true b h = absurd cc
second_off false b h = h

other_variable : (y n : ℕ) (v : ℤ) (x : ℕ → ℤ) → (y == n) ≡ false → put_at x y v n ≡ x n
other_variable y n v x h = let e : (n == y) ≡ false = grind (arith, nat_tests) in ap (λ b. cond b v (x n)) e

continues_keep :
    (second : (ℕ → ℤ) → Tick → Type 0) (q : Stmt) (a o : Tick) (is_over : Bool) (x : ℕ → ℤ) (n : ℕ)
    → a.variables n ≡ x n → ((y : ℕ → ℤ) (b : Tick) → second y b → b.variables n ≡ y n)
    → Continues second q a is_over o → o.variables n ≡ x n
continues_keep second q a o true x n e s h = ap (λ (z : Tick). z.variables n) h.2 ∙ s a.variables h.0 h.1 ∙ e
continues_keep second q a o false x n e s h = ap (λ (z : Tick). z.variables n) h ∙ e

aborts_keep :
    (weak : Bool) (body : Tick → Type 0) (x : ℕ → ℤ) (o : Tick) (n : ℕ)
    → ((a : Tick) → body a → a.variables n ≡ x n) → Aborts weak body x o → o.variables n ≡ x n
aborts_keep false body x o n s h = ap (λ (z : Tick). z.variables n) h
aborts_keep true body x o n s h = ap (λ (z : Tick). z.variables n) h.2 ∙ s h.0 h.1

pub keeps_variable :
    (tables : Tables) (last : ℕ → ℤ) (p : Stmt) (env : Env) (x : ℕ → ℤ) (o : Tick) (n : ℕ)
    → Ticks tables last p env x o → writes p n ≡ false → o.variables n ≡ x n
keeps_variable tables last Nothing env x o n h w = ap (λ (z : Tick). z.variables n) h
keeps_variable tables last Pause env x o n h w = ap (λ (z : Tick). z.variables n) h
keeps_variable tables last (Emit s e) env x o n h w = ap (λ (z : Tick). z.variables n) h.2
keeps_variable tables last (Assign y e) env x o n h w = ap (λ (z : Tick). z.variables n) h.2 ∙ other_variable y n h.0 x w
keeps_variable tables last (If e p q) env x o n h w =
    from_chosen (is_true h.0) (Ticks tables last p env x o) (Ticks tables last q env x o)
    (λ t k. keeps_variable tables last p env x o n k (first_off (writes p n) (writes q n) w))
    (λ t k. keeps_variable tables last q env x o n k (second_off (writes p n) (writes q n) w)) h.2
keeps_variable tables last (Present t p q) env x o n h w =
    from_chosen (holds env t) (Ticks tables last p env x o) (Ticks tables last q env x o)
    (λ t k. keeps_variable tables last p env x o n k (first_off (writes p n) (writes q n) w))
    (λ t k. keeps_variable tables last q env x o n k (second_off (writes p n) (writes q n) w)) h
keeps_variable tables last (Seq p q) env x o n h w =
    continues_keep (λ y b. Ticks tables last q env y b) q h.0 o (has_ended (h.0).code) x n
    (keeps_variable tables last p env x h.0 n h.1 (first_off (writes p n) (writes q n) w))
    (λ y b k. keeps_variable tables last q env y b n k (second_off (writes p n) (writes q n) w)) h.2
keeps_variable tables last (Loop p) env x o n h w = ap (λ (z : Tick). z.variables n) h.3 ∙ keeps_variable tables last p env x h.0 n h.1 w
keeps_variable tables last (Par p q) env x o n h w =
    let a : Tick = h.0 in
    let b : Tick = h.1 in
    ap (λ (z : Tick). z.variables n) h.4 ∙ ap (λ t. cond t (a.variables n) (b.variables n)) (first_off (writes p n) (writes q n) w)
    ∙ keeps_variable tables last q env x b n h.3 (second_off (writes p n) (writes q n) w)
keeps_variable tables last (Trap p) env x o n h w = ap (λ (z : Tick). z.variables n) h.2 ∙ keeps_variable tables last p env x h.0 n h.1 w
keeps_variable tables last (Exit d) env x o n h w = ap (λ (z : Tick). z.variables n) h
keeps_variable tables last (Abort weak armed t p) env x o n h w =
    from_chosen (armed && holds env t) (Aborts weak (λ a. Ticks tables last p env x a) x o)
    ((a : Tick) × Ticks tables last p env x a × (o ≡ as_whole a.code (Abort weak true t a.rest) a))
    (λ e k. aborts_keep weak (λ a. Ticks tables last p env x a) x o n (λ a m. keeps_variable tables last p env x a n m w) k)
    (λ e k. ap (λ (z : Tick). z.variables n) k.2 ∙ keeps_variable tables last p env x k.0 n k.1 w) h
keeps_variable tables last (Suspend armed t p) env x o n h w =
    from_chosen (armed && holds env t) (o ≡ quiet 1 (Suspend armed t p) x)
    ((a : Tick) × Ticks tables last p env x a × (o ≡ as_whole a.code (Suspend true t a.rest) a))
    (λ e k. ap (λ (z : Tick). z.variables n) k)
    (λ e k. ap (λ (z : Tick). z.variables n) k.2 ∙ keeps_variable tables last p env x k.0 n k.1 w) h
keeps_variable tables last (Local s v p) env x o n h w =
    ap (λ (z : Tick). z.variables n) h.6 ∙ keeps_variable tables last p (put_at env s (record { present = h.0; value = h.1 })) x h.2 n h.3 w
keeps_variable tables last (Send c e) env x o n h w = ap (λ (z : Tick). z.variables n) h.2
keeps_variable tables last (Receive c) env x o n h w = ap (λ (z : Tick). z.variables n) h
keeps_variable tables last (SendWaits c v) env x o n h w = ap (λ (z : Tick). z.variables n) h
keeps_variable tables last (Sent c) env x o n h w = ap (λ (z : Tick). z.variables n) h
keeps_variable tables last (ReceiveWaits c) env x o n h w = ap (λ (z : Tick). z.variables n) h
keeps_variable tables last (Received c) env x o n h w = ap (λ (z : Tick). z.variables n) h

-- a whole leaves nothing where it doesn't pause
leaves_as_whole : (code : ℕ) (t : Stmt) (o : Tick) (a : Tick) → o ≡ as_whole code t a → has_paused o.code ≡ false → o.rest ≡ Nothing
leaves_as_whole code t o a e h =
    ap (λ (z : Tick). z.rest) e ∙ ap (λ b. cond b t Nothing) (sym (ap (λ (z : Tick). has_paused z.code) e) ∙ h)

pauses_still : (o t : Tick) → o ≡ t → has_paused t.code ≡ true → has_paused o.code ≡ false → o.rest ≡ Nothing
pauses_still o t e p h = absurd (let f : true ≡ false = sym p ∙ sym (ap (λ (z : Tick). has_paused z.code) e) ∙ h in cc)

continues_leave :
    (second : (ℕ → ℤ) → Tick → Type 0) (q : Stmt) (a o : Tick) (is_over : Bool)
    → ((y : ℕ → ℤ) (b : Tick) → second y b → has_paused b.code ≡ false → b.rest ≡ Nothing)
    → Continues second q a is_over o → has_paused o.code ≡ false → o.rest ≡ Nothing
continues_leave second q a o true s h e =
    ap (λ (z : Tick). z.rest) h.2 ∙ s a.variables h.0 h.1 (sym (ap (λ (z : Tick). has_paused z.code) h.2) ∙ e)
continues_leave second q a o false s h e = leaves_as_whole a.code (Seq a.rest q) o a h e

aborts_leave : (weak : Bool) (body : Tick → Type 0) (x : ℕ → ℤ) (o : Tick) → Aborts weak body x o → has_paused o.code ≡ false → o.rest ≡ Nothing
aborts_leave false body x o h e = ap (λ (z : Tick). z.rest) h
aborts_leave true body x o h e = leaves_as_whole (code_of_weak_abort (h.0).code) Nothing o h.0 h.2 e

pub leaves_nothing :
    (tables : Tables) (last : ℕ → ℤ) (p : Stmt) (env : Env) (x : ℕ → ℤ) (o : Tick)
    → Ticks tables last p env x o → has_paused o.code ≡ false → o.rest ≡ Nothing
leaves_nothing tables last Nothing env x o h e = ap (λ (z : Tick). z.rest) h
leaves_nothing tables last Pause env x o h e = ap (λ (z : Tick). z.rest) h
leaves_nothing tables last (Emit s v) env x o h e = ap (λ (z : Tick). z.rest) h.2
leaves_nothing tables last (Assign y v) env x o h e = ap (λ (z : Tick). z.rest) h.2
leaves_nothing tables last (If v p q) env x o h e =
    from_chosen (is_true h.0) (Ticks tables last p env x o) (Ticks tables last q env x o)
    (λ t k. leaves_nothing tables last p env x o k e) (λ t k. leaves_nothing tables last q env x o k e) h.2
leaves_nothing tables last (Present t p q) env x o h e =
    from_chosen (holds env t) (Ticks tables last p env x o) (Ticks tables last q env x o)
    (λ t k. leaves_nothing tables last p env x o k e) (λ t k. leaves_nothing tables last q env x o k e) h
leaves_nothing tables last (Seq p q) env x o h e =
    continues_leave (λ y b. Ticks tables last q env y b) q h.0 o (has_ended (h.0).code) (λ y b k. leaves_nothing tables last q env y b k) h.2 e
leaves_nothing tables last (Loop p) env x o h e = leaves_as_whole (h.0).code (Seq (h.0).rest (Loop p)) o h.0 h.3 e
leaves_nothing tables last (Par p q) env x o h e =
    let both = tick_of_both p h.0 h.1 in
    ap (λ (z : Tick). z.rest) h.4 ∙ ap (λ b. cond b (Par (h.0).rest (h.1).rest) Nothing) (sym (ap (λ (z : Tick). has_paused z.code) h.4) ∙ e)
leaves_nothing tables last (Trap p) env x o h e = leaves_as_whole _ (Trap (h.0).rest) o h.0 h.2 e
leaves_nothing tables last (Exit d) env x o h e = ap (λ (z : Tick). z.rest) h
leaves_nothing tables last (Abort weak armed t p) env x o h e =
    from_chosen (armed && holds env t) (Aborts weak (λ a. Ticks tables last p env x a) x o)
    ((a : Tick) × Ticks tables last p env x a × (o ≡ as_whole a.code (Abort weak true t a.rest) a))
    (λ y k. aborts_leave weak (λ a. Ticks tables last p env x a) x o k e)
    (λ y k. leaves_as_whole (k.0).code (Abort weak true t (k.0).rest) o k.0 k.2 e) h
leaves_nothing tables last (Suspend armed t p) env x o h e =
    from_chosen (armed && holds env t) (o ≡ quiet 1 (Suspend armed t p) x)
    ((a : Tick) × Ticks tables last p env x a × (o ≡ as_whole a.code (Suspend true t a.rest) a))
    (λ y k. pauses_still o (quiet 1 (Suspend armed t p) x) k refl e)
    (λ y k. leaves_as_whole (k.0).code (Suspend true t (k.0).rest) o k.0 k.2 e) h
leaves_nothing tables last (Local s v p) env x o h e =
    let a : Tick = h.2 in
    ap (λ (z : Tick). z.rest) h.6 ∙ ap (λ b. cond b (Local s h.1 a.rest) Nothing) (sym (ap (λ (z : Tick). has_paused z.code) h.6) ∙ e)
leaves_nothing tables last (Send c v) env x o h e = pauses_still o (quiet 1 (SendWaits c h.0) x) h.2 refl e
leaves_nothing tables last (Receive c) env x o h e = pauses_still o (quiet 1 (ReceiveWaits c) x) h refl e
leaves_nothing tables last (SendWaits c v) env x o h e = pauses_still o (quiet 1 (SendWaits c v) x) h refl e
leaves_nothing tables last (Sent c) env x o h e = ap (λ (z : Tick). z.rest) h
leaves_nothing tables last (ReceiveWaits c) env x o h e = pauses_still o (quiet 1 (ReceiveWaits c) x) h refl e
leaves_nothing tables last (Received c) env x o h e = ap (λ (z : Tick). z.rest) h
