-- A tick of a statement of a domain ends or pauses: each of its exits goes to a trap around it.
use Rattle.std.proofs.Common.{◌≡◌, ℕ, suc, max, ◌+◌, ◌<◌, ◌-◌, ◌==◌, nat_lt, ℤ, Bool, true, false, ◌&&◌, cond, [], ◌∷◌, ◌++◌, refl, sym, subst, arith}
use Rattle.std.proofs.lemmas.Bool.Decides.{nat_tests}
use Rattle.java_values.specs.Arithmetic.{is_true}
use Rattle.java_values.specs.declared.kind.Kind.TheVariants as kind
use Rattle.kernel_terms.specs.declared.tables.Tables.{Tables}
use Rattle.kernel_terms.specs.Limits.{most_traps}
use Rattle.kernel_terms.specs.Statements.{Stmt, Nothing, Pause, Emit, Assign, If, Present, Seq, Loop, Par, Trap, Exit, Abort, Suspend, Local, Send, Receive, SendWaits, Sent, ReceiveWaits, Received}
use Rattle.kernel_terms.specs.WellFormed.{Scope, fits_statement, fits_test, is_given, is_local_of}
use Rattle.kernel_rules.specs.definitions.Signals.{Env, put_at}
use Rattle.kernel_rules.specs.definitions.Expressions.{holds}
use Rattle.kernel_rules.specs.definitions.LegalTick.{is_tick_code}
use Rattle.kernel_rules.specs.definitions.Registers.{registers, live, residual}
use Rattle.kernel_rules.specs.definitions.TickRule.{Tick, Ticks, Continues, Chosen, Aborts, has_ended, has_paused, has_exited, exit_code, code_of_trap, code_of_weak_abort, as_whole, quiet, ends_with}
use Rattle.kernel_rules.proofs.StartingTicks.{from_chosen}
use Rattle.surf_graph.proofs.Booleans.{left_of, right_of}

-- each exit goes to one of so many traps around the statement
abbrev pub ExitsInside : ℕ → Stmt → Type 0
ExitsInside n Nothing = Unit {0}
ExitsInside n Pause = Unit {0}
ExitsInside n (Emit s e) = Unit {0}
ExitsInside n (Assign x e) = Unit {0}
ExitsInside n (If e p q) = ExitsInside n p × ExitsInside n q
ExitsInside n (Present t p q) = ExitsInside n p × ExitsInside n q
ExitsInside n (Seq p q) = ExitsInside n p × ExitsInside n q
ExitsInside n (Loop p) = ExitsInside n p
ExitsInside n (Par p q) = ExitsInside n p × ExitsInside n q
ExitsInside n (Trap p) = ExitsInside (suc n) p
ExitsInside n (Exit d) = (d < n) × (d < most_traps)
ExitsInside n (Abort weak armed t p) = ExitsInside n p
ExitsInside n (Suspend armed t p) = ExitsInside n p
ExitsInside n (Local s v p) = ExitsInside n p
ExitsInside n (Send c e) = Unit {0}
ExitsInside n (Receive c) = Unit {0}
ExitsInside n (SendWaits c v) = Unit {0}
ExitsInside n (Sent c) = Unit {0}
ExitsInside n (ReceiveWaits c) = Unit {0}
ExitsInside n (Received c) = Unit {0}

below_both : (d n : ℕ) → nat_lt d n && nat_lt d most_traps ≡ true → (d < n) × (d < most_traps)
below_both d n h =
    let a = left_of (nat_lt d n) (nat_lt d most_traps) h in
    let b = right_of (nat_lt d n) (nat_lt d most_traps) h in
    (grind (arith, nat_tests), grind (arith, nat_tests))

pub fitting_inside : (t : Tables) (scope : Scope) (p : Stmt) → fits_statement t scope p ≡ true → ExitsInside scope.traps p
fitting_inside t scope Nothing h = tt
fitting_inside t scope Pause h = tt
fitting_inside t scope (Emit s e) h = tt
fitting_inside t scope (Assign x e) h = tt
fitting_inside t scope (If e p q) h =
    let k = right_of (is_given t scope kind.Boolean e) (fits_statement t scope p && fits_statement t scope q) h in
    (fitting_inside t scope p (left_of (fits_statement t scope p) (fits_statement t scope q) k), fitting_inside t scope q (right_of (fits_statement t scope p) (fits_statement t scope q) k))
fitting_inside t scope (Present u p q) h =
    let k = right_of (fits_test t scope u) (fits_statement t scope p && fits_statement t scope q) h in
    (fitting_inside t scope p (left_of (fits_statement t scope p) (fits_statement t scope q) k), fitting_inside t scope q (right_of (fits_statement t scope p) (fits_statement t scope q) k))
fitting_inside t scope (Seq p q) h =
    (fitting_inside t scope p (left_of (fits_statement t scope p) (fits_statement t scope q) h), fitting_inside t scope q (right_of (fits_statement t scope p) (fits_statement t scope q) h))
fitting_inside t scope (Loop p) h = fitting_inside t scope p h
fitting_inside t scope (Par p q) h =
    (fitting_inside t scope p (left_of (fits_statement t scope p) (fits_statement t scope q) h), fitting_inside t scope q (right_of (fits_statement t scope p) (fits_statement t scope q) h))
fitting_inside t scope (Trap p) h = fitting_inside t (record scope { traps = suc scope.traps }) p h
fitting_inside t scope (Exit d) h = below_both d scope.traps h
fitting_inside t scope (Abort weak armed u p) h = fitting_inside t scope p (right_of (fits_test t scope u) (fits_statement t scope p) h)
fitting_inside t scope (Suspend armed u p) h = fitting_inside t scope p (right_of (fits_test t scope u) (fits_statement t scope p) h)
fitting_inside t scope (Local s v p) h =
    let inner : Scope = record scope { locals = s ∷ scope.locals } in
    fitting_inside t inner p (right_of (is_local_of t scope.domain s) (fits_statement t inner p) h)
fitting_inside t scope (Send c e) h = tt
fitting_inside t scope (Receive c) h = tt
fitting_inside t scope (SendWaits c v) h = tt
fitting_inside t scope (Sent c) h = tt
fitting_inside t scope (ReceiveWaits c) h = tt
fitting_inside t scope (Received c) h = tt

-- what registers stand for
one_inside : (n : ℕ) (b : Bool) (p q : Stmt) → ExitsInside n p → ExitsInside n q → ExitsInside n (cond b p q)
one_inside n true p q h k = h
one_inside n false p q h k = k

pub residual_inside : (tables : Tables) (n : ℕ) (p : Stmt) (m : ℕ) (r : ℕ → ℤ) → ExitsInside n p → ExitsInside n (residual tables p m r)
residual_inside tables n Nothing m r h = tt
residual_inside tables n Pause m r h = tt
residual_inside tables n (Emit s e) m r h = tt
residual_inside tables n (Assign x e) m r h = tt
residual_inside tables n (If e p q) m r h =
    one_inside n (live tables p m r) (residual tables p m r) (residual tables q (m + registers tables p) r) (residual_inside tables n p m r h.0) (residual_inside tables n q (m + registers tables p) r h.1)
residual_inside tables n (Present t p q) m r h =
    one_inside n (live tables p m r) (residual tables p m r) (residual tables q (m + registers tables p) r) (residual_inside tables n p m r h.0) (residual_inside tables n q (m + registers tables p) r h.1)
residual_inside tables n (Seq p q) m r h =
    one_inside n (live tables p m r) (Seq (residual tables p m r) q) (residual tables q (m + registers tables p) r)
    (residual_inside tables n p m r h.0, h.1) (residual_inside tables n q (m + registers tables p) r h.1)
residual_inside tables n (Loop p) m r h = (residual_inside tables n p m r h, h)
residual_inside tables n (Par p q) m r h = (
  one_inside n (live tables p m r) (residual tables p m r) Nothing (residual_inside tables n p m r h.0) tt,
  one_inside n (live tables q (m + registers tables p) r) (residual tables q (m + registers tables p) r) Nothing (residual_inside tables n q (m + registers tables p) r h.1) tt,
)
residual_inside tables n (Trap p) m r h = residual_inside tables (suc n) p m r h
residual_inside tables n (Exit d) m r h = tt
residual_inside tables n (Abort weak armed t p) m r h = residual_inside tables n p m r h
residual_inside tables n (Suspend armed t p) m r h = residual_inside tables n p m r h
residual_inside tables n (Local s v p) m r h = residual_inside tables n p _ r h
residual_inside tables n (Send c e) m r h = one_inside n (is_true (r (m + 1))) (Sent c) (SendWaits c (r (m + 2))) tt tt
residual_inside tables n (Receive c) m r h = one_inside n (is_true (r (m + 1))) (Received c) (ReceiveWaits c) tt tt
residual_inside tables n (SendWaits c v) m r h = tt
residual_inside tables n (Sent c) m r h = tt
residual_inside tables n (ReceiveWaits c) m r h = tt
residual_inside tables n (Received c) m r h = tt

-- a code of an end, of a pause, or of an exit to one of so many traps
pub record Inside (n code : ℕ) : Type 0 where
  pub traps : code < exit_code n
  pub exits : code < exit_code most_traps

at_code : (n : ℕ) (o b : Tick) → o ≡ b → Inside n b.code → Inside n o.code
at_code n o b e h = subst (λ (z : Tick). Inside n z.code) (sym e) h

ended : (n : ℕ) → Inside n 0
ended n = record { traps = omega arith; exits = omega arith }

paused : (n : ℕ) → Inside n 1
paused n = record { traps = omega arith; exits = omega arith }

greater : (n a b : ℕ) → Inside n a → Inside n b → Inside n (max a b)
greater n a b h k = let x = h.traps in let y = h.exits in let z = k.traps in let u = k.exits in record { traps = grind arith; exits = grind arith }

lowered : (n code : ℕ) (out : Bool) → has_exited code ≡ out → (code == exit_code 0) ≡ false → Inside (suc n) code → Inside n (cond out (code - 1) code)
lowered n code true e f h = let x = h.traps in let y = h.exits in record { traps = omega (arith, x); exits = omega (arith, y) }
lowered n code false e f h =
    let x = h.exits in
    let low : code < 2 = grind (arith, nat_tests) in
    record { traps = omega (arith, low); exits = x }

trapped : (n code : ℕ) → Inside (suc n) code → Inside n (code_of_trap code)
trapped n code h = by_test (code == exit_code 0) refl
  where
    by_test : (own : Bool) → (code == exit_code 0) ≡ own → Inside n (cond own 0 (cond (has_exited code) (code - 1) code))
    by_test true e = ended n
    by_test false e = lowered n code (has_exited code) refl e h

weakly : (n code : ℕ) → Inside n code → Inside n (code_of_weak_abort code)
weakly n code h = by_test (has_paused code)
  where
    by_test : (b : Bool) → Inside n (cond b 0 code)
    by_test true = ended n
    by_test false = h

continues_inside : (n : ℕ) (second : (ℕ → ℤ) → Tick → Type 0) (q : Stmt) (a o : Tick) (is_over : Bool)
    → Inside n a.code → ((y : ℕ → ℤ) (b : Tick) → second y b → Inside n b.code) → Continues second q a is_over o → Inside n o.code
continues_inside n second q a o true h s c = at_code n o (record c.0 { emits = a.emits ++ (c.0).emits }) c.2 (s a.variables c.0 c.1)
continues_inside n second q a o false h s c = at_code n o (as_whole a.code (Seq a.rest q) a) c h

abort_inside : (n : ℕ) (weak t : Bool) (body : Tick → Type 0) (other : Tick → Stmt) (x : ℕ → ℤ) (o : Tick)
    → ((a : Tick) → body a → Inside n a.code) → Chosen t (Aborts weak body x o) ((a : Tick) × body a × (o ≡ as_whole a.code (other a) a)) → Inside n o.code
abort_inside n false true body other x o s c = at_code n o (ends_with [] x) c (ended n)
abort_inside n true true body other x o s c = at_code n o (as_whole (code_of_weak_abort (c.0).code) Nothing c.0) c.2 (weakly n (c.0).code (s c.0 c.1))
abort_inside n weak false body other x o s c = at_code n o (as_whole (c.0).code (other c.0) c.0) c.2 (s c.0 c.1)

pub tick_inside : (tables : Tables) (last : ℕ → ℤ) (n : ℕ) (p : Stmt) (env : Env) (x : ℕ → ℤ) (o : Tick) → ExitsInside n p → Ticks tables last p env x o → Inside n o.code
tick_inside tables last n Nothing env x o i h = at_code n o (ends_with [] x) h (ended n)
tick_inside tables last n Pause env x o i h = at_code n o (quiet 1 Nothing x) h (paused n)
tick_inside tables last n (Emit s e) env x o i h = at_code n o _ h.2 (ended n)
tick_inside tables last n (Assign y e) env x o i h = at_code n o _ h.2 (ended n)
tick_inside tables last n (If e p q) env x o i h =
    from_chosen (is_true h.0) (Ticks tables last p env x o) (Ticks tables last q env x o)
    (λ t k. tick_inside tables last n p env x o i.0 k) (λ t k. tick_inside tables last n q env x o i.1 k) h.2
tick_inside tables last n (Present t p q) env x o i h =
    from_chosen (holds env t) (Ticks tables last p env x o) (Ticks tables last q env x o)
    (λ e k. tick_inside tables last n p env x o i.0 k) (λ e k. tick_inside tables last n q env x o i.1 k) h
tick_inside tables last n (Seq p q) env x o i h =
    let a : Tick = h.0 in
    continues_inside n (λ y b. Ticks tables last q env y b) q a o (has_ended a.code) (tick_inside tables last n p env x a i.0 h.1) (λ y b k. tick_inside tables last n q env y b i.1 k) h.2
tick_inside tables last n (Loop p) env x o i h =
    let a : Tick = h.0 in at_code n o (as_whole a.code (Seq a.rest (Loop p)) a) h.3 (tick_inside tables last n p env x a i h.1)
tick_inside tables last n (Par p q) env x o i h =
    let a : Tick = h.0 in
    let b : Tick = h.1 in
    at_code n o _ h.4 (greater n a.code b.code (tick_inside tables last n p env x a i.0 h.2) (tick_inside tables last n q env x b i.1 h.3))
tick_inside tables last n (Trap p) env x o i h =
    let a : Tick = h.0 in at_code n o (as_whole (code_of_trap a.code) (Trap a.rest) a) h.2 (trapped n a.code (tick_inside tables last (suc n) p env x a i h.1))
tick_inside tables last n (Exit d) env x o i h =
    let l = i.0 in
    let m = i.1 in
    at_code n o (quiet (exit_code d) Nothing x) h (record { traps = omega (arith, l); exits = omega (arith, m) })
tick_inside tables last n (Abort weak armed t p) env x o i h =
    abort_inside n weak (armed && holds env t) (λ a. Ticks tables last p env x a) (λ a. Abort weak true t a.rest) x o (λ a k. tick_inside tables last n p env x a i k) h
tick_inside tables last n (Suspend armed t p) env x o i h =
    from_chosen (armed && holds env t) (o ≡ quiet 1 (Suspend armed t p) x)
    ((a : Tick) × Ticks tables last p env x a × (o ≡ as_whole a.code (Suspend true t a.rest) a))
    (λ e k. at_code n o (quiet 1 (Suspend armed t p) x) k (paused n))
    (λ e k. at_code n o (as_whole (k.0).code (Suspend true t (k.0).rest) k.0) k.2 (tick_inside tables last n p env x k.0 i k.1)) h
tick_inside tables last n (Local s v p) env x o i h =
    let a : Tick = h.2 in at_code n o _ h.6 (tick_inside tables last n p (put_at env s (record { present = h.0; value = h.1 })) x a i h.3)
tick_inside tables last n (Send c e) env x o i h = at_code n o _ h.2 (paused n)
tick_inside tables last n (Receive c) env x o i h = at_code n o (quiet 1 (ReceiveWaits c) x) h (paused n)
tick_inside tables last n (SendWaits c v) env x o i h = at_code n o (quiet 1 (SendWaits c v) x) h (paused n)
tick_inside tables last n (Sent c) env x o i h = at_code n o (ends_with [] x) h (ended n)
tick_inside tables last n (ReceiveWaits c) env x o i h = at_code n o (quiet 1 (ReceiveWaits c) x) h (paused n)
tick_inside tables last n (Received c) env x o i h = at_code n o (ends_with [] x) h (ended n)

small_code : (code : ℕ) → Inside 0 code → is_tick_code code ≡ true
small_code code h = let l = h.traps in grind (arith, nat_tests)

-- with no trap around it
pub tick_code : (tables : Tables) (last : ℕ → ℤ) (p : Stmt) (env : Env) (x : ℕ → ℤ) (o : Tick) → ExitsInside 0 p → Ticks tables last p env x o → is_tick_code o.code ≡ true
tick_code tables last p env x o i h = small_code o.code (tick_inside tables last 0 p env x o i h)
