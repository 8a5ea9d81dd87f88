-- The tick of a trial is the only one where the statuses of the local signals can't be others.
use Rattle.std.proofs.Common.{◌≡◌, ℕ, ℤ, Bool, true, false, not, ◌&&◌, List, [], ◌∷◌, ◌++◌, Option, Some, None, refl, sym, ap, ap₂, ◌∙◌, subst}
use Rattle.java_values.specs.Arithmetic.{is_true}
use Rattle.kernel_terms.specs.declared.tables.Tables.{Tables}
use Rattle.kernel_terms.specs.TableEntries.{signal_at}
use Rattle.kernel_terms.specs.Expressions.{Expression}
use Rattle.kernel_terms.specs.WellFormed.{declared_by}
use Rattle.kernel_terms.specs.Statements.{Stmt, Nothing, Pause, Emit, Assign, If, Present, Seq, Loop, Par, Trap, Exit, Abort, Suspend, Local, Send, Receive, SendWaits, Sent, ReceiveWaits, Received}
use Rattle.kernel_rules.specs.definitions.Signals.{Env, Status, put_at, is_emitted, values_of, without, folded}
use Rattle.kernel_rules.specs.definitions.Expressions.{Readings, value_of, holds}
use Rattle.kernel_rules.specs.definitions.TickRule.{Tick, Ticks, has_ended, code_of_trap, code_of_weak_abort, left_at, quiet, ends_with, as_whole, tick_of_both, Continues, Chosen, IsEmitted, Aborts}
use Rattle.kernel_rules.proofs.BooleanLemmas.{left_of, right_of, both_true}
use Rattle.kernel_rules.proofs.TickTrials.{Trial, trial, emitted_value, next_status, later_statuses, continued, chosen, aborts, with_tick, sure}

-- no local signal stands in the statement
abbrev pub is_plain : Stmt → Bool
is_plain Nothing = true
is_plain Pause = true
is_plain (Emit s e) = true
is_plain (Assign y e) = true
is_plain (If e p q) = is_plain p && is_plain q
is_plain (Present t p q) = is_plain p && is_plain q
is_plain (Seq p q) = is_plain p && is_plain q
is_plain (Loop p) = is_plain p
is_plain (Par p q) = is_plain p && is_plain q
is_plain (Trap p) = is_plain p
is_plain (Exit d) = true
is_plain (Abort weak armed t p) = is_plain p
is_plain (Suspend armed t p) = is_plain p
is_plain (Local s v p) = false
is_plain (Send c e) = true
is_plain (Receive c) = true
is_plain (SendWaits c v) = true
is_plain (Sent c) = true
is_plain (ReceiveWaits c) = true
is_plain (Received c) = true

-- nothing is to be shown of a part in which no local signal stands
abbrev pub Unless : Bool → Type 0 → Type 0
Unless true A = Unit {0}
Unless false A = A

abbrev pub Where : Bool → Type 0 → Type 0
Where true A = A
Where false A = Unit {0}

-- with this status of the local signal the body gives it the status that was foreseen
abbrev pub Foreseen : Tables → ℕ → ℤ → Status → Trial → Type 0
Foreseen tables s v status a =
    (is_emitted a.tick.emits s ≡ status.present) × (folded (signal_at tables s) v (values_of s a.tick.emits) ≡ status.value)

-- of a signal that is present, and of one that is absent, with each value
abbrev pub EachStatus : (Bool → ℤ → Type 0) → Type 0
EachStatus P = ((w : ℤ) → P true w) × ((w : ℤ) → P false w)

-- Whatever the status of each local signal is taken to be, its body gives it the one that was foreseen.
abbrev pub Sole : Tables → (ℕ → ℤ) → Stmt → Env → (ℕ → ℤ) → List Status → Type 0
Sole tables last Nothing env x g = Unit {0}
Sole tables last Pause env x g = Unit {0}
Sole tables last (Emit s e) env x g = Unit {0}
Sole tables last (Assign y e) env x g = Unit {0}
Sole tables last (If e p q) env x g =
    Chosen (is_true (value_of (record { variables = x; env = env; last = last }) e))
    (Unless (is_plain p) (Sole tables last p env x g)) (Unless (is_plain q) (Sole tables last q env x g))
Sole tables last (Present t p q) env x g =
    Chosen (holds env t) (Unless (is_plain p) (Sole tables last p env x g)) (Unless (is_plain q) (Sole tables last q env x g))
Sole tables last (Seq p q) env x g =
    Unless (is_plain p) (Sole tables last p env x g)
    × Where (has_ended (trial tables last p env x g).tick.code)
    (Unless (is_plain q) (Sole tables last q env (trial tables last p env x g).tick.variables (trial tables last p env x g).left))
Sole tables last (Loop p) env x g = Unless (is_plain p) (Sole tables last p env x g)
Sole tables last (Par p q) env x g =
    Unless (is_plain p) (Sole tables last p env x g) × Unless (is_plain q) (Sole tables last q env x (trial tables last p env x g).left)
Sole tables last (Trap p) env x g = Unless (is_plain p) (Sole tables last p env x g)
Sole tables last (Exit d) env x g = Unit {0}
Sole tables last (Abort weak armed t p) env x g = Unless (is_plain p) (Sole tables last p env x g)
Sole tables last (Suspend armed t p) env x g = Where (not (armed && holds env t)) (Unless (is_plain p) (Sole tables last p env x g))
Sole tables last (Local s v p) env x g =
    EachStatus (λ b w. Unless (is_plain p) (Sole tables last p (put_at env s (record { present = b; value = w })) x (later_statuses g))
    × Foreseen tables s v (next_status g) (trial tables last p (put_at env s (record { present = b; value = w })) x (later_statuses g)))
Sole tables last (Send c e) env x g = Unit {0}
Sole tables last (Receive c) env x g = Unit {0}
Sole tables last (SendWaits c v) env x g = Unit {0}
Sole tables last (Sent c) env x g = Unit {0}
Sole tables last (ReceiveWaits c) env x g = Unit {0}
Sole tables last (Received c) env x g = Unit {0}

unless : (b : Bool) (A : Type 0) → A → Unless b A
unless true A a = tt
unless false A a = a

where_this : (b : Bool) (A : Type 0) → A → Where b A
where_this true A a = a
where_this false A a = tt

at_status : (P : Bool → ℤ → Type 0) → EachStatus P → (b : Bool) (w : ℤ) → P b w
at_status P h true w = h.0 w
at_status P h false w = h.1 w

choose : (b : Bool) (A B : Type 0) → A → B → Chosen b A B
choose true A B a b = a
choose false A B a b = b

pub plain_sole : (tables : Tables) (last : ℕ → ℤ) (p : Stmt) (env : Env) (x : ℕ → ℤ) (g : List Status) → is_plain p ≡ true → Sole tables last p env x g
plain_sole tables last Nothing env x g h = tt
plain_sole tables last Pause env x g h = tt
plain_sole tables last (Emit s e) env x g h = tt
plain_sole tables last (Assign y e) env x g h = tt
plain_sole tables last (If e p q) env x g h =
    choose (is_true (value_of (record { variables = x; env = env; last = last }) e))
    (Unless (is_plain p) (Sole tables last p env x g)) (Unless (is_plain q) (Sole tables last q env x g))
    (unless (is_plain p) _ (plain_sole tables last p env x g (left_of (is_plain p) (is_plain q) h)))
    (unless (is_plain q) _ (plain_sole tables last q env x g (right_of (is_plain p) (is_plain q) h)))
plain_sole tables last (Present t p q) env x g h =
    choose (holds env t)
    (Unless (is_plain p) (Sole tables last p env x g)) (Unless (is_plain q) (Sole tables last q env x g))
    (unless (is_plain p) _ (plain_sole tables last p env x g (left_of (is_plain p) (is_plain q) h)))
    (unless (is_plain q) _ (plain_sole tables last q env x g (right_of (is_plain p) (is_plain q) h)))
plain_sole tables last (Seq p q) env x g h =
    let a = trial tables last p env x g in
    let later = Unless (is_plain q) (Sole tables last q env a.tick.variables a.left) in (
      unless (is_plain p) _ (plain_sole tables last p env x g (left_of (is_plain p) (is_plain q) h)),
      where_this (has_ended a.tick.code) later (unless (is_plain q) _ (plain_sole tables last q env a.tick.variables a.left (right_of (is_plain p) (is_plain q) h))),
    )
plain_sole tables last (Loop p) env x g h = unless (is_plain p) _ (plain_sole tables last p env x g h)
plain_sole tables last (Par p q) env x g h =
    let a = trial tables last p env x g in (
      unless (is_plain p) _ (plain_sole tables last p env x g (left_of (is_plain p) (is_plain q) h)),
      unless (is_plain q) _ (plain_sole tables last q env x a.left (right_of (is_plain p) (is_plain q) h)),
    )
plain_sole tables last (Trap p) env x g h = unless (is_plain p) _ (plain_sole tables last p env x g h)
plain_sole tables last (Exit d) env x g h = tt
plain_sole tables last (Abort weak armed t p) env x g h = unless (is_plain p) _ (plain_sole tables last p env x g h)
plain_sole tables last (Suspend armed t p) env x g h =
    where_this (not (armed && holds env t)) (Unless (is_plain p) (Sole tables last p env x g)) (unless (is_plain p) _ (plain_sole tables last p env x g h))
plain_sole tables last (Local s v p) env x g h = absurd cc
plain_sole tables last (Send c e) env x g h = tt
plain_sole tables last (Receive c) env x g h = tt
plain_sole tables last (SendWaits c v) env x g h = tt
plain_sole tables last (Sent c) env x g h = tt
plain_sole tables last (ReceiveWaits c) env x g h = tt
plain_sole tables last (Received c) env x g h = tt

-- a part that is plain, or of which it was shown
of_part :
    (tables : Tables) (last : ℕ → ℤ) (p : Stmt) (env : Env) (x : ℕ → ℤ) (g : List Status) (b : Bool)
    → is_plain p ≡ b → Unless b (Sole tables last p env x g) → Sole tables last p env x g
of_part tables last p env x g true e u = plain_sole tables last p env x g e
of_part tables last p env x g false e u = u

emitted_is : (r : Readings) (e : Option Expression) (v : ℤ) → IsEmitted r e v → v ≡ emitted_value r e
emitted_is r None v h = h
emitted_is r (Some e) v h = h

chosen_is :
    (t : Bool) (p q : List Status → Trial) (g : List Status) (o : Tick) (S T A B : Type 0)
    → (S → A → o ≡ (p g).tick) → (T → B → o ≡ (q g).tick)
    → Chosen t S T → Chosen t A B → o ≡ (chosen t p q g).tick
chosen_is true p q g o S T A B f k s h = f s h
chosen_is false p q g o S T A B f k s h = k s h

continued_is :
    (second : (ℕ → ℤ) → List Status → Trial) (S : (ℕ → ℤ) → Tick → Type 0) (q : Stmt) (a : Trial) (o : Tick) (e : Bool) (T : Type 0)
    → (T → (b : Tick) → S a.tick.variables b → b ≡ (second a.tick.variables a.left).tick)
    → Where e T → Continues S q a.tick e o → o ≡ (continued second q a e).tick
continued_is second S q a o true T f s h = h.2 ∙ ap (λ (b : Tick). record b { emits = a.tick.emits ++ b.emits }) (f s h.0 h.1)
continued_is second S q a o false T f s h = h

aborts_is :
    (weak : Bool) (body : List Status → Trial) (B : Tick → Type 0) (x : ℕ → ℤ) (g : List Status) (o : Tick)
    → ((a : Tick) → B a → a ≡ (body g).tick)
    → Aborts weak B x o → o ≡ (aborts weak body x g).tick
aborts_is false body B x g o f h = h
aborts_is true body B x g o f h = h.2 ∙ ap (λ (a : Tick). as_whole (code_of_weak_abort a.code) Nothing a) (f h.0 h.1)

suspended_is :
    (b : Bool) (T A : Type 0) (p q : List Status → Trial) (g : List Status) (o : Tick)
    → (A → o ≡ (p g).tick) → (B : Type 0) → (T → B → o ≡ (q g).tick)
    → Where (not b) T → Chosen b A B → o ≡ (chosen b p q g).tick
suspended_is true T A p q g o f B k s h = f h
suspended_is false T A p q g o f B k s h = k s h

-- the tick of a statement with a local signal, by the tick of its body
abbrev of_local : ℕ → Status → Tick → Tick
of_local s status a = record { code = a.code; rest = left_at a.code (Local s status.value a.rest); emits = without s a.emits; variables = a.variables }

pub sole :
    (tables : Tables) (last : ℕ → ℤ) (p : Stmt) (env : Env) (x : ℕ → ℤ) (g : List Status) (o : Tick)
    → Sole tables last p env x g → Ticks tables last p env x o → o ≡ (trial tables last p env x g).tick
sole tables last Nothing env x g o s h = h
sole tables last Pause env x g o s h = h
sole tables last (Emit i e) env x g o s h =
    let r : Readings = record { variables = x; env = env; last = last } in
    h.2 ∙ ap (λ v. ends_with (record { signal = i; value = v } ∷ []) x) (emitted_is r e h.0 h.1)
sole tables last (Assign y e) env x g o s h = h.2 ∙ ap (λ v. ends_with [] (put_at x y v)) h.1
sole tables last (If e p q) env x g o s h =
    let r : Readings = record { variables = x; env = env; last = last } in
    let S = Unless (is_plain p) (Sole tables last p env x g) in
    let T = Unless (is_plain q) (Sole tables last q env x g) in
    let A = Ticks tables last p env x o in
    let B = Ticks tables last q env x o in
    chosen_is (is_true (value_of r e)) (λ k. trial tables last p env x k) (λ k. trial tables last q env x k) g o S T A B
    (λ u k. sole tables last p env x g o (of_part tables last p env x g (is_plain p) refl u) k)
    (λ u k. sole tables last q env x g o (of_part tables last q env x g (is_plain q) refl u) k)
    s (subst (λ v. Chosen (is_true v) A B) h.1 h.2)
sole tables last (Present t p q) env x g o s h =
    let S = Unless (is_plain p) (Sole tables last p env x g) in
    let T = Unless (is_plain q) (Sole tables last q env x g) in
    chosen_is (holds env t) (λ k. trial tables last p env x k) (λ k. trial tables last q env x k) g o S T
    (Ticks tables last p env x o) (Ticks tables last q env x o)
    (λ u k. sole tables last p env x g o (of_part tables last p env x g (is_plain p) refl u) k)
    (λ u k. sole tables last q env x g o (of_part tables last q env x g (is_plain q) refl u) k) s h
sole tables last (Seq p q) env x g o s h =
    let a = trial tables last p env x g in
    let e = sole tables last p env x g h.0 (of_part tables last p env x g (is_plain p) refl s.0) h.1 in
    let second = λ (y : ℕ → ℤ) (b : Tick). Ticks tables last q env y b in
    continued_is (λ y k. trial tables last q env y k) second q a o (has_ended a.tick.code)
    (Unless (is_plain q) (Sole tables last q env a.tick.variables a.left))
    (λ u b k. sole tables last q env a.tick.variables a.left b (of_part tables last q env a.tick.variables a.left (is_plain q) refl u) k)
    s.1 (subst (λ (z : Tick). Continues second q z (has_ended z.code) o) e h.2)
sole tables last (Loop p) env x g o s h =
    h.3 ∙ ap (λ (z : Tick). as_whole z.code (Seq z.rest (Loop p)) z) (sole tables last p env x g h.0 (of_part tables last p env x g (is_plain p) refl s) h.1)
sole tables last (Par p q) env x g o s h =
    let a = trial tables last p env x g in
    h.4
    ∙ ap₂ (λ (y z : Tick). tick_of_both p y z) (sole tables last p env x g h.0 (of_part tables last p env x g (is_plain p) refl s.0) h.2)
    (sole tables last q env x a.left h.1 (of_part tables last q env x a.left (is_plain q) refl s.1) h.3)
sole tables last (Trap p) env x g o s h =
    h.2 ∙ ap (λ (z : Tick). as_whole (code_of_trap z.code) (Trap z.rest) z) (sole tables last p env x g h.0 (of_part tables last p env x g (is_plain p) refl s) h.1)
sole tables last (Exit d) env x g o s h = h
sole tables last (Abort weak armed t p) env x g o s h =
    let body = λ (a : Tick) (k : Ticks tables last p env x a). sole tables last p env x g a (of_part tables last p env x g (is_plain p) refl s) k in
    chosen_is (armed && holds env t) (λ k. aborts weak (λ m. trial tables last p env x m) x k)
    (λ k. let a = trial tables last p env x k in with_tick a (as_whole a.tick.code (Abort weak true t a.tick.rest) a.tick)) g o (Unit {0}) (Unit {0})
    (Aborts weak (λ a. Ticks tables last p env x a) x o)
    ((a : Tick) × Ticks tables last p env x a × (o ≡ as_whole a.code (Abort weak true t a.rest) a))
    (λ u k. aborts_is weak (λ m. trial tables last p env x m) (λ a. Ticks tables last p env x a) x g o body k)
    (λ u k. k.2 ∙ ap (λ (z : Tick). as_whole z.code (Abort weak true t z.rest) z) (body k.0 k.1))
    (choose (armed && holds env t) (Unit {0}) (Unit {0}) tt tt) h
sole tables last (Suspend armed t p) env x g o s h =
    suspended_is (armed && holds env t) (Unless (is_plain p) (Sole tables last p env x g)) (o ≡ quiet 1 (Suspend armed t p) x)
    (λ k. sure (quiet 1 (Suspend armed t p) x) k)
    (λ k. let a = trial tables last p env x k in with_tick a (as_whole a.tick.code (Suspend true t a.tick.rest) a.tick)) g o
    (λ k. k)
    ((a : Tick) × Ticks tables last p env x a × (o ≡ as_whole a.code (Suspend true t a.rest) a))
    (λ u k. k.2 ∙ ap (λ (z : Tick). as_whole z.code (Suspend true t z.rest) z) (sole tables last p env x g k.0 (of_part tables last p env x g (is_plain p) refl u) k.1))
    s h
sole tables last (Local i v p) env x g o s h =
    let b : Bool = h.0 in
    let w : ℤ = h.1 in
    let a : Tick = h.2 in
    let here : Status = record { present = b; value = w } in
    let there : Status = next_status g in
    let body = λ (status : Status). (trial tables last p (put_at env i status) x (later_statuses g)).tick in
    let f =
    at_status (λ d u. Unless (is_plain p) (Sole tables last p (put_at env i (record { present = d; value = u })) x (later_statuses g))
    × Foreseen tables i v (next_status g) (trial tables last p (put_at env i (record { present = d; value = u })) x (later_statuses g))) s b w in
    let e : a ≡ body here = sole tables last p (put_at env i here) x (later_statuses g) a (of_part tables last p (put_at env i here) x (later_statuses g) (is_plain p) refl f.0) h.3 in
    let present : b ≡ there.present = h.4 ∙ ap (λ (z : Tick). is_emitted z.emits i) e ∙ f.1.0 in
    let value : w ≡ there.value = h.5 ∙ ap (λ (z : Tick). folded (signal_at tables i) v (values_of i z.emits)) e ∙ f.1.1 in
    let same : here ≡ there = λ j. record { present = present j; value = value j } in
    h.6 ∙ ap (of_local i here) e ∙ ap (λ z. of_local i z (body z)) same
sole tables last (Send c e) env x g o s h = h.2 ∙ ap (λ v. quiet 1 (SendWaits c v) x) h.1
sole tables last (Receive c) env x g o s h = h
sole tables last (SendWaits c v) env x g o s h = h
sole tables last (Sent c) env x g o s h = h
sole tables last (ReceiveWaits c) env x g o s h = h
sole tables last (Received c) env x g o s h = h

-- a list of two lists is empty where both are
first_empty : (m n : List ℕ) → m ++ n ≡ [] → m ≡ []
first_empty [] n h = refl
first_empty (k ∷ m) n h = absurd cc

second_empty : (m n : List ℕ) → m ++ n ≡ [] → n ≡ []
second_empty [] n h = h
second_empty (k ∷ m) n h = absurd cc

both_plain : (p q : Stmt) → (declared_by p ≡ [] → is_plain p ≡ true) → (declared_by q ≡ [] → is_plain q ≡ true) → declared_by p ++ declared_by q ≡ [] → is_plain p && is_plain q ≡ true
both_plain p q f g h = both_true (is_plain p) (is_plain q) (f (first_empty (declared_by p) (declared_by q) h)) (g (second_empty (declared_by p) (declared_by q) h))

plain_where : (p : Stmt) → declared_by p ≡ [] → is_plain p ≡ true
plain_where Nothing h = refl
plain_where Pause h = refl
plain_where (Emit s e) h = refl
plain_where (Assign y e) h = refl
plain_where (If e p q) h = both_plain p q (plain_where p) (plain_where q) h
plain_where (Present t p q) h = both_plain p q (plain_where p) (plain_where q) h
plain_where (Seq p q) h = both_plain p q (plain_where p) (plain_where q) h
plain_where (Loop p) h = plain_where p h
plain_where (Par p q) h = both_plain p q (plain_where p) (plain_where q) h
plain_where (Trap p) h = plain_where p h
plain_where (Exit d) h = refl
plain_where (Abort weak armed t p) h = plain_where p h
plain_where (Suspend armed t p) h = plain_where p h
plain_where (Local s v p) h = absurd cc
plain_where (Send c e) h = refl
plain_where (Receive c) h = refl
plain_where (SendWaits c v) h = refl
plain_where (Sent c) h = refl
plain_where (ReceiveWaits c) h = refl
plain_where (Received c) h = refl

pub one_tick :
    (tables : Tables) (last : ℕ → ℤ) (p : Stmt) (env : Env) (x : ℕ → ℤ) (o other : Tick)
    → declared_by p ≡ [] → Ticks tables last p env x o → Ticks tables last p env x other → o ≡ other
one_tick tables last p env x o other h s t =
    let alone = plain_sole tables last p env x [] (plain_where p h) in
    sole tables last p env x [] o alone s ∙ sym (sole tables last p env x [] other alone t)
