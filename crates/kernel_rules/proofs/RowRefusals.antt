-- What no tick of a small statement does.
use Rattle.std.proofs.Common.{◌≡◌, ℕ, ℤ, pos, Bool, true, false, cond, List, [], ◌∷◌, ◌++◌, Some, None, refl, ap, ◌∙◌, subst}
use Rattle.kernel_terms.specs.declared.tables.Tables.{Tables}
use Rattle.kernel_terms.specs.TableEntries.{signal_at}
use Rattle.kernel_terms.specs.Expressions.{Test, IsPresent}
use Rattle.kernel_terms.specs.Statements.{Stmt, Nothing, Pause, Emit, Seq, Abort, Suspend, Local}
use Rattle.kernel_rules.specs.definitions.Signals.{Emission, Env, put_at, is_emitted, values_of, without, folded}
use Rattle.kernel_rules.specs.definitions.Expressions.{holds}
use Rattle.kernel_rules.specs.definitions.TickRule.{Tick, Ticks, has_ended, left_at, quiet, ends_with, Chosen, Continues, as_whole}
use Rattle.kernel_rules.specs.Rows

pub strong_abort_alone :
    (tables : Tables) (last : ℕ → ℤ) (t : Test) (p : Stmt) (env : Env) (x : ℕ → ℤ) (o : Tick)
    → holds env t ≡ true → Ticks tables last (Abort false true t p) env x o → o ≡ ends_with [] x
strong_abort_alone tables last t p env x o h d =
    subst (λ b. Chosen b (o ≡ ends_with [] x) ((a : Tick) × Ticks tables last p env x a × (o ≡ as_whole a.code (Abort false true t a.rest) a))) h d

-- a first part of a sequence that has ended, and one that has paused
after_end :
    (second : (ℕ → ℤ) → Tick → Type 0) (q : Stmt) (a o : Tick) (m : List Emission) (x : ℕ → ℤ)
    → a ≡ ends_with m x → Continues second q a (has_ended a.code) o → (b : Tick) × second x b × (o ≡ record b { emits = m ++ b.emits })
after_end second q a o m x e c = subst (λ z. Continues second q z (has_ended z.code) o) e c

after_pause :
    (second : (ℕ → ℤ) → Tick → Type 0) (q : Stmt) (a o : Tick) (x : ℕ → ℤ)
    → a ≡ quiet 1 Nothing x → Continues second q a (has_ended a.code) o → o ≡ quiet 1 (Seq Nothing q) x
after_pause second q a o x e c = subst (λ z. Continues second q z (has_ended z.code) o) e c

pub no_last_words :
    (last : ℕ → ℤ) (env : Env) (x : ℕ → ℤ) (o : Tick)
    → (env 0).present ≡ true → Ticks Rows.abort_tables last Rows.armed_abort env x o → is_emitted o.emits 1 ≡ false
no_last_words last env x o h d =
    let e = strong_abort_alone Rows.abort_tables last (IsPresent 0) (Seq Nothing (Emit 1 None)) env x d.0 h d.1 in
    let c = after_end (λ y b. Ticks Rows.abort_tables last (Emit 2 None) env y b) (Emit 2 None) d.0 o [] x e d.2 in
    ap (λ (z : Tick). is_emitted z.emits 1) (c.2 ∙ c.1.2)

pub suspended_alone :
    (tables : Tables) (last : ℕ → ℤ) (t : Test) (p : Stmt) (env : Env) (x : ℕ → ℤ) (o : Tick)
    → holds env t ≡ true → Ticks tables last (Suspend true t p) env x o → o ≡ quiet 1 (Suspend true t p) x
suspended_alone tables last t p env x o h d =
    subst (λ b. Chosen b (o ≡ quiet 1 (Suspend true t p) x) ((a : Tick) × Ticks tables last p env x a × (o ≡ as_whole a.code (Suspend true t a.rest) a))) h d

-- the tick of a local signal whose body makes this tick
abbrev of_local : ℕ → ℤ → Tick → Tick
of_local s w a = record { code = a.code; rest = left_at a.code (Local s w a.rest); emits = without s a.emits; variables = a.variables }

-- the emission of A or of B, by the status of the local signal
by_status :
    (b : Bool) (c : Tick) (x : ℕ → ℤ)
    → Chosen b ((v : ℤ) × (v ≡ pos 0) × (c ≡ ends_with (record { signal = 0; value = v } ∷ []) x)) ((v : ℤ) × (v ≡ pos 0) × (c ≡ ends_with (record { signal = 1; value = v } ∷ []) x))
    → c ≡ ends_with (Rows.emitted_alone (cond b 0 1) 0) x
by_status true c x h = h.2 ∙ ap (λ v. ends_with (record { signal = 0; value = v } ∷ []) x) h.1
by_status false c x h = h.2 ∙ ap (λ v. ends_with (record { signal = 1; value = v } ∷ []) x) h.1

never_present : (b : Bool) → b ≡ is_emitted (Rows.emitted_alone (cond b 0 1) 0) 2 → b ≡ false
never_present true h = h
never_present false h = refl

pub new_copy_emits : (last : ℕ → ℤ) (env : Env) (x : ℕ → ℤ) (o : Tick) → Ticks Rows.new_copy_tables last Rows.new_copy env x o → o.emits ≡ Rows.emitted_alone 1 0
new_copy_emits last env x o h =
    let l = h.1 in
    let b : Bool = l.0 in
    let a : Tick = l.2 in
    let inside = put_at env 2 (record { present = b; value = l.1 }) in
    let q = Seq Pause (Emit 2 None) in
    let s = l.3 in
    let c = after_end (λ y z. Ticks Rows.new_copy_tables last q inside y z) q s.0 a (Rows.emitted_alone (cond b 0 1) 0) x (by_status b s.0 x s.1) s.2 in
    let p = after_pause (λ y z. Ticks Rows.new_copy_tables last (Emit 2 None) inside y z) (Emit 2 None) (c.1).0 c.0 x (c.1).1 (c.1).2 in
    let m : a.emits ≡ Rows.emitted_alone (cond b 0 1) 0 = ap (λ (z : Tick). z.emits) c.2 ∙ ap (λ (z : Tick). Rows.emitted_alone (cond b 0 1) 0 ++ z.emits) p in
    let absent : b ≡ false = never_present b (l.4 ∙ ap (λ z. is_emitted z 2) m) in
    ap (λ (z : Tick). z.emits) h.3 ∙ ap (λ (z : Tick). z.emits) l.6 ∙ ap (without 2) (m ∙ ap (λ z. Rows.emitted_alone (cond z 0 1) 0) absent)

pub old_copy_emits : (last : ℕ → ℤ) (env : Env) (x : ℕ → ℤ) (o : Tick) → Ticks Rows.new_copy_tables last Rows.old_copy env x o → o.emits ≡ Rows.emitted_alone 1 0
old_copy_emits last env x o h =
    let a : Tick = h.0 in
    let l = h.1 in
    let body : Tick = l.2 in
    let inside = put_at env 2 (record { present = l.0; value = l.1 }) in
    let c = after_end (λ y z. Ticks Rows.new_copy_tables last (Emit 2 None) inside y z) (Emit 2 None) (l.3).0 body [] x (l.3).1 (l.3).2 in
    let e : body ≡ ends_with (record { signal = 2; value = (c.1).0 } ∷ []) x = c.2 ∙ (c.1).2 in
    let over : a ≡ ends_with [] x = l.6 ∙ ap (of_local 2 l.1) e in
    let d = after_end (λ y z. Ticks Rows.new_copy_tables last Rows.new_copy env y z) Rows.new_copy a o [] x over h.2 in
    ap (λ (z : Tick). z.emits) d.2 ∙ new_copy_emits last env x d.0 d.1

pub new_value_emits : (last : ℕ → ℤ) (env : Env) (x : ℕ → ℤ) (o : Tick) → Ticks Rows.new_value_tables last Rows.new_value env x o → o.emits ≡ Rows.emitted_alone 0 0
new_value_emits last env x o h =
    let l = h.1 in
    let w : ℤ = l.1 in
    let a : Tick = l.2 in
    let inside = put_at env 1 (record { present = l.0; value = w }) in
    let rest = Emit 1 (Some (Rows.int 5)) in
    let q = Seq Pause rest in
    let s = l.3 in
    let e : s.0 ≡ ends_with (record { signal = 0; value = w } ∷ []) x = (s.1).2 ∙ ap (λ v. ends_with (record { signal = 0; value = v } ∷ []) x) (s.1).1 in
    let c = after_end (λ y z. Ticks Rows.new_value_tables last q inside y z) q s.0 a (record { signal = 0; value = w } ∷ []) x e s.2 in
    let p = after_pause (λ y z. Ticks Rows.new_value_tables last rest inside y z) rest (c.1).0 c.0 x (c.1).1 (c.1).2 in
    let m : a.emits ≡ record { signal = 0; value = w } ∷ [] = ap (λ (z : Tick). z.emits) c.2 ∙ ap (λ (z : Tick). record { signal = 0; value = w } ∷ z.emits) p in
    let first : w ≡ pos 0 = l.5 ∙ ap (λ z. folded (signal_at Rows.new_value_tables 1) (pos 0) (values_of 1 z)) m in
    ap (λ (z : Tick). z.emits) h.3 ∙ ap (λ (z : Tick). z.emits) l.6 ∙ ap (without 1) (m ∙ ap (λ v. record { signal = 0; value = v } ∷ []) first)

pub old_value_emits : (last : ℕ → ℤ) (env : Env) (x : ℕ → ℤ) (o : Tick) → Ticks Rows.new_value_tables last Rows.old_value env x o → o.emits ≡ Rows.emitted_alone 0 0
old_value_emits last env x o h =
    let a : Tick = h.0 in
    let l = h.1 in
    let body : Tick = l.2 in
    let inside = put_at env 1 (record { present = l.0; value = l.1 }) in
    let rest = Emit 1 (Some (Rows.int 5)) in
    let c = after_end (λ y z. Ticks Rows.new_value_tables last rest inside y z) rest (l.3).0 body [] x (l.3).1 (l.3).2 in
    let e : body ≡ ends_with (record { signal = 1; value = (c.1).0 } ∷ []) x = c.2 ∙ (c.1).2 in
    let over : a ≡ ends_with [] x = l.6 ∙ ap (of_local 1 l.1) e in
    let d = after_end (λ y z. Ticks Rows.new_value_tables last Rows.new_value env y z) Rows.new_value a o [] x over h.2 in
    ap (λ (z : Tick). z.emits) d.2 ∙ new_value_emits last env x d.0 d.1
