-- The statement that registers stand for writes and mentions no more than the source.
use Rattle.std.proofs.Common.{◌≡◌, ℕ, ◌+◌, ◌==◌, ℤ, Bool, true, false, ◌||◌, cond, length, refl, sym, ap₂, ◌∙◌}
use Rattle.java_values.specs.Arithmetic.{is_true}
use Rattle.kernel_terms.specs.declared.tables.Tables.{Tables}
use Rattle.kernel_terms.specs.TableEntries.{signal_at}
use Rattle.kernel_terms.specs.Expressions.{Expression, Test}
use Rattle.kernel_terms.specs.Statements.{Stmt, Nothing, Pause, Emit, Assign, If, Present, Seq, Loop, Par, Trap, Exit, Abort, Suspend, Local, Send, Receive, SendWaits, Sent, ReceiveWaits, Received}
use Rattle.kernel_rules.specs.definitions.TickRule.{writes}
use Rattle.kernel_rules.specs.definitions.Registers.{registers, value_kinds, live, residual, last_value}
use Rattle.kernel_rules.specs.definitions.Mentions.{of_any_part, names_variable, names_signal, names_channel, mentions_variable, mentions_signal, mentions_channel, reads_channel}
use Rattle.kernel_rules.proofs.BooleanLemmas.{or_left, or_right, either_true, or_to, other_one}
use Rattle.kernel_rules.proofs.ResumingTicks.{from_cond}

-- what a statement names outside its parts doesn't grow as it runs
record Stays (own : Stmt → Bool) : Type 0 where
  nothing : own Nothing ≡ false
  seq : (p q : Stmt) → own (Seq p q) ≡ false
  par : (p q : Stmt) → own (Par p q) ≡ false
  trap : (p : Stmt) → own (Trap p) ≡ false
  abort : (weak armed : Bool) (t : Test) (p q : Stmt) → own (Abort weak true t q) ≡ own (Abort weak armed t p)
  suspend : (armed : Bool) (t : Test) (p q : Stmt) → own (Suspend true t q) ≡ own (Suspend armed t p)
  local : (s : ℕ) (v w : ℤ) (p q : Stmt) → own (Local s w q) ≡ own (Local s v p)
  send_waits : (c : ℕ) (v : ℤ) (e : Expression) → own (SendWaits c v) ≡ true → own (Send c e) ≡ true
  sent : (c : ℕ) (e : Expression) → own (Sent c) ≡ true → own (Send c e) ≡ true
  receive_waits : (c : ℕ) → own (ReceiveWaits c) ≡ own (Receive c)
  received : (c : ℕ) → own (Received c) ≡ own (Receive c)

from_nothing : {C : Type 0} (own : Stmt → Bool) → Stays own → own Nothing ≡ true → C
from_nothing own s h = let e = s.nothing in absurd (let f : ⊥ = cc in f)

no_more : (own : Stmt → Bool) → Stays own → (tables : Tables) (p : Stmt) (n : ℕ) (r : ℕ → ℤ) → of_any_part own (residual tables p n r) ≡ true → of_any_part own p ≡ true
no_more own s tables Nothing n r h = h
no_more own s tables Pause n r h = from_nothing own s h
no_more own s tables (Emit c e) n r h = from_nothing own s h
no_more own s tables (Assign y e) n r h = from_nothing own s h
no_more own s tables (If e p q) n r h =
    let m = n + registers tables p in
    from_cond (λ k. of_any_part own k ≡ true) (live tables p n r) (residual tables p n r) (residual tables q m r)
    (λ t k. or_right (own (If e p q)) (of_any_part own p || of_any_part own q) (or_left (of_any_part own p) (of_any_part own q) (no_more own s tables p n r k)))
    (λ t k. or_right (own (If e p q)) (of_any_part own p || of_any_part own q) (or_right (of_any_part own p) (of_any_part own q) (no_more own s tables q m r k))) h
no_more own s tables (Present t p q) n r h =
    let m = n + registers tables p in
    from_cond (λ k. of_any_part own k ≡ true) (live tables p n r) (residual tables p n r) (residual tables q m r)
    (λ e k. or_right (own (Present t p q)) (of_any_part own p || of_any_part own q) (or_left (of_any_part own p) (of_any_part own q) (no_more own s tables p n r k)))
    (λ e k. or_right (own (Present t p q)) (of_any_part own p || of_any_part own q) (or_right (of_any_part own p) (of_any_part own q) (no_more own s tables q m r k))) h
no_more own s tables (Seq p q) n r h =
    let m = n + registers tables p in
    let a = residual tables p n r in
    from_cond (λ k. of_any_part own k ≡ true) (live tables p n r) (Seq a q) (residual tables q m r)
    (λ e k. or_right (own (Seq p q)) (of_any_part own p || of_any_part own q)
    (or_to (of_any_part own a) (of_any_part own q) (of_any_part own p) (of_any_part own q) (no_more own s tables p n r) (λ z. z)
    (other_one (own (Seq a q)) (of_any_part own a || of_any_part own q) k (s.seq a q))))
    (λ e k. or_right (own (Seq p q)) (of_any_part own p || of_any_part own q) (or_right (of_any_part own p) (of_any_part own q) (no_more own s tables q m r k))) h
no_more own s tables (Loop p) n r h =
    let a = residual tables p n r in
    either_true (of_any_part own a) (of_any_part own (Loop p)) (other_one (own (Seq a (Loop p))) (of_any_part own a || of_any_part own (Loop p)) h (s.seq a (Loop p)))
    (λ k. or_right (own (Loop p)) (of_any_part own p) (no_more own s tables p n r k)) (λ k. k)
no_more own s tables (Par p q) n r h =
    let m = n + registers tables p in
    let a = cond (live tables p n r) (residual tables p n r) Nothing in
    let b = cond (live tables q m r) (residual tables q m r) Nothing in
    or_right (own (Par p q)) (of_any_part own p || of_any_part own q)
    (or_to (of_any_part own a) (of_any_part own b) (of_any_part own p) (of_any_part own q)
    (λ k. from_cond (λ i. of_any_part own i ≡ true) (live tables p n r) (residual tables p n r) Nothing (λ e z. no_more own s tables p n r z) (λ e z. from_nothing own s z) k)
    (λ k. from_cond (λ i. of_any_part own i ≡ true) (live tables q m r) (residual tables q m r) Nothing (λ e z. no_more own s tables q m r z) (λ e z. from_nothing own s z) k)
    (other_one (own (Par a b)) (of_any_part own a || of_any_part own b) h (s.par a b)))
no_more own s tables (Trap p) n r h =
    let a = residual tables p n r in
    or_right (own (Trap p)) (of_any_part own p) (no_more own s tables p n r (other_one (own (Trap a)) (of_any_part own a) h (s.trap a)))
no_more own s tables (Exit d) n r h = from_nothing own s h
no_more own s tables (Abort weak armed t p) n r h =
    let a = residual tables p n r in
    or_to (own (Abort weak true t a)) (of_any_part own a) (own (Abort weak armed t p)) (of_any_part own p) (λ k. sym (s.abort weak armed t p a) ∙ k) (no_more own s tables p n r) h
no_more own s tables (Suspend armed t p) n r h =
    let a = residual tables p n r in
    or_to (own (Suspend true t a)) (of_any_part own a) (own (Suspend armed t p)) (of_any_part own p) (λ k. sym (s.suspend armed t p a) ∙ k) (no_more own s tables p n r) h
no_more own s tables (Local c v p) n r h =
    let m = n + length (value_kinds (signal_at tables c).kind) in
    let a = residual tables p m r in
    let w = last_value (signal_at tables c).kind n r in
    or_to (own (Local c w a)) (of_any_part own a) (own (Local c v p)) (of_any_part own p) (λ k. sym (s.local c v w p a) ∙ k) (no_more own s tables p m r) h
no_more own s tables (Send c e) n r h =
    from_cond (λ k. of_any_part own k ≡ true) (is_true (r (n + 1))) (Sent c) (SendWaits c (r (n + 2))) (λ t k. s.sent c e k) (λ t k. s.send_waits c (r (n + 2)) e k) h
no_more own s tables (Receive c) n r h =
    from_cond (λ k. of_any_part own k ≡ true) (is_true (r (n + 1))) (Received c) (ReceiveWaits c) (λ t k. sym (s.received c) ∙ k) (λ t k. sym (s.receive_waits c) ∙ k) h
no_more own s tables (SendWaits c v) n r h = from_nothing own s h
no_more own s tables (Sent c) n r h = from_nothing own s h
no_more own s tables (ReceiveWaits c) n r h = from_nothing own s h
no_more own s tables (Received c) n r h = from_nothing own s h

variable_stays : (x : ℕ) → Stays (names_variable x)
variable_stays x =
    record {
      nothing = refl;
      seq = λ p q. refl;
      par = λ p q. refl;
      trap = λ p. refl;
      abort = λ weak armed t p q. refl;
      suspend = λ armed t p q. refl;
      local = λ s v w p q. refl;
      send_waits = λ c v e h. cc;
      sent = λ c e h. cc;
      receive_waits = λ c. refl;
      received = λ c. refl;
    }

signal_stays : (x : ℕ) → Stays (names_signal x)
signal_stays x =
    record {
      nothing = refl;
      seq = λ p q. refl;
      par = λ p q. refl;
      trap = λ p. refl;
      abort = λ weak armed t p q. refl;
      suspend = λ armed t p q. refl;
      local = λ s v w p q. refl;
      send_waits = λ c v e h. cc;
      sent = λ c e h. cc;
      receive_waits = λ c. refl;
      received = λ c. refl;
    }

channel_stays : (x : ℕ) → Stays (names_channel x)
channel_stays x =
    record {
      nothing = refl;
      seq = λ p q. refl;
      par = λ p q. refl;
      trap = λ p. refl;
      abort = λ weak armed t p q. refl;
      suspend = λ armed t p q. refl;
      local = λ s v w p q. refl;
      send_waits = λ c v e h. or_left (c == x) (reads_channel e x) h;
      sent = λ c e h. or_left (c == x) (reads_channel e x) h;
      receive_waits = λ c. refl;
      received = λ c. refl;
    }

-- the statement itself assigns the variable
abbrev assigns : ℕ → Stmt → Bool
assigns x (Assign y e) = y == x
assigns x _ = false

assign_stays : (x : ℕ) → Stays (assigns x)
assign_stays x =
    record {
      nothing = refl;
      seq = λ p q. refl;
      par = λ p q. refl;
      trap = λ p. refl;
      abort = λ weak armed t p q. refl;
      suspend = λ armed t p q. refl;
      local = λ s v w p q. refl;
      send_waits = λ c v e h. cc;
      sent = λ c e h. cc;
      receive_waits = λ c. refl;
      received = λ c. refl;
    }

writes_is : (p : Stmt) (x : ℕ) → writes p x ≡ of_any_part (assigns x) p
writes_is Nothing x = refl
writes_is Pause x = refl
writes_is (Emit s e) x = refl
writes_is (Assign y e) x = refl
writes_is (If e p q) x = ap₂ ◌||◌ (writes_is p x) (writes_is q x)
writes_is (Present t p q) x = ap₂ ◌||◌ (writes_is p x) (writes_is q x)
writes_is (Seq p q) x = ap₂ ◌||◌ (writes_is p x) (writes_is q x)
writes_is (Loop p) x = writes_is p x
writes_is (Par p q) x = ap₂ ◌||◌ (writes_is p x) (writes_is q x)
writes_is (Trap p) x = writes_is p x
writes_is (Exit d) x = refl
writes_is (Abort weak armed t p) x = writes_is p x
writes_is (Suspend armed t p) x = writes_is p x
writes_is (Local s v p) x = writes_is p x
writes_is (Send c e) x = refl
writes_is (Receive c) x = refl
writes_is (SendWaits c v) x = refl
writes_is (Sent c) x = refl
writes_is (ReceiveWaits c) x = refl
writes_is (Received c) x = refl

pub residual_writes : (tables : Tables) (p : Stmt) (n : ℕ) (r : ℕ → ℤ) (x : ℕ) → writes (residual tables p n r) x ≡ true → writes p x ≡ true
residual_writes tables p n r x h = writes_is p x ∙ no_more (assigns x) (assign_stays x) tables p n r (sym (writes_is (residual tables p n r) x) ∙ h)

pub residual_mentions_variable : (tables : Tables) (p : Stmt) (n : ℕ) (r : ℕ → ℤ) (x : ℕ) → mentions_variable (residual tables p n r) x ≡ true → mentions_variable p x ≡ true
residual_mentions_variable tables p n r x h = no_more (names_variable x) (variable_stays x) tables p n r h

pub residual_mentions_signal : (tables : Tables) (p : Stmt) (n : ℕ) (r : ℕ → ℤ) (s : ℕ) → mentions_signal (residual tables p n r) s ≡ true → mentions_signal p s ≡ true
residual_mentions_signal tables p n r s h = no_more (names_signal s) (signal_stays s) tables p n r h

pub residual_mentions_channel : (tables : Tables) (p : Stmt) (n : ℕ) (r : ℕ → ℤ) (c : ℕ) → mentions_channel (residual tables p n r) c ≡ true → mentions_channel p c ≡ true
residual_mentions_channel tables p n r c h = no_more (names_channel c) (channel_stays c) tables p n r h
