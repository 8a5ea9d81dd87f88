-- What joins do to a statement, one after another and at once.
use Rattle.std.proofs.Common.{◌≡◌, ℕ, ℤ, Bool, true, false, cond, refl, sym, ap, ◌∙◌, subst, inl, inr}
use Rattle.std.specs.Prelude.{◌||◌}
use Rattle.std.proofs.Math.Path.{fun_ext}
use Rattle.kernel_terms.specs.Statements.{Stmt, Nothing, Pause, Emit, Assign, If, Present, Seq, Loop, Par, Trap, Exit, Abort, Suspend, Local, Send, Receive, SendWaits, Sent, ReceiveWaits, Received}
use Rattle.domain_core.specs.definitions.runs.Systems.{WaitsToSend, WaitsToReceive, rewritten}

at_send : (a b : ℕ → Bool) (c : ℕ) (v : ℤ) (h : Bool) → rewritten a b (cond h (Sent c) (SendWaits c v)) ≡ cond (h || a c) (Sent c) (SendWaits c v)
at_send a b c v true = refl
at_send a b c v false = refl

at_receive : (a b : ℕ → Bool) (c : ℕ) (h : Bool) → rewritten a b (cond h (Received c) (ReceiveWaits c)) ≡ cond (h || b c) (Received c) (ReceiveWaits c)
at_receive a b c true = refl
at_receive a b c false = refl

-- the joins of two sets, one set after the other, are those of both at once
pub rewritten-both : (a b f g : ℕ → Bool) (p : Stmt) → rewritten a b (rewritten f g p) ≡ rewritten (λ c. f c || a c) (λ c. g c || b c) p
rewritten-both a b f g Nothing = refl
rewritten-both a b f g Pause = refl
rewritten-both a b f g (Emit s e) = refl
rewritten-both a b f g (Assign x e) = refl
rewritten-both a b f g (If e p q) = let j = rewritten-both a b f g p in let k = rewritten-both a b f g q in cc
rewritten-both a b f g (Present t p q) = let j = rewritten-both a b f g p in let k = rewritten-both a b f g q in cc
rewritten-both a b f g (Seq p q) = let j = rewritten-both a b f g p in let k = rewritten-both a b f g q in cc
rewritten-both a b f g (Loop p) = ap Loop (rewritten-both a b f g p)
rewritten-both a b f g (Par p q) = let j = rewritten-both a b f g p in let k = rewritten-both a b f g q in cc
rewritten-both a b f g (Trap p) = ap Trap (rewritten-both a b f g p)
rewritten-both a b f g (Exit d) = refl
rewritten-both a b f g (Abort weak armed t p) = ap (Abort weak armed t) (rewritten-both a b f g p)
rewritten-both a b f g (Suspend armed t p) = ap (Suspend armed t) (rewritten-both a b f g p)
rewritten-both a b f g (Local s w p) = ap (Local s w) (rewritten-both a b f g p)
rewritten-both a b f g (Send d e) = refl
rewritten-both a b f g (Receive d) = refl
rewritten-both a b f g (SendWaits d v) = at_send a b d v (f d)
rewritten-both a b f g (Sent d) = refl
rewritten-both a b f g (ReceiveWaits d) = at_receive a b d (g d)
rewritten-both a b f g (Received d) = refl

pub rewritten-none : (p : Stmt) → rewritten (λ c. false) (λ c. false) p ≡ p
rewritten-none Nothing = refl
rewritten-none Pause = refl
rewritten-none (Emit s e) = refl
rewritten-none (Assign x e) = refl
rewritten-none (If e p q) = let j = rewritten-none p in let k = rewritten-none q in cc
rewritten-none (Present t p q) = let j = rewritten-none p in let k = rewritten-none q in cc
rewritten-none (Seq p q) = let j = rewritten-none p in let k = rewritten-none q in cc
rewritten-none (Loop p) = ap Loop (rewritten-none p)
rewritten-none (Par p q) = let j = rewritten-none p in let k = rewritten-none q in cc
rewritten-none (Trap p) = ap Trap (rewritten-none p)
rewritten-none (Exit d) = refl
rewritten-none (Abort weak armed t p) = ap (Abort weak armed t) (rewritten-none p)
rewritten-none (Suspend armed t p) = ap (Suspend armed t) (rewritten-none p)
rewritten-none (Local s w p) = ap (Local s w) (rewritten-none p)
rewritten-none (Send d e) = refl
rewritten-none (Receive d) = refl
rewritten-none (SendWaits d v) = refl
rewritten-none (Sent d) = refl
rewritten-none (ReceiveWaits d) = refl
rewritten-none (Received d) = refl

pub rewritten-same : (a b f g : ℕ → Bool) (p : Stmt) → ((c : ℕ) → a c ≡ f c) → ((c : ℕ) → b c ≡ g c) → rewritten a b p ≡ rewritten f g p
rewritten-same a b f g p h k = ap (λ s. rewritten s b p) (fun_ext h) ∙ ap (λ s. rewritten f s p) (fun_ext k)

-- a send of a channel that is not among the joins still waits
pub still_sends : (a b : ℕ → Bool) (c : ℕ) (v : ℤ) (p : Stmt) → a c ≡ false → WaitsToSend c v p → WaitsToSend c v (rewritten a b p)
still_sends a b c v Nothing n h = h
still_sends a b c v Pause n h = h
still_sends a b c v (Emit s e) n h = h
still_sends a b c v (Assign x e) n h = h
still_sends a b c v (If e p q) n (inl h) = inl (still_sends a b c v p n h)
still_sends a b c v (If e p q) n (inr h) = inr (still_sends a b c v q n h)
still_sends a b c v (Present t p q) n (inl h) = inl (still_sends a b c v p n h)
still_sends a b c v (Present t p q) n (inr h) = inr (still_sends a b c v q n h)
still_sends a b c v (Seq p q) n (inl h) = inl (still_sends a b c v p n h)
still_sends a b c v (Seq p q) n (inr h) = inr (still_sends a b c v q n h)
still_sends a b c v (Loop p) n h = still_sends a b c v p n h
still_sends a b c v (Par p q) n (inl h) = inl (still_sends a b c v p n h)
still_sends a b c v (Par p q) n (inr h) = inr (still_sends a b c v q n h)
still_sends a b c v (Trap p) n h = still_sends a b c v p n h
still_sends a b c v (Exit d) n h = h
still_sends a b c v (Abort weak armed t p) n h = still_sends a b c v p n h
still_sends a b c v (Suspend armed t p) n h = still_sends a b c v p n h
still_sends a b c v (Local s w p) n h = still_sends a b c v p n h
still_sends a b c v (Send d e) n h = h
still_sends a b c v (Receive d) n h = h
still_sends a b c v (SendWaits d w) n h = let e : a d ≡ false = ap a h.0 ∙ n in subst (λ x. WaitsToSend c v (cond x (Sent d) (SendWaits d w))) (sym e) h
still_sends a b c v (Sent d) n h = h
still_sends a b c v (ReceiveWaits d) n h = absurd h
still_sends a b c v (Received d) n h = h

pub still_receives : (a b : ℕ → Bool) (c : ℕ) (p : Stmt) → b c ≡ false → WaitsToReceive c p → WaitsToReceive c (rewritten a b p)
still_receives a b c Nothing n h = h
still_receives a b c Pause n h = h
still_receives a b c (Emit s e) n h = h
still_receives a b c (Assign x e) n h = h
still_receives a b c (If e p q) n (inl h) = inl (still_receives a b c p n h)
still_receives a b c (If e p q) n (inr h) = inr (still_receives a b c q n h)
still_receives a b c (Present t p q) n (inl h) = inl (still_receives a b c p n h)
still_receives a b c (Present t p q) n (inr h) = inr (still_receives a b c q n h)
still_receives a b c (Seq p q) n (inl h) = inl (still_receives a b c p n h)
still_receives a b c (Seq p q) n (inr h) = inr (still_receives a b c q n h)
still_receives a b c (Loop p) n h = still_receives a b c p n h
still_receives a b c (Par p q) n (inl h) = inl (still_receives a b c p n h)
still_receives a b c (Par p q) n (inr h) = inr (still_receives a b c q n h)
still_receives a b c (Trap p) n h = still_receives a b c p n h
still_receives a b c (Exit d) n h = h
still_receives a b c (Abort weak armed t p) n h = still_receives a b c p n h
still_receives a b c (Suspend armed t p) n h = still_receives a b c p n h
still_receives a b c (Local s w p) n h = still_receives a b c p n h
still_receives a b c (Send d e) n h = h
still_receives a b c (Receive d) n h = h
still_receives a b c (SendWaits d w) n h = absurd h
still_receives a b c (Sent d) n h = h
still_receives a b c (ReceiveWaits d) n h = let e : b d ≡ false = ap b h ∙ n in subst (λ x. WaitsToReceive c (cond x (Received d) (ReceiveWaits d))) (sym e) h
still_receives a b c (Received d) n h = h

-- what waits after some joins is not among them, and waited before
send_cases : (c : ℕ) (v : ℤ) (d : ℕ) (w : ℤ) (x : Bool) → WaitsToSend c v (cond x (Sent d) (SendWaits d w)) → (x ≡ false) × WaitsToSend c v (SendWaits d w)
send_cases c v d w true h = absurd h
send_cases c v d w false h = (refl, h)

no_send : (c : ℕ) (v : ℤ) (d : ℕ) (x : Bool) → WaitsToSend c v (cond x (Received d) (ReceiveWaits d)) → ⊥
no_send c v d true h = h
no_send c v d false h = h

pub waited_to_send : (a b : ℕ → Bool) (c : ℕ) (v : ℤ) (p : Stmt) → WaitsToSend c v (rewritten a b p) → (a c ≡ false) × WaitsToSend c v p
waited_to_send a b c v Nothing h = absurd h
waited_to_send a b c v Pause h = absurd h
waited_to_send a b c v (Emit s e) h = absurd h
waited_to_send a b c v (Assign x e) h = absurd h
waited_to_send a b c v (If e p q) (inl h) = let k = waited_to_send a b c v p h in (k.0, inl k.1)
waited_to_send a b c v (If e p q) (inr h) = let k = waited_to_send a b c v q h in (k.0, inr k.1)
waited_to_send a b c v (Present t p q) (inl h) = let k = waited_to_send a b c v p h in (k.0, inl k.1)
waited_to_send a b c v (Present t p q) (inr h) = let k = waited_to_send a b c v q h in (k.0, inr k.1)
waited_to_send a b c v (Seq p q) (inl h) = let k = waited_to_send a b c v p h in (k.0, inl k.1)
waited_to_send a b c v (Seq p q) (inr h) = let k = waited_to_send a b c v q h in (k.0, inr k.1)
waited_to_send a b c v (Loop p) h = waited_to_send a b c v p h
waited_to_send a b c v (Par p q) (inl h) = let k = waited_to_send a b c v p h in (k.0, inl k.1)
waited_to_send a b c v (Par p q) (inr h) = let k = waited_to_send a b c v q h in (k.0, inr k.1)
waited_to_send a b c v (Trap p) h = waited_to_send a b c v p h
waited_to_send a b c v (Exit d) h = absurd h
waited_to_send a b c v (Abort weak armed t p) h = waited_to_send a b c v p h
waited_to_send a b c v (Suspend armed t p) h = waited_to_send a b c v p h
waited_to_send a b c v (Local s w p) h = waited_to_send a b c v p h
waited_to_send a b c v (Send d e) h = absurd h
waited_to_send a b c v (Receive d) h = absurd h
waited_to_send a b c v (SendWaits d w) h = let k = send_cases c v d w (a d) h in (ap a (sym k.1.0) ∙ k.0, k.1)
waited_to_send a b c v (Sent d) h = absurd h
waited_to_send a b c v (ReceiveWaits d) h = absurd (no_send c v d (b d) h)
waited_to_send a b c v (Received d) h = absurd h

receive_cases : (c d : ℕ) (x : Bool) → WaitsToReceive c (cond x (Received d) (ReceiveWaits d)) → (x ≡ false) × WaitsToReceive c (ReceiveWaits d)
receive_cases c d true h = absurd h
receive_cases c d false h = (refl, h)

no_receive : (c d : ℕ) (w : ℤ) (x : Bool) → WaitsToReceive c (cond x (Sent d) (SendWaits d w)) → ⊥
no_receive c d w true h = h
no_receive c d w false h = h

pub waited_to_receive : (a b : ℕ → Bool) (c : ℕ) (p : Stmt) → WaitsToReceive c (rewritten a b p) → (b c ≡ false) × WaitsToReceive c p
waited_to_receive a b c Nothing h = absurd h
waited_to_receive a b c Pause h = absurd h
waited_to_receive a b c (Emit s e) h = absurd h
waited_to_receive a b c (Assign x e) h = absurd h
waited_to_receive a b c (If e p q) (inl h) = let k = waited_to_receive a b c p h in (k.0, inl k.1)
waited_to_receive a b c (If e p q) (inr h) = let k = waited_to_receive a b c q h in (k.0, inr k.1)
waited_to_receive a b c (Present t p q) (inl h) = let k = waited_to_receive a b c p h in (k.0, inl k.1)
waited_to_receive a b c (Present t p q) (inr h) = let k = waited_to_receive a b c q h in (k.0, inr k.1)
waited_to_receive a b c (Seq p q) (inl h) = let k = waited_to_receive a b c p h in (k.0, inl k.1)
waited_to_receive a b c (Seq p q) (inr h) = let k = waited_to_receive a b c q h in (k.0, inr k.1)
waited_to_receive a b c (Loop p) h = waited_to_receive a b c p h
waited_to_receive a b c (Par p q) (inl h) = let k = waited_to_receive a b c p h in (k.0, inl k.1)
waited_to_receive a b c (Par p q) (inr h) = let k = waited_to_receive a b c q h in (k.0, inr k.1)
waited_to_receive a b c (Trap p) h = waited_to_receive a b c p h
waited_to_receive a b c (Exit d) h = absurd h
waited_to_receive a b c (Abort weak armed t p) h = waited_to_receive a b c p h
waited_to_receive a b c (Suspend armed t p) h = waited_to_receive a b c p h
waited_to_receive a b c (Local s w p) h = waited_to_receive a b c p h
waited_to_receive a b c (Send d e) h = absurd h
waited_to_receive a b c (Receive d) h = absurd h
waited_to_receive a b c (SendWaits d w) h = absurd (no_receive c d w (a d) h)
waited_to_receive a b c (Sent d) h = absurd h
waited_to_receive a b c (ReceiveWaits d) h = let k = receive_cases c d (b d) h in (ap b (sym k.1) ∙ k.0, k.1)
waited_to_receive a b c (Received d) h = absurd h
