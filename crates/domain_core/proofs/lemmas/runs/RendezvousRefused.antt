-- Runs that the rendezvous of two domains doesn't have.
use Rattle.std.proofs.Common.{◌≡◌, ℕ, zero, suc, ℤ, pos, List, refl, sym, ap, ◌∙◌, subst, inl, inr, arith}
use Rattle.std.specs.Prelude.{Option, Some, None, true}
use Rattle.java_values.specs.declared.kind.Kind.TheVariants as kind
use Rattle.kernel_terms.specs.declared.tables.Tables.{Tables}
use Rattle.kernel_terms.specs.Expressions.{Literal, ChannelValue}
use Rattle.kernel_terms.specs.Marks.{Mark, Going, Ended, is_over}
use Rattle.kernel_terms.specs.Statements.{Stmt, Emit, Seq, Send, Receive, SendWaits, Sent, ReceiveWaits}
use Rattle.kernel_rules.specs.definitions.Signals.{Env}
use Rattle.kernel_rules.specs.definitions.LegalTick.{DomainState, IsLegalTick, mark_after}
use Rattle.kernel_rules.specs.definitions.TickRule.{Tick, Ticks, Continues, has_ended}
use Rattle.tick_log.specs.definitions.Runs.{join_count}
use Rattle.domain_core.specs.definitions.runs.Systems.{SystemState, Steps, WaitsToSend, WaitsToReceive, start, start_of}
use Rattle.domain_core.specs.definitions.runs.LegalRuns.{IsLegalRun, SpendsBudgets, IsAtRest}
use Rattle.domain_core.specs.definitions.runs.OwnRuns.{HasOwnRuns, IsOwnRun, with_joins}
use Rattle.domain_core.specs.Rows.{rendezvous, rendezvous_run, rendezvous_with, first_ticks}
use Rattle.domain_core.proofs.lemmas.runs.LegalRunProjections.{legal_has_own_runs}
use Rattle.domain_core.proofs.lemmas.runs.Rendezvous.{system, first-steps}

-- what domain 0 and domain 1 are left with after their first tick
abbrev send_left : Stmt
send_left = Seq (SendWaits 0 (pos 5)) (Emit 0 None)

abbrev receive_left : Stmt
receive_left = Seq (ReceiveWaits 0) (Emit 1 (Some (ChannelValue kind.Int 0)))

abbrev after_first : (Tables → (ℕ → ℤ) → Env → (ℕ → ℤ) → Tick → Type 0) → Stmt → Type 0
after_first T rest = (tables : Tables) (last : ℕ → ℤ) (env : Env) (x : ℕ → ℤ) (o : Tick) → T tables last env x o → o.rest ≡ rest

send_rest : after_first (λ tables last env x o. Ticks tables last (Seq (Send 0 (Literal kind.Int (pos 5))) (Emit 0 None)) env x o) send_left
send_rest tables last env x o t =
    let k = subst (λ z. Continues (λ y b. Ticks tables last (Emit 0 None) env y b) (Emit 0 None) z (has_ended z.code) o) t.1.2 t.2 in
    ap (λ z. z.rest) k ∙ ap (λ v. Seq (SendWaits 0 v) (Emit 0 None)) t.1.1

receive_rest : after_first (λ tables last env x o. Ticks tables last (Seq (Receive 0) (Emit 1 (Some (ChannelValue kind.Int 0)))) env x o) receive_left
receive_rest tables last env x o t =
    let k = subst (λ z. Continues (λ y b. Ticks tables last (Emit 1 (Some (ChannelValue kind.Int 0))) env y b) (Emit 1 (Some (ChannelValue kind.Int 0))) z (has_ended z.code) o) t.1 t.2 in
    ap (λ z. z.rest) k

-- the tick in which a completed send goes on ends the domain
sent_code : (tables : Tables) (last : ℕ → ℤ) (env : Env) (x : ℕ → ℤ) (o : Tick) → Ticks tables last (Seq (Sent 0) (Emit 0 None)) env x o → o.code ≡ 0
sent_code tables last env x o t =
    let k = subst (λ z. Continues (λ y b. Ticks tables last (Emit 0 None) env y b) (Emit 0 None) z (has_ended z.code) o) t.1 t.2 in
    ap (λ z. z.code) k.2 ∙ ap (λ z. z.code) k.1.2

first_of_sender : (old new : DomainState) (statuses : List (Option ℤ)) → old.statement ≡ (start_of rendezvous 0).statement →
    IsLegalTick rendezvous.tables rendezvous.inputs 0 old statuses new → new.statement ≡ send_left
first_of_sender old new statuses e h =
    ap (λ z. z.statement) h.next
    ∙ send_rest rendezvous.tables old.last h.env old.variables h.tick (subst (λ z. Ticks rendezvous.tables old.last z h.env old.variables h.tick) e h.ticks)

first_of_receiver : (old new : DomainState) (statuses : List (Option ℤ)) → old.statement ≡ (start_of rendezvous 1).statement →
    IsLegalTick rendezvous.tables rendezvous.inputs 1 old statuses new → new.statement ≡ receive_left
first_of_receiver old new statuses e h =
    ap (λ z. z.statement) h.next
    ∙ receive_rest rendezvous.tables old.last h.env old.variables h.tick (subst (λ z. Ticks rendezvous.tables old.last z h.env old.variables h.tick) e h.ticks)

second_of_sender : (old new : DomainState) (statuses : List (Option ℤ)) → old.statement ≡ Seq (Sent 0) (Emit 0 None) →
    IsLegalTick rendezvous.tables rendezvous.inputs 0 old statuses new → new.mark ≡ Ended
second_of_sender old new statuses e h =
    ap (λ z. z.mark) h.next
    ∙ ap mark_after (sent_code rendezvous.tables old.last h.env old.variables h.tick (subst (λ z. Ticks rendezvous.tables old.last z h.env old.variables h.tick) e h.ticks))

-- whatever the value and the mark, domain 0 waits with 5 after its first tick, and has ended after its second
waits_after : (v : ℤ) (m : Mark) (after : ℕ → DomainState) → IsOwnRun rendezvous (rendezvous_with 3 v m) 0 after → (after 1).statement ≡ send_left
waits_after v m after own =
    let r = rendezvous_with 3 v m in
    first_of_sender (with_joins rendezvous r 0 0 (join_count r) (after 0)) (after 1) _
    (ap (λ z. (with_joins rendezvous r 0 0 (join_count r) z).statement) own.begins)
    (own.ticks 0 (omega arith))

ends_after : (v : ℤ) (m : Mark) (after : ℕ → DomainState) → IsOwnRun rendezvous (rendezvous_with 3 v m) 0 after → (after 2).mark ≡ Ended
ends_after v m after own =
    let r = rendezvous_with 3 v m in
    second_of_sender (with_joins rendezvous r 0 1 (join_count r) (after 1)) (after 2) _
    (ap (λ z. (with_joins rendezvous r 0 1 (join_count r) (record (after 1) { statement = z })).statement) (waits_after v m after own))
    (own.ticks 1 (omega arith))

own_of : (v : ℤ) (m : Mark) (end : SystemState) → IsLegalRun rendezvous (rendezvous_with 3 v m) end → HasOwnRuns rendezvous (rendezvous_with 3 v m)
own_of v m end l = (legal_has_own_runs rendezvous (rendezvous_with 3 v m) end system l).own

going_not_ended : Going ≡ Ended → ⊥
going_not_ended e = cc

five_not_six : pos 5 ≡ pos 6 → ⊥
five_not_six e = cc

pub mark-refused : (end : SystemState) → IsLegalRun rendezvous (rendezvous_with 3 (pos 5) Going) end → ⊥
mark-refused end l =
    let own = own_of (pos 5) Going end l in
    going_not_ended ((own.own 0 (omega arith)).mark ∙ ends_after (pos 5) Going (own.after 0) (own.own 0 (omega arith)))

not_waiting : WaitsToSend 0 (pos 6) send_left → ⊥
not_waiting (inl h) = five_not_six h.1
not_waiting (inr h) = h

pub value-refused : (end : SystemState) → IsLegalRun rendezvous (rendezvous_with 3 (pos 6) Ended) end → ⊥
value-refused end l =
    let own = own_of (pos 6) Ended end l in
    let waits = (own.own 0 (omega arith)).sends 0 0 (omega arith) (omega arith) refl in
    not_waiting (subst (λ z. WaitsToSend 0 (pos 6) z) (waits_after (pos 6) Ended (own.after 0) (own.own 0 (omega arith))) waits)

-- budgets
pub ended-spends : SpendsBudgets (rendezvous_run 3) (λ d. 3)
ended-spends zero h = inr (omega arith, refl)
ended-spends (suc zero) h = inr (omega arith, refl)
ended-spends (suc (suc d)) h = absurd (omega arith)

not_over : is_over Going ≡ true → ⊥
not_over e = cc

pub going-refused : SpendsBudgets (rendezvous_with 3 (pos 5) Going) (λ d. 3) → ⊥
going-refused h = elim (h 0 (omega arith)) [ inl e ↦ omega arith | inr e ↦ not_over e.1 ]

pub few-refused : SpendsBudgets (rendezvous_run 3) (λ d. 1) → ⊥
few-refused h = elim (h 0 (omega arith)) [ inl e ↦ omega arith | inr e ↦ let few = e.0 in omega arith ]

-- rest
pub waiting-reached : (end : SystemState) × Steps rendezvous (start rendezvous) first_ticks end
waiting-reached = first-steps

pub waiting-refused : (end : SystemState) → Steps rendezvous (start rendezvous) first_ticks end → IsAtRest rendezvous end → ⊥
waiting-refused end s rest =
    let sender = s.1.1 in
    let receiver = s.2.1.1 in
    let sent : sender.after.statement ≡ send_left = first_of_sender (start_of rendezvous 0) sender.after _ refl sender.legal in
    let mid : (s.0.domain 1).statement ≡ (start_of rendezvous 1).statement = ap (λ z. (z.domain 1).statement) sender.next in
    let got : receiver.after.statement ≡ receive_left = first_of_receiver (s.0.domain 1) receiver.after _ mid receiver.legal in
    let waits0 : (end.domain 0).statement ≡ send_left =
    ap (λ z. (z.domain 0).statement) (sym s.2.2) ∙ ap (λ z. (z.domain 0).statement) receiver.next ∙ ap (λ z. (z.domain 0).statement) sender.next ∙ sent in
    let waits1 : (end.domain 1).statement ≡ receive_left =
    ap (λ z. (z.domain 1).statement) (sym s.2.2) ∙ ap (λ z. (z.domain 1).statement) receiver.next ∙ got in
    rest 0 (pos 5) (omega arith)
    (record { sends = subst (λ z. WaitsToSend 0 (pos 5) z) (sym waits0) (inl (refl, refl)); receives = subst (λ z. WaitsToReceive 0 z) (sym waits1) (inl refl) })
