-- What a tick and a join change at each domain.
use Rattle.std.proofs.Common.{◌≡◌, ◌≢◌, ℕ, ℤ, List, refl, sym, ap, ◌∙◌, subst, inl, inr}
use Rattle.std.specs.Prelude.{◌==◌, Option, is_some}
use Rattle.std.proofs.lemmas.Bool.{eq-eqb, and_from, true≢false}
use Rattle.kernel_terms.specs.declared.tables.Tables.{Tables}
use Rattle.kernel_rules.specs.definitions.Signals.{put_at}
use Rattle.kernel_rules.specs.definitions.LegalTick.{DomainState}
use Rattle.domain_core.specs.definitions.runs.Systems.{WaitsToSend, WaitsToReceive, Setup, JoinRecord, SystemState, sender_of, receiver_of, with_found, only, TickStep, JoinStep}
use Rattle.domain_core.proofs.lemmas.runs.FoundJoins.{only_here, found_waited_to_send, found_waited_to_receive}
use Rattle.domain_core.proofs.lemmas.runs.StatesBetweenTicks.{put_here, put_apart, put_cases}

pub tick_elsewhere : (p : Setup) (s new : SystemState) (d : ℕ) (statuses : List (Option ℤ)) (k : TickStep p s d statuses new) (e : ℕ) → e ≢ d → new.domain e ≡ s.domain e
tick_elsewhere p s new d statuses k e h = ap (λ z. z.domain e) k.next ∙ put_apart s.domain d k.after e h

pub tick_here : (p : Setup) (s new : SystemState) (d : ℕ) (statuses : List (Option ℤ)) (k : TickStep p s d statuses new) → new.domain d ≡ k.after
tick_here p s new d statuses k = ap (λ z. z.domain d) k.next ∙ put_here s.domain d k.after

-- only the statement and the last values differ, and nothing waits that didn't wait
pub record Rewritten (old new : DomainState) : Type 0 where
  pub ticks : new.ticks ≡ old.ticks
  pub mark : new.mark ≡ old.mark
  pub sends : (b : ℕ) (v : ℤ) → WaitsToSend b v new.statement → WaitsToSend b v old.statement
  pub receives : (b : ℕ) → WaitsToReceive b new.statement → WaitsToReceive b old.statement

untouched : (old new : DomainState) → new ≡ old → Rewritten old new
untouched old new e = subst (λ z. Rewritten old z) (sym e) (record { ticks = refl; mark = refl; sends = λ b v h. h; receives = λ b h. h })

found_rewritten : (t : Tables) (d : ℕ) (f : ℕ → Option ℤ) (s new : DomainState) → new ≡ with_found t d f s → Rewritten s new
found_rewritten t d f s new e = subst (λ z. Rewritten s z) (sym e) (record {
  ticks = refl;
  mark = refl;
  sends = λ b v h. (found_waited_to_send t d f s b v h).1;
  receives = λ b h. (found_waited_to_receive t d f s b h).1;
})

pub join_at : (p : Setup) (s new : SystemState) (c : ℕ) (join : JoinRecord) → JoinStep p s c join new → (e : ℕ) → Rewritten (s.domain e) (new.domain e)
join_at p s new c join k e =
    let sd = sender_of p c in
    let rd = receiver_of p c in
    let sent = with_found p.tables sd (only c join.value) (s.domain sd) in
    let got = with_found p.tables rd (only c join.value) (s.domain rd) in
    let mid = put_at s.domain sd sent in
    elim (put_cases mid rd got e) [
      | inl (q, u) ↦
          let is : new.domain e ≡ got = ap (λ z. z.domain e) k.next ∙ u in
          subst (λ z. Rewritten (s.domain z) (new.domain e)) (sym q) (found_rewritten p.tables rd (only c join.value) (s.domain rd) (new.domain e) is)
      | inr (q, u) ↦ elim (put_cases s.domain sd sent e) [
        | inl (q2, u2) ↦
            let is : new.domain e ≡ sent = ap (λ z. z.domain e) k.next ∙ u ∙ u2 in
            subst (λ z. Rewritten (s.domain z) (new.domain e)) (sym q2) (found_rewritten p.tables sd (only c join.value) (s.domain sd) (new.domain e) is)
        | inr (q2, u2) ↦ untouched (s.domain e) (new.domain e) (ap (λ z. z.domain e) k.next ∙ u ∙ u2)
      ]
    ]

-- the two ends don't wait any more
pub receiver_done : (p : Setup) (s new : SystemState) (c : ℕ) (join : JoinRecord) → JoinStep p s c join new → WaitsToReceive c (new.domain (receiver_of p c)).statement → ⊥
receiver_done p s new c join k w =
    let sd = sender_of p c in
    let rd = receiver_of p c in
    let got = with_found p.tables rd (only c join.value) (s.domain rd) in
    let is : new.domain rd ≡ got = ap (λ z. z.domain rd) k.next ∙ put_here (put_at s.domain sd (with_found p.tables sd (only c join.value) (s.domain sd))) rd got in
    let waited = found_waited_to_receive p.tables rd (only c join.value) (s.domain rd) c (subst (λ z. WaitsToReceive c z.statement) is w) in
    let found = and_from (rd == rd) (is_some (only c join.value c)) (eq-eqb rd rd refl) (ap is_some (only_here c join.value)) in
    true≢false (sym found ∙ waited.0)

pub sender_done : (p : Setup) (s new : SystemState) (c : ℕ) (join : JoinRecord) → sender_of p c ≢ receiver_of p c → JoinStep p s c join new → (v : ℤ) →
    WaitsToSend c v (new.domain (sender_of p c)).statement → ⊥
sender_done p s new c join apart k v w =
    let sd = sender_of p c in
    let rd = receiver_of p c in
    let sent = with_found p.tables sd (only c join.value) (s.domain sd) in
    let got = with_found p.tables rd (only c join.value) (s.domain rd) in
    let is : new.domain sd ≡ sent = ap (λ z. z.domain sd) k.next ∙ put_apart (put_at s.domain sd sent) rd got sd apart ∙ put_here s.domain sd sent in
    let waited = found_waited_to_send p.tables sd (only c join.value) (s.domain sd) c v (subst (λ z. WaitsToSend c v z.statement) is w) in
    let found = and_from (sd == sd) (is_some (only c join.value c)) (eq-eqb sd sd refl) (ap is_some (only_here c join.value)) in
    true≢false (sym found ∙ waited.0)
