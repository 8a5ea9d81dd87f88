-- A scheduled run is a run of steps, spends its budgets and is at rest.
use Rattle.std.proofs.Common.{◌≡◌, ◌≢◌, ℕ, ℤ, zero, suc, ◌+◌, ◌<◌, ◌≤◌, true, List, [], ◌∷◌, ◌++◌, sym, ap, ◌∙◌, subst, inl, inr, arith, ◌⊎◌}
use Rattle.std.specs.Prelude.{◌==◌}
use Rattle.std.proofs.lemmas.Bool.{cases_lt, cases_eq, eq-eqb, ne_eqb, cond-true, cond-false, true≢false}
use Rattle.kernel_terms.specs.Marks.{is_over}
use Rattle.domain_core.specs.definitions.runs.Systems.{BothWait, WaitsToSend, WaitsToReceive, Setup, JoinRecord, SystemState, start, sender_of, receiver_of, Move, JoinStep, Steps, IsSystem, IsFresh, domain_count, channel_count}
use Rattle.tick_log.specs.definitions.Runs.{RunState, log_of, tick_count}
use Rattle.domain_core.specs.definitions.runs.LegalRuns.{Fits}
use Rattle.domain_core.specs.runs.StampsByStep.{StampsFrom}
use Rattle.domain_core.specs.definitions.runs.Scheduled.{TellsFrom, JoinsInTurn, TakesTurns, IsScheduledRun, IsRunOf, turns_of, IsWholeRun}
use Rattle.domain_core.proofs.lemmas.runs.StampOrderCuts.{own_runs_are_legal, own_end-ticks}
use Rattle.domain_core.proofs.lemmas.runs.AnyOrder.{steps_have_own_runs}
use Rattle.domain_core.proofs.lemmas.runs.JoinEffects.{tick_here, tick_elsewhere, join_at, receiver_done}
use Rattle.domain_core.proofs.lemmas.runs.StepStamps.{steps_have_stamps}

steps_on : (p : Setup) (a b c : SystemState) (xs ys : List Move) → Steps p a xs b → Steps p b ys c → Steps p a (xs ++ ys) c
steps_on p a b c [] ys h k = subst (λ s. Steps p s ys c) (sym h) k
steps_on p a b c (x ∷ xs) ys h k = (h.0, h.1, steps_on p h.0 b c xs ys h.2 k)

joins_step : (p : Setup) (d c left : ℕ) (s : SystemState) (moves : List Move) (end : SystemState) → JoinsInTurn p d c left s moves end → Steps p s moves end
joins_step p d c zero s moves end h = subst (λ m. Steps p s m end) (sym h.0) h.1
joins_step p d c (suc left) s moves end (inl h) = joins_step p d (suc c) left s moves end h.1
joins_step p d c (suc left) s moves end (inr h) =
    let x = h.1 in
    subst (λ m. Steps p s m end) (sym x.4) (x.1, x.3, joins_step p d (suc c) left x.1 x.2 end x.5)

pub turns_step : (p : Setup) (s : SystemState) (turns : List ℕ) (moves : List Move) (end : SystemState) → TakesTurns p s turns moves end → Steps p s moves end
turns_step p s [] moves end h = subst (λ m. Steps p s m end) (sym h.0) h.1
turns_step p s (d ∷ turns) moves end (inl h) = turns_step p s turns moves end h.1
turns_step p s (d ∷ turns) moves end (inr h) =
    subst (λ m. Steps p s m end) (sym h.8)
    (h.1, h.5, steps_on p h.1 h.2 end h.3 h.4 (joins_step p d 0 (channel_count p) h.1 h.3 h.2 h.6) (turns_step p h.2 turns h.4 end h.7))

-- the run of these turns, from stamps that are given step by step
pub scheduled_by_step : (p : Setup) (r : RunState) (turns : List ℕ) (moves : List Move) (end : SystemState) → IsSystem p → IsFresh p → Fits p r →
    TakesTurns p (start p) turns moves end → TellsFrom r (λ d. 0) (λ c. 0) moves → StampsFrom p r (λ d. 0) (λ c. 0) (λ d. 0) (λ d. 0) moves →
    ((d : ℕ) → d < domain_count p → (log_of r d).mark ≡ (end.domain d).mark) → IsScheduledRun p r turns end
scheduled_by_step p r turns moves end sys fresh fit turned tells stamps marks = record {
  moves = moves;
  turned = turned;
  tells = tells;
  stamps = steps_have_stamps p r moves end sys fresh fit (record { steps = turns_step p (start p) turns moves end turned; tells = tells; marks = marks }) stamps;
  marks = marks;
}

pub scheduled_run_steps : (p : Setup) (r : RunState) (turns : List ℕ) (end : SystemState) (o : IsScheduledRun p r turns end) → IsRunOf p r o.moves end
scheduled_run_steps p r turns end o = record { steps = turns_step p (start p) turns o.moves end o.turned; tells = o.tells; marks = o.marks }

-- a join leaves no wait of its channel, and makes none of another
join_removes : (p : Setup) (s new : SystemState) (c : ℕ) (join : JoinRecord) → JoinStep p s c join new → (b : ℕ) (v : ℤ) → BothWait p new b v → BothWait p s b v
join_removes p s new c join k b v h =
    record {
      sends = (join_at p s new c join k (sender_of p b)).sends b v h.sends;
      receives = (join_at p s new c join k (receiver_of p b)).receives b h.receives;
    }

join_done : (p : Setup) (s new : SystemState) (c : ℕ) (join : JoinRecord) → JoinStep p s c join new → (v : ℤ) → BothWait p new c v → ⊥
join_done p s new c join k v h = receiver_done p s new c join k h.receives

-- no channel waits at both ends, but perhaps those of d from c on
record RestsBut (p : Setup) (s : SystemState) (d c : ℕ) : Type 0 where
  below : (b : ℕ) (v : ℤ) → b < c → BothWait p s b v → ⊥
  others : (b : ℕ) (v : ℤ) → b < channel_count p → sender_of p b ≢ d → receiver_of p b ≢ d → BothWait p s b v → ⊥

abbrev Rests : Setup → SystemState → Type 0
Rests p s = (b : ℕ) (v : ℤ) → b < channel_count p → BothWait p s b v → ⊥

joins_rest : (p : Setup) (d c left : ℕ) (s : SystemState) (moves : List Move) (end : SystemState) → c + left ≡ channel_count p → RestsBut p s d c → JoinsInTurn p d c left s moves end → Rests p end
joins_rest p d c zero s moves end e a h = λ b v l w. a.below b v (omega arith) (subst (λ z. BothWait p z b v) (sym h.1) w)
joins_rest p d c (suc left) s moves end e a (inl h) =
    joins_rest p d (suc c) left s moves end (omega arith)
    (record {
      below = λ b v l w. elim (cases_lt b c) [
        | inl k ↦ a.below b v k w
        | inr k ↦
            let q : b ≡ c = omega arith in
            let w2 : BothWait p s c v = subst (λ z. BothWait p s z v) q w in
            elim (cases_eq (sender_of p c) d) [
              | inl y ↦ h.0 (inl y) v w2
              | inr y ↦ elim (cases_eq (receiver_of p c) d) [ inl z ↦ h.0 (inr z) v w2 | inr z ↦ a.others c v (omega arith) y z w2 ]
            ]
      ];
      others = a.others;
    }) h.1
joins_rest p d c (suc left) s moves end e a (inr h) =
    let x = h.1 in
    let k = x.3.1 in
    joins_rest p d (suc c) left x.1 x.2 end (omega arith)
    (record {
      below = λ b v l w. elim (cases_lt b c) [
        | inl y ↦ a.below b v y (join_removes p s x.1 c x.0 k b v w)
        | inr y ↦ let q : b ≡ c = omega arith in join_done p s x.1 c x.0 k v (subst (λ z. BothWait p x.1 z v) q w)
      ];
      others = λ b v g y z w. a.others b v g y z (join_removes p s x.1 c x.0 k b v w);
    }) x.5

-- ticks and marks through the joins of a turn
joins_keep : (p : Setup) (d c left : ℕ) (s : SystemState) (moves : List Move) (end : SystemState) → JoinsInTurn p d c left s moves end → (e : ℕ) →
    ((end.domain e).ticks ≡ (s.domain e).ticks) × ((end.domain e).mark ≡ (s.domain e).mark)
joins_keep p d c zero s moves end h e = (ap (λ z. (z.domain e).ticks) (sym h.1), ap (λ z. (z.domain e).mark) (sym h.1))
joins_keep p d c (suc left) s moves end (inl h) e = joins_keep p d (suc c) left s moves end h.1 e
joins_keep p d c (suc left) s moves end (inr h) e =
    let x = h.1 in
    let k = join_at p s x.1 c x.0 x.3.1 e in
    let rest = joins_keep p d (suc c) left x.1 x.2 end x.5 e in
    (rest.0 ∙ k.ticks, rest.1 ∙ k.mark)

-- what turns spend of a domain's budget, and the rest after them
record Spends (p : Setup) (s : SystemState) (turns : List ℕ) (end : SystemState) : Type 0 where
  budget : (d : ℕ) → ((end.domain d).ticks ≡ (s.domain d).ticks + turns_of d turns) ⊎ (((end.domain d).ticks ≤ (s.domain d).ticks + turns_of d turns) × (is_over (end.domain d).mark ≡ true))
  stays : (d : ℕ) → is_over (s.domain d).mark ≡ true → is_over (end.domain d).mark ≡ true
  rests : Rests p end

one_turn : (d e : ℕ) (turns : List ℕ) → e ≡ d → turns_of d (e ∷ turns) ≡ suc (turns_of d turns)
one_turn d e turns q = cond-true (e == d) (suc (turns_of d turns)) (turns_of d turns) (eq-eqb e d q)

no_turn : (d e : ℕ) (turns : List ℕ) → e ≢ d → turns_of d (e ∷ turns) ≡ turns_of d turns
no_turn d e turns q = cond-false (e == d) (suc (turns_of d turns)) (turns_of d turns) (ne_eqb e d q)

spends : (p : Setup) (s : SystemState) (turns : List ℕ) (moves : List Move) (end : SystemState) → Rests p s → TakesTurns p s turns moves end → Spends p s turns end
spends p s [] moves end a h =
    record {
      budget = λ d. let v = ap (λ z. (z.domain d).ticks) h.1 in inl (omega arith);
      stays = λ d k. ap (λ z. is_over (z.domain d).mark) (sym h.1) ∙ k;
      rests = subst (Rests p) h.1 a;
    }
spends p s (e ∷ turns) moves end a (inl h) =
    let x = spends p s turns moves end a h.1 in
    record {
      budget = λ d. elim (cases_eq e d) [
        | inl q ↦
            let v = one_turn d e turns q in
            let ended = x.stays d (ap (λ z. is_over (s.domain z).mark) (sym q) ∙ h.0) in
            elim (x.budget d) [ inl y ↦ inr (omega arith, ended) | inr y ↦ let y0 = y.0 in inr (omega arith, ended) ]
        | inr q ↦ let v = no_turn d e turns q in elim (x.budget d) [ inl y ↦ inl (omega arith) | inr y ↦ let y0 = y.0 in inr (omega arith, y.1) ]
      ];
      stays = x.stays;
      rests = x.rests;
    }
spends p s (e ∷ turns) moves end a (inr h) =
    let ticked = h.1 in
    let mid = h.2 in
    let k = h.5.1 in
    let keep = joins_keep p e 0 (channel_count p) ticked h.3 mid h.6 in
    let rest : Rests p mid = joins_rest p e 0 (channel_count p) ticked h.3 mid (omega arith)
    (record {
      below = λ b v l w. absurd (omega arith);
      others = λ b v g y z w. a b v g (record {
        sends = subst (λ u. WaitsToSend b v u.statement) (tick_elsewhere p s ticked e h.0 k (sender_of p b) y) w.sends;
        receives = subst (λ u. WaitsToReceive b u.statement) (tick_elsewhere p s ticked e h.0 k (receiver_of p b) z) w.receives;
      });
    }) h.6 in
    let x = spends p mid turns h.4 end rest h.7 in
    record {
      budget = λ d. elim (cases_eq e d) [
        | inl q ↦
            let v = one_turn d e turns q in
            let m : (mid.domain d).ticks ≡ suc (s.domain d).ticks =
            (keep d).0 ∙ ap (λ z. (ticked.domain z).ticks) (sym q) ∙ ap (λ z. z.ticks) (tick_here p s ticked e h.0 k ∙ k.legal.next) ∙ ap (λ z. suc (s.domain z).ticks) q in
            elim (x.budget d) [ inl y ↦ inl (omega arith) | inr y ↦ let y0 = y.0 in inr (omega arith, y.1) ]
        | inr q ↦
            let v = no_turn d e turns q in
            let m : (mid.domain d).ticks ≡ (s.domain d).ticks = (keep d).0 ∙ ap (λ z. z.ticks) (tick_elsewhere p s ticked e h.0 k d (λ y. q (sym y))) in
            elim (x.budget d) [ inl y ↦ inl (omega arith) | inr y ↦ let y0 = y.0 in inr (omega arith, y.1) ]
      ];
      stays = λ d g. elim (cases_eq e d) [
        | inl q ↦ absurd (true≢false (sym g ∙ ap is_over (ap (λ z. (s.domain z).mark) (sym q) ∙ k.legal.goes_on)))
        | inr q ↦ x.stays d (ap is_over ((keep d).1 ∙ ap (λ z. z.mark) (tick_elsewhere p s ticked e h.0 k d (λ y. q (sym y)))) ∙ g)
      ];
      rests = x.rests;
    }

pub scheduled_runs_are_whole : (p : Setup) (r : RunState) (turns : List ℕ) (end : SystemState) → IsSystem p → IsFresh p → Fits p r → IsScheduledRun p r turns end → IsWholeRun p r turns
scheduled_runs_are_whole p r turns end sys fresh fit o =
    let run = scheduled_run_steps p r turns end o in
    let own = steps_have_own_runs p r o.moves end sys run in
    let st = o.stamps in
    let x = own_runs_are_legal p r sys fit st own.own in
    let s = spends p (start p) turns o.moves end (λ b v l w. fresh.sends (sender_of p b) b v w.sends) o.turned in
    let same : (d : ℕ) → d < domain_count p → x.end.domain d ≡ end.domain d = λ d h. x.domains d h ∙ sym (own.domains d h) in
    let logs = fit.logs in
    record {
      end = x.end;
      legal = x.legal;
      spent = λ d h.
          let w : d < domain_count p = omega arith in
          let count : (end.domain d).ticks ≡ tick_count r d = ap (λ z. z.ticks) (own.domains d w) ∙ own_end-ticks p r sys fit st own.own d w in
          elim (s.budget d) [
            | inl q ↦ inl (omega arith)
            | inr q ↦ let q0 = q.0 in inr (omega arith, ap is_over (o.marks d w) ∙ q.1)
          ];
      at_rest = λ c v w h. s.rests c v w (record {
        sends = subst (λ z. WaitsToSend c v z.statement) (same (sender_of p c) (sys.sender c w)) h.sends;
        receives = subst (λ z. WaitsToReceive c z.statement) (same (receiver_of p c) (sys.receiver c w)) h.receives;
      });
    }
