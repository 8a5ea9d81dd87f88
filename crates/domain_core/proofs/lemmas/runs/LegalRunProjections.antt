-- A legal run gives each domain its own run.
use Rattle.std.proofs.Common.{◌≡◌, ℕ, suc, ◌<◌, ◌≤◌, List, [], ◌∷◌, ◌++◌, length, length-append, map, refl, sym, ap, ◌∙◌, inl, inr, arith}
use Rattle.std.proofs.lemmas.Bool.{cases_lt}
use Rattle.domain_core.specs.definitions.runs.Systems.{Setup, SystemState, start, Move, MakesTick, MakesJoin, Steps, IsSystem}
use Rattle.kernel_rules.specs.definitions.Signals.{put_at}
use Rattle.tick_log.specs.definitions.Runs.{RunState, tick_of, join_of, tick_count, join_count}
use Rattle.tick_log.specs.definitions.StampOrder.{Event, TickOf, JoinOf, IsEventOf, IsIn}
use Rattle.domain_core.specs.definitions.runs.LegalRuns.{MakesAll, IsLegalRun, record_of}
use Rattle.domain_core.specs.definitions.runs.Scheduled.{TellsFrom}
use Rattle.domain_core.specs.definitions.runs.OwnRuns.{OwnRunsTo}
use Rattle.domain_core.proofs.lemmas.runs.StatesBetweenTicks.{put_here, put_apart, put_cases, put_more}
use Rattle.domain_core.proofs.lemmas.runs.StampRuleLemmas.{channel_of, domain_of}
use Rattle.domain_core.proofs.lemmas.runs.AnyOrder.{steps_have_own_runs}
use Rattle.domain_core.proofs.lemmas.runs.JoinEffects.{tick_here, tick_elsewhere, join_at}

abbrev move_of : RunState → Event → Move
move_of r (TickOf d n) = MakesTick d (tick_of r d n).statuses
move_of r (JoinOf c i) = MakesJoin c (record_of (join_of r c i))

as_steps : (p : Setup) (r : RunState) (s : SystemState) (order : List Event) (end : SystemState) → MakesAll p r s order end → Steps p s (map (move_of r) order) end
as_steps p r s [] end h = h
as_steps p r s (TickOf d n ∷ order) end h = (h.0, h.1.1, as_steps p r h.0 order end h.2)
as_steps p r s (JoinOf c i ∷ order) end h = (h.0, h.1.1, as_steps p r h.0 order end h.2)

record LeftAt (p : Setup) (r : RunState) (t j : ℕ → ℕ) (s : SystemState) (left : List Event) : Type 0 where
  ticks : (d : ℕ) → (s.domain d).ticks ≡ t d
  joins : (c : ℕ) → length (s.joins c) ≡ j c
  events : (e : Event) → IsIn e left → IsEventOf r e
  tick_comes : (d n : ℕ) → d < length r.logs → t d ≤ n → n < tick_count r d → IsIn (TickOf d n) left
  join_comes : (c i : ℕ) → c < length r.histories → j c ≤ i → i < join_count r c → IsIn (JoinOf c i) left
  ticks_within : (d : ℕ) → t d ≤ tick_count r d
  joins_within : (c : ℕ) → j c ≤ join_count r c
  domain_of : (d n : ℕ) → n < tick_count r d → d < length r.logs

tells : (p : Setup) (r : RunState) (t j : ℕ → ℕ) (s : SystemState) (order : List Event) (end : SystemState) → LeftAt p r t j s order → MakesAll p r s order end →
    TellsFrom r t j (map (move_of r) order)
tells p r t j s [] end a h = (
  (λ d. let w = a.ticks_within d in elim (cases_lt (t d) (tick_count r d)) [ inl l ↦ absurd (a.tick_comes d (t d) (a.domain_of d (t d) l) (omega arith) l) | inr l ↦ omega arith ]),
  (λ c. let w = a.joins_within c in elim (cases_lt (j c) (join_count r c)) [ inl l ↦ absurd (a.join_comes c (j c) (channel_of r c (j c) l) (omega arith) l) | inr l ↦ omega arith ]),
)
tells p r t j s (TickOf d n ∷ order) end a h =
    let k = h.1.1.1 in
    let ev = a.events (TickOf d n) (inl refl) in
    let q : n ≡ t d = sym h.1.0 ∙ a.ticks d in (
      omega arith,
      ap (λ z. (tick_of r d z).statuses) (sym q),
      tells p r (put_at t d (suc (t d))) j h.0 order end (record {
        ticks = λ e. elim (put_cases t d (suc (t d)) e) [
          | inl (y, u) ↦ ap (λ z. (h.0.domain z).ticks) y ∙ ap (λ z. z.ticks) (tick_here p s h.0 d (tick_of r d n).statuses k ∙ k.legal.next) ∙ ap suc (a.ticks d) ∙ sym u
          | inr (y, u) ↦ ap (λ z. z.ticks) (tick_elsewhere p s h.0 d (tick_of r d n).statuses k e y) ∙ a.ticks e ∙ sym u
        ];
        joins = λ c. ap (λ z. length (z.joins c)) k.next ∙ a.joins c;
        events = λ e i. a.events e (inr i);
        tick_comes = λ e m w y z.
            let low = put_more t d e in
            elim (a.tick_comes e m w (omega arith) z) [
              | inl same ↦
                  let q1 : e ≡ d = cc in
                  let q2 : m ≡ n = cc in
                  let u = ap (put_at t d (suc (t d))) q1 ∙ put_here t d (suc (t d)) in
                  absurd (omega arith)
              | inr i ↦ i
            ];
        join_comes = λ c i w y z. elim (a.join_comes c i w y z) [ inl same ↦ cc | inr m ↦ m ];
        ticks_within = λ e. elim (put_cases t d (suc (t d)) e) [
          | inl (y, u) ↦ let v = ap (tick_count r) y in let v2 = ev.1 in omega arith
          | inr (y, u) ↦ let v = a.ticks_within e in omega arith
        ];
        joins_within = a.joins_within;
        domain_of = a.domain_of;
      }) h.2,
    )
tells p r t j s (JoinOf c i ∷ order) end a h =
    let k = h.1.1.1 in
    let ev = a.events (JoinOf c i) (inl refl) in
    let q : i ≡ j c = sym h.1.0 ∙ a.joins c in
    let row = record_of (join_of r c i) in (
      omega arith,
      ap (λ z. record_of (join_of r c z)) (sym q),
      tells p r t (put_at j c (suc (j c))) h.0 order end (record {
        ticks = λ e. (join_at p s h.0 c row k e).ticks ∙ a.ticks e;
        joins = λ b. ap (λ z. length (z.joins b)) k.next ∙ elim (put_cases s.joins c (s.joins c ++ row ∷ []) b) [
          | inl (y, u) ↦
              let v = put_here j c (suc (j c)) in
              let v2 = ap (put_at j c (suc (j c))) y in
              let v3 = a.joins c in
              let v4 = length-append (s.joins c) (row ∷ []) in
              let v5 = ap length u in
              omega arith
          | inr (y, u) ↦ ap length u ∙ a.joins b ∙ sym (put_apart j c (suc (j c)) b y)
        ];
        events = λ e m. a.events e (inr m);
        tick_comes = λ e m w y z. elim (a.tick_comes e m w y z) [ inl same ↦ cc | inr x ↦ x ];
        join_comes = λ b m w y z.
            let low = put_more j c b in
            elim (a.join_comes b m w (omega arith) z) [
              | inl same ↦
                  let q1 : b ≡ c = cc in
                  let q2 : m ≡ i = cc in
                  let u = ap (put_at j c (suc (j c))) q1 ∙ put_here j c (suc (j c)) in
                  absurd (omega arith)
              | inr x ↦ x
            ];
        ticks_within = a.ticks_within;
        joins_within = λ b. elim (put_cases j c (suc (j c)) b) [
          | inl (y, u) ↦ let v = ap (join_count r) y in let v2 = ev.1 in omega arith
          | inr (y, u) ↦ let v = a.joins_within b in omega arith
        ];
        domain_of = a.domain_of;
      }) h.2,
    )

pub legal_has_own_runs : (p : Setup) (r : RunState) (end : SystemState) → IsSystem p → IsLegalRun p r end → OwnRunsTo p r end
legal_has_own_runs p r end sys l =
    let a : LeftAt p r (λ d. 0) (λ c. 0) (start p) l.order = record {
      ticks = λ d. refl;
      joins = λ c. refl;
      events = λ e i. (l.sorted.all e).0 i;
      tick_comes = λ d n w y z. (l.sorted.all (TickOf d n)).1 (w, z);
      join_comes = λ c i w y z. (l.sorted.all (JoinOf c i)).1 (w, z);
      ticks_within = λ d. omega arith;
      joins_within = λ c. omega arith;
      domain_of = λ d n h. domain_of r d n h;
    } in
    steps_have_own_runs p r (map (move_of r) l.order) end sys
    (record { steps = as_steps p r (start p) l.order end l.steps; tells = tells p r (λ d. 0) (λ c. 0) (start p) l.order end a l.steps; marks = l.marks })
