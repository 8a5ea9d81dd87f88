-- What the rule of stamps says of the order of ticks and joins.
use Rattle.std.proofs.Common.{◌≡◌, ℕ, zero, suc, ◌<◌, ◌≤◌, [], length, refl, sym, ap, ◌∙◌, subst, inl, inr, arith}
use Rattle.std.proofs.lemmas.Bool.{cases_lt}
use Rattle.std.proofs.lemmas.List.{get_or_past}
use Rattle.std.proofs.Math.Nat.{le-max_left, le-max_right}
use Rattle.domain_core.specs.definitions.runs.Systems.{Setup, sender_of, receiver_of, channel_count}
use Rattle.kernel_terms.specs.Marks.{Going}
use Rattle.tick_log.specs.definitions.Runs.{RunState, tick_count, join_count, tick_of, join_of}
use Rattle.tick_log.specs.definitions.StampOrder.{Event, stamp_of, IsBefore, by_stamp, at_one_stamp}
use Rattle.domain_core.specs.definitions.runs.Stamps.{IsGreatest, IsTickStamp, last_stamp}
use Rattle.domain_core.specs.definitions.runs.LegalRuns.{JoinsAt, IsJoinedAfter, tick_stamps, IsJoinStamp, HasStamps}
use Rattle.domain_core.specs.definitions.runs.OwnRuns.{JoinsRise}

-- no domain joins before its first tick
pub none_joined : (p : Setup) (r : RunState) (d c i : ℕ) → IsJoinStamp p r c (join_of r c i) → JoinsAt p r d 0 c i → ⊥
none_joined p r d c i j k =
    let a = j.sender_number in
    let b = j.receiver_number in
    elim k.number [ inl q ↦ let e = q.1 in omega arith | inr q ↦ let e = q.1 in omega arith ]

-- so its first tick has stamp 1
pub first_stamp : (p : Setup) (r : RunState) (s : HasStamps p r) (d : ℕ) → 0 < tick_count r d → (tick_of r d 0).stamp ≡ 1
first_stamp p r s d h =
    let next = s.ticks d 0 h in
    elim next.2.attained [
      | inl e ↦ next.1 ∙ ap suc e
      | inr (c, i, j, e) ↦ absurd (none_joined p r d c i (s.joins c i j.channel j.stands) j)
    ]

-- and a later one 1 + the greatest of the stamps of the tick before it and of the joins between them
pub later_stamp : (p : Setup) (r : RunState) (s : HasStamps p r) (d n : ℕ) → suc n < tick_count r d →
    (k : ℕ) × ((tick_of r d (suc n)).stamp ≡ suc k) × IsGreatest (tick_of r d n).stamp (IsJoinedAfter p r d (suc n)) k
later_stamp p r s d n h = s.ticks d (suc n) h

pub has_stamps : (p : Setup) (r : RunState) → ((d : ℕ) → 0 < tick_count r d → (tick_of r d 0).stamp ≡ 1) →
    ((d n : ℕ) → suc n < tick_count r d → (k : ℕ) × ((tick_of r d (suc n)).stamp ≡ suc k) × IsGreatest (tick_of r d n).stamp (IsJoinedAfter p r d (suc n)) k) →
    ((c i : ℕ) → c < channel_count p → i < join_count r c → IsJoinStamp p r c (join_of r c i)) → HasStamps p r
has_stamps p r first later joins = record { ticks = all; joins = joins }
  where
    all : (d n : ℕ) → n < tick_count r d → IsTickStamp (last_stamp (tick_stamps r d) n) (IsJoinedAfter p r d n) (tick_of r d n).stamp
    all d zero h = (0, first d h, record { least = omega arith; joins = λ t k. absurd (none_joined p r d k.0 k.1 (joins k.0 k.1 k.2.channel k.2.stands) k.2); attained = inl refl })
    all d (suc n) h = later d n h

-- a domain's ticks have rising stamps
pub ticks_rise : (p : Setup) (r : RunState) (s : HasStamps p r) (d m n : ℕ) → m < n → n < tick_count r d → (tick_of r d m).stamp < (tick_of r d n).stamp
ticks_rise p r s d m zero h k = absurd (omega arith)
ticks_rise p r s d m (suc n) h k =
    let next = later_stamp p r s d n k in
    let low = next.2.least in
    elim (cases_lt m n) [
      | inl l ↦ let before = ticks_rise p r s d m n l (omega arith) in omega arith
      | inr g ↦ let e : m ≡ n = omega arith in
          let P : ℕ → Type 0 = λ x. (tick_of r d x).stamp < (tick_of r d (suc n)).stamp in
          let here : (tick_of r d n).stamp < (tick_of r d (suc n)).stamp = omega arith in
          subst P (sym e) here
    ]

-- a join is after the two ticks whose numbers it has
pub join_after_sender : (p : Setup) (r : RunState) (c i : ℕ) (j : IsJoinStamp p r c (join_of r c i)) → (tick_of r (sender_of p c) j.sender).stamp < (join_of r c i).stamp
join_after_sender p r c i j =
    let q = le-max_left (tick_of r (sender_of p c) j.sender).stamp (tick_of r (receiver_of p c) j.receiver).stamp in
    let e = j.stamp in
    omega arith

pub join_after_receiver : (p : Setup) (r : RunState) (c i : ℕ) (j : IsJoinStamp p r c (join_of r c i)) → (tick_of r (receiver_of p c) j.receiver).stamp < (join_of r c i).stamp
join_after_receiver p r c i j =
    let q = le-max_right (tick_of r (sender_of p c) j.sender).stamp (tick_of r (receiver_of p c) j.receiver).stamp in
    let e = j.stamp in
    omega arith

-- a domain's next tick is after its joins before it
pub tick_after_join : (p : Setup) (r : RunState) (s : HasStamps p r) (d n c i : ℕ) → n < tick_count r d → 0 < n → JoinsAt p r d n c i → (join_of r c i).stamp < (tick_of r d n).stamp
tick_after_join p r s d zero c i h k j = absurd (omega arith)
tick_after_join p r s d (suc n) c i h k j =
    let next = later_stamp p r s d n h in
    let low = next.2.joins _ (c, i, j, refl) in
    omega arith

-- a channel's joins have stamps that don't fall
pub joins_rise : (p : Setup) (r : RunState) (s : HasStamps p r) (u : JoinsRise p r) (c i k : ℕ) → c < channel_count p → i < k → k < join_count r c → (join_of r c i).stamp ≤ (join_of r c k).stamp
joins_rise p r s u c i k h l m =
    let a = s.joins c i h (omega arith) in
    let b = s.joins c k h m in
    let x = u.sender c i k h l m in
    let y = u.receiver c i k h l m in
    let xn = a.sender_number in let xm = b.sender_number in
    let yn = a.receiver_number in let ym = b.receiver_number in
    let ts = ticks_rise p r s (sender_of p c) a.sender b.sender (omega arith) b.sender_stands in
    let tr = ticks_rise p r s (receiver_of p c) a.receiver b.receiver (omega arith) b.receiver_stands in
    let ea = a.stamp in let eb = b.stamp in
    omega arith

-- what is before another event has no greater stamp
pub before_stamp : (r : RunState) (e f : Event) → IsBefore r e f → stamp_of r e ≤ stamp_of r f
before_stamp r e f (by_stamp h) = omega arith
before_stamp r e f (at_one_stamp s h) = omega arith

-- a channel with a join is one of the run
pub channel_of : (r : RunState) (c i : ℕ) → i < join_count r c → c < length r.histories
channel_of r c i h = elim (cases_lt c (length r.histories)) [
  | inl l ↦ l
  | inr g ↦ let e : join_count r c ≡ 0 = ap length (get_or_past r.histories c [] g) in absurd (omega arith)
]

-- and a domain with a tick is one of the run
pub domain_of : (r : RunState) (d n : ℕ) → n < tick_count r d → d < length r.logs
domain_of r d n h = elim (cases_lt d (length r.logs)) [
  | inl l ↦ l
  | inr g ↦ let e : tick_count r d ≡ 0 = ap (λ z. length z.entries) (get_or_past r.logs d (record { entries = []; mark = Going }) g) in absurd (omega arith)
]
