-- The rendezvous of two domains by rounds, in which the sender finds the join at its recall.
use Rattle.std.proofs.Common.{◌≡◌, ℕ, zero, suc, ℤ, pos, ◌<◌, ◌≤◌, true, false, [], ◌++◌, refl, sym, ap, inl, inr, arith, ◌⊎◌}
use Rattle.std.specs.Prelude.{Option, Some, None, is_some}
use Rattle.kernel_terms.specs.Statements.{SendWaits, ReceiveWaits}
use Rattle.cell_core.specs.declared.moves.Side.TheVariants.{Sender, Receiver}
use Rattle.cell_core.specs.declared.moves.Joined.{Joined}
use Rattle.cell_core.specs.definitions.Cells.{empty_cell}
use Rattle.cell_core.specs.definitions.Histories.{Runs}
use Rattle.kernel_rules.specs.definitions.TickRule.{quiet, ends_with}
use Rattle.kernel_rules.specs.definitions.LegalTick.{DomainState, IsLegalTick}
use Rattle.tick_log.specs.definitions.Runs.{log_of, tick_of, tick_count}
use Rattle.domain_core.specs.definitions.runs.Systems.{WaitsToSend, WaitsToReceive, start_of, sender_of, receiver_of}
use Rattle.domain_core.specs.definitions.runs.Stamps.{IsTickStamp, last_stamp, stamp_of_join}
use Rattle.domain_core.specs.definitions.rounds.Rounds.{Offer, Rounds, IsFoundStamp, recalled, RecallsStanding, IsRound, entry_stamps, OffersWaiting, IsRounds, RowsAreFound, last_recall}
use Rattle.domain_core.specs.definitions.rounds.Interleavings.{at_cell, placed, own_actions, in_rounds, side_at, IsInterleaving}
use Rattle.domain_core.specs.Rows.{rendezvous, rendezvous_run, one_interleaving, IsByRounds}
use Rattle.domain_core.proofs.lemmas.runs.WorkedRuns.{after, legal_tick, zeros}
use Rattle.domain_core.proofs.lemmas.runs.Rendezvous.{sending, receiving, sent, received, system}
use Rattle.domain_core.proofs.lemmas.rounds.InterleavedRounds.{interleaving_fits}

abbrev seen : Joined
seen = record { value = pos 5; mine = 1; theirs = 1 }

-- once, after one tick and at channel 0
abbrev once : {X : Type 0} → X → ℕ → ℕ → Option X
once x (suc zero) zero = Some x
once x (suc zero) (suc c) = None
once x zero c = None
once x (suc (suc n)) c = None

abbrev offer0 : Offer
offer0 = record { value = pos 5; stamp = 1; reply = None }

abbrev offer1 : Offer
offer1 = record { value = pos 0; stamp = 1; reply = Some seen }

-- a domain's state after these ticks
abbrev ready0 : ℕ → DomainState → DomainState
ready0 n s = recalled rendezvous 0 s (once offer0 n) (once (Some seen) n)

abbrev ready1 : ℕ → DomainState → DomainState
ready1 n s = recalled rendezvous 1 s (once offer1 n) (λ c. None)

abbrev first0 : DomainState
first0 = after rendezvous 0 (ready0 0 (start_of rendezvous 0)) sending

abbrev first1 : DomainState
first1 = after rendezvous 1 (ready1 0 (start_of rendezvous 1)) receiving

abbrev after0 : ℕ → DomainState
after0 zero = start_of rendezvous 0
after0 (suc zero) = first0
after0 (suc (suc n)) = after rendezvous 0 (ready0 1 first0) sent

abbrev after1 : ℕ → DomainState
after1 zero = start_of rendezvous 1
after1 (suc zero) = first1
after1 (suc (suc n)) = after rendezvous 1 (ready1 1 first1) received

abbrev rounds0 : Rounds
rounds0 = record { after = after0; offers = once offer0; recalls = once (Some seen); is_cut = false }

abbrev rounds1 : Rounds
rounds1 = record { after = after1; offers = once offer1; recalls = λ n c. None; is_cut = false }

ticks0 : (n : ℕ) → n < 2 → IsLegalTick rendezvous.tables rendezvous.inputs 0 (ready0 n (after0 n)) (tick_of (rendezvous_run 3) 0 n).statuses (after0 (suc n))
ticks0 zero h = legal_tick rendezvous 0 (ready0 0 (start_of rendezvous 0)) sending refl (quiet 1 (SendWaits 0 (pos 5)) zeros, (pos 5, refl, refl), refl) refl
ticks0 (suc zero) h = legal_tick rendezvous 0 (ready0 1 first0) sent refl (ends_with [] zeros, refl, (sent, (pos 0, refl, refl), refl)) refl
ticks0 (suc (suc n)) h = absurd (omega arith)

ticks1 : (n : ℕ) → n < 2 → IsLegalTick rendezvous.tables rendezvous.inputs 1 (ready1 n (after1 n)) (tick_of (rendezvous_run 3) 1 n).statuses (after1 (suc n))
ticks1 zero h = legal_tick rendezvous 1 (ready1 0 (start_of rendezvous 1)) receiving refl (quiet 1 (ReceiveWaits 0) zeros, refl, refl) refl
ticks1 (suc zero) h = legal_tick rendezvous 1 (ready1 1 first1) received refl (ends_with [] zeros, refl, (received, (pos 5, refl, refl), refl)) refl
ticks1 (suc (suc n)) h = absurd (omega arith)

stands0 : (n c : ℕ) → RecallsStanding (once offer0 n c) (once (Some seen) n c)
stands0 (suc zero) zero = inr (refl, (Some seen, refl))
stands0 (suc zero) (suc c) = refl
stands0 zero c = refl
stands0 (suc (suc n)) c = refl

stands1 : (n c : ℕ) → RecallsStanding (once offer1 n c) None
stands1 (suc zero) zero = inl (refl, refl)
stands1 (suc zero) (suc c) = refl
stands1 zero c = refl
stands1 (suc (suc n)) c = refl

none_late : {X : Type 0} (x : X) (n c : ℕ) → 2 < n → once x n c ≡ None
none_late x zero c h = refl
none_late x (suc zero) c h = absurd (omega arith)
none_late x (suc (suc n)) c h = refl

offers0 : OffersWaiting rendezvous 0 1 first0 (once offer0 1)
offers0 = record { ends = e; stamps = t; sends = s; receives = g; all_sends = all_s; all_receives = all_g }
  where
    e : (c : ℕ) (o : Offer) → once offer0 1 c ≡ Some o → (c < 1) × ((sender_of rendezvous c ≡ 0) ⊎ (receiver_of rendezvous c ≡ 0))
    e zero o h = (omega arith, inl refl)
    e (suc c) o h = cc

    t : (c : ℕ) (o : Offer) → once offer0 1 c ≡ Some o → o.stamp ≡ 1
    t zero o h = let k : o ≡ offer0 = cc in ap (λ z. z.stamp) k
    t (suc c) o h = cc

    s : (c : ℕ) (o : Offer) → once offer0 1 c ≡ Some o → sender_of rendezvous c ≡ 0 → WaitsToSend c o.value first0.statement
    s zero o h q = let k : o ≡ offer0 = cc in inl (refl, ap (λ z. z.value) (sym k))
    s (suc c) o h q = cc

    g : (c : ℕ) (o : Offer) → once offer0 1 c ≡ Some o → receiver_of rendezvous c ≡ 0 → WaitsToReceive c first0.statement × (o.value ≡ pos 0)
    g zero o h q = absurd (omega arith)
    g (suc c) o h q = cc

    all_s : (c : ℕ) (v : ℤ) → c < 1 → sender_of rendezvous c ≡ 0 → WaitsToSend c v first0.statement → is_some (once offer0 1 c) ≡ true
    all_s zero v h q w = refl
    all_s (suc c) v h q w = absurd (omega arith)

    all_g : (c : ℕ) → c < 1 → receiver_of rendezvous c ≡ 0 → WaitsToReceive c first0.statement → is_some (once offer0 1 c) ≡ true
    all_g zero h q w = refl
    all_g (suc c) h q w = absurd (omega arith)

offers1 : OffersWaiting rendezvous 1 1 first1 (once offer1 1)
offers1 = record { ends = e; stamps = t; sends = s; receives = g; all_sends = all_s; all_receives = all_g }
  where
    e : (c : ℕ) (o : Offer) → once offer1 1 c ≡ Some o → (c < 1) × ((sender_of rendezvous c ≡ 1) ⊎ (receiver_of rendezvous c ≡ 1))
    e zero o h = (omega arith, inr refl)
    e (suc c) o h = cc

    t : (c : ℕ) (o : Offer) → once offer1 1 c ≡ Some o → o.stamp ≡ 1
    t zero o h = let k : o ≡ offer1 = cc in ap (λ z. z.stamp) k
    t (suc c) o h = cc

    s : (c : ℕ) (o : Offer) → once offer1 1 c ≡ Some o → sender_of rendezvous c ≡ 1 → WaitsToSend c o.value first1.statement
    s zero o h q = absurd (omega arith)
    s (suc c) o h q = cc

    g : (c : ℕ) (o : Offer) → once offer1 1 c ≡ Some o → receiver_of rendezvous c ≡ 1 → WaitsToReceive c first1.statement × (o.value ≡ pos 0)
    g zero o h q = let k : o ≡ offer1 = cc in (inl refl, ap (λ z. z.value) k)
    g (suc c) o h q = cc

    all_s : (c : ℕ) (v : ℤ) → c < 1 → sender_of rendezvous c ≡ 1 → WaitsToSend c v first1.statement → is_some (once offer1 1 c) ≡ true
    all_s zero v h q w = refl
    all_s (suc c) v h q w = absurd (omega arith)

    all_g : (c : ℕ) → c < 1 → receiver_of rendezvous c ≡ 1 → WaitsToReceive c first1.statement → is_some (once offer1 1 c) ≡ true
    all_g zero h q w = refl
    all_g (suc c) h q w = absurd (omega arith)

-- a domain that has ended waits for nothing
ended0 : OffersWaiting rendezvous 0 3 (after0 2) (once offer0 2)
ended0 = record { ends = λ c o h. cc; stamps = λ c o h. cc; sends = λ c o h q. cc; receives = λ c o h q. cc; all_sends = λ c v h q w. absurd w; all_receives = λ c h q w. absurd w }

ended1 : OffersWaiting rendezvous 1 3 (after1 2) (once offer1 2)
ended1 = record { ends = λ c o h. cc; stamps = λ c o h. cc; sends = λ c o h q. cc; receives = λ c o h q. cc; all_sends = λ c v h q w. absurd w; all_receives = λ c h q w. absurd w }

all_offers0 : (n : ℕ) → n < 2 → OffersWaiting rendezvous 0 (tick_of (rendezvous_run 3) 0 n).stamp (after0 (suc n)) (once offer0 (suc n))
all_offers0 zero h = offers0
all_offers0 (suc zero) h = ended0
all_offers0 (suc (suc n)) h = absurd (omega arith)

all_offers1 : (n : ℕ) → n < 2 → OffersWaiting rendezvous 1 (tick_of (rendezvous_run 3) 1 n).stamp (after1 (suc n)) (once offer1 (suc n))
all_offers1 zero h = offers1
all_offers1 (suc zero) h = ended1
all_offers1 (suc (suc n)) h = absurd (omega arith)

-- the first ticks find nothing, and the second ones the join
none0 : (t : ℕ) → IsFoundStamp (once offer0 0) (once (Some seen) 0) t → ⊥
none0 t q = let e = q.2 in cc

none1 : (t : ℕ) → IsFoundStamp (once offer1 0) (λ c. None) t → ⊥
none1 t q = let e = q.2 in cc

found0 : (t : ℕ) → IsFoundStamp (once offer0 1) (once (Some seen) 1) t → t ≤ 2
found0 t (zero, j, e, q) = let k : j ≡ seen = cc in let v = ap stamp_of_join k in omega arith
found0 t (suc c, j, e, q) = cc

found1 : (t : ℕ) → IsFoundStamp (once offer1 1) (λ c. None) t → t ≤ 2
found1 t (zero, j, e, q) = let k : j ≡ seen = cc in let v = ap stamp_of_join k in omega arith
found1 t (suc c, j, e, q) = cc

stamps0 : (n : ℕ) → n < 2 → IsTickStamp (last_stamp (entry_stamps (log_of (rendezvous_run 3) 0).entries) n) (IsFoundStamp (once offer0 n) (once (Some seen) n)) (tick_of (rendezvous_run 3) 0 n).stamp
stamps0 zero h = (0, refl, record { least = omega arith; joins = λ t q. absurd (none0 t q); attained = inl refl })
stamps0 (suc zero) h = (2, refl, record { least = omega arith; joins = found0; attained = inr (0, seen, refl, refl) })
stamps0 (suc (suc n)) h = absurd (omega arith)

stamps1 : (n : ℕ) → n < 2 → IsTickStamp (last_stamp (entry_stamps (log_of (rendezvous_run 3) 1).entries) n) (IsFoundStamp (once offer1 n) (λ c. None)) (tick_of (rendezvous_run 3) 1 n).stamp
stamps1 zero h = (0, refl, record { least = omega arith; joins = λ t q. absurd (none1 t q); attained = inl refl })
stamps1 (suc zero) h = (2, refl, record { least = omega arith; joins = found1; attained = inr (0, seen, refl, refl) })
stamps1 (suc (suc n)) h = absurd (omega arith)

all_rounds0 : (n : ℕ) → n < 2 → IsRound rendezvous 0 (last_stamp (entry_stamps (log_of (rendezvous_run 3) 0).entries) n) (after0 n) (once offer0 n) (once (Some seen) n)
    (tick_of (rendezvous_run 3) 0 n) (after0 (suc n)) (once offer0 (suc n))
all_rounds0 n h = record { stands = stands0 n; stamp = stamps0 n h; tick = ticks0 n h; offers_waiting = all_offers0 n h }

all_rounds1 : (n : ℕ) → n < 2 → IsRound rendezvous 1 (last_stamp (entry_stamps (log_of (rendezvous_run 3) 1).entries) n) (after1 n) (once offer1 n) (λ c. None)
    (tick_of (rendezvous_run 3) 1 n) (after1 (suc n)) (once offer1 (suc n))
all_rounds1 n h = record { stands = stands1 n; stamp = stamps1 n h; tick = ticks1 n h; offers_waiting = all_offers1 n h }

is_rounds0 : IsRounds rendezvous 0 (log_of (rendezvous_run 3) 0).entries (log_of (rendezvous_run 3) 0).mark rounds0
is_rounds0 = record {
  made = record { begins = refl; none_before = λ c. refl; none_after = none_late offer0; rounds = all_rounds0; mark_is = refl };
  stands = λ n c h. stands0 n c;
}

is_rounds1 : IsRounds rendezvous 1 (log_of (rendezvous_run 3) 1).entries (log_of (rendezvous_run 3) 1).mark rounds1
is_rounds1 = record {
  made = record { begins = refl; none_before = λ c. refl; none_after = none_late offer1; rounds = all_rounds1; mark_is = refl };
  stands = λ n c h. stands1 n c;
}

abbrev all_rounds : ℕ → Rounds
all_rounds zero = rounds0
all_rounds (suc d) = rounds1

domain_rounds : (d : ℕ) → d < 2 → IsRounds rendezvous d (log_of (rendezvous_run 3) d).entries (log_of (rendezvous_run 3) d).mark (all_rounds d)
domain_rounds zero h = is_rounds0
domain_rounds (suc zero) h = is_rounds1
domain_rounds (suc (suc d)) h = absurd (omega arith)

none_cut : (d : ℕ) → d < 2 → (all_rounds d).is_cut ≡ false
none_cut zero h = refl
none_cut (suc d) h = refl

own : (d c : ℕ) → d < 2 → c < 1 → own_actions d c one_interleaving ≡ in_rounds (side_at rendezvous d c) (all_rounds d) c 0 (tick_count (rendezvous_run 3) d)
own zero zero h k = refl
own (suc zero) zero h k = refl
own (suc (suc d)) c h k = absurd (omega arith)
own d (suc c) h k = absurd (omega arith)

cells : (c : ℕ) → c < 1 → Runs empty_cell (placed 0 (at_cell rendezvous c one_interleaving ++ []))
cells zero h = (refl, refl, (refl, refl, (refl, refl, tt)))
cells (suc c) h = absurd (omega arith)

rows : (c : ℕ) → c < 1 → RowsAreFound rendezvous (rendezvous_run 3) all_rounds c
rows zero h = record { sender_rows = refl; receiver_rows = refl }
rows (suc c) h = absurd (omega arith)

last_of_sender : (c : ℕ) → c < 1 → [] ≡ last_recall Sender (all_rounds (sender_of rendezvous c)) c (tick_count (rendezvous_run 3) (sender_of rendezvous c))
last_of_sender zero h = refl
last_of_sender (suc c) h = absurd (omega arith)

last_of_receiver : (c : ℕ) → c < 1 → [] ≡ last_recall Receiver (all_rounds (receiver_of rendezvous c)) c (tick_count (rendezvous_run 3) (receiver_of rendezvous c))
last_of_receiver zero h = refl
last_of_receiver (suc c) h = absurd (omega arith)

interleaved : IsInterleaving rendezvous (rendezvous_run 3) all_rounds one_interleaving (λ c. [])
interleaved = record { domains = domain_rounds; own = own; cells = cells; sender_last = last_of_sender; receiver_last = last_of_receiver; rows = rows }

pub rendezvous-by_rounds : IsByRounds rendezvous (rendezvous_run 3) one_interleaving
rendezvous-by_rounds = record {
  rounds = all_rounds;
  interleaved = interleaved;
  fit = interleaving_fits rendezvous (rendezvous_run 3) all_rounds one_interleaving (λ c. []) system interleaved;
  none_cut = none_cut;
}
