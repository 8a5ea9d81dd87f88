-- Where no round is cut, the run is at rest.
use Rattle.std.proofs.Common.{◌≡◌, ℕ, ℤ, zero, suc, ◌<◌, true, false, List, [], ◌∷◌, ◌++◌, Option, Some, None, refl, sym, ap, ◌∙◌, subst, inl, inr, arith}
use Rattle.std.specs.Prelude.{is_some}
use Rattle.std.proofs.lemmas.Bool.{false≢true, true≢false}
use Rattle.cell_core.specs.declared.moves.Joined.{Joined}
use Rattle.cell_core.specs.declared.cell.Standing.{Standing}
use Rattle.cell_core.specs.declared.cell.Standing.TheVariants.{Empty, Open, Taken}
use Rattle.tick_log.specs.definitions.Runs.{RunState, tick_count, join_count}
use Rattle.domain_core.specs.definitions.runs.Systems.{WaitsToSend, WaitsToReceive, Setup, sender_of, receiver_of, channel_count, IsSystem, IsFresh}
use Rattle.domain_core.specs.definitions.runs.LegalRuns.{Fits, IsAtRest}
use Rattle.domain_core.specs.definitions.runs.OwnRuns.{found_after, with_joins}
use Rattle.domain_core.specs.definitions.rounds.Rounds.{Offer, or_else, found_at_offer, found_at_recall, value_found, Rounds, RecallsStanding, RoundsFit, NoneCut, RunsLegally}
use Rattle.domain_core.proofs.lemmas.runs.FoundJoins.{found_waited_to_send, found_waited_to_receive}
use Rattle.domain_core.proofs.lemmas.runs.AnyOrder.{off_here}
use Rattle.domain_core.proofs.lemmas.rounds.CellMoves.{Offered, Recalled, SideEntry, BySender, ByReceiver, CellRuns, of_sender, of_receiver, recall_entry, fits_cell}
use Rattle.domain_core.proofs.lemmas.rounds.RoundsRun.{domain_stands, found_is, rounds_have_own_runs, rounds_end}
use Rattle.domain_core.proofs.lemmas.rounds.RoundsStamps.{rounds_are_legal}

-- the two sides of a cell are never both open
abbrev NotBothOpen : Standing → Standing → Type 0
NotBothOpen (Open v s) (Open w u) = ⊥
NotBothOpen (Open v s) Empty = Unit {0}
NotBothOpen (Open v s) (Taken j) = Unit {0}
NotBothOpen Empty b = Unit {0}
NotBothOpen (Taken j) b = Unit {0}

one_empty : (a : Standing) → NotBothOpen a Empty
one_empty Empty = tt
one_empty (Open v s) = tt
one_empty (Taken j) = tt

record Splits (last : List SideEntry) : Type 0 where
  a : Standing
  b : Standing
  not_both : NotBothOpen a b
  runs : CellRuns a b last

splits : (xs last : List SideEntry) (a b : Standing) → NotBothOpen a b → CellRuns a b (xs ++ last) → Splits last
splits [] last a b n c = record { a = a; b = b; not_both = n; runs = c }
splits (BySender (Offered v s reply) ∷ xs) last a Empty n c = splits xs last (Open v s) Empty tt c.1.1
splits (BySender (Offered v s reply) ∷ xs) last a (Open w u) n c = splits xs last Empty (Taken (record { value = v; mine = u; theirs = s })) tt c.1.1
splits (BySender (Offered v s reply) ∷ xs) last a (Taken j) n c = splits xs last (Open v s) (Taken j) tt c.1.1
splits (BySender (Recalled reply) ∷ xs) last Empty b n c = absurd c
splits (BySender (Recalled reply) ∷ xs) last (Open v s) b n c = splits xs last Empty b tt c.1
splits (BySender (Recalled reply) ∷ xs) last (Taken j) b n c = splits xs last Empty b tt c.1
splits (ByReceiver (Offered v s reply) ∷ xs) last Empty b n c = splits xs last Empty (Open v s) tt c.1.1
splits (ByReceiver (Offered v s reply) ∷ xs) last (Open w u) b n c = splits xs last (Taken (record { value = w; mine = u; theirs = s })) Empty tt c.1.1
splits (ByReceiver (Offered v s reply) ∷ xs) last (Taken j) b n c = splits xs last (Taken j) (Open v s) tt c.1.1
splits (ByReceiver (Recalled reply) ∷ xs) last a Empty n c = absurd c
splits (ByReceiver (Recalled reply) ∷ xs) last a (Open v s) n c = splits xs last a Empty (one_empty a) c.1
splits (ByReceiver (Recalled reply) ∷ xs) last a (Taken j) n c = splits xs last a Empty (one_empty a) c.1

-- two last recalls can't both find nothing
two_recalls : (last : List SideEntry) (a b : Standing) → NotBothOpen a b → CellRuns a b last → of_sender last ≡ Recalled None ∷ [] → of_receiver last ≡ Recalled None ∷ [] → ⊥
two_recalls [] a b n c h k = cc
two_recalls (BySender (Offered v s reply) ∷ xs) a b n c h k = cc
two_recalls (ByReceiver (Offered v s reply) ∷ xs) a b n c h k = cc
two_recalls (BySender (Recalled reply) ∷ []) a b n c h k = cc
two_recalls (BySender (Recalled reply) ∷ BySender e ∷ xs) a b n c h k = cc
two_recalls (BySender (Recalled reply) ∷ ByReceiver (Offered v s r2) ∷ xs) a b n c h k = cc
two_recalls (BySender (Recalled reply) ∷ ByReceiver (Recalled r2) ∷ xs) Empty b n c h k = c
two_recalls (BySender (Recalled reply) ∷ ByReceiver (Recalled r2) ∷ xs) (Taken j) b n c h k = let e = c.0 in cc
two_recalls (BySender (Recalled reply) ∷ ByReceiver (Recalled r2) ∷ xs) (Open v s) Empty n c h k = c.1
two_recalls (BySender (Recalled reply) ∷ ByReceiver (Recalled r2) ∷ xs) (Open v s) (Taken j) n c h k = let e = c.1.0 in cc
two_recalls (BySender (Recalled reply) ∷ ByReceiver (Recalled r2) ∷ xs) (Open v s) (Open w u) n c h k = n
two_recalls (ByReceiver (Recalled reply) ∷ []) a b n c h k = cc
two_recalls (ByReceiver (Recalled reply) ∷ ByReceiver e ∷ xs) a b n c h k = cc
two_recalls (ByReceiver (Recalled reply) ∷ BySender (Offered v s r2) ∷ xs) a b n c h k = cc
two_recalls (ByReceiver (Recalled reply) ∷ BySender (Recalled r2) ∷ xs) a Empty n c h k = c
two_recalls (ByReceiver (Recalled reply) ∷ BySender (Recalled r2) ∷ xs) a (Taken j) n c h k = let e = c.0 in cc
two_recalls (ByReceiver (Recalled reply) ∷ BySender (Recalled r2) ∷ xs) Empty (Open w u) n c h k = c.1
two_recalls (ByReceiver (Recalled reply) ∷ BySender (Recalled r2) ∷ xs) (Taken j) (Open w u) n c h k = let e = c.1.0 in cc
two_recalls (ByReceiver (Recalled reply) ∷ BySender (Recalled r2) ∷ xs) (Open v s) (Open w u) n c h k = n

-- an offer that found nothing was recalled with nothing
recall_none : (o : Option Offer) (q : Option (Option Joined)) → RecallsStanding o q → is_some o ≡ true → is_some (or_else (found_at_recall q) (found_at_offer o)) ≡ false →
    recall_entry q [] ≡ Recalled None ∷ []
recall_none None q h s f = absurd (false≢true s)
recall_none (Some o) q (inl h) s f =
    let e : is_some (or_else (found_at_recall q) o.reply) ≡ is_some (or_else None o.reply) = ap (λ z. is_some (or_else (found_at_recall z) o.reply)) h.1 in
    absurd (true≢false (sym h.0 ∙ sym e ∙ f))
recall_none (Some o) None (inr h) s f = let e = h.1.1 in cc
recall_none (Some o) (Some None) (inr h) s f = refl
recall_none (Some o) (Some (Some j)) (inr h) s f = absurd (true≢false f)

some_value : (o : Option Joined) → is_some o ≡ is_some (value_found o)
some_value None = refl
some_value (Some j) = refl

-- an end that waits to the end stood to the last
stood_sender : (p : Setup) (r : RunState) (rounds : ℕ → Rounds) (f : RoundsFit p r rounds) → IsSystem p → Fits p r → IsFresh p → (c : ℕ) (v : ℤ) (n : ℕ) → c < channel_count p →
    n ≡ tick_count r (sender_of p c) →
    WaitsToSend c v (with_joins p r (sender_of p c) n (join_count r) ((rounds (sender_of p c)).after n)).statement →
    recall_entry ((rounds (sender_of p c)).recalls n c) [] ≡ Recalled None ∷ []
stood_sender p r rounds f sys fit fresh c v zero w e h =
    let sd = sender_of p c in
    let was = found_waited_to_send p.tables sd (found_after p r sd 0 (join_count r)) ((rounds sd).after 0) c v h in
    absurd (fresh.sends sd c v (subst (λ z. WaitsToSend c v z.statement) (f.domains sd (sys.sender c w)).made.begins was.1))
stood_sender p r rounds f sys fit fresh c v (suc n) w e h =
    let sd = sender_of p c in
    let sw = sys.sender c w in
    let x = f.domains sd sw in
    let was = found_waited_to_send p.tables sd (found_after p r sd (suc n) (join_count r)) ((rounds sd).after (suc n)) c v h in
    recall_none ((rounds sd).offers (suc n) c) ((rounds sd).recalls (suc n) c) (domain_stands p r rounds f sd sw (suc n) c) ((x.made.rounds n (omega arith)).offers_waiting.all_sends c v w refl was.1)
    (some_value _ ∙ ap is_some (found_is p r rounds f sys fit sd (suc n) c sw (omega arith) (inl refl)) ∙ off_here sd _ was.0)

stood_receiver : (p : Setup) (r : RunState) (rounds : ℕ → Rounds) (f : RoundsFit p r rounds) → IsSystem p → Fits p r → IsFresh p → (c n : ℕ) → c < channel_count p →
    n ≡ tick_count r (receiver_of p c) →
    WaitsToReceive c (with_joins p r (receiver_of p c) n (join_count r) ((rounds (receiver_of p c)).after n)).statement →
    recall_entry ((rounds (receiver_of p c)).recalls n c) [] ≡ Recalled None ∷ []
stood_receiver p r rounds f sys fit fresh c zero w e h =
    let rd = receiver_of p c in
    let was = found_waited_to_receive p.tables rd (found_after p r rd 0 (join_count r)) ((rounds rd).after 0) c h in
    absurd (fresh.receives rd c (subst (λ z. WaitsToReceive c z.statement) (f.domains rd (sys.receiver c w)).made.begins was.1))
stood_receiver p r rounds f sys fit fresh c (suc n) w e h =
    let rd = receiver_of p c in
    let rw2 = sys.receiver c w in
    let x = f.domains rd rw2 in
    let was = found_waited_to_receive p.tables rd (found_after p r rd (suc n) (join_count r)) ((rounds rd).after (suc n)) c h in
    recall_none ((rounds rd).offers (suc n) c) ((rounds rd).recalls (suc n) c) (domain_stands p r rounds f rd rw2 (suc n) c) ((x.made.rounds n (omega arith)).offers_waiting.all_receives c w refl was.1)
    (some_value _ ∙ ap is_some (found_is p r rounds f sys fit rd (suc n) c rw2 (omega arith) (inr refl)) ∙ off_here rd _ was.0)

pub rounds_at_rest : (p : Setup) (r : RunState) (rounds : ℕ → Rounds) (f : RoundsFit p r rounds) → (sys : IsSystem p) (fit : Fits p r) → IsFresh p → NoneCut p rounds →
    IsAtRest p ((rounds_are_legal p r rounds f sys fit).end)
rounds_at_rest p r rounds f sys fit fresh none c v w h =
    let x = rounds_are_legal p r rounds f sys fit in
    let sd = sender_of p c in
    let rd = receiver_of p c in
    let ch = fits_cell p r rounds c (f.channels c w).moves in
    let own = rounds_have_own_runs p r rounds f sys fit in
    let ends = x.domains sd (sys.sender c w) ∙ rounds_end p r rounds f sys fit sd in
    let endr = x.domains rd (sys.receiver c w) ∙ rounds_end p r rounds f sys fit rd in
    let s = splits ch.in_rounds ch.settling Empty Empty tt ch.runs in
    two_recalls ch.settling s.a s.b s.not_both s.runs
    (ch.sender_settles (none sd (sys.sender c w)) ∙ stood_sender p r rounds f sys fit fresh c v (tick_count r sd) w refl (subst (λ z. WaitsToSend c v z.statement) ends h.sends))
    (ch.receiver_settles (none rd (sys.receiver c w)) ∙ stood_receiver p r rounds f sys fit fresh c (tick_count r rd) w refl (subst (λ z. WaitsToReceive c z.statement) endr h.receives))

pub rounds_run_legally : (p : Setup) (r : RunState) (rounds : ℕ → Rounds) → IsSystem p → IsFresh p → Fits p r → RoundsFit p r rounds → RunsLegally p r rounds
rounds_run_legally p r rounds sys fresh fit f =
    let x = rounds_are_legal p r rounds f sys fit in
    record { end = x.end; legal = x.legal; at_rest = λ none. rounds_at_rest p r rounds f sys fit fresh none }
