-- The two ends of a channel, of which one makes an offer.
use Rattle.std.proofs.Common.{◌≡◌, ◌≢◌, ℕ, suc, ◌<◌, ℤ, pos, true, false, length, get_or, Some, None, refl, sym, ap, ◌∙◌, subst, inl, inr, ◌⊎◌, arith}
use Rattle.std.specs.Prelude.{IsNone, IsSomeAnd, max}
use Rattle.std.proofs.lemmas.Bool.{cases_eq}
use Rattle.kernel_terms.specs.declared.system.System.{System}
use Rattle.kernel_terms.specs.Systems.{tables_of}
use Rattle.kernel_terms.specs.TableEntries.{channel_at}
use Rattle.kernel_rules.specs.definitions.Signals.{put_at}
use Rattle.kernel_rules.specs.definitions.LegalTick.{DomainState, Inputs}
use Rattle.cell_core.specs.declared.moves.Side.{Side}
use Rattle.cell_core.specs.declared.moves.Side.TheVariants.{Sender, Receiver}
use Rattle.cell_core.specs.declared.moves.Joined.{Joined}
use Rattle.cell_core.specs.declared.cell.Standing.TheVariants.{Open, Taken}
use Rattle.cell_core.specs.definitions.Cells.{CellState, other, standing_at, stands, recall_reply, join_of, sent_value}
use Rattle.cell_core.specs.CellEnds.{standing_offer, offered, offered_value}
use Rattle.cell_core.specs.definitions.Ends.{IsOwnValue}
use Rattle.domain_core.specs.definitions.step.EndCalls.{end_at}
use Rattle.domain_core.specs.definitions.step.Domains.{DomainView, ends_of, state_of, tick_count_of}
use Rattle.domain_core.specs.definitions.step.Steps.{Waits, WaitsAs, IsWaitingOffer}
use Rattle.domain_core.specs.definitions.runs.Stamps.{stamp_of_join}
use Rattle.domain_core.specs.step.Answers.{side_done, end_done, newest_of}
use Rattle.domain_core.specs.definitions.runs.Systems.{BothWait, Setup, SystemState, IsSystem, WaitsToSend, with_found, only, sender_of, receiver_of, domain_count, channel_count, setup_of}
use Rattle.domain_core.specs.runs.StampsByStep.{stamp_by_step}
use Rattle.domain_core.specs.runs.StampsByStep as scheduled
use Rattle.domain_core.proofs.lemmas.runs.StatesBetweenTicks.{put_here, put_apart}
use Rattle.domain_core.proofs.lemmas.step.AnswersFound.{one_sent, one_got}
use Rattle.gals_core.specs.RunsOverCells.{domain_at, IsInCells, own_side, pending, found_state, found_stamp}
use Rattle.domain_core.proofs.lemmas.step.StateJoins.{ends_apart}
use Rattle.domain_core.proofs.lemmas.step.OwnEnds.{IsOwn, EndAt, has_side}
use Rattle.gals_core.proofs.EndAnswerLemmas.{OneMore, answers_same, raised_same, answers_more, raised_more, still_waits}
use Rattle.gals_core.proofs.ChannelOffers.{pending_at, stands_so}

-- the sides of a channel are two different domains
pub own_of : (system : System) (inputs : Inputs) (c : ℕ) → IsSystem (setup_of system inputs) → c < channel_count (setup_of system inputs) → (b : Side) → IsOwn (domain_at (tables_of system) b c) b (channel_at (tables_of system) c)
own_of system inputs c sys less Sender = refl
own_of system inputs c sys less Receiver = (sys.apart c less, refl)

pub is_domain : (system : System) (inputs : Inputs) (c : ℕ) → IsSystem (setup_of system inputs) → c < channel_count (setup_of system inputs) → (b : Side) → domain_at (tables_of system) b c < domain_count (setup_of system inputs)
is_domain system inputs c sys less Sender = sys.sender c less
is_domain system inputs c sys less Receiver = sys.receiver c less

pub across : (system : System) (inputs : Inputs) (c : ℕ) → IsSystem (setup_of system inputs) → c < channel_count (setup_of system inputs) → (b : Side) → domain_at (tables_of system) (other b) c ≢ domain_at (tables_of system) b c
across system inputs c sys less Sender = λ q. sys.apart c less (sym q)
across system inputs c sys less Receiver = sys.apart c less

-- one of the two sides
pub two_sides : (a b : Side) → (b ≡ a) ⊎ (b ≡ other a)
two_sides Sender Sender = inl refl
two_sides Sender Receiver = inr refl
two_sides Receiver Sender = inr refl
two_sides Receiver Receiver = inl refl

-- what is found depends on the domain's own sides alone
pub found_same : (system : System) (e : ℕ) (cell new : ℕ → CellState) (v : DomainView) →
    ((k : ℕ) → k < length (ends_of (tables_of system) e) → standing_at (end_at (ends_of (tables_of system) e) k).side (new (end_at (ends_of (tables_of system) e) k).channel) ≡ standing_at (end_at (ends_of (tables_of system) e) k).side (cell (end_at (ends_of (tables_of system) e) k).channel)) →
    (found_state system e new v ≡ found_state system e cell v) × (found_stamp system e new v ≡ found_stamp system e cell v)
found_same system e cell new v h =
    let ends = ends_of (tables_of system) e in
    let same : (k : ℕ) → k < length ends → get_or (pending new ends) k None ≡ get_or (pending cell ends) k None = λ k l. pending_at new ends k l ∙ ap recall_reply (h k l) ∙ sym (pending_at cell ends k l) in (
      answers_same ends (pending new ends) (pending cell ends) (length ends) (state_of v) same,
      raised_same (pending new ends) (pending cell ends) (length ends) (max v.stamp (newest_of (tick_count_of v) v.joins)) same,
    )

pub in_cells_same : (system : System) (e : ℕ) (cell new : ℕ → CellState) (v : DomainView) →
    ((k : ℕ) → k < length (ends_of (tables_of system) e) → own_side new (end_at (ends_of (tables_of system) e) k) ≡ own_side cell (end_at (ends_of (tables_of system) e) k)) →
    IsInCells system e cell v → IsInCells system e new v
in_cells_same system e cell new v same h = record {
  of_system = h.of_system;
  of_domain = h.of_domain;
  runs = h.runs;
  lists = h.lists;
  later = h.later;
  stands = λ n l q. subst (λ z. IsSomeAnd z (IsWaitingOffer (end_at (ends_of (tables_of system) e) n) v.stamp (state_of v).statement)) (sym (same n l)) (h.stands n l q);
  free = λ n l q. subst IsNone (sym (same n l)) (h.free n l q);
  idle = h.idle;
}

-- the open side of a channel, at its own domain
pub record Faces (system : System) (b : Side) (c : ℕ) (cell : ℕ → CellState) (w : ℤ) (t : ℕ) (v : DomainView) : Type 0 where
  pub end : EndAt (ends_of (tables_of system) (domain_at (tables_of system) b c)) (record { channel = c; side = b })
  pub none : get_or (pending cell (ends_of (tables_of system) (domain_at (tables_of system) b c))) end.place None ≡ None
  pub value : ℤ
  pub waits : WaitsAs b c value (found_state system (domain_at (tables_of system) b c) cell v).statement
  pub own_value : IsOwnValue b value (offered_value b w)
  pub stamp : t ≡ v.stamp

pub faces : (system : System) (inputs : Inputs) (b : Side) (c : ℕ) (cell : ℕ → CellState) (w : ℤ) (t : ℕ) (v : DomainView) → IsSystem (setup_of system inputs) → c < channel_count (setup_of system inputs) →
    IsInCells system (domain_at (tables_of system) b c) cell v → standing_at b (cell c) ≡ Open w t → Faces system b c cell w t v
faces system inputs b c cell w t v sys less h open_is =
    let e = domain_at (tables_of system) b c in
    let ends = ends_of (tables_of system) e in
    let x = has_side (tables_of system) e c b less (own_of system inputs c sys less b) in
    let here : standing_at (end_at ends x.place).side (cell (end_at ends x.place).channel) ≡ Open w t = ap (λ z. standing_at z.side (cell z.channel)) x.is ∙ open_is in
    let no : get_or (pending cell ends) x.place None ≡ None = pending_at cell ends x.place x.within ∙ ap recall_reply here in
    let st : get_or v.standing x.place false ≡ true = stands_so system e cell v h x.place x.within ∙ ap stands here in
    let offer : own_side cell (end_at ends x.place) ≡ Some (offered b w t) = ap (own_side cell) x.is ∙ ap (standing_offer b) open_is in
    let o : IsWaitingOffer (end_at ends x.place) v.stamp (state_of v).statement (offered b w t) =
    subst (λ z. IsSomeAnd z (IsWaitingOffer (end_at ends x.place) v.stamp (state_of v).statement)) offer (h.stands x.place x.within st) in
    let waits_there : Waits (end_at ends x.place) o.value (found_state system e cell v).statement =
    still_waits ends (pending cell ends) (length ends) (state_of v) (end_at ends x.place) o.value
    (λ k l. elim (cases_eq k x.place) [ inl q ↦ inr (ap (λ z. get_or (pending cell ends) z None) q ∙ no) | inr ne ↦ inl (ends_apart (tables_of system) e k x.place l x.within ne) ]) o.waits in
    record {
      end = x;
      none = no;
      value = o.value;
      waits = subst (λ z. Waits z o.value (found_state system e cell v).statement) x.is waits_there;
      own_value = subst (λ z. IsOwnValue z o.value (offered_value b w)) (ap (λ z. z.side) x.is) o.is_offer.own_value;
      stamp = o.is_offer.same_stamp;
    }

-- a side that is taken now
pub taken_more : (system : System) (b : Side) (c : ℕ) (cell new : ℕ → CellState) (w : ℤ) (t : ℕ) (j : Joined) (v : DomainView) → Faces system b c cell w t v →
    ((k : ℕ) → k ≢ c → new k ≡ cell k) → standing_at b (new c) ≡ Taken j →
    (found_state system (domain_at (tables_of system) b c) new v ≡ side_done b c j.value (found_state system (domain_at (tables_of system) b c) cell v)) ×
    (found_stamp system (domain_at (tables_of system) b c) new v ≡ max (found_stamp system (domain_at (tables_of system) b c) cell v) (stamp_of_join j))
taken_more system b c cell new w t j v f elsewhere taken =
    let e = domain_at (tables_of system) b c in
    let ends = ends_of (tables_of system) e in
    let x = f.end in
    let at : (end_at ends x.place).channel ≡ c = ap (λ z. z.channel) x.is in
    let here : standing_at (end_at ends x.place).side (new (end_at ends x.place).channel) ≡ Taken j = ap (λ z. standing_at z.side (new z.channel)) x.is ∙ taken in
    let far : (k : ℕ) → k < length ends → k ≢ x.place → (end_at ends k).channel ≢ (end_at ends x.place).channel = λ k l ne. ends_apart (tables_of system) e k x.place l x.within ne in
    let more : OneMore (pending cell ends) (pending new ends) x.place (length ends) j = record {
      others = λ k l ne.
          pending_at new ends k l
          ∙ ap (λ z. recall_reply (standing_at (end_at ends k).side z)) (elsewhere (end_at ends k).channel (λ q. far k l ne (q ∙ sym at)))
          ∙ sym (pending_at cell ends k l);
      old = f.none;
      new = pending_at new ends x.place x.within ∙ ap recall_reply here;
    } in (
      answers_more ends (pending cell ends) (pending new ends) x.place (length ends) j (state_of v) more far x.within
          ∙ ap (λ z. end_done z (Some j) (found_state system e cell v)) x.is,
      raised_more (pending cell ends) (pending new ends) x.place (length ends) (max v.stamp (newest_of (tick_count_of v) v.joins)) j more x.within,
    )

-- the domain with the join of a channel
abbrev pub with_join : Setup → ℕ → ℤ → (ℕ → DomainState) → ℕ → DomainState
with_join p c v domain d = with_found p.tables d (only c v) (domain d)

-- the two domains of a join, and any other
abbrev pub joined_domains : Setup → ℕ → ℤ → (ℕ → DomainState) → ℕ → DomainState
joined_domains p c v domain = put_at (put_at domain (sender_of p c) (with_join p c v domain (sender_of p c))) (receiver_of p c) (with_join p c v domain (receiver_of p c))

pub joined_side : (system : System) (inputs : Inputs) (c : ℕ) (v : ℤ) (domain : ℕ → DomainState) → IsSystem (setup_of system inputs) → c < channel_count (setup_of system inputs) → (b : Side) →
    joined_domains (setup_of system inputs) c v domain (domain_at (tables_of system) b c) ≡ side_done b c v (domain (domain_at (tables_of system) b c))
joined_side system inputs c v domain sys less Sender =
    let p = setup_of system inputs in
    let d = sender_of p c in
    let mid = put_at domain d (with_join p c v domain d) in
    put_apart mid (receiver_of p c) (with_join p c v domain (receiver_of p c)) d (sys.apart c less)
    ∙ put_here domain d (with_join p c v domain d)
    ∙ sym (one_sent (tables_of system) d sys.apart (domain d) c v less refl)
joined_side system inputs c v domain sys less Receiver =
    let p = setup_of system inputs in
    let d = receiver_of p c in
    put_here (put_at domain (sender_of p c) (with_join p c v domain (sender_of p c))) d (with_join p c v domain d)
    ∙ sym (one_got (tables_of system) d sys.apart (domain d) c v (sys.apart c less) refl)

pub joined_other : (system : System) (inputs : Inputs) (c : ℕ) (v : ℤ) (domain : ℕ → DomainState) (x : ℕ) → x ≢ domain_at (tables_of system) Sender c → x ≢ domain_at (tables_of system) Receiver c →
    joined_domains (setup_of system inputs) c v domain x ≡ domain x
joined_other system inputs c v domain x ns nr =
    let p = setup_of system inputs in
    put_apart (put_at domain (sender_of p c) (with_join p c v domain (sender_of p c))) (receiver_of p c) (with_join p c v domain (receiver_of p c)) x nr
    ∙ put_apart domain (sender_of p c) (with_join p c v domain (sender_of p c)) x ns

abbrev pub raised_two : Setup → ℕ → ℕ → (ℕ → ℕ) → ℕ → ℕ
raised_two p c s f = scheduled.raised_at (scheduled.raised_at f (sender_of p c) s) (receiver_of p c) s

pub raised_side : (system : System) (inputs : Inputs) (c s : ℕ) (f : ℕ → ℕ) → IsSystem (setup_of system inputs) → c < channel_count (setup_of system inputs) → (b : Side) →
    raised_two (setup_of system inputs) c s f (domain_at (tables_of system) b c) ≡ max (f (domain_at (tables_of system) b c)) s
raised_side system inputs c s f sys less Sender =
    let p = setup_of system inputs in
    let mid = scheduled.raised_at f (sender_of p c) s in
    put_apart mid (receiver_of p c) (max (mid (receiver_of p c)) s) (sender_of p c) (sys.apart c less) ∙ put_here f (sender_of p c) (max (f (sender_of p c)) s)
raised_side system inputs c s f sys less Receiver =
    let p = setup_of system inputs in
    let mid = scheduled.raised_at f (sender_of p c) s in
    put_here mid (receiver_of p c) (max (mid (receiver_of p c)) s) ∙ ap (λ z. max z s) (put_apart f (sender_of p c) (max (f (sender_of p c)) s) (receiver_of p c) (λ q. sys.apart c less (sym q)))

pub raised_other : (system : System) (inputs : Inputs) (c s : ℕ) (f : ℕ → ℕ) (x : ℕ) → x ≢ domain_at (tables_of system) Sender c → x ≢ domain_at (tables_of system) Receiver c → raised_two (setup_of system inputs) c s f x ≡ f x
raised_other system inputs c s f x ns nr =
    let p = setup_of system inputs in
    let mid = scheduled.raised_at f (sender_of p c) s in
    put_apart mid (receiver_of p c) (max (mid (receiver_of p c)) s) x nr ∙ put_apart f (sender_of p c) (max (f (sender_of p c)) s) x ns

-- both ends wait where each does
pub side_waits : (system : System) (inputs : Inputs) (s : SystemState) (c : ℕ) (v : ℤ) → BothWait (setup_of system inputs) s c v → (b : Side) → (value : ℤ) × WaitsAs b c value (s.domain (domain_at (tables_of system) b c)).statement
side_waits system inputs s c v h Sender = (v, h.sends)
side_waits system inputs s c v h Receiver = (pos 0, (h.receives, refl))

-- what the sides say of a join, seen from one of them
pub sends_joined : (system : System) (inputs : Inputs) (s : SystemState) (c : ℕ) (a : Side) (mine theirs value : ℤ) → WaitsAs a c mine (s.domain (domain_at (tables_of system) a c)).statement →
    WaitsAs (other a) c value (s.domain (domain_at (tables_of system) (other a) c)).statement → IsOwnValue (other a) value (offered_value (other a) theirs) →
    BothWait (setup_of system inputs) s c (sent_value a mine theirs)
sends_joined system inputs s c Sender mine theirs value h k o = record { sends = h; receives = k.0 }
sends_joined system inputs s c Receiver mine theirs value h k o = record { sends = subst (λ z. WaitsToSend c z (s.domain (sender_of (setup_of system inputs) c)).statement) (sym o) k; receives = h.0 }

pub other_value : (a : Side) (mine theirs : ℤ) (s t : ℕ) → (join_of (other a) theirs t mine s).value ≡ sent_value a mine theirs
other_value Sender mine theirs s t = refl
other_value Receiver mine theirs s t = refl

pub join_stamps : (system : System) (inputs : Inputs) (c : ℕ) (a : Side) (last : ℕ → ℕ) (s t : ℕ) → last (domain_at (tables_of system) a c) ≡ s → last (domain_at (tables_of system) (other a) c) ≡ t →
    stamp_by_step (setup_of system inputs) last c ≡ suc (max s t)
join_stamps system inputs c Sender last s t h k = omega (arith, h, k)
join_stamps system inputs c Receiver last s t h k = omega (arith, h, k)

pub offer_kept : (b : Side) (w v : ℤ) (s t : ℕ) → standing_offer b (Taken (join_of b w t v s)) ≡ standing_offer b (Open w t)
offer_kept Sender w v s t = refl
offer_kept Receiver w v s t = refl
