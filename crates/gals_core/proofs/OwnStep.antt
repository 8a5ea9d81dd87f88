-- A step of a domain as its cells show it.
use Rattle.std.proofs.Common.{◌≡◌, ℕ, zero, suc, ◌<◌, ◌≤◌, ℤ, false, List, [], ◌∷◌, ◌++◌, length, get_or, Option, Some, None, refl, sym, ap, ◌∙◌, subst, arith}
use Rattle.std.specs.Prelude.{IfSome, IsSomeAnd, max, ◌^◌}
use Rattle.std.proofs.lemmas.List.{length-append}
use Rattle.kernel_terms.specs.declared.system.System.{System}
use Rattle.kernel_terms.specs.Systems.{tables_of}
use Rattle.kernel_terms.specs.TableEntries.{channel_at}
use Rattle.kernel_rules.specs.definitions.LegalTick.{DomainState, Inputs, IsLegalTick}
use Rattle.tick_log.specs.definitions.RunText.{interface_signals}
use Rattle.tick_log.specs.definitions.Fits.{AreStatuses}
use Rattle.cell_core.specs.declared.moves.Side.{Side}
use Rattle.cell_core.specs.declared.moves.Side.TheVariants.{Sender, Receiver}
use Rattle.cell_core.specs.declared.moves.Joined.{Joined}
use Rattle.cell_core.specs.declared.cell.Standing.{Standing}
use Rattle.cell_core.specs.declared.cell.Standing.TheVariants.{Empty, Open, Taken}
use Rattle.cell_core.specs.definitions.Cells.{CellState, cell_of, other, standing_at, recall_reply, after_own_offer}
use Rattle.cell_core.specs.definitions.Ends.{Through}
use Rattle.domain_core.specs.declared.step.ends_of.EndOf.{EndOf}
use Rattle.domain_core.specs.declared.step.outcome.Stepped.{Stepped}
use Rattle.domain_core.specs.definitions.step.EndCalls.{end_at, stands_after, recalls, offers}
use Rattle.domain_core.specs.step.Answers.{raised, raised_by}
use Rattle.domain_core.specs.definitions.step.Domains.{DomainView, ends_of, ends_in, tables_in, tick_count_of, state_of}
use Rattle.domain_core.specs.definitions.step.Steps.{Waits, IsAsk, IsWaitingOffer, StandsAs, IsStep, TicksOnce, FitsJoin, add_joins}
use Rattle.domain_core.specs.step.Answers.{with_answers, next_stamp, newest_of}
use Rattle.domain_core.proofs.lemmas.step.StateAnswers.{length_joins, with_none}
use Rattle.domain_core.proofs.lemmas.step.AnswersFound.{answers_found}
use Rattle.domain_core.proofs.lemmas.step.StampAnswers.{all_raised, all_other, stamp_is_next}
use Rattle.domain_core.proofs.lemmas.runs.WellFormedSystems.{system_joins}
use Rattle.gals_core.specs.Channels.{ChannelsState, Moves, cell_in}
use Rattle.gals_core.specs.RunsOverCells.{IsInCells, own_side, pending, found_state, found_stamp}
use Rattle.domain_core.proofs.lemmas.step.StateJoins.{ends_apart}
use Rattle.gals_core.proofs.EndAnswerLemmas.{waited, waits_unanswered}
use Rattle.gals_core.proofs.CallEffects.{split, Recalled, Offered, all_recalled, all_offered, asked_cell}
use Rattle.gals_core.proofs.ChannelOffers.{pending_at, stands_so}

pub at_own : (v : DomainView) (system : System) (d : ℕ) → v.system ≡ system → v.domain ≡ d → (P : System → ℕ → Type 0) → P v.system v.domain → P system d
at_own v system d qs qd P h = subst (λ z. P system z) qd (subst (λ z. P z v.domain) qs h)

abbrev pub ends_at : System → ℕ → List EndOf
ends_at system d = ends_of (tables_of system) d

-- the step with the domain's system and number in place
pub record OwnStep (system : System) (inputs : Inputs) (d : ℕ) (old new : DomainView) (before after : ChannelsState) : Type 0 where
  pub answers : List (Option Joined)
  pub asks : List (Option ℤ)
  pub replies : List (Option Joined)
  pub stamp : ℕ
  pub statuses : List (Option ℤ)
  pub ticked : DomainState
  pub middle : ChannelsState
  pub recalled : Recalled (ends_at system d) answers (length (ends_at system d)) before middle
  pub offered : Offered (ends_at system d) asks stamp replies (length (ends_at system d)) middle after
  pub next : stamp ≡ next_stamp old.stamp (tick_count_of old) (add_joins (tick_count_of old) answers (length (ends_at system d)) old.joins)
  pub legal : IsLegalTick (tables_of system) inputs d (with_answers (ends_at system d) answers (length (ends_at system d)) (state_of old)) statuses ticked
  pub entries : new.log.entries ≡ old.log.entries ++ record { stamp = stamp; statuses = statuses } ∷ []
  pub limit : stamp < 2 ^ 62
  pub shows : AreStatuses (interface_signals (tables_of system) d) statuses
  pub signals : new.log.signals ≡ old.log.signals
  pub fit : (n : ℕ) → n < length (ends_at system d) → IfSome (get_or replies n None) (FitsJoin (channel_at (tables_of system) (end_at (ends_at system d) n).channel).kind stamp)
  pub runs : new.stopped ≡ false
  pub last_stamp : new.stamp ≡ stamp
  pub asked : (n : ℕ) → n < length (ends_at system d) → IsAsk (end_at (ends_at system d) n) ticked.statement (get_or asks n None)
  pub state : state_of new ≡ with_answers (ends_at system d) replies (length (ends_at system d)) ticked
  pub joins : new.joins ≡ add_joins (suc (tick_count_of old)) replies (length (ends_at system d)) (add_joins (tick_count_of old) answers (length (ends_at system d)) old.joins)
  pub standing : (n : ℕ) → n < length (ends_at system d) → get_or new.standing n false ≡ stands_after (get_or asks n None) (get_or replies n None)
  pub of_system : new.system ≡ system
  pub of_domain : new.domain ≡ d

pub own_step : (system : System) (inputs : Inputs) (d : ℕ) (old new : DomainView) (before after : ChannelsState) (result : Stepped) → IsInCells system d (cell_in before) old → before.ends ≡ ends_at system d →
    (i : IsStep Moves inputs before after old new result) → TicksOnce inputs old new i.answers i.replies i.asks i.stamp result → OwnStep system inputs d old new before after
own_step system inputs d old new before after result h own i k =
    let E = ends_at system d in
    let to : (Q : System → ℕ → Type 0) → Q old.system old.domain → Q system d = at_own old system d h.of_system h.of_domain in
    let alone = to (λ y x. (n : ℕ) → n < length (ends_of (tables_of y) x) → get_or old.standing n false ≡ false → get_or i.answers n None ≡ None) i.alone in
    let replied = to (λ y x. (n : ℕ) → n < length (ends_of (tables_of y) x) → get_or i.asks n None ≡ None → get_or i.replies n None ≡ None) k.replied in
    let through = to (λ y x.
    Through Moves before
    (recalls (ends_of (tables_of y) x) old.standing i.answers (length (ends_of (tables_of y) x)) ++ offers (ends_of (tables_of y) x) i.asks i.stamp i.replies (length (ends_of (tables_of y) x))) after) i.through in
    let x = split Moves before (recalls E old.standing i.answers (length E)) (offers E i.asks i.stamp i.replies (length E)) after through in
    let r = all_recalled E old.standing i.answers (length E) before x.middle (ends_apart (tables_of system) d) (omega arith) own (stands_so system d (cell_in before) old h) alone x.before in
    record {
      answers = i.answers;
      asks = i.asks;
      replies = i.replies;
      stamp = i.stamp;
      statuses = k.statuses;
      ticked = k.after;
      middle = x.middle;
      recalled = r;
      offered = all_offered E i.asks i.stamp i.replies (length E) x.middle after (ends_apart (tables_of system) d) (omega arith) (r.own ∙ own) replied x.after;
      next = to (λ y x. i.stamp ≡ next_stamp old.stamp (tick_count_of old) (add_joins (tick_count_of old) i.answers (length (ends_of (tables_of y) x)) old.joins)) (stamp_is_next old.stamp (tick_count_of old) (add_joins (tick_count_of old) i.answers (length (ends_in old)) old.joins) i.stamp i.next);
      legal = to (λ y x. IsLegalTick (tables_of y) inputs x (with_answers (ends_of (tables_of y) x) i.answers (length (ends_of (tables_of y) x)) (state_of old)) k.statuses k.after)
          (subst (λ s. IsLegalTick (tables_in old) inputs old.domain s k.statuses k.after) (sym (answers_found (tables_in old) old.domain (system_joins old.system inputs).apart i.answers (state_of old))) k.legal);
      entries = ap (λ z. z.entries) k.log;
      limit = k.limit;
      shows = to (λ y x. AreStatuses (interface_signals (tables_of y) x) k.statuses) k.shows;
      signals = ap (λ z. z.signals) k.log;
      fit = to (λ y x. (n : ℕ) → n < length (ends_of (tables_of y) x) → IfSome (get_or i.replies n None) (FitsJoin (channel_at (tables_of y) (end_at (ends_of (tables_of y) x) n).channel).kind i.stamp)) k.fit;
      runs = k.going;
      last_stamp = k.last_stamp;
      asked = to (λ y x. (n : ℕ) → n < length (ends_of (tables_of y) x) → IsAsk (end_at (ends_of (tables_of y) x) n) k.after.statement (get_or i.asks n None)) k.asked;
      state = to (λ y x. state_of new ≡ with_answers (ends_of (tables_of y) x) i.replies (length (ends_of (tables_of y) x)) k.after) (k.state ∙ sym (answers_found (tables_in old) old.domain (system_joins old.system inputs).apart i.replies k.after));
      joins = to (λ y x. new.joins ≡ add_joins (suc (tick_count_of old)) i.replies (length (ends_of (tables_of y) x)) (add_joins (tick_count_of old) i.answers (length (ends_of (tables_of y) x)) old.joins)) k.joins;
      standing = to (λ y x. (n : ℕ) → n < length (ends_of (tables_of y) x) → get_or new.standing n false ≡ stands_after (get_or i.asks n None) (get_or i.replies n None)) k.standing;
      of_system = i.system ∙ h.of_system;
      of_domain = i.domain ∙ h.of_domain;
    }

-- an own side after the offers is not taken
own_free : (a : Side) (ask : Option ℤ) (stamp : ℕ) (o : Standing) (c : CellState) → c ≡ asked_cell a ask stamp (cell_of a Empty o) → recall_reply (standing_at a c) ≡ None
own_free Sender None stamp o c h = ap (λ z. recall_reply z.sender) h
own_free Receiver None stamp o c h = ap (λ z. recall_reply z.receiver) h
own_free Sender (Some v) stamp o c h = ap (λ z. recall_reply z.sender) h ∙ by_other o
  where
    by_other : (o : Standing) → recall_reply (after_own_offer v stamp o) ≡ None
    by_other Empty = refl
    by_other (Open w t) = refl
    by_other (Taken j) = refl
own_free Receiver (Some v) stamp o c h = ap (λ z. recall_reply z.receiver) h ∙ by_other o
  where
    by_other : (o : Standing) → recall_reply (after_own_offer v stamp o) ≡ None
    by_other Empty = refl
    by_other (Open w t) = refl
    by_other (Taken j) = refl

pub raised_none : (a : List (Option Joined)) (n x : ℕ) → ((k : ℕ) → k < n → get_or a k None ≡ None) → raised a n x ≡ x
raised_none a zero x h = refl
raised_none a (suc n) x h = ap (λ z. raised_by z (raised a n x)) (h n (omega arith)) ∙ raised_none a n x (λ k l. h k (omega (arith, l)))

-- the domain after its step
pub record After (system : System) (d : ℕ) (new : DomainView) (after : ChannelsState) (ticked : DomainState) (replies : List (Option Joined)) (stamp : ℕ) : Type 0 where
  pub in_cells : IsInCells system d (cell_in after) new
  pub state : with_answers (ends_at system d) replies (length (ends_at system d)) ticked ≡ found_state system d (cell_in after) new
  pub since : raised replies (length (ends_at system d)) stamp ≡ found_stamp system d (cell_in after) new

pub after_step : (system : System) (inputs : Inputs) (d : ℕ) (old new : DomainView) (before after : ChannelsState) → IsInCells system d (cell_in before) old → (x : OwnStep system inputs d old new before after) →
    ((n : ℕ) → n < length (ends_in new) → StandsAs new n (own_side (cell_in after) (end_at (ends_in new) n))) → After system d new after x.ticked x.replies x.stamp
after_step system inputs d old new before after h x leaves =
    let E = ends_at system d in
    let n = length E in
    let t = tick_count_of old in
    let joins1 = add_joins t x.answers n old.joins in
    let count : tick_count_of new ≡ suc t = ap length x.entries ∙ length-append old.log.entries (record { stamp = x.stamp; statuses = x.statuses } ∷ []) ∙ omega arith in
    let len1 = length_joins t x.answers n old.joins in
    let len2 = length_joins (suc t) x.replies n joins1 in
    let lists = h.lists in
    let within1 : n ≤ length old.joins = omega (arith, lists) in
    let within2 : n ≤ length joins1 = omega (arith, lists, len1) in
    let newest_after : (u : ℕ) → suc t < u → newest_of u new.joins ≡ 0 = λ u l.
    ap (newest_of u) x.joins ∙ all_other (suc t) u x.replies n joins1 within2 (λ q. omega (arith, l, q)) ∙ all_other t u x.answers n old.joins within1 (λ q. omega (arith, l, q)) ∙ h.later u (omega (arith, l)) in
    let stand = at_own new system d x.of_system x.of_domain
    (λ y z. (k : ℕ) → k < length (ends_of (tables_of y) z) → StandsAs new k (own_side (cell_in after) (end_at (ends_of (tables_of y) z) k))) leaves in
    let same_ends : ends_in new ≡ E = at_own new system d x.of_system x.of_domain (λ y z. ends_in new ≡ ends_of (tables_of y) z) refl in
    let none : (k : ℕ) → k < n → get_or (pending (cell_in after) E) k None ≡ None = λ k l.
    let e = end_at E k in
    pending_at (cell_in after) E k l
    ∙ own_free e.side (get_or x.asks k None) x.stamp (standing_at (other e.side) (cell_in before e.channel)) (cell_in after e.channel)
    ((x.offered.passed k l).cell ∙ ap (asked_cell e.side (get_or x.asks k None) x.stamp) (x.recalled.passed k l).cell) in
    record {
      in_cells = record {
        of_system = x.of_system;
        of_domain = x.of_domain;
        runs = x.runs;
        lists = ap length x.joins ∙ len2 ∙ len1 ∙ lists;
        later = λ u l. newest_after u (omega (arith, l, count));
        stands = λ k l q. subst (λ z. IsSomeAnd (own_side (cell_in after) (end_at E k)) (IsWaitingOffer (end_at z k) new.stamp (state_of new).statement)) same_ends ((stand k l).stands q);
        free = λ k l q. (stand k l).free q;
        idle = λ k l q value w.
            let there : Waits (end_at E k) value (with_answers E x.replies n x.ticked).statement = subst (λ z. Waits (end_at E k) value z.statement) x.state w in
            not_asked (end_at E k) (get_or x.asks k None) (get_or x.replies k None) x.ticked value (x.asked k l) (waited E x.replies n x.ticked (end_at E k) value there)
            (waits_unanswered E x.replies n k x.ticked value l there) (sym (x.standing k l) ∙ q);
      };
      state = sym x.state ∙ sym (with_none E (pending (cell_in after) E) n (state_of new) none);
      since =
          let top : max x.stamp (newest_of (suc t) joins1) ≡ x.stamp = omega (arith, all_other t (suc t) x.answers n old.joins within1 (λ q. omega (arith, q)), h.later (suc t) (omega arith)) in
          let all : max new.stamp (newest_of (tick_count_of new) new.joins) ≡ raised x.replies n x.stamp =
          ap (λ z. max z (newest_of (tick_count_of new) new.joins)) x.last_stamp
          ∙ ap (λ z. max x.stamp (newest_of z new.joins)) count
          ∙ ap (λ z. max x.stamp (newest_of (suc t) z)) x.joins
          ∙ all_raised (suc t) x.stamp x.replies n joins1 within2
          ∙ ap (raised x.replies n) top in
          sym (raised_none (pending (cell_in after) E) n (max new.stamp (newest_of (tick_count_of new) new.joins)) none ∙ all);
    }
  where
    not_asked : (e : EndOf) (ask : Option ℤ) (reply : Option Joined) (s : DomainState) (value : ℤ) → IsAsk e s.statement ask → Waits e value s.statement → reply ≡ None → stands_after ask reply ≡ false → ⊥
    not_asked e None reply s value asked w none st = asked value w
    not_asked e (Some v) None s value asked w none st = absurd cc
    not_asked e (Some v) (Some j) s value asked w none st = absurd cc
