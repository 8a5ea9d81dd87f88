-- The joins of a turn, channel by channel.
use Rattle.std.proofs.Common.{◌≡◌, ◌≢◌, ℕ, suc, ◌+◌, ◌<◌, ◌≤◌, ℤ, pos, List, [], ◌∷◌, ◌++◌, length, get_or, Option, None, refl, sym, ap, ◌∙◌, subst, inl, inr, ◌⊎◌, arith}
use Rattle.std.specs.Prelude.{max, slice_index_or}
use Rattle.std.proofs.lemmas.Bool.{cases_eq}
use Rattle.std.proofs.lemmas.List.{length-append, append_assoc}
use Rattle.std.proofs.Math.Seq.{get_or-append_seam}
use Rattle.kernel_terms.specs.declared.system.System.{System}
use Rattle.kernel_terms.specs.Systems.{tables_of}
use Rattle.kernel_terms.specs.TableEntries.{channel_at}
use Rattle.kernel_rules.specs.definitions.Signals.{put_at}
use Rattle.kernel_rules.specs.definitions.LegalTick.{DomainState, Inputs}
use Rattle.tick_log.specs.declared.history.JoinRow.{JoinRow}
use Rattle.tick_log.specs.definitions.Runs.{Entry, RunState, history_of, join_of, join_count}
use Rattle.cell_core.specs.declared.moves.Side.{Side}
use Rattle.cell_core.specs.declared.moves.Side.TheVariants.{Sender, Receiver}
use Rattle.cell_core.specs.declared.moves.Joined.{Joined}
use Rattle.cell_core.specs.declared.cell.Standing.TheVariants.{Open, Taken}
use Rattle.cell_core.specs.definitions.Cells as cells
use Rattle.cell_core.specs.definitions.Cells.{CellState, other, standing_at, sent_value}
use Rattle.cell_core.specs.CellEnds.{standing_offer}
use Rattle.domain_core.specs.definitions.step.EndCalls.{end_at}
use Rattle.domain_core.specs.step.Answers.{raised, raised_by}
use Rattle.domain_core.specs.definitions.step.Domains.{DomainView, ends_of, state_of, tick_count_of}
use Rattle.domain_core.specs.definitions.step.Steps.{Waits, WaitsAs, IsAsk}
use Rattle.domain_core.specs.definitions.runs.Stamps.{stamp_of_join}
use Rattle.domain_core.specs.step.Answers.{with_answers, end_done, side_done}
use Rattle.domain_core.specs.definitions.runs.Systems.{BothWait, SystemState, JoinRecord, Move, MakesJoin, JoinStep, IsSystem, sender_of, receiver_of, domain_count, channel_count, setup_of}
use Rattle.domain_core.specs.definitions.runs.LegalRuns.{record_of}
use Rattle.domain_core.specs.definitions.runs.Scheduled.{JoinsInTurn, TakesTurns, TellsFrom, IsScheduledRun}
use Rattle.domain_core.specs.runs.StampsByStep.{StampsFrom, stamp_by_step}
use Rattle.domain_core.proofs.lemmas.runs.StatesBetweenTicks.{put_here, put_apart, put_cases}
use Rattle.gals_core.specs.Channels.{ChannelsState, cell_in, history_in, ticks_in, link_at, row_in}
use Rattle.gals_core.specs.RunsOverCells.{domain_at, IsInCells, own_side, found_state, found_stamp, RunBeginsWith, EndsIn}
use Rattle.domain_core.proofs.lemmas.step.OwnEnds.{own_end, rises}
use Rattle.gals_core.proofs.OwnDomains.{domain_is}
use Rattle.gals_core.proofs.EndAnswerLemmas.{still_waits, answers_ticks}
use Rattle.gals_core.proofs.CallEffects.{Offered}
use Rattle.gals_core.proofs.ChannelOffers.{Meets}
use Rattle.gals_core.proofs.FacingEnds.{is_domain, across, two_sides, found_same, in_cells_same, faces, taken_more, joined_domains, joined_side, joined_other, raised_two, raised_side, raised_other, sends_joined, other_value, join_stamps, offer_kept}

-- the turn of a domain after its tick: what its offers did
pub record TurnOf (system : System) (inputs : Inputs) (d : ℕ) (view : ℕ → DomainView) (old new : ChannelsState) (after : DomainState) (asks : List (Option ℤ)) (replies : List (Option Joined)) (stamp : ℕ) : Type 0 where
  pub within : d < domain_count (setup_of system inputs)
  pub sys : IsSystem (setup_of system inputs)
  pub links : (c : ℕ) → c < channel_count (setup_of system inputs) → ((link_at old.links c).sender ≡ (channel_at (tables_of system) c).sender) × ((link_at old.links c).receiver ≡ (channel_at (tables_of system) c).receiver)
  pub my_ticks : ticks_in old d ≡ after.ticks
  pub their_ticks : (e : ℕ) → e < domain_count (setup_of system inputs) → e ≢ d → ticks_in old e ≡ tick_count_of (view e)
  pub offered : Offered (ends_of (tables_of system) d) asks stamp replies (length (ends_of (tables_of system) d)) old new
  pub asked : (n : ℕ) → n < length (ends_of (tables_of system) d) → IsAsk (end_at (ends_of (tables_of system) d) n) after.statement (get_or asks n None)

-- the channels below c are done, and with them the first n ends; `left` channels are to come
pub record Stage (system : System) (inputs : Inputs) (turns rest : List ℕ) (d : ℕ) (view : ℕ → DomainView) (old new : ChannelsState) (after : DomainState) (replies : List (Option Joined)) (stamp : ℕ) (entries : ℕ → List Entry) (top c n left : ℕ) : Type 0 where
  pub s : SystemState
  pub t : ℕ → ℕ
  pub j : ℕ → ℕ
  pub last : ℕ → ℕ
  pub since : ℕ → ℕ
  pub cell : ℕ → CellState
  pub rows : ℕ → List JoinRow
  pub sum : c + left ≡ channel_count (setup_of system inputs)
  pub ends_within : n ≤ length (ends_of (tables_of system) d)
  pub before : (k : ℕ) → k < n → (end_at (ends_of (tables_of system) d) k).channel < c
  pub beyond : (k : ℕ) → n ≤ k → k < length (ends_of (tables_of system) d) → c ≤ (end_at (ends_of (tables_of system) d) k).channel
  pub cells_done : (k : ℕ) → k < c → cell k ≡ cell_in new k
  pub cells_left : (k : ℕ) → c ≤ k → cell k ≡ cell_in old k
  pub rows_done : (k : ℕ) → k < c → rows k ≡ (history_in new k).rows
  pub rows_left : (k : ℕ) → c ≤ k → rows k ≡ (history_in old k).rows
  pub others : (e : ℕ) → e < domain_count (setup_of system inputs) → e ≢ d → IsInCells system e cell (view e)
  pub mine : s.domain d ≡ with_answers (ends_of (tables_of system) d) replies n after
  pub theirs : (e : ℕ) → e < domain_count (setup_of system inputs) → e ≢ d → s.domain e ≡ found_state system e cell (view e)
  pub t_is : (e : ℕ) → t e ≡ length (entries e)
  pub j_is : (k : ℕ) → j k ≡ length (rows k)
  pub last_mine : last d ≡ stamp
  pub last_theirs : (e : ℕ) → e < domain_count (setup_of system inputs) → e ≢ d → last e ≡ (view e).stamp
  pub since_mine : since d ≡ raised replies n stamp
  pub since_theirs : (e : ℕ) → e < domain_count (setup_of system inputs) → e ≢ d → since e ≡ found_stamp system e cell (view e)
  pub low_last : (e : ℕ) → e < domain_count (setup_of system inputs) → last e ≤ suc top
  pub low_since : (e : ℕ) → e < domain_count (setup_of system inputs) → since e ≤ suc (suc top)
  pub completes : (r : RunState) (joins : List Move) (mid : SystemState) (moves : List Move) (end : SystemState) → RunBeginsWith r entries rows → JoinsInTurn (setup_of system inputs) d c left s joins mid →
      TakesTurns (setup_of system inputs) mid rest moves end → TellsFrom r t j (joins ++ moves) → StampsFrom (setup_of system inputs) r t j last since (joins ++ moves) → EndsIn (setup_of system inputs) r end →
      IsScheduledRun (setup_of system inputs) r turns end

-- where the rows are the same
pub begins_same : (r : RunState) (entries : ℕ → List Entry) (rows new : ℕ → List JoinRow) → ((c : ℕ) → new c ≡ rows c) → RunBeginsWith r entries new → RunBeginsWith r entries rows
begins_same r entries rows new h b = record {
  more_entries = b.more_entries;
  more_rows = b.more_rows;
  logs = b.logs;
  histories = λ c. b.histories c ∙ ap (λ z. z ++ b.more_rows c) (h c);
}

-- and where they are fewer
begins_fewer : (r : RunState) (entries : ℕ → List Entry) (rows : ℕ → List JoinRow) (c : ℕ) (row : JoinRow) → RunBeginsWith r entries (put_at rows c (rows c ++ row ∷ [])) → RunBeginsWith r entries rows
begins_fewer r entries rows c row b = record {
  more_entries = b.more_entries;
  more_rows = put_at b.more_rows c (row ∷ b.more_rows c);
  logs = b.logs;
  histories = λ k. elim (put_cases rows c (rows c ++ row ∷ []) k) [
    | inl (e, q) ↦
        let P : ℕ → Type 0 = λ z. history_of r z ≡ rows z ++ put_at b.more_rows c (row ∷ b.more_rows c) z in
        subst P (sym e)
        (b.histories c ∙ ap (λ z. z ++ b.more_rows c) (put_here rows c (rows c ++ row ∷ [])) ∙ append_assoc (rows c) (row ∷ []) (b.more_rows c)
        ∙ ap (λ z. rows c ++ z) (sym (put_here b.more_rows c (row ∷ b.more_rows c))))
    | inr (ne, q) ↦ b.histories k ∙ ap (λ z. z ++ b.more_rows k) q ∙ ap (λ z. rows k ++ z) (sym (put_apart b.more_rows c (row ∷ b.more_rows c) k ne))
  ];
}

-- the next row of the run
record NextRow (r : RunState) (c n : ℕ) (row : JoinRow) : Type 0 where
  stands : n < join_count r c
  is : join_of r c n ≡ row

next_row : (r : RunState) (entries : ℕ → List Entry) (rows : ℕ → List JoinRow) (c n : ℕ) (row : JoinRow) → RunBeginsWith r entries (put_at rows c (rows c ++ row ∷ [])) → n ≡ length (rows c) → NextRow r c n row
next_row r entries rows c n row b q =
    let all : history_of r c ≡ rows c ++ row ∷ b.more_rows c =
    b.histories c ∙ ap (λ z. z ++ b.more_rows c) (put_here rows c (rows c ++ row ∷ [])) ∙ append_assoc (rows c) (row ∷ []) (b.more_rows c) in
    let count = ap length all ∙ length-append (rows c) (row ∷ b.more_rows c) in
    let none : JoinRow = record { value = pos 0; sender_ticks = 0; receiver_ticks = 0; stamp = 0 } in
    record {
      stands = omega (arith, count, q);
      is =
          ap (λ z. slice_index_or (history_of r c) z none) q
          ∙ ap (λ z. slice_index_or z (length (rows c)) none) all
          ∙ get_or-append_seam (rows c) row (b.more_rows c) none;
    }

-- one cell more is done
put_done : {X : Type 0} (f : ℕ → X) (new : ℕ → X) (c : ℕ) → ((k : ℕ) → k < c → f k ≡ new k) → (k : ℕ) → k < suc c → put_at f c (new c) k ≡ new k
put_done f new c h k less = elim (put_cases f c (new c) k) [ inl (e, q) ↦ q ∙ ap new (sym e) | inr (ne, q) ↦ q ∙ h k (omega (arith, less, ne)) ]

put_left : {X : Type 0} (f : ℕ → X) (old : ℕ → X) (c : ℕ) (x : X) → ((k : ℕ) → c ≤ k → f k ≡ old k) → (k : ℕ) → suc c ≤ k → put_at f c x k ≡ old k
put_left f old c x h k more = put_apart f c x k (λ q. omega (arith, more, q)) ∙ h k (omega (arith, more))

module _ (system : System) (inputs : Inputs) (turns rest : List ℕ) (d : ℕ) (view : ℕ → DomainView) (old new : ChannelsState) (after : DomainState) (asks : List (Option ℤ)) (replies : List (Option Joined)) (stamp : ℕ) (entries : ℕ → List Entry) (top : ℕ)
    (turn : TurnOf system inputs d view old new after asks replies stamp) where
  abbrev At : ℕ → ℕ → ℕ → Type 0
  At c n left = Stage system inputs turns rest d view old new after replies stamp entries top c n left

  -- no join at the channel
  pub skip : (c n m left : ℕ) (x : At c n (suc left)) → n ≤ m → m ≤ length (ends_of (tables_of system) d) →
      ((k : ℕ) → k < m → (end_at (ends_of (tables_of system) d) k).channel < suc c) → ((k : ℕ) → m ≤ k → k < length (ends_of (tables_of system) d) → suc c ≤ (end_at (ends_of (tables_of system) d) k).channel) →
      (with_answers (ends_of (tables_of system) d) replies m after ≡ with_answers (ends_of (tables_of system) d) replies n after) → (raised replies m stamp ≡ raised replies n stamp) →
      ((b : Side) → domain_at (tables_of system) b c ≢ d → standing_at b (cell_in new c) ≡ standing_at b (cell_in old c)) → ((history_in new c).rows ≡ (history_in old c).rows) →
      (((sender_of (setup_of system inputs) c ≡ d) ⊎ (receiver_of (setup_of system inputs) c ≡ d)) → (v : ℤ) → BothWait (setup_of system inputs) x.s c v → ⊥) → At (suc c) m left
  skip c n m left x more within below above same_state same_stamp same_side same_rows idle =
      let cell' = put_at x.cell c (cell_in new c) in
      let rows' = put_at x.rows c ((history_in new c).rows) in
      let kept : (e : ℕ) → e ≢ d → (k : ℕ) → k < length (ends_of (tables_of system) e) →
      standing_at (end_at (ends_of (tables_of system) e) k).side (cell' (end_at (ends_of (tables_of system) e) k).channel) ≡ standing_at (end_at (ends_of (tables_of system) e) k).side (x.cell (end_at (ends_of (tables_of system) e) k).channel) = λ e ne k l.
      let f = end_at (ends_of (tables_of system) e) k in
      let own = domain_is (tables_of system) e f (own_end (tables_of system) e k l) in
      elim (put_cases x.cell c (cell_in new c) f.channel) [
        | inl (q, u) ↦
            ap (standing_at f.side) u
            ∙ same_side f.side (λ z. ne (sym own ∙ ap (domain_at (tables_of system) f.side) q ∙ z))
            ∙ ap (standing_at f.side) (sym (x.cells_left c (omega arith)) ∙ ap x.cell (sym q))
        | inr (nq, u) ↦ ap (standing_at f.side) u
      ] in
      let rows_same : (k : ℕ) → rows' k ≡ x.rows k = λ k. elim (put_cases x.rows c ((history_in new c).rows) k) [
        | inl (q, u) ↦ u ∙ same_rows ∙ sym (x.rows_left c (omega arith)) ∙ ap x.rows (sym q)
        | inr (nq, u) ↦ u
      ] in
      record {
        s = x.s;
        t = x.t;
        j = x.j;
        last = x.last;
        since = x.since;
        cell = cell';
        rows = rows';
        sum = omega (arith, x.sum);
        ends_within = within;
        before = below;
        beyond = above;
        cells_done = put_done x.cell (cell_in new) c x.cells_done;
        cells_left = put_left x.cell (cell_in old) c (cell_in new c) x.cells_left;
        rows_done = put_done x.rows (λ k. (history_in new k).rows) c x.rows_done;
        rows_left = put_left x.rows (λ k. (history_in old k).rows) c ((history_in new c).rows) x.rows_left;
        others = λ e l ne. in_cells_same system e x.cell cell' (view e) (λ k lk. ap (standing_offer (end_at (ends_of (tables_of system) e) k).side) (kept e ne k lk)) (x.others e l ne);
        mine = x.mine ∙ sym same_state;
        theirs = λ e l ne. x.theirs e l ne ∙ sym (found_same system e x.cell cell' (view e) (kept e ne)).0;
        t_is = x.t_is;
        j_is = λ k. x.j_is k ∙ ap length (sym (rows_same k));
        last_mine = x.last_mine;
        last_theirs = x.last_theirs;
        since_mine = x.since_mine ∙ sym same_stamp;
        since_theirs = λ e l ne. x.since_theirs e l ne ∙ sym (found_same system e x.cell cell' (view e) (kept e ne)).1;
        low_last = x.low_last;
        low_since = x.low_since;
        completes = λ r joins mid moves end b jit turned tells stamps marks. x.completes r joins mid moves end (begins_same r entries x.rows rows' rows_same b) (inl (idle, jit)) turned tells stamps marks;
      }

  -- a join at the channel of end n
  pub join : (c n left : ℕ) (x : At c n (suc left)) → (less : n < length (ends_of (tables_of system) d)) → (at : (end_at (ends_of (tables_of system) d) n).channel ≡ c) →
      Meets (end_at (ends_of (tables_of system) d) n) (get_or asks n None) stamp old new (get_or replies n None) → At (suc c) (suc n) left
  join c n left x less at h =
      let ends = ends_of (tables_of system) d in
      let p = setup_of system inputs in
      let tables = tables_of system in
      let e = end_at ends n in
      let a = e.side in
      let b = other a in
      let in_range : c < channel_count p = omega (arith, x.sum) in
      let own : domain_at tables a c ≡ d = ap (domain_at tables a) (sym at) ∙ domain_is tables d e (own_end tables d n less) in
      let o = domain_at tables b c in
      let o_within : o < domain_count p = is_domain system inputs c turn.sys in_range b in
      let o_other : o ≢ d = λ q. across system inputs c turn.sys in_range a (q ∙ sym own) in
      let open_is : standing_at b (x.cell c) ≡ Open h.theirs h.their_stamp = ap (standing_at b) (x.cells_left c (omega arith) ∙ ap (cell_in old) (sym at)) ∙ h.was_open in
      let f = faces system inputs b c x.cell h.theirs h.their_stamp (view o) turn.sys in_range (x.others o o_within o_other) open_is in
      let j1 = cells.join_of a h.mine stamp h.theirs h.their_stamp in
      let j2 = cells.join_of b h.theirs h.their_stamp h.mine stamp in
      let v = sent_value a h.mine h.theirs in
      let row = row_in old c j1 in
      let cell' = put_at x.cell c (cell_in new c) in
      let rows' = put_at x.rows c ((history_in new c).rows) in
      let row_is : (history_in new c).rows ≡ x.rows c ++ row ∷ [] =
      subst (λ z. (history_in new z).rows ≡ (history_in old z).rows ++ row_in old z j1 ∷ []) at h.row ∙ ap (λ z. z ++ row ∷ []) (sym (x.rows_left c (omega arith))) in
      let taken_is : standing_at b (cell' c) ≡ Taken j2 = ap (standing_at b) (put_here x.cell c (cell_in new c) ∙ ap (cell_in new) (sym at)) ∙ h.is_taken in
      let more = taken_more system b c x.cell cell' h.theirs h.their_stamp j2 (view o) f (λ k ne. put_apart x.cell c (cell_in new c) k ne) taken_is in
      let record_is : JoinRecord = record_of row in
      let s' : SystemState = record { domain = joined_domains p c v x.s.domain; joins = put_at x.s.joins c (x.s.joins c ++ record_is ∷ []) } in
      let asked : Waits e h.mine after.statement = subst (IsAsk e after.statement) h.asks (turn.asked n less) in
      let waits_mine : WaitsAs a c h.mine (x.s.domain (domain_at tables a c)).statement =
      subst (λ z. WaitsAs a c h.mine (x.s.domain z).statement) (sym own)
      (subst (λ z. WaitsAs a c h.mine z.statement) (sym x.mine)
      (subst (λ z. WaitsAs a z h.mine (with_answers ends replies n after).statement) at
      (still_waits ends replies n after e h.mine (λ k l. inl (λ q. omega (arith, x.before k l, q, at))) asked))) in
      let waits_theirs : WaitsAs b c f.value (x.s.domain o).statement = subst (λ z. WaitsAs b c f.value z.statement) (sym (x.theirs o o_within o_other)) f.waits in
      let both : BothWait p x.s c v = sends_joined system inputs x.s c a h.mine h.theirs f.value waits_mine waits_theirs f.own_value in
      let ticks_of : (k : ℕ) → k < domain_count p → ticks_in old k ≡ (x.s.domain k).ticks = λ k l. elim (cases_eq k d) [
        | inl q ↦ ap (ticks_in old) q ∙ turn.my_ticks ∙ sym (answers_ticks ends replies n after) ∙ ap (λ z. z.ticks) (sym x.mine) ∙ ap (λ z. (x.s.domain z).ticks) (sym q)
        | inr ne ↦
            turn.their_ticks k l ne ∙ sym (answers_ticks (ends_of tables k) (Rattle.gals_core.specs.RunsOverCells.pending x.cell (ends_of tables k)) (length (ends_of tables k)) (state_of (view k)))
            ∙ ap (λ z. z.ticks) (sym (x.theirs k l ne))
      ] in
      let step : JoinStep p x.s c record_is s' = record {
        sends = both.sends;
        receives = both.receives;
        sender_ticks = ap (ticks_in old) (turn.links c in_range).0 ∙ ticks_of (sender_of p c) (turn.sys.sender c in_range);
        receiver_ticks = ap (ticks_in old) (turn.links c in_range).1 ∙ ticks_of (receiver_of p c) (turn.sys.receiver c in_range);
        next = refl;
      } in
      let stamp_is : stamp_by_step p x.last c ≡ stamp_of_join j1 =
      join_stamps system inputs c a x.last stamp h.their_stamp (ap x.last own ∙ x.last_mine) (x.last_theirs o o_within o_other ∙ sym f.stamp) in
      let js = stamp_by_step p x.last c in
      let since' = raised_two p c js x.since in
      let mine_done : s'.domain d ≡ with_answers ends replies (suc n) after =
      subst (λ z. s'.domain z ≡ side_done a c v (x.s.domain z)) own (joined_side system inputs c v x.s.domain turn.sys in_range a)
      ∙ ap (side_done a c v) x.mine
      ∙ ap (λ z. side_done a z v (with_answers ends replies n after)) (sym at)
      ∙ ap (λ z. end_done e z (with_answers ends replies n after)) (sym h.reply_is) in
      let since_done : since' d ≡ raised replies (suc n) stamp =
      subst (λ z. since' z ≡ max (x.since z) js) own (raised_side system inputs c js x.since turn.sys in_range a)
      ∙ ap (λ z. max z js) x.since_mine
      ∙ ap (max (raised replies n stamp)) stamp_is
      ∙ ap (λ z. raised_by z (raised replies n stamp)) (sym h.reply_is) in
      let apart_from : (k : ℕ) → k ≢ d → k ≢ o → (b' : Side) → k ≢ domain_at tables b' c = λ k nd nq b' q. elim (two_sides a b') [
        | inl w ↦ nd (q ∙ ap (λ z. domain_at tables z c) w ∙ own)
        | inr w ↦ nq (q ∙ ap (λ z. domain_at tables z c) w)
      ] in
      let kept : (k : ℕ) → k ≢ d → k ≢ o → (i : ℕ) → i < length (ends_of tables k) →
      standing_at (end_at (ends_of tables k) i).side (cell' (end_at (ends_of tables k) i).channel) ≡ standing_at (end_at (ends_of tables k) i).side (x.cell (end_at (ends_of tables k) i).channel) = λ k nd nq i l.
      let g = end_at (ends_of tables k) i in
      ap (standing_at g.side)
      (put_apart x.cell c (cell_in new c) g.channel
      (λ q. apart_from k nd nq g.side (sym (domain_is tables k g (own_end tables k i l)) ∙ ap (domain_at tables g.side) q))) in
      let stamps_equal : js ≡ stamp_of_join j2 = omega (arith, stamp_is) in
      record {
        s = s';
        t = x.t;
        j = put_at x.j c (suc (x.j c));
        last = x.last;
        since = since';
        cell = cell';
        rows = rows';
        sum = omega (arith, x.sum);
        ends_within = omega (arith, less);
        before = λ k l. elim (cases_eq k n) [ inl q ↦ omega (arith, ap (λ z. (end_at ends z).channel) q, at) | inr ne ↦ omega (arith, x.before k (omega (arith, l, ne))) ];
        beyond = λ k l lk. omega (arith, rises tables d n k (omega (arith, l)) lk, at);
        cells_done = put_done x.cell (cell_in new) c x.cells_done;
        cells_left = put_left x.cell (cell_in old) c (cell_in new c) x.cells_left;
        rows_done = put_done x.rows (λ k. (history_in new k).rows) c x.rows_done;
        rows_left = put_left x.rows (λ k. (history_in old k).rows) c ((history_in new c).rows) x.rows_left;
        others = λ k l nd. elim (cases_eq k o) [
          | inl q ↦
              in_cells_same system k x.cell cell' (view k)
              (λ i li. let g = end_at (ends_of tables k) i in elim (put_cases x.cell c (cell_in new c) g.channel) [
                | inl (u, w) ↦
                    let g_side : g.side ≡ b = elim (two_sides a g.side) [
                      | inl z ↦ absurd (nd (sym (domain_is tables k g (own_end tables k i li)) ∙ ap (domain_at tables g.side) u ∙ ap (λ y. domain_at tables y c) z ∙ own))
                      | inr z ↦ z
                    ] in
                    ap (λ y. standing_offer y (standing_at y (cell' g.channel))) g_side
                    ∙ ap (λ y. standing_offer b (standing_at b (cell' y))) u
                    ∙ ap (standing_offer b) taken_is
                    ∙ offer_kept b h.theirs h.mine stamp h.their_stamp
                    ∙ ap (standing_offer b) (sym open_is)
                    ∙ ap (λ y. standing_offer b (standing_at b (x.cell y))) (sym u)
                    ∙ ap (λ y. standing_offer y (standing_at y (x.cell g.channel))) (sym g_side)
                | inr (u, w) ↦ ap (λ y. standing_offer g.side (standing_at g.side y)) w
              ])
              (x.others k l nd)
          | inr nq ↦ in_cells_same system k x.cell cell' (view k) (λ i li. ap (standing_offer (end_at (ends_of tables k) i).side) (kept k nd nq i li)) (x.others k l nd)
        ];
        mine = mine_done;
        theirs = λ k l nd. elim (cases_eq k o) [
          | inl q ↦
              let there : s'.domain o ≡ found_state system o cell' (view o) =
              joined_side system inputs c v x.s.domain turn.sys in_range b
              ∙ ap (side_done b c v) (x.theirs o o_within o_other)
              ∙ ap (λ z. side_done b c z (found_state system o x.cell (view o))) (sym (other_value a h.mine h.theirs stamp h.their_stamp))
              ∙ sym more.0 in
              subst (λ z. s'.domain z ≡ found_state system z cell' (view z)) (sym q) there
          | inr nq ↦ joined_other system inputs c v x.s.domain k (apart_from k nd nq Sender) (apart_from k nd nq Receiver) ∙ x.theirs k l nd ∙ sym (found_same system k x.cell cell' (view k) (kept k nd nq)).0
        ];
        t_is = x.t_is;
        j_is = λ k. elim (cases_eq k c) [
          | inl q ↦
              ap (put_at x.j c (suc (x.j c))) q ∙ put_here x.j c (suc (x.j c)) ∙ ap suc (x.j_is c)
              ∙ sym (ap (λ z. length (rows' z)) q ∙ ap length (put_here x.rows c ((history_in new c).rows) ∙ row_is) ∙ length-append (x.rows c) (row ∷ []) ∙ omega arith)
          | inr ne ↦ put_apart x.j c (suc (x.j c)) k ne ∙ x.j_is k ∙ ap length (sym (put_apart x.rows c ((history_in new c).rows) k ne))
        ];
        last_mine = x.last_mine;
        last_theirs = x.last_theirs;
        since_mine = since_done;
        since_theirs = λ k l nd. elim (cases_eq k o) [
          | inl q ↦
              let there : since' o ≡ found_stamp system o cell' (view o) =
              raised_side system inputs c js x.since turn.sys in_range b ∙ ap (λ z. max z js) (x.since_theirs o o_within o_other) ∙ ap (max (found_stamp system o x.cell (view o))) stamps_equal ∙ sym more.1 in
              subst (λ z. since' z ≡ found_stamp system z cell' (view z)) (sym q) there
          | inr nq ↦ raised_other system inputs c js x.since k (apart_from k nd nq Sender) (apart_from k nd nq Receiver) ∙ x.since_theirs k l nd ∙ sym (found_same system k x.cell cell' (view k) (kept k nd nq)).1
        ];
        low_last = x.low_last;
        low_since = λ k l.
            let js_low : js ≤ suc (suc top) = omega (arith, x.low_last (sender_of p c) (turn.sys.sender c in_range), x.low_last (receiver_of p c) (turn.sys.receiver c in_range)) in
            elim (cases_eq k (sender_of p c)) [
              | inl q ↦ omega (arith, ap since' q, raised_side system inputs c js x.since turn.sys in_range Sender, ap x.since q, x.low_since k l, js_low)
              | inr ns ↦ elim (cases_eq k (receiver_of p c)) [
                | inl q ↦ omega (arith, ap since' q, raised_side system inputs c js x.since turn.sys in_range Receiver, ap x.since q, x.low_since k l, js_low)
                | inr nr ↦ omega (arith, raised_other system inputs c js x.since k ns nr, x.low_since k l)
              ]
            ];
        completes = λ r joins mid moves end bw jit turned tells stamps marks.
            let same : (k : ℕ) → rows' k ≡ put_at x.rows c (x.rows c ++ row ∷ []) k = λ k. ap (λ z. put_at x.rows c z k) row_is in
            let bw' = begins_same r entries (put_at x.rows c (x.rows c ++ row ∷ [])) rows' same bw in
            let next = next_row r entries x.rows c (x.j c) row bw' (x.j_is c) in
            let owned : (sender_of p c ≡ d) ⊎ (receiver_of p c ≡ d) = owner a own in
            x.completes r (MakesJoin c record_is ∷ joins) mid moves end (begins_fewer r entries x.rows c row bw') (inr (owned, (record_is, s', joins, (in_range, step), refl, jit))) turned
            (next.stands, ap record_of next.is, tells) (ap (λ z. z.stamp) next.is ∙ sym stamp_is, stamps) marks;
      }
    where
      owner : (a : Side) → domain_at (tables_of system) a c ≡ d → (sender_of (setup_of system inputs) c ≡ d) ⊎ (receiver_of (setup_of system inputs) c ≡ d)
      owner Sender q = inl q
      owner Receiver q = inr q
