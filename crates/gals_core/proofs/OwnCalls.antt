-- A call at an end of the domain whose turn it is.
use Rattle.std.proofs.Common.{◌≡◌, ◌≢◌, ℕ, ◌+◌, ◌-◌, ◌^◌, ◌<◌, ◌≤◌, ℤ, List, [], ◌∷◌, ◌++◌, length, get_or, Option, Some, None, IfSome, IfNone, IsSomeAnd, refl, sym, ap, ◌∙◌, subst, inl, inr, arith}
use Rattle.std.proofs.Math.ListN.{set}
use Rattle.std.proofs.lemmas.Bool.{cases_eq}
use Rattle.std.proofs.lemmas.List.{length-append, length-set, append-nil, get_or-set_same, get_or-set_other}
use Rattle.tick_log.specs.declared.history.JoinRow.{JoinRow}
use Rattle.tick_log.specs.definitions.Containers.{HistoryState}
use Rattle.cell_core.specs.declared.moves.Side.{Side}
use Rattle.cell_core.specs.declared.moves.Joined.{Joined}
use Rattle.cell_core.specs.declared.moves.CellMove.{CellMove}
use Rattle.cell_core.specs.declared.moves.CellMove.TheVariants.{Offer, Recall}
use Rattle.cell_core.specs.definitions.Cells.{CellState, cell_step, cell_reply, empty_cell, standing_at}
use Rattle.cell_core.specs.CellEnds.{standing_offer, end_of_cell, CellFits, MoveFits, OfferFits}
use Rattle.cell_core.specs.definitions.Ends.{EndView, ChangesOwnEnd, ValueFits, JoinsOffer, JoinsStanding, IsOffer}
use Rattle.cell_core.proofs.CellLemmas.{step_fits, recall_joins, offer_joins, offer_stands}
use Rattle.domain_core.specs.declared.step.ends_of.EndOf.{EndOf}
use Rattle.domain_core.specs.definitions.step.EndCalls.{end_at}
use Rattle.gals_core.specs.Channels.{ChannelsState, AreChannels, EndsFit, MovesAt, link_at, cell_in, history_in, row_of, rows_of, with_reply, no_history, end_view}

-- the histories with these rows more at a channel
pub record HistoriesMore (b : ChannelsState) (c : ℕ) (new : List HistoryState) (more : List JoinRow) : Type 0 where
  pub count : length new ≡ length b.histories
  pub rows : (get_or new c no_history).rows ≡ (history_in b c).rows ++ more
  pub room : (get_or new c no_history).room + length (get_or new c no_history).rows ≡ (history_in b c).room + length (history_in b c).rows
  pub few : length more ≤ 1
  pub others : (k : ℕ) → k ≢ c → get_or new k no_history ≡ history_in b k

pub recall_histories : (b : ChannelsState) (c : ℕ) → HistoriesMore b c b.histories []
recall_histories b c = record { count = refl; rows = sym (append-nil (history_in b c).rows); room = refl; few = omega arith; others = λ k ne. refl }

pub offer_histories : (b : ChannelsState) (c : ℕ) (a : Side) (v : ℤ) (s : ℕ) (reply : Option Joined) → c < length b.histories → 1 ≤ (history_in b c).room →
    HistoriesMore b c (with_reply b.links b.ticks c reply b.histories) (rows_of b c (Offer a v s) reply)
offer_histories b c a v s None within room = recall_histories b c
offer_histories b c a v s (Some j) within room =
    let row = row_of b.links b.ticks c j in
    let h : HistoryState = record { rows = (history_in b c).rows ++ row ∷ []; room = (history_in b c).room - 1 } in
    let here : get_or (set b.histories c h) c no_history ≡ h = get_or-set_same b.histories c h no_history within in
    let count = ap (λ z. z.room + length z.rows) here in
    let more = length-append (history_in b c).rows (row ∷ []) in
    record {
      count = length-set b.histories c h;
      rows = ap (λ z. z.rows) here;
      room = omega (arith, count, more, room);
      few = omega arith;
      others = λ k ne. get_or-set_other b.histories c k h no_history ne;
    }

module _ (b0 b : ChannelsState) (same : b0 ≡ b) (keeps : AreChannels b) (fit : EndsFit b.links b.ends) (at : ℕ) (within : at < length b.ends) (e : EndOf) (own : e ≡ end_at b.ends at) (move : CellMove) (answer : Option Joined)
    (cells : List CellState) (histories : List HistoryState) (cells_is : cells ≡ set b.cells e.channel (cell_step move (get_or b.cells e.channel empty_cell))) (answer_is : answer ≡ cell_reply move (get_or b.cells e.channel empty_cell))
    (more : HistoriesMore b e.channel histories (rows_of b e.channel move answer)) where
  abbrev new : ChannelsState
  new = record { links = b.links; cells = cells; histories = histories; ticks = b.ticks; lists = b.lists; ends = b.ends }

  in_range : e.channel < length b.links
  in_range = subst (λ z. z.channel < length b.links) (sym own) (fit.within at within)

  cell_here : cell_in new e.channel ≡ cell_step move (cell_in b e.channel)
  cell_here = ap (λ z. get_or z e.channel empty_cell) cells_is ∙ get_or-set_same b.cells e.channel (cell_step move (cell_in b e.channel)) empty_cell (omega (arith, in_range, keeps.cell_count))

  cell_there : (k : ℕ) → k ≢ e.channel → cell_in new k ≡ cell_in b k
  cell_there k ne = ap (λ z. get_or z k empty_cell) cells_is ∙ get_or-set_other b.cells e.channel k (cell_step move (cell_in b e.channel)) empty_cell ne

  pub moves_at : MovesAt b0 (end_at b0.ends at).channel move answer new
  moves_at =
      let at_b : MovesAt b e.channel move answer new = record {
        same_links = refl;
        same_ticks = refl;
        same_lists = refl;
        same_ends = refl;
        replies = answer_is;
        cell = cell_here;
        rows = more.rows;
        room = more.room;
        other_cells = cell_there;
        other_histories = more.others;
      } in
      subst (λ z. MovesAt z (end_at z.ends at).channel move answer new) (sym same) (subst (λ z. MovesAt b z.channel move answer new) own at_b)

  pub own_changes : ChangesOwnEnd (length b0.ends) (end_view b0) (end_view new) at
  own_changes =
      let lengths = ap length more.rows in
      let sum = length-append (history_in b e.channel).rows (rows_of b e.channel move answer) in
      let room = more.room in
      let few = more.few in
      let lowers : (history_in new e.channel).room ≤ (history_in b e.channel).room = omega (arith, lengths, sum, room) in
      let one : (history_in b e.channel).room ≤ (history_in new e.channel).room + 1 = omega (arith, lengths, sum, room, few) in
      let at_b : ChangesOwnEnd (length b.ends) (end_view b) (end_view new) at = record {
        others_stay = λ q l ne.
            let far : (end_at b.ends q).channel ≢ e.channel = λ z. fit.apart q at l within ne (z ∙ ap (λ y. y.channel) own) in
            let cell = cell_there (end_at b.ends q).channel far in
            let history = more.others (end_at b.ends q).channel far in
            ap (λ z. record { side = (end_at b.ends q).side; kind = (link_at b.links (end_at b.ends q).channel).kind; offer = standing_offer (end_at b.ends q).side (standing_at (end_at b.ends q).side z); room = (history_in new (end_at b.ends q).channel).room }) cell
            ∙ ap (λ z. record { side = (end_at b.ends q).side; kind = (link_at b.links (end_at b.ends q).channel).kind; offer = standing_offer (end_at b.ends q).side (standing_at (end_at b.ends q).side (cell_in b (end_at b.ends q).channel)); room = z.room }) history;
        side_stays = refl;
        kind_stays = refl;
        room_lowers = subst (λ z. (history_in new z.channel).room ≤ (history_in b z.channel).room) own lowers;
        by_one = subst (λ z. (history_in b z.channel).room ≤ (history_in new z.channel).room + 1) own one;
      } in
      subst (λ z. ChangesOwnEnd (length z.ends) (end_view z) (end_view new) at) (sym same) at_b

  pub keeps_channels : MoveFits (link_at b.links e.channel).kind move → AreChannels new
  keeps_channels fits = record {
    cell_count = ap length cells_is ∙ length-set b.cells e.channel (cell_step move (cell_in b e.channel)) ∙ keeps.cell_count;
    history_count = more.count ∙ keeps.history_count;
    fits = λ c l. elim (cases_eq c e.channel) [
      | inl q ↦ subst (λ z. CellFits (link_at b.links z).kind (cell_in new z)) (sym q) (subst (CellFits (link_at b.links e.channel).kind) (sym cell_here) (step_fits (link_at b.links e.channel).kind move (cell_in b e.channel) fits (keeps.fits e.channel in_range)))
      | inr ne ↦ subst (CellFits (link_at b.links c).kind) (sym (cell_there c ne)) (keeps.fits c l)
    ];
    senders = keeps.senders;
    receivers = keeps.receivers;
    ends_fit = keeps.ends_fit;
  }

abbrev view_of : ChannelsState → EndOf → EndView
view_of b e = end_of_cell (link_at b.links e.channel).kind (history_in b e.channel).room e.side (cell_in b e.channel)

module _ (b0 b : ChannelsState) (same : b0 ≡ b) (keeps : AreChannels b) (fit : EndsFit b.links b.ends) (at : ℕ) (within : at < length b.ends) (e : EndOf) (own : e ≡ end_at b.ends at) (answer : Option Joined) where
  own0 : e ≡ end_at b0.ends at
  own0 = own ∙ ap (λ z. end_at z.ends at) (sym same)

  within_links : e.channel < length b.links
  within_links = subst (λ z. z.channel < length b.links) (sym own) (fit.within at within)

  pub recall_moves : (cells : List CellState) → cells ≡ set b.cells e.channel (cell_step (Recall e.side) (get_or b.cells e.channel empty_cell)) → answer ≡ cell_reply (Recall e.side) (get_or b.cells e.channel empty_cell) →
      MovesAt b0 (end_at b0.ends at).channel (Recall (end_at b0.ends at).side) answer (record { links = b.links; cells = cells; histories = b.histories; ticks = b.ticks; lists = b.lists; ends = b.ends })
  recall_moves cells cells_is answer_is =
      subst (λ z. MovesAt b0 (end_at b0.ends at).channel (Recall z.side) answer (record { links = b.links; cells = cells; histories = b.histories; ticks = b.ticks; lists = b.lists; ends = b.ends })) own0
      (moves_at b0 b same keeps fit at within e own (Recall e.side) answer cells b.histories cells_is answer_is (recall_histories b e.channel))

  pub recall_own : (cells : List CellState) → cells ≡ set b.cells e.channel (cell_step (Recall e.side) (get_or b.cells e.channel empty_cell)) → answer ≡ cell_reply (Recall e.side) (get_or b.cells e.channel empty_cell) →
      ChangesOwnEnd (length b0.ends) (end_view b0) (end_view (record { links = b.links; cells = cells; histories = b.histories; ticks = b.ticks; lists = b.lists; ends = b.ends })) at
  recall_own cells cells_is answer_is = own_changes b0 b same keeps fit at within e own (Recall e.side) answer cells b.histories cells_is answer_is (recall_histories b e.channel)

  pub recall_keeps : (cells : List CellState) → cells ≡ set b.cells e.channel (cell_step (Recall e.side) (get_or b.cells e.channel empty_cell)) → answer ≡ cell_reply (Recall e.side) (get_or b.cells e.channel empty_cell) →
      AreChannels (record { links = b.links; cells = cells; histories = b.histories; ticks = b.ticks; lists = b.lists; ends = b.ends })
  recall_keeps cells cells_is answer_is = keeps_channels b0 b same keeps fit at within e own (Recall e.side) answer cells b.histories cells_is answer_is (recall_histories b e.channel) tt

  pub recall_joined : answer ≡ cell_reply (Recall e.side) (get_or b.cells e.channel empty_cell) → IfSome answer (JoinsStanding (end_view b0 at))
  recall_joined answer_is =
      subst (λ z. IfSome answer (JoinsStanding (end_view z at))) (sym same)
      (subst (λ z. IfSome answer (JoinsStanding (view_of b z))) own
      (subst (λ z. IfSome z (JoinsStanding (view_of b e))) (sym answer_is)
      (recall_joins (link_at b.links e.channel).kind (history_in b e.channel).room e.side (cell_in b e.channel) (keeps.fits e.channel within_links))))

  module _ (v : ℤ) (s : ℕ) (cells : List CellState) (histories : List HistoryState) (room : 1 ≤ (end_view b0 at).room) (stamp : s < 2 ^ 62) (value : ValueFits (end_view b0 at).side (end_view b0 at).kind v)
      (cells_is : cells ≡ set b.cells e.channel (cell_step (Offer e.side v s) (get_or b.cells e.channel empty_cell))) (answer_is : answer ≡ cell_reply (Offer e.side v s) (get_or b.cells e.channel empty_cell))
      (histories_are : histories ≡ with_reply b.links b.ticks e.channel answer b.histories) where
    abbrev moved_to : ChannelsState
    moved_to = record { links = b.links; cells = cells; histories = histories; ticks = b.ticks; lists = b.lists; ends = b.ends }

    room_here : 1 ≤ (history_in b e.channel).room
    room_here = subst (λ z. 1 ≤ (history_in b z.channel).room) (sym own) (subst (λ z. 1 ≤ (end_view z at).room) same room)

    more : HistoriesMore b e.channel histories (rows_of b e.channel (Offer e.side v s) answer)
    more =
        subst (λ z. HistoriesMore b e.channel z (rows_of b e.channel (Offer e.side v s) answer)) (sym histories_are)
        (offer_histories b e.channel e.side v s answer (omega (arith, within_links, keeps.history_count)) room_here)

    offer_fits : OfferFits (link_at b.links e.channel).kind e.side v s
    offer_fits = record { value = subst (λ z. ValueFits z.side (link_at b.links z.channel).kind v) (sym own) (subst (λ z. ValueFits (end_view z at).side (end_view z at).kind v) same value); stamp = stamp }

    pub offer_moves : MovesAt b0 (end_at b0.ends at).channel (Offer (end_at b0.ends at).side v s) answer moved_to
    offer_moves =
        subst (λ z. MovesAt b0 (end_at b0.ends at).channel (Offer z.side v s) answer moved_to) own0
        (moves_at b0 b same keeps fit at within e own (Offer e.side v s) answer cells histories cells_is answer_is more)

    pub offer_own : ChangesOwnEnd (length b0.ends) (end_view b0) (end_view moved_to) at
    offer_own = own_changes b0 b same keeps fit at within e own (Offer e.side v s) answer cells histories cells_is answer_is more

    pub offer_keeps : AreChannels moved_to
    offer_keeps = keeps_channels b0 b same keeps fit at within e own (Offer e.side v s) answer cells histories cells_is answer_is more offer_fits

    pub offer_joined : IfSome answer (JoinsOffer (end_view b0 at) v s)
    offer_joined =
        subst (λ z. IfSome answer (JoinsOffer (end_view z at) v s)) (sym same)
        (subst (λ z. IfSome answer (JoinsOffer (view_of b z) v s)) own
        (subst (λ z. IfSome z (JoinsOffer (view_of b e) v s)) (sym answer_is)
        (offer_joins (link_at b.links e.channel).kind (history_in b e.channel).room e.side v s (cell_in b e.channel) offer_fits (keeps.fits e.channel within_links))))

    pub offer_left : IfNone answer (IsSomeAnd (end_view moved_to at).offer (IsOffer (end_view b0 at).side v s))
    offer_left =
        let cell_is : cell_in moved_to e.channel ≡ cell_step (Offer e.side v s) (cell_in b e.channel) =
        ap (λ z. get_or z e.channel empty_cell) cells_is
        ∙ get_or-set_same b.cells e.channel (cell_step (Offer e.side v s) (cell_in b e.channel)) empty_cell (omega (arith, within_links, keeps.cell_count)) in
        subst (λ z. IfNone answer (IsSomeAnd (end_view moved_to at).offer (IsOffer (end_view z at).side v s))) (sym same)
        (subst (λ z. IfNone answer (IsSomeAnd (standing_offer z.side (standing_at z.side (cell_in moved_to z.channel))) (IsOffer z.side v s))) own
        (subst (λ z. IfNone z (IsSomeAnd (standing_offer e.side (standing_at e.side (cell_in moved_to e.channel))) (IsOffer e.side v s))) (sym answer_is)
        (subst (λ z. IfNone (cell_reply (Offer e.side v s) (cell_in b e.channel)) (IsSomeAnd (standing_offer e.side (standing_at e.side z)) (IsOffer e.side v s))) (sym cell_is)
        (offer_stands (link_at b.links e.channel).kind (history_in b e.channel).room e.side v s (cell_in b e.channel)))))
