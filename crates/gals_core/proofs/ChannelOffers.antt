-- What the offers of a turn do at one channel.
use Rattle.std.proofs.Common.{◌≡◌, ◌≢◌, ℕ, ◌<◌, ℤ, Bool, true, false, List, [], ◌∷◌, ◌++◌, length, get_or, Option, Some, None, refl, sym, ap, ◌∙◌, inl, inr, ◌⊎◌}
use Rattle.std.specs.Prelude.{IsNone, IsSomeAnd}
use Rattle.std.proofs.lemmas.List.{append-nil, get_or-map}
use Rattle.kernel_terms.specs.declared.system.System.{System}
use Rattle.kernel_terms.specs.Systems.{tables_of}
use Rattle.cell_core.specs.declared.moves.Side.{Side}
use Rattle.cell_core.specs.declared.moves.Side.TheVariants.{Sender, Receiver}
use Rattle.cell_core.specs.declared.moves.Joined.{Joined}
use Rattle.cell_core.specs.declared.cell.Standing.{Standing}
use Rattle.cell_core.specs.declared.cell.Standing.TheVariants.{Empty, Open, Taken}
use Rattle.cell_core.specs.definitions.Cells.{CellState, cell_of, other, standing_at, stands, recall_reply, join_of, offer_reply, after_own_offer, after_offer}
use Rattle.cell_core.specs.CellEnds.{standing_offer}
use Rattle.domain_core.specs.declared.step.ends_of.EndOf.{EndOf}
use Rattle.domain_core.specs.definitions.step.EndCalls.{end_at}
use Rattle.domain_core.specs.definitions.step.Domains.{DomainView, ends_of, state_of}
use Rattle.domain_core.specs.definitions.step.Steps.{Waits, IsWaitingOffer}
use Rattle.gals_core.specs.Channels.{ChannelsState, cell_in, history_in, row_in}
use Rattle.gals_core.specs.RunsOverCells.{IsInCells, pending, found_state}
use Rattle.gals_core.proofs.EndAnswerLemmas.{waited, waits_unanswered}
use Rattle.gals_core.proofs.CallEffects.{new_rows, OfferedAt}

pub other_of : (a : Side) (mine theirs : Standing) → standing_at (other a) (cell_of a mine theirs) ≡ theirs
other_of Sender mine theirs = refl
other_of Receiver mine theirs = refl

-- the end makes no offer, or its offer finds no open one
pub record Quiet (e : EndOf) (ask : Option ℤ) (old new : ChannelsState) (reply : Option Joined) : Type 0 where
  pub reply_is : reply ≡ None
  pub other_stays : standing_at (other e.side) (cell_in new e.channel) ≡ standing_at (other e.side) (cell_in old e.channel)
  pub rows_stay : (history_in new e.channel).rows ≡ (history_in old e.channel).rows
  pub why : (ask ≡ None) ⊎ ((v : ℤ) (t : ℕ) → standing_at (other e.side) (cell_in old e.channel) ≢ Open v t)

-- the end's offer finds the other side's open
pub record Meets (e : EndOf) (ask : Option ℤ) (stamp : ℕ) (old new : ChannelsState) (reply : Option Joined) : Type 0 where
  pub mine : ℤ
  pub theirs : ℤ
  pub their_stamp : ℕ
  pub asks : ask ≡ Some mine
  pub was_open : standing_at (other e.side) (cell_in old e.channel) ≡ Open theirs their_stamp
  pub reply_is : reply ≡ Some (join_of e.side mine stamp theirs their_stamp)
  pub is_taken : standing_at (other e.side) (cell_in new e.channel) ≡ Taken (join_of (other e.side) theirs their_stamp mine stamp)
  pub row : (history_in new e.channel).rows ≡ (history_in old e.channel).rows ++ row_in old e.channel (join_of e.side mine stamp theirs their_stamp) ∷ []

no_row : (b new : ChannelsState) (c : ℕ) (reply : Option Joined) → reply ≡ None → (history_in new c).rows ≡ (history_in b c).rows ++ new_rows b c reply → (history_in new c).rows ≡ (history_in b c).rows
no_row b new c reply none h = h ∙ ap (λ z. (history_in b c).rows ++ new_rows b c z) none ∙ append-nil (history_in b c).rows

pub at_channel : (e : EndOf) (ask : Option ℤ) (stamp : ℕ) (old new : ChannelsState) (reply : Option Joined) → OfferedAt e ask stamp old reply new →
    Quiet e ask old new reply ⊎ Meets e ask stamp old new reply
at_channel e None stamp old new reply h = inl (record {
  reply_is = h.replied;
  other_stays = ap (standing_at (other e.side)) h.cell;
  rows_stay = no_row old new e.channel reply h.replied h.rows;
  why = inl refl;
})
at_channel e (Some v) stamp old new reply h = by_other (standing_at (other e.side) (cell_in old e.channel)) refl
  where
    stays : (o : Standing) → standing_at (other e.side) (cell_in old e.channel) ≡ o → offer_reply e.side v stamp o ≡ None → after_offer e.side v stamp o ≡ o → ((w : ℤ) (t : ℕ) → o ≢ Open w t) → Quiet e (Some v) old new reply
    stays o q no_reply same closed =
        let none : reply ≡ None = h.replied ∙ ap (offer_reply e.side v stamp) q ∙ no_reply in
        record {
          reply_is = none;
          other_stays =
              ap (standing_at (other e.side)) h.cell
              ∙ other_of e.side (after_own_offer v stamp (standing_at (other e.side) (cell_in old e.channel))) (after_offer e.side v stamp (standing_at (other e.side) (cell_in old e.channel)))
              ∙ ap (after_offer e.side v stamp) q ∙ same ∙ sym q;
          rows_stay = no_row old new e.channel reply none h.rows;
          why = inr (λ w t z. closed w t (sym q ∙ z));
        }

    by_other : (o : Standing) → standing_at (other e.side) (cell_in old e.channel) ≡ o → Quiet e (Some v) old new reply ⊎ Meets e (Some v) stamp old new reply
    by_other Empty q = inl (stays Empty q refl refl (λ w t z. cc))
    by_other (Taken j) q = inl (stays (Taken j) q refl refl (λ w t z. cc))
    by_other (Open w t) q =
        let some : reply ≡ Some (join_of e.side v stamp w t) = h.replied ∙ ap (offer_reply e.side v stamp) q in
        inr (record {
          mine = v;
          theirs = w;
          their_stamp = t;
          asks = refl;
          was_open = q;
          reply_is = some;
          is_taken =
              ap (standing_at (other e.side)) h.cell
              ∙ other_of e.side (after_own_offer v stamp (standing_at (other e.side) (cell_in old e.channel))) (after_offer e.side v stamp (standing_at (other e.side) (cell_in old e.channel)))
              ∙ ap (after_offer e.side v stamp) q;
          row = h.rows ∙ ap (λ z. (history_in old e.channel).rows ++ new_rows old e.channel z) some;
        })

pub pending_at : (cell : ℕ → CellState) (ends : List EndOf) (n : ℕ) → n < length ends → get_or (pending cell ends) n None ≡ recall_reply (standing_at (end_at ends n).side (cell (end_at ends n).channel))
pending_at cell ends n less = get_or-map (λ (e : EndOf). recall_reply (standing_at e.side (cell e.channel))) ends n (record { channel = 0; side = Receiver }) None less

offer_stands : (a : Side) (s : Standing) (P : _ → Type 0) → IsSomeAnd (standing_offer a s) P → stands s ≡ true
offer_stands a Empty P h = absurd h
offer_stands a (Open v t) P h = refl
offer_stands a (Taken j) P h = refl

offer_empty : (a : Side) (s : Standing) → IsNone (standing_offer a s) → s ≡ Empty
offer_empty a Empty h = refl
offer_empty a (Open v t) h = cc
offer_empty a (Taken j) h = cc

bool_cases : (b : Bool) → (b ≡ true) ⊎ (b ≡ false)
bool_cases true = inl refl
bool_cases false = inr refl

-- an end stands exactly where its side does
pub stands_so : (system : System) (d : ℕ) (cell : ℕ → CellState) (v : DomainView) → IsInCells system d cell v → (n : ℕ) → n < length (ends_of (tables_of system) d) →
    get_or v.standing n false ≡ stands (standing_at (end_at (ends_of (tables_of system) d) n).side (cell (end_at (ends_of (tables_of system) d) n).channel))
stands_so system d cell v h n less =
    let e = end_at (ends_of (tables_of system) d) n in
    elim (bool_cases (get_or v.standing n false)) [
      | inl q ↦ q ∙ sym (offer_stands e.side (standing_at e.side (cell e.channel)) (IsWaitingOffer e v.stamp (state_of v).statement) (h.stands n less q))
      | inr q ↦ q ∙ sym (ap stands (offer_empty e.side (standing_at e.side (cell e.channel)) (h.free n less q)))
    ]

-- an end waits in the found state only where its side is open
pub waits_open : (system : System) (d : ℕ) (cell : ℕ → CellState) (v : DomainView) → IsInCells system d cell v → (n : ℕ) → n < length (ends_of (tables_of system) d) →
    ((w : ℤ) (t : ℕ) → standing_at (end_at (ends_of (tables_of system) d) n).side (cell (end_at (ends_of (tables_of system) d) n).channel) ≢ Open w t) →
    (value : ℤ) → Waits (end_at (ends_of (tables_of system) d) n) value (found_state system d cell v).statement → ⊥
waits_open system d cell v h n less not_open value w =
    let ends = ends_of (tables_of system) d in
    let e = end_at ends n in
    by_side (standing_at e.side (cell e.channel)) refl
    (sym (pending_at cell ends n less) ∙ waits_unanswered ends (pending cell ends) (length ends) n (state_of v) value less w)
    (stands_so system d cell v h n less) (λ q. h.idle n less q value (waited ends (pending cell ends) (length ends) (state_of v) e value w))
  where
    by_side : (s : Standing) → standing_at (end_at (ends_of (tables_of system) d) n).side (cell (end_at (ends_of (tables_of system) d) n).channel) ≡ s →
        recall_reply (standing_at (end_at (ends_of (tables_of system) d) n).side (cell (end_at (ends_of (tables_of system) d) n).channel)) ≡ None →
        get_or v.standing n false ≡ stands (standing_at (end_at (ends_of (tables_of system) d) n).side (cell (end_at (ends_of (tables_of system) d) n).channel)) →
        (get_or v.standing n false ≡ false → ⊥) → ⊥
    by_side Empty q r st f = f (st ∙ ap stands q)
    by_side (Open x t) q r st f = not_open x t q
    by_side (Taken j) q r st f = let z : Some j ≡ None = sym (ap recall_reply q) ∙ r in absurd cc
