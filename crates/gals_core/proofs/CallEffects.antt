-- What the calls of a step do to the cells and histories.
use Rattle.std.proofs.Common.{◌≡◌, ◌≢◌, ℕ, zero, suc, ◌<◌, ◌≤◌, ℤ, Bool, true, false, List, [], ◌∷◌, ◌++◌, length, get_or, Option, Some, None, refl, sym, ap, ◌∙◌, subst, inl, inr, arith}
use Rattle.std.proofs.lemmas.Bool.{cases_eq}
use Rattle.std.proofs.lemmas.List.{append-nil}
use Rattle.cell_core.specs.declared.moves.Side.{Side}
use Rattle.cell_core.specs.declared.moves.Side.TheVariants.{Sender, Receiver}
use Rattle.cell_core.specs.declared.moves.Joined.{Joined}
use Rattle.cell_core.specs.declared.moves.CellMove.{CellMove}
use Rattle.cell_core.specs.declared.moves.CellMove.TheVariants.{Offer, Recall}
use Rattle.cell_core.specs.declared.cell.Standing.{Standing}
use Rattle.cell_core.specs.declared.cell.Standing.TheVariants.{Empty, Open, Taken}
use Rattle.cell_core.specs.definitions.Cells.{CellState, cell_step, cell_reply, cell_of, other, standing_at, stands, recall_reply}
use Rattle.cell_core.specs.definitions.Ends.{EndCall, Through}
use Rattle.tick_log.specs.declared.history.JoinRow.{JoinRow}
use Rattle.domain_core.specs.declared.step.ends_of.EndOf.{EndOf}
use Rattle.domain_core.specs.definitions.step.EndCalls.{end_at, recall_of, recalls, offer_of, offers}
use Rattle.domain_core.proofs.lemmas.step.StateJoins.{AreApart}
use Rattle.gals_core.specs.Channels.{ChannelsState, Moves, MovesAt, cell_in, history_in, row_in, rows_of}

pub record Split {S : Type 0} (moved : S → ℕ → CellMove → Option Joined → S → Type 0) (first : S) (calls more : List EndCall) (last : S) : Type 0 where
  pub middle : S
  pub before : Through moved first calls middle
  pub after : Through moved middle more last

pub split : {S : Type 0} (moved : S → ℕ → CellMove → Option Joined → S → Type 0) (first : S) (calls more : List EndCall) (last : S) → Through moved first (calls ++ more) last → Split moved first calls more last
split moved first [] more last h = record { middle = first; before = refl; after = h }
split moved first (c ∷ calls) more last h =
    let x = split moved h.0 calls more last h.2 in
    record { middle = x.middle; before = (h.0, h.1, x.before); after = x.after }

abbrev pub channel_of : List EndOf → ℕ → ℕ
channel_of ends k = (end_at ends k).channel

abbrev pub side_of : List EndOf → ℕ → Side
side_of ends k = (end_at ends k).side

-- a recall at an end, or none where it doesn't stand
pub record RecalledAt (e : EndOf) (old : ChannelsState) (answer : Option Joined) (new : ChannelsState) : Type 0 where
  pub cell : cell_in new e.channel ≡ cell_of e.side Empty (standing_at (other e.side) (cell_in old e.channel))
  pub answered : answer ≡ recall_reply (standing_at e.side (cell_in old e.channel))

-- the first n ends have been recalled
pub record Recalled (ends : List EndOf) (answers : List (Option Joined)) (n : ℕ) (old new : ChannelsState) : Type 0 where
  pub links : new.links ≡ old.links
  pub ticks : new.ticks ≡ old.ticks
  pub own : new.ends ≡ old.ends
  pub passed : (k : ℕ) → k < n → RecalledAt (end_at ends k) old (get_or answers k None) new
  pub others : (c : ℕ) → ((k : ℕ) → k < n → c ≢ channel_of ends k) → cell_in new c ≡ cell_in old c
  pub rows : (c : ℕ) → (history_in new c).rows ≡ (history_in old c).rows

-- one recall
record OneRecall (e : EndOf) (old : ChannelsState) (answer : Option Joined) (new : ChannelsState) : Type 0 where
  links : new.links ≡ old.links
  ticks : new.ticks ≡ old.ticks
  ends : new.ends ≡ old.ends
  here : RecalledAt e old answer new
  others : (c : ℕ) → c ≢ e.channel → cell_in new c ≡ cell_in old c
  rows : (c : ℕ) → (history_in new c).rows ≡ (history_in old c).rows

empty_side : (a : Side) (c : CellState) → stands (standing_at a c) ≡ false → c ≡ cell_of a Empty (standing_at (other a) c)
empty_side Sender c h = ap (λ x. record { sender = x; receiver = c.receiver }) (is_empty c.sender h)
  where
    is_empty : (s : Standing) → stands s ≡ false → s ≡ Empty
    is_empty Empty h = refl
    is_empty (Open v s) h = cc
    is_empty (Taken j) h = cc
empty_side Receiver c h = ap (λ x. record { sender = c.sender; receiver = x }) (is_empty c.receiver h)
  where
    is_empty : (s : Standing) → stands s ≡ false → s ≡ Empty
    is_empty Empty h = refl
    is_empty (Open v s) h = cc
    is_empty (Taken j) h = cc

no_reply : (s : Standing) → stands s ≡ false → None ≡ recall_reply s
no_reply Empty h = refl
no_reply (Open v s) h = refl
no_reply (Taken j) h = cc

one_recall : (ends : List EndOf) (n : ℕ) (standing : Bool) (answer : Option Joined) (old new : ChannelsState) → old.ends ≡ ends →
    standing ≡ stands (standing_at (side_of ends n) (cell_in old (channel_of ends n))) → (standing ≡ false → answer ≡ None) →
    Through Moves old (recall_of standing n (side_of ends n) answer) new → OneRecall (end_at ends n) old answer new
one_recall ends n true answer old new own stood alone h =
    let m : MovesAt old (channel_of ends n) (Recall (side_of ends n)) answer new = subst (λ z. MovesAt old (channel_of z n) (Recall (side_of ends n)) answer new) own (subst (λ z. Moves old n (Recall (side_of ends n)) answer z) (sym h.2) h.1) in
    record {
      links = m.same_links;
      ticks = m.same_ticks;
      ends = m.same_ends;
      here = record { cell = m.cell; answered = m.replies };
      others = m.other_cells;
      rows = λ c. elim (cases_eq c (channel_of ends n)) [
        | inl e ↦
            ap (λ z. (history_in new z).rows) e ∙ m.rows ∙ append-nil (history_in old (channel_of ends n)).rows ∙ ap (λ z. (history_in old z).rows) (sym e)
        | inr ne ↦ ap (λ z. z.rows) (m.other_histories c ne)
      ];
    }
one_recall ends n false answer old new own stood alone h =
    let c = cell_in old (channel_of ends n) in
    record {
      links = ap (λ z. z.links) h;
      ticks = ap (λ z. z.ticks) h;
      ends = ap (λ z. z.ends) h;
      here = record {
        cell = ap (λ z. cell_in z (channel_of ends n)) h ∙ empty_side (side_of ends n) c (sym stood);
        answered = alone refl ∙ no_reply (standing_at (side_of ends n) c) (sym stood);
      };
      others = λ k ne. ap (λ z. cell_in z k) h;
      rows = λ k. ap (λ z. (history_in z k).rows) h;
    }

pub all_recalled : (ends : List EndOf) (standing : List Bool) (answers : List (Option Joined)) (n : ℕ) (old new : ChannelsState) → AreApart ends → n ≤ length ends → old.ends ≡ ends →
    ((k : ℕ) → k < n → get_or standing k false ≡ stands (standing_at (side_of ends k) (cell_in old (channel_of ends k)))) →
    ((k : ℕ) → k < n → get_or standing k false ≡ false → get_or answers k None ≡ None) →
    Through Moves old (recalls ends standing answers n) new → Recalled ends answers n old new
all_recalled ends standing answers zero old new apart within own stood alone h =
    record {
      links = ap (λ z. z.links) h;
      ticks = ap (λ z. z.ticks) h;
      own = ap (λ z. z.ends) h;
      passed = λ k l. absurd (omega (arith, l));
      others = λ c f. ap (λ z. cell_in z c) h;
      rows = λ c. ap (λ z. (history_in z c).rows) h;
    }
all_recalled ends standing answers (suc n) old new apart within own stood alone h =
    let x = split Moves old (recalls ends standing answers n) (recall_of (get_or standing n false) n (side_of ends n) (get_or answers n None)) new h in
    let mid = x.middle in
    let i = all_recalled ends standing answers n old mid apart (omega (arith, within)) own (λ k l. stood k (omega (arith, l))) (λ k l. alone k (omega (arith, l))) x.before in
    let same : cell_in mid (channel_of ends n) ≡ cell_in old (channel_of ends n) =
    i.others (channel_of ends n) (λ k l. apart n k (omega (arith, within)) (omega (arith, within, l)) (λ q. omega (arith, q, l))) in
    let o = one_recall ends n (get_or standing n false) (get_or answers n None) mid new (i.own ∙ own)
    (stood n (omega arith) ∙ ap (λ z. stands (standing_at (side_of ends n) z)) (sym same)) (alone n (omega arith)) x.after in
    record {
      links = o.links ∙ i.links;
      ticks = o.ticks ∙ i.ticks;
      own = o.ends ∙ i.own;
      passed = λ k l. elim (cases_eq k n) [
        | inl e ↦
            let P : ℕ → Type 0 = λ z. RecalledAt (end_at ends z) old (get_or answers z None) new in
            subst P (sym e) (record {
              cell = o.here.cell ∙ ap (λ z. cell_of (side_of ends n) Empty (standing_at (other (side_of ends n)) z)) same;
              answered = o.here.answered ∙ ap (λ z. recall_reply (standing_at (side_of ends n) z)) same;
            })
        | inr ne ↦
            let p = i.passed k (omega (arith, l, ne)) in
            record {
              cell = o.others (channel_of ends k) (apart k n (omega (arith, within, l)) (omega (arith, within)) ne) ∙ p.cell;
              answered = p.answered;
            }
      ];
      others = λ c f. o.others c (f n (omega arith)) ∙ i.others c (λ k l. f k (omega (arith, l)));
      rows = λ c. o.rows c ∙ i.rows c;
    }

-- an offer at an end, or none where it doesn't ask
abbrev pub asked_cell : Side → Option ℤ → ℕ → CellState → CellState
asked_cell a None s c = c
asked_cell a (Some v) s c = cell_step (Offer a v s) c

abbrev pub asked_reply : Side → Option ℤ → ℕ → CellState → Option Joined
asked_reply a None s c = None
asked_reply a (Some v) s c = cell_reply (Offer a v s) c

abbrev pub new_rows : ChannelsState → ℕ → Option Joined → List JoinRow
new_rows b c None = []
new_rows b c (Some j) = row_in b c j ∷ []

pub record OfferedAt (e : EndOf) (ask : Option ℤ) (stamp : ℕ) (old : ChannelsState) (reply : Option Joined) (new : ChannelsState) : Type 0 where
  pub cell : cell_in new e.channel ≡ asked_cell e.side ask stamp (cell_in old e.channel)
  pub replied : reply ≡ asked_reply e.side ask stamp (cell_in old e.channel)
  pub rows : (history_in new e.channel).rows ≡ (history_in old e.channel).rows ++ new_rows old e.channel reply

-- the first n ends have made their offers
pub record Offered (ends : List EndOf) (asks : List (Option ℤ)) (stamp : ℕ) (replies : List (Option Joined)) (n : ℕ) (old new : ChannelsState) : Type 0 where
  pub links : new.links ≡ old.links
  pub ticks : new.ticks ≡ old.ticks
  pub own : new.ends ≡ old.ends
  pub passed : (k : ℕ) → k < n → OfferedAt (end_at ends k) (get_or asks k None) stamp old (get_or replies k None) new
  pub other_cells : (c : ℕ) → ((k : ℕ) → k < n → c ≢ channel_of ends k) → cell_in new c ≡ cell_in old c
  pub other_rows : (c : ℕ) → ((k : ℕ) → k < n → c ≢ channel_of ends k) → (history_in new c).rows ≡ (history_in old c).rows

record OneOffer (e : EndOf) (ask : Option ℤ) (stamp : ℕ) (old : ChannelsState) (reply : Option Joined) (new : ChannelsState) : Type 0 where
  links : new.links ≡ old.links
  ticks : new.ticks ≡ old.ticks
  ends : new.ends ≡ old.ends
  here : OfferedAt e ask stamp old reply new
  other_cells : (c : ℕ) → c ≢ e.channel → cell_in new c ≡ cell_in old c
  other_rows : (c : ℕ) → c ≢ e.channel → (history_in new c).rows ≡ (history_in old c).rows

row_same : (b : ChannelsState) (c : ℕ) (a : Side) (v : ℤ) (s : ℕ) (reply : Option Joined) → rows_of b c (Offer a v s) reply ≡ new_rows b c reply
row_same b c a v s None = refl
row_same b c a v s (Some j) = refl

one_offer : (ends : List EndOf) (n : ℕ) (ask : Option ℤ) (stamp : ℕ) (reply : Option Joined) (old new : ChannelsState) → old.ends ≡ ends → (ask ≡ None → reply ≡ None) →
    Through Moves old (offer_of ask n (side_of ends n) stamp reply) new → OneOffer (end_at ends n) ask stamp old reply new
one_offer ends n (Some v) stamp reply old new own alone h =
    let move = Offer (side_of ends n) v stamp in
    let m : MovesAt old (channel_of ends n) move reply new = subst (λ z. MovesAt old (channel_of z n) move reply new) own (subst (λ z. Moves old n move reply z) (sym h.2) h.1) in
    record {
      links = m.same_links;
      ticks = m.same_ticks;
      ends = m.same_ends;
      here = record {
        cell = m.cell;
        replied = m.replies;
        rows = m.rows ∙ ap (λ z. (history_in old (channel_of ends n)).rows ++ z) (row_same old (channel_of ends n) (side_of ends n) v stamp reply);
      };
      other_cells = m.other_cells;
      other_rows = λ c ne. ap (λ z. z.rows) (m.other_histories c ne);
    }
one_offer ends n None stamp reply old new own alone h =
    record {
      links = ap (λ z. z.links) h;
      ticks = ap (λ z. z.ticks) h;
      ends = ap (λ z. z.ends) h;
      here = record {
        cell = ap (λ z. cell_in z (channel_of ends n)) h;
        replied = alone refl;
        rows =
            ap (λ z. (history_in z (channel_of ends n)).rows) h
            ∙ sym (append-nil (history_in old (channel_of ends n)).rows)
            ∙ ap (λ z. (history_in old (channel_of ends n)).rows ++ new_rows old (channel_of ends n) z) (sym (alone refl));
      };
      other_cells = λ c ne. ap (λ z. cell_in z c) h;
      other_rows = λ c ne. ap (λ z. (history_in z c).rows) h;
    }

rows_kept : (a b : ChannelsState) (c : ℕ) (reply : Option Joined) → a.links ≡ b.links → a.ticks ≡ b.ticks → new_rows a c reply ≡ new_rows b c reply
rows_kept a b c None l t = refl
rows_kept a b c (Some j) l t = cc

pub all_offered : (ends : List EndOf) (asks : List (Option ℤ)) (stamp : ℕ) (replies : List (Option Joined)) (n : ℕ) (old new : ChannelsState) → AreApart ends → n ≤ length ends → old.ends ≡ ends →
    ((k : ℕ) → k < n → get_or asks k None ≡ None → get_or replies k None ≡ None) →
    Through Moves old (offers ends asks stamp replies n) new → Offered ends asks stamp replies n old new
all_offered ends asks stamp replies zero old new apart within own alone h =
    record {
      links = ap (λ z. z.links) h;
      ticks = ap (λ z. z.ticks) h;
      own = ap (λ z. z.ends) h;
      passed = λ k l. absurd (omega (arith, l));
      other_cells = λ c f. ap (λ z. cell_in z c) h;
      other_rows = λ c f. ap (λ z. (history_in z c).rows) h;
    }
all_offered ends asks stamp replies (suc n) old new apart within own alone h =
    let x = split Moves old (offers ends asks stamp replies n) (offer_of (get_or asks n None) n (side_of ends n) stamp (get_or replies n None)) new h in
    let mid = x.middle in
    let i = all_offered ends asks stamp replies n old mid apart (omega (arith, within)) own (λ k l. alone k (omega (arith, l))) x.before in
    let fresh : (k : ℕ) → k < n → channel_of ends n ≢ channel_of ends k = λ k l. apart n k (omega (arith, within)) (omega (arith, within, l)) (λ q. omega (arith, q, l)) in
    let same : cell_in mid (channel_of ends n) ≡ cell_in old (channel_of ends n) = i.other_cells (channel_of ends n) fresh in
    let o = one_offer ends n (get_or asks n None) stamp (get_or replies n None) mid new (i.own ∙ own) (alone n (omega arith)) x.after in
    record {
      links = o.links ∙ i.links;
      ticks = o.ticks ∙ i.ticks;
      own = o.ends ∙ i.own;
      passed = λ k l. elim (cases_eq k n) [
        | inl e ↦
            let P : ℕ → Type 0 = λ z. OfferedAt (end_at ends z) (get_or asks z None) stamp old (get_or replies z None) new in
            subst P (sym e) (record {
              cell = o.here.cell ∙ ap (asked_cell (side_of ends n) (get_or asks n None) stamp) same;
              replied = o.here.replied ∙ ap (asked_reply (side_of ends n) (get_or asks n None) stamp) same;
              rows =
                  o.here.rows
                  ∙ ap (λ z. z ++ new_rows mid (channel_of ends n) (get_or replies n None)) (i.other_rows (channel_of ends n) fresh)
                  ∙ ap (λ z. (history_in old (channel_of ends n)).rows ++ z) (rows_kept mid old (channel_of ends n) (get_or replies n None) i.links i.ticks);
            })
        | inr ne ↦
            let p = i.passed k (omega (arith, l, ne)) in
            let far = apart k n (omega (arith, within, l)) (omega (arith, within)) ne in
            record {
              cell = o.other_cells (channel_of ends k) far ∙ p.cell;
              replied = p.replied;
              rows = o.other_rows (channel_of ends k) far ∙ p.rows;
            }
      ];
      other_cells = λ c f. o.other_cells c (f n (omega arith)) ∙ i.other_cells c (λ k l. f k (omega (arith, l)));
      other_rows = λ c f. o.other_rows c (f n (omega arith)) ∙ i.other_rows c (λ k l. f k (omega (arith, l)));
    }
