-- A legal history and its moves merged by place.
use Rattle.std.proofs.Common.{◌≡◌, ℕ, suc, List, [], ◌∷◌, ◌++◌, length, refl, ap, sym, subst, ◌∙◌, append_assoc}
use Rattle.cell_core.specs.declared.moves.Side.{Side}
use Rattle.cell_core.specs.declared.moves.Side.TheVariants.{Sender, Receiver}
use Rattle.cell_core.specs.declared.moves.CellMove.{CellMove}
use Rattle.cell_core.specs.declared.moves.Entry.{Entry}
use Rattle.cell_core.specs.definitions.Cells.{CellState, empty_cell, cell_step, cell_reply, CanMove}
use Rattle.cell_core.specs.definitions.Histories.{entry, cell_after, AllCanMove, side_of, if_side, entries, IsCellHistory, Runs, TakesNext, AreByPlace, RunsByPlace}

append-nil : (xs : List Entry) → xs ++ [] ≡ xs
append-nil [] = refl
append-nil (x ∷ xs) = ap (λ l. x ∷ l) (append-nil xs)

same_entry : (e : Entry) (n : ℕ) (c : CellState) → e.place ≡ n → e.reply ≡ cell_reply e.what c → entry n e.what (cell_reply e.what c) ≡ e
same_entry e n c place reply = ap (λ k. entry k e.what (cell_reply e.what c)) (sym place) ∙ ap (λ r. entry e.place e.what r) (sym reply)

-- what is left of the two lists after the entry, and that the entry stood before it
record Taken (a : Side) (e : Entry) (sent received ss rs : List Entry) (Then : List Entry → List Entry → Type 0) : Type 0 where
  ss' : List Entry
  rs' : List Entry
  rest : Then ss' rs'
  at_sender : if_side Sender a sent e ++ ss' ≡ sent ++ ss
  at_receiver : if_side Receiver a received e ++ rs' ≡ received ++ rs

taken : (a : Side) (e : Entry) (sent received ss rs : List Entry) (Then : List Entry → List Entry → Type 0) → TakesNext a e ss rs Then → Taken a e sent received ss rs Then
taken Sender e sent received ss rs Then next = record { ss' = next.0; rs' = rs; rest = next.2; at_sender = append_assoc sent (e ∷ []) next.0 ∙ ap (λ l. sent ++ l) (sym next.1); at_receiver = refl }
taken Receiver e sent received ss rs Then next = record { ss' = ss; rs' = next.0; rest = next.2; at_sender = refl; at_receiver = append_assoc received (e ∷ []) next.0 ∙ ap (λ l. received ++ l) (sym next.1) }

-- more moves of a history
record More (ms : List CellMove) (ss rs : List Entry) : Type 0 where
  moves : List CellMove
  legal : AllCanMove moves
  at_sender : entries Sender moves ≡ entries Sender ms ++ ss
  at_receiver : entries Receiver moves ≡ entries Receiver ms ++ rs

gathered : (es : List Entry) (ms : List CellMove) (ss rs : List Entry) → AllCanMove ms → Runs (cell_after ms) es → AreByPlace (length ms) es ss rs → More ms ss rs
gathered [] ms ss rs legal runs by_place = record {
  moves = ms;
  legal = legal;
  at_sender = sym (ap (λ l. entries Sender ms ++ l) by_place.0 ∙ append-nil (entries Sender ms));
  at_receiver = sym (ap (λ l. entries Receiver ms ++ l) by_place.1 ∙ append-nil (entries Receiver ms));
}
gathered (e ∷ es) ms ss rs legal runs by_place =
    let a = side_of e.what in
    let t = taken a e (entries Sender ms) (entries Receiver ms) ss rs (AreByPlace (suc (length ms)) es) by_place.1 in
    let same = same_entry e (length ms) (cell_after ms) by_place.0 runs.1 in
    let more = gathered es (e.what ∷ ms) t.ss' t.rs' (legal, runs.0) runs.2 t.rest in
    record {
      moves = more.moves;
      legal = more.legal;
      at_sender = more.at_sender ∙ ap (λ x. if_side Sender a (entries Sender ms) x ++ t.ss') same ∙ t.at_sender;
      at_receiver = more.at_receiver ∙ ap (λ x. if_side Receiver a (entries Receiver ms) x ++ t.rs') same ∙ t.at_receiver;
    }

pub history-by_place : (sender receiver : List Entry) → RunsByPlace sender receiver → IsCellHistory sender receiver
history-by_place sender receiver h =
    let more = gathered h.merged [] sender receiver tt h.runs h.by_place in
    record { moves = more.moves; legal = more.legal; at_sender = more.at_sender; at_receiver = more.at_receiver }

-- the cell after entries
abbrev after : CellState → List Entry → CellState
after c [] = c
after c (e ∷ es) = after (cell_step e.what c) es

runs_more : (c : CellState) (es : List Entry) (e : Entry) → Runs c es → CanMove e.what (after c es) → e.reply ≡ cell_reply e.what (after c es) → Runs c (es ++ e ∷ [])
runs_more c [] e runs can reply = (can, reply, tt)
runs_more c (x ∷ es) e runs can reply = (runs.0, runs.1, runs_more (cell_step x.what c) es e runs.2 can reply)

after_more : (c : CellState) (es : List Entry) (e : Entry) → after c (es ++ e ∷ []) ≡ cell_step e.what (after c es)
after_more c [] e = refl
after_more c (x ∷ es) e = after_more (cell_step x.what c) es e

takes_more : (a b : Side) (x e : Entry) (ss rs : List Entry) (Then Next : List Entry → List Entry → Type 0) →
    ((us vs : List Entry) → Then us vs → Next (if_side Sender b us e) (if_side Receiver b vs e)) →
    TakesNext a x ss rs Then → TakesNext a x (if_side Sender b ss e) (if_side Receiver b rs e) Next
takes_more Sender Sender x e ss rs Then Next more next = (next.0 ++ e ∷ [], ap (λ l. l ++ e ∷ []) next.1, more next.0 rs next.2)
takes_more Sender Receiver x e ss rs Then Next more next = (next.0, next.1, more next.0 rs next.2)
takes_more Receiver Sender x e ss rs Then Next more next = (next.0, next.1, more ss next.0 next.2)
takes_more Receiver Receiver x e ss rs Then Next more next = (next.0 ++ e ∷ [], ap (λ l. l ++ e ∷ []) next.1, more ss next.0 next.2)

takes_last : (b : Side) (e : Entry) (ss rs : List Entry) (n : ℕ) → ss ≡ [] → rs ≡ [] → TakesNext b e (if_side Sender b ss e) (if_side Receiver b rs e) (AreByPlace n [])
takes_last Sender e ss rs n no_ss no_rs = ([], ap (λ l. l ++ e ∷ []) no_ss, (refl, no_rs))
takes_last Receiver e ss rs n no_ss no_rs = ([], ap (λ l. l ++ e ∷ []) no_rs, (no_ss, refl))

-- the place after so many entries from n on
abbrev place_after : ℕ → List Entry → ℕ
place_after n [] = n
place_after n (e ∷ es) = place_after (suc n) es

by_place_more : (n : ℕ) (es : List Entry) (e : Entry) (ss rs : List Entry) → e.place ≡ place_after n es → AreByPlace n es ss rs →
    AreByPlace n (es ++ e ∷ []) (if_side Sender (side_of e.what) ss e) (if_side Receiver (side_of e.what) rs e)
by_place_more n [] e ss rs place h = (place, takes_last (side_of e.what) e ss rs (suc n) h.0 h.1)
by_place_more n (x ∷ es) e ss rs place h =
    (h.0, takes_more (side_of x.what) (side_of e.what) x e ss rs (AreByPlace (suc n) es) (AreByPlace (suc n) (es ++ e ∷ [])) (λ us vs. by_place_more (suc n) es e us vs place) h.1)

place_more : (n : ℕ) (es : List Entry) (e : Entry) → place_after n (es ++ e ∷ []) ≡ suc (place_after n es)
place_more n [] e = refl
place_more n (x ∷ es) e = place_more (suc n) es e

-- the moves of a history, merged by place
record Merged (ms : List CellMove) : Type 0 where
  merged : List Entry
  runs : Runs empty_cell merged
  at_end : after empty_cell merged ≡ cell_after ms
  by_place : AreByPlace 0 merged (entries Sender ms) (entries Receiver ms)
  places : place_after 0 merged ≡ length ms

merged_moves : (ms : List CellMove) → AllCanMove ms → Merged ms
merged_moves [] legal = record { merged = []; runs = tt; at_end = refl; by_place = (refl, refl); places = refl }
merged_moves (m ∷ ms) legal =
    let before = merged_moves ms legal.0 in
    let e = entry (length ms) m (cell_reply m (cell_after ms)) in
    record {
      merged = before.merged ++ e ∷ [];
      runs = runs_more empty_cell before.merged e before.runs (subst (CanMove m) (sym before.at_end) legal.1) (ap (cell_reply m) (sym before.at_end));
      at_end = after_more empty_cell before.merged e ∙ ap (cell_step m) before.at_end;
      by_place = by_place_more 0 before.merged e (entries Sender ms) (entries Receiver ms) (sym before.places) before.by_place;
      places = place_more 0 before.merged e ∙ ap suc before.places;
    }

pub by_place-history : (sender receiver : List Entry) → IsCellHistory sender receiver → RunsByPlace sender receiver
by_place-history sender receiver h =
    let all = merged_moves h.moves h.legal in
    record {
      merged = all.merged;
      runs = all.runs;
      by_place = subst (λ ss. AreByPlace 0 all.merged ss receiver) h.at_sender (subst (AreByPlace 0 all.merged (entries Sender h.moves)) h.at_receiver all.by_place);
    }
