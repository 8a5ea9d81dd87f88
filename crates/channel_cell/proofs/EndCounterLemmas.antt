-- What the counters of two ends tell of the cell after their moves.
use Rattle.std.proofs.Common.{◌≡◌, ℕ, ◌+◌, ◌*◌, ◌≤◌, true, false, true≢false, List, [], ◌∷◌, ◌++◌, length, refl, sym, ap, subst, arith}
use Rattle.std.specs.Prelude.{Option}
use Rattle.cell_core.specs.declared.moves.Side.TheVariants.{Sender, Receiver}
use Rattle.cell_core.specs.declared.cell.Standing.{Standing}
use Rattle.cell_core.specs.declared.cell.Standing.TheVariants.{Empty, Open, Taken}
use Rattle.cell_core.specs.definitions.Cells.{CellState}
use Rattle.cell_core.specs.declared.moves.Entry.{Entry}
use Rattle.cell_core.specs.declared.moves.Joined.{Joined}
use Rattle.cell_core.specs.declared.moves.CellMove.{CellMove}
use Rattle.cell_core.specs.declared.moves.CellMove.TheVariants.{Offer, Recall}
use Rattle.cell_core.specs.definitions.Cells.{stands, after_own_offer, after_offer, offer_reply, recall_reply}
use Rattle.cell_core.specs.definitions.Histories.{entry, cell_after, AllCanMove, entries}
use Rattle.channel_cell.specs.Tallies.{Tally, none_yet, counted, tally_from, tally}

pub record Rests (t : Tally) : Type 0 where
  pub low : t.counter ≤ 2 * t.joins
  pub down : t.standing ≡ false

pub record Up (t : Tally) : Type 0 where
  pub high : t.counter ≡ 2 * t.joins + 1
  pub up : t.standing ≡ true

abbrev pub Fits : Standing → Standing → Tally → Tally → Type 0
Fits Empty Empty t u = (t.joins ≡ u.joins) × Rests t × Rests u
Fits (Open v s) Empty t u = (t.joins ≡ u.joins) × Up t × Rests u
Fits Empty (Open v s) t u = (t.joins ≡ u.joins) × Rests t × Up u
Fits (Taken j) Empty t u = (t.joins + 1 ≡ u.joins) × Up t × Rests u × (t.counter ≤ u.counter)
Fits Empty (Taken j) t u = (t.joins ≡ u.joins + 1) × Rests t × Up u × (u.counter ≤ t.counter)
Fits (Taken j) (Open v s) t u = (t.joins + 1 ≡ u.joins) × Up t × Up u
Fits (Open v s) (Taken j) t u = (t.joins ≡ u.joins + 1) × Up t × Up u
Fits (Open v s) (Open w r) t u = ⊥
Fits (Taken j) (Taken k) t u = ⊥

abbrev pub FitsCell : CellState → Tally → Tally → Type 0
FitsCell c t u = Fits c.sender c.receiver t u

pub turned : (x y : Standing) (t u : Tally) → Fits x y t u → Fits y x u t
turned Empty Empty t u h = (sym h.0, h.2, h.1)
turned (Open v s) Empty t u h = (sym h.0, h.2, h.1)
turned Empty (Open v s) t u h = (sym h.0, h.2, h.1)
turned (Taken j) Empty t u h = (sym h.0, h.2, h.1, h.3)
turned Empty (Taken j) t u h = (sym h.0, h.2, h.1, h.3)
turned (Taken j) (Open v s) t u h = (sym h.0, h.2, h.1)
turned (Open v s) (Taken j) t u h = (sym h.0, h.2, h.1)
turned (Open v s) (Open w r) t u h = h
turned (Taken j) (Taken k) t u h = h

-- an offer, by the side that makes it and the other side
offers : (a : _) (x y : Standing) (t u : Tally) (v : _) (s : ℕ) → Fits x y t u → stands x ≡ false → Fits (after_own_offer v s y) (after_offer a v s y) (counted t (Offer a v s) (offer_reply a v s y)) u
offers a Empty Empty t u v s h e = (h.0, record { high = refl; up = refl }, h.2)
offers a Empty (Open w r) t u v s h e = (ap (λ k. k + 1) h.0, record { low = omega arith; down = refl }, h.2, omega (arith, h.0, h.2.high))
offers a Empty (Taken j) t u v s h e = (h.0, record { high = refl; up = refl }, h.2)
offers a (Open w r) y t u v s h e = absurd (true≢false e)
offers a (Taken j) y t u v s h e = absurd (true≢false e)

-- a recall
recalls : (a : _) (x y : Standing) (t u : Tally) → Fits x y t u → stands x ≡ true → Fits Empty y (counted t (Recall a) (recall_reply x)) u
recalls a Empty y t u h e = absurd (true≢false (sym e))
recalls a (Open v s) Empty t u h e = (h.0, record { low = omega arith; down = refl }, h.2)
recalls a (Open v s) (Taken j) t u h e = (h.0, record { low = omega arith; down = refl }, h.2, omega (arith, h.0))
recalls a (Open v s) (Open w r) t u h e = absurd h
recalls a (Taken j) Empty t u h e = (h.0, record { low = omega arith; down = refl }, h.2)
recalls a (Taken j) (Open v s) t u h e = (h.0, record { low = omega arith; down = refl }, h.2)
recalls a (Taken j) (Taken k) t u h e = absurd h

tally_push : (t : Tally) (es : List Entry) (e : Entry) → tally_from t (es ++ e ∷ []) ≡ counted (tally_from t es) e.what e.reply
tally_push t [] e = refl
tally_push t (x ∷ es) e = tally_push (counted t x.what x.reply) es e

-- the tally after one more move
pub pushed : (es : List Entry) (n : ℕ) (m : CellMove) (r : Option Joined) → tally (es ++ entry n m r ∷ []) ≡ counted (tally es) m r
pushed es n m r = tally_push none_yet es (entry n m r)

-- the counters fit the cell, whatever the moves are
pub fits : (ms : List CellMove) → AllCanMove ms → FitsCell (cell_after ms) (tally (entries Sender ms)) (tally (entries Receiver ms))
fits [] h = (refl, record { low = omega arith; down = refl }, record { low = omega arith; down = refl })
fits (Offer Sender v s ∷ ms) h =
    let c = cell_after ms in let t = tally (entries Sender ms) in let u = tally (entries Receiver ms) in
    subst (λ x. Fits (after_own_offer v s c.receiver) (after_offer Sender v s c.receiver) x u) (sym (pushed (entries Sender ms) (length ms) _ _)) (offers Sender c.sender c.receiver t u v s (fits ms h.0) h.1)
fits (Offer Receiver v s ∷ ms) h =
    let c = cell_after ms in let t = tally (entries Sender ms) in let u = tally (entries Receiver ms) in
    subst (λ x. Fits (after_offer Receiver v s c.sender) (after_own_offer v s c.sender) t x) (sym (pushed (entries Receiver ms) (length ms) _ _)) (turned _ _ _ _ (offers Receiver c.receiver c.sender u t v s (turned _ _ _ _ (fits ms h.0)) h.1))
fits (Recall Sender ∷ ms) h =
    let c = cell_after ms in let t = tally (entries Sender ms) in let u = tally (entries Receiver ms) in
    subst (λ x. Fits Empty c.receiver x u) (sym (pushed (entries Sender ms) (length ms) _ _)) (recalls Sender c.sender c.receiver t u (fits ms h.0) h.1)
fits (Recall Receiver ∷ ms) h =
    let c = cell_after ms in let t = tally (entries Sender ms) in let u = tally (entries Receiver ms) in
    subst (λ x. Fits c.sender Empty t x) (sym (pushed (entries Receiver ms) (length ms) _ _)) (turned _ _ _ _ (recalls Receiver c.receiver c.sender u t (turned _ _ _ _ (fits ms h.0)) h.1))
