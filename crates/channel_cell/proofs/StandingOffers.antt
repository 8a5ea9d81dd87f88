-- A standing offer, and a join of it, has the value and the stamp that were offered last.
use Rattle.std.proofs.Common.{◌≡◌, ℕ, List, [], ◌∷◌, ◌++◌, length, Some, None, refl, sym, subst}
use Rattle.std.specs.Prelude.{Option, ℤ}
use Rattle.cell_core.specs.declared.moves.Side.{Side}
use Rattle.cell_core.specs.declared.moves.Side.TheVariants.{Sender, Receiver}
use Rattle.cell_core.specs.declared.cell.Standing.{Standing}
use Rattle.cell_core.specs.declared.cell.Standing.TheVariants.{Empty, Open, Taken}
use Rattle.cell_core.specs.declared.moves.Entry.{Entry}
use Rattle.cell_core.specs.declared.moves.Joined.{Joined}
use Rattle.cell_core.specs.declared.moves.CellMove.{CellMove}
use Rattle.cell_core.specs.declared.moves.CellMove.TheVariants.{Offer, Recall}
use Rattle.cell_core.specs.definitions.Cells.{after_own_offer, after_offer, offer_reply, recall_reply, cell_reply}
use Rattle.cell_core.specs.definitions.Histories.{entry, cell_after, entries, IsCellHistory}
use Rattle.channel_cell.specs.Tallies.{Tally, counted, tally}
use Rattle.channel_cell.specs.Lanes.{IsOwn}
use Rattle.channel_cell.proofs.EndCounterLemmas.{pushed}

abbrev pub Owns : Side → Standing → ℤ → ℕ → Type 0
Owns side Empty v s = Unit {0}
Owns side (Open w r) v s = (w ≡ v) × (r ≡ s)
Owns side (Taken j) v s = IsOwn side (Some j) v s

owns_offer : (a : Side) (v : ℤ) (s : ℕ) (y : Standing) → Owns a (after_own_offer v s y) v s
owns_offer a v s Empty = (refl, refl)
owns_offer a v s (Open w r) = tt
owns_offer a v s (Taken j) = (refl, refl)

other_owns : (a : Side) (v : ℤ) (s : ℕ) (y : Standing) (w : ℤ) (r : ℕ) → Owns Receiver y w r → Owns Receiver (after_offer Sender v s y) w r
other_owns a v s Empty w r h = tt
other_owns a v s (Open x q) w r h = h.1
other_owns a v s (Taken j) w r h = h

sender_owns : (a : Side) (v : ℤ) (s : ℕ) (y : Standing) (w : ℤ) (r : ℕ) → Owns Sender y w r → Owns Sender (after_offer Receiver v s y) w r
sender_owns a v s Empty w r h = tt
sender_owns a v s (Open x q) w r h = (h.1, h.0)
sender_owns a v s (Taken j) w r h = h

offered_value : (t : Tally) (a : Side) (v : ℤ) (s : ℕ) (r : Option Joined) → (v ≡ (counted t (Offer a v s) r).value) × (s ≡ (counted t (Offer a v s) r).stamp)
offered_value t a v s None = (refl, refl)
offered_value t a v s (Some j) = (refl, refl)

pub record Both_own (ms : List CellMove) : Type 0 where
  pub sender : Owns Sender (cell_after ms).sender (tally (entries Sender ms)).value (tally (entries Sender ms)).stamp
  pub receiver : Owns Receiver (cell_after ms).receiver (tally (entries Receiver ms)).value (tally (entries Receiver ms)).stamp

owns_now : (a : Side) (x : Standing) (es : List Entry) (n : ℕ) (m : CellMove) (r : Option Joined) → Owns a x (counted (tally es) m r).value (counted (tally es) m r).stamp → Owns a x (tally (es ++ entry n m r ∷ [])).value (tally (es ++ entry n m r ∷ [])).stamp
owns_now a x es n m r h = subst (λ (t : Tally). Owns a x t.value t.stamp) (sym (pushed es n m r)) h

pub owned : (ms : List CellMove) → Both_own ms
owned [] = record { sender = tt; receiver = tt }
owned (Offer Sender v s ∷ ms) =
    let h = owned ms in let y = (cell_after ms).receiver in let r = cell_reply (Offer Sender v s) (cell_after ms) in
    let o = offered_value (tally (entries Sender ms)) Sender v s r in record {
      sender = owns_now Sender (after_own_offer v s y) (entries Sender ms) (length ms) (Offer Sender v s) r (subst (λ (p : ℤ × ℕ). Owns Sender (after_own_offer v s y) p.0 p.1) (λ i. (o.0 i, o.1 i)) (owns_offer Sender v s y));
      receiver = other_owns Sender v s y _ _ h.receiver;
    }
owned (Offer Receiver v s ∷ ms) =
    let h = owned ms in let y = (cell_after ms).sender in let r = cell_reply (Offer Receiver v s) (cell_after ms) in
    let o = offered_value (tally (entries Receiver ms)) Receiver v s r in record {
      sender = sender_owns Receiver v s y _ _ h.sender;
      receiver = owns_now Receiver (after_own_offer v s y) (entries Receiver ms) (length ms) (Offer Receiver v s) r (subst (λ (p : ℤ × ℕ). Owns Receiver (after_own_offer v s y) p.0 p.1) (λ i. (o.0 i, o.1 i)) (owns_offer Receiver v s y));
    }
owned (Recall Sender ∷ ms) = record { sender = tt; receiver = (owned ms).receiver }
owned (Recall Receiver ∷ ms) = record { sender = (owned ms).sender; receiver = tt }

-- the replies to an offer and to a recall
pub own_offer : (a : Side) (v : ℤ) (s : ℕ) (y : Standing) → IsOwn a (offer_reply a v s y) v s
own_offer a v s Empty = tt
own_offer Sender v s (Open w r) = (refl, refl)
own_offer Receiver v s (Open w r) = refl
own_offer a v s (Taken j) = tt

pub own_recall : (a : Side) (x : Standing) (v : ℤ) (s : ℕ) → Owns a x v s → IsOwn a (recall_reply x) v s
own_recall a Empty v s h = tt
own_recall a (Open w r) v s h = tt
own_recall a (Taken j) v s h = h

pub sender_own : (a b : List Entry) (h : IsCellHistory a b) → Owns Sender (cell_after h.moves).sender (tally a).value (tally a).stamp
sender_own a b h = subst (λ (l : List Entry). Owns Sender (cell_after h.moves).sender (tally l).value (tally l).stamp) h.at_sender (owned h.moves).sender

pub receiver_own : (a b : List Entry) (h : IsCellHistory a b) → Owns Receiver (cell_after h.moves).receiver (tally b).value (tally b).stamp
receiver_own a b h = subst (λ (l : List Entry). Owns Receiver (cell_after h.moves).receiver (tally l).value (tally l).stamp) h.at_receiver (owned h.moves).receiver
