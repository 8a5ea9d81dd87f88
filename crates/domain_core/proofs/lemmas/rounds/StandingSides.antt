-- Which side of a cell stands after moves, and that it can be recalled.
use Rattle.std.proofs.Common.{◌≡◌, ℕ, suc, Bool, true, false, cond, List, [], ◌∷◌, ◌++◌, Option, Some, None, refl, sym, ap, ◌∙◌}
use Rattle.cell_core.specs.declared.moves.Side.{Side}
use Rattle.cell_core.specs.declared.moves.Side.TheVariants.{Sender, Receiver}
use Rattle.cell_core.specs.declared.moves.Joined.{Joined}
use Rattle.cell_core.specs.declared.moves.CellMove.{CellMove}
use Rattle.cell_core.specs.declared.moves.CellMove.TheVariants.{Offer, Recall}
use Rattle.cell_core.specs.declared.cell.Standing.{Standing}
use Rattle.cell_core.specs.declared.cell.Standing.TheVariants.{Empty, Open, Taken}
use Rattle.cell_core.specs.definitions.Cells.{CellState, cell_step, cell_reply, CanMove, stands, standing_at, recall_reply}
use Rattle.cell_core.specs.definitions.Histories.{Runs, side_of}
use Rattle.domain_core.specs.definitions.rounds.Rounds.{MoveMade, recall_move}
use Rattle.domain_core.specs.definitions.rounds.Interleavings.{placed, if_of, moves_of}

-- the cell after moves
abbrev pub through : CellState → List MoveMade → CellState
through s [] = s
through s (m ∷ ms) = through (cell_step m.what s) ms

-- a side's own move leaves it standing
abbrev pub opens : CellMove → Option Joined → Bool
opens (Offer a v t) None = true
opens (Offer a v t) (Some j) = false
opens (Recall a) reply = false

abbrev last_opens : List MoveMade → Bool → Bool
last_opens [] b = b
last_opens (m ∷ ms) b = last_opens ms (opens m.what m.reply)

abbrev cell : Standing → Standing → CellState
cell x y = record { sender = x; receiver = y }

first_stands : (a : Side) (w : CellMove) (reply : Option Joined) (k : ℕ) (ms : List MoveMade) (x y : Standing) → reply ≡ cell_reply w (cell x y) → CanMove w (cell x y) →
    Runs (cell_step w (cell x y)) (placed k ms) →
    ((u v : Standing) → Runs (cell u v) (placed k ms) → stands (standing_at a (through (cell u v) ms)) ≡ last_opens (moves_of a ms) (stands (standing_at a (cell u v)))) →
    stands (standing_at a (through (cell_step w (cell x y)) ms)) ≡ last_opens (if_of a (side_of w) (record { what = w; reply = reply }) (moves_of a ms)) (stands (standing_at a (cell x y)))
first_stands Sender (Offer Sender v t) reply k ms x Empty told can runs more = more _ _ runs ∙ ap (λ z. last_opens (moves_of Sender ms) (opens (Offer Sender v t) z)) (sym told)
first_stands Sender (Offer Sender v t) reply k ms x (Open w u) told can runs more = more _ _ runs ∙ ap (λ z. last_opens (moves_of Sender ms) (opens (Offer Sender v t) z)) (sym told)
first_stands Sender (Offer Sender v t) reply k ms x (Taken j) told can runs more = more _ _ runs ∙ ap (λ z. last_opens (moves_of Sender ms) (opens (Offer Sender v t) z)) (sym told)
first_stands Receiver (Offer Sender v t) reply k ms x Empty told can runs more = more _ _ runs
first_stands Receiver (Offer Sender v t) reply k ms x (Open w u) told can runs more = more _ _ runs
first_stands Receiver (Offer Sender v t) reply k ms x (Taken j) told can runs more = more _ _ runs
first_stands Receiver (Offer Receiver v t) reply k ms Empty y told can runs more = more _ _ runs ∙ ap (λ z. last_opens (moves_of Receiver ms) (opens (Offer Receiver v t) z)) (sym told)
first_stands Receiver (Offer Receiver v t) reply k ms (Open w u) y told can runs more = more _ _ runs ∙ ap (λ z. last_opens (moves_of Receiver ms) (opens (Offer Receiver v t) z)) (sym told)
first_stands Receiver (Offer Receiver v t) reply k ms (Taken j) y told can runs more = more _ _ runs ∙ ap (λ z. last_opens (moves_of Receiver ms) (opens (Offer Receiver v t) z)) (sym told)
first_stands Sender (Offer Receiver v t) reply k ms Empty y told can runs more = more _ _ runs
first_stands Sender (Offer Receiver v t) reply k ms (Open w u) y told can runs more = more _ _ runs
first_stands Sender (Offer Receiver v t) reply k ms (Taken j) y told can runs more = more _ _ runs
first_stands Sender (Recall Sender) reply k ms x y told can runs more = more _ _ runs
first_stands Receiver (Recall Sender) reply k ms x y told can runs more = more _ _ runs
first_stands Sender (Recall Receiver) reply k ms x y told can runs more = more _ _ runs
first_stands Receiver (Recall Receiver) reply k ms x y told can runs more = more _ _ runs

stands_after : (a : Side) (k : ℕ) (ms : List MoveMade) (x y : Standing) → Runs (cell x y) (placed k ms) →
    stands (standing_at a (through (cell x y) ms)) ≡ last_opens (moves_of a ms) (stands (standing_at a (cell x y)))
stands_after a k [] x y h = refl
stands_after a k (m ∷ ms) x y h = first_stands a m.what m.reply (suc k) ms x y h.1 h.0 h.2 (λ u v. stands_after a (suc k) ms u v)

last_offer : (front : List MoveMade) (m : MoveMade) (b : Bool) → last_opens (front ++ m ∷ []) b ≡ opens m.what m.reply
last_offer [] m b = refl
last_offer (f ∷ front) m b = last_offer front m (opens f.what f.reply)

-- a side whose last move is an offer without a join stands
pub stands_last : (a : Side) (k : ℕ) (ms front : List MoveMade) (m : MoveMade) (x y : Standing) → Runs (cell x y) (placed k ms) → moves_of a ms ≡ front ++ m ∷ [] → opens m.what m.reply ≡ true →
    stands (standing_at a (through (cell x y) ms)) ≡ true
stands_last a k ms front m x y h e o =
    stands_after a k ms x y h ∙ ap (λ l. last_opens l (stands (standing_at a (cell x y)))) e ∙ last_offer front m (stands (standing_at a (cell x y))) ∙ o

runs_from : (s : CellState) (n k : ℕ) (ms : List MoveMade) → Runs s (placed k ms) → Runs s (placed n ms)
runs_from s n k [] h = tt
runs_from s n k (m ∷ ms) h = (h.0, h.1, runs_from (cell_step m.what s) (suc n) (suc k) ms h.2)

pub runs_append : (s : CellState) (n k : ℕ) (ms last : List MoveMade) → Runs s (placed n ms) → Runs (through s ms) (placed k last) → Runs s (placed n (ms ++ last))
runs_append s n k [] last h l = runs_from s n k last l
runs_append s n k (m ∷ ms) last h l = (h.0, h.1, runs_append (cell_step m.what s) (suc n) k ms last h.2 l)

-- the recall of a side is right, where there is one
pub record CanRecall (side : Standing) (q : Option (Option Joined)) : Type 0 where
  pub up : (reply : Option Joined) → q ≡ Some reply → stands side ≡ true
  pub told : (reply : Option Joined) → q ≡ Some reply → reply ≡ recall_reply side

-- last recalls of both sides, of which a cut domain makes none
pub last_run : (x y : Standing) (k : ℕ) (cut cut' : Bool) (q q' : Option (Option Joined)) → (cut ≡ false → CanRecall x q) → (cut' ≡ false → CanRecall y q') →
    Runs (cell x y) (placed k (cond cut [] (recall_move Sender q []) ++ cond cut' [] (recall_move Receiver q' [])))
last_run x y k true true q q' f g = tt
last_run x y k true false q None f g = tt
last_run x y k true false q (Some r) f g = let b = g refl in (b.up r refl, b.told r refl, tt)
last_run x y k false true None q' f g = tt
last_run x y k false true (Some r) q' f g = let a = f refl in (a.up r refl, a.told r refl, tt)
last_run x y k false false None None f g = tt
last_run x y k false false None (Some r) f g = let b = g refl in (b.up r refl, b.told r refl, tt)
last_run x y k false false (Some r) None f g = let a = f refl in (a.up r refl, a.told r refl, tt)
last_run x y k false false (Some r) (Some u) f g = let a = f refl in let b = g refl in (a.up r refl, a.told r refl, (b.up u refl, b.told u refl, tt))

pub last_of_sender : (cut cut' : Bool) (q q' : Option (Option Joined)) →
    moves_of Sender (cond cut [] (recall_move Sender q []) ++ cond cut' [] (recall_move Receiver q' [])) ≡ cond cut [] (recall_move Sender q [])
last_of_sender true true q q' = refl
last_of_sender true false q None = refl
last_of_sender true false q (Some r) = refl
last_of_sender false true None q' = refl
last_of_sender false true (Some r) q' = refl
last_of_sender false false None None = refl
last_of_sender false false None (Some r) = refl
last_of_sender false false (Some r) None = refl
last_of_sender false false (Some r) (Some u) = refl

pub last_of_receiver : (cut cut' : Bool) (q q' : Option (Option Joined)) →
    moves_of Receiver (cond cut [] (recall_move Sender q []) ++ cond cut' [] (recall_move Receiver q' [])) ≡ cond cut' [] (recall_move Receiver q' [])
last_of_receiver true true q q' = refl
last_of_receiver true false q None = refl
last_of_receiver true false q (Some r) = refl
last_of_receiver false true None q' = refl
last_of_receiver false true (Some r) q' = refl
last_of_receiver false false None None = refl
last_of_receiver false false None (Some r) = refl
last_of_receiver false false (Some r) None = refl
last_of_receiver false false (Some r) (Some u) = refl
