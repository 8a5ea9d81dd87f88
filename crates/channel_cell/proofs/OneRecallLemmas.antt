-- Not both ends recall the same join.
use Rattle.std.proofs.Common.{◌≡◌, ℕ, Bool, true, false, true≢false, List, [], ◌∷◌, length, Some, None, refl, sym, ap, ◌∙◌, subst}
use Rattle.std.specs.Prelude.{Option, ℤ}
use Rattle.std.specs.Option.{is_some}
use Rattle.cell_core.specs.declared.moves.Side.{Side}
use Rattle.cell_core.specs.declared.moves.Side.TheVariants.{Sender, Receiver}
use Rattle.cell_core.specs.declared.cell.Standing.{Standing}
use Rattle.cell_core.specs.declared.cell.Standing.TheVariants.{Empty, Open, Taken}
use Rattle.cell_core.specs.declared.moves.Entry.{Entry}
use Rattle.cell_core.specs.declared.moves.Joined.{Joined}
use Rattle.cell_core.specs.declared.moves.CellMove.{CellMove}
use Rattle.cell_core.specs.declared.moves.CellMove.TheVariants.{Offer, Recall}
use Rattle.cell_core.specs.definitions.Cells.{stands, after_own_offer, after_offer, offer_reply, recall_reply}
use Rattle.cell_core.specs.definitions.Histories.{cell_after, entries, AllCanMove, IsCellHistory}
use Rattle.channel_cell.specs.Tallies.{Tally, counted, tally}
use Rattle.channel_cell.specs.Calls.{RecalledIf}
use Rattle.channel_cell.proofs.EndCounterLemmas.{pushed}

abbrev Apart : Standing → Standing → Tally → Tally → Type 0
Apart Empty Empty t u = t.called ≡ true → u.called ≡ false
Apart (Taken j) Empty t u = u.called ≡ false
Apart Empty (Taken j) t u = t.called ≡ false
Apart Empty (Open v s) t u = Unit {0}
Apart (Open v s) y t u = Unit {0}
Apart (Taken j) (Open v s) t u = Unit {0}
Apart (Taken j) (Taken k) t u = ⊥

contra : (a b : Bool) → (a ≡ true → b ≡ false) → b ≡ true → a ≡ false
contra false b h e = refl
contra true b h e = absurd (true≢false (sym e ∙ h refl))

other_way : (x y : Standing) (t u : Tally) → Apart x y t u → Apart y x u t
other_way Empty Empty t u h = contra t.called u.called h
other_way (Taken j) Empty t u h = h
other_way Empty (Taken j) t u h = h
other_way Empty (Open v s) t u h = tt
other_way (Open v s) Empty t u h = tt
other_way (Open v s) (Open w r) t u h = tt
other_way (Open v s) (Taken j) t u h = tt
other_way (Taken j) (Open v s) t u h = tt
other_way (Taken j) (Taken k) t u h = h

offers_apart : (a : Side) (x y : Standing) (t u : Tally) (v : ℤ) (s : ℕ) → stands x ≡ false → Apart x y t u → Apart (after_own_offer v s y) (after_offer a v s y) (counted t (Offer a v s) (offer_reply a v s y)) u
offers_apart a Empty Empty t u v s e h = tt
offers_apart a Empty (Open w r) t u v s e h = refl
offers_apart a Empty (Taken j) t u v s e h = tt
offers_apart a (Open w r) y t u v s e h = absurd (true≢false e)
offers_apart a (Taken j) y t u v s e h = absurd (true≢false e)

recalls_apart : (a : Side) (x y : Standing) (t u : Tally) → stands x ≡ true → Apart x y t u → Apart Empty y (counted t (Recall a) (recall_reply x)) u
recalls_apart a Empty y t u e h = absurd (true≢false (sym e))
recalls_apart a (Open v s) Empty t u e h = λ f. absurd (true≢false (sym f))
recalls_apart a (Open v s) (Open w r) t u e h = tt
recalls_apart a (Open v s) (Taken j) t u e h = refl
recalls_apart a (Taken j) Empty t u e h = λ _. h
recalls_apart a (Taken j) (Open w r) t u e h = tt
recalls_apart a (Taken j) (Taken k) t u e h = absurd h

all_apart : (ms : List CellMove) → AllCanMove ms → Apart (cell_after ms).sender (cell_after ms).receiver (tally (entries Sender ms)) (tally (entries Receiver ms))
all_apart [] h = λ _. refl
all_apart (Offer Sender v s ∷ ms) h =
    let c = cell_after ms in let t = tally (entries Sender ms) in let u = tally (entries Receiver ms) in
    subst (λ x. Apart (after_own_offer v s c.receiver) (after_offer Sender v s c.receiver) x u) (sym (pushed (entries Sender ms) (length ms) _ _)) (offers_apart Sender c.sender c.receiver t u v s h.1 (all_apart ms h.0))
all_apart (Offer Receiver v s ∷ ms) h =
    let c = cell_after ms in let t = tally (entries Sender ms) in let u = tally (entries Receiver ms) in
    subst (λ x. Apart (after_offer Receiver v s c.sender) (after_own_offer v s c.sender) t x) (sym (pushed (entries Receiver ms) (length ms) _ _)) (other_way (after_own_offer v s c.sender) (after_offer Receiver v s c.sender) _ t (offers_apart Receiver c.receiver c.sender u t v s h.1 (other_way c.sender c.receiver t u (all_apart ms h.0))))
all_apart (Recall Sender ∷ ms) h =
    let c = cell_after ms in let t = tally (entries Sender ms) in let u = tally (entries Receiver ms) in
    subst (λ x. Apart Empty c.receiver x u) (sym (pushed (entries Sender ms) (length ms) _ _)) (recalls_apart Sender c.sender c.receiver t u h.1 (all_apart ms h.0))
all_apart (Recall Receiver ∷ ms) h =
    let c = cell_after ms in let t = tally (entries Sender ms) in let u = tally (entries Receiver ms) in
    subst (λ x. Apart c.sender Empty t x) (sym (pushed (entries Receiver ms) (length ms) _ _)) (other_way Empty c.sender _ t (recalls_apart Receiver c.receiver c.sender u t h.1 (other_way c.sender c.receiver t u (all_apart ms h.0))))

apart_of : (a b : List Entry) (h : IsCellHistory a b) → Apart (cell_after h.moves).sender (cell_after h.moves).receiver (tally a) (tally b)
apart_of a b h =
    subst (λ (t : List Entry × List Entry). Apart (cell_after h.moves).sender (cell_after h.moves).receiver (tally t.0) (tally t.1)) (λ i. (h.at_sender i, h.at_receiver i)) (all_apart h.moves h.legal)

empty_apart : (x y : Standing) (t u : Tally) → stands x ≡ false → stands y ≡ false → Apart x y t u → t.called ≡ true → u.called ≡ true → ⊥
empty_apart Empty Empty t u e f h a b = true≢false (sym b ∙ h a)
empty_apart Empty (Open v s) t u e f h a b = true≢false f
empty_apart Empty (Taken j) t u e f h a b = true≢false f
empty_apart (Open v s) y t u e f h a b = true≢false e
empty_apart (Taken j) y t u e f h a b = true≢false e

called_now : (side : Side) (n : ℕ) (es after : List Entry) (r : Option Joined) (b : Bool) → RecalledIf side n b es r after → is_some r ≡ true → (tally after).called ≡ true
called_now side n es after r false h e = absurd (true≢false (sym e ∙ ap is_some h.0))
called_now side n es after None true h e = absurd (true≢false (sym e))
called_now side n es after (Some j) true h e = ap (λ l. (tally l).called) h ∙ ap (λ (t : Tally). t.called) (pushed es n (Recall side) (Some j))

none_of : (r : Option Joined) → (is_some r ≡ true → ⊥) → r ≡ None
none_of None h = refl
none_of (Some j) h = absurd (h refl)

-- at most one of two last recalls finds a join
pub one_at_most : (n m : ℕ) (a b es fs : List Entry) (sent received : Option Joined) (h : IsCellHistory es fs) → stands (cell_after h.moves).sender ≡ false → stands (cell_after h.moves).receiver ≡ false
    → RecalledIf Sender n (tally a).standing a sent es → RecalledIf Receiver m (tally b).standing b received fs → is_some sent ≡ true → received ≡ None
one_at_most n m a b es fs sent received h x y s r e =
    none_of received (λ f. empty_apart _ _ _ _ x y (apart_of es fs h) (called_now Sender n a es sent _ s e) (called_now Receiver m b fs received _ r f))
