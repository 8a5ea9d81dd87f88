-- Both ends know the same joins, but for one that is not yet recalled.
use Rattle.std.proofs.Common.{◌≡◌, ℕ, List, [], ◌∷◌, ◌++◌, length, map, true, false, true≢false, refl, sym, ap, ◌∙◌, subst, append_assoc}
use Rattle.std.specs.Prelude.{ℤ}
use Rattle.cell_core.specs.declared.moves.Side.{Side}
use Rattle.cell_core.specs.declared.moves.Side.TheVariants.{Sender, Receiver}
use Rattle.cell_core.specs.declared.cell.Standing.{Standing}
use Rattle.cell_core.specs.declared.cell.Standing.TheVariants.{Empty, Open, Taken}
use Rattle.cell_core.specs.declared.moves.Entry.{Entry}
use Rattle.cell_core.specs.declared.moves.Joined.{Joined}
use Rattle.cell_core.specs.declared.moves.CellMove.{CellMove}
use Rattle.cell_core.specs.declared.moves.CellMove.TheVariants.{Offer, Recall}
use Rattle.cell_core.specs.definitions.Cells.{stands, after_own_offer, after_offer, offer_reply, recall_reply}
use Rattle.cell_core.specs.definitions.Histories.{entry, cell_after, entries, AllCanMove, IsCellHistory}
use Rattle.channel_cell.specs.definitions.Channels.{turned, join_in, joins_in}

turned_twice : (l : List Joined) → map turned (map turned l) ≡ l
turned_twice [] = refl
turned_twice (j ∷ l) = ap (λ x. j ∷ x) (turned_twice l)

map_push : (l k : List Joined) → map turned (l ++ k) ≡ map turned l ++ map turned k
map_push [] k = refl
map_push (j ∷ l) k = ap (λ x. turned j ∷ x) (map_push l k)

nil_after : (l : List Joined) → l ++ [] ≡ l
nil_after [] = refl
nil_after (j ∷ l) = ap (λ x. j ∷ x) (nil_after l)

pub joins_push : (es : List Entry) (e : Entry) → joins_in (es ++ e ∷ []) ≡ joins_in es ++ join_in e.reply
joins_push [] e = nil_after (join_in e.reply)
joins_push (x ∷ es) e = ap (λ l. join_in x.reply ++ l) (joins_push es e) ∙ sym (append_assoc (join_in x.reply) (joins_in es) (join_in e.reply))

abbrev tail : Standing → List Joined
tail Empty = []
tail (Open v s) = []
tail (Taken j) = j ∷ []

abbrev Even : Standing → Standing → List Joined → List Joined → Type 0
Even x y l k = map turned (l ++ tail x) ≡ k ++ tail y

back : (x y : Standing) (l k : List Joined) → Even x y l k → Even y x k l
back x y l k h = sym (ap (map turned) h) ∙ turned_twice (l ++ tail x)

plain : (l k : List Joined) → map turned (l ++ []) ≡ k ++ [] → map turned l ≡ k
plain l k h = sym (ap (map turned) (nil_after l)) ∙ h ∙ nil_after k

even_offer : (a : Side) (x y : Standing) (v : ℤ) (s : ℕ) (l k : List Joined) → stands x ≡ false → Even x y l k → Even (after_own_offer v s y) (after_offer a v s y) (l ++ join_in (offer_reply a v s y)) k
even_offer a Empty Empty v s l k e h = ap (λ x. map turned (x ++ [])) (nil_after l) ∙ h
even_offer Sender Empty (Open w r) v s l k e h = ap (map turned) (nil_after (l ++ _ ∷ [])) ∙ map_push l _ ∙ ap (λ x. x ++ record { value = v; mine = r; theirs = s } ∷ []) (plain l k h)
even_offer Receiver Empty (Open w r) v s l k e h = ap (map turned) (nil_after (l ++ _ ∷ [])) ∙ map_push l _ ∙ ap (λ x. x ++ record { value = w; mine = r; theirs = s } ∷ []) (plain l k h)
even_offer a Empty (Taken j) v s l k e h = ap (λ x. map turned (x ++ [])) (nil_after l) ∙ h
even_offer a (Open w r) y v s l k e h = absurd (true≢false e)
even_offer a (Taken j) y v s l k e h = absurd (true≢false e)

even_recall : (x y : Standing) (l k : List Joined) → stands x ≡ true → Even x y l k → Even Empty y (l ++ join_in (recall_reply x)) k
even_recall Empty y l k e h = absurd (true≢false (sym e))
even_recall (Open v s) y l k e h = ap (λ x. map turned (x ++ [])) (nil_after l) ∙ h
even_recall (Taken j) y l k e h = ap (map turned) (nil_after (l ++ j ∷ [])) ∙ h

all_even : (ms : List CellMove) → AllCanMove ms → Even (cell_after ms).sender (cell_after ms).receiver (joins_in (entries Sender ms)) (joins_in (entries Receiver ms))
all_even [] h = refl
all_even (Offer Sender v s ∷ ms) h =
    let c = cell_after ms in let k = joins_in (entries Receiver ms) in
    subst (λ l. Even (after_own_offer v s c.receiver) (after_offer Sender v s c.receiver) l k) (sym (joins_push (entries Sender ms) (entry (length ms) _ _))) (even_offer Sender c.sender c.receiver v s _ k h.1 (all_even ms h.0))
all_even (Offer Receiver v s ∷ ms) h =
    let c = cell_after ms in let l = joins_in (entries Sender ms) in
    subst (λ k. Even (after_offer Receiver v s c.sender) (after_own_offer v s c.sender) l k) (sym (joins_push (entries Receiver ms) (entry (length ms) _ _))) (back (after_own_offer v s c.sender) (after_offer Receiver v s c.sender) _ l (even_offer Receiver c.receiver c.sender v s _ l h.1 (back c.sender c.receiver l _ (all_even ms h.0))))
all_even (Recall Sender ∷ ms) h =
    let c = cell_after ms in let k = joins_in (entries Receiver ms) in
    subst (λ l. Even Empty c.receiver l k) (sym (joins_push (entries Sender ms) (entry (length ms) _ _))) (even_recall c.sender c.receiver _ k h.1 (all_even ms h.0))
all_even (Recall Receiver ∷ ms) h =
    let c = cell_after ms in let l = joins_in (entries Sender ms) in
    subst (λ k. Even c.sender Empty l k) (sym (joins_push (entries Receiver ms) (entry (length ms) _ _))) (back Empty c.sender _ l (even_recall c.receiver c.sender _ l h.1 (back c.sender c.receiver l _ (all_even ms h.0))))

tail_none : (x : Standing) → stands x ≡ false → tail x ≡ []
tail_none Empty e = refl
tail_none (Open v s) e = refl
tail_none (Taken j) e = absurd (true≢false e)

-- where neither end stands, both know the same joins
pub same_joins : (a b : List Entry) (h : IsCellHistory a b) → stands (cell_after h.moves).sender ≡ false → stands (cell_after h.moves).receiver ≡ false → map turned (joins_in a) ≡ joins_in b
same_joins a b h x y =
    let e = all_even h.moves h.legal in
    let f = subst (λ (t : List Joined × List Joined). map turned (joins_in (entries Sender h.moves) ++ t.0) ≡ joins_in (entries Receiver h.moves) ++ t.1) (λ i. (tail_none _ x i, tail_none _ y i)) e in
    subst (λ (t : List Entry × List Entry). map turned (joins_in t.0) ≡ joins_in t.1) (λ i. (h.at_sender i, h.at_receiver i)) (plain _ _ f)
