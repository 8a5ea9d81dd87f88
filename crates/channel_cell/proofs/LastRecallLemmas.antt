-- After the last recalls neither end stands, so both know the same joins.
use Rattle.std.proofs.Common.{◌≡◌, ℕ, suc, ◌+◌, Bool, true, false, List, [], ◌∷◌, length, map, Some, None, IfSome, refl, sym, ap, ◌∙◌, subst, arith, length-append}
use Rattle.std.specs.Prelude.{Option, ℤ}
use Rattle.std.specs.Option.{is_some}
use Rattle.cell_core.specs.declared.moves.Side.{Side}
use Rattle.cell_core.specs.declared.moves.Side.TheVariants.{Sender, Receiver}
use Rattle.cell_core.specs.declared.moves.Entry.{Entry}
use Rattle.cell_core.specs.declared.moves.Joined.{Joined}
use Rattle.cell_core.specs.declared.moves.CellMove.TheVariants.{Offer, Recall}
use Rattle.cell_core.specs.definitions.Ends.{JoinFits}
use Rattle.cell_core.specs.definitions.Histories.{entry}
use Rattle.channel_cell.specs.Tallies.{Tally, none_yet, counted, tally_from, tally, offer_if, offer_of}
use Rattle.channel_cell.specs.definitions.Channels.{EndState, turned, join_in, joins_in, Recalled, Settles}
use Rattle.channel_cell.specs.Calls.{RecalledIf, RecallsLast}
use Rattle.channel_cell.proofs.EndCounterLemmas.{pushed}
use Rattle.channel_cell.proofs.TableStepLemmas.{sender_stands, receiver_stands}
use Rattle.channel_cell.proofs.OneRecallLemmas.{one_at_most}
use Rattle.channel_cell.proofs.KnownJoins.{joins_push, same_joins}

down : (side : Side) (n : ℕ) (es after : List Entry) (r : Option Joined) (b : Bool) → (tally es).standing ≡ b → RecalledIf side n b es r after → (tally after).standing ≡ false
down side n es after r false e h = ap (λ l. (tally l).standing) h.1 ∙ e
down side n es after None true e h = ap (λ l. (tally l).standing) h ∙ ap (λ (t : Tally). t.standing) (pushed es n (Recall side) None)
down side n es after (Some j) true e h = ap (λ l. (tally l).standing) h ∙ ap (λ (t : Tally). t.standing) (pushed es n (Recall side) (Some j))

one_more : (t : Tally) (e : Entry) → (counted t e.what e.reply).joins ≡ t.joins + length (join_in e.reply)
one_more t e = by_parts e.what e.reply
  where
    by_parts : (m : Rattle.cell_core.specs.declared.moves.CellMove.CellMove) (r : Option Joined) → (counted t m r).joins ≡ t.joins + length (join_in r)
    by_parts (Offer a v s) None = omega arith
    by_parts (Offer a v s) (Some j) = omega arith
    by_parts (Recall a) None = omega arith
    by_parts (Recall a) (Some j) = omega arith

count_from : (t : Tally) (es : List Entry) → (tally_from t es).joins ≡ t.joins + length (joins_in es)
count_from t [] = omega arith
count_from t (e ∷ es) = omega (arith, count_from (counted t e.what e.reply) es, one_more t e, length-append (join_in e.reply) (joins_in es))

count : (es : List Entry) → length (joins_in es) ≡ (tally es).joins
count es = omega (arith, count_from none_yet es)

length_map : (l : List Joined) → length (map turned l) ≡ length l
length_map [] = refl
length_map (j ∷ l) = ap suc (length_map l)

counted_last : (side : Side) (n : ℕ) (es after : List Entry) (r : Option Joined) (b : Bool) → RecalledIf side n b es r after → length (joins_in after) ≡ length (joins_in es) + length (join_in r)
counted_last side n es after r false h = ap (λ l. length (joins_in l)) h.1 ∙ omega (arith, ap (λ x. length (join_in x)) h.0)
counted_last side n es after r true h = ap (λ l. length (joins_in l)) h ∙ ap length (joins_push es (entry n (Recall side) r)) ∙ length-append (joins_in es) (join_in r)

recalled_if : (side : Side) (n : ℕ) (b : Bool) (v : ℤ) (s : ℕ) (es after : List Entry) (r : Option Joined) → RecalledIf side n b es r after → Recalled side n (offer_if b v s) es r after
recalled_if side n false v s es after r h = h
recalled_if side n true v s es after r h = h

pub settles : (a b : EndState) (sent received : Option Joined) (joins : ℕ) → a.offer ≡ offer_of (tally a.moves) → b.offer ≡ offer_of (tally b.moves) → RecallsLast a.moves b.moves sent received → joins ≡ (tally a.moves).joins + length (join_in sent)
    → IfSome sent (JoinFits a.kind) → IfSome received (JoinFits b.kind) → Settles a b sent received joins
settles a b sent received joins mine theirs h is sent_fits received_fits =
    let t = tally a.moves in let u = tally b.moves in
    let x = down Sender _ a.moves h.sender sent t.standing refl h.at_sender in
    let y = down Receiver _ b.moves h.receiver received u.standing refl h.at_receiver in
    let same = same_joins h.sender h.receiver h.legal (sender_stands h.sender h.receiver h.legal ∙ x) (receiver_stands h.sender h.receiver h.legal ∙ y) in
    let n : length (joins_in h.sender) ≡ joins = omega (arith, counted_last Sender _ a.moves h.sender sent t.standing h.at_sender, count a.moves, is) in record {
      sender = h.sender;
      receiver = h.receiver;
      at_sender = subst (λ o. Recalled Sender (length a.moves + length b.moves) o a.moves sent h.sender) (sym mine) (recalled_if Sender _ t.standing t.value t.stamp a.moves h.sender sent h.at_sender);
      at_receiver = subst (λ o. Recalled Receiver (length h.sender + length b.moves) o b.moves received h.receiver) (sym theirs) (recalled_if Receiver _ u.standing u.value u.stamp b.moves h.receiver received h.at_receiver);
      legal = h.legal;
      same = same;
      count_sent = n;
      count_received = sym (ap length same) ∙ length_map (joins_in h.sender) ∙ n;
      at_most_one = λ e. ap is_some (one_at_most _ _ a.moves b.moves h.sender h.receiver sent received h.legal (sender_stands h.sender h.receiver h.legal ∙ x) (receiver_stands h.sender h.receiver h.legal ∙ y) h.at_sender h.at_receiver e);
      sent_fits = sent_fits;
      received_fits = received_fits;
    }
