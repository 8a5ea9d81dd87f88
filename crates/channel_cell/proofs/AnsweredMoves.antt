-- Moves with their answers, and what an end keeps after them.
use Rattle.std.proofs.Common.{◌≡◌, ℕ, ◌+◌, ◌≤◌, Bool, true, false, true≢false, [], ◌∷◌, ◌++◌, length, Some, None, IfSome, refl, sym, ap, ◌∙◌, subst, arith}
use Rattle.std.specs.Prelude.{Option, ℤ}
use Rattle.std.specs.Option.{is_some}
use Rattle.atomic_table.specs.Seated.{TableId}
use Rattle.cell_core.specs.declared.moves.Side.{Side}
use Rattle.cell_core.specs.declared.moves.Joined.{Joined}
use Rattle.cell_core.specs.declared.moves.CellMove.{CellMove}
use Rattle.cell_core.specs.declared.moves.CellMove.TheVariants.{Offer, Recall}
use Rattle.cell_core.specs.definitions.Histories.{entry}
use Rattle.cell_core.specs.definitions.Ends.{StandingOffer}
use Rattle.cell_core.specs.definitions.Ends.{JoinFits}
use Rattle.channel_cell.specs.declared.rule.Knows.{Knows}
use Rattle.channel_cell.specs.declared.rule.View.TheVariants.{Own}
use Rattle.channel_cell.specs.definitions.Channels.{EndState, LegalFor, Makes, offer_left}
use Rattle.channel_cell.specs.Tallies.{Tally, tally, counted, offer_if, offer_of, most}
use Rattle.channel_cell.specs.Lanes.{IsOwn}
use Rattle.channel_cell.specs.Rule.{Sat, knows, knows_in}
use Rattle.channel_cell.specs.Calls.{kind_in, moves_in, tally_in, Moved, Done, Is, KeepsEnd, end_state}
use Rattle.channel_cell.proofs.EndCounterLemmas.{pushed}
use Rattle.channel_cell.proofs.NextMoveLemmas.{length-push, last_is}

tally_now : (side : Side) (k : Knows) (place : ℕ) (m : CellMove) (r : Option Joined) (v : ℤ) (s : ℕ) (me : Sat) → me ≡ (Own side (knows k.kind (k.moves ++ entry place m r ∷ []) v s), []) → tally_in me ≡ counted (tally k.moves) m r
tally_now side k place m r v s me now = ap tally_in now ∙ pushed k.moves place m r

pub joins_some : (t : Tally) (m : CellMove) (r : Option Joined) → is_some r ≡ true → (counted t m r).joins ≡ t.joins + 1
joins_some t m None e = absurd (true≢false (sym e))
joins_some t (Offer a v s) (Some j) e = refl
joins_some t (Recall a) (Some j) e = refl

-- a move that joined
pub moved_joins : {side : Side} {k : Knows} {m : CellMove} {v : ℤ} {s : ℕ} {me : Sat} → Moved side k m v s true me → (joins : ℕ) → joins ≡ (tally k.moves).joins → (tally_in me).joins ≡ joins + 1
moved_joins {side} {k} {m} {v} {s} {me} h joins j =
    ap (λ (t : Tally). t.joins) (tally_now side k h.place m h.reply h.value h.stamp me h.now) ∙ joins_some (tally k.moves) m h.reply h.answered ∙ ap (λ n. n + 1) (sym j)

last_now : {side : Side} {k : Knows} {m : CellMove} {v : ℤ} {s : ℕ} {b : Bool} {me : Sat} (h : Moved side k m v s b me) → (tally_in me).last ≡ h.reply
last_now {side} {k} {m} {v} {s} {b} {me} h = ap (λ (t : Tally). t.last) (tally_now side k h.place m h.reply h.value h.stamp me h.now) ∙ last_is (tally k.moves) m h.reply

pub moved_own : {side : Side} {k : Knows} {m : CellMove} {v : ℤ} {s : ℕ} {b : Bool} {me : Sat} → Moved side k m v s b me → IsOwn side (tally_in me).last v s
moved_own {side} {k} {m} {v} {s} {b} {me} h = subst (λ r. IsOwn side r v s) (sym (last_now h)) h.own

pub some_is : (r : Option Joined) (j : Joined) → is_some r ≡ true → Is r j → r ≡ Some j
some_is None j e i = absurd (true≢false (sym e))
some_is (Some k) j e i = ap Some i

pub done_some : {side : Side} {k : Knows} {m : CellMove} {v : ℤ} {s : ℕ} {me me' : Sat} (h : Moved side k m v s true me) (answer : Joined) → Is (tally_in me).last answer → me' ≡ me → Done side k m v s (Some answer) me'
done_some {side} {k} {m} {v} {s} {me} {me'} h answer i same =
    let r : h.reply ≡ Some answer = some_is h.reply answer h.answered (subst (λ x. Is x answer) (last_now h) i) in record {
      place = h.place;
      value = h.value;
      stamp = h.stamp;
      now = same ∙ h.now ∙ ap (λ x. (Own side (knows k.kind (k.moves ++ entry h.place m x ∷ []) h.value h.stamp), [])) r;
      own = subst (λ x. IsOwn side x v s) r h.own;
      fits = subst (λ x. IfSome x (JoinFits k.kind)) r h.fits;
      theirs = h.theirs;
      legal = subst (λ x. LegalFor side (k.moves ++ entry h.place m x ∷ []) h.theirs) r h.legal;
    }

-- what an end keeps after a move with this answer
pub keeps_after : {table channel channel' : TableId} {side : Side} {me me' : Sat} {joins counter : ℕ} {standing : Bool} {value : ℤ} {stamp room : ℕ} {m : CellMove} {answer : Option Joined} {l : Knows} {v : ℤ} {s : ℕ}
    → KeepsEnd table channel side me joins counter standing value stamp room → channel' ≡ channel → Done side l m v s answer me' → l.moves ≡ moves_in me
    → (joins' counter' : ℕ) (standing' : Bool) (value' : ℤ) (stamp' room' : ℕ) → joins' ≡ (counted (tally_in me) m answer).joins → counter' ≡ (counted (tally_in me) m answer).counter → standing' ≡ (counted (tally_in me) m answer).standing
    → value' ≡ (counted (tally_in me) m answer).value → stamp' ≡ (counted (tally_in me) m answer).stamp → room' + 1 ≡ room
    → KeepsEnd table channel' side me' joins' counter' standing' value' stamp' room'
keeps_after {side = side} {me = me} {me' = me'} {m = m} {answer = answer} {l = l} k same d own joins' counter' standing' value' stamp' room' j c u v s less =
    let list : moves_in me' ≡ l.moves ++ entry d.place m answer ∷ [] = ap moves_in d.now in
    let sum : tally_in me' ≡ counted (tally_in me) m answer = tally_now side l d.place m answer d.value d.stamp me' d.now ∙ ap (λ es. counted (tally es) m answer) own in record {
      seated = record { word = k.seated.word; sits = same ∙ k.seated.sits; view = d.now ∙ ap (λ w. (Own side w, [])) (sym (ap (λ (x : Sat). knows_in x.0) d.now)) };
      joins_are = j ∙ sym (ap (λ (t : Tally). t.joins) sum);
      counter_is = c ∙ sym (ap (λ (t : Tally). t.counter) sum);
      standing_is = u ∙ sym (ap (λ (t : Tally). t.standing) sum);
      value_is = v ∙ sym (ap (λ (t : Tally). t.value) sum);
      stamp_is = s ∙ sym (ap (λ (t : Tally). t.stamp) sum);
      room_is = subst (λ x. x + room' ≤ most) (sym (ap length list ∙ length-push l.moves (entry d.place m answer) ∙ ap (λ es. length es + 1) own)) (omega (arith, k.room_is, less));
    }

left_is : (t : Tally) (m : CellMove) (r : Option Joined) → offer_of (counted t m r) ≡ offer_left m r
left_is t (Offer a v s) None = refl
left_is t (Offer a v s) (Some j) = refl
left_is t (Recall a) None = refl
left_is t (Recall a) (Some j) = refl

-- what is seen of the end, where its side gives the move
pub made : {channel channel' : TableId} {side : Side} {me' : Sat} {answer : Option Joined} {l : Knows} {v : ℤ} {s room room' : ℕ} (me : Sat) (turn : Side → CellMove) (old : EndState) → end_state channel side (knows_in me.0) room ≡ old → channel' ≡ channel
    → Done side l (turn side) v s answer me' → l.kind ≡ kind_in me → l.moves ≡ moves_in me → room' + 1 ≡ room → Makes old (end_state channel' side (knows_in me'.0) room') (turn old.side) answer
made {channel' = channel'} {side = side} {me' = me'} {answer = answer} {l = l} {room' = room'} me turn old is same d kind own less =
    let m = turn side in
    subst (λ (e : EndState). Makes e (end_state channel' side (knows_in me'.0) room') (turn e.side) answer) is record {
      same_channel = same;
      same_side = refl;
      same_kind = ap kind_in d.now ∙ kind;
      room = less;
      offer = ap offer_of (tally_now side l d.place m answer d.value d.stamp me' d.now) ∙ left_is (tally l.moves) m answer;
      place = d.place;
      made = ap moves_in d.now ∙ ap (λ es. es ++ entry d.place m answer ∷ []) own;
      theirs = d.theirs;
      legal = subst (λ es. LegalFor side es d.theirs) (sym (ap moves_in d.now)) d.legal;
    }

is_standing : (b : Bool) (v : ℤ) (s : ℕ) → b ≡ is_some (offer_if b v s)
is_standing false v s = refl
is_standing true v s = refl

-- an end stands as its offer is seen to
pub stands_seen : {o : Option StandingOffer} (t : Tally) → offer_of t ≡ o → t.standing ≡ is_some o
stands_seen t e = is_standing t.standing t.value t.stamp ∙ ap is_some e
