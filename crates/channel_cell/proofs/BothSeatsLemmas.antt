-- The steps of the seat with both lists.
use Rattle.std.proofs.Common.{◌≡◌, ℕ, ◌+◌, ◌*◌, ◌%◌, ◌^◌, ◌<◌, ◌≤◌, Bool, true, false, [], ◌∷◌, ◌++◌, length, Some, None, IfSome, refl, sym, ap, ◌∙◌, subst, arith}
use Rattle.std.specs.Prelude.{Option, ℤ}
use Rattle.std.specs.Int.{cast_signed, w64}
use Rattle.atomic_table.specs.Table.{Allows}
use Rattle.atomic_table.specs.Seated.{TableId}
use Rattle.cell_core.specs.declared.moves.Side.{Side}
use Rattle.cell_core.specs.declared.moves.Side.TheVariants.{Sender, Receiver}
use Rattle.cell_core.specs.declared.moves.Joined.{Joined}
use Rattle.cell_core.specs.declared.moves.CellMove.{CellMove}
use Rattle.cell_core.specs.declared.moves.CellMove.TheVariants.{Recall}
use Rattle.cell_core.specs.definitions.Cells.{other}
use Rattle.cell_core.specs.definitions.Ends.{JoinFits}
use Rattle.cell_core.specs.definitions.Histories.{entry, IsCellHistory}
use Rattle.channel_cell.specs.declared.rule.View.TheVariants.{Both}
use Rattle.channel_cell.specs.Tallies.{Tally, counted, counter_in, unit, most}
use Rattle.channel_cell.specs.Lanes.{value_lane, stamp_lane, IsOwn}
use Rattle.channel_cell.specs.Rule.{Sat, holds, knows, both_recall_tells, read_both_tells, learn_tells, value_read, stamp_read}
use Rattle.channel_cell.specs.Calls.{held, replaced, tally_of, moves_made, IsJoined, MovedBoth, DoneBoth, Is, IsValue}
use Rattle.channel_cell.proofs.EndCounterLemmas.{pushed}
use Rattle.channel_cell.proofs.NextMoveLemmas.{small, last_is}
use Rattle.channel_cell.proofs.AnsweredMoves.{joins_some, some_is}
use Rattle.channel_cell.proofs.TableStepLemmas.{both_recalls_sender, both_recalls_receiver, both_loads, learns}

module _ {table seat : TableId} {me : Sat} (k : IsJoined table seat me) where
  pub may_recall_sender : (slots id step : ℕ) → (tally_of Sender me).standing ≡ true → length (held Sender me).moves < most → step + unit Sender ≡ 2 ^ 64 + 1 → Allows holds slots id me 0 (λ n. (n + step) % 2 ^ 64) (both_recall_tells Sender me.0)
  may_recall_sender slots id step up few is =
      subst (λ (x : Sat). Allows holds slots id x 0 (λ n. (n + step) % 2 ^ 64) (both_recall_tells Sender x.0)) (sym k.view)
      (both_recalls_sender slots id step (held Sender me) (held Receiver me) up few (is, (small (held Sender me).moves).high up))

  pub may_recall_receiver : (slots id step : ℕ) → (tally_of Receiver me).standing ≡ true → length (held Receiver me).moves < most → step + unit Receiver ≡ 2 ^ 64 + 1 → Allows holds slots id me 0 (λ n. (n + step) % 2 ^ 64) (both_recall_tells Receiver me.0)
  may_recall_receiver slots id step up few is =
      subst (λ (x : Sat). Allows holds slots id x 0 (λ n. (n + step) % 2 ^ 64) (both_recall_tells Receiver x.0)) (sym k.view)
      (both_recalls_receiver slots id step (held Sender me) (held Receiver me) up few (is, (small (held Receiver me).moves).high up))

  pub may_read : (slots id i : ℕ) → Allows holds slots id me i (λ n. n) (λ found (after : Sat). (after ≡ me) × read_both_tells i me.0 found)
  may_read slots id i =
      subst (λ (x : Sat). Allows holds slots id x i (λ n. n) (λ found (after : Sat). (after ≡ x) × read_both_tells i x.0 found)) (sym k.view) (both_loads slots id i (held Sender me) (held Receiver me))

  pub may_learn : (slots id : ℕ) → Allows holds slots id me 0 (λ n. n) (learn_tells me.0)
  may_learn slots id = subst (λ (x : Sat). Allows holds slots id x 0 (λ n. n) (learn_tells x.0)) (sym k.view) (learns slots id (held Sender me) (held Receiver me))

  pub learnt : (me' : Sat) (found : ℕ) → learn_tells me.0 found me' → IsCellHistory (held Sender me).moves (held Receiver me).moves
  learnt me' found h = subst (λ (x : Sat). learn_tells x.0 found me') k.view h

  pub stamp_got : (side : Side) (word found join : ℕ) → (tally_of side me).joins ≡ join + 1 → word ≡ stamp_lane (other side) join → read_both_tells word me.0 found → stamp_read (tally_of side me).last found
  stamp_got Sender word found join j is h = (subst (λ (x : Sat). read_both_tells word x.0 found) k.view h).0 (omega (arith, is, j))
  stamp_got Receiver word found join j is h = (subst (λ (x : Sat). read_both_tells word x.0 found) k.view h).1 (omega (arith, is, j))

  pub value_got : (word found join : ℕ) (v : ℤ) → v ≡ cast_signed w64 found → (tally_of Receiver me).joins ≡ join + 1 → word ≡ value_lane join → read_both_tells word me.0 found → IsValue (tally_of Receiver me).last v
  value_got word found join v e j is h = of_last (tally_of Receiver me).last ((subst (λ (x : Sat). read_both_tells word x.0 found) k.view h).2 (omega (arith, is, j)))
    where
      of_last : (r : Option Joined) → value_read r found → IsValue r v
      of_last None x = tt
      of_last (Some j) x = e ∙ x

  pub recalled_sender : {me' : Sat} (found joins : ℕ) (b : Bool) → joins ≡ (tally_of Sender me).joins → both_recall_tells Sender me.0 found me' → (b ≡ true → 2 * joins + 1 ≤ counter_in Receiver found) → (b ≡ false → counter_in Receiver found < 2 * joins + 1)
      → MovedBoth Sender me (Recall Sender) (tally_of Sender me).value (tally_of Sender me).stamp b me'
  recalled_sender {me'} found joins b is h yes_it no_it =
      let x = subst (λ (y : Sat). both_recall_tells Sender y.0 found me') k.view h in record {
        reply = x.0.reply;
        value = x.0.value;
        stamp = x.0.stamp;
        now = x.0.added ∙ ap (λ n. (Both (knows (held Sender me).kind ((held Sender me).moves ++ entry n (Recall Sender) x.0.reply ∷ []) x.0.value x.0.stamp) (held Receiver me), [])) x.1;
        answered = by_test b (λ t. x.0.joins (subst (λ n. 2 * n + 1 ≤ counter_in Receiver found) is (yes_it t))) (λ f. x.0.none (subst (λ n. counter_in Receiver found < 2 * n + 1) is (no_it f)));
        own = x.0.own;
        fits = x.0.fits;
      }
    where
      by_test : {r : Bool} (b : Bool) → (b ≡ true → r ≡ true) → (b ≡ false → r ≡ false) → r ≡ b
      by_test true t f = t refl
      by_test false t f = f refl

  pub recalled_receiver : {me' : Sat} (found joins : ℕ) (b : Bool) → joins ≡ (tally_of Receiver me).joins → both_recall_tells Receiver me.0 found me' → (b ≡ true → 2 * joins + 1 ≤ counter_in Sender found) → (b ≡ false → counter_in Sender found < 2 * joins + 1)
      → MovedBoth Receiver me (Recall Receiver) (tally_of Receiver me).value (tally_of Receiver me).stamp b me'
  recalled_receiver {me'} found joins b is h yes_it no_it =
      let x = subst (λ (y : Sat). both_recall_tells Receiver y.0 found me') k.view h in record {
        reply = x.0.reply;
        value = x.0.value;
        stamp = x.0.stamp;
        now = x.0.added ∙ ap (λ n. (Both (held Sender me) (knows (held Receiver me).kind ((held Receiver me).moves ++ entry n (Recall Receiver) x.0.reply ∷ []) x.0.value x.0.stamp), [])) x.1;
        answered = by_test b (λ t. x.0.joins (subst (λ n. 2 * n + 1 ≤ counter_in Sender found) is (yes_it t))) (λ f. x.0.none (subst (λ n. counter_in Sender found < 2 * n + 1) is (no_it f)));
        own = x.0.own;
        fits = x.0.fits;
      }
    where
      by_test : {r : Bool} (b : Bool) → (b ≡ true → r ≡ true) → (b ≡ false → r ≡ false) → r ≡ b
      by_test true t f = t refl
      by_test false t f = f refl

-- a move that joined, and its answer

tally_now : (side : Side) (old new : Sat) (m : CellMove) (r : Option Joined) (v : ℤ) (s : ℕ) → new ≡ (replaced side old (knows (held side old).kind ((held side old).moves ++ entry (moves_made old) m r ∷ []) v s), []) → tally_of side new ≡ counted (tally_of side old) m r
tally_now Sender old new m r v s now = ap (tally_of Sender) now ∙ pushed (held Sender old).moves (moves_made old) m r
tally_now Receiver old new m r v s now = ap (tally_of Receiver) now ∙ pushed (held Receiver old).moves (moves_made old) m r

module _ {side : Side} {old : Sat} {m : CellMove} {v : ℤ} {s : ℕ} {b : Bool} {new : Sat} (h : MovedBoth side old m v s b new) where
  last_now : (tally_of side new).last ≡ h.reply
  last_now = ap (λ (t : Tally). t.last) (tally_now side old new m h.reply h.value h.stamp h.now) ∙ last_is (tally_of side old) m h.reply

  pub both_own : IsOwn side (tally_of side new).last v s
  both_own = subst (λ r. IsOwn side r v s) (sym last_now) h.own

  pub both_joins : b ≡ true → (joins : ℕ) → joins ≡ (tally_of side old).joins → (tally_of side new).joins ≡ joins + 1
  both_joins t joins j = ap (λ (t : Tally). t.joins) (tally_now side old new m h.reply h.value h.stamp h.now) ∙ joins_some (tally_of side old) m h.reply (h.answered ∙ t) ∙ ap (λ n. n + 1) (sym j)

  pub both_some : {last : Sat} → b ≡ true → (answer : Joined) → Is (tally_of side new).last answer → last ≡ new → DoneBoth side old m (Some answer) last
  both_some {last} t answer i same =
      let r : h.reply ≡ Some answer = some_is h.reply answer (h.answered ∙ t) (subst (λ x. Is x answer) last_now i) in
      record { value = h.value; stamp = h.stamp; now = same ∙ h.now ∙ ap (λ x. (replaced side old (knows (held side old).kind ((held side old).moves ++ entry (moves_made old) m x ∷ []) h.value h.stamp), [])) r; fits = subst (λ x. IfSome x (JoinFits (held side old).kind)) r h.fits }
