-- The steps of a seat that is known by its table and its side.
use Rattle.std.proofs.Common.{◌≡◌, ◌≢◌, ℕ, ◌+◌, ◌*◌, ◌%◌, ◌^◌, ◌<◌, ◌≤◌, Bool, true, false, [], length, Some, None, refl, sym, ap, ◌∙◌, subst, arith}
use Rattle.std.specs.Prelude.{Option, ℤ, pos}
use Rattle.std.specs.Int.{cast_signed, w64}
use Rattle.atomic_table.specs.Table.{Allows}
use Rattle.atomic_table.specs.Seated.{TableId}
use Rattle.cell_core.specs.declared.moves.Side.{Side}
use Rattle.cell_core.specs.declared.moves.Side.TheVariants.{Sender, Receiver}
use Rattle.cell_core.specs.declared.moves.Joined.{Joined}
use Rattle.cell_core.specs.declared.moves.CellMove.{CellMove}
use Rattle.cell_core.specs.declared.moves.CellMove.TheVariants.{Offer, Recall}
use Rattle.cell_core.specs.definitions.Cells.{other, sent_value}
use Rattle.cell_core.specs.CellEnds.{OfferFits}
use Rattle.channel_cell.specs.declared.rule.Knows.{Knows}
use Rattle.channel_cell.specs.declared.rule.View.TheVariants.{Own}
use Rattle.channel_cell.specs.Tallies.{counter_in, moves_in_word, unit, most}
use Rattle.channel_cell.specs.Lanes.{value_lane, stamp_lane}
use Rattle.channel_cell.specs.Rule.{Sat, holds, knows, knows_in, value_tells, stamp_tells, offer_tells, recall_tells, value_read, stamp_read, read_value_tells, read_stamp_tells, Adds}
use Rattle.channel_cell.specs.Calls.{moves_in, tally_in, IsSeated, Moved, IsValue}
use Rattle.channel_cell.proofs.NextMoveLemmas.{small}
use Rattle.channel_cell.proofs.TableStepLemmas.{stores_value, stores_stamp, loads_value, loads_stamp, offers, recalls}

pub bounds : (me : Sat) (joins counter : ℕ) → joins ≡ (tally_in me).joins → counter ≡ (tally_in me).counter → length (moves_in me) < most → (joins ≤ most) × (counter ≤ 2 * joins + 1)
bounds me joins counter j c few = let s = small (moves_in me) in (omega (arith, s.joins, j, few), omega (arith, s.under, j, c))

module _ {table seat : TableId} {side : Side} {me : Sat} (k : IsSeated table seat side me) where
  pub may_offer : (slots id step joins counter raise : ℕ) → joins ≡ (tally_in me).joins → counter ≡ (tally_in me).counter → (tally_in me).standing ≡ false → OfferFits (knows_in me.0).kind side (sent_value side (knows_in me.0).value (pos 0)) (knows_in me.0).stamp → length (moves_in me) < most
      → step ≡ raise * unit side + 1 → counter + raise ≡ 2 * joins + 1 → Allows holds slots id me 0 (λ n. (n + step) % 2 ^ 64) (offer_tells me.0)
  may_offer slots id step joins counter raise j c down fits few is up =
      subst (λ (x : Sat). Allows holds slots id x 0 (λ n. (n + step) % 2 ^ 64) (offer_tells x.0)) (sym k.view)
      (offers side slots id step (knows_in me.0) down few fits (raise, is, omega (arith, j, c, up)))

  pub may_recall : (slots id step : ℕ) → (tally_in me).standing ≡ true → length (moves_in me) < most → step + unit side ≡ 2 ^ 64 + 1 → Allows holds slots id me 0 (λ n. (n + step) % 2 ^ 64) (recall_tells me.0)
  may_recall slots id step up few is =
      subst (λ (x : Sat). Allows holds slots id x 0 (λ n. (n + step) % 2 ^ 64) (recall_tells x.0)) (sym k.view)
      (recalls side slots id step (knows_in me.0) up few (is, (small (moves_in me)).high up))

  pub may_stamp : (slots id i new joins : ℕ) → (tally_in me).standing ≡ false → joins ≡ (tally_in me).joins → i ≡ stamp_lane side joins → Allows holds slots id me i (λ _. new) (λ _. stamp_tells me.0 new)
  may_stamp slots id i new joins down j is =
      subst (λ (x : Sat). Allows holds slots id x i (λ _. new) (λ _. stamp_tells x.0 new)) (sym k.view)
      (stores_stamp side slots id i new (knows_in me.0) down (is ∙ ap (stamp_lane side) j))

  pub stamp_put : {me' : Sat} (new : ℕ) → stamp_tells me.0 new me' → me' ≡ (Own side (knows (knows_in me.0).kind (moves_in me) (knows_in me.0).value new), [])
  stamp_put {me'} new h = subst (λ (x : Sat). stamp_tells x.0 new me') k.view h

  pub may_load : (slots id i join : ℕ) → (tally_in me).joins ≡ join + 1 → i ≡ stamp_lane (other side) join → Allows holds slots id me i (λ n. n) (λ found (after : Sat). (after ≡ me) × read_stamp_tells me.0 found)
  may_load slots id i join j is =
      subst (λ (x : Sat). Allows holds slots id x i (λ n. n) (λ found (after : Sat). (after ≡ x) × read_stamp_tells x.0 found)) (sym k.view)
      (loads_stamp side slots id i (knows_in me.0) (is ∙ two_on (other side) join _ j))
    where
      two_on : (a : Side) (n m : ℕ) → m ≡ n + 1 → stamp_lane a n ≡ stamp_lane a (m + 1)
      two_on Sender n m e = omega (arith, e)
      two_on Receiver n m e = omega (arith, e)

  pub stamp_got : (found : ℕ) → read_stamp_tells me.0 found → stamp_read (tally_in me).last found
  stamp_got found h = subst (λ (x : Sat). read_stamp_tells x.0 found) k.view h

  pub offered : {me' : Sat} (found joins : ℕ) → joins ≡ (tally_in me).joins → offer_tells me.0 found me'
      → Adds side (Own side) (knows_in me.0) found (Offer side (sent_value side (knows_in me.0).value (pos 0)) (knows_in me.0).stamp) (sent_value side (knows_in me.0).value (pos 0)) (knows_in me.0).stamp (counter_in (other side) found ≡ 2 * joins + 1) (counter_in (other side) found ≢ 2 * joins + 1) me'
  offered {me'} found joins j h =
      subst (λ n. Adds side (Own side) (knows_in me.0) found (Offer side (sent_value side (knows_in me.0).value (pos 0)) (knows_in me.0).stamp) (sent_value side (knows_in me.0).value (pos 0)) (knows_in me.0).stamp (counter_in (other side) found ≡ 2 * n + 1) (counter_in (other side) found ≢ 2 * n + 1) me') (sym j)
      (subst (λ (x : Sat). offer_tells x.0 found me') k.view h)

  pub recalled : {me' : Sat} (found joins : ℕ) → joins ≡ (tally_in me).joins → recall_tells me.0 found me'
      → Adds side (Own side) (knows_in me.0) found (Recall side) (tally_in me).value (tally_in me).stamp (2 * joins + 1 ≤ counter_in (other side) found) (counter_in (other side) found < 2 * joins + 1) me'
  recalled {me'} found joins j h =
      subst (λ n. Adds side (Own side) (knows_in me.0) found (Recall side) (tally_in me).value (tally_in me).stamp (2 * n + 1 ≤ counter_in (other side) found) (counter_in (other side) found < 2 * n + 1) me') (sym j)
      (subst (λ (x : Sat). recall_tells x.0 found me') k.view h)

-- the answer of a move, where a test b says whether it joins
pub moved : {side : Side} {k : Knows} {found : ℕ} {m : CellMove} {v : ℤ} {s : ℕ} {J N : Type 0} {me' : Sat} (b : Bool) → Adds side (Own side) k found m v s J N me' → (b ≡ true → J) → (b ≡ false → N) → Moved side k m v s b me'
moved {found = found} true h j n = record { place = moves_in_word found; reply = h.reply; value = h.value; stamp = h.stamp; now = h.added; answered = h.joins (j refl); own = h.own; fits = h.fits; theirs = h.theirs; legal = h.legal }
moved {found = found} false h j n = record { place = moves_in_word found; reply = h.reply; value = h.value; stamp = h.stamp; now = h.added; answered = h.none (n refl); own = h.own; fits = h.fits; theirs = h.theirs; legal = h.legal }

pub may_value : {table seat : TableId} {me : Sat} → IsSeated table seat Sender me → (slots id i new joins : ℕ) → (tally_in me).standing ≡ false → joins ≡ (tally_in me).joins → i ≡ value_lane joins → Allows holds slots id me i (λ _. new) (λ _. value_tells me.0 new)
may_value {table} {seat} {me} k slots id i new joins down j is =
    subst (λ (x : Sat). Allows holds slots id x i (λ _. new) (λ _. value_tells x.0 new)) (sym k.view)
    (stores_value slots id i new (knows_in me.0) down (is ∙ ap value_lane j))

pub value_put : {table seat : TableId} {me me' : Sat} → IsSeated table seat Sender me → (new : ℕ) (v : ℤ) → cast_signed w64 new ≡ v → value_tells me.0 new me' → me' ≡ (Own Sender (knows (knows_in me.0).kind (moves_in me) v (knows_in me.0).stamp), [])
value_put {table} {seat} {me} {me'} k new v is h = subst (λ (x : Sat). value_tells x.0 new me') k.view h ∙ ap (λ w. (Own Sender (knows (knows_in me.0).kind (moves_in me) w (knows_in me.0).stamp), [])) is

pub may_get : {table seat : TableId} {me : Sat} → IsSeated table seat Receiver me → (slots id i join : ℕ) → (tally_in me).joins ≡ join + 1 → i ≡ value_lane join → Allows holds slots id me i (λ n. n) (λ found (after : Sat). (after ≡ me) × read_value_tells me.0 found)
may_get {table} {seat} {me} k slots id i join j is =
    subst (λ (x : Sat). Allows holds slots id x i (λ n. n) (λ found (after : Sat). (after ≡ x) × read_value_tells x.0 found)) (sym k.view)
    (loads_value slots id i (knows_in me.0) (omega (arith, is, j)))

pub value_got : {table seat : TableId} {me : Sat} → IsSeated table seat Receiver me → (found : ℕ) (v : ℤ) → v ≡ cast_signed w64 found → read_value_tells me.0 found → IsValue (tally_in me).last v
value_got {table} {seat} {me} k found v is h = of_last (tally_in me).last (subst (λ (x : Sat). read_value_tells x.0 found) k.view h)
  where
    of_last : (r : Option Joined) → value_read r found → IsValue r v
    of_last None e = tt
    of_last (Some j) e = is ∙ e
