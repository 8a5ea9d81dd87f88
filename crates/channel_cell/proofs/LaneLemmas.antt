-- The lanes go on holding what they are to hold.
use Rattle.std.proofs.Common.{◌≡◌, ◌≢◌, ℕ, ◌+◌, ◌%◌, ◌<◌, true, false, true≢false, List, length, set, Some, None, refl, sym, ap, ◌∙◌, subst, arith}
use Rattle.std.proofs.lemmas.List.{get_or-set_same, get_or-set_other}
use Rattle.std.specs.Prelude.{Option, ℤ, slice_index}
use Rattle.std.specs.Option.{is_some}
use Rattle.std.specs.Int.{cast_signed, w64}
use Rattle.cell_core.specs.declared.moves.Side.{Side}
use Rattle.cell_core.specs.declared.moves.Side.TheVariants.{Sender, Receiver}
use Rattle.cell_core.specs.declared.cell.Standing.{Standing}
use Rattle.cell_core.specs.declared.cell.Standing.TheVariants.{Empty, Open, Taken}
use Rattle.cell_core.specs.declared.moves.Joined.{Joined}
use Rattle.cell_core.specs.declared.moves.CellMove.TheVariants.{Offer, Recall}
use Rattle.cell_core.specs.definitions.Cells.{stands, other, join_of, after_own_offer, after_offer, offer_reply, recall_reply}
use Rattle.channel_cell.specs.Tallies.{Tally, counted}
use Rattle.channel_cell.specs.Lanes.{value_lane, stamp_lane, Says, SaysOpen, SaysTaken, SaysLast, Shows}
use Rattle.channel_cell.proofs.EndCounterLemmas.{Fits}

-- the lanes of a side for join number n are as they were
abbrev pub Alike : List ℕ → List ℕ → Side → ℕ → Type 0
Alike before after Sender n = (slice_index after (value_lane n) ≡ slice_index before (value_lane n)) × (slice_index after (stamp_lane Sender n) ≡ slice_index before (stamp_lane Sender n))
Alike before after Receiver n = slice_index after (stamp_lane Receiver n) ≡ slice_index before (stamp_lane Receiver n)

module _ (before after : List ℕ) where
  pub says_on : (side : Side) (n : ℕ) (v : ℤ) (s : ℕ) → Alike before after side n → Says before side n v s → Says after side n v s
  says_on Sender n v s a h = (ap (cast_signed w64) a.0 ∙ h.0, a.1 ∙ h.1)
  says_on Receiver n v s a h = a ∙ h

  pub open_on : (side : Side) (x : Standing) (n : ℕ) → Alike before after side n → SaysOpen before side x n → SaysOpen after side x n
  open_on side Empty n a h = tt
  open_on side (Open v s) n a h = says_on side n v s a h
  open_on side (Taken j) n a h = tt

  pub taken_on : (side : Side) (x : Standing) (n : ℕ) → Alike before after side n → SaysTaken before side x n → SaysTaken after side x n
  taken_on side Empty n a h = tt
  taken_on side (Open v s) n a h = tt
  taken_on side (Taken j) n a h = says_on side n j.value j.theirs a h

  pub last_on : (side : Side) (r : Option Joined) (n : ℕ) → Alike before after side n → SaysLast before side r n → SaysLast after side r n
  last_on side None n a h = tt
  last_on side (Some j) n a h = says_on side n j.value j.theirs a h

  -- words that are alike in all lanes
  pub shows_on : (side : Side) (x : Standing) (n : ℕ) (y : Standing) (k : ℕ) (r : Option Joined) → ((m : ℕ) → Alike before after side m) → Shows before side x n y k r → Shows after side x n y k r
  shows_on side x n y k r a h = record { of_open = open_on side x n (a n) h.of_open; of_taken = taken_on side y k (a k) h.of_taken; of_last = last_on side r (k + 1) (a (k + 1)) h.of_last }

  -- A side that doesn't stand stores into its lanes for the next join: the others are alike.
  pub shows_stored : (side : Side) (x y : Standing) (t u : Tally) → Fits x y t u → stands x ≡ false → (is_some u.last ≡ true → u.standing ≡ false) → ((m : ℕ) → m % 2 ≢ t.joins % 2 → Alike before after side m)
      → Shows before side x t.joins y u.joins u.last → Shows after side x t.joins y u.joins u.last
  shows_stored side Empty Empty t u f e last a h = record { of_open = tt; of_taken = tt; of_last = last_on side u.last (u.joins + 1) (a (u.joins + 1) (λ k. omega (arith, k, f.0))) h.of_last }
  shows_stored side Empty (Open w s) t u f e last a h = record { of_open = tt; of_taken = tt; of_last = standing_last u.last (λ k. true≢false (sym f.2.up ∙ last k)) }
    where
      standing_last : (r : Option Joined) → (is_some r ≡ true → ⊥) → SaysLast after side r (u.joins + 1)
      standing_last None n = tt
      standing_last (Some j) n = absurd (n refl)
  shows_stored side Empty (Taken j) t u f e last a h = record { of_open = tt; of_taken = says_on side u.joins j.value j.theirs (a u.joins (λ k. omega (arith, k, f.0))) h.of_taken; of_last = standing_last u.last (λ k. true≢false (sym f.2.up ∙ last k)) }
    where
      standing_last : (r : Option Joined) → (is_some r ≡ true → ⊥) → SaysLast after side r (u.joins + 1)
      standing_last None n = tt
      standing_last (Some j) n = absurd (n refl)
  shows_stored side (Open v s) y t u f e last a h = absurd (true≢false e)
  shows_stored side (Taken j) y t u f e last a h = absurd (true≢false e)

-- join number n + 2 has the lanes of join number n
says_again : (words : List ℕ) (side : Side) (n m : ℕ) (v : ℤ) (s : ℕ) → n % 2 ≡ m % 2 → Says words side n v s → Says words side m v s
says_again words Sender n m v s e h = (ap (λ k. cast_signed w64 (slice_index words (1 + k))) (sym e) ∙ h.0, ap (λ k. slice_index words (3 + k)) (sym e) ∙ h.1)
says_again words Receiver n m v s e h = ap (λ k. slice_index words (5 + k)) (sym e) ∙ h

-- this side as the sender's offer and a receiver's join of it see it
said_to : (words : List ℕ) (side : Side) (n : ℕ) (v : ℤ) (s : ℕ) (w : ℤ) (r : ℕ) → Says words side n v s → Says words side n (join_of (other side) w r v s).value s
said_to words Sender n v s w r h = h
said_to words Receiver n v s w r h = h

module _ (words : List ℕ) (side : Side) where
  -- the lanes of the side that makes an offer
  pub mine_offers : (x y : Standing) (t u : Tally) (v : ℤ) (s : ℕ) → Fits x y t u → stands x ≡ false → (is_some u.last ≡ true → u.standing ≡ false) → Says words side t.joins v s → Shows words side x t.joins y u.joins u.last
      → Shows words side (after_own_offer v s y) (counted t (Offer side v s) (offer_reply side v s y)).joins (after_offer side v s y) u.joins u.last
  mine_offers Empty Empty t u v s f e last said h = record { of_open = said; of_taken = tt; of_last = h.of_last }
  mine_offers Empty (Open w r) t u v s f e last said h = record {
    of_open = tt;
    of_taken = subst (λ k. Says words side k (join_of (other side) w r v s).value s) f.0 (said_to words side t.joins v s w r said);
    of_last = h.of_last;
  }
  mine_offers Empty (Taken j) t u v s f e last said h = record { of_open = said; of_taken = h.of_taken; of_last = h.of_last }
  mine_offers (Open w r) y t u v s f e last said h = absurd (true≢false e)
  mine_offers (Taken j) y t u v s f e last said h = absurd (true≢false e)

  -- the lanes of the other side
  pub theirs_offers : (x y : Standing) (t u : Tally) (v : ℤ) (s : ℕ) → Fits x y t u → stands x ≡ false → Shows words (other side) y u.joins x t.joins t.last
      → Shows words (other side) (after_offer side v s y) u.joins (after_own_offer v s y) (counted t (Offer side v s) (offer_reply side v s y)).joins (counted t (Offer side v s) (offer_reply side v s y)).last
  theirs_offers Empty Empty t u v s f e h = record { of_open = tt; of_taken = tt; of_last = tt }
  theirs_offers Empty (Open w r) t u v s f e h = record {
    of_open = tt;
    of_taken = tt;
    of_last = says_again words (other side) u.joins (t.joins + 1 + 1) (join_of side v s w r).value r (omega (arith, f.0)) (heard side w r h.of_open);
  }
    where
      heard : (a : Side) (w : ℤ) (r : ℕ) → Says words (other a) u.joins w r → Says words (other a) u.joins (join_of a v s w r).value r
      heard Sender w r h = h
      heard Receiver w r h = h
  theirs_offers Empty (Taken j) t u v s f e h = record { of_open = tt; of_taken = tt; of_last = tt }
  theirs_offers (Open w r) y t u v s f e h = absurd (true≢false e)
  theirs_offers (Taken j) y t u v s f e h = absurd (true≢false e)

  pub mine_recalls : (x y : Standing) (t u : Tally) → Fits x y t u → stands x ≡ true → Shows words side x t.joins y u.joins u.last
      → Shows words side Empty (counted t (Recall side) (recall_reply x)).joins y u.joins u.last
  mine_recalls x y t u f e h = record { of_open = tt; of_taken = h.of_taken; of_last = h.of_last }

  pub theirs_recalls : (x y : Standing) (t u : Tally) → Fits x y t u → stands x ≡ true → Shows words (other side) y u.joins x t.joins t.last
      → Shows words (other side) y u.joins Empty (counted t (Recall side) (recall_reply x)).joins (counted t (Recall side) (recall_reply x)).last
  theirs_recalls Empty y t u f e h = absurd (true≢false (sym e))
  theirs_recalls (Open v s) y t u f e h = record { of_open = h.of_open; of_taken = tt; of_last = tt }
  theirs_recalls (Taken j) y t u f e h = record { of_open = h.of_open; of_taken = tt; of_last = says_again words (other side) t.joins (t.joins + 1 + 1) j.value j.theirs (omega arith) h.of_taken }

-- one word is written

pub other_word : (words : List ℕ) (i j x : ℕ) → j ≢ i → slice_index (set words i x) j ≡ slice_index words j
other_word words i j x n = get_or-set_other words i j x 0 n

pub this_word : (words : List ℕ) (i x : ℕ) → i < length words → slice_index (set words i x) i ≡ x
this_word words i x h = get_or-set_same words i x 0 h

pub alike_control : (words : List ℕ) (x : ℕ) (side : Side) (n : ℕ) → Alike words (set words 0 x) side n
alike_control words x Sender n = (other_word words 0 (value_lane n) x (λ h. omega arith), other_word words 0 (stamp_lane Sender n) x (λ h. omega arith))
alike_control words x Receiver n = other_word words 0 (stamp_lane Receiver n) x (λ h. omega arith)

pub alike_value : (words : List ℕ) (x n m : ℕ) → m % 2 ≢ n % 2 → Alike words (set words (value_lane n) x) Sender m
alike_value words x n m d = (other_word words (value_lane n) (value_lane m) x (λ h. d (omega (arith, h))), other_word words (value_lane n) (stamp_lane Sender m) x (λ h. omega arith))

pub alike_value_there : (words : List ℕ) (x n m : ℕ) → Alike words (set words (value_lane n) x) Receiver m
alike_value_there words x n m = other_word words (value_lane n) (stamp_lane Receiver m) x (λ h. omega arith)

pub alike_stamp : (side : Side) (words : List ℕ) (x n m : ℕ) → m % 2 ≢ n % 2 → Alike words (set words (stamp_lane side n) x) side m
alike_stamp Sender words x n m d = (other_word words (stamp_lane Sender n) (value_lane m) x (λ h. omega arith), other_word words (stamp_lane Sender n) (stamp_lane Sender m) x (λ h. d (omega (arith, h))))
alike_stamp Receiver words x n m d = other_word words (stamp_lane Receiver n) (stamp_lane Receiver m) x (λ h. d (omega (arith, h)))

pub alike_stamp_there : (side : Side) (words : List ℕ) (x n m : ℕ) → Alike words (set words (stamp_lane side n) x) (other side) m
alike_stamp_there Sender words x n m = other_word words (stamp_lane Sender n) (stamp_lane Receiver m) x (λ h. omega arith)
alike_stamp_there Receiver words x n m = (other_word words (stamp_lane Receiver n) (value_lane m) x (λ h. omega arith), other_word words (stamp_lane Receiver n) (stamp_lane Sender m) x (λ h. omega arith))
