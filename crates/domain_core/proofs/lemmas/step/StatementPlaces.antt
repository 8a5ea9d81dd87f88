-- The places of any statement's sends and receives, and what a join writes there.
use Rattle.std.proofs.Common.{◌≡◌, ◌≢◌, ℕ, zero, suc, ◌+◌, ◌<◌, ◌≤◌, ℤ, pos, Bool, true, false, cond, List, [], ◌∷◌, ◌++◌, length, get_or, refl, ap, ◌∙◌, subst, inl, inr, ◌⊎◌, arith, length-append}
use Rattle.std.specs.Prelude.{◌&&◌, ◌==◌}
use Rattle.std.proofs.lemmas.Bool.{ne_eqb}
use Rattle.java_values.specs.Arithmetic.{is_true}
use Rattle.kernel_terms.specs.declared.tables.Tables.{Tables}
use Rattle.kernel_terms.specs.TableEntries.{signal_at, channel_at, received_by}
use Rattle.kernel_terms.specs.Statements.{Stmt, Nothing, Pause, Emit, Assign, If, Present, Seq, Loop, Par, Trap, Exit, Abort, Suspend, Local, Send, Receive, SendWaits, Sent, ReceiveWaits, Received}
use Rattle.kernel_rules.specs.definitions.Registers.{registers, statement_registers, value_kinds}
use Rattle.kernel_rules.specs.definitions.Signals.{put_at}
use Rattle.plain_code.specs.declared.end_place.EndPlace.{EndPlace}
use Rattle.domain_core.specs.declared.step.ends_of.EndOf.{EndOf}
use Rattle.domain_core.specs.definitions.step.Domains.{ends_of}
use Rattle.domain_core.specs.definitions.step.EndRegisters.{end_number, end_places, met_at, met}
use Rattle.domain_core.specs.step.EndPlaces.{PlaceFits, PlacesFit, Rise}
use Rattle.domain_core.specs.step.StatementEnds.{HaveEnds, Receives}
use Rattle.domain_core.proofs.lemmas.runs.StatesBetweenTicks.{put_apart}
use Rattle.domain_core.proofs.lemmas.step.JoinPasses.{rise_within, rise_lower, rise-append}
use Rattle.domain_core.proofs.lemmas.step.LastValues.{is_received}

-- the same values in the registers from n to m
abbrev pub SameBetween : ℕ → ℕ → (ℕ → ℤ) → (ℕ → ℤ) → Type 0
SameBetween n m f g = (k : ℕ) → n ≤ k → k < m → f k ≡ g k

-- the places of two parts, one part after the other
pub met-append : (a b : List EndPlace) (k : ℕ) (f : ℕ → ℤ) → met (a ++ b) k f ≡ met b k (met a k f)
met-append [] b k f = refl
met-append (p ∷ a) b k f = met-append a b k (met_at k p f)

-- a join changes `met` at the place alone
pub met_elsewhere : (e : ℕ) (p : EndPlace) (f : ℕ → ℤ) (k : ℕ) → k ≢ p.met → met_at e p f k ≡ f k
met_elsewhere e p f k apart = met_cond ((p.which == e) && is_true (f p.on)) f p.met k apart
  where
    met_cond : (t : Bool) (f : ℕ → ℤ) (at k : ℕ) → k ≢ at → cond t (put_at f at (pos 1)) f k ≡ f k
    met_cond true f at k apart = put_apart f at (pos 1) k apart
    met_cond false f at k apart = refl

-- and at all places nothing before them and nothing behind them
pub met_outside : (ps : List EndPlace) (n m e : ℕ) (f : ℕ → ℤ) (k : ℕ) → Rise n ps m → (k < n) ⊎ (m ≤ k) → met ps e f k ≡ f k
met_outside [] n m e f k rise out = refl
met_outside (p ∷ ps) n m e f k rise out =
    let end = rise_within (p.on + 2) m ps rise.2 in
    met_outside ps (p.on + 2) m e (met_at e p f) k rise.2 (elim out [ inl low ↦ inl (omega (arith, low, rise.0)) | inr high ↦ inr high ])
    ∙ met_elsewhere e p f k (elim out [ inl low ↦ omega (arith, low, rise.0, rise.1) | inr high ↦ omega (arith, high, end, rise.1) ])

met_alike : (e : ℕ) (p : EndPlace) (f g : ℕ → ℤ) (k : ℕ) → f p.on ≡ g p.on → f k ≡ g k → met_at e p f k ≡ met_at e p g k
met_alike e p f g k on same =
    ap (λ x. cond ((p.which == e) && is_true x) (put_at f p.met (pos 1)) f k) on
    ∙ by_test ((p.which == e) && is_true (g p.on))
  where
    by_test : (b : Bool) → cond b (put_at f p.met (pos 1)) f k ≡ cond b (put_at g p.met (pos 1)) g k
    by_test true = ap (λ x. cond (k == p.met) (pos 1) x) same
    by_test false = same

-- what the registers are there after a join rests on what they were there
pub met_inside : (ps : List EndPlace) (n m e : ℕ) (f g : ℕ → ℤ) → Rise n ps m → SameBetween n m f g → SameBetween n m (met ps e f) (met ps e g)
met_inside [] n m e f g rise same = same
met_inside (p ∷ ps) n m e f g rise same =
    let end = rise_within (p.on + 2) m ps rise.2 in
    let on : f p.on ≡ g p.on = same p.on rise.0 (omega (arith, end)) in
    met_inside ps n m e (met_at e p f) (met_at e p g) (rise_lower n (p.on + 2) m ps (omega (arith, rise.0)) rise.2) (λ k low high. met_alike e p f g k on (same k low high))

-- Of two parts, the registers of each after the join in both.

pub met_first : (a b : List EndPlace) (n m l e : ℕ) (f g : ℕ → ℤ) → Rise n a m → Rise m b l → SameBetween n l g (met (a ++ b) e f) → SameBetween n m g (met a e f)
met_first a b n m l e f g first second same k low high =
    let end = rise_within m l b second in
    same k low (omega (arith, high, end)) ∙ ap (λ h. h k) (met-append a b e f) ∙ met_outside b m l e (met a e f) k second (inl high)

pub met_second : (a b : List EndPlace) (n m l e : ℕ) (f g : ℕ → ℤ) → Rise n a m → Rise m b l → SameBetween n l g (met (a ++ b) e f) → SameBetween m l g (met b e f)
met_second a b n m l e f g first second same k low high =
    let begin = rise_within n m a first in
    same k (omega (arith, low, begin)) high ∙ ap (λ h. h k) (met-append a b e f)
    ∙ met_inside b m l e (met a e f) f second (λ i above below. met_outside a n m e f i first (inr above)) k low high

-- the place of a number among places that rise
record RisesAt (n : ℕ) (p : EndPlace) : Type 0 where
  low : n ≤ p.on
  behind : p.met ≡ p.on + 1

rises_at : (ps : List EndPlace) (n m i : ℕ) (q : EndPlace) → Rise n ps m → i < length ps → RisesAt n (get_or ps i q)
rises_at [] n m i q rise less = absurd (omega (arith, less))
rises_at (p ∷ ps) n m zero q rise less = record { low = rise.0; behind = rise.1 }
rises_at (p ∷ ps) n m (suc i) q rise less = let x = rises_at ps (p.on + 2) m i q rise.2 (omega (arith, less)) in record { low = omega (arith, x.low, rise.0); behind = x.behind }

-- a join of one end changes nothing at the places of the others
pub record Stays (p : EndPlace) (f g : ℕ → ℤ) : Type 0 where
  pub on : g p.on ≡ f p.on
  pub met : g p.met ≡ f p.met

met_other : (e : ℕ) (p : EndPlace) (f : ℕ → ℤ) → p.which ≢ e → met_at e p f ≡ f
met_other e p f ne = ap (λ t. cond (t && is_true (f p.on)) (put_at f p.met (pos 1)) f) (ne_eqb p.which e ne)

pub others_stay : (ps : List EndPlace) (n m e : ℕ) (f : ℕ → ℤ) (i : ℕ) (q : EndPlace) → Rise n ps m → i < length ps → (get_or ps i q).which ≢ e → Stays (get_or ps i q) f (met ps e f)
others_stay [] n m e f i q rise less ne = absurd (omega (arith, less))
others_stay (p ∷ ps) n m e f zero q rise less ne =
    let same = met_other e p f ne in
    record {
      on = met_outside ps (p.on + 2) m e (met_at e p f) p.on rise.2 (inl (omega arith)) ∙ ap (λ g. g p.on) same;
      met = met_outside ps (p.on + 2) m e (met_at e p f) p.met rise.2 (inl (omega (arith, rise.1))) ∙ ap (λ g. g p.met) same;
    }
others_stay (p ∷ ps) n m e f (suc i) q rise less ne =
    let within : i < length ps = omega (arith, less) in
    let rest = others_stay ps (p.on + 2) m e (met_at e p f) i q rise.2 within ne in
    let at = rises_at ps (p.on + 2) m i q rise.2 within in
    record {
      on = rest.on ∙ met_elsewhere e p f (get_or ps i q).on (omega (arith, at.low, rise.1));
      met = rest.met ∙ met_elsewhere e p f (get_or ps i q).met (omega (arith, at.low, at.behind, rise.1));
    }

module _ (tables : Tables) where
  -- how many registers two parts have, and a local signal with its body
  pub registers_both : (p q : Stmt) → registers tables (Seq p q) ≡ registers tables p + registers tables q
  registers_both p q = length-append (statement_registers tables p) (statement_registers tables q)

  pub registers_local : (s : ℕ) (v : ℤ) (p : Stmt) → registers tables (Local s v p) ≡ length (value_kinds (signal_at tables s).kind) + registers tables p
  registers_local s v p = length-append (value_kinds (signal_at tables s).kind) (statement_registers tables p)

  -- the registers of the places rise
  both_rise : (ends : List EndOf) (p q : Stmt) (n : ℕ) → Rise n (end_places tables ends p n) (n + registers tables p) →
      Rise (n + registers tables p) (end_places tables ends q (n + registers tables p)) (n + registers tables p + registers tables q) → Rise n (end_places tables ends (Seq p q) n) (n + registers tables (Seq p q))
  both_rise ends p q n first second =
      let m = n + registers tables p in
      let sum : m + registers tables q ≡ n + registers tables (Seq p q) = omega (arith, registers_both p q) in
      rise-append (end_places tables ends p n) (end_places tables ends q m) n m (n + registers tables (Seq p q)) first (subst (Rise m (end_places tables ends q m)) sum second)

  here_rise : (ends : List EndOf) (c n l : ℕ) → 2 ≤ l → Rise n (record { which = end_number ends c; on = n; met = n + 1 } ∷ []) (n + l)
  here_rise ends c n l room = (omega arith, refl, omega (arith, room))

  pub places_rise : (ends : List EndOf) (p : Stmt) (n : ℕ) → Rise n (end_places tables ends p n) (n + registers tables p)
  places_rise ends Nothing n = omega arith
  places_rise ends Pause n = omega arith
  places_rise ends (Emit s e) n = omega arith
  places_rise ends (Assign x e) n = omega arith
  places_rise ends (If e p q) n = both_rise ends p q n (places_rise ends p n) (places_rise ends q (n + registers tables p))
  places_rise ends (Present t p q) n = both_rise ends p q n (places_rise ends p n) (places_rise ends q (n + registers tables p))
  places_rise ends (Seq p q) n = both_rise ends p q n (places_rise ends p n) (places_rise ends q (n + registers tables p))
  places_rise ends (Loop p) n = places_rise ends p n
  places_rise ends (Par p q) n = both_rise ends p q n (places_rise ends p n) (places_rise ends q (n + registers tables p))
  places_rise ends (Trap p) n = places_rise ends p n
  places_rise ends (Exit d) n = omega arith
  places_rise ends (Abort weak armed t p) n = places_rise ends p n
  places_rise ends (Suspend armed t p) n = places_rise ends p n
  places_rise ends (Local s v p) n =
      let m = n + length (value_kinds (signal_at tables s).kind) in
      let sum : m + registers tables p ≡ n + registers tables (Local s v p) = omega (arith, registers_local s v p) in
      rise_lower n m (n + registers tables (Local s v p)) (end_places tables ends p m) (omega arith) (subst (Rise m (end_places tables ends p m)) sum (places_rise ends p m))
  places_rise ends (Send c e) n = here_rise ends c n 3 (omega arith)
  places_rise ends (Receive c) n = here_rise ends c n 2 (omega arith)
  places_rise ends (SendWaits c v) n = omega arith
  places_rise ends (Sent c) n = omega arith
  places_rise ends (ReceiveWaits c) n = omega arith
  places_rise ends (Received c) n = omega arith

  -- the places have their registers, with one more behind them where the statement receives
  both_fit : (xs ys : List EndPlace) (e m i : ℕ) (q : EndPlace) → PlacesFit xs e m → PlacesFit ys e m → i < length (xs ++ ys) → PlaceFits e m (get_or (xs ++ ys) i q)
  both_fit [] ys e m i q x y less = y i q less
  both_fit (a ∷ xs) ys e m zero q x y less = x 0 q (omega arith)
  both_fit (a ∷ xs) ys e m (suc i) q x y less = both_fit xs ys e m i q (λ j r l. x (suc j) r (omega (arith, l))) y (omega (arith, less))

  parts_fit : (ends : List EndOf) (p q : Stmt) (n m : ℕ) → PlacesFit (end_places tables ends p n) (length ends) m → PlacesFit (end_places tables ends q (n + registers tables p)) (length ends) m → PlacesFit (end_places tables ends (Seq p q) n) (length ends) m
  parts_fit ends p q n m first second i r less = both_fit (end_places tables ends p n) (end_places tables ends q (n + registers tables p)) (length ends) m i r first second less

  none_fit : (e m : ℕ) → PlacesFit [] e m
  none_fit e m i q less = absurd (omega (arith, less))

  one_fits : (p : EndPlace) (e m : ℕ) → PlaceFits e m p → PlacesFit (p ∷ []) e m
  one_fits p e m fits zero q less = fits
  one_fits p e m fits (suc i) q less = absurd (omega (arith, less))

  two_fit : (ends : List EndOf) (p q : Stmt) (n m : ℕ) →
      (n + registers tables p ≤ m → (Receives p → n + registers tables p < m) → PlacesFit (end_places tables ends p n) (length ends) m) →
      (n + registers tables p + registers tables q ≤ m → (Receives q → n + registers tables p + registers tables q < m) → PlacesFit (end_places tables ends q (n + registers tables p)) (length ends) m) →
      n + registers tables (Seq p q) ≤ m → (Receives p ⊎ Receives q → n + registers tables (Seq p q) < m) → PlacesFit (end_places tables ends (Seq p q) n) (length ends) m
  two_fit ends p q n m first second room more =
      let sum = registers_both p q in
      parts_fit ends p q n m
      (first (omega (arith, room, sum)) (λ r. let x = more (inl r) in omega (arith, x, sum)))
      (second (omega (arith, room, sum)) (λ r. let x = more (inr r) in omega (arith, x, sum)))

  pub places_fit : (ends : List EndOf) (p : Stmt) (n m : ℕ) → HaveEnds ends p → n + registers tables p ≤ m → (Receives p → n + registers tables p < m) → PlacesFit (end_places tables ends p n) (length ends) m
  places_fit ends Nothing n m has room more = none_fit (length ends) m
  places_fit ends Pause n m has room more = none_fit (length ends) m
  places_fit ends (Emit s e) n m has room more = none_fit (length ends) m
  places_fit ends (Assign x e) n m has room more = none_fit (length ends) m
  places_fit ends (If e p q) n m has room more = two_fit ends p q n m (places_fit ends p n m has.0) (places_fit ends q (n + registers tables p) m has.1) room more
  places_fit ends (Present t p q) n m has room more = two_fit ends p q n m (places_fit ends p n m has.0) (places_fit ends q (n + registers tables p) m has.1) room more
  places_fit ends (Seq p q) n m has room more = two_fit ends p q n m (places_fit ends p n m has.0) (places_fit ends q (n + registers tables p) m has.1) room more
  places_fit ends (Loop p) n m has room more = places_fit ends p n m has room more
  places_fit ends (Par p q) n m has room more = two_fit ends p q n m (places_fit ends p n m has.0) (places_fit ends q (n + registers tables p) m has.1) room more
  places_fit ends (Trap p) n m has room more = places_fit ends p n m has room more
  places_fit ends (Exit d) n m has room more = none_fit (length ends) m
  places_fit ends (Abort weak armed t p) n m has room more = places_fit ends p n m has room more
  places_fit ends (Suspend armed t p) n m has room more = places_fit ends p n m has room more
  places_fit ends (Local s v p) n m has room more =
      let sum = registers_local s v p in
      places_fit ends p (n + length (value_kinds (signal_at tables s).kind)) m has (omega (arith, room, sum)) (λ r. let x = more r in omega (arith, x, sum))
  places_fit ends (Send c e) n m has room more = one_fits (record { which = end_number ends c; on = n; met = n + 1 }) (length ends) m (of_three room)
    where
      of_three : n + 3 ≤ m → PlaceFits (length ends) m (record { which = end_number ends c; on = n; met = n + 1 })
      of_three room = record { which = has.within; on = omega (arith, room); value = omega (arith, room) }
  places_fit ends (Receive c) n m has room more = one_fits (record { which = end_number ends c; on = n; met = n + 1 }) (length ends) m (of_two (more tt))
    where
      of_two : n + 2 < m → PlaceFits (length ends) m (record { which = end_number ends c; on = n; met = n + 1 })
      of_two room = record { which = has.within; on = omega (arith, room); value = omega (arith, room) }
  places_fit ends (SendWaits c v) n m has room more = none_fit (length ends) m
  places_fit ends (Sent c) n m has room more = none_fit (length ends) m
  places_fit ends (ReceiveWaits c) n m has room more = none_fit (length ends) m
  places_fit ends (Received c) n m has room more = none_fit (length ends) m

-- a domain that receives has a register for a last value
module _ (tables : Tables) (d : ℕ) (channels : (c : ℕ) → c < length tables.channels → (channel_at tables c).sender ≢ (channel_at tables c).receiver) where
  pub receives_some : (p : Stmt) → HaveEnds (ends_of tables d) p → Receives p → 0 < length (received_by tables d)
  receives_some (If e p q) has (inl r) = receives_some p has.0 r
  receives_some (If e p q) has (inr r) = receives_some q has.1 r
  receives_some (Present t p q) has (inl r) = receives_some p has.0 r
  receives_some (Present t p q) has (inr r) = receives_some q has.1 r
  receives_some (Seq p q) has (inl r) = receives_some p has.0 r
  receives_some (Seq p q) has (inr r) = receives_some q has.1 r
  receives_some (Loop p) has r = receives_some p has r
  receives_some (Par p q) has (inl r) = receives_some p has.0 r
  receives_some (Par p q) has (inr r) = receives_some q has.1 r
  receives_some (Trap p) has r = receives_some p has r
  receives_some (Abort weak armed t p) has r = receives_some p has r
  receives_some (Suspend armed t p) has r = receives_some p has r
  receives_some (Local s v p) has r = receives_some p has r
  receives_some (Receive c) has r =
      let x = is_received tables d (Receive c) channels (end_number (ends_of tables d) c) has.within (ap (λ (e : EndOf). e.side) has.here) in
      omega (arith, x.within)
  receives_some Nothing has r = absurd r
  receives_some Pause has r = absurd r
  receives_some (Emit s e) has r = absurd r
  receives_some (Assign x e) has r = absurd r
  receives_some (Exit d) has r = absurd r
  receives_some (Send c e) has r = absurd r
  receives_some (SendWaits c v) has r = absurd r
  receives_some (Sent c) has r = absurd r
  receives_some (ReceiveWaits c) has r = absurd r
  receives_some (Received c) has r = absurd r
