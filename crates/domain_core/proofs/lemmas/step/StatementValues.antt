-- Registers whose values are of their kinds: what a send asks is of its channel's kind, and a join keeps them so.
use Rattle.std.proofs.Common.{rules, ◌≡◌, ℕ, suc, ◌+◌, ℤ, pos, Bool, true, false, cond, List, [], ◌∷◌, ◌++◌, length, Option, Some, None, refl, sym, ap, ◌∙◌, subst, inl, inr, ◌⊎◌, arith}
use Rattle.std.specs.Prelude.{unwrap_or, ◌==◌, ◌&&◌, not}
use Rattle.std.proofs.lemmas.Option.{none-some}
use Rattle.std.proofs.lemmas.Bool.{eqb-true, true≢false}
use Rattle.java_values.specs.declared.kind.Kind.{Kind}
use Rattle.java_values.specs.declared.kind.Kind.TheVariants as kind
use Rattle.java_values.specs.Kinds.{IsInRange}
use Rattle.java_values.specs.Arithmetic.{is_true}
use Rattle.kernel_terms.specs.declared.tables.Tables.{Tables}
use Rattle.kernel_terms.specs.TableEntries.{signal_at, channel_at}
use Rattle.kernel_terms.specs.Statements.{Stmt, Nothing, Pause, Emit, Assign, If, Present, Seq, Loop, Par, Trap, Exit, Abort, Suspend, Local, Send, Receive, SendWaits, Sent, ReceiveWaits, Received}
use Rattle.kernel_rules.specs.definitions.Registers.{registers, statement_registers, value_kinds}
use Rattle.kernel_rules.specs.definitions.Signals.{put_at}
use Rattle.cell_core.specs.declared.moves.Side.{Side}
use Rattle.cell_core.specs.declared.moves.Side.TheVariants.{Sender, Receiver}
use Rattle.cell_core.specs.definitions.Ends.{ValueFits}
use Rattle.plain_code.specs.declared.end_place.EndPlace.{EndPlace}
use Rattle.domain_core.specs.declared.step.ends_of.EndOf.{EndOf}
use Rattle.domain_core.specs.definitions.step.EndCalls.{end_at}
use Rattle.domain_core.specs.definitions.step.EndRegisters.{end_number, end_places, met_at, met}
use Rattle.domain_core.specs.step.EndPlaces.{waits_at, value_at, ask_of, HasEnd}
use Rattle.domain_core.specs.step.StatementEnds.{HaveEnds, HoldKinds}
use Rattle.domain_core.proofs.lemmas.runs.StatesBetweenTicks.{put_here}
use Rattle.domain_core.proofs.lemmas.step.StatementPlaces.{SameBetween, met_elsewhere, met_outside, met_first, met_second, registers_both, registers_local, places_rise}

-- what two parts ask one of them asks
pub ask_or : (xs ys : List EndPlace) (k : ℕ) (s : Side) (f : ℕ → ℤ) (v : ℤ) → ask_of (xs ++ ys) k s f ≡ Some v → (ask_of xs k s f ≡ Some v) ⊎ (ask_of ys k s f ≡ Some v)
ask_or [] ys k s f v h = inr h
ask_or (x ∷ xs) ys k s f v h = skip (waits_at k x f) (value_at s x f) (ask_of xs k s f) (ask_of (xs ++ ys) k s f) h (ask_or xs ys k s f v)
  where
    skip : (t : Bool) (w : ℤ) (a b : Option ℤ) → cond t (Some w) b ≡ Some v → (b ≡ Some v → (a ≡ Some v) ⊎ (ask_of ys k s f ≡ Some v)) → (cond t (Some w) a ≡ Some v) ⊎ (ask_of ys k s f ≡ Some v)
    skip true w a b h rest = inl h
    skip false w a b h rest = rest h

pub of_some : (t : Bool) (w v : ℤ) → cond t (Some w) None ≡ Some v → (t ≡ true) × (w ≡ v)
of_some true w v h = (refl, ap (λ (o : Option ℤ). unwrap_or o w) h)
of_some false w v h = absurd (none-some v h)

pub record IsAsked (c k : ℕ) (ends : List EndOf) (u : Bool) : Type 0 where
  pub which : end_number ends c ≡ k
  pub on : u ≡ true

pub is_asked : (c k : ℕ) (ends : List EndOf) (t u w : Bool) → (end_number ends c == k) ≡ t → t && (u && w) ≡ true → IsAsked c k ends u
is_asked c k ends true true w is h = record { which = eqb-true (end_number ends c) k is; on = refl }
is_asked c k ends true false w is h = absurd (true≢false (sym h))
is_asked c k ends false u w is h = absurd (true≢false (sym h))

-- the registers of two parts
kinds_first : (a b : List Kind) (n : ℕ) (f : ℕ → ℤ) → HoldKinds (a ++ b) n f → HoldKinds a n f
kinds_first [] b n f h = tt
kinds_first (k ∷ a) b n f h = (h.0, kinds_first a b (suc n) f h.1)

kinds_second : (a b : List Kind) (n : ℕ) (f : ℕ → ℤ) → HoldKinds (a ++ b) n f → HoldKinds b (n + length a) f
kinds_second [] b n f h = let same : n ≡ n + 0 = omega arith in subst (λ m. HoldKinds b m f) same h
kinds_second (k ∷ a) b n f h = let same : suc n + length a ≡ n + length (k ∷ a) = omega arith in subst (λ m. HoldKinds b m f) same (kinds_second a b (suc n) f h.1)

module _ (tables : Tables) (ends : List EndOf) (k : ℕ) (f : ℕ → ℤ) (v : ℤ) where
  abbrev asked : Stmt → ℕ → Option ℤ
  asked p n = ask_of (end_places tables ends p n) k (end_at ends k).side f

  abbrev Fits : Type 0
  Fits = ValueFits (end_at ends k).side (channel_at tables (end_at ends k).channel).kind v

  both_fit : (p q : Stmt) (n : ℕ) → HoldKinds (statement_registers tables (Seq p q)) n f → (HoldKinds (statement_registers tables p) n f → asked p n ≡ Some v → Fits) →
      (HoldKinds (statement_registers tables q) (n + registers tables p) f → asked q (n + registers tables p) ≡ Some v → Fits) → asked (Seq p q) n ≡ Some v → Fits
  both_fit p q n h first second ask = elim (ask_or (end_places tables ends p n) (end_places tables ends q (n + registers tables p)) k (end_at ends k).side f v ask) [
    | inl x ↦ first (kinds_first (statement_registers tables p) (statement_registers tables q) n f h) x
    | inr x ↦ second (kinds_second (statement_registers tables p) (statement_registers tables q) n f h) x
  ]

  send_fits : (c n : ℕ) → HasEnd ends c Sender → IsInRange (channel_at tables c).kind (f (n + 2)) → ask_of (record { which = end_number ends c; on = n; met = n + 1 } ∷ []) k (end_at ends k).side f ≡ Some v → Fits
  send_fits c n has range ask =
      let place : EndPlace = record { which = end_number ends c; on = n; met = n + 1 } in
      let is = of_some (waits_at k place f) (value_at (end_at ends k).side place f) v ask in
      let at = is_asked c k ends (end_number ends c == k) (is_true (f n)) (not (is_true (f (n + 1)))) refl is.0 in
      let here : end_at ends k ≡ record { channel = c; side = Sender } = ap (end_at ends) (sym at.which) ∙ has.here in
      let value : f (n + 1 + 1) ≡ v = sym (ap (λ (e : EndOf). value_at e.side place f) here) ∙ is.1 in
      subst (λ (e : EndOf). ValueFits e.side (channel_at tables e.channel).kind v) (sym here) (subst (IsInRange (channel_at tables c).kind) (ap f (omega arith) ∙ value) range)

  receive_fits : (c n : ℕ) → HasEnd ends c Receiver → ask_of (record { which = end_number ends c; on = n; met = n + 1 } ∷ []) k (end_at ends k).side f ≡ Some v → Fits
  receive_fits c n has ask =
      let place : EndPlace = record { which = end_number ends c; on = n; met = n + 1 } in
      let is = of_some (waits_at k place f) (value_at (end_at ends k).side place f) v ask in
      let at = is_asked c k ends (end_number ends c == k) (is_true (f n)) (not (is_true (f (n + 1)))) refl is.0 in
      let here : end_at ends k ≡ record { channel = c; side = Receiver } = ap (end_at ends) (sym at.which) ∙ has.here in
      subst (λ (e : EndOf). ValueFits e.side (channel_at tables e.channel).kind v) (sym here) tt

  pub ask_fits : (p : Stmt) (n : ℕ) → HaveEnds ends p → HoldKinds (statement_registers tables p) n f → asked p n ≡ Some v → Fits
  ask_fits Nothing n has h ask = absurd (none-some v ask)
  ask_fits Pause n has h ask = absurd (none-some v ask)
  ask_fits (Emit s e) n has h ask = absurd (none-some v ask)
  ask_fits (Assign x e) n has h ask = absurd (none-some v ask)
  ask_fits (If e p q) n has h ask = both_fit p q n h (ask_fits p n has.0) (ask_fits q (n + registers tables p) has.1) ask
  ask_fits (Present t p q) n has h ask = both_fit p q n h (ask_fits p n has.0) (ask_fits q (n + registers tables p) has.1) ask
  ask_fits (Seq p q) n has h ask = both_fit p q n h (ask_fits p n has.0) (ask_fits q (n + registers tables p) has.1) ask
  ask_fits (Loop p) n has h ask = ask_fits p n has h ask
  ask_fits (Par p q) n has h ask = both_fit p q n h (ask_fits p n has.0) (ask_fits q (n + registers tables p) has.1) ask
  ask_fits (Trap p) n has h ask = ask_fits p n has h ask
  ask_fits (Exit d) n has h ask = absurd (none-some v ask)
  ask_fits (Abort weak armed t p) n has h ask = ask_fits p n has h ask
  ask_fits (Suspend armed t p) n has h ask = ask_fits p n has h ask
  ask_fits (Local s w p) n has h ask =
      let ks = value_kinds (signal_at tables s).kind in
      ask_fits p (n + length ks) has (kinds_second ks (statement_registers tables p) n f h) ask
  ask_fits (Send c e) n has h ask = send_fits c n has (subst (λ m. IsInRange (channel_at tables c).kind (f m)) (omega arith) h.1.1.0) ask
  ask_fits (Receive c) n has h ask = receive_fits c n has ask
  ask_fits (SendWaits c w) n has h ask = absurd (none-some v ask)
  ask_fits (Sent c) n has h ask = absurd (none-some v ask)
  ask_fits (ReceiveWaits c) n has h ask = absurd (none-some v ask)
  ask_fits (Received c) n has h ask = absurd (none-some v ask)

-- Registers keep values of their kinds through a join.

kinds_both : (a b : List Kind) (n : ℕ) (f : ℕ → ℤ) → HoldKinds a n f → HoldKinds b (n + length a) f → HoldKinds (a ++ b) n f
kinds_both [] b n f x y = let same : n + 0 ≡ n = omega arith in subst (λ m. HoldKinds b m f) same y
kinds_both (k ∷ a) b n f x y = let same : n + length (k ∷ a) ≡ suc n + length a = omega arith in (x.0, kinds_both a b (suc n) f x.1 (subst (λ m. HoldKinds b m f) same y))

pub kinds_same : (ks : List Kind) (n : ℕ) (f g : ℕ → ℤ) → SameBetween n (n + length ks) g f → HoldKinds ks n f → HoldKinds ks n g
kinds_same [] n f g same h = tt
kinds_same (k ∷ ks) n f g same h =
    let more : n + length (k ∷ ks) ≡ suc n + length ks = omega arith in
    (subst (IsInRange k) (sym (same n (omega arith) (omega (arith, more)))) h.0, kinds_same ks (suc n) f g (λ i low high. same i (omega (arith, low)) (omega (arith, high, more))) h.1)

one_in_range : IsInRange kind.Boolean (pos 1)
one_in_range = search rules

met_flag : (e : ℕ) (p : EndPlace) (f : ℕ → ℤ) → IsInRange kind.Boolean (f p.met) → IsInRange kind.Boolean (met_at e p f p.met)
met_flag e p f h = by ((p.which == e) && is_true (f p.on))
  where
    by : (t : Bool) → IsInRange kind.Boolean (cond t (put_at f p.met (pos 1)) f p.met)
    by true = subst (IsInRange kind.Boolean) (sym (put_here f p.met (pos 1))) one_in_range
    by false = h

module _ (tables : Tables) (ends : List EndOf) (e : ℕ) where
  abbrev HasJoin : Stmt → ℕ → (ℕ → ℤ) → (ℕ → ℤ) → Type 0
  HasJoin p n f g = SameBetween n (n + registers tables p) g (met (end_places tables ends p n) e f)

  abbrev AreKinds : Stmt → ℕ → (ℕ → ℤ) → Type 0
  AreKinds p n f = HoldKinds (statement_registers tables p) n f

  two_met : (p q : Stmt) (n : ℕ) (f g : ℕ → ℤ) → HasJoin (Seq p q) n f g → AreKinds (Seq p q) n f → (HasJoin p n f g → AreKinds p n f → AreKinds p n g) →
      (HasJoin q (n + registers tables p) f g → AreKinds q (n + registers tables p) f → AreKinds q (n + registers tables p) g) → AreKinds (Seq p q) n g
  two_met p q n f g join h first second =
      let m = n + registers tables p in
      let a = end_places tables ends p n in
      let b = end_places tables ends q m in
      let all : SameBetween n (m + registers tables q) g (met (a ++ b) e f) = λ k low high. join k low (omega (arith, high, registers_both tables p q)) in
      kinds_both (statement_registers tables p) (statement_registers tables q) n g
      (first (met_first a b n m (m + registers tables q) e f g (places_rise tables ends p n) (places_rise tables ends q m) all) (kinds_first (statement_registers tables p) (statement_registers tables q) n f h))
      (second (met_second a b n m (m + registers tables q) e f g (places_rise tables ends p n) (places_rise tables ends q m) all) (kinds_second (statement_registers tables p) (statement_registers tables q) n f h))

  pub kinds_met : (p : Stmt) (n : ℕ) (f g : ℕ → ℤ) → HasJoin p n f g → AreKinds p n f → AreKinds p n g
  kinds_met Nothing n f g join h = tt
  kinds_met Pause n f g join h = kinds_same (statement_registers tables Pause) n f g join h
  kinds_met (Emit s x) n f g join h = tt
  kinds_met (Assign y x) n f g join h = tt
  kinds_met (If x p q) n f g join h = two_met p q n f g join h (kinds_met p n f g) (kinds_met q (n + registers tables p) f g)
  kinds_met (Present t p q) n f g join h = two_met p q n f g join h (kinds_met p n f g) (kinds_met q (n + registers tables p) f g)
  kinds_met (Seq p q) n f g join h = two_met p q n f g join h (kinds_met p n f g) (kinds_met q (n + registers tables p) f g)
  kinds_met (Loop p) n f g join h = kinds_met p n f g join h
  kinds_met (Par p q) n f g join h = two_met p q n f g join h (kinds_met p n f g) (kinds_met q (n + registers tables p) f g)
  kinds_met (Trap p) n f g join h = kinds_met p n f g join h
  kinds_met (Exit d) n f g join h = tt
  kinds_met (Abort weak armed t p) n f g join h = kinds_met p n f g join h
  kinds_met (Suspend armed t p) n f g join h = kinds_met p n f g join h
  kinds_met (Local s v p) n f g join h =
      let ks = value_kinds (signal_at tables s).kind in
      let m = n + length ks in
      let sum = registers_local tables s v p in
      let own : SameBetween n m g f = λ k low high.
      join k low (omega (arith, high, sum)) ∙ met_outside (end_places tables ends p m) m (m + registers tables p) e f k (places_rise tables ends p m) (inl high) in
      let body : HasJoin p m f g = λ k low high. join k (omega (arith, low)) (omega (arith, high, sum)) in
      kinds_both ks (statement_registers tables p) n g (kinds_same ks n f g own (kinds_first ks (statement_registers tables p) n f h)) (kinds_met p m f g body (kinds_second ks (statement_registers tables p) n f h))
  kinds_met (Send c x) n f g join h = (at_end join h.0, (flag_end join h.1.0, (value_end join h.1.1.0, tt)))
    where
      place : EndPlace
      place = record { which = end_number ends c; on = n; met = n + 1 }

      at_end : SameBetween n (n + 3) g (met_at e place f) → IsInRange kind.Boolean (f n) → IsInRange kind.Boolean (g n)
      at_end same r = subst (IsInRange kind.Boolean) (sym (same n (omega arith) (omega arith) ∙ met_elsewhere e place f n (omega arith))) r

      flag_end : SameBetween n (n + 3) g (met_at e place f) → IsInRange kind.Boolean (f (suc n)) → IsInRange kind.Boolean (g (suc n))
      flag_end same r =
          let one : n + 1 ≡ suc n = omega arith in
          subst (λ i. IsInRange kind.Boolean (g i)) one
          (subst (IsInRange kind.Boolean) (sym (same (n + 1) (omega arith) (omega arith))) (met_flag e place f (subst (λ i. IsInRange kind.Boolean (f i)) (sym one) r)))

      value_end : SameBetween n (n + 3) g (met_at e place f) → IsInRange (channel_at tables c).kind (f (suc (suc n))) → IsInRange (channel_at tables c).kind (g (suc (suc n)))
      value_end same r = subst (IsInRange (channel_at tables c).kind) (sym (same (suc (suc n)) (omega arith) (omega arith) ∙ met_elsewhere e place f (suc (suc n)) (omega arith))) r
  kinds_met (Receive c) n f g join h = (at_end join h.0, (flag_end join h.1.0, tt))
    where
      place : EndPlace
      place = record { which = end_number ends c; on = n; met = n + 1 }

      at_end : SameBetween n (n + 2) g (met_at e place f) → IsInRange kind.Boolean (f n) → IsInRange kind.Boolean (g n)
      at_end same r = subst (IsInRange kind.Boolean) (sym (same n (omega arith) (omega arith) ∙ met_elsewhere e place f n (omega arith))) r

      flag_end : SameBetween n (n + 2) g (met_at e place f) → IsInRange kind.Boolean (f (suc n)) → IsInRange kind.Boolean (g (suc n))
      flag_end same r =
          let one : n + 1 ≡ suc n = omega arith in
          subst (λ i. IsInRange kind.Boolean (g i)) one
          (subst (IsInRange kind.Boolean) (sym (same (n + 1) (omega arith) (omega arith))) (met_flag e place f (subst (λ i. IsInRange kind.Boolean (f i)) (sym one) r)))
  kinds_met (SendWaits c v) n f g join h = tt
  kinds_met (Sent c) n f g join h = tt
  kinds_met (ReceiveWaits c) n f g join h = tt
  kinds_met (Received c) n f g join h = tt
