-- What a join does to the statement that the registers of any source stand for.
use Rattle.std.proofs.Common.{◌≡◌, ◌≢◌, ℕ, ◌+◌, ◌<◌, ◌≤◌, ℤ, pos, Bool, true, false, cond, List, length, Option, Some, None, refl, sym, ap, ap₂, ◌∙◌, inl, inr, arith}
use Rattle.std.specs.Prelude.{◌||◌, ◌&&◌, ◌==◌}
use Rattle.std.proofs.lemmas.Bool.{cases_eq, eq-eqb, ne_eqb, cond-true, cond-false, true≢false}
use Rattle.java_values.specs.declared.kind.Kind.{Kind}
use Rattle.java_values.specs.Arithmetic.{is_true}
use Rattle.kernel_terms.specs.declared.tables.Tables.{Tables}
use Rattle.kernel_terms.specs.TableEntries.{signal_at}
use Rattle.kernel_terms.specs.MayEnd.{ends0, ends1}
use Rattle.kernel_terms.specs.Statements.{Stmt, Nothing, Pause, Emit, Assign, If, Present, Seq, Loop, Par, Trap, Exit, Abort, Suspend, Local, Send, Receive, SendWaits, Sent, ReceiveWaits, Received}
use Rattle.kernel_rules.specs.definitions.Registers.{registers, value_kinds, live, residual, last_value, LivesApart, AtMostOne, FitRegisters}
use Rattle.kernel_rules.specs.definitions.Signals.{put_at}
use Rattle.cell_core.specs.declared.moves.Side.{Side}
use Rattle.cell_core.specs.declared.moves.Side.TheVariants.{Sender, Receiver}
use Rattle.plain_code.specs.declared.end_place.EndPlace.{EndPlace}
use Rattle.domain_core.specs.declared.step.ends_of.EndOf.{EndOf}
use Rattle.domain_core.specs.definitions.runs.Systems.{rewritten}
use Rattle.domain_core.specs.definitions.step.Domains.{is_receiver}
use Rattle.domain_core.specs.definitions.step.EndCalls.{end_at}
use Rattle.domain_core.specs.definitions.step.EndRegisters.{end_number, end_places, met_at, met}
use Rattle.domain_core.specs.step.EndPlaces.{HasEnd, Rise}
use Rattle.domain_core.specs.step.StatementEnds.{HaveEnds, NoneWaits}
use Rattle.domain_core.proofs.lemmas.runs.StatesBetweenTicks.{put_here}
use Rattle.domain_core.proofs.lemmas.step.StateJoins.{AreApart}
use Rattle.domain_core.proofs.lemmas.step.StatementPlaces.{SameBetween, met_elsewhere, met_outside, met_first, met_second, registers_both, registers_local, places_rise}

-- A statement in which nothing waits stays.

pub none_first : (p q : Stmt) → NoneWaits (Seq p q) → NoneWaits p
none_first p q h = ((λ c v w. h.0 c v (inl w)), (λ c w. h.1 c (inl w)))

pub none_second : (p q : Stmt) → NoneWaits (Seq p q) → NoneWaits q
none_second p q h = ((λ c v w. h.0 c v (inr w)), (λ c w. h.1 c (inr w)))

pub rewritten_same : (a b : ℕ → Bool) (p : Stmt) → NoneWaits p → rewritten a b p ≡ p
rewritten_same a b Nothing none = refl
rewritten_same a b Pause none = refl
rewritten_same a b (Emit s e) none = refl
rewritten_same a b (Assign x e) none = refl
rewritten_same a b (If e p q) none = ap₂ (If e) (rewritten_same a b p (none_first p q none)) (rewritten_same a b q (none_second p q none))
rewritten_same a b (Present t p q) none = ap₂ (Present t) (rewritten_same a b p (none_first p q none)) (rewritten_same a b q (none_second p q none))
rewritten_same a b (Seq p q) none = ap₂ Seq (rewritten_same a b p (none_first p q none)) (rewritten_same a b q (none_second p q none))
rewritten_same a b (Loop p) none = ap Loop (rewritten_same a b p none)
rewritten_same a b (Par p q) none = ap₂ Par (rewritten_same a b p (none_first p q none)) (rewritten_same a b q (none_second p q none))
rewritten_same a b (Trap p) none = ap Trap (rewritten_same a b p none)
rewritten_same a b (Exit d) none = refl
rewritten_same a b (Abort weak armed t p) none = ap (Abort weak armed t) (rewritten_same a b p none)
rewritten_same a b (Suspend armed t p) none = ap (Suspend armed t) (rewritten_same a b p none)
rewritten_same a b (Local s v p) none = ap (Local s v) (rewritten_same a b p none)
rewritten_same a b (Send c e) none = refl
rewritten_same a b (Receive c) none = refl
rewritten_same a b (SendWaits c v) none = absurd (none.0 c v (refl, refl))
rewritten_same a b (Sent c) none = refl
rewritten_same a b (ReceiveWaits c) none = absurd (none.1 c refl)
rewritten_same a b (Received c) none = refl

-- Registers with the same values stand for the same.

pub record Alike (tables : Tables) (p : Stmt) (n : ℕ) (f g : ℕ → ℤ) : Type 0 where
  pub is_live : live tables p n f ≡ live tables p n g
  pub left : residual tables p n f ≡ residual tables p n g
  pub is_apart : LivesApart tables p n f → LivesApart tables p n g

cond_same : (a b : Bool) (x y z w : Stmt) → a ≡ b → x ≡ y → z ≡ w → cond a x z ≡ cond b y w
cond_same a b x y z w l i j = ap (λ t. cond t x z) l ∙ ap (λ t. cond b t z) i ∙ ap (λ t. cond b y t) j

last_alike : (k : Option Kind) (n c : ℕ) (f g : ℕ → ℤ) → SameBetween n (n + (length (value_kinds k) + c)) f g → last_value k n f ≡ last_value k n g
last_alike None n c f g same = refl
last_alike (Some k) n c f g same = let one : length (value_kinds (Some k)) ≡ 1 = refl in same n (omega arith) (omega (arith, one))

module _ (tables : Tables) where
  first_between : (p q : Stmt) (n : ℕ) (f g : ℕ → ℤ) → SameBetween n (n + registers tables (Seq p q)) f g → SameBetween n (n + registers tables p) f g
  first_between p q n f g same k low high = same k low (omega (arith, high, registers_both tables p q))

  second_between : (p q : Stmt) (n : ℕ) (f g : ℕ → ℤ) → SameBetween n (n + registers tables (Seq p q)) f g → SameBetween (n + registers tables p) (n + registers tables p + registers tables q) f g
  second_between p q n f g same k low high = same k (omega (arith, low)) (omega (arith, high, registers_both tables p q))

  local_between : (s : ℕ) (v : ℤ) (p : Stmt) (n : ℕ) (f g : ℕ → ℤ) → SameBetween n (n + registers tables (Local s v p)) f g →
      SameBetween (n + length (value_kinds (signal_at tables s).kind)) (n + length (value_kinds (signal_at tables s).kind) + registers tables p) f g
  local_between s v p n f g same k low high = same k (omega (arith, low)) (omega (arith, high, registers_local tables s v p))

  module _ (p q : Stmt) (n : ℕ) (f g : ℕ → ℤ) (a : Alike tables p n f g) (b : Alike tables q (n + registers tables p) f g) where
    live_alike : live tables (Seq p q) n f ≡ live tables (Seq p q) n g
    live_alike = ap₂ ◌||◌ a.is_live b.is_live

    most_alike : AtMostOne (live tables p n f) (live tables q (n + registers tables p) f) → AtMostOne (live tables p n g) (live tables q (n + registers tables p) g)
    most_alike h = sym (ap₂ ◌&&◌ a.is_live b.is_live) ∙ h

    apart_alike : LivesApart tables (Seq p q) n f → LivesApart tables (Seq p q) n g
    apart_alike h = (most_alike h.0, a.is_apart h.1, b.is_apart h.2)

    choice_alike : cond (live tables p n f) (residual tables p n f) (residual tables q (n + registers tables p) f) ≡ cond (live tables p n g) (residual tables p n g) (residual tables q (n + registers tables p) g)
    choice_alike = cond_same (live tables p n f) (live tables p n g) (residual tables p n f) (residual tables p n g) (residual tables q (n + registers tables p) f) (residual tables q (n + registers tables p) g) a.is_live a.left b.left

    over_alike : LivesApart tables (Par p q) n f → LivesApart tables (Par p q) n g
    over_alike h = (
      (λ on. let x = h.0 (live_alike ∙ on) in (
        sym (ap (λ t. t || (ends0 p || ends1 p)) a.is_live) ∙ x.0,
        sym (ap (λ t. t || (ends0 q || ends1 q)) b.is_live) ∙ x.1,
      )),
      a.is_apart h.1,
      b.is_apart h.2,
    )

  send_alike : (c n : ℕ) (f g : ℕ → ℤ) → SameBetween n (n + 3) f g → cond (is_true (f (n + 1))) (Sent c) (SendWaits c (f (n + 2))) ≡ cond (is_true (g (n + 1))) (Sent c) (SendWaits c (g (n + 2)))
  send_alike c n f g same =
      ap (λ x. cond (is_true x) (Sent c) (SendWaits c (f (n + 2)))) (same (n + 1) (omega arith) (omega arith))
      ∙ ap (λ x. cond (is_true (g (n + 1))) (Sent c) (SendWaits c x)) (same (n + 2) (omega arith) (omega arith))

  receive_alike : (c n : ℕ) (f g : ℕ → ℤ) → SameBetween n (n + 2) f g → cond (is_true (f (n + 1))) (Received c) (ReceiveWaits c) ≡ cond (is_true (g (n + 1))) (Received c) (ReceiveWaits c)
  receive_alike c n f g same = ap (λ x. cond (is_true x) (Received c) (ReceiveWaits c)) (same (n + 1) (omega arith) (omega arith))

  on_alike : (n l : ℕ) (f g : ℕ → ℤ) → 1 ≤ l → SameBetween n (n + l) f g → is_true (f n) ≡ is_true (g n)
  on_alike n l f g some same = ap is_true (same n (omega arith) (omega (arith, some)))

  pub alike : (p : Stmt) (n : ℕ) (f g : ℕ → ℤ) → SameBetween n (n + registers tables p) f g → Alike tables p n f g
  alike Nothing n f g same = record { is_live = refl; left = refl; is_apart = λ h. h }
  alike Pause n f g same = record { is_live = on_alike n 1 f g (omega arith) same; left = refl; is_apart = λ h. h }
  alike (Emit s e) n f g same = record { is_live = refl; left = refl; is_apart = λ h. h }
  alike (Assign x e) n f g same = record { is_live = refl; left = refl; is_apart = λ h. h }
  alike (If e p q) n f g same =
      let a = alike p n f g (first_between p q n f g same) in
      let b = alike q (n + registers tables p) f g (second_between p q n f g same) in
      record { is_live = live_alike p q n f g a b; left = choice_alike p q n f g a b; is_apart = apart_alike p q n f g a b }
  alike (Present t p q) n f g same =
      let a = alike p n f g (first_between p q n f g same) in
      let b = alike q (n + registers tables p) f g (second_between p q n f g same) in
      record { is_live = live_alike p q n f g a b; left = choice_alike p q n f g a b; is_apart = apart_alike p q n f g a b }
  alike (Seq p q) n f g same =
      let m = n + registers tables p in
      let a = alike p n f g (first_between p q n f g same) in
      let b = alike q m f g (second_between p q n f g same) in
      record {
        is_live = live_alike p q n f g a b;
        left = cond_same (live tables p n f) (live tables p n g) (Seq (residual tables p n f) q) (Seq (residual tables p n g) q) (residual tables q m f) (residual tables q m g) a.is_live (ap (λ x. Seq x q) a.left) b.left;
        is_apart = apart_alike p q n f g a b;
      }
  alike (Loop p) n f g same = let a = alike p n f g same in record { is_live = a.is_live; left = ap (λ x. Seq x (Loop p)) a.left; is_apart = a.is_apart }
  alike (Par p q) n f g same =
      let m = n + registers tables p in
      let a = alike p n f g (first_between p q n f g same) in
      let b = alike q m f g (second_between p q n f g same) in
      record {
        is_live = live_alike p q n f g a b;
        left =
            ap₂ Par (cond_same (live tables p n f) (live tables p n g) (residual tables p n f) (residual tables p n g) Nothing Nothing a.is_live a.left refl)
            (cond_same (live tables q m f) (live tables q m g) (residual tables q m f) (residual tables q m g) Nothing Nothing b.is_live b.left refl);
        is_apart = over_alike p q n f g a b;
      }
  alike (Trap p) n f g same = let a = alike p n f g same in record { is_live = a.is_live; left = ap Trap a.left; is_apart = a.is_apart }
  alike (Exit d) n f g same = record { is_live = refl; left = refl; is_apart = λ h. h }
  alike (Abort weak armed t p) n f g same = let a = alike p n f g same in record { is_live = a.is_live; left = ap (Abort weak true t) a.left; is_apart = a.is_apart }
  alike (Suspend armed t p) n f g same = let a = alike p n f g same in record { is_live = a.is_live; left = ap (Suspend true t) a.left; is_apart = a.is_apart }
  alike (Local s v p) n f g same =
      let kind = (signal_at tables s).kind in
      let a = alike p (n + length (value_kinds kind)) f g (local_between s v p n f g same) in
      record {
        is_live = a.is_live;
        left = ap₂ (Local s) (last_alike kind n (registers tables p) f g (λ k low high. same k low (omega (arith, high, registers_local tables s v p)))) a.left;
        is_apart = a.is_apart;
      }
  alike (Send c e) n f g same = record { is_live = on_alike n 3 f g (omega arith) same; left = send_alike c n f g same; is_apart = λ h. h }
  alike (Receive c) n f g same = record { is_live = on_alike n 2 f g (omega arith) same; left = receive_alike c n f g same; is_apart = λ h. h }
  alike (SendWaits c v) n f g same = record { is_live = refl; left = refl; is_apart = λ h. h }
  alike (Sent c) n f g same = record { is_live = refl; left = refl; is_apart = λ h. h }
  alike (ReceiveWaits c) n f g same = record { is_live = refl; left = refl; is_apart = λ h. h }
  alike (Received c) n f g same = record { is_live = refl; left = refl; is_apart = λ h. h }

  pub fit_alike : (p : Stmt) (n : ℕ) (f g : ℕ → ℤ) → SameBetween n (n + registers tables p) f g → FitRegisters tables p n f → FitRegisters tables p n g
  fit_alike p n f g same fits = let a = alike p n f g same in record { is_live = sym a.is_live ∙ fits.is_live; apart = a.is_apart fits.apart }

-- A join of an end, in the statement.

abbrev pub sends_at : Side → Bool
sends_at Sender = true
sends_at Receiver = false

abbrev pub sent_by : EndOf → ℕ → Bool
sent_by e c = sends_at e.side && (c == e.channel)

abbrev pub got_by : EndOf → ℕ → Bool
got_by e c = is_receiver e.side && (c == e.channel)

-- a send or a receive is of the end that has its channel and its side
module _ (ends : List EndOf) (apart : AreApart ends) (k : ℕ) (within : k < length ends) where
  same_end : (c : ℕ) (s : Side) → HasEnd ends c s → end_number ends c ≡ k → end_at ends k ≡ record { channel = c; side = s }
  same_end c s has is = ap (end_at ends) (sym is) ∙ has.here

  other_end : (c : ℕ) (s : Side) → HasEnd ends c s → end_number ends c ≢ k → c ≢ (end_at ends k).channel
  other_end c s has isnt same = apart (end_number ends c) k has.within within isnt (ap (λ (e : EndOf). e.channel) has.here ∙ same)

  off : (a b : Bool) → b ≡ false → a && b ≡ false
  off true b h = h
  off false b h = refl

  pub sent_here : (c : ℕ) → HasEnd ends c Sender → sent_by (end_at ends k) c ≡ (end_number ends c == k)
  sent_here c has = elim (cases_eq (end_number ends c) k) [
    | inl e ↦ ap (λ x. sent_by x c) (same_end c Sender has e) ∙ eq-eqb c c refl ∙ sym (eq-eqb (end_number ends c) k e)
    | inr ne ↦ off (sends_at (end_at ends k).side) (c == (end_at ends k).channel) (ne_eqb c (end_at ends k).channel (other_end c Sender has ne)) ∙ sym (ne_eqb (end_number ends c) k ne)
  ]

  pub got_here : (c : ℕ) → HasEnd ends c Receiver → got_by (end_at ends k) c ≡ (end_number ends c == k)
  got_here c has = elim (cases_eq (end_number ends c) k) [
    | inl e ↦ ap (λ x. got_by x c) (same_end c Receiver has e) ∙ eq-eqb c c refl ∙ sym (eq-eqb (end_number ends c) k e)
    | inr ne ↦ off (is_receiver (end_at ends k).side) (c == (end_at ends k).channel) (ne_eqb c (end_at ends k).channel (other_end c Receiver has ne)) ∙ sym (ne_eqb (end_number ends c) k ne)
  ]

-- a send that is on, where t tells whether the join is one of it
send_met : (a b : ℕ → Bool) (c n : ℕ) (f : ℕ → ℤ) (t u : Bool) → u ≡ true → a c ≡ t →
    cond (is_true (cond (t && u) (put_at f (n + 1) (pos 1)) f (n + 1))) (Sent c) (SendWaits c (cond (t && u) (put_at f (n + 1) (pos 1)) f (n + 2)))
    ≡ rewritten a b (cond (is_true (f (n + 1))) (Sent c) (SendWaits c (f (n + 2))))
send_met a b c n f true true on here =
    ap (λ x. cond (is_true x) (Sent c) (SendWaits c (put_at f (n + 1) (pos 1) (n + 2)))) (put_here f (n + 1) (pos 1)) ∙ sent (is_true (f (n + 1)))
  where
    sent : (h : Bool) → Sent c ≡ rewritten a b (cond h (Sent c) (SendWaits c (f (n + 2))))
    sent true = refl
    sent false = sym (cond-true (a c) (Sent c) (SendWaits c (f (n + 2))) here)
send_met a b c n f false true on here = stays (is_true (f (n + 1)))
  where
    stays : (h : Bool) → cond h (Sent c) (SendWaits c (f (n + 2))) ≡ rewritten a b (cond h (Sent c) (SendWaits c (f (n + 2))))
    stays true = refl
    stays false = sym (cond-false (a c) (Sent c) (SendWaits c (f (n + 2))) here)
send_met a b c n f t false on here = absurd (true≢false (sym on))

receive_met : (a b : ℕ → Bool) (c n : ℕ) (f : ℕ → ℤ) (t u : Bool) → u ≡ true → b c ≡ t →
    cond (is_true (cond (t && u) (put_at f (n + 1) (pos 1)) f (n + 1))) (Received c) (ReceiveWaits c)
    ≡ rewritten a b (cond (is_true (f (n + 1))) (Received c) (ReceiveWaits c))
receive_met a b c n f true true on here =
    ap (λ x. cond (is_true x) (Received c) (ReceiveWaits c)) (put_here f (n + 1) (pos 1)) ∙ got (is_true (f (n + 1)))
  where
    got : (h : Bool) → Received c ≡ rewritten a b (cond h (Received c) (ReceiveWaits c))
    got true = refl
    got false = sym (cond-true (b c) (Received c) (ReceiveWaits c) here)
receive_met a b c n f false true on here = stays (is_true (f (n + 1)))
  where
    stays : (h : Bool) → cond h (Received c) (ReceiveWaits c) ≡ rewritten a b (cond h (Received c) (ReceiveWaits c))
    stays true = refl
    stays false = sym (cond-false (b c) (Received c) (ReceiveWaits c) here)
receive_met a b c n f t false on here = absurd (true≢false (sym on))

-- of two parts of which one is live, where the registers of both have changed
choice_left : (F : Stmt → Stmt) (u t s : Bool) (x y z w : Stmt) → u ≡ t → t || s ≡ true → (t ≡ true → x ≡ F z) → (s ≡ true → y ≡ F w) → cond u x y ≡ F (cond t z w)
choice_left F u t s x y z w same on first second = ap (λ b. cond b x y) same ∙ by t on first
  where
    by : (t : Bool) → t || s ≡ true → (t ≡ true → x ≡ F z) → cond t x y ≡ F (cond t z w)
    by true on first = first refl
    by false on first = second on

-- and of a branch, which may have ended
branch_left : (F : Stmt → Stmt) (u t : Bool) (x z : Stmt) → u ≡ t → (t ≡ true → x ≡ F z) → Nothing ≡ F Nothing → cond u x Nothing ≡ F (cond t z Nothing)
branch_left F u t x z same first over = ap (λ b. cond b x Nothing) same ∙ by t first
  where
    by : (t : Bool) → (t ≡ true → x ≡ F z) → cond t x Nothing ≡ F (cond t z Nothing)
    by true first = first refl
    by false first = over

last_met : (k : Option Kind) (n m e : ℕ) (f : ℕ → ℤ) (ps : List EndPlace) → Rise (n + length (value_kinds k)) ps m → last_value k n (met ps e f) ≡ last_value k n f
last_met None n m e f ps rise = refl
last_met (Some k) n m e f ps rise = met_outside ps (n + 1) m e f n rise (inl (omega arith))

-- The registers g have the join that f hadn't: the statement that they stand for has it too.
pub record Completes (tables : Tables) (end : EndOf) (p : Stmt) (n : ℕ) (f g : ℕ → ℤ) : Type 0 where
  pub is_live : live tables p n g ≡ live tables p n f
  pub left : live tables p n f ≡ true → residual tables p n g ≡ rewritten (sent_by end) (got_by end) (residual tables p n f)
  pub is_apart : LivesApart tables p n f → LivesApart tables p n g

module _ (tables : Tables) (ends : List EndOf) (apart : AreApart ends) (e : ℕ) (within : e < length ends) where
  abbrev end : EndOf
  end = end_at ends e

  -- the registers g have the join at each place of the end
  abbrev HasJoin : Stmt → ℕ → (ℕ → ℤ) → (ℕ → ℤ) → Type 0
  HasJoin p n f g = SameBetween n (n + registers tables p) g (met (end_places tables ends p n) e f)

  first_join : (p q : Stmt) (n : ℕ) (f g : ℕ → ℤ) → HasJoin (Seq p q) n f g → HasJoin p n f g
  first_join p q n f g has =
      let m = n + registers tables p in
      met_first (end_places tables ends p n) (end_places tables ends q m) n m (m + registers tables q) e f g (places_rise tables ends p n) (places_rise tables ends q m)
      (λ k low high. has k low (omega (arith, high, registers_both tables p q)))

  second_join : (p q : Stmt) (n : ℕ) (f g : ℕ → ℤ) → HasJoin (Seq p q) n f g → HasJoin q (n + registers tables p) f g
  second_join p q n f g has =
      let m = n + registers tables p in
      met_second (end_places tables ends p n) (end_places tables ends q m) n m (m + registers tables q) e f g (places_rise tables ends p n) (places_rise tables ends q m)
      (λ k low high. has k low (omega (arith, high, registers_both tables p q)))

  module _ (p q : Stmt) (n : ℕ) (f g : ℕ → ℤ) (a : Completes tables end p n f g) (b : Completes tables end q (n + registers tables p) f g) where
    abbrev m : ℕ
    m = n + registers tables p

    both_live : live tables (Seq p q) n g ≡ live tables (Seq p q) n f
    both_live = ap₂ ◌||◌ a.is_live b.is_live

    both_apart : LivesApart tables (Seq p q) n f → LivesApart tables (Seq p q) n g
    both_apart h = (ap₂ ◌&&◌ a.is_live b.is_live ∙ h.0, a.is_apart h.1, b.is_apart h.2)

    both_over : LivesApart tables (Par p q) n f → LivesApart tables (Par p q) n g
    both_over h = (
      (λ on. let x = h.0 (sym both_live ∙ on) in (
        ap (λ t. t || (ends0 p || ends1 p)) a.is_live ∙ x.0,
        ap (λ t. t || (ends0 q || ends1 q)) b.is_live ∙ x.1,
      )),
      a.is_apart h.1,
      b.is_apart h.2,
    )

    one_left : live tables (Seq p q) n f ≡ true →
        cond (live tables p n g) (residual tables p n g) (residual tables q m g) ≡ rewritten (sent_by end) (got_by end) (cond (live tables p n f) (residual tables p n f) (residual tables q m f))
    one_left on = choice_left (rewritten (sent_by end) (got_by end)) (live tables p n g) (live tables p n f) (live tables q m f) (residual tables p n g) (residual tables q m g) (residual tables p n f) (residual tables q m f) a.is_live on a.left b.left

    seq_left : NoneWaits q → live tables (Seq p q) n f ≡ true → residual tables (Seq p q) n g ≡ rewritten (sent_by end) (got_by end) (residual tables (Seq p q) n f)
    seq_left none on =
        choice_left (rewritten (sent_by end) (got_by end)) (live tables p n g) (live tables p n f) (live tables q m f) (Seq (residual tables p n g) q) (residual tables q m g) (Seq (residual tables p n f) q) (residual tables q m f) a.is_live on
        (λ h. ap₂ Seq (a.left h) (sym (rewritten_same (sent_by end) (got_by end) q none))) b.left

    par_left : residual tables (Par p q) n g ≡ rewritten (sent_by end) (got_by end) (residual tables (Par p q) n f)
    par_left =
        ap₂ Par (branch_left (rewritten (sent_by end) (got_by end)) (live tables p n g) (live tables p n f) (residual tables p n g) (residual tables p n f) a.is_live a.left refl)
        (branch_left (rewritten (sent_by end) (got_by end)) (live tables q m g) (live tables q m f) (residual tables q m g) (residual tables q m f) b.is_live b.left refl)

  abbrev place : ℕ → ℕ → EndPlace
  place c n = record { which = end_number ends c; on = n; met = n + 1 }

  send_completes : (c n : ℕ) (f g : ℕ → ℤ) → HasEnd ends c Sender → SameBetween n (n + 3) g (met_at e (place c n) f) → is_true (f n) ≡ true →
      cond (is_true (g (n + 1))) (Sent c) (SendWaits c (g (n + 2))) ≡ rewritten (sent_by end) (got_by end) (cond (is_true (f (n + 1))) (Sent c) (SendWaits c (f (n + 2))))
  send_completes c n f g has same on =
      ap (λ x. cond (is_true x) (Sent c) (SendWaits c (g (n + 2)))) (same (n + 1) (omega arith) (omega arith))
      ∙ ap (λ x. cond (is_true (met_at e (place c n) f (n + 1))) (Sent c) (SendWaits c x)) (same (n + 2) (omega arith) (omega arith))
      ∙ send_met (sent_by end) (got_by end) c n f (end_number ends c == e) (is_true (f n)) on (sent_here ends apart e within c has)

  receive_completes : (c n : ℕ) (f g : ℕ → ℤ) → HasEnd ends c Receiver → SameBetween n (n + 2) g (met_at e (place c n) f) → is_true (f n) ≡ true →
      cond (is_true (g (n + 1))) (Received c) (ReceiveWaits c) ≡ rewritten (sent_by end) (got_by end) (cond (is_true (f (n + 1))) (Received c) (ReceiveWaits c))
  receive_completes c n f g has same on =
      ap (λ x. cond (is_true x) (Received c) (ReceiveWaits c)) (same (n + 1) (omega arith) (omega arith))
      ∙ receive_met (sent_by end) (got_by end) c n f (end_number ends c == e) (is_true (f n)) on (got_here ends apart e within c has)

  on_stays : (c n l : ℕ) (f g : ℕ → ℤ) → 1 ≤ l → SameBetween n (n + l) g (met_at e (place c n) f) → is_true (g n) ≡ is_true (f n)
  on_stays c n l f g some same = ap is_true (same n (omega arith) (omega (arith, some)) ∙ met_elsewhere e (place c n) f n (omega arith))

  pub completes : (p : Stmt) (n : ℕ) (f g : ℕ → ℤ) → HaveEnds ends p → NoneWaits p → HasJoin p n f g → Completes tables end p n f g
  completes Nothing n f g has none join = record { is_live = refl; left = λ on. refl; is_apart = λ h. h }
  completes Pause n f g has none join = record { is_live = ap is_true (pause_stays join); left = λ on. refl; is_apart = λ h. h }
    where
      pause_stays : SameBetween n (n + 1) g f → g n ≡ f n
      pause_stays same = same n (omega arith) (omega arith)
  completes (Emit s x) n f g has none join = record { is_live = refl; left = λ on. refl; is_apart = λ h. h }
  completes (Assign y x) n f g has none join = record { is_live = refl; left = λ on. refl; is_apart = λ h. h }
  completes (If x p q) n f g has none join =
      let a = completes p n f g has.0 (none_first p q none) (first_join p q n f g join) in
      let b = completes q (n + registers tables p) f g has.1 (none_second p q none) (second_join p q n f g join) in
      record { is_live = both_live p q n f g a b; left = one_left p q n f g a b; is_apart = both_apart p q n f g a b }
  completes (Present t p q) n f g has none join =
      let a = completes p n f g has.0 (none_first p q none) (first_join p q n f g join) in
      let b = completes q (n + registers tables p) f g has.1 (none_second p q none) (second_join p q n f g join) in
      record { is_live = both_live p q n f g a b; left = one_left p q n f g a b; is_apart = both_apart p q n f g a b }
  completes (Seq p q) n f g has none join =
      let a = completes p n f g has.0 (none_first p q none) (first_join p q n f g join) in
      let b = completes q (n + registers tables p) f g has.1 (none_second p q none) (second_join p q n f g join) in
      record { is_live = both_live p q n f g a b; left = seq_left p q n f g a b (none_second p q none); is_apart = both_apart p q n f g a b }
  completes (Loop p) n f g has none join =
      let a = completes p n f g has none join in
      record { is_live = a.is_live; left = λ on. ap₂ Seq (a.left on) (ap Loop (sym (rewritten_same (sent_by end) (got_by end) p none))); is_apart = a.is_apart }
  completes (Par p q) n f g has none join =
      let a = completes p n f g has.0 (none_first p q none) (first_join p q n f g join) in
      let b = completes q (n + registers tables p) f g has.1 (none_second p q none) (second_join p q n f g join) in
      record { is_live = both_live p q n f g a b; left = λ on. par_left p q n f g a b; is_apart = both_over p q n f g a b }
  completes (Trap p) n f g has none join = let a = completes p n f g has none join in record { is_live = a.is_live; left = λ on. ap Trap (a.left on); is_apart = a.is_apart }
  completes (Exit d) n f g has none join = record { is_live = refl; left = λ on. refl; is_apart = λ h. h }
  completes (Abort weak armed t p) n f g has none join = let a = completes p n f g has none join in record { is_live = a.is_live; left = λ on. ap (Abort weak true t) (a.left on); is_apart = a.is_apart }
  completes (Suspend armed t p) n f g has none join = let a = completes p n f g has none join in record { is_live = a.is_live; left = λ on. ap (Suspend true t) (a.left on); is_apart = a.is_apart }
  completes (Local s v p) n f g has none join =
      let kind = (signal_at tables s).kind in
      let m = n + length (value_kinds kind) in
      let inner : HasJoin p m f g = λ k low high. join k (omega (arith, low)) (omega (arith, high, registers_local tables s v p)) in
      let outer = last_alike kind n (registers tables p) g (met (end_places tables ends p m) e f) (λ k low high. join k low (omega (arith, high, registers_local tables s v p))) in
      let a = completes p m f g has none inner in
      record {
        is_live = a.is_live;
        left = λ on. ap₂ (Local s) (outer ∙ last_met kind n (m + registers tables p) e f (end_places tables ends p m) (places_rise tables ends p m)) (a.left on);
        is_apart = a.is_apart;
      }
  completes (Send c x) n f g has none join = record { is_live = on_stays c n 3 f g (omega arith) join; left = λ on. send_completes c n f g has join on; is_apart = λ h. h }
  completes (Receive c) n f g has none join = record { is_live = on_stays c n 2 f g (omega arith) join; left = λ on. receive_completes c n f g has join on; is_apart = λ h. h }
  completes (SendWaits c v) n f g has none join = record { is_live = refl; left = λ on. refl; is_apart = λ h. h }
  completes (Sent c) n f g has none join = record { is_live = refl; left = λ on. refl; is_apart = λ h. h }
  completes (ReceiveWaits c) n f g has none join = record { is_live = refl; left = λ on. refl; is_apart = λ h. h }
  completes (Received c) n f g has none join = record { is_live = refl; left = λ on. refl; is_apart = λ h. h }

  -- with `met` at the places of the end that are on
  pub completes_met : (p : Stmt) (n : ℕ) (f : ℕ → ℤ) → HaveEnds ends p → NoneWaits p → Completes tables end p n f (met (end_places tables ends p n) e f)
  completes_met p n f has none = completes p n f (met (end_places tables ends p n) e f) has none (λ k low high. refl)

  pub fit_met : (p : Stmt) (n : ℕ) (f : ℕ → ℤ) → HaveEnds ends p → NoneWaits p → FitRegisters tables p n f → FitRegisters tables p n (met (end_places tables ends p n) e f)
  fit_met p n f has none fits = let a = completes_met p n f has none in record { is_live = a.is_live ∙ fits.is_live; apart = a.is_apart fits.apart }
