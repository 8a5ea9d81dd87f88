-- Which ends wait in the statement that the registers of any source stand for.
use Rattle.std.proofs.Common.{◌≡◌, ℕ, ◌+◌, ◌<◌, ℤ, pos, Bool, true, false, cond, List, [], ◌∷◌, ◌++◌, length, arith, Option, Some, None, refl, sym, ap, ◌∙◌, subst, inl, inr}
use Rattle.std.specs.Prelude.{◌||◌, ◌&&◌, ◌==◌, not}
use Rattle.std.proofs.lemmas.Bool.{eq-eqb, eqb-true, cond-false, true≢false}
use Rattle.java_values.specs.Arithmetic.{is_true}
use Rattle.kernel_terms.specs.declared.tables.Tables.{Tables}
use Rattle.kernel_terms.specs.TableEntries.{signal_at}
use Rattle.kernel_terms.specs.Statements.{Stmt, Nothing, Pause, Emit, Assign, If, Present, Seq, Loop, Par, Trap, Exit, Abort, Suspend, Local, Send, Receive, SendWaits, Sent, ReceiveWaits, Received}
use Rattle.kernel_rules.specs.definitions.Registers.{registers, value_kinds, live, residual, last_value, LivesApart, FitRegisters}
use Rattle.cell_core.specs.declared.moves.Side.{Side}
use Rattle.cell_core.specs.declared.moves.Side.TheVariants.{Sender, Receiver}
use Rattle.plain_code.specs.declared.end_place.EndPlace.{EndPlace}
use Rattle.domain_core.specs.declared.step.ends_of.EndOf.{EndOf}
use Rattle.domain_core.specs.definitions.runs.Systems.{WaitsToSend, WaitsToReceive}
use Rattle.domain_core.specs.definitions.step.Domains.{is_receiver}
use Rattle.domain_core.specs.definitions.step.EndCalls.{end_at}
use Rattle.domain_core.specs.definitions.step.EndRegisters.{end_number, end_places}
use Rattle.domain_core.specs.definitions.step.Steps.{WaitsAs, IsAsk}
use Rattle.domain_core.specs.step.EndPlaces.{waits_at, value_at, ask_of, first_of}
use Rattle.domain_core.specs.step.StatementEnds.{HaveEnds, NoneWaits}
use Rattle.domain_core.proofs.lemmas.step.AskPasses.{asked_last}
use Rattle.domain_core.proofs.lemmas.step.StateJoins.{AreApart}
use Rattle.domain_core.proofs.lemmas.step.StatementJoins.{none_first, none_second, sends_at, sent_here, got_here}

-- the places of two parts ask what the first asks, or else the second
ask-append : (a b : List EndPlace) (k : ℕ) (s : Side) (f : ℕ → ℤ) → ask_of (a ++ b) k s f ≡ first_of (ask_of a k s f) (ask_of b k s f)
ask-append [] b k s f = refl
ask-append (p ∷ a) b k s f = by (waits_at k p f) (ask-append a b k s f)
  where
    by : (t : Bool) → ask_of (a ++ b) k s f ≡ first_of (ask_of a k s f) (ask_of b k s f) →
        cond t (Some (value_at s p f)) (ask_of (a ++ b) k s f) ≡ first_of (cond t (Some (value_at s p f)) (ask_of a k s f)) (ask_of b k s f)
    by true rest = refl
    by false rest = rest

off_and : (t u w : Bool) → u ≡ false → t && (u && w) ≡ false
off_and true u w off = ap (λ x. x && w) off
off_and false u w off = refl

left_off : (a b : Bool) → a || b ≡ false → a ≡ false
left_off true b off = off
left_off false b off = refl

right_off : (a b : Bool) → a || b ≡ false → b ≡ false
right_off true b off = absurd (true≢false off)
right_off false b off = off

-- Where an end waits, from part to whole and back.

waits_in : (s : Side) (c : ℕ) (v : ℤ) (r t : Stmt) → (WaitsToSend c v r → WaitsToSend c v t) → (WaitsToReceive c r → WaitsToReceive c t) → WaitsAs s c v r → WaitsAs s c v t
waits_in Sender c v r t send receive w = send w
waits_in Receiver c v r t send receive w = (receive w.0, w.1)

nothing_waits : (s : Side) (c : ℕ) (v : ℤ) (p : Stmt) → NoneWaits p → WaitsAs s c v p → ⊥
nothing_waits Sender c v p none w = none.0 c v w
nothing_waits Receiver c v p none w = none.1 c w.0

-- a statement asks nothing where none waits
none_asks : (e : EndOf) (p : Stmt) → NoneWaits p → IsAsk e p None
none_asks e p none = λ v w. nothing_waits e.side e.channel v p none w

pub nothing_asks : (e : EndOf) → IsAsk e Nothing None
nothing_asks e = none_asks e Nothing ((λ c v w. w), (λ c w. w))

-- a statement that waits exactly where its part does asks as the part
part_asks : (e : EndOf) (r t : Stmt) (a : Option ℤ) → ((c : ℕ) (v : ℤ) → WaitsToSend c v r → WaitsToSend c v t) → ((c : ℕ) (v : ℤ) → WaitsToSend c v t → WaitsToSend c v r) →
    ((c : ℕ) → WaitsToReceive c r → WaitsToReceive c t) → ((c : ℕ) → WaitsToReceive c t → WaitsToReceive c r) → IsAsk e r a → IsAsk e t a
part_asks e r t None send sent receive got ask = λ v w. ask v (waits_in e.side e.channel v t r (sent e.channel v) (got e.channel) w)
part_asks e r t (Some v) send sent receive got ask = waits_in e.side e.channel v r t (send e.channel v) (receive e.channel) ask

-- a sequence whose second part hasn't started asks as its first part
seq_asks : (e : EndOf) (r q : Stmt) (a : Option ℤ) → NoneWaits q → IsAsk e r a → IsAsk e (Seq r q) a
seq_asks e r q a none =
    part_asks e r (Seq r q) a (λ c v w. inl w) (λ c v w. elim w [ inl x ↦ x | inr x ↦ absurd (none.0 c v x) ])
    (λ c w. inl w) (λ c w. elim w [ inl x ↦ x | inr x ↦ absurd (none.1 c x) ])

-- two branches ask what the first asks, or else the second
par_asks : (e : EndOf) (r t : Stmt) (a b : Option ℤ) → IsAsk e r a → IsAsk e t b → IsAsk e (Par r t) (first_of a b)
par_asks e r t None None x y = λ v w. split e.side v (x v) (y v) w
  where
    split : (s : Side) (v : ℤ) → (WaitsAs s e.channel v r → ⊥) → (WaitsAs s e.channel v t → ⊥) → WaitsAs s e.channel v (Par r t) → ⊥
    split Sender v x y w = elim w [ inl z ↦ x z | inr z ↦ y z ]
    split Receiver v x y w = elim w.0 [ inl z ↦ x (z, w.1) | inr z ↦ y (z, w.1) ]
par_asks e r t None (Some v) x y = waits_in e.side e.channel v t (Par r t) (λ w. inr w) (λ w. inr w) y
par_asks e r t (Some v) b x y = waits_in e.side e.channel v r (Par r t) (λ w. inl w) (λ w. inl w) x

-- of two parts of which one is live
choice_asks : (e : EndOf) (t s : Bool) (x y : Stmt) (a b : Option ℤ) → t || s ≡ true → t && s ≡ false → (t ≡ true → IsAsk e x a) → (t ≡ false → a ≡ None) →
    (s ≡ true → IsAsk e y b) → (s ≡ false → b ≡ None) → IsAsk e (cond t x y) (first_of a b)
choice_asks e true s x y a b on apart first no_first second no_second = subst (IsAsk e x) (sym (ap (first_of a) (no_second apart) ∙ asked_last a)) (first refl)
choice_asks e false s x y a b on apart first no_first second no_second = subst (IsAsk e y) (sym (ap (λ z. first_of z b) (no_first refl))) (second on)

-- and a branch, which may have ended
branch_asks : (e : EndOf) (t : Bool) (x : Stmt) (a : Option ℤ) → (t ≡ true → IsAsk e x a) → (t ≡ false → a ≡ None) → IsAsk e (cond t x Nothing) a
branch_asks e true x a first no_first = first refl
branch_asks e false x a first no_first = subst (IsAsk e Nothing) (sym (no_first refl)) (nothing_asks e)

send_test : (d c : ℕ) (value : ℤ) (t m : Bool) → (c == d) ≡ t → IsAsk (record { channel = d; side = Sender }) (cond m (Sent c) (SendWaits c value)) (cond (t && (true && not m)) (Some value) None)
send_test d c value true true test = λ v w. w
send_test d c value true false test = (eqb-true c d test, refl)
send_test d c value false true test = λ v w. w
send_test d c value false false test = λ v w. true≢false (sym (eq-eqb c d w.0) ∙ test)

-- t tells whether the send is one of the end
send_asks : (s : Side) (d c : ℕ) (at : EndPlace) (f : ℕ → ℤ) (t u m : Bool) → u ≡ true → sends_at s && (c == d) ≡ t →
    IsAsk (record { channel = d; side = s }) (cond m (Sent c) (SendWaits c (f (at.met + 1)))) (cond (t && (u && not m)) (Some (value_at s at f)) None)
send_asks Sender d c at f t true m on is = send_test d c (f (at.met + 1)) t m is
send_asks Receiver d c at f false true true on is = λ v w. w.0
send_asks Receiver d c at f false true false on is = λ v w. w.0
send_asks Receiver d c at f true true m on is = absurd (true≢false (sym is))
send_asks s d c at f t false m on is = absurd (true≢false (sym on))

receive_test : (d c : ℕ) (t m : Bool) → (c == d) ≡ t → IsAsk (record { channel = d; side = Receiver }) (cond m (Received c) (ReceiveWaits c)) (cond (t && (true && not m)) (Some (pos 0)) None)
receive_test d c true true test = λ v w. w.0
receive_test d c true false test = (eqb-true c d test, refl)
receive_test d c false true test = λ v w. w.0
receive_test d c false false test = λ v w. true≢false (sym (eq-eqb c d w.0) ∙ test)

receive_asks : (s : Side) (d c : ℕ) (at : EndPlace) (f : ℕ → ℤ) (t u m : Bool) → u ≡ true → is_receiver s && (c == d) ≡ t →
    IsAsk (record { channel = d; side = s }) (cond m (Received c) (ReceiveWaits c)) (cond (t && (u && not m)) (Some (value_at s at f)) None)
receive_asks Receiver d c at f t true m on is = receive_test d c t m is
receive_asks Sender d c at f false true true on is = λ v w. w
receive_asks Sender d c at f false true false on is = λ v w. w
receive_asks Sender d c at f true true m on is = absurd (true≢false (sym is))
receive_asks s d c at f t false m on is = absurd (true≢false (sym on))

module _ (tables : Tables) (ends : List EndOf) (k : ℕ) (s : Side) where
  abbrev asked : Stmt → ℕ → (ℕ → ℤ) → Option ℤ
  asked p n f = ask_of (end_places tables ends p n) k s f

  both_quiet : (p q : Stmt) (n : ℕ) (f : ℕ → ℤ) → asked p n f ≡ None → asked q (n + registers tables p) f ≡ None → asked (Seq p q) n f ≡ None
  both_quiet p q n f first second =
      ask-append (end_places tables ends p n) (end_places tables ends q (n + registers tables p)) k s f
      ∙ ap (λ z. first_of z (asked q (n + registers tables p) f)) first ∙ second

  one_quiet : (c n : ℕ) (f : ℕ → ℤ) → is_true (f n) ≡ false → ask_of (record { which = end_number ends c; on = n; met = n + 1 } ∷ []) k s f ≡ None
  one_quiet c n f off =
      let place : EndPlace = record { which = end_number ends c; on = n; met = n + 1 } in
      cond-false (waits_at k place f) (Some (value_at s place f)) None (off_and (end_number ends c == k) (is_true (f n)) (not (is_true (f (n + 1)))) off)

  -- a part that isn't live asks nothing
  pub quiet : (p : Stmt) (n : ℕ) (f : ℕ → ℤ) → live tables p n f ≡ false → asked p n f ≡ None
  quiet Nothing n f off = refl
  quiet Pause n f off = refl
  quiet (Emit x e) n f off = refl
  quiet (Assign x e) n f off = refl
  quiet (If e p q) n f off = both_quiet p q n f (quiet p n f (left_off (live tables p n f) (live tables q (n + registers tables p) f) off)) (quiet q (n + registers tables p) f (right_off (live tables p n f) (live tables q (n + registers tables p) f) off))
  quiet (Present t p q) n f off = both_quiet p q n f (quiet p n f (left_off (live tables p n f) (live tables q (n + registers tables p) f) off)) (quiet q (n + registers tables p) f (right_off (live tables p n f) (live tables q (n + registers tables p) f) off))
  quiet (Seq p q) n f off = both_quiet p q n f (quiet p n f (left_off (live tables p n f) (live tables q (n + registers tables p) f) off)) (quiet q (n + registers tables p) f (right_off (live tables p n f) (live tables q (n + registers tables p) f) off))
  quiet (Loop p) n f off = quiet p n f off
  quiet (Par p q) n f off = both_quiet p q n f (quiet p n f (left_off (live tables p n f) (live tables q (n + registers tables p) f) off)) (quiet q (n + registers tables p) f (right_off (live tables p n f) (live tables q (n + registers tables p) f) off))
  quiet (Trap p) n f off = quiet p n f off
  quiet (Exit d) n f off = refl
  quiet (Abort weak armed t p) n f off = quiet p n f off
  quiet (Suspend armed t p) n f off = quiet p n f off
  quiet (Local x v p) n f off = quiet p (n + length (value_kinds (signal_at tables x).kind)) f off
  quiet (Send c e) n f off = one_quiet c n f off
  quiet (Receive c) n f off = one_quiet c n f off
  quiet (SendWaits c v) n f off = refl
  quiet (Sent c) n f off = refl
  quiet (ReceiveWaits c) n f off = refl
  quiet (Received c) n f off = refl

module _ (tables : Tables) (ends : List EndOf) (ends_apart : AreApart ends) (k : ℕ) (within : k < length ends) where
  abbrev this : EndOf
  this = end_at ends k

  abbrev ask_in : Stmt → ℕ → (ℕ → ℤ) → Option ℤ
  ask_in p n f = ask_of (end_places tables ends p n) k this.side f

  -- the statement that the registers stand for waits exactly where its places ask
  abbrev Asks : Stmt → ℕ → (ℕ → ℤ) → Type 0
  Asks p n f = IsAsk this (residual tables p n f) (ask_in p n f)

  never_live : {C : Type 0} → false ≡ true → C
  never_live on = absurd (true≢false (sym on))

  module _ (p q : Stmt) (n : ℕ) (f : ℕ → ℤ) where
    abbrev m : ℕ
    m = n + registers tables p

    both_asked : ask_in (Seq p q) n f ≡ first_of (ask_in p n f) (ask_in q m f)
    both_asked = ask-append (end_places tables ends p n) (end_places tables ends q m) k this.side f

    one_asks : (x y : Stmt) → live tables (Seq p q) n f ≡ true → live tables p n f && live tables q m f ≡ false → (live tables p n f ≡ true → IsAsk this x (ask_in p n f)) →
        (live tables q m f ≡ true → IsAsk this y (ask_in q m f)) → IsAsk this (cond (live tables p n f) x y) (ask_in (Seq p q) n f)
    one_asks x y on apart first second =
        subst (IsAsk this (cond (live tables p n f) x y)) (sym both_asked)
        (choice_asks this (live tables p n f) (live tables q m f) x y (ask_in p n f) (ask_in q m f) on apart first (quiet tables ends k this.side p n f) second (quiet tables ends k this.side q m f))

    two_ask : (live tables p n f ≡ true → Asks p n f) → (live tables q m f ≡ true → Asks q m f) → IsAsk this (residual tables (Par p q) n f) (ask_in (Seq p q) n f)
    two_ask first second =
        subst (IsAsk this (residual tables (Par p q) n f)) (sym both_asked)
        (par_asks this (cond (live tables p n f) (residual tables p n f) Nothing) (cond (live tables q m f) (residual tables q m f) Nothing) (ask_in p n f) (ask_in q m f)
        (branch_asks this (live tables p n f) (residual tables p n f) (ask_in p n f) first (quiet tables ends k this.side p n f))
        (branch_asks this (live tables q m f) (residual tables q m f) (ask_in q m f) second (quiet tables ends k this.side q m f)))

  -- a live statement asks where it waits
  pub asks : (p : Stmt) (n : ℕ) (f : ℕ → ℤ) → HaveEnds ends p → NoneWaits p → live tables p n f ≡ true → LivesApart tables p n f → Asks p n f
  asks Nothing n f has none on apart = never_live on
  asks Pause n f has none on apart = nothing_asks this
  asks (Emit s x) n f has none on apart = never_live on
  asks (Assign y x) n f has none on apart = never_live on
  asks (If x p q) n f has none on apart =
      one_asks p q n f (residual tables p n f) (residual tables q (n + registers tables p) f) on apart.0 (λ h. asks p n f has.0 (none_first p q none) h apart.1) (λ h. asks q (n + registers tables p) f has.1 (none_second p q none) h apart.2)
  asks (Present t p q) n f has none on apart =
      one_asks p q n f (residual tables p n f) (residual tables q (n + registers tables p) f) on apart.0 (λ h. asks p n f has.0 (none_first p q none) h apart.1) (λ h. asks q (n + registers tables p) f has.1 (none_second p q none) h apart.2)
  asks (Seq p q) n f has none on apart =
      one_asks p q n f (Seq (residual tables p n f) q) (residual tables q (n + registers tables p) f) on apart.0
      (λ h. seq_asks this (residual tables p n f) q (ask_in p n f) (none_second p q none) (asks p n f has.0 (none_first p q none) h apart.1))
      (λ h. asks q (n + registers tables p) f has.1 (none_second p q none) h apart.2)
  asks (Loop p) n f has none on apart = seq_asks this (residual tables p n f) (Loop p) (ask_in p n f) none (asks p n f has none on apart)
  asks (Par p q) n f has none on apart = two_ask p q n f (λ h. asks p n f has.0 (none_first p q none) h apart.1) (λ h. asks q (n + registers tables p) f has.1 (none_second p q none) h apart.2)
  asks (Trap p) n f has none on apart = part_asks this (residual tables p n f) (Trap (residual tables p n f)) (ask_in p n f) (λ c v w. w) (λ c v w. w) (λ c w. w) (λ c w. w) (asks p n f has none on apart)
  asks (Exit d) n f has none on apart = never_live on
  asks (Abort weak armed t p) n f has none on apart =
      part_asks this (residual tables p n f) (Abort weak true t (residual tables p n f)) (ask_in p n f) (λ c v w. w) (λ c v w. w) (λ c w. w) (λ c w. w) (asks p n f has none on apart)
  asks (Suspend armed t p) n f has none on apart =
      part_asks this (residual tables p n f) (Suspend true t (residual tables p n f)) (ask_in p n f) (λ c v w. w) (λ c v w. w) (λ c w. w) (λ c w. w) (asks p n f has none on apart)
  asks (Local s v p) n f has none on apart =
      let kind = (signal_at tables s).kind in
      let m = n + length (value_kinds kind) in
      part_asks this (residual tables p m f) (Local s (last_value kind n f) (residual tables p m f)) (ask_in p m f) (λ c v w. w) (λ c v w. w) (λ c w. w) (λ c w. w) (asks p m f has none on apart)
  asks (Send c x) n f has none on apart = subst (λ v. IsAsk this (cond (is_true (f (n + 1))) (Sent c) (SendWaits c (f v))) (ask_in (Send c x) n f)) (omega arith)
      (send_asks this.side this.channel c (record { which = end_number ends c; on = n; met = n + 1 }) f (end_number ends c == k) (is_true (f n)) (is_true (f (n + 1))) on (sent_here ends ends_apart k within c has))
  asks (Receive c) n f has none on apart = receive_asks this.side this.channel c (record { which = end_number ends c; on = n; met = n + 1 }) f (end_number ends c == k) (is_true (f n)) (is_true (f (n + 1))) on (got_here ends ends_apart k within c has)
  asks (SendWaits c v) n f has none on apart = never_live on
  asks (Sent c) n f has none on apart = never_live on
  asks (ReceiveWaits c) n f has none on apart = never_live on
  asks (Received c) n f has none on apart = never_live on

  -- so do registers that fit
  pub fit_asks : (p : Stmt) (n : ℕ) (f : ℕ → ℤ) → HaveEnds ends p → NoneWaits p → FitRegisters tables p n f → Asks p n f
  fit_asks p n f has none fits = asks p n f has none fits.is_live fits.apart
