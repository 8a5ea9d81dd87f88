-- The registers of a domain past those of its statement: its variables, its valued signals, and the last values of
-- its receiving channels.
use Rattle.std.proofs.Common.{◌≡◌, ◌≢◌, ℕ, zero, suc, ◌+◌, ◌<◌, ◌≤◌, ℤ, pos, Bool, true, false, cond, List, [], ◌∷◌, ◌++◌, length, get_or, map, refl, sym, ap, ◌∙◌, inl, inr, ◌⊎◌, arith}
use Rattle.std.specs.Prelude.{◌==◌}
use Rattle.std.proofs.Math.Path.{fun_ext}
use Rattle.std.proofs.lemmas.Bool.{cases_eq, eq-eqb, ne_eqb, cond-true, cond-false, eqb-true, true≢false}
use Rattle.std.proofs.lemmas.List.{length-append, length-map}
use Rattle.std.proofs.lemmas.List.FromFn.{length-range_with_len, get_or-range_with_len}
use Rattle.kernel_terms.specs.declared.tables.Tables.{Tables}
use Rattle.kernel_terms.specs.declared.tables.ChannelInfo.{ChannelInfo}
use Rattle.kernel_terms.specs.TableEntries.{channel_at, no_channel, numbers_where, variables_of, valued_of, received_by, value_kind, signal_at, variable_at}
use Rattle.kernel_terms.specs.Statements.{Stmt}
use Rattle.kernel_rules.specs.definitions.Signals.{put_at}
use Rattle.kernel_rules.specs.definitions.Registers.{registers, statement_registers, domain_registers, first_variable, first_value, first_last, held_for, variables_held, values_held, last_held}
use Rattle.cell_core.specs.declared.moves.Side.TheVariants.{Sender, Receiver}
use Rattle.domain_core.specs.declared.step.ends_of.EndOf.{EndOf}
use Rattle.domain_core.specs.definitions.step.EndCalls.{end_at}
use Rattle.domain_core.specs.definitions.step.EndRegisters.{last_places, receivers_before}
use Rattle.domain_core.specs.definitions.step.Domains.{ends_from, ends_of, is_receiver}
use Rattle.domain_core.specs.step.EndPlaces.{LastFits}
use Rattle.domain_core.proofs.lemmas.runs.StatesBetweenTicks.{put_here, put_apart}

-- registers that hold the same give the same
pub held_same : (is : List ℕ) (n : ℕ) (f g : ℕ → ℤ) → ((k : ℕ) → n ≤ k → k < n + length is → f k ≡ g k) → (c : ℕ) → held_for is n f c ≡ held_for is n g c
held_same [] n f g same c = refl
held_same (i ∷ is) n f g same c =
    ap (λ v. cond (i == c) v (held_for is (suc n) f c)) (same n (omega arith) (omega arith))
    ∙ ap (λ v. cond (i == c) (g n) v) (held_same is (suc n) f g (λ k low high. same k (omega (arith, low)) (omega (arith, high))) c)

-- numbers that rise, from a least one on
abbrev Rises : ℕ → List ℕ → Type 0
Rises lo [] = Unit {0}
Rises lo (i ∷ is) = (lo ≤ i) × Rises (suc i) is

rises_lower : (lo hi : ℕ) (is : List ℕ) → lo ≤ hi → Rises hi is → Rises lo is
rises_lower lo hi [] le h = tt
rises_lower lo hi (i ∷ is) le h = (omega (arith, le, h.0), h.1)

rises_at : (lo : ℕ) (is : List ℕ) (i : ℕ) → Rises lo is → i < length is → lo ≤ get_or is i 0
rises_at lo [] i h less = absurd (omega (arith, less))
rises_at lo (j ∷ js) zero h less = h.0
rises_at lo (j ∷ js) (suc i) h less = let x = rises_at (suc j) js i h.1 (omega (arith, less)) in omega (arith, x, h.0)

rises_where : {X : Type 0} (is : X → Bool) (n : ℕ) (xs : List X) → Rises n (numbers_where is n xs)
rises_where is n [] = tt
rises_where is n (x ∷ xs) = here (is x) (rises_where is (suc n) xs)
  where
    here : (t : Bool) → Rises (suc n) (numbers_where is (suc n) xs) → Rises n (cond t (n ∷ numbers_where is (suc n) xs) (numbers_where is (suc n) xs))
    here true rest = (omega arith, rest)
    here false rest = rises_lower n (suc n) (numbers_where is (suc n) xs) (omega arith) rest

-- a new value of one register
held_put : (is : List ℕ) (lo n i : ℕ) (f : ℕ → ℤ) (v : ℤ) (c : ℕ) → Rises lo is → i < length is → held_for is n (put_at f (n + i) v) c ≡ put_at (held_for is n f) (get_or is i 0) v c
held_put [] lo n i f v c rise less = absurd (omega (arith, less))
held_put (j ∷ js) lo n zero f v c rise less =
    ap (λ m. held_for (j ∷ js) n (put_at f m v) c) (omega arith)
    ∙ ap (λ x. cond (j == c) x (held_for js (suc n) (put_at f n v) c)) (put_here f n v)
    ∙ ap (λ x. cond (j == c) v x) (held_same js (suc n) (put_at f n v) f (λ k low high. put_apart f n v k (λ e. omega (arith, low, e))) c)
    ∙ by_test (cases_eq j c)
  where
    by_test : (j ≡ c) ⊎ (j ≢ c) → cond (j == c) v (held_for js (suc n) f c) ≡ cond (c == j) v (cond (j == c) (f n) (held_for js (suc n) f c))
    by_test (inl e) = cond-true (j == c) v (held_for js (suc n) f c) (eq-eqb j c e) ∙ sym (cond-true (c == j) v (cond (j == c) (f n) (held_for js (suc n) f c)) (eq-eqb c j (sym e)))
    by_test (inr ne) =
        cond-false (j == c) v (held_for js (suc n) f c) (ne_eqb j c ne)
        ∙ sym (cond-false (c == j) v (cond (j == c) (f n) (held_for js (suc n) f c)) (ne_eqb c j (λ e. ne (sym e))) ∙ cond-false (j == c) (f n) (held_for js (suc n) f c) (ne_eqb j c ne))
held_put (j ∷ js) lo n (suc i) f v c rise less =
    ap (λ x. cond (j == c) x (held_for js (suc n) (put_at f (n + suc i) v) c)) (put_apart f (n + suc i) v n (λ e. omega (arith, e)))
    ∙ ap (λ m. cond (j == c) (f n) (held_for js (suc n) (put_at f m v) c)) (omega arith)
    ∙ ap (λ x. cond (j == c) (f n) x) (held_put js (suc j) (suc n) i f v c rise.1 (omega (arith, less)))
    ∙ by_test (cases_eq j c)
  where
    by_test : (j ≡ c) ⊎ (j ≢ c) → cond (j == c) (f n) (cond (c == get_or js i 0) v (held_for js (suc n) f c)) ≡ cond (c == get_or js i 0) v (cond (j == c) (f n) (held_for js (suc n) f c))
    by_test (inl e) =
        let above = rises_at (suc j) js i rise.1 (omega (arith, less)) in
        cond-true (j == c) (f n) (cond (c == get_or js i 0) v (held_for js (suc n) f c)) (eq-eqb j c e)
        ∙ sym (cond-false (c == get_or js i 0) v (cond (j == c) (f n) (held_for js (suc n) f c)) (ne_eqb c (get_or js i 0) (λ q. omega (arith, above, e, q))) ∙ cond-true (j == c) (f n) (held_for js (suc n) f c) (eq-eqb j c e))
    by_test (inr ne) =
        cond-false (j == c) (f n) (cond (c == get_or js i 0) v (held_for js (suc n) f c)) (ne_eqb j c ne)
        ∙ ap (λ x. cond (c == get_or js i 0) v x) (sym (cond-false (j == c) (f n) (held_for js (suc n) f c) (ne_eqb j c ne)))

-- the receiving end of number k has its place among the channels that are received
pub record IsReceived (ends : List EndOf) (received : List ℕ) (k : ℕ) : Type 0 where
  pub within : receivers_before ends k < length received
  pub channel : get_or received (receivers_before ends k) 0 ≡ (end_at ends k).channel

abbrev one_for : Bool → ℕ
one_for true = 1
one_for false = 0

before_next : (e : EndOf) (es : List EndOf) (n : ℕ) → receivers_before (e ∷ es) (suc n) ≡ one_for (is_receiver e.side) + receivers_before es n
before_next e es zero = by_side (is_receiver e.side)
  where
    by_side : (t : Bool) → cond t 1 0 ≡ one_for t + 0
    by_side true = refl
    by_side false = refl
before_next e es (suc n) = by_side (is_receiver (end_at es n).side) (before_next e es n)
  where
    by_side : (t : Bool) → receivers_before (e ∷ es) (suc n) ≡ one_for (is_receiver e.side) + receivers_before es n →
        cond t (suc (receivers_before (e ∷ es) (suc n))) (receivers_before (e ∷ es) (suc n)) ≡ one_for (is_receiver e.side) + cond t (suc (receivers_before es n)) (receivers_before es n)
    by_side true h = omega (arith, h)
    by_side false h = h

abbrev receives_for : ℕ → ChannelInfo → Bool
receives_for d info = info.receiver == d

sender_isnt : Sender ≡ Receiver → ⊥
sender_isnt same = true≢false (ap is_receiver (sym same))

-- the ends behind a first one, and the channels that are received
behind : (e : EndOf) (es : List EndOf) (l : List ℕ) (m n : ℕ) → receivers_before (e ∷ es) (suc m) ≡ n → n < length l → get_or l n 0 ≡ (end_at es m).channel → IsReceived (e ∷ es) l (suc m)
behind e es l m n is low at = record { within = omega (arith, is, low); channel = ap (λ i. get_or l i 0) is ∙ at }

is_received_in : (d c : ℕ) (info : ChannelInfo) (E : List EndOf) (N : List ℕ) → info.sender ≢ info.receiver → (s t : Bool) → (info.sender == d) ≡ s → (info.receiver == d) ≡ t → (k : ℕ) →
    ((m : ℕ) → m < length E → (end_at E m).side ≡ Receiver → IsReceived E N m) →
    k < length (cond s (record { channel = c; side = Sender } ∷ E) (cond t (record { channel = c; side = Receiver } ∷ E) E)) →
    (end_at (cond s (record { channel = c; side = Sender } ∷ E) (cond t (record { channel = c; side = Receiver } ∷ E) E)) k).side ≡ Receiver →
    IsReceived (cond s (record { channel = c; side = Sender } ∷ E) (cond t (record { channel = c; side = Receiver } ∷ E) E)) (cond t (c ∷ N) N) k
is_received_in d c info E N apart true true is it k rest less side = absurd (apart (eqb-true info.sender d is ∙ sym (eqb-true info.receiver d it)))
is_received_in d c info E N apart true false is it zero rest less side = absurd (sender_isnt side)
is_received_in d c info E N apart true false is it (suc m) rest less side =
    let r = rest m (omega (arith, less)) side in
    behind (record { channel = c; side = Sender }) E N m (receivers_before E m) (before_next (record { channel = c; side = Sender }) E m ∙ omega arith) r.within r.channel
is_received_in d c info E N apart false true is it zero rest less side = record { within = omega arith; channel = refl }
is_received_in d c info E N apart false true is it (suc m) rest less side =
    let r = rest m (omega (arith, less)) side in
    behind (record { channel = c; side = Receiver }) E (c ∷ N) m (suc (receivers_before E m)) (before_next (record { channel = c; side = Receiver }) E m ∙ omega arith) (omega (arith, r.within)) r.channel
is_received_in d c info E N apart false false is it k rest less side = rest k less side

is_received_from : (d c : ℕ) (infos : List ChannelInfo) (k : ℕ) → ((i : ℕ) → i < length infos → (get_or infos i no_channel).sender ≢ (get_or infos i no_channel).receiver) →
    k < length (ends_from d c infos) → (end_at (ends_from d c infos) k).side ≡ Receiver → IsReceived (ends_from d c infos) (numbers_where (receives_for d) c infos) k
is_received_from d c [] k apart less side = absurd (omega (arith, less))
is_received_from d c (info ∷ infos) k apart less side =
    is_received_in d c info (ends_from d (suc c) infos) (numbers_where (receives_for d) (suc c) infos) (apart 0 (omega arith)) (info.sender == d) (info.receiver == d) refl refl k
    (λ m l s. is_received_from d (suc c) infos m (λ i w. apart (suc i) (omega (arith, w))) l s) less side

module _ (tables : Tables) (d : ℕ) (p : Stmt) where
  -- registers that are the same from those of the statement to those of the last values
  pub variables_same : (f g : ℕ → ℤ) → ((k : ℕ) → registers tables p ≤ k → k < first_last tables d p → f k ≡ g k) → variables_held tables d p f ≡ variables_held tables d p g
  variables_same f g same = fun_ext (λ c. held_same (variables_of tables d) (first_variable tables p) f g (λ k low high. same k (omega (arith, low)) (omega (arith, high))) c)

  pub values_same : (f g : ℕ → ℤ) → ((k : ℕ) → registers tables p ≤ k → k < first_last tables d p → f k ≡ g k) → values_held tables d p f ≡ values_held tables d p g
  values_same f g same = fun_ext (λ c. held_same (valued_of tables d) (first_value tables d p) f g (λ k low high. same k (omega (arith, low)) (omega (arith, high))) c)

  pub last_same : (f g : ℕ → ℤ) → ((k : ℕ) → registers tables p ≤ k → f k ≡ g k) → last_held tables d p f ≡ last_held tables d p g
  last_same f g same = fun_ext (λ c. held_same (received_by tables d) (first_last tables d p) f g (λ k low high. same k (omega (arith, low))) c)

  -- how many registers there are
  pub count_registers : length (domain_registers tables d p) ≡ first_last tables d p + length (received_by tables d)
  count_registers =
      let xs = map (λ x. (variable_at tables x).kind) (variables_of tables d) in
      let vs = map (λ s. value_kind (signal_at tables s)) (valued_of tables d) in
      let cs = map (λ c. (channel_at tables c).kind) (received_by tables d) in
      let a = length-append (statement_registers tables p) (xs ++ (vs ++ cs)) in
      let b = length-append xs (vs ++ cs) in
      let e = length-append vs cs in
      let x = length-map (variables_of tables d) (λ x. (variable_at tables x).kind) in
      let y = length-map (valued_of tables d) (λ s. value_kind (signal_at tables s)) in
      let z = length-map (received_by tables d) (λ c. (channel_at tables c).kind) in
      omega (arith, a, b, e, x, y, z)

  module _ (apart : (c : ℕ) → c < length tables.channels → (channel_at tables c).sender ≢ (channel_at tables c).receiver) (k : ℕ) (within : k < length (ends_of tables d)) (side : (end_at (ends_of tables d) k).side ≡ Receiver) where
    pub is_received : IsReceived (ends_of tables d) (received_by tables d) k
    is_received = is_received_from d 0 tables.channels k apart within side

    pub last_place : get_or (last_places tables d p) (receivers_before (ends_of tables d) k) 0 ≡ first_last tables d p + receivers_before (ends_of tables d) k
    last_place = get_or-range_with_len (first_last tables d p) (length (received_by tables d)) (receivers_before (ends_of tables d) k) 0 is_received.within

    -- the register of the last value
    pub last_put : (f : ℕ → ℤ) (v : ℤ) → last_held tables d p (put_at f (get_or (last_places tables d p) (receivers_before (ends_of tables d) k) 0) v) ≡ put_at (last_held tables d p f) (end_at (ends_of tables d) k).channel v
    last_put f v =
        ap (λ m. last_held tables d p (put_at f m v)) last_place
        ∙ fun_ext (λ c. held_put (received_by tables d) 0 (first_last tables d p) (receivers_before (ends_of tables d) k) f v c (rises_where (receives_for d) 0 tables.channels) is_received.within)
        ∙ ap (λ m. put_at (last_held tables d p f) m v) is_received.channel

    pub last_apart : (f : ℕ → ℤ) (v : ℤ) (m : ℕ) → m < first_last tables d p → put_at f (get_or (last_places tables d p) (receivers_before (ends_of tables d) k) 0) v m ≡ f m
    last_apart f v m low = put_apart f (get_or (last_places tables d p) (receivers_before (ends_of tables d) k) 0) v m (λ e. omega (arith, low, e, last_place))

  -- the registers of the last values are there
  pub last_fits : ((c : ℕ) → c < length tables.channels → (channel_at tables c).sender ≢ (channel_at tables c).receiver) → (n : ℕ) → n ≡ length (domain_registers tables d p) → LastFits (last_places tables d p) (ends_of tables d) n
  last_fits apart n count = record {
    place = λ k within side. let r = is_received apart k within side in omega (arith, r.within, length-range_with_len (first_last tables d p) (length (received_by tables d)));
    register = λ i less.
        let low : i < length (received_by tables d) = omega (arith, less, length-range_with_len (first_last tables d p) (length (received_by tables d))) in
        omega (arith, get_or-range_with_len (first_last tables d p) (length (received_by tables d)) i 0 low, low, count, count_registers);
  }

  -- all registers are 0
  held_zero : (is : List ℕ) (n : ℕ) (f : ℕ → ℤ) → ((k : ℕ) → f k ≡ pos 0) → (c : ℕ) → held_for is n f c ≡ pos 0
  held_zero [] n f zeros c = refl
  held_zero (i ∷ is) n f zeros c = by_test (i == c) (held_zero is (suc n) f zeros c)
    where
      by_test : (t : Bool) → held_for is (suc n) f c ≡ pos 0 → cond t (f n) (held_for is (suc n) f c) ≡ pos 0
      by_test true rest = zeros n
      by_test false rest = rest

  pub variables_zero : (f : ℕ → ℤ) → ((k : ℕ) → f k ≡ pos 0) → variables_held tables d p f ≡ (λ x. pos 0)
  variables_zero f zeros = fun_ext (held_zero (variables_of tables d) (first_variable tables p) f zeros)

  pub values_zero : (f : ℕ → ℤ) → ((k : ℕ) → f k ≡ pos 0) → values_held tables d p f ≡ (λ s. pos 0)
  values_zero f zeros = fun_ext (held_zero (valued_of tables d) (first_value tables d p) f zeros)

  pub last_zero : (f : ℕ → ℤ) → ((k : ℕ) → f k ≡ pos 0) → last_held tables d p f ≡ (λ c. pos 0)
  last_zero f zeros = fun_ext (held_zero (received_by tables d) (first_last tables d p) f zeros)
