-- What the wires of ends tell.
use Rattle.std.proofs.Common.{◌≡◌, ℕ, suc, ◌+◌, ◌==◌, ℤ, Bool, true, false, ◌&&◌, cond, List, [], ◌∷◌, ◌++◌, length, Some, refl, sym, ap, ◌∙◌}
use Rattle.std.specs.Option.{is_some}
use Rattle.std.proofs.lemmas.Bool.{true≢false}
use Rattle.java_values.specs.Arithmetic.{is_true, of_bool}
use Rattle.java_values.specs.declared.kind.Kind.TheVariants.{Boolean}
use Rattle.kernel_terms.specs.declared.tables.Tables.{Tables}
use Rattle.kernel_terms.specs.TableEntries.{channel_at}
use Rattle.tick_code.specs.declared.end_place.EndPlace.{EndPlace}
use Rattle.surf_graph.specs.definitions.Formulas.{Satisfies, is_on}
use Rattle.surf_graph.specs.definitions.Tells.{set_value}
use Rattle.surf_graph.specs.definitions.DomainCopies.{set_equations}
use Rattle.surf_graph.specs.definitions.EndWires.{is_waiting, waiting_place, waiting_equations, waits_of, sends_of, wait_equations, wait_wires, SendingEnd, sending_ends, send_equations, send_wires, TellWaits, TellSends, channels_of, ends_of_copy}
use Rattle.surf_graph.proofs.SetValues.{satisfies_front, satisfies_back}
use Rattle.surf_graph.proofs.DomainRegisters.{set_told}

true_of : (b : Bool) → is_true (of_bool b) ≡ b
true_of true = refl
true_of false = refl

-- the wire of a place tells whether it waits
place_told : (f w : ℕ → ℤ) (next : ℕ → ℕ) (n : ℕ) (p : EndPlace) (ps : List EndPlace) → Satisfies f w (waiting_equations (p ∷ ps) next n) → is_on w n ≡ is_waiting (λ j. w (next j)) p
place_told f w next n p ps h = ap is_true h.0 ∙ true_of (is_waiting (λ j. w (next j)) p)

pub waits_told : (f w : ℕ → ℤ) (next : ℕ → ℕ) (ps : List EndPlace) (k n : ℕ) → Satisfies f w (waiting_equations ps next n) → is_true (set_value w (waits_of ps k n)) ≡ is_some (waiting_place ps k (λ j. w (next j)))
waits_told f w next [] k n h = refl
waits_told f w next (p ∷ ps) k n h =
    by_end (p.which == k) (is_waiting (λ j. w (next j)) p) (place_told f w next n p ps h) (waits_told f w next ps k (suc n) h.1)
  where
    by_waiting : (b : Bool) → is_on w n ≡ b → is_true (set_value w (waits_of ps k (suc n))) ≡ is_some (waiting_place ps k (λ j. w (next j)))
        → is_true (cond (is_on w n) (w n) (set_value w (waits_of ps k (suc n)))) ≡ is_some (cond b (Some p) (waiting_place ps k (λ j. w (next j))))
    by_waiting true e rest = ap (λ c. is_true (cond c (w n) (set_value w (waits_of ps k (suc n))))) e ∙ e
    by_waiting false e rest = ap (λ c. is_true (cond c (w n) (set_value w (waits_of ps k (suc n))))) e ∙ rest

    by_end : (a b : Bool) → is_on w n ≡ b → is_true (set_value w (waits_of ps k (suc n))) ≡ is_some (waiting_place ps k (λ j. w (next j)))
        → is_true (set_value w (cond a (record { condition = n; value = n } ∷ waits_of ps k (suc n)) (waits_of ps k (suc n)))) ≡ is_some (cond (a && b) (Some p) (waiting_place ps k (λ j. w (next j))))
    by_end true b e rest = by_waiting b e rest
    by_end false b e rest = rest

same_place : (p q : EndPlace) → Some p ≡ Some q → p ≡ q
same_place p q e = search e

pub sends_told : (f w : ℕ → ℤ) (next : ℕ → ℕ) (ps : List EndPlace) (k n : ℕ) (q : EndPlace) → Satisfies f w (waiting_equations ps next n) → waiting_place ps k (λ j. w (next j)) ≡ Some q
    → set_value w (sends_of ps next k n) ≡ w (next (suc q.met))
sends_told f w next [] k n q h e = absurd (true≢false (sym (ap is_some e)))
sends_told f w next (p ∷ ps) k n q h e =
    by_end (p.which == k) (is_waiting (λ j. w (next j)) p) (place_told f w next n p ps h) e (λ g. sends_told f w next ps k (suc n) q h.1 g)
  where
    rest : ℤ
    rest = set_value w (sends_of ps next k (suc n))

    by_waiting : (b : Bool) → is_on w n ≡ b → cond b (Some p) (waiting_place ps k (λ j. w (next j))) ≡ Some q → (waiting_place ps k (λ j. w (next j)) ≡ Some q → set_value w (sends_of ps next k (suc n)) ≡ w (next (suc q.met)))
        → cond (is_on w n) (w (next (suc p.met))) (set_value w (sends_of ps next k (suc n))) ≡ w (next (suc q.met))
    by_waiting true on first later =
        ap (λ c. cond c (w (next (suc p.met))) (set_value w (sends_of ps next k (suc n)))) on ∙ ap (λ (z : EndPlace). w (next (suc z.met))) (same_place p q first)
    by_waiting false on first later = ap (λ c. cond c (w (next (suc p.met))) (set_value w (sends_of ps next k (suc n)))) on ∙ later first

    by_end : (a b : Bool) → is_on w n ≡ b → cond (a && b) (Some p) (waiting_place ps k (λ j. w (next j))) ≡ Some q → (waiting_place ps k (λ j. w (next j)) ≡ Some q → set_value w (sends_of ps next k (suc n)) ≡ w (next (suc q.met)))
        → set_value w (cond a (record { condition = n; value = next (suc p.met) } ∷ sends_of ps next k (suc n)) (sends_of ps next k (suc n))) ≡ w (next (suc q.met))
    by_end true b on first later = by_waiting b on first later
    by_end false b on first later = later first

pub each_wait : (f w : ℕ → ℤ) (next : ℕ → ℕ) (ps : List EndPlace) (n : ℕ) (cs : List ℕ) (k m : ℕ) → Satisfies f w (waiting_equations ps next n) → Satisfies f w (wait_equations ps n cs k m)
    → TellWaits w (λ j. w (next j)) ps cs k (wait_wires ps n cs k m)
each_wait f w next ps n [] k m h g = tt
each_wait f w next ps n (c ∷ cs) k m h g =
    let sets = set_equations Boolean m (waits_of ps k n) in
    let others = wait_equations ps n cs (suc k) (suc m + length (waits_of ps k n)) in (
      ap is_true (set_told f w Boolean m (waits_of ps k n) (satisfies_front f w sets others g)) ∙ waits_told f w next ps k n h,
      each_wait f w next ps n cs (suc k) (suc m + length (waits_of ps k n)) h (satisfies_back f w sets others g),
    )

pub each_send : (tables : Tables) (f w : ℕ → ℤ) (next : ℕ → ℕ) (ps : List EndPlace) (n : ℕ) (es : List SendingEnd) (m : ℕ) → Satisfies f w (waiting_equations ps next n)
    → Satisfies f w (send_equations tables ps next n es m) → TellSends w (λ j. w (next j)) ps es (send_wires ps next n es m)
each_send tables f w next ps n [] m h g = tt
each_send tables f w next ps n (e ∷ es) m h g =
    let kind = (channel_at tables e.channel).kind in
    let sets = set_equations kind m (sends_of ps next e.number n) in
    let others = send_equations tables ps next n es (suc m + length (sends_of ps next e.number n)) in (
      λ q first. set_told f w kind m (sends_of ps next e.number n) (satisfies_front f w sets others g) ∙ sends_told f w next ps e.number n q h first,
      each_send tables f w next ps n es (suc m + length (sends_of ps next e.number n)) h (satisfies_back f w sets others g),
    )

-- the wires of a domain's ends tell which wait and what they send
pub ends_told : (tables : Tables) (d : ℕ) (ps : List EndPlace) (next : ℕ → ℕ) (n : ℕ) (f w : ℕ → ℤ) → Satisfies f w (ends_of_copy tables d ps next n).equations
    → TellWaits w (λ j. w (next j)) ps (channels_of tables d) 0 (ends_of_copy tables d ps next n).waits
    × TellSends w (λ j. w (next j)) ps (sending_ends tables d (channels_of tables d) 0) (ends_of_copy tables d ps next n).sends
ends_told tables d ps next n f w h =
    let cs = channels_of tables d in
    let es = sending_ends tables d cs 0 in
    let m = n + length ps in
    let waits = wait_equations ps n cs 0 m in
    let l = m + length waits in
    let sends = send_equations tables ps next n es l in
    let own = satisfies_front f w (waiting_equations ps next n) (waits ++ sends) h in
    let rest = satisfies_back f w (waiting_equations ps next n) (waits ++ sends) h in
    (each_wait f w next ps n cs 0 m own (satisfies_front f w waits sends rest), each_send tables f w next ps n es l own (satisfies_back f w waits sends rest))
