-- Built statements as sources, and the literals of their sends through joins.
use Rattle.std.proofs.Common.{◌≡◌, ◌≢◌, ℕ, zero, suc, ◌+◌, ◌<◌, ◌≤◌, ℤ, List, ◌++◌, length, get_or, Option, Some, None, refl, sym, ap, ◌∙◌, subst, inl, inr, arith}
use Rattle.java_values.specs.Arithmetic.{is_true}
use Rattle.kernel_terms.specs.declared.tables.Tables.{Tables}
use Rattle.kernel_terms.specs.TableEntries.{channel_at}
use Rattle.kernel_rules.specs.definitions.Registers.{registers as all_registers}
use Rattle.cell_core.specs.declared.moves.Joined.{Joined}
use Rattle.plain_code.specs.declared.end_place.EndPlace.{EndPlace}
use Rattle.domain_core.specs.declared.step.ends_of.EndOf.{EndOf}
use Rattle.domain_core.specs.equations.BuiltForms.{Plain, Nothing, Pause, Emit, Seq, Loop, Send, Receive, whole}
use Rattle.domain_core.specs.equations.BuiltRegisters.{registers, HoldsLiteral}
use Rattle.domain_core.specs.equations.Places.{plain_places}
use Rattle.domain_core.specs.definitions.step.Domains.{ends_of}
use Rattle.domain_core.specs.definitions.step.EndRegisters.{end_number, end_places, last_places, met, with_last, joined_at, registers_joined}
use Rattle.domain_core.specs.step.EndPlaces.{Rise}
use Rattle.domain_core.specs.step.StatementEnds.{HaveEnds, NoneWaits}
use Rattle.domain_core.proofs.lemmas.equations.BuiltRules.{registers-whole}
use Rattle.domain_core.proofs.lemmas.step.StatementPlaces.{SameBetween, met_elsewhere, met_first, met_second, places_rise}
use Rattle.domain_core.proofs.lemmas.step.StatementStates.{kept_below}

-- nothing waits in a built statement
pub whole_waits : (p : Plain) → NoneWaits (whole p)
whole_waits Nothing = ((λ c v w. w), (λ c w. w))
whole_waits Pause = ((λ c v w. w), (λ c w. w))
whole_waits (Emit s) = ((λ c v w. w), (λ c w. w))
whole_waits (Seq p q) =
    let a : NoneWaits (whole p) = whole_waits p in
    let b : NoneWaits (whole q) = whole_waits q in
    ((λ c v w. elim w [ inl x ↦ a.0 c v x | inr x ↦ b.0 c v x ]), (λ c w. elim w [ inl x ↦ a.1 c x | inr x ↦ b.1 c x ]))
whole_waits (Loop p) = whole_waits p
whole_waits (Send c n) = ((λ d v w. w), (λ d w. w))
whole_waits (Receive c) = ((λ d v w. w), (λ d w. w))

-- the places of the rules are those of the built statement
pub places_same : (tables : Tables) (ends : List EndOf) (p : Plain) (n : ℕ) → end_places tables ends (whole p) n ≡ plain_places ends p n
places_same tables ends Nothing n = refl
places_same tables ends Pause n = refl
places_same tables ends (Emit s) n = refl
places_same tables ends (Seq p q) n =
    ap (λ l. l ++ end_places tables ends (whole q) (n + all_registers tables (whole p))) (places_same tables ends p n)
    ∙ ap (λ k. plain_places ends p n ++ end_places tables ends (whole q) (n + k)) (registers-whole tables p)
    ∙ ap (λ l. plain_places ends p n ++ l) (places_same tables ends q (n + registers p))
places_same tables ends (Loop p) n = places_same tables ends p n
places_same tables ends (Send c v) n = refl
places_same tables ends (Receive c) n = refl

plain_rise : (tables : Tables) (ends : List EndOf) (p : Plain) (n : ℕ) → Rise n (plain_places ends p n) (n + registers p)
plain_rise tables ends p n =
    subst (λ l. Rise n l (n + registers p)) (places_same tables ends p n)
    (subst (λ k. Rise n (end_places tables ends (whole p) n) (n + k)) (registers-whole tables p) (places_rise tables ends (whole p) n))

-- registers with the same values have the same literals
literals_same : (p : Plain) (n : ℕ) (f g : ℕ → ℤ) → SameBetween n (n + registers p) f g → HoldsLiteral p n f → HoldsLiteral p n g
literals_same Nothing n f g same h = h
literals_same Pause n f g same h = h
literals_same (Emit s) n f g same h = h
literals_same (Seq p q) n f g same h =
    (literals_same p n f g (λ k low high. same k low (omega (arith, high))) h.0, literals_same q (n + registers p) f g (λ k low high. same k (omega (arith, low)) (omega (arith, high))) h.1)
literals_same (Loop p) n f g same h = literals_same p n f g same h
literals_same (Send c v) n f g same h = λ on. sym (same (n + 2) (omega arith) (omega arith)) ∙ h (ap is_true (same n (omega arith) (omega arith)) ∙ on)
literals_same (Receive c) n f g same h = h

-- so do registers with a join
literals_met : (tables : Tables) (ends : List EndOf) (e : ℕ) (p : Plain) (n : ℕ) (f g : ℕ → ℤ) → SameBetween n (n + registers p) g (met (plain_places ends p n) e f) → HoldsLiteral p n f → HoldsLiteral p n g
literals_met tables ends e Nothing n f g same h = h
literals_met tables ends e Pause n f g same h = h
literals_met tables ends e (Emit s) n f g same h = h
literals_met tables ends e (Seq p q) n f g same h =
    let m = n + registers p in
    let all : SameBetween n (m + registers q) g (met (plain_places ends p n ++ plain_places ends q m) e f) = λ k low high. same k low (omega (arith, high)) in (
      literals_met tables ends e p n f g (met_first (plain_places ends p n) (plain_places ends q m) n m (m + registers q) e f g (plain_rise tables ends p n) (plain_rise tables ends q m) all) h.0,
      literals_met tables ends e q m f g (met_second (plain_places ends p n) (plain_places ends q m) n m (m + registers q) e f g (plain_rise tables ends p n) (plain_rise tables ends q m) all) h.1,
    )
literals_met tables ends e (Loop p) n f g same h = literals_met tables ends e p n f g same h
literals_met tables ends e (Send c v) n f g same h =
    let place : EndPlace = record { which = end_number ends c; on = n; met = n + 1 } in
    let stays : g n ≡ f n = same n (omega arith) (omega arith) ∙ met_elsewhere e place f n (omega arith) in
    λ on. same (n + 2) (omega arith) (omega arith) ∙ met_elsewhere e place f (n + 2) (omega arith) ∙ h (sym (ap is_true stays) ∙ on)
literals_met tables ends e (Receive c) n f g same h = h

module _ (tables : Tables) (d : ℕ) (p : Plain) (channels : (c : ℕ) → c < length tables.channels → (channel_at tables c).sender ≢ (channel_at tables c).receiver) (has : HaveEnds (ends_of tables d) (whole p)) where
  abbrev ends : List EndOf
  ends = ends_of tables d

  abbrev places : List EndPlace
  places = plain_places (ends_of tables d) p 0

  abbrev last : List ℕ
  last = last_places tables d (whole p)

  -- and those with the joins of the first so many ends
  pub literals_all : (answers : List (Option Joined)) (n : ℕ) (r : ℕ → ℤ) → n ≤ length ends → HoldsLiteral p 0 r → HoldsLiteral p 0 (registers_joined places last ends answers n r)
  literals_all answers zero r within on = on
  literals_all answers (suc n) r within on = literals_if (get_or answers n None) (registers_joined places last ends answers n r) (literals_all answers n r (omega (arith, within)) on)
    where
      literals_if : (a : Option Joined) (r : ℕ → ℤ) → HoldsLiteral p 0 r → HoldsLiteral p 0 (joined_at places last ends n a r)
      literals_if None r on = on
      literals_if (Some j) r on =
          let less : n < length ends = omega (arith, within) in
          literals_same p 0 (met places n r) (with_last ends last n j.value (met places n r))
          (λ k low high. sym (kept_below tables d (whole p) channels has (whole_waits p) n less j.value (met places n r) k low (omega (arith, high, registers-whole tables p))))
          (literals_met tables ends n p 0 r (met places n r) (λ k low high. refl) on)
