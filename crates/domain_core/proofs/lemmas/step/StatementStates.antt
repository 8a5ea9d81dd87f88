-- What answered joins do to the registers of any source, and to the state that they stand for.
use Rattle.std.proofs.Common.{◌≡◌, ◌≢◌, ℕ, zero, suc, ◌+◌, ◌<◌, ◌≤◌, ℤ, Bool, true, false, cond, List, length, get_or, Option, Some, None, refl, sym, ap, ◌∙◌, inr, arith}
use Rattle.std.specs.Prelude.{◌&&◌, ◌==◌}
use Rattle.std.proofs.lemmas.List.FromFn.{length-range_with_len, get_or-range_with_len}
use Rattle.kernel_terms.specs.declared.tables.Tables.{Tables}
use Rattle.kernel_terms.specs.TableEntries.{channel_at, received_by}
use Rattle.kernel_terms.specs.Statements.{Stmt, Nothing}
use Rattle.kernel_terms.specs.Marks.{Going, Ended}
use Rattle.kernel_rules.specs.definitions.Registers.{registers, residual, FitRegisters, domain_registers, first_last, variables_held, values_held, last_held}
use Rattle.kernel_rules.specs.definitions.Signals.{put_at}
use Rattle.cell_core.specs.declared.moves.Side.{Side}
use Rattle.cell_core.specs.declared.moves.Side.TheVariants.{Sender, Receiver}
use Rattle.cell_core.specs.declared.moves.Joined.{Joined}
use Rattle.plain_code.specs.declared.end_place.EndPlace.{EndPlace}
use Rattle.domain_core.specs.declared.step.ends_of.EndOf.{EndOf}
use Rattle.domain_core.specs.definitions.runs.Systems.{rewritten}
use Rattle.domain_core.specs.definitions.step.EndCalls.{end_at}
use Rattle.domain_core.specs.definitions.step.EndRegisters.{end_places, last_places, receivers_before, met, with_last, joined_at, registers_joined}
use Rattle.domain_core.specs.definitions.step.Domains.{ends_of, is_receiver, state_held}
use Rattle.domain_core.specs.definitions.step.Steps.{IsAsk}
use Rattle.domain_core.specs.step.Answers.{side_done, end_done, with_answers, no_channel}
use Rattle.domain_core.specs.step.EndPlaces.{ask_of, PlacesFit, HaveOwnRegisters}
use Rattle.domain_core.specs.step.StatementEnds.{HaveEnds, NoneWaits}
use Rattle.domain_core.proofs.lemmas.step.LastValues.{count_registers, variables_same, values_same, last_same, last_put, last_apart}
use Rattle.domain_core.proofs.lemmas.step.StateAnswers.{same_state, with_none, joined_none}
use Rattle.domain_core.proofs.lemmas.step.StateJoins.{ends_apart}
use Rattle.domain_core.proofs.lemmas.step.StatementAsks.{nothing_asks, fit_asks}
use Rattle.domain_core.proofs.lemmas.step.StatementJoins.{fit_alike, alike, sends_at, completes_met, fit_met}
use Rattle.domain_core.proofs.lemmas.step.StatementPlaces.{SameBetween, met_outside, places_rise, places_fit, receives_some}

module _ (tables : Tables) (d : ℕ) (p : Stmt) (channels : (c : ℕ) → c < length tables.channels → (channel_at tables c).sender ≢ (channel_at tables c).receiver) (has : HaveEnds (ends_of tables d) p)
    (none : NoneWaits p) where
  abbrev ends : List EndOf
  ends = ends_of tables d

  abbrev places : List EndPlace
  places = end_places tables (ends_of tables d) p 0

  abbrev last : List ℕ
  last = last_places tables d p

  -- a last value leaves the registers before those of the last values
  kept_last : (n : ℕ) → n < length ends → (v : ℤ) (f : ℕ → ℤ) (m : ℕ) → m < first_last tables d p → with_last ends last n v f m ≡ f m
  kept_last n within v f m low = by_side (end_at ends n).side refl
    where
      by_side : (s : Side) → (end_at ends n).side ≡ s → with_last ends last n v f m ≡ f m
      by_side Sender is = ap (λ s. cond (is_receiver s) (put_at f (get_or last (receivers_before ends n) 0) v) f m) is
      by_side Receiver is =
          ap (λ s. cond (is_receiver s) (put_at f (get_or last (receivers_before ends n) 0) v) f m) is ∙ last_apart tables d p channels n within is f v m low

  pub kept_below : (n : ℕ) → n < length ends → (v : ℤ) (f : ℕ → ℤ) → SameBetween 0 (0 + registers tables p) (with_last ends last n v f) f
  kept_below n within v f k low high = kept_last n within v f k (omega (arith, high))

  -- the registers of a domain that goes on fit after the joins of the first so many ends
  pub fit_all : (answers : List (Option Joined)) (n : ℕ) (r : ℕ → ℤ) → n ≤ length ends → FitRegisters tables p 0 r → FitRegisters tables p 0 (registers_joined places last ends answers n r)
  fit_all answers zero r within fits = fits
  fit_all answers (suc n) r within fits = fit_if (get_or answers n None) (registers_joined places last ends answers n r) (fit_all answers n r (omega (arith, within)) fits)
    where
      fit_if : (a : Option Joined) (r : ℕ → ℤ) → FitRegisters tables p 0 r → FitRegisters tables p 0 (joined_at places last ends n a r)
      fit_if None r fits = fits
      fit_if (Some j) r fits =
          let less : n < length ends = omega (arith, within) in
          fit_alike tables p 0 (met places n r) (with_last ends last n j.value (met places n r)) (λ k low high. sym (kept_below n less j.value (met places n r) k low high))
          (fit_met tables ends (ends_apart tables d) n less p 0 r has none fits)

  -- the join of one end
  module _ (n t : ℕ) (within : n < length ends) (j : Joined) (r : ℕ → ℤ) (fits : FitRegisters tables p 0 r) where
    abbrev e : EndOf
    e = end_at ends n

    abbrev after_met : ℕ → ℤ
    after_met = met places n r

    abbrev after : ℕ → ℤ
    after = with_last ends last n j.value (met places n r)

    met_past : (k : ℕ) → registers tables p ≤ k → after_met k ≡ r k
    met_past k low = met_outside places 0 (0 + registers tables p) n r k (places_rise tables ends p 0) (inr (omega (arith, low)))

    past : (k : ℕ) → registers tables p ≤ k → k < first_last tables d p → after k ≡ r k
    past k low high = kept_last n within j.value after_met k high ∙ met_past k low

    left : residual tables p 0 after ≡ rewritten (λ c. sends_at e.side && (c == e.channel)) (λ c. is_receiver e.side && (c == e.channel)) (residual tables p 0 r)
    left =
        let same = alike tables p 0 after after_met (kept_below n within j.value after_met) in
        let done = completes_met tables ends (ends_apart tables d) n within p 0 r has none in
        same.left ∙ done.left fits.is_live

    of_side : (s : Side) → e.side ≡ s → state_held tables d p (suc t) Going after ≡ side_done s e.channel j.value (state_held tables d p (suc t) Going r)
    of_side Sender is =
        same_state (residual tables p 0 after) (rewritten (λ k. k == e.channel) no_channel (residual tables p 0 r))
        (variables_held tables d p after) (variables_held tables d p r) (values_held tables d p after) (values_held tables d p r)
        (last_held tables d p after) (last_held tables d p r) (suc t) Going
        (left ∙ ap (λ s. rewritten (λ c. sends_at s && (c == e.channel)) (λ c. is_receiver s && (c == e.channel)) (residual tables p 0 r)) is)
        (variables_same tables d p after r past) (values_same tables d p after r past)
        (ap (λ s. last_held tables d p (cond (is_receiver s) (put_at after_met (get_or last (receivers_before ends n) 0) j.value) after_met)) is ∙ last_same tables d p after_met r met_past)
    of_side Receiver is =
        same_state (residual tables p 0 after) (rewritten no_channel (λ k. k == e.channel) (residual tables p 0 r))
        (variables_held tables d p after) (variables_held tables d p r) (values_held tables d p after) (values_held tables d p r)
        (last_held tables d p after) (put_at (last_held tables d p r) e.channel j.value) (suc t) Going
        (left ∙ ap (λ s. rewritten (λ c. sends_at s && (c == e.channel)) (λ c. is_receiver s && (c == e.channel)) (residual tables p 0 r)) is)
        (variables_same tables d p after r past) (values_same tables d p after r past)
        (ap (λ s. last_held tables d p (cond (is_receiver s) (put_at after_met (get_or last (receivers_before ends n) 0) j.value) after_met)) is
        ∙ last_put tables d p channels n within is after_met j.value
        ∙ ap (λ l. put_at l e.channel j.value) (last_same tables d p after_met r met_past))

  state_join : (n t : ℕ) (a : Option Joined) (r : ℕ → ℤ) → FitRegisters tables p 0 r → n < length ends →
      state_held tables d p (suc t) Going (joined_at places last ends n a r) ≡ end_done (end_at ends n) a (state_held tables d p (suc t) Going r)
  state_join n t None r fits within = refl
  state_join n t (Some j) r fits within = of_side n t within j r fits (end_at ends n).side refl

  -- and stand for the state with these joins
  pub state_joins : (answers : List (Option Joined)) (n t : ℕ) (r : ℕ → ℤ) → FitRegisters tables p 0 r → n ≤ length ends →
      state_held tables d p (suc t) Going (registers_joined places last ends answers n r) ≡ with_answers ends answers n (state_held tables d p (suc t) Going r)
  state_joins answers zero t r fits within = refl
  state_joins answers (suc n) t r fits within =
      state_join n t (get_or answers n None) (registers_joined places last ends answers n r) (fit_all answers n r (omega (arith, within)) fits) (omega (arith, within))
      ∙ ap (end_done (end_at ends n) (get_or answers n None)) (state_joins answers n t r fits (omega (arith, within)))

  -- after all answers, in a domain that goes on, which before its first tick has none
  pub answers_state : (answers : List (Option Joined)) (ticks : ℕ) (r : ℕ → ℤ) → (0 < ticks → FitRegisters tables p 0 r) → (ticks ≡ 0 → (k : ℕ) → k < length ends → get_or answers k None ≡ None) →
      state_held tables d p ticks Going (registers_joined places last ends answers (length ends) r) ≡ with_answers ends answers (length ends) (state_held tables d p ticks Going r)
  answers_state answers zero r fits no_answer =
      ap (state_held tables d p 0 Going) (joined_none ends answers places last (length ends) r (no_answer refl)) ∙ sym (with_none ends answers (length ends) (state_held tables d p 0 Going r) (no_answer refl))
  answers_state answers (suc t) r fits no_answer = state_joins answers (length ends) t r (fits (omega arith)) (omega arith)

  -- and in one that may have ended in its last tick
  pub replies_state : (answers : List (Option Joined)) (t : ℕ) (ended : Bool) (r : ℕ → ℤ) → (ended ≡ false → FitRegisters tables p 0 r) → (ended ≡ true → (k : ℕ) → k < length ends → get_or answers k None ≡ None) →
      state_held tables d p (suc t) (cond ended Ended Going) (registers_joined places last ends answers (length ends) r)
      ≡ with_answers ends answers (length ends) (state_held tables d p (suc t) (cond ended Ended Going) r)
  replies_state answers t true r fits no_answer =
      ap (state_held tables d p (suc t) Ended) (joined_none ends answers places last (length ends) r (no_answer refl)) ∙ sym (with_none ends answers (length ends) (state_held tables d p (suc t) Ended r) (no_answer refl))
  replies_state answers t false r fits no_answer = state_joins answers (length ends) t r (fits refl) (omega arith)

  -- what the ends ask after a tick
  pub asked_after : (k : ℕ) (new : ℕ → ℤ) (ended : Bool) → k < length ends → (ended ≡ false → FitRegisters tables p 0 new) →
      IsAsk (end_at ends k) (cond ended Nothing (residual tables p 0 new)) (cond ended None (ask_of places k (end_at ends k).side new))
  asked_after k new true within fits = nothing_asks (end_at ends k)
  asked_after k new false within fits = fit_asks tables ends (ends_apart tables d) k within p 0 new has none (fits refl)

  -- each place has registers of its own, and those of the last values are behind all places
  pub own_registers : HaveOwnRegisters places last
  own_registers = record {
    bound = 0 + registers tables p;
    rise = places_rise tables ends p 0;
    behind = λ i less.
        let low : i < length (received_by tables d) = omega (arith, less, length-range_with_len (first_last tables d p) (length (received_by tables d))) in
        omega (arith, get_or-range_with_len (first_last tables d p) (length (received_by tables d)) i 0 low);
  }

  -- and there are registers for all of them
  pub all_fit : (n : ℕ) → n ≡ length (domain_registers tables d p) → PlacesFit places (length ends) n
  all_fit n count =
      let all = count_registers tables d p in
      places_fit tables ends p 0 n has (omega (arith, count, all)) (λ r. let some = receives_some tables d channels p has r in omega (arith, count, all, some))
