-- The joins answered at the ends, one after another, are those found on the channels, all at once.
use Rattle.std.proofs.Common.{◌≡◌, ◌≢◌, ℕ, zero, suc, ◌<◌, ◌≤◌, ℤ, Bool, true, false, cond, List, length, get_or, Option, Some, None, is_some, refl, sym, ap, ◌∙◌, inl, inr, arith}
use Rattle.std.specs.Prelude.{◌==◌, ◌&&◌, unwrap_or}
use Rattle.std.proofs.lemmas.Bool.{cases_eq, eq-eqb, ne_eqb, cond-true, cond-false}
use Rattle.std.proofs.Math.Path.{fun_ext}
use Rattle.kernel_terms.specs.declared.tables.Tables.{Tables}
use Rattle.kernel_terms.specs.TableEntries.{channel_at}
use Rattle.kernel_rules.specs.definitions.Signals.{put_at}
use Rattle.kernel_rules.specs.definitions.LegalTick.{DomainState}
use Rattle.cell_core.specs.declared.moves.Side.{Side}
use Rattle.cell_core.specs.declared.moves.Side.TheVariants.{Sender, Receiver}
use Rattle.cell_core.specs.declared.moves.Joined.{Joined}
use Rattle.domain_core.specs.declared.step.ends_of.EndOf.{EndOf}
use Rattle.domain_core.specs.definitions.step.EndCalls.{end_at}
use Rattle.domain_core.specs.definitions.step.Domains.{ends_of}
use Rattle.domain_core.specs.definitions.step.Steps.{at_channel, answered}
use Rattle.domain_core.specs.definitions.runs.Systems.{with_found, only}
use Rattle.domain_core.specs.definitions.rounds.Rounds.{value_found}
use Rattle.domain_core.specs.step.Answers.{side_done, end_done, with_answers, no_channel}
use Rattle.domain_core.proofs.lemmas.runs.FoundJoins.{same_joined, found_none, found_both, or_found}
use Rattle.domain_core.proofs.lemmas.step.StateJoins.{ends_apart}
use Rattle.domain_core.proofs.lemmas.step.OwnEnds.{IsOwn, own_end}

-- what is found at the ends of some number on
abbrev found_before : List EndOf → List (Option Joined) → ℕ → ℕ → Option ℤ
found_before ends answers n c = value_found (at_channel ends (λ k. get_or answers k None) n c)

and_off : (b : Bool) → (b && false) ≡ false
and_off true = refl
and_off false = refl

kept : (b : Bool) (x : ℤ) → cond b x x ≡ x
kept true x = refl
kept false x = refl

module _ (tables : Tables) (d : ℕ) (apart : (c : ℕ) → c < length tables.channels → (channel_at tables c).sender ≢ (channel_at tables c).receiver) (s : DomainState) where
  -- one join, of a channel's sender and of its receiver
  pub one_sent : (c : ℕ) (v : ℤ) → c < length tables.channels → (channel_at tables c).sender ≡ d → side_done Sender c v s ≡ with_found tables d (only c v) s
  one_sent c v less own =
      let not_got : ((channel_at tables c).receiver == d) ≡ false = ne_eqb (channel_at tables c).receiver d (λ e. apart c less (own ∙ sym e)) in
      same_joined (λ k. k == c) no_channel (λ k. ((channel_at tables k).sender == d) && is_some (only c v k)) (λ k. ((channel_at tables k).receiver == d) && is_some (only c v k))
      s.last (λ k. cond ((channel_at tables k).receiver == d) (unwrap_or (only c v k) (s.last k)) (s.last k)) s
      (λ k. elim (cases_eq k c) [
        | inl q ↦
            eq-eqb k c q ∙ sym (ap (λ m. ((channel_at tables m).sender == d) && is_some (only c v k)) q ∙ ap (λ b. b && is_some (only c v k)) (eq-eqb (channel_at tables c).sender d own)
            ∙ ap is_some (cond-true (k == c) (Some v) None (eq-eqb k c q)))
        | inr q ↦ ne_eqb k c q ∙ sym (ap (λ o. ((channel_at tables k).sender == d) && is_some o) (cond-false (k == c) (Some v) None (ne_eqb k c q)) ∙ and_off ((channel_at tables k).sender == d))
      ])
      (λ k. elim (cases_eq k c) [
        | inl q ↦ sym (ap (λ m. ((channel_at tables m).receiver == d) && is_some (only c v k)) q ∙ ap (λ b. b && is_some (only c v k)) not_got)
        | inr q ↦ sym (ap (λ o. ((channel_at tables k).receiver == d) && is_some o) (cond-false (k == c) (Some v) None (ne_eqb k c q)) ∙ and_off ((channel_at tables k).receiver == d))
      ])
      (λ k. elim (cases_eq k c) [
        | inl q ↦
            sym (ap (λ m. cond ((channel_at tables m).receiver == d) (unwrap_or (only c v k) (s.last k)) (s.last k)) q
            ∙ cond-false ((channel_at tables c).receiver == d) (unwrap_or (only c v k) (s.last k)) (s.last k) not_got)
        | inr q ↦
            sym (ap (λ o. cond ((channel_at tables k).receiver == d) (unwrap_or o (s.last k)) (s.last k)) (cond-false (k == c) (Some v) None (ne_eqb k c q)) ∙ kept ((channel_at tables k).receiver == d) (s.last k))
      ])

  pub one_got : (c : ℕ) (v : ℤ) → (channel_at tables c).sender ≢ d → (channel_at tables c).receiver ≡ d → side_done Receiver c v s ≡ with_found tables d (only c v) s
  one_got c v other own =
      let not_sent : ((channel_at tables c).sender == d) ≡ false = ne_eqb (channel_at tables c).sender d other in
      let is_got : ((channel_at tables c).receiver == d) ≡ true = eq-eqb (channel_at tables c).receiver d own in
      same_joined no_channel (λ k. k == c) (λ k. ((channel_at tables k).sender == d) && is_some (only c v k)) (λ k. ((channel_at tables k).receiver == d) && is_some (only c v k))
      (put_at s.last c v) (λ k. cond ((channel_at tables k).receiver == d) (unwrap_or (only c v k) (s.last k)) (s.last k)) s
      (λ k. elim (cases_eq k c) [
        | inl q ↦ sym (ap (λ m. ((channel_at tables m).sender == d) && is_some (only c v k)) q ∙ ap (λ b. b && is_some (only c v k)) not_sent)
        | inr q ↦ sym (ap (λ o. ((channel_at tables k).sender == d) && is_some o) (cond-false (k == c) (Some v) None (ne_eqb k c q)) ∙ and_off ((channel_at tables k).sender == d))
      ])
      (λ k. elim (cases_eq k c) [
        | inl q ↦
            eq-eqb k c q ∙ sym (ap (λ m. ((channel_at tables m).receiver == d) && is_some (only c v k)) q ∙ ap (λ b. b && is_some (only c v k)) is_got
            ∙ ap is_some (cond-true (k == c) (Some v) None (eq-eqb k c q)))
        | inr q ↦ ne_eqb k c q ∙ sym (ap (λ o. ((channel_at tables k).receiver == d) && is_some o) (cond-false (k == c) (Some v) None (ne_eqb k c q)) ∙ and_off ((channel_at tables k).receiver == d))
      ])
      (λ k. elim (cases_eq k c) [
        | inl q ↦
            cond-true (k == c) v (s.last k) (eq-eqb k c q)
            ∙ sym (ap (λ m. cond ((channel_at tables m).receiver == d) (unwrap_or (only c v k) (s.last k)) (s.last k)) q
            ∙ cond-true ((channel_at tables c).receiver == d) (unwrap_or (only c v k) (s.last k)) (s.last k) is_got
            ∙ ap (λ o. unwrap_or o (s.last k)) (cond-true (k == c) (Some v) None (eq-eqb k c q)))
        | inr q ↦
            cond-false (k == c) v (s.last k) (ne_eqb k c q)
            ∙ sym (ap (λ o. cond ((channel_at tables k).receiver == d) (unwrap_or o (s.last k)) (s.last k)) (cond-false (k == c) (Some v) None (ne_eqb k c q)) ∙ kept ((channel_at tables k).receiver == d) (s.last k))
      ])

  one_found : (k : ℕ) → k < length (ends_of tables d) → (j : Joined) → side_done (end_at (ends_of tables d) k).side (end_at (ends_of tables d) k).channel j.value s ≡ with_found tables d (only (end_at (ends_of tables d) k).channel j.value) s
  one_found k within j = of_side (end_at (ends_of tables d) k).side (own_end tables d k within).own
    where
      of_side : (a : Side) → IsOwn d a (channel_at tables (end_at (ends_of tables d) k).channel) → side_done a (end_at (ends_of tables d) k).channel j.value s ≡ with_found tables d (only (end_at (ends_of tables d) k).channel j.value) s
      of_side Sender own = one_sent (end_at (ends_of tables d) k).channel j.value (own_end tables d k within).channel own
      of_side Receiver own = one_got (end_at (ends_of tables d) k).channel j.value own.0 own.1

-- no earlier end has the channel of a later one
none_before : (ends : List EndOf) (answers : List (Option Joined)) (c n : ℕ) → ((k : ℕ) → k < n → (end_at ends k).channel ≢ c) → at_channel ends (λ k. get_or answers k None) n c ≡ None
none_before ends answers c zero none = refl
none_before ends answers c (suc n) none =
    cond-false ((end_at ends n).channel == c) (get_or answers n None) (at_channel ends (λ k. get_or answers k None) n c) (ne_eqb (end_at ends n).channel c (none n (omega arith)))
    ∙ none_before ends answers c n (λ k less. none k (omega (arith, less)))

module _ (tables : Tables) (d : ℕ) (apart : (c : ℕ) → c < length tables.channels → (channel_at tables c).sender ≢ (channel_at tables c).receiver) where
  abbrev ends : List EndOf
  ends = ends_of tables d

  -- with the answer of one end more
  found_next : (answers : List (Option Joined)) (n : ℕ) → n < length ends → (a : Option Joined) → get_or answers n None ≡ a → (s : DomainState) →
      end_done (end_at ends n) a (with_found tables d (found_before ends answers n) s) ≡ with_found tables d (found_before ends answers (suc n)) s
  found_next answers n within None is s = ap (λ f. with_found tables d f s) (fun_ext (λ c. elim (cases_eq (end_at ends n).channel c) [
    | inl q ↦
        ap value_found (none_before ends answers c n (λ k less e. ends_apart tables d k n (omega (arith, less, within)) within (λ z. omega (arith, less, z)) (e ∙ sym q)))
        ∙ sym (ap value_found (cond-true ((end_at ends n).channel == c) (get_or answers n None) (at_channel ends (λ k. get_or answers k None) n c) (eq-eqb (end_at ends n).channel c q) ∙ is))
    | inr q ↦ sym (ap value_found (cond-false ((end_at ends n).channel == c) (get_or answers n None) (at_channel ends (λ k. get_or answers k None) n c) (ne_eqb (end_at ends n).channel c q)))
  ]))
  found_next answers n within (Some j) is s =
      one_found tables d apart (with_found tables d (found_before ends answers n) s) n within j
      ∙ found_both tables d (only (end_at ends n).channel j.value) (found_before ends answers n) s
      ∙ ap (λ f. with_found tables d f s) (fun_ext (λ c. elim (cases_eq (end_at ends n).channel c) [
        | inl q ↦
            ap (λ o. or_found o (found_before ends answers n c)) (cond-true (c == (end_at ends n).channel) (Some j.value) None (eq-eqb c (end_at ends n).channel (sym q)))
            ∙ sym (ap value_found (cond-true ((end_at ends n).channel == c) (get_or answers n None) (at_channel ends (λ k. get_or answers k None) n c) (eq-eqb (end_at ends n).channel c q) ∙ is))
        | inr q ↦
            ap (λ o. or_found o (found_before ends answers n c)) (cond-false (c == (end_at ends n).channel) (Some j.value) None (ne_eqb c (end_at ends n).channel (λ e. q (sym e))))
            ∙ sym (ap value_found (cond-false ((end_at ends n).channel == c) (get_or answers n None) (at_channel ends (λ k. get_or answers k None) n c) (ne_eqb (end_at ends n).channel c q)))
      ]))

  found_first : (answers : List (Option Joined)) (n : ℕ) → n ≤ length ends → (s : DomainState) → with_answers ends answers n s ≡ with_found tables d (found_before ends answers n) s
  found_first answers zero within s = sym (found_none tables d (found_before ends answers zero) s (λ c own. refl))
  found_first answers (suc n) within s =
      ap (end_done (end_at ends n) (get_or answers n None)) (found_first answers n (omega (arith, within)) s) ∙ found_next answers n (omega (arith, within)) (get_or answers n None) refl s

  pub answers_found : (answers : List (Option Joined)) (s : DomainState) → with_answers ends answers (length ends) s ≡ with_found tables d (answered ends answers) s
  answers_found answers s = found_first answers (length ends) (omega arith) s
