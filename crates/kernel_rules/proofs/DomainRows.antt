-- Legal ticks of small domains, and those that no domain makes.
use Rattle.std.proofs.Common.{◌≡◌, ℕ, zero, suc, ℤ, pos, Bool, true, false, cond, List, [], ◌∷◌, Option, None, refl, sym, ap, ap₂, ◌∙◌, arith}
use Rattle.std.proofs.lemmas.Bool.Decides.{nat_tests}
use Rattle.std.specs.Int.{int_wrap}
use Rattle.kernel_terms.specs.declared.tables.Tables.{Tables}
use Rattle.kernel_terms.specs.TableEntries.{signal_at, is_interface_of}
use Rattle.kernel_terms.specs.Marks.{Going, Ended, is_over}
use Rattle.kernel_terms.specs.Statements.{Stmt, Nothing, Exit}
use Rattle.kernel_rules.specs.definitions.Signals.{Env, Status, is_emitted, shown}
use Rattle.kernel_rules.specs.definitions.TickRule.{Tick, exit_code, Chosen, ends_with}
use Rattle.kernel_rules.specs.definitions.LegalTick.{DomainState, Inputs, IsLegalTick, is_tick_code, status_in, values_after}
use Rattle.kernel_rules.specs.Rows.{Logs, at_start, on, off, with}
use Rattle.kernel_rules.specs.definitions.LegalTick.{no_inputs}
use Rattle.kernel_rules.specs.ShownTicks.{OnlyLogs, absent, absent_with, present, present_with, statuses, emitted}
use Rattle.kernel_rules.specs.Worked.Domains
use Rattle.kernel_rules.specs.Worked.Words.{emit}
use Rattle.kernel_rules.specs.Worked.Variables.{sum_of}
use Rattle.kernel_rules.specs.definitions.Expressions.{value_of}
use Rattle.kernel_rules.proofs.RowLemmas.{Given, plain, logs}
use Rattle.kernel_rules.proofs.OneLogLemmas.{tried_in, last_state, only_logs}

-- a tick in which the status of one signal alone is read, from the state after these ticks
abbrev read_after : Tables → Inputs → Stmt → List Given → Status → Tick
read_after tables inputs p gs z = (tried_in tables (last_state tables inputs (at_start p) gs) (λ s. z)).tick

pub absent_ticks : OnlyLogs Domains.one_sum no_inputs Domains.reads_absent ((off ∷ []) ∷ (off ∷ []) ∷ (with 4 ∷ []) ∷ []) Nothing Ended
unfolding int_wrap
absent_ticks =
    let first = plain (absent ∷ []) ∷ [] in
    let gs = plain (absent ∷ []) ∷ plain (absent ∷ []) ∷ plain (present_with 4 ∷ []) ∷ [] in
    only_logs Domains.one_sum no_inputs Domains.reads_absent gs refl _ _ _ refl refl refl refl (logs Domains.one_sum no_inputs Domains.reads_absent gs refl)
    (refl, λ env c. refl, (refl, λ env c. ap (read_after Domains.one_sum no_inputs Domains.reads_absent first) (c 0 refl), (refl, λ env c. refl, tt)))

pub alternate_ticks : OnlyLogs Domains.one_sum no_inputs Domains.alternates ((off ∷ []) ∷ (with 2 ∷ []) ∷ (off ∷ []) ∷ (with 4 ∷ []) ∷ []) Domains.turns_again Going
unfolding int_wrap
alternate_ticks =
    let two = plain (absent ∷ []) ∷ plain (present_with 2 ∷ []) ∷ [] in
    let gs = plain (absent ∷ []) ∷ plain (present_with 2 ∷ []) ∷ plain (absent_with 2 ∷ []) ∷ plain (present_with 4 ∷ []) ∷ [] in
    let read = read_after Domains.one_sum no_inputs Domains.alternates in
    only_logs Domains.one_sum no_inputs Domains.alternates gs refl _ _ _ refl refl refl refl (logs Domains.one_sum no_inputs Domains.alternates gs refl)
    (refl, λ env c. ap (read []) (c 0 refl), (refl, λ env c. refl, (refl, λ env c. ap (read two) (c 0 refl), (refl, λ env c. refl, tt))))

pub input_ticks : OnlyLogs Domains.input_tables Domains.seven_at_two Domains.shows_input ((off ∷ with 0 ∷ []) ∷ (with 7 ∷ with 7 ∷ []) ∷ (off ∷ with 7 ∷ []) ∷ []) Domains.shows_input_again Going
unfolding int_wrap
input_ticks =
    let one = plain (absent ∷ present_with 0 ∷ []) in
    let two = plain (present_with 7 ∷ present_with 7 ∷ []) in
    let gs = one ∷ two ∷ plain (absent_with 7 ∷ present_with 7 ∷ []) ∷ [] in
    let read = read_after Domains.input_tables Domains.seven_at_two Domains.shows_input in
    only_logs Domains.input_tables Domains.seven_at_two Domains.shows_input gs refl _ _ _ refl refl refl refl (logs Domains.input_tables Domains.seven_at_two Domains.shows_input gs refl)
    (refl, λ env c. ap (read []) (c 0 refl), (refl, λ env c. ap (read (one ∷ [])) (c 0 refl), (refl, λ env c. ap (read (one ∷ two ∷ [])) (c 0 refl), tt)))

pub again_ticks : OnlyLogs Domains.one_sum no_inputs Domains.emits_again ((with 5 ∷ []) ∷ (with 4 ∷ []) ∷ (off ∷ []) ∷ (with 2 ∷ []) ∷ []) Nothing Ended
unfolding int_wrap
again_ticks =
    let gs = plain (present_with 5 ∷ []) ∷ plain (present_with 4 ∷ []) ∷ plain (absent_with 4 ∷ []) ∷ plain (present_with 2 ∷ []) ∷ [] in
    only_logs Domains.one_sum no_inputs Domains.emits_again gs refl _ _ _ refl refl refl refl (logs Domains.one_sum no_inputs Domains.emits_again gs refl)
    (refl, λ env c. refl, (refl, λ env c. refl, (refl, λ env c. refl, (refl, λ env c. refl, tt))))

pub own_ticks : OnlyLogs Domains.shared_tables no_inputs Domains.one_then_other ((on ∷ off ∷ []) ∷ (off ∷ on ∷ []) ∷ []) Nothing Ended
own_ticks =
    let gs = plain (present ∷ absent ∷ absent ∷ []) ∷ plain (absent ∷ absent ∷ present ∷ []) ∷ [] in
    only_logs Domains.shared_tables no_inputs Domains.one_then_other gs refl _ _ _ refl refl refl refl (logs Domains.shared_tables no_inputs Domains.one_then_other gs refl)
    (refl, λ env c. refl, (refl, λ env c. refl, tt))

pub answer_ticks : OnlyLogs Domains.shared_tables no_inputs Domains.answers ((on ∷ on ∷ []) ∷ []) Nothing Ended
answer_ticks =
    let gs = plain (present ∷ absent ∷ present ∷ []) ∷ [] in
    let by_presence : Bool → Tick = λ b. (tried_in Domains.shared_tables (at_start Domains.answers) (λ s. record { present = b; value = pos 0 })).tick in
    only_logs Domains.shared_tables no_inputs Domains.answers gs refl _ _ _ refl refl refl refl (logs Domains.shared_tables no_inputs Domains.answers gs refl)
    (refl, λ env c. ap by_presence (ap (λ (z : Status). z.present) (c 0 refl)), tt)

pub silent_tick : Logs Domains.one_sum no_inputs Domains.relies_on_itself ((off ∷ []) ∷ []) Nothing Ended
silent_tick = logs Domains.one_sum no_inputs Domains.relies_on_itself (plain (absent ∷ []) ∷ []) refl

pub loud_tick : Logs Domains.one_sum no_inputs Domains.relies_on_itself ((on ∷ []) ∷ []) Nothing Ended
loud_tick = logs Domains.one_sum no_inputs Domains.relies_on_itself (plain (present ∷ []) ∷ []) refl

-- the signal would be present where it is absent, and absent where it is present
no_presence :
    (b : Bool) (x : ℕ → ℤ) (o : Tick)
    → Chosen b (o ≡ ends_with [] x) ((v : ℤ) × (v ≡ pos 0) × (o ≡ ends_with (record { signal = 0; value = v } ∷ []) x))
    → b ≡ is_emitted o.emits 0 → ⊥
no_presence true x o h e = let f : true ≡ false = e ∙ ap (λ (z : Tick). is_emitted z.emits 0) h in absurd cc
no_presence false x o h e = let f : false ≡ true = e ∙ ap (λ (z : Tick). is_emitted z.emits 0) h.2 in absurd cc

pub contradicted : (row : List (Option ℤ)) (new : DomainState) → IsLegalTick Domains.one_sum no_inputs 0 (at_start Domains.contradicts_itself) row new → ⊥
contradicted row new h =
    let a : Tick = h.tick in
    no_presence (h.env 0).present (λ n. pos 0) a h.ticks (ap (λ (z : Status). z.present) (h.coherent 0 refl))

pub ended_stays :
    (tables : Tables) (inputs : Inputs) (d : ℕ) (old : DomainState) (row : List (Option ℤ)) (new : DomainState)
    → old.mark ≡ Ended → IsLegalTick tables inputs d old row new → ⊥
ended_stays tables inputs d old row new e h = let f : true ≡ false = ap is_over (sym e ∙ h.goes_on) in absurd cc

exit_is_no_end : (e : ℕ) → is_tick_code (exit_code e) ≡ true → ⊥
exit_is_no_end e h = grind (arith, nat_tests)

pub exit_refused :
    (tables : Tables) (inputs : Inputs) (d e : ℕ) (row : List (Option ℤ)) (new : DomainState)
    → IsLegalTick tables inputs d (at_start (Exit e)) row new → ⊥
exit_refused tables inputs d e row new h =
    let a : Tick = h.tick in exit_is_no_end e (sym (ap (λ (z : Tick). is_tick_code z.code) h.ticks) ∙ h.code)

pub counts :
    (tables : Tables) (inputs : Inputs) (d : ℕ) (old : DomainState) (row : List (Option ℤ)) (new : DomainState)
    → IsLegalTick tables inputs d old row new → new.ticks ≡ suc old.ticks
counts tables inputs d old row new h = ap (λ (z : DomainState). z.ticks) h.next

pub keeps_last :
    (tables : Tables) (inputs : Inputs) (d : ℕ) (old : DomainState) (row : List (Option ℤ)) (new : DomainState)
    → IsLegalTick tables inputs d old row new → new.last ≡ old.last
keeps_last tables inputs d old row new h = ap (λ (z : DomainState). z.last) h.next

pub keeps_values :
    (tables : Tables) (inputs : Inputs) (d : ℕ) (old : DomainState) (row : List (Option ℤ)) (new : DomainState) (s : ℕ)
    → IsLegalTick tables inputs d old row new → is_interface_of d (signal_at tables s) ≡ false → new.values s ≡ old.values s
keeps_values tables inputs d old row new s h e =
    ap (λ (z : DomainState). z.values s) h.next ∙ ap (λ b. cond b (h.env s).value (old.values s)) e

-- the environment in which the signal of the other domain is emitted
abbrev other_env : Env
other_env = statuses (absent ∷ present ∷ [])

only_one_other : (s : ℕ) → is_interface_of 1 (signal_at Domains.shared_tables s) ≡ true → other_env s ≡ status_in Domains.shared_tables (λ k. None) (λ k. pos 0) (emitted 1 0 ∷ []) s
only_one_other zero h = absurd cc
only_one_other (suc zero) h = refl
only_one_other (suc (suc zero)) h = absurd cc
only_one_other (suc (suc (suc s))) h = absurd cc

pub other_tick : (new : DomainState) × IsLegalTick Domains.shared_tables no_inputs 1 (at_start (emit 1)) (on ∷ []) new
other_tick =
    let old = at_start (emit 1) in
    let o = ends_with (emitted 1 0 ∷ []) old.variables in (
      record { statement = o.rest; variables = o.variables; values = values_after Domains.shared_tables 1 other_env old.values; last = old.last; ticks = 1; mark = Ended },
      record {
        goes_on = refl;
        env = other_env;
        tick = o;
        ticks = (pos 0, refl, refl);
        coherent = only_one_other;
        code = refl;
        shows = refl;
        next = refl;
      },
    )

pub other_row : (row : List (Option ℤ)) (new : DomainState) → IsLegalTick Domains.shared_tables no_inputs 1 (at_start (emit 1)) row new → row ≡ on ∷ []
other_row row new h =
    let a : Tick = h.tick in
    let k = h.ticks in
    let m : a ≡ ends_with (emitted 1 0 ∷ []) (λ n. pos 0) = k.2 ∙ ap (λ v. ends_with (record { signal = 1; value = v } ∷ []) (λ n. pos 0)) k.1 in
    let e : h.env 1 ≡ present = h.coherent 1 refl ∙ ap (λ (z : Tick). status_in Domains.shared_tables (λ s. None) (λ s. pos 0) z.emits 1) m in
    h.shows ∙ ap (λ (z : Status). shown z ∷ []) e

-- the environment of the domain's next tick
abbrev state_env : Env
state_env = statuses (absent_with 80 ∷ present_with 987 ∷ [])

state_status : (s : ℕ) → is_interface_of 0 (signal_at Domains.input_tables s) ≡ true → state_env s ≡ status_in Domains.input_tables (λ k. None) (λ k. pos 80) (emitted 1 987 ∷ []) s
state_status zero h = refl
state_status (suc zero) h = refl
state_status (suc (suc s)) h = absurd cc

pub state_tick : (new : DomainState) × IsLegalTick Domains.input_tables no_inputs 0 Domains.shows_state (off ∷ with 987 ∷ []) new
unfolding int_wrap
state_tick =
    let old = Domains.shows_state in
    let o = ends_with (emitted 1 987 ∷ []) old.variables in (
      record { statement = o.rest; variables = o.variables; values = values_after Domains.input_tables 0 state_env old.values; last = old.last; ticks = 5; mark = Ended },
      record {
        goes_on = refl;
        env = state_env;
        tick = o;
        ticks = (pos 987, refl, refl);
        coherent = state_status;
        code = refl;
        shows = refl;
        next = refl;
      },
    )

-- what is emitted, by the status of the input
abbrev sum_with : Status → ℤ
sum_with z = value_of (record { variables = λ x. pos 7; env = λ s. z; last = λ c. pos 900 }) (sum_of 0 0 0)

sum_is : sum_with (absent_with 80) ≡ pos 987
unfolding int_wrap
sum_is = refl

pub state_row : (row : List (Option ℤ)) (new : DomainState) → IsLegalTick Domains.input_tables no_inputs 0 Domains.shows_state row new → row ≡ off ∷ with 987 ∷ []
state_row row new h =
    let a : Tick = h.tick in
    let k = h.ticks in
    let input : h.env 0 ≡ absent_with 80 = h.coherent 0 refl in
    let v : k.0 ≡ pos 987 = k.1 ∙ ap sum_with input ∙ sum_is in
    let m : a ≡ ends_with (emitted 1 987 ∷ []) (λ n. pos 7) = k.2 ∙ ap (λ w. ends_with (record { signal = 1; value = w } ∷ []) (λ n. pos 7)) v in
    let output : h.env 1 ≡ present_with 987 = h.coherent 1 refl ∙ ap (λ (z : Tick). status_in Domains.input_tables (λ s. None) (λ s. pos 80) z.emits 1) m in
    h.shows ∙ ap₂ (λ (y : Status) (z : Status). shown y ∷ shown z ∷ []) input output
