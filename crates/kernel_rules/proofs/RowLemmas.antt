-- Ticks of small statements, by computation.
use Rattle.std.proofs.Common.{◌≡◌, ℕ, zero, suc, ℤ, pos, Bool, true, false, not, ◌&&◌, List, [], ◌∷◌, get_or, Option, refl, int_eq}
use Rattle.std.specs.Cmp.{signed_Decides}
use Rattle.std.specs.Int.{int_wrap}
use Rattle.kernel_terms.specs.declared.tables.SignalInfo.{SignalInfo}
use Rattle.kernel_terms.specs.declared.tables.Tables.{Tables}
use Rattle.kernel_terms.specs.TableEntries.{no_signal, is_interface_of}
use Rattle.kernel_terms.specs.Expressions.{IsPresent}
use Rattle.kernel_terms.specs.Marks.{Mark, Going, Ended, is_over}
use Rattle.kernel_terms.specs.Statements.{Stmt, Nothing, Suspend, ReceiveWaits}
use Rattle.kernel_rules.specs.definitions.Signals.{Env, Status}
use Rattle.kernel_rules.specs.definitions.TickRule.{Tick, Ticks, quiet, ends_with, Chosen, as_whole}
use Rattle.kernel_rules.specs.definitions.LegalTick.{DomainState, Inputs, IsLegalTick, is_tick_code, mark_after, status_in, values_after, shown_statuses}
use Rattle.kernel_rules.specs.Rows
use Rattle.kernel_rules.specs.Rows.{Logs, MakesTicks, at_start, first_signal_at, on, off, with}
use Rattle.kernel_rules.specs.definitions.LegalTick.{no_inputs}
use Rattle.kernel_rules.proofs.BooleanLemmas.{left_of, right_of}
use Rattle.kernel_rules.proofs.TickTrials.{Trial, trial, trial_ticks, same_bool, equal_bools}

abbrev pub absent : Status
absent = record { present = false; value = pos 0 }

abbrev pub here : Status
here = record { present = true; value = pos 0 }

abbrev pub valued : ℕ → Status
valued n = record { present = true; value = pos n }

abbrev pub env_of : List Status → Env
env_of l s = get_or l s absent

-- a tick by the statuses of the interface signals, by number, and of the local ones, in the order in which
-- they are met
pub record Given : Type 0 where
  pub interface : List Status
  pub local : List Status

-- of a statement without local signals
abbrev pub plain : List Status → Given
plain l = record { interface = l; local = [] }

abbrev pub trial_of : Tables → DomainState → Given → Trial
trial_of tables old g = trial tables old.last old.statement (env_of g.interface) old.variables g.local

abbrev pub after : Tables → DomainState → Given → DomainState
after tables old g =
    let o = (trial_of tables old g).tick in
    record { statement = o.rest; variables = o.variables; values = values_after tables 0 (env_of g.interface) old.values; last = old.last; ticks = suc old.ticks; mark = mark_after o.code }

-- the status that the tick gives to a signal
abbrev pub given_status : Tables → Inputs → DomainState → Given → ℕ → Status
given_status tables inputs old g s = status_in tables (λ k. inputs k (suc old.ticks)) old.values (trial_of tables old g).tick.emits s

abbrev pub same_status : Status → Status → Bool
same_status a b = same_bool a.present b.present && int_eq a.value b.value

abbrev pub each_number : {X : Type 0} → List X → (ℕ → Bool) → Bool
each_number [] check = true
each_number (x ∷ xs) check = check 0 && each_number xs (λ s. check (suc s))

abbrev pub is_legal : Tables → Inputs → DomainState → Given → Bool
is_legal tables inputs old g =
    let t = trial_of tables old g in
    not (is_over old.mark) && (t.right && (is_tick_code t.tick.code && each_number tables.signals (λ s. same_status (env_of g.interface s) (given_status tables inputs old g s))))

equal_statuses : (a b : Status) → same_status a b ≡ true → a ≡ b
equal_statuses a b h =
    let p = equal_bools a.present b.present (left_of (same_bool a.present b.present) (int_eq a.value b.value) h) in
    let q = (signed_Decides a.value b.value).0 (right_of (same_bool a.present b.present) (int_eq a.value b.value) h) in
    λ i. record { present = p i; value = q i }

each_signal :
    (signals : List SignalInfo) (check : ℕ → Bool) → each_number signals check ≡ true
    → (s : ℕ) → is_interface_of 0 (get_or signals s no_signal) ≡ true → check s ≡ true
each_signal [] check h s e = cc
each_signal (a ∷ rest) check h zero e = left_of (check 0) (each_number rest (λ s. check (suc s))) h
each_signal (a ∷ rest) check h (suc s) e = each_signal rest (λ k. check (suc k)) (right_of (check 0) (each_number rest (λ k. check (suc k))) h) s e

goes : (m : Mark) → not (is_over m) ≡ true → m ≡ Going
goes Going h = refl
goes Ended h = absurd cc

legal :
    (tables : Tables) (inputs : Inputs) (old : DomainState) (g : Given)
    → is_legal tables inputs old g ≡ true → IsLegalTick tables inputs 0 old (shown_statuses tables 0 (env_of g.interface)) (after tables old g)
legal tables inputs old g h =
    let t = trial_of tables old g in
    let small = is_tick_code t.tick.code in
    let check = λ (s : ℕ). same_status (env_of g.interface s) (given_status tables inputs old g s) in
    let agree = each_number tables.signals check in
    let fits = right_of (not (is_over old.mark)) (t.right && (small && agree)) h in
    let ok = right_of t.right (small && agree) fits in
    record {
      goes_on = goes old.mark (left_of (not (is_over old.mark)) (t.right && (small && agree)) h);
      env = env_of g.interface;
      tick = t.tick;
      ticks = trial_ticks tables old.last old.statement (env_of g.interface) old.variables g.local (left_of t.right (small && agree) fits);
      coherent = λ s e. equal_statuses (env_of g.interface s) (given_status tables inputs old g s) (each_signal tables.signals check (right_of small agree ok) s e);
      code = left_of small agree ok;
      shows = refl;
      next = refl;
    }

-- several ticks in turn
abbrev pub are_legal : Tables → Inputs → DomainState → List Given → Bool
are_legal tables inputs old [] = true
are_legal tables inputs old (g ∷ gs) = is_legal tables inputs old g && are_legal tables inputs (after tables old g) gs

abbrev pub after_all : Tables → DomainState → List Given → DomainState
after_all tables old [] = old
after_all tables old (g ∷ gs) = after_all tables (after tables old g) gs

abbrev pub rows_of : Tables → List Given → List (List (Option ℤ))
rows_of tables [] = []
rows_of tables (g ∷ gs) = shown_statuses tables 0 (env_of g.interface) ∷ rows_of tables gs

makes : (tables : Tables) (inputs : Inputs) (old : DomainState) (gs : List Given) → are_legal tables inputs old gs ≡ true → MakesTicks tables inputs old (rows_of tables gs) (after_all tables old gs)
makes tables inputs old [] h = refl
makes tables inputs old (g ∷ gs) h =
    let first = is_legal tables inputs old g in
    let later = are_legal tables inputs (after tables old g) gs in
    (after tables old g, legal tables inputs old g (left_of first later h), makes tables inputs (after tables old g) gs (right_of first later h))

pub logs :
    (tables : Tables) (inputs : Inputs) (p : Stmt) (gs : List Given) → are_legal tables inputs (at_start p) gs ≡ true
    → Logs tables inputs p (rows_of tables gs) (after_all tables (at_start p) gs).statement (after_all tables (at_start p) gs).mark
logs tables inputs p gs h = record { state = after_all tables (at_start p) gs; ticks = makes tables inputs (at_start p) gs h; leaves = refl; stands = refl }

pub sibling_logs : Logs Rows.sibling_tables no_inputs Rows.sibling ((on ∷ off ∷ []) ∷ (on ∷ on ∷ []) ∷ []) Nothing Ended
sibling_logs = logs Rows.sibling_tables no_inputs Rows.sibling (plain (here ∷ absent ∷ []) ∷ plain (here ∷ here ∷ []) ∷ []) refl

pub weak_abort_logs : Logs Rows.abort_tables (first_signal_at 2) (Rows.aborted true) ((off ∷ on ∷ off ∷ []) ∷ (on ∷ on ∷ on ∷ []) ∷ []) Nothing Ended
weak_abort_logs = logs Rows.abort_tables (first_signal_at 2) (Rows.aborted true) (plain (absent ∷ here ∷ absent ∷ []) ∷ plain (here ∷ here ∷ here ∷ []) ∷ []) refl

pub endless_abort_logs : Logs Rows.abort_tables (first_signal_at 2) Rows.endless_aborted ((off ∷ on ∷ off ∷ []) ∷ (on ∷ on ∷ on ∷ []) ∷ []) Nothing Ended
endless_abort_logs = logs Rows.abort_tables (first_signal_at 2) Rows.endless_aborted (plain (absent ∷ here ∷ absent ∷ []) ∷ plain (here ∷ here ∷ here ∷ []) ∷ []) refl

pub strong_abort_begins : Logs Rows.abort_tables (first_signal_at 2) (Rows.aborted false) ((off ∷ on ∷ off ∷ []) ∷ []) Rows.armed_abort Going
strong_abort_begins = logs Rows.abort_tables (first_signal_at 2) (Rows.aborted false) (plain (absent ∷ here ∷ absent ∷ []) ∷ []) refl

pub strong_abort_logs : Logs Rows.abort_tables (first_signal_at 2) (Rows.aborted false) ((off ∷ on ∷ off ∷ []) ∷ (on ∷ off ∷ on ∷ []) ∷ []) Nothing Ended
strong_abort_logs = logs Rows.abort_tables (first_signal_at 2) (Rows.aborted false) (plain (absent ∷ here ∷ absent ∷ []) ∷ plain (here ∷ absent ∷ here ∷ []) ∷ []) refl

pub new_copy_begins : Logs Rows.new_copy_tables no_inputs Rows.new_copy ((off ∷ on ∷ []) ∷ []) Rows.old_copy Going
new_copy_begins = logs Rows.new_copy_tables no_inputs Rows.new_copy (record { interface = absent ∷ here ∷ []; local = absent ∷ [] } ∷ []) refl

pub new_copy_logs : Logs Rows.new_copy_tables no_inputs Rows.new_copy ((off ∷ on ∷ []) ∷ (off ∷ on ∷ []) ∷ []) Rows.old_copy Going
new_copy_logs =
    let first : Given = record { interface = absent ∷ here ∷ []; local = absent ∷ [] } in
    let second : Given = record { interface = absent ∷ here ∷ []; local = here ∷ absent ∷ [] } in
    logs Rows.new_copy_tables no_inputs Rows.new_copy (first ∷ second ∷ []) refl

pub new_value_begins : Logs Rows.new_value_tables no_inputs Rows.new_value ((with 0 ∷ []) ∷ []) Rows.old_value Going
unfolding int_wrap
new_value_begins = logs Rows.new_value_tables no_inputs Rows.new_value (record { interface = valued 0 ∷ []; local = absent ∷ [] } ∷ []) refl

pub new_value_logs : Logs Rows.new_value_tables no_inputs Rows.new_value ((with 0 ∷ []) ∷ (with 0 ∷ []) ∷ []) Rows.old_value Going
unfolding int_wrap
new_value_logs =
    let first : Given = record { interface = valued 0 ∷ []; local = absent ∷ [] } in
    let second : Given = record { interface = valued 0 ∷ []; local = valued 5 ∷ absent ∷ [] } in
    logs Rows.new_value_tables no_inputs Rows.new_value (first ∷ second ∷ []) refl

pub receive_begins : (last : ℕ → ℤ) (env : Env) (x : ℕ → ℤ) → Ticks Rows.channel_tables last Rows.suspended env x (quiet 1 Rows.waiting x)
receive_begins last env x = trial_ticks Rows.channel_tables last Rows.suspended env x [] refl

chosen_both : (t : Bool) (A B : Type 0) → A → B → Chosen t A B
chosen_both true A B a b = a
chosen_both false A B a b = b

pub receive_waits : (last : ℕ → ℤ) (env : Env) (x : ℕ → ℤ) → Ticks Rows.channel_tables last Rows.waiting env x (quiet 1 Rows.waiting x)
receive_waits last env x =
    let o = quiet 1 Rows.waiting x in
    let p = Rows.then_emits (ReceiveWaits 0) in
    chosen_both (env 0).present (o ≡ o)
    ((a : Tick) × Ticks Rows.channel_tables last p env x a × (o ≡ as_whole a.code (Suspend true (IsPresent 0) a.rest) a))
    refl
    (quiet 1 p x, (quiet 1 (ReceiveWaits 0) x, refl, refl), refl)

pub receive_held : (last : ℕ → ℤ) (env : Env) (x : ℕ → ℤ) → (env 0).present ≡ true → Ticks Rows.channel_tables last Rows.served env x (quiet 1 Rows.served x)
receive_held last env x h = rw h refl

pub receive_ends :
    (last : ℕ → ℤ) (env : Env) (x : ℕ → ℤ) → (env 0).present ≡ false
    → Ticks Rows.channel_tables last Rows.served env x (ends_with (record { signal = 1; value = last 0 } ∷ []) x)
receive_ends last env x h =
    let b = ends_with (record { signal = 1; value = last 0 } ∷ []) x in
    rw h (b, (ends_with [] x, refl, (b, (last 0, refl, refl), refl)), refl)

-- the ticks of the three copies
abbrev pub first_copies : Given
first_copies = record { interface = absent ∷ valued 1 ∷ []; local = valued 1 ∷ [] }

abbrev pub second_copies : Given
second_copies = record { interface = here ∷ valued 7 ∷ []; local = valued 5 ∷ valued 1 ∷ valued 1 ∷ [] }

abbrev pub third_copies : Given
third_copies = record { interface = absent ∷ valued 6 ∷ []; local = valued 5 ∷ valued 1 ∷ [] }

pub copies_begin : Logs Rows.copies_tables (first_signal_at 2) Rows.copies ((off ∷ with 1 ∷ []) ∷ []) Rows.old_copies Going
unfolding int_wrap
copies_begin = logs Rows.copies_tables (first_signal_at 2) Rows.copies (first_copies ∷ []) refl

pub copies_abort : Logs Rows.copies_tables (first_signal_at 2) Rows.copies ((off ∷ with 1 ∷ []) ∷ (on ∷ with 7 ∷ []) ∷ []) Rows.old_copies Going
unfolding int_wrap
copies_abort = logs Rows.copies_tables (first_signal_at 2) Rows.copies (first_copies ∷ second_copies ∷ []) refl

pub copies_logs : Logs Rows.copies_tables (first_signal_at 2) Rows.copies ((off ∷ with 1 ∷ []) ∷ (on ∷ with 7 ∷ []) ∷ (off ∷ with 6 ∷ []) ∷ []) Rows.old_copies Going
unfolding int_wrap
copies_logs = logs Rows.copies_tables (first_signal_at 2) Rows.copies (first_copies ∷ second_copies ∷ third_copies ∷ []) refl
