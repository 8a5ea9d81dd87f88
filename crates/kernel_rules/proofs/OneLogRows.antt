-- The logs of the small domains of the rows are their only ones.
use Rattle.std.proofs.Common.{true, false, [], ◌∷◌, List, refl, sym, ap, subst}
use Rattle.std.specs.Int.{int_wrap}
use Rattle.kernel_terms.specs.Marks.{Going, Ended}
use Rattle.kernel_terms.specs.Statements.{Stmt, Nothing}
use Rattle.kernel_rules.specs.definitions.Signals.{Status}
use Rattle.kernel_rules.specs.definitions.TickRule.{Tick}
use Rattle.kernel_rules.specs.definitions.LegalTick.{DomainState}
use Rattle.kernel_rules.specs.Rows
use Rattle.kernel_rules.specs.Rows.{at_start, first_signal_at, on, off, with}
use Rattle.kernel_rules.specs.definitions.LegalTick.{no_inputs}
use Rattle.kernel_rules.specs.ShownTicks.{OnlyLogs, absent, present}
use Rattle.kernel_rules.proofs.TickTrials.{trial}
use Rattle.kernel_rules.proofs.OneTickLemmas.{Sole}
use Rattle.kernel_rules.proofs.RowLemmas.{Given, plain, sibling_logs, weak_abort_logs, endless_abort_logs, strong_abort_begins, strong_abort_logs, copies_begin, copies_abort, copies_logs, first_copies, second_copies, third_copies}
use Rattle.kernel_rules.proofs.OneLogLemmas.{tried_in, last_state, only_logs, only_logs_known, local_known, Known}

-- a tick in which the status of one signal alone is read, from the state after these ticks
abbrev read_after : Stmt → List Given → Status → Tick
read_after p gs z = (tried_in Rows.abort_tables (last_state Rows.abort_tables (first_signal_at 2) (at_start p) gs) (λ s. z)).tick

pub sibling_alone : OnlyLogs Rows.sibling_tables no_inputs Rows.sibling ((on ∷ off ∷ []) ∷ (on ∷ on ∷ []) ∷ []) Nothing Ended
sibling_alone =
    let gs = plain (present ∷ absent ∷ []) ∷ plain (present ∷ present ∷ []) ∷ [] in
    only_logs Rows.sibling_tables no_inputs Rows.sibling gs refl _ _ _ refl refl refl refl sibling_logs (refl, λ env c. refl, (refl, λ env c. refl, tt))

abbrev first_of_abort : List Given
first_of_abort = plain (absent ∷ present ∷ absent ∷ []) ∷ []

pub weak_abort_alone : OnlyLogs Rows.abort_tables (first_signal_at 2) (Rows.aborted true) ((off ∷ on ∷ off ∷ []) ∷ (on ∷ on ∷ on ∷ []) ∷ []) Nothing Ended
weak_abort_alone =
    let gs = plain (absent ∷ present ∷ absent ∷ []) ∷ plain (present ∷ present ∷ present ∷ []) ∷ [] in
    only_logs Rows.abort_tables (first_signal_at 2) (Rows.aborted true) gs refl _ _ _ refl refl refl refl weak_abort_logs
    (refl, λ env c. refl, (refl, λ env c. ap (read_after (Rows.aborted true) first_of_abort) (c 0 refl), tt))

pub endless_abort_alone : OnlyLogs Rows.abort_tables (first_signal_at 2) Rows.endless_aborted ((off ∷ on ∷ off ∷ []) ∷ (on ∷ on ∷ on ∷ []) ∷ []) Nothing Ended
endless_abort_alone =
    let gs = plain (absent ∷ present ∷ absent ∷ []) ∷ plain (present ∷ present ∷ present ∷ []) ∷ [] in
    only_logs Rows.abort_tables (first_signal_at 2) Rows.endless_aborted gs refl _ _ _ refl refl refl refl endless_abort_logs
    (refl, λ env c. refl, (refl, λ env c. ap (read_after Rows.endless_aborted first_of_abort) (c 0 refl), tt))

pub strong_begins_alone : OnlyLogs Rows.abort_tables (first_signal_at 2) (Rows.aborted false) ((off ∷ on ∷ off ∷ []) ∷ []) Rows.armed_abort Going
strong_begins_alone =
    only_logs Rows.abort_tables (first_signal_at 2) (Rows.aborted false) first_of_abort refl _ _ _ refl refl refl refl strong_abort_begins
    (refl, λ env c. refl, tt)

pub strong_abort_only : OnlyLogs Rows.abort_tables (first_signal_at 2) (Rows.aborted false) ((off ∷ on ∷ off ∷ []) ∷ (on ∷ off ∷ on ∷ []) ∷ []) Nothing Ended
strong_abort_only =
    let gs = plain (absent ∷ present ∷ absent ∷ []) ∷ plain (present ∷ absent ∷ present ∷ []) ∷ [] in
    only_logs Rows.abort_tables (first_signal_at 2) (Rows.aborted false) gs refl _ _ _ refl refl refl refl strong_abort_logs
    (refl, λ env c. refl, (refl, λ env c. ap (read_after (Rows.aborted false) first_of_abort) (c 0 refl), tt))

-- the domain of the three copies after these ticks
abbrev copies_after : List Given → DomainState
copies_after gs = last_state Rows.copies_tables (first_signal_at 2) (at_start Rows.copies) gs

abbrev copies_tick : List Given → Given → Status → Tick
copies_tick gs g z = let old = copies_after gs in (trial Rows.copies_tables old.last old.statement (λ s. z) old.variables g.local).tick

abbrev SoleCopies : List Given → Given → Status → Type 0
SoleCopies gs g z = let old = copies_after gs in Sole Rows.copies_tables old.last old.statement (λ s. z) old.variables g.local

first_known : Known Rows.copies_tables (first_signal_at 2) (at_start Rows.copies) (copies_tick [] first_copies absent)
unfolding int_wrap
first_known =
    local_known Rows.copies_tables (first_signal_at 2) (at_start Rows.copies) first_copies
    (λ env m c. (((λ w. (tt, (refl, refl))), (λ w. (tt, (refl, refl)))), refl))

second_known : Known Rows.copies_tables (first_signal_at 2) (copies_after (first_copies ∷ [])) (copies_tick (first_copies ∷ []) second_copies present)
unfolding int_wrap
second_known =
    local_known Rows.copies_tables (first_signal_at 2) (copies_after (first_copies ∷ [])) second_copies
    (λ env m c. (
      subst (SoleCopies (first_copies ∷ []) second_copies) (sym (c 0 refl))
          ((
            (((λ w. (tt, (refl, refl))), (λ w. (tt, (refl, refl)))), ((λ w. (tt, (refl, refl))), (λ w. (tt, (refl, refl))))),
            ((λ w. (tt, (refl, refl))), (λ w. (tt, (refl, refl)))),
          )),
      ap (copies_tick (first_copies ∷ []) second_copies) (c 0 refl),
    ))

third_known :
    Known Rows.copies_tables (first_signal_at 2) (copies_after (first_copies ∷ second_copies ∷ [])) (copies_tick (first_copies ∷ second_copies ∷ []) third_copies absent)
unfolding int_wrap
third_known =
    local_known Rows.copies_tables (first_signal_at 2) (copies_after (first_copies ∷ second_copies ∷ [])) third_copies
    (λ env m c. (
      subst (SoleCopies (first_copies ∷ second_copies ∷ []) third_copies) (sym (c 0 refl))
          ((((λ w. (tt, (refl, refl))), (λ w. (tt, (refl, refl)))), ((λ w. (tt, (refl, refl))), (λ w. (tt, (refl, refl))))), tt),
      ap (copies_tick (first_copies ∷ second_copies ∷ []) third_copies) (c 0 refl),
    ))

pub copies_begin_alone : OnlyLogs Rows.copies_tables (first_signal_at 2) Rows.copies ((off ∷ with 1 ∷ []) ∷ []) Rows.old_copies Going
unfolding int_wrap
copies_begin_alone =
    only_logs_known Rows.copies_tables (first_signal_at 2) Rows.copies (first_copies ∷ []) refl _ _ _ refl refl refl refl copies_begin (first_known, tt)

pub copies_abort_alone : OnlyLogs Rows.copies_tables (first_signal_at 2) Rows.copies ((off ∷ with 1 ∷ []) ∷ (on ∷ with 7 ∷ []) ∷ []) Rows.old_copies Going
unfolding int_wrap
copies_abort_alone =
    only_logs_known Rows.copies_tables (first_signal_at 2) Rows.copies (first_copies ∷ second_copies ∷ []) refl _ _ _ refl refl refl refl copies_abort
    (first_known, (second_known, tt))

pub copies_alone :
    OnlyLogs Rows.copies_tables (first_signal_at 2) Rows.copies ((off ∷ with 1 ∷ []) ∷ (on ∷ with 7 ∷ []) ∷ (off ∷ with 6 ∷ []) ∷ []) Rows.old_copies Going
unfolding int_wrap
copies_alone =
    only_logs_known Rows.copies_tables (first_signal_at 2) Rows.copies (first_copies ∷ second_copies ∷ third_copies ∷ []) refl _ _ _ refl refl refl refl copies_logs
    (first_known, (second_known, (third_known, tt)))
