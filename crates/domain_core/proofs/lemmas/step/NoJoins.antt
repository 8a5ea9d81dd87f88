-- Where no join is answered, nothing changes.
use Rattle.std.proofs.Common.{◌≡◌, ℕ, zero, suc, ◌^◌, ◌<◌, ◌+◌, ◌≤◌, ℤ, true, List, length, get_or, inl, inr, Option, None, refl, sym, ap, ◌∙◌, arith}
use Rattle.std.specs.Prelude.{is_some}
use Rattle.std.proofs.lemmas.Bool.{cases_lt, true≢false}
use Rattle.std.proofs.lemmas.List.{get_or_past, get_or_read}
use Rattle.plain_code.specs.declared.end_place.EndPlace.{EndPlace}
use Rattle.cell_core.specs.declared.moves.Joined.{Joined}
use Rattle.domain_core.specs.declared.step.ends_of.EndOf.{EndOf}
use Rattle.domain_core.specs.declared.step.ends_of.EndJoin.{EndJoin}
use Rattle.domain_core.specs.declared.step.parts.Program.{Program}
use Rattle.domain_core.specs.declared.step.parts.State.{State}
use Rattle.domain_core.specs.definitions.step.Domains.{register_at}
use Rattle.domain_core.specs.definitions.step.EndRegisters.{registers_joined, joined_at}
use Rattle.domain_core.specs.definitions.step.Steps.{add_join, add_joins}
use Rattle.domain_core.specs.step.Answers.{raised, raised_by}
use Rattle.domain_core.specs.step.JoinLists.{joins_in}
use Rattle.domain_core.specs.step.StepParts.{AreNoJoins, Applies}

registers_stay : (places : List EndPlace) (last : List ℕ) (ends : List EndOf) (answers : List (Option Joined)) (n : ℕ) (r : ℕ → ℤ) → AreNoJoins answers → registers_joined places last ends answers n r ≡ r
registers_stay places last ends answers zero r h = refl
registers_stay places last ends answers (suc n) r h =
    ap (λ a. joined_at places last ends n a (registers_joined places last ends answers n r)) (h.none n)
    ∙ registers_stay places last ends answers n r h

joins_stay : (ticks : ℕ) (answers : List (Option Joined)) (n : ℕ) (joins : List (List EndJoin)) → AreNoJoins answers → add_joins ticks answers n joins ≡ joins
joins_stay ticks answers zero joins h = refl
joins_stay ticks answers (suc n) joins h =
    ap (λ a. add_join ticks n a (add_joins ticks answers n joins)) (h.none n) ∙ joins_stay ticks answers n joins h

stamp_stays : (answers : List (Option Joined)) (n stamp : ℕ) → AreNoJoins answers → raised answers n stamp ≡ stamp
stamp_stays answers zero stamp h = refl
stamp_stays answers (suc n) stamp h =
    ap (λ a. raised_by a (raised answers n stamp)) (h.none n) ∙ stamp_stays answers n stamp h

pub applies_nothing : (program : Program) (state : State) (answers : List (Option Joined)) (ticks : ℕ) → AreNoJoins answers → state.cause ≤ 2 ^ 62 → Applies program state state answers ticks
applies_nothing program state answers ticks h limit = record {
  registers = sym (registers_stay program.codes.places.items program.last.items program.ends.items answers (length program.ends.items) (register_at state.registers.items) h);
  register_count = refl;
  joins = sym (joins_stay ticks answers (length program.ends.items) (joins_in state.joins.items) h);
  lists = refl;
  memory = λ k v lt. omega arith;
  cause = sym (stamp_stays answers (length program.ends.items) state.cause h);
  limit = limit;
  stamp = refl;
  stopped = refl;
}

-- the answers before one that is none, and that one

pub none_more : (answers : List (Option Joined)) (i : ℕ) → get_or answers i None ≡ None → ((k : ℕ) → k < i → get_or answers k None ≡ None) → (k : ℕ) → k < i + 1 → get_or answers k None ≡ None
none_more answers i e h k lt = elim (cases_lt k i) [
  | inl before ↦ h k before
  | inr ge ↦ (let same : k ≡ i = omega arith in ap (λ n. get_or answers n None) same ∙ e)
]

pub none_at_all : (answers : List (Option Joined)) (n : ℕ) → length answers ≤ n → ((k : ℕ) → k < n → get_or answers k None ≡ None) → AreNoJoins answers
none_at_all answers n le h = record {
  none = λ k. elim (cases_lt k n) [
    | inl before ↦ h k before
    | inr ge ↦ get_or_past answers k None (omega arith)
  ];
}

pub some_at : (answers : List (Option Joined)) (i : ℕ) (a : Option Joined) → a ≡ get_or answers i a → is_some a ≡ true → i < length answers → AreNoJoins answers → ⊥
some_at answers i a is some lt h = true≢false (sym some ∙ ap is_some (get_or_read answers i a lt is None ∙ h.none i))

pub ruleset no_joins = (some_at, none_more, none_at_all)
