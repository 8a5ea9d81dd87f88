-- When parts in turn may end in a later tick.
use Rattle.std.proofs.Common.{◌≡◌, ℕ, zero, suc, ◌+◌, ◌<◌, Bool, true, false, ◌&&◌, ◌||◌, List, [], ◌∷◌, length, get_or, drop, map, refl, sym, ap, ◌∙◌}
use Rattle.std.specs.List.{list_all}
use Rattle.kernel_terms.specs.declared.term.Term.{Term}
use Rattle.kernel_terms.specs.Statements.{Stmt, sequence, sequence_from, statement}
use Rattle.kernel_terms.specs.MayEnd.{ends0, ends1}
use Rattle.tick_tree.specs.Measures.{some_ends1, IsPassed}
use Rattle.tick_tree.proofs.PartLists.{and_true, split_first}
use Rattle.tick_tree.proofs.StartingEnds.{end-sequence_from}

and_false : (b : Bool) → b && false ≡ false
and_false true = refl
and_false false = refl

end-later_from : (p : Stmt) (ps : List Stmt) → ends1 (sequence_from p ps) ≡ some_ends1 (p ∷ ps)
end-later_from p [] = sym (and_true (ends1 p))
end-later_from p (q ∷ ps) =
    ap (λ b. b || (ends1 p && ends0 (sequence_from q ps))) (end-later_from q ps)
    ∙ ap (λ b. some_ends1 (q ∷ ps) || (ends1 p && b)) (end-sequence_from q ps)

pub end_later_in_turn : (p : Stmt) (ps : List Stmt) → p ≡ sequence ps → ends1 p ≡ some_ends1 ps
end_later_in_turn p [] h = ap ends1 h
end_later_in_turn p (q ∷ ps) h = ap ends1 h ∙ end-later_from q ps

-- what the last parts tell of all

still_ends : (ts : List Term) (i : ℕ) → some_ends1 (map statement (drop i ts)) ≡ true → some_ends1 (map statement ts) ≡ true
still_ends ts zero h = h
still_ends [] (suc i) h = h
still_ends (t ∷ ts) (suc i) h = ap (λ b. b || (ends1 (statement t) && list_all ends0 (map statement ts))) (still_ends ts i h)

stays_off : (ts : List Term) (i : ℕ) → list_all ends0 (map statement (drop i ts)) ≡ false → list_all ends0 (map statement ts) ≡ false
stays_off ts zero h = h
stays_off [] (suc i) h = h
stays_off (t ∷ ts) (suc i) h = ap (λ b. ends0 (statement t) && b) (stays_off ts i h) ∙ and_false (ends0 (statement t))

never_ends : (ts : List Term) (i : ℕ) → some_ends1 (map statement (drop i ts)) ≡ false → list_all ends0 (map statement (drop i ts)) ≡ false → some_ends1 (map statement ts) ≡ false
never_ends ts zero h g = h
never_ends [] (suc i) h g = h
never_ends (t ∷ ts) (suc i) h g =
    ap (λ b. b || (ends1 (statement t) && list_all ends0 (map statement ts))) (never_ends ts i h g)
    ∙ ap (λ b. ends1 (statement t) && b) (stays_off ts i g)
    ∙ and_false (ends1 (statement t))

-- a part, where those after it may end in their starting ticks alone

part_end0 : (ts : List Term) (i : ℕ) (t : Term) → i < length ts → t ≡ get_or ts i t → IsPassed (map statement (drop (i + 1) ts)) → list_all ends0 (map statement (drop i ts)) ≡ ends0 (statement t)
part_end0 ts i t lt is h =
    ap (list_all ends0) (split_first ts i t lt is) ∙ ap (λ b. ends0 (statement t) && b) h.at_start ∙ and_true (ends0 (statement t))

part_end1 : (ts : List Term) (i : ℕ) (t : Term) → i < length ts → t ≡ get_or ts i t → IsPassed (map statement (drop (i + 1) ts)) → some_ends1 (map statement (drop i ts)) ≡ ends1 (statement t)
part_end1 ts i t lt is h =
    ap some_ends1 (split_first ts i t lt is)
    ∙ ap (λ b. b || (ends1 (statement t) && list_all ends0 (map statement (drop (i + 1) ts)))) h.later
    ∙ ap (λ b. ends1 (statement t) && b) h.at_start
    ∙ and_true (ends1 (statement t))

pub part_ends : (ts : List Term) (i : ℕ) (t : Term) → i < length ts → t ≡ get_or ts i t → IsPassed (map statement (drop (i + 1) ts)) → ends1 (statement t) ≡ true → some_ends1 (map statement ts) ≡ true
part_ends ts i t lt is h e = still_ends ts i (part_end1 ts i t lt is h ∙ e)

pub part_stops : (ts : List Term) (i : ℕ) (t : Term) → i < length ts → t ≡ get_or ts i t → IsPassed (map statement (drop (i + 1) ts)) → ends1 (statement t) ≡ false → ends0 (statement t) ≡ false → some_ends1 (map statement ts) ≡ false
part_stops ts i t lt is h e g = never_ends ts i (part_end1 ts i t lt is h ∙ e) (part_end0 ts i t lt is h ∙ g)

pub part_passes : (ts : List Term) (i : ℕ) (t : Term) → i < length ts → t ≡ get_or ts i t → IsPassed (map statement (drop (i + 1) ts)) → ends1 (statement t) ≡ false → ends0 (statement t) ≡ true → IsPassed (map statement (drop i ts))
part_passes ts i t lt is h e g = record { at_start = part_end0 ts i t lt is h ∙ g; later = part_end1 ts i t lt is h ∙ e }

pub none_left : (ts : List Term) (n : ℕ) → n ≡ length ts → IsPassed (map statement (drop n ts))
none_left [] n e = rw e (record { at_start = refl; later = refl })
none_left (t ∷ ts) n e = rw e (none_left ts (length ts) refl)

pub ruleset ends_of_parts = (part_ends, part_stops, part_passes, none_left)
