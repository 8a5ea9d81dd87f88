-- Checks of the parts of a list, one after another.
use Rattle.std.proofs.lemmas.List.{drop_more}
use Rattle.std.proofs.Common.{◌≡◌, ℕ, ◌+◌, ◌<◌, length, drop, get_or, List, [], ◌∷◌, ◌++◌, Option, Some, None, map, ap, sym, ◌∙◌, refl, append_assoc, append-nil}
use Rattle.std.specs.Prelude.{option_map}
use Rattle.java_types.specs.declared.failure.TypeError.{TypeError}
use Rattle.java_types.specs.declared.failure.TypeError.TheVariants as error
use Rattle.java_types.specs.definitions.Checks.{Checked, fine, map1, map2, all_checked, first_of, IsFirst}
use Rattle.java_types.proofs.CheckLemmas.{fails_left}

pub drop_next : {X : Type 0} (xs : List X) (i : ℕ) (x : X) → i < length xs → x ≡ get_or xs i x → drop i xs ≡ x ∷ drop (i + 1) xs
drop_next xs i x lt is = drop_more xs i x lt ∙ ap (λ y. y ∷ drop (i + 1) xs) (sym is)

-- these values stand before those of a check
abbrev pub prepended : {X : Type 0} → List X → Checked (List X) → Checked (List X)
prepended xs c = map1 (λ ys. xs ++ ys) c

same_value : {X : Type 0} (o : Option (List X)) → option_map (λ (ys : List X). [] ++ ys) o ≡ o
same_value None = refl
same_value (Some xs) = refl

-- no value is there yet
pub lists_start : {X : Type 0} (c : Checked (List X)) → prepended [] c ≡ c
lists_start c = ap (λ (o : Option (List _)). let x : Checked (List _) = record { value = o; failures = c.failures } in x) (same_value c.value)

one_more_value : {X : Type 0} (xs : List X) (y : X) (o : Option (List X)) → option_map (λ ys. xs ++ ys) (option_map (λ ys. y ∷ ys) o) ≡ option_map (λ ys. (xs ++ y ∷ []) ++ ys) o
one_more_value xs y None = refl
one_more_value xs y (Some ys) = ap Some (sym (append_assoc xs (y ∷ []) ys))

one_more : {X : Type 0} (xs : List X) (y : X) (c : Checked (List X)) → prepended xs (map2 (λ x ys. x ∷ ys) (fine y) c) ≡ prepended (xs ++ y ∷ []) c
one_more xs y c = ap (λ (o : Option (List _)). let x : Checked (List _) = record { value = o; failures = c.failures } in x) (one_more_value xs y c.value)

-- the next part is fine
pub lists_next : {X Y : Type 0} (f : X → Checked Y) (xs : List Y) (rest more : List X) (x : X) (y : Y) → rest ≡ x ∷ more → f x ≡ fine y → prepended xs (all_checked (map f rest)) ≡ prepended (xs ++ y ∷ []) (all_checked (map f more))
lists_next f xs rest more x y e h =
    ap (λ l. prepended xs (all_checked (map f l))) e ∙ ap (λ c. prepended xs (map2 (λ z ys. z ∷ ys) c (all_checked (map f more)))) h ∙ one_more xs y (all_checked (map f more))

-- all parts are fine
pub lists_end : {X Y : Type 0} (f : X → Checked Y) (xs : List Y) (rest : List X) → rest ≡ [] → prepended xs (all_checked (map f rest)) ≡ fine xs
lists_end f xs rest e = ap (λ l. prepended xs (all_checked (map f l))) e ∙ ap fine (append-nil xs)

-- the next part fails
pub lists_fail : {X Y : Type 0} (f : X → Checked Y) (whole : Checked (List Y)) (xs : List Y) (rest more : List X) (x : X) (e : TypeError) → whole ≡ prepended xs (all_checked (map f rest)) → rest ≡ x ∷ more → IsFirst (f x) e → IsFirst whole e
lists_fail f whole xs rest more x (error.Failed z) w r h =
    ap (λ (c : Checked (List _)). first_of c.failures) w ∙ ap (λ l. first_of (all_checked (map f l)).failures) r ∙ fails_left (λ y ys. y ∷ ys) (f x) (all_checked (map f more)) (error.Failed z) h
lists_fail f whole xs rest more x error.NoMemory w r h = tt

pub ruleset lists = (lists_start, lists_next, lists_end, lists_fail)
