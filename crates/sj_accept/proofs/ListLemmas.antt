-- Lists, read from the first element on, and lists of options.
use Rattle.std.proofs.Common.{◌≡◌, ℕ, zero, suc, ◌+◌, ◌<◌, ◌≤◌, drop, get_or, add-one, List, [], ◌∷◌, ◌++◌, length, map, Some, None, ap, refl, sym, ◌∙◌, append_assoc, append-nil, arith}
use Rattle.std.specs.Prelude.{Option}
use Rattle.std.proofs.Math.Seq.{drop-cons}
use Rattle.sj_accept.specs.definitions.Optional.{all_some, with_first}
use Rattle.sj_accept.specs.Lowered.{with_all}

pub drop_first : {X : Type 0} (xs : List X) (i : ℕ) (x : X) → i < length xs → x ≡ get_or xs i x → drop i xs ≡ x ∷ drop (i + 1) xs
drop_first xs i x lt is = rw (add-one, drop-cons xs i x lt) (ap (λ y. y ∷ drop (suc i) xs) (sym is))

drop_nothing : {X : Type 0} (k : ℕ) → drop {A = X} k [] ≡ []
drop_nothing zero = refl
drop_nothing (suc k) = refl

pub drop_end : {X : Type 0} (xs : List X) (n : ℕ) → length xs ≤ n → drop n xs ≡ []
drop_end [] n h = drop_nothing n
drop_end (x ∷ xs) zero h = absurd (omega arith)
drop_end (x ∷ xs) (suc n) h = drop_end xs n (omega arith)

pub ruleset first_elements = (drop_first)

all_start : {X : Type 0} (o : Option (List X)) → o ≡ with_all [] o
all_start None = refl
all_start (Some xs) = refl

more_of : {X : Type 0} (xs : List X) (x : X) (o : Option (List X)) → with_all xs (with_first x o) ≡ with_all (xs ++ x ∷ []) o
more_of xs x None = refl
more_of xs x (Some ys) = ap Some (sym (append_assoc xs (x ∷ []) ys))

-- a list that begins with these
pub record IsRest {X : Type 0} (xs all : List X) (o : Option (List X)) : Type 0 where
  pub rest : List X
  pub there : o ≡ Some rest
  pub is : all ≡ xs ++ rest

pub rest_of_all : {X : Type 0} (xs all : List X) (o : Option (List X)) → with_all xs o ≡ Some all → IsRest xs all o
rest_of_all xs all None h = cc
rest_of_all xs all (Some ys) h = record { rest = ys; there = refl; is = cc }

pub record IsFirst {X : Type 0} (x : X) (all : List X) (o : Option (List X)) : Type 0 where
  pub rest : List X
  pub there : o ≡ Some rest
  pub is : all ≡ x ∷ rest

pub first_of_all : {X : Type 0} (x : X) (all : List X) (o : Option (List X)) → with_first x o ≡ Some all → IsFirst x all o
first_of_all x all None h = cc
first_of_all x all (Some ys) h = record { rest = ys; there = refl; is = cc }

-- of what a function answers to a list's elements, those before the rest
abbrev pub Reaches : {X Y : Type 0} → (X → Option Y) → List X → List X → List Y → Type 0
Reaches f all rest ys = all_some (map f all) ≡ with_all ys (all_some (map f rest))

pub reaches_start : {X Y : Type 0} (f : X → Option Y) (all : List X) → Reaches f all all []
reaches_start f all = all_start (all_some (map f all))

pub reaches_more : {X Y : Type 0} (f : X → Option Y) (all rest more : List X) (ys : List Y) (x : X) (y : Y) → rest ≡ x ∷ more → f x ≡ Some y → Reaches f all rest ys → Reaches f all more (ys ++ y ∷ [])
reaches_more f all rest more ys x y e h r =
    r ∙ ap (λ l. with_all ys (all_some (map f l))) e ∙ ap (λ o. with_all ys (all_some (o ∷ map f more))) h ∙ more_of ys y (all_some (map f more))

pub reaches_none : {X Y : Type 0} (f : X → Option Y) (all rest more : List X) (ys : List Y) (x : X) → rest ≡ x ∷ more → f x ≡ None → Reaches f all rest ys → all_some (map f all) ≡ None
reaches_none f all rest more ys x e h r = r ∙ ap (λ l. with_all ys (all_some (map f l))) e ∙ ap (λ o. with_all ys (all_some (o ∷ map f more))) h

pub reaches_end : {X Y : Type 0} (f : X → Option Y) (all rest : List X) (ys : List Y) → length rest ≡ 0 → Reaches f all rest ys → all_some (map f all) ≡ Some ys
reaches_end f all [] ys l r = r ∙ ap Some (append-nil ys)
reaches_end f all (x ∷ xs) ys l r = absurd (omega arith)
