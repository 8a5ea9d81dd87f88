-- What the parts of a check without failures gave.
use Rattle.std.proofs.Common.{◌≡◌, List, [], ◌∷◌, ◌++◌, Option, Some, None, refl}
use Rattle.std.specs.Prelude.{option_map}
use Rattle.java_types.specs.declared.failure.TypeFailure.{TypeFailure}
use Rattle.java_types.specs.definitions.Checks.{Checked, fine, wrong, map1, map2, option_map2, then, where_value}

-- no failure, and this value
pub record Gives {X : Type 0} (c : Checked X) (x : X) : Type 0 where
  pub failures : c.failures ≡ []
  pub value : c.value ≡ Some x

pub record GivesMap {X Y : Type 0} (f : X → Y) (c : Checked X) (y : Y) : Type 0 where
  pub part : X
  pub gives : Gives c part
  pub is : y ≡ f part

pub record GivesBoth {X Y Z : Type 0} (f : X → Y → Z) (c : Checked X) (d : Checked Y) (z : Z) : Type 0 where
  pub left : X
  pub right : Y
  pub first : Gives c left
  pub second : Gives d right
  pub is : z ≡ f left right

pub record GivesThen {X Y : Type 0} (c : Checked X) (f : X → Checked Y) (y : Y) : Type 0 where
  pub part : X
  pub first : Gives c part
  pub second : Gives (f part) y

pub some_is : {X : Type 0} (x y : X) → Some x ≡ Some y → y ≡ x
some_is x y h = cc

pub first_nil : {X : Type 0} (xs ys : List X) → xs ++ ys ≡ [] → xs ≡ []
first_nil [] ys h = refl
first_nil (x ∷ xs) ys h = absurd (cc)

pub second_nil : {X : Type 0} (xs ys : List X) → xs ++ ys ≡ [] → ys ≡ []
second_nil [] ys h = h
second_nil (x ∷ xs) ys h = absurd (cc)

pub given_fine : {X : Type 0} (x y : X) → Gives (fine x) y → y ≡ x
given_fine x y g = some_is x y g.value

pub none_wrong : {X : Type 0} (f : TypeFailure) (x : X) → Gives (wrong f) x → ⊥
none_wrong f x g = absurd (let h = g.value in cc)

pub given_map : {X Y : Type 0} (f : X → Y) (c : Checked X) (y : Y) → Gives (map1 f c) y → GivesMap f c y
given_map {X} {Y} f c y g = split c.value refl g.value
  where
    split : (o : Option X) → c.value ≡ o → option_map f o ≡ Some y → GivesMap f c y
    split None e h = absurd (cc)
    split (Some x) e h = record { part = x; gives = record { failures = g.failures; value = e }; is = some_is (f x) y h }

pub given_both : {X Y Z : Type 0} (f : X → Y → Z) (c : Checked X) (d : Checked Y) (z : Z) → Gives (map2 f c d) z → GivesBoth f c d z
given_both {X} {Y} {Z} f c d z g = split c.value refl d.value refl g.value
  where
    split : (o : Option X) → c.value ≡ o → (p : Option Y) → d.value ≡ p → option_map2 f o p ≡ Some z → GivesBoth f c d z
    split None e p k h = absurd (cc)
    split (Some x) e None k h = absurd (cc)
    split (Some x) e (Some y) k h =
        record { left = x; right = y; first = record { failures = first_nil c.failures d.failures g.failures; value = e }; second = record { failures = second_nil c.failures d.failures g.failures; value = k }; is = some_is (f x y) z h }

pub given_then : {X Y : Type 0} (c : Checked X) (f : X → Checked Y) (y : Y) → Gives (then c f) y → GivesThen c f y
given_then {X} {Y} c f y g = split c.value refl g.value g.failures
  where
    split : (o : Option X) → c.value ≡ o → (where_value f o).value ≡ Some y → c.failures ++ (where_value f o).failures ≡ [] → GivesThen c f y
    split None e h i = absurd (cc)
    split (Some x) e h i = record { part = x; first = record { failures = first_nil c.failures (f x).failures i; value = e }; second = record { failures = second_nil c.failures (f x).failures i; value = h } }
