-- The first failure of a check.
use Rattle.std.proofs.Common.{◌≡◌, List, [], ◌∷◌, ◌++◌, Some, ap, ◌∙◌}
use Rattle.java_types.specs.declared.failure.TypeFailure.{TypeFailure}
use Rattle.java_types.specs.declared.failure.TypeError.{TypeError}
use Rattle.java_types.specs.declared.failure.TypeError.TheVariants as error
use Rattle.java_types.specs.definitions.Checks.{Checked, then, where_value, first_of, IsFirst, map2}

first_before : (fs gs : List TypeFailure) (f : TypeFailure) → first_of fs ≡ Some f → first_of (fs ++ gs) ≡ Some f
first_before (g ∷ fs) gs f h = h
first_before [] gs f h = cc

pub same_first : {X : Type 0} (c d : Checked X) (e : TypeError) → c ≡ d → IsFirst d e → IsFirst c e
same_first c d (error.Failed f) h i = ap (λ (b : Checked _). first_of b.failures) h ∙ i
same_first c d error.NoMemory h i = tt

-- a check that fails in its first part
pub fails_first : {X Y : Type 0} (c : Checked X) (f : X → Checked Y) (e : TypeError) → IsFirst c e → IsFirst (then c f) e
fails_first c f (error.Failed x) h = first_before c.failures (where_value f c.value).failures x h
fails_first c f error.NoMemory h = tt

-- of two parts, the first or the second
pub fails_left : {X Y Z : Type 0} (g : X → Y → Z) (c : Checked X) (d : Checked Y) (e : TypeError) → IsFirst c e → IsFirst (map2 g c d) e
fails_left g c d (error.Failed x) h = first_before c.failures d.failures x h
fails_left g c d error.NoMemory h = tt

pub fails_right : {X Y Z : Type 0} (g : X → Y → Z) (c : Checked X) (d : Checked Y) (e : TypeError) → c.failures ≡ [] → IsFirst d e → IsFirst (map2 g c d) e
fails_right g c d (error.Failed f) h i = ap (λ fs. first_of (fs ++ d.failures)) h ∙ i
fails_right g c d error.NoMemory h i = tt

-- a check of two parts of which the second fails
pub second_fails : {X Y Z W : Type 0} (g : X → Y → Z) (f : Z → Checked W) (c : Checked X) (d : Checked Y) (e : TypeError) → c.failures ≡ [] → IsFirst d e → IsFirst (then (map2 g c d) f) e
second_fails g f c d e h i = fails_first (map2 g c d) f e (fails_right g c d e h i)

pub first_fails : {X Y Z W : Type 0} (g : X → Y → Z) (f : Z → Checked W) (c : Checked X) (d : Checked Y) (e : TypeError) → IsFirst c e → IsFirst (then (map2 g c d) f) e
first_fails g f c d e h = fails_first (map2 g c d) f e (fails_left g c d e h)

pub ruleset checks = (fails_first, fails_left, fails_right)

pub ruleset pairs = (fails_first, first_fails, second_fails)
