-- What the visible names stand for, with one name more or fewer.
use denote.Ref.{Bor}
use Rattle.std.proofs.Common.{◌≡◌, ℕ, Bool, true, false, ◌&&◌, ◌||◌, not, cond, List, [], ◌∷◌, ◌++◌, map, Some, None, ap, refl, sym, ◌∙◌}
use Rattle.std.specs.Prelude.{Option, Result, Ok, Err, OnOk, is_err, is_some, option_to_list}
use Rattle.std.specs.List.{list_any}
use Rattle.std.specs.Ordering.{nat_cmp}
use Rattle.std.specs.BTreeMap.{BTreeMap, UpdatesBy}
use Rattle.std.specs.Cmp.Lexicographic.{slice_cmp}
use Rattle.std.specs.Str.{bytes_eq}
use Rattle.std.proofs.lemmas.List.{map-append}
use Rattle.std.proofs.lemmas.List.Folds.{list_any-append}
use Rattle.std.proofs.lemmas.Map.Text.{btree_map_updates_str}
use Rattle.std.proofs.lemmas.Slice.Eq.{bytes_eq-Decides}
use Rattle.java_values.specs.Names.{are_distinct}
use Rattle.sj_names.specs.declared.mention.Meaning.{Meaning}
use Rattle.sj_names.specs.declared.names.Visible.{Visible}
use Rattle.sj_names.specs.definitions.Scopes.{Named, meaning_in}
use Rattle.sj_names.specs.FoundNames.{AreFound, named}

same_bool : (x y : Bool) → (x ≡ true → y ≡ true) → (y ≡ true → x ≡ true) → x ≡ y
same_bool true y f g = sym (f refl)
same_bool false true f g = g refl
same_bool false false f g = refl

bytes_swap : (a b : List ℕ) → bytes_eq a b ≡ bytes_eq b a
bytes_swap a b = same_bool (bytes_eq a b) (bytes_eq b a) (λ h. (bytes_eq-Decides b a).1 (sym ((bytes_eq-Decides a b).0 h))) (λ h. (bytes_eq-Decides a b).1 (sym ((bytes_eq-Decides b a).0 h)))

names_in : List Named → List (List ℕ)
names_in = map (λ v. v.name)

-- a name is visible where it stands for something
is_visible : (vs : List Named) (name : List ℕ) → is_some (meaning_in vs name) ≡ list_any (bytes_eq name) (map (λ v. v.name) vs)
is_visible [] name = refl
is_visible (v ∷ vs) name = step (bytes_eq name v.name) v.meaning (meaning_in vs name) (list_any (bytes_eq name) (map (λ w. w.name) vs)) (is_visible vs name)
  where
    step : (b : Bool) (m : Meaning) (o : Option Meaning) (c : Bool) → is_some o ≡ c → is_some (cond b (Some m) o) ≡ (b || c)
    step true m o c h = refl
    step false m o c h = h

none_of : (o : Option Meaning) → is_some o ≡ false → o ≡ None
none_of None h = refl
none_of (Some m) h = cc

-- a new name stands for its own meaning, and another one for what it stood for
meaning_push : (vs : List Named) (v : Named) (other : List ℕ) → meaning_in vs v.name ≡ None → cond (bytes_eq v.name other) (Some v.meaning) (meaning_in vs other) ≡ meaning_in (vs ++ v ∷ []) other
meaning_push [] v other h = ap (λ b. cond b (Some v.meaning) None) (bytes_swap v.name other)
meaning_push (w ∷ ws) v other h =
    step (bytes_eq v.name other) (bytes_eq other w.name) (bytes_eq v.name w.name) (meaning_in ws v.name) (meaning_in ws other) (meaning_in (ws ++ v ∷ []) other) h
    (λ x y. (bytes_eq-Decides v.name w.name).1 ((bytes_eq-Decides v.name other).0 x ∙ (bytes_eq-Decides other w.name).0 y)) (meaning_push ws v other)
  where
    step : (b c d : Bool) (own here after : Option Meaning) → cond d (Some w.meaning) own ≡ None → (b ≡ true → c ≡ true → d ≡ true) → (own ≡ None → cond b (Some v.meaning) here ≡ after)
        → cond b (Some v.meaning) (cond c (Some w.meaning) here) ≡ cond c (Some w.meaning) after
    step b c true own here after h k i = cc
    step true true false own here after h k i = let e = k refl refl in cc
    step true false false own here after h k i = i h
    step false true false own here after h k i = refl
    step false false false own here after h k i = i h

-- distinct names, with one more or fewer

distinct_push : (names : List (List ℕ)) (name : List ℕ) → are_distinct names ≡ true → list_any (bytes_eq name) names ≡ false → are_distinct (names ++ name ∷ []) ≡ true
distinct_push [] name d h = refl
distinct_push (n ∷ ns) name d h =
    step (list_any (bytes_eq n) ns) (bytes_eq name n) (list_any (bytes_eq name) ns) (are_distinct ns) (list_any (bytes_eq n) (ns ++ name ∷ [])) (are_distinct (ns ++ name ∷ [])) d h
    (list_any-append (bytes_eq n) ns (name ∷ []) ∙ ap (λ b. list_any (bytes_eq n) ns || (b || false)) (bytes_swap n name)) (distinct_push ns name)
  where
    step : (a b c d e f : Bool) → (not a && d) ≡ true → (b || c) ≡ false → e ≡ (a || (b || false)) → (d ≡ true → c ≡ false → f ≡ true) → (not e && f) ≡ true
    step true b c d e f h k i j = cc
    step false true c d e f h k i j = cc
    step false false c d e f h k i j = ap (λ x. not x && f) i ∙ j h k

distinct_last : (names : List (List ℕ)) (name : List ℕ) → are_distinct (names ++ name ∷ []) ≡ true → (are_distinct names ≡ true) × (list_any (bytes_eq name) names ≡ false)
distinct_last [] name d = (refl, refl)
distinct_last (n ∷ ns) name d =
    step (list_any (bytes_eq n) ns) (bytes_eq name n) (list_any (bytes_eq n) (ns ++ name ∷ [])) (are_distinct (ns ++ name ∷ [])) (are_distinct ns) (list_any (bytes_eq name) ns) d
    (list_any-append (bytes_eq n) ns (name ∷ []) ∙ ap (λ b. list_any (bytes_eq n) ns || (b || false)) (bytes_swap n name)) (distinct_last ns name)
  where
    step : (a b e f g c : Bool) → (not e && f) ≡ true → e ≡ (a || (b || false)) → (f ≡ true → (g ≡ true) × (c ≡ false)) → ((not a && g) ≡ true) × ((b || c) ≡ false)
    step a b true f g c h k i = cc
    step true b false f g c h k i = cc
    step false true false f g c h k i = cc
    step false false false f g c h k i = i h

-- the meanings that are found

pub where_ok : {T E : Type 0} (r : Result T E) (P : Type 0) → is_err r ≡ false → OnOk r P → P
where_ok (Ok v) P e h = h
where_ok (Err x) P e h = cc

pub none_where : (o : Option Meaning) (b : Bool) → b ≡ is_some o → b ≡ false → o ≡ None
none_where o b e f = none_of o (sym e ∙ f)

pub found_push : (visible after : List Visible) (v : Visible) (m n : BTreeMap (Bor (List ℕ)) Meaning) → AreFound (named visible) m → meaning_in (named visible) v.name.now ≡ None → after ≡ visible ++ v ∷ []
    → UpdatesBy (λ x y. slice_cmp nat_cmp x.now y.now) (λ k. slice_cmp nat_cmp v.name.now k.now) m n (Some v.meaning) → AreFound (named after) n
found_push visible after v m n f free e u =
    let w : Named = record { name = v.name.now; meaning = v.meaning } in
    let is : named after ≡ named visible ++ w ∷ [] = ap named e ∙ map-append (λ x. let y : Named = record { name = x.name.now; meaning = x.meaning } in y) visible (v ∷ []) in
    record {
      each = λ name. btree_map_updates_str v.name.now m n (Some v.meaning) u name ∙ ap (cond (bytes_eq v.name.now name) (Some v.meaning)) (f.each name) ∙ meaning_push (named visible) w name free ∙ ap (λ l. meaning_in l name) (sym is);
      apart =
          ap (λ l. are_distinct (map (λ x. x.name) l)) is ∙ ap are_distinct (map-append (λ x. x.name) (named visible) (w ∷ []))
          ∙ distinct_push (map (λ x. x.name) (named visible)) v.name.now f.apart (sym (is_visible (named visible) v.name.now) ∙ ap is_some free);
    }

pub found_pop : (visible before : List Visible) (v : Visible) (r : Option Visible) (m n : BTreeMap (Bor (List ℕ)) Meaning) → before ≡ visible ++ option_to_list r → r ≡ Some v → AreFound (named before) m
    → UpdatesBy (λ x y. slice_cmp nat_cmp x.now y.now) (λ k. slice_cmp nat_cmp v.name.now k.now) m n None → AreFound (named visible) n
found_pop visible before v r m n e s f u =
    let w : Named = record { name = v.name.now; meaning = v.meaning } in
    let is : named before ≡ named visible ++ w ∷ [] = ap named (e ∙ ap (λ o. visible ++ option_to_list o) s) ∙ map-append (λ x. let y : Named = record { name = x.name.now; meaning = x.meaning } in y) visible (v ∷ []) in
    let d = distinct_last (map (λ x. x.name) (named visible)) v.name.now (sym (ap (λ l. are_distinct (map (λ x. x.name) l)) is ∙ ap are_distinct (map-append (λ x. x.name) (named visible) (w ∷ []))) ∙ f.apart) in
    let free = none_of (meaning_in (named visible) v.name.now) (is_visible (named visible) v.name.now ∙ d.1) in
    record {
      each = λ name.
          btree_map_updates_str v.name.now m n None u name
          ∙ ap (cond (bytes_eq v.name.now name) None) (f.each name ∙ ap (λ l. meaning_in l name) is ∙ sym (meaning_push (named visible) w name free))
          ∙ at name (bytes_eq v.name.now name) refl free;
      apart = d.0;
    }
  where
    at : (name : List ℕ) (b : Bool) → bytes_eq v.name.now name ≡ b → meaning_in (named visible) v.name.now ≡ None → cond b None (cond b (Some v.meaning) (meaning_in (named visible) name)) ≡ meaning_in (named visible) name
    at name true e free = sym (ap (meaning_in (named visible)) (sym ((bytes_eq-Decides v.name.now name).0 e)) ∙ free)
    at name false e free = refl
