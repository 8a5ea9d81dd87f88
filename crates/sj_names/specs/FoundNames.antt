-- How the meanings of the visible names are found.
use denote.Ref.{Bor}
use Rattle.std.specs.Prelude.{◌≡◌, ℕ, true, List, map}
use Rattle.std.specs.Ordering.{nat_cmp}
use Rattle.std.specs.BTreeMap.{BTreeMap, get_by}
use Rattle.std.specs.Cmp.Lexicographic.{slice_cmp}
use Rattle.java_values.specs.Names.{are_distinct}
use Rattle.sj_names.specs.declared.mention.Meaning.{Meaning}
use Rattle.sj_names.specs.declared.names.Visible.{Visible}
use Rattle.sj_names.specs.definitions.Scopes.{Named, meaning_in}

abbrev pub named : List Visible → List Named
named = map (λ v. record { name = v.name.now; meaning = v.meaning })

-- each name stands for what is found, and no name is visible twice
pub record AreFound (visible : List Named) (meanings : BTreeMap (Bor (List ℕ)) Meaning) : Type 0
  where
    pub each : (name : List ℕ) →
        get_by (λ k. slice_cmp nat_cmp name k.now) meanings ≡ meaning_in visible name
    pub apart : are_distinct (map (λ v. v.name) visible) ≡ true
