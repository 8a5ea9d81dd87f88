-- The first domain that uses each number.
use Rattle.std.specs.Prelude.{◌≡◌, ℕ, Bool, false, cond, nat_lt, List, map, Vec, Option, Some, None}
use Rattle.std.specs.Global.{Global}
use Rattle.std.specs.Ordering.{nat_cmp}
use Rattle.std.specs.BTreeMap.{get}
use Rattle.sj_names.specs.declared.mention.Mention.{Mention}
use Rattle.sj_names.specs.declared.mention.Use.{Use}
use Rattle.sj_names.specs.declared.uses.FirstUses.{FirstUses}
use Rattle.sj_names.specs.definitions.Failures.{is_number, uses, first_with}

abbrev pub lists : List (Vec Mention Global) → List (List Mention)
lists = map (λ d. d.items)

abbrev pub first_user : FirstUses → ℕ → Option ℕ
first_user firsts n = get nat_cmp firsts.domains n

abbrev pub or_where : Option ℕ → Bool → ℕ → Option ℕ
or_where (Some d) b e = Some d
or_where None b e = cond b (Some e) None

-- what used no domain before is used first by this one
abbrev pub Claims : (old new : FirstUses) → Option ℕ → ℕ → Type 0
Claims old new number domain =
    (n : ℕ) → first_user new n ≡ or_where (first_user old n) (is_number n number) domain

abbrev pub UsesAll : (old new : FirstUses) → Use → List Mention → ℕ → Type 0
UsesAll old new way mentions domain =
    (n : ℕ) → first_user new n ≡ or_where (first_user old n) (uses way n mentions) domain

abbrev pub AreFirst : FirstUses → Use → List (List Mention) → Type 0
AreFirst firsts way domains = (n : ℕ) → first_user firsts n ≡ first_with (uses way n) 0 domains

-- the domain stands before this one
abbrev pub is_earlier : Option ℕ → ℕ → Bool
is_earlier None k = false
is_earlier (Some n) k = nat_lt n k
