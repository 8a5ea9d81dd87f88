-- Lists of places.
use Rattle.std.specs.Prelude.{◌≡◌, ℕ, ◌<◌, cond, nat_lt, List, [], ◌∷◌, ◌++◌, length, get_or, set, map, Vec}
use Rattle.std.specs.Global.{Global}
use Rattle.sj_names.specs.declared.mention.Mention.{Mention}
use Rattle.sj_names.specs.definitions.Failures.{owned_places}

abbrev pub place_lists : List (Vec ℕ Global) → List (List ℕ)
place_lists = map (λ places. places.items)

-- one place more in the list of this number, where there is one
abbrev pub with_place : List (List ℕ) → ℕ → ℕ → List (List ℕ)
with_place lists i at =
    cond (nat_lt i (length lists)) (set lists i (get_or lists i [] ++ at ∷ [])) lists

-- so many empty lists
pub record AreEmpty (lists : List (List ℕ)) (n : ℕ) : Type 0 where
  pub count : length lists ≡ n
  pub each : (d : ℕ) → get_or lists d [] ≡ []

-- those before the rest, from the i-th on, are in the lists of their domains
pub record OwnedReach (names : List (List Mention)) (places : List ℕ) (i : ℕ) (rest : List ℕ)
    (lists : List (List ℕ)) : Type 0 where
  pub count : length lists ≡ length names
  pub each : (d : ℕ) → d < length names →
      get_or lists d [] ++ owned_places names d i rest ≡ owned_places names d 0 places

-- each domain has the places of its interface signals
pub record AreOwned (names : List (List Mention)) (places : List ℕ) (lists : List (List ℕ)) : Type 0
  where
    pub count : length lists ≡ length names
    pub each : (d : ℕ) → d < length names → get_or lists d [] ≡ owned_places names d 0 places
