-- How characters are spelled.
use Rattle.std.specs.Prelude.{ℕ, ◌&&◌, ◌||◌, ◌==◌, not, Bool, cond, List, [], ◌∷◌, Option, Some, None}
use Rattle.java_values.specs.Names.{is_between}
use Rattle.sj_lexer.specs.declared.characters.Character.{Character}

-- what stands behind `\`: `n`, `t`, `r`, `\` or `'`
abbrev pub escaped : ℕ → Option ℕ
escaped b =
    cond (b == 110) (Some 10)
    (cond (b == 116) (Some 9)
    (cond (b == 114) (Some 13)
    (cond ((b == 92) || (b == 39)) (Some b) None)))

-- a byte from 32 to 126 other than `'` and `\`
abbrev pub is_plain : ℕ → Bool
is_plain b = is_between 32 126 b && not ((b == 39) || (b == 92))

-- a number behind which `'` stands
abbrev pub closed : Option ℕ → ℕ → List ℕ → Option Character
closed (Some n) bytes (q ∷ rest) = cond (q == 39) (Some (record { number = n; bytes = bytes })) None
closed _ bytes _ = None

abbrev pub plain : ℕ → Option ℕ
plain b = cond (is_plain b) (Some b) None

abbrev pub after_backslash : List ℕ → Option Character
after_backslash [] = None
after_backslash (b ∷ bs) = closed (escaped b) 4 bs

-- the character behind its first `'`
abbrev pub character : List ℕ → Option Character
character [] = None
character (b ∷ bs) = cond (b == 92) (after_backslash bs) (closed (plain b) 3 bs)
