-- Words and names of the source.
use Rattle.std.specs.Prelude.{ℕ, Bool, true, false, cond, ◌&&◌, ◌||◌, not, nat_le, ◌==◌, List, [], ◌∷◌, length, codes}
use Rattle.std.specs.List.{list_any, list_all}
use Rattle.std.specs.Str.{bytes_eq}

abbrev pub is_between : ℕ → ℕ → ℕ → Bool
is_between low high b = nat_le low b && nat_le b high

-- `A` to `Z`, `a` to `z` or `_`
abbrev pub is_letter : ℕ → Bool
is_letter b = is_between 65 90 b || (is_between 97 122 b || (b == 95))

-- a letter or a digit
abbrev pub is_word_byte : ℕ → Bool
is_word_byte b = is_letter b || is_between 48 57 b

abbrev pub is_word : List ℕ → Bool
is_word [] = false
is_word (b ∷ bs) = is_letter b && list_all is_word_byte bs

abbrev pub reserved_words : List (List ℕ)
reserved_words =
    codes "system" ∷ codes "interface" ∷ codes "input" ∷ codes "output" ∷ codes "signal" ∷
    codes "channel" ∷ codes "combine" ∷ codes "max" ∷ codes "min"
    ∷ codes "boolean" ∷ codes "byte" ∷ codes "short" ∷ codes "char" ∷ codes "int" ∷ codes "long"
    ∷ codes "pause" ∷ codes "halt" ∷ codes "emit" ∷ codes "sustain" ∷ codes "if" ∷ codes "else" ∷
    codes "present" ∷ codes "while" ∷ codes "true" ∷ codes "false"
    ∷ codes "weak" ∷ codes "abort" ∷ codes "immediate" ∷ codes "suspend" ∷ codes "trap" ∷
    codes "exit" ∷ codes "send" ∷ codes "receive" ∷ codes "await" ∷ codes "every" ∷
    codes "loop" ∷ codes "each"
    ∷ []

abbrev pub is_reserved : List ℕ → Bool
is_reserved w = list_any (bytes_eq w) reserved_words

-- a word that isn't reserved, of at most 64 bytes
abbrev pub is_name : List ℕ → Bool
is_name w = is_word w && (not (is_reserved w) && nat_le (length w) 64)

abbrev pub is_digit : ℕ → Bool
is_digit b = is_between 48 57 b

-- a decimal number below 64, with no zero before it
abbrev pub is_place : List ℕ → Bool
is_place (a ∷ []) = is_digit a
is_place (a ∷ b ∷ []) = (is_between 49 53 a && is_digit b) || ((a == 54) && is_between 48 51 b)
is_place _ = false

-- the bytes before the first `.`, or all where there is none
abbrev pub before_dot : List ℕ → List ℕ
before_dot [] = []
before_dot (b ∷ bs) = cond (b == 46) [] (b ∷ before_dot bs)

-- the bytes after the first `.`, or none where there is none
abbrev pub after_dot : List ℕ → List ℕ
after_dot [] = []
after_dot (b ∷ bs) = cond (b == 46) bs (after_dot bs)

-- the form of a channel's name over the names of one sort: such a name, or one followed by `.` and a
-- number below 64
abbrev pub has_channel_form : (List ℕ → Bool) → List ℕ → Bool
has_channel_form is_of_sort w =
    is_of_sort w || (is_of_sort (before_dot w) && is_place (after_dot w))

abbrev pub is_channel_name : List ℕ → Bool
is_channel_name = has_channel_form is_name

-- no two names of the list are equal
abbrev pub are_distinct : List (List ℕ) → Bool
are_distinct [] = true
are_distinct (n ∷ ns) = not (list_any (bytes_eq n) ns) && are_distinct ns
