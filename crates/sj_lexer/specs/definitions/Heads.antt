-- What stands at the head of bytes: white space, a comment or a token, the longest one, or what is none of them.
use Rattle.std.specs.Prelude.{ℕ, ◌+◌, pos, Bool, cond, not, ◌||◌, ◌==◌, nat_le, List, [], ◌∷◌, length, drop, Option, Some, None, option_map, codes}
use Rattle.std.specs.List.{prefix_len, take_while, starts_with}
use Rattle.java_values.specs.declared.kind.Kind.TheVariants as kind
use Rattle.java_values.specs.Names.{is_letter, is_word_byte}
use Rattle.sj_lexer.specs.declared.head.Head.{Head}
use Rattle.sj_lexer.specs.declared.head.Head.TheVariants.{AtEnd, Between, Lexeme, Bad}
use Rattle.sj_lexer.specs.declared.head.Fault.TheVariants as fault
use Rattle.sj_lexer.specs.declared.token.Class.{Class}
use Rattle.sj_lexer.specs.declared.token.Class.TheVariants.{Reserved, Name, Literal, Mark}
use Rattle.sj_lexer.specs.declared.token.Word.{Word}
use Rattle.sj_lexer.specs.definitions.ReservedWords.{reserved_word}
use Rattle.sj_lexer.specs.definitions.Numbers.{number_class}
use Rattle.sj_lexer.specs.declared.characters.Character.{Character}
use Rattle.sj_lexer.specs.definitions.Characters.{character}
use Rattle.sj_lexer.specs.definitions.Signs.{Sign, longest_sign}

-- tab, line feed, carriage return or space
abbrev pub is_white : ℕ → Bool
is_white b = (b == 9) || ((b == 10) || ((b == 13) || (b == 32)))

abbrev pub is_line_end : ℕ → Bool
is_line_end b = b == 10

-- how many bytes there are up to and with the first `*/`
abbrev pub comment_end : List ℕ → Option ℕ
comment_end [] = None
comment_end (b ∷ bs) =
    cond (starts_with ◌==◌ (b ∷
    bs) (codes "*/")) (Some 2) (option_map (λ n. n + 1) (comment_end bs))

-- behind `/*`
abbrev pub comment : Option ℕ → Head
comment None = Bad fault.OpenComment 0
comment (Some n) = Between (n + 2)

abbrev pub most_name_bytes : ℕ
most_name_bytes = 64

-- a reserved word, or a name: its 65th byte is refused
abbrev pub word : Option Word → ℕ → Head
word (Some w) bytes = Lexeme (Reserved w) bytes
word None bytes =
    cond (nat_le bytes most_name_bytes) (Lexeme Name bytes) (Bad fault.BadByte most_name_bytes)

abbrev pub number : Option Class → ℕ → Head
number (Some c) bytes = Lexeme c bytes
number None bytes = Bad fault.BadNumber 0

abbrev pub quoted : Option Character → Head
quoted (Some c) = Lexeme (Literal (record { kind = kind.Char; number = pos c.number })) c.bytes
quoted None = Bad fault.BadByte 0

abbrev pub sign : Option Sign → Head
sign (Some s) = Lexeme (Mark s.mark) (length s.text)
sign None = Bad fault.BadByte 0

-- a run of letters, digits and `_`
abbrev pub run : List ℕ → Head
run [] = AtEnd
run (b ∷ bs) =
    cond (is_letter b) (word (reserved_word (b ∷ bs)) (length (b ∷ bs))) (number (number_class (b ∷
    bs)) (length (b ∷ bs)))

-- what isn't white space and begins no comment
abbrev pub lexeme : ℕ → List ℕ → Head
lexeme b bs =
    cond (is_word_byte b) (run (take_while is_word_byte (b ∷ bs)))
    (cond (b == 39) (quoted (character bs)) (sign (longest_sign (b ∷ bs))))

abbrev pub head : List ℕ → Head
head [] = AtEnd
head (b ∷ bs) =
    cond (is_white b) (Between (prefix_len is_white (b ∷ bs)))
    (cond (starts_with ◌==◌ (b ∷
    bs) (codes "//")) (Between (prefix_len (λ c. not (is_line_end c)) (b ∷ bs)))
    (cond (starts_with ◌==◌ (b ∷ bs) (codes "/*")) (comment (comment_end (drop 1 bs)))
    (lexeme b bs)))
