-- How numbers are spelled, and their ranges.
use Rattle.std.specs.Prelude.{ℕ, ◌+◌, ◌-◌, ◌*◌, ◌^◌, ℤ, pos, negsuc, Bool, true, false, ◌&&◌, ◌||◌, ◌==◌, nat_lt, cond, List, [], ◌∷◌, length, take, get_or, Option, Some, None}
use Rattle.std.specs.List.{list_all}
use Rattle.java_values.specs.declared.kind.Kind.TheVariants as kind
use Rattle.java_values.specs.Names.{is_between, is_digit}
use Rattle.sj_lexer.specs.declared.token.Class.{Class}
use Rattle.sj_lexer.specs.declared.token.Class.TheVariants.{Literal, IntEdge, LongEdge}

-- the value of a hexadecimal digit, and 16 for any other byte
abbrev pub digit_value : ℕ → ℕ
digit_value b =
    cond (is_digit b) (b - 48)
    (cond (is_between 97 102 b) (b - 87)
    (cond (is_between 65 70 b) (b - 55) 16))

abbrev pub are_digits : ℕ → List ℕ → Bool
are_digits base = list_all (λ b. nat_lt (digit_value b) base)

-- the number of these digits behind those of n
abbrev pub number_from : ℕ → ℕ → List ℕ → ℕ
number_from base n [] = n
number_from base n (b ∷ bs) = number_from base (n * base + digit_value b) bs

-- at least one digit
abbrev pub is_spelled : ℕ → List ℕ → Bool
is_spelled base [] = false
is_spelled base (b ∷ bs) = are_digits base (b ∷ bs)

-- one above the greatest `int`, and one above the greatest `long`
abbrev pub edge_of : Bool → ℕ
edge_of is_long = cond is_long (2 ^ 63) (2 ^ 31)

abbrev pub literal : Bool → ℤ → Class
literal is_long n = Literal (record { kind = cond is_long kind.Long kind.Int; number = n })

-- a decimal number, `long` or `int`
abbrev pub decimal_class : Bool → ℕ → Option Class
decimal_class is_long n =
    cond (nat_lt n (edge_of is_long)) (Some (literal is_long (pos n)))
    (cond (n == edge_of is_long) (Some (cond is_long LongEdge IntEdge)) None)

-- a hexadecimal number in two's complement
abbrev pub hexadecimal_class : Bool → ℕ → Option Class
hexadecimal_class is_long n =
    cond (nat_lt n (edge_of is_long)) (Some (literal is_long (pos n)))
    (cond (nat_lt n (2 * edge_of is_long))
    (Some (literal is_long (negsuc (2 * edge_of is_long - 1 - n)))) None)

abbrev pub if_spelled : Bool → Option Class → Option Class
if_spelled spelled class = cond spelled class None

-- after `0`: nothing, or `x` or `X` and hexadecimal digits
abbrev pub after_zero : Bool → List ℕ → Option Class
after_zero is_long [] = decimal_class is_long 0
after_zero is_long (b ∷ bs) =
    if_spelled (((b == 120) || (b == 88)) &&
    is_spelled 16 bs) (hexadecimal_class is_long (number_from 16 0 bs))

-- a number without a mark of `long` behind it: decimal digits with no 0 before others, or a hexadecimal number
abbrev pub unmarked_class : Bool → List ℕ → Option Class
unmarked_class is_long [] = None
unmarked_class is_long (b ∷ bs) =
    cond (b == 48) (after_zero is_long bs)
    (if_spelled (are_digits 10 (b ∷ bs)) (decimal_class is_long (number_from 10 0 (b ∷ bs))))

-- the bytes but for the last of them, and the last
abbrev pub but_last : List ℕ → List ℕ
but_last w = take (length w - 1) w

abbrev pub last_of : List ℕ → ℕ
last_of w = get_or w (length w - 1) 0

-- a number, which `L` or `l` behind it makes `long`
abbrev pub number_class : List ℕ → Option Class
number_class w =
    cond ((last_of w == 76) ||
    (last_of w == 108)) (unmarked_class true (but_last w)) (unmarked_class false w)
