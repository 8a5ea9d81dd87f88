-- Reading with the limits of levels and operators.
use Rattle.std.specs.Prelude.{ℕ, ◌+◌, ◌-◌, Bool, true, false, ◌&&◌, ◌||◌, nat_le, cond, List, [], ◌∷◌, Some, None}
use Rattle.sj_lexer.specs.declared.token.Class.{Class}
use Rattle.sj_lexer.specs.declared.token.Class.TheVariants.{Mark}
use Rattle.sj_lexer.specs.declared.token.Mark.TheVariants as mark
use Rattle.sj_lexer.specs.declared.token.Token.{Token}
use Rattle.sj_grammar.specs.definitions.Classes.{same}
use Rattle.sj_grammar.specs.definitions.Roles.{sign_of, infix_of, kind_of, has, is_opening, is_closing, is_inside}
use Rattle.sj_grammar.specs.definitions.Machine.{Symbol, AfterOpen, next, all_end}

-- how many braces and parentheses are open after the token
abbrev pub level_after : ℕ → Class → ℕ
level_after d c = cond (is_opening c) (d + 1) (cond (is_closing c) (d - 1) d)

-- a kind follows a `(` that begins an operand
abbrev pub opens_cast : List Symbol → List Token → Bool
opens_cast (AfterOpen ∷ k) (t ∷ ts) = has (kind_of t.class)
opens_cast _ _ = false

-- The token is an operator, by the symbols left behind it and the tokens after it: a `(` is that of a cast.
abbrev pub is_operator : Class → List Symbol → List Token → Bool
is_operator c k after =
    cond (same (Mark mark.OpenParen) c) (opens_cast k after) (has (infix_of c) || has (sign_of c))

-- how many operators the expression or the test has so far
abbrev pub operators_after : ℕ → Class → List Symbol → List Token → ℕ
operators_after n c k after = cond (is_operator c k after) (n + 1) (cond (is_inside c) n 0)

abbrev pub most_open : ℕ
most_open = 64

abbrev pub most_operators : ℕ
most_operators = 256

-- the token opens a level too many, or is an operator too many
abbrev pub is_too_deep : ℕ → ℕ → Class → List Symbol → List Token → Bool
is_too_deep d n c k after =
    (is_opening c && nat_le most_open d) || (is_operator c k after && nat_le most_operators n)

pub data Outcome : Type 0 where
  Ended : (rest : List Token) → Outcome
  Refused : (rest : List Token) → Outcome
  TooDeep : (rest : List Token) → Outcome

abbrev pub stop : Bool → List Token → Outcome
stop true rest = Ended rest
stop false rest = Refused rest

-- the first token that can't be read or is too deep, where d levels are open and the expression has n operators
abbrev pub walk : List Symbol → ℕ → ℕ → List Token → Outcome
walk k d n [] = stop (all_end k) []
walk k d n (t ∷ ts) =
    elim (next k t.class) [
      | None ↦ stop (all_end k) (t ∷ ts)
      | Some j ↦ cond (is_too_deep d n t.class j ts) (TooDeep (t ∷
          ts)) (walk j (level_after d t.class) (operators_after n t.class j ts) ts)
    ]
