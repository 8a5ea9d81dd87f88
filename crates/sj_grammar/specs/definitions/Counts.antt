-- The limits, counted over the tokens of an expression or a test.
use Rattle.std.specs.Prelude.{◌≡◌, ℕ, ◌+◌, Bool, true, false, ◌&&◌, ◌||◌, nat_le, cond, List, [], ◌∷◌, ◌++◌}
use Rattle.sj_lexer.specs.declared.token.Class.{Class}
use Rattle.sj_lexer.specs.declared.token.Class.TheVariants.{Mark}
use Rattle.sj_lexer.specs.declared.token.Mark.TheVariants as mark
use Rattle.sj_lexer.specs.declared.token.Token.{Token}
use Rattle.sj_grammar.specs.definitions.Classes.{same}
use Rattle.sj_grammar.specs.definitions.Roles.{sign_of, infix_of, kind_of, has, is_opening}
use Rattle.sj_grammar.specs.definitions.Walks.{level_after, most_open, most_operators}

abbrev pub begins_kind : List Token → Bool
begins_kind [] = false
begins_kind (t ∷ ts) = has (kind_of t.class)

-- A token of an expression is an operator: a `(` is that of a cast where a kind follows. A test has no casts.
abbrev pub is_operator_of : Bool → Class → List Token → Bool
is_operator_of casts c after =
    cond (same (Mark mark.OpenParen) c) (casts &&
    begins_kind after) (has (infix_of c) || has (sign_of c))

abbrev pub counted : Bool → ℕ → Class → List Token → ℕ
counted casts n c after = cond (is_operator_of casts c after) (n + 1) n

-- the token opens a level too many, or is an operator too many
abbrev pub is_over : Bool → ℕ → ℕ → Class → List Token → Bool
is_over casts d n c after =
    (is_opening c && nat_le most_open d) ||
    (is_operator_of casts c after && nat_le most_operators n)

-- no token of the run is over the limits, and the property holds of the levels and the operators behind it
abbrev pub CountsTo : (ℕ → ℕ → Type 0) → Bool → ℕ → ℕ → List Token → List Token → Type 0
CountsTo P casts d n [] rest = P d n
CountsTo P casts d n (t ∷ run) rest =
    (is_over casts d n t.class (run ++ rest) ≡ false) ×
    CountsTo P casts (level_after d t.class) (counted casts n t.class (run ++ rest)) run rest

-- no token of the run is over the limits
pub record AreWithin (casts : Bool) (d n : ℕ) (run rest : List Token) : Type 0 where
  pub counts : CountsTo (λ e m. Unit {0}) casts d n run rest

-- behind the run, whose tokens aren't, this token is over the limits
pub record IsOverBehind (casts : Bool) (d n : ℕ) (run : List Token) (token : Token)
    (after : List Token) : Type 0 where
  pub counts : CountsTo (λ e m. is_over casts e m token.class after ≡
      true) casts d n run (token ∷ after)
