-- The grammar of tests, as the tokens of each tree.
use Rattle.std.specs.Prelude.{◌≡◌, ℕ, ◌≤◌, ◌<◌, nat_lt, cond, List, ◌∷◌, Some}
use Rattle.sj_lexer.specs.declared.token.Mark.TheVariants as mark
use Rattle.sj_lexer.specs.declared.token.Token.{Token}
use Rattle.sj_grammar.specs.declared.role.Join.{Join}
use Rattle.sj_grammar.specs.definitions.Roles.{join_of, join_level}
use Rattle.sj_grammar.specs.definitions.Expressions.{IsMark, IsName}

pub data Test : Type 0 where
  SignalTest : (name : Token) → Test
  NotTest : (bang : Token) (test : Test) → Test
  GroupTest : (open_paren : Token) (inner : Test) (close_paren : Token) → Test
  JoinTest : (join : Join) (token : Token) (left right : Test) → Test

abbrev pub print_test : Test → List Token → List Token
print_test (SignalTest n) after = n ∷ after
print_test (NotTest b t) after = b ∷ print_test t after
print_test (GroupTest o t c) after = o ∷ print_test t (c ∷ after)
print_test (JoinTest j s l r) after = print_test l (s ∷ print_test r after)

-- 1 and 2 for operators with two operands, 3 for what stands as an operand
abbrev pub test_level : Test → ℕ
test_level (JoinTest j s l r) = join_level j
test_level _ = 3

-- The tree is a test: NAME; `!` and an operand; a test in parentheses; an operator between its operands. Operators of
-- one level group to the left.
abbrev pub IsTest : Test → Type 0
IsTest (SignalTest n) = IsName n
IsTest (NotTest b t) = IsMark mark.Bang b × (test_level t ≡ 3) × IsTest t
IsTest (GroupTest o t c) = IsMark mark.OpenParen o × IsTest t × IsMark mark.CloseParen c
IsTest (JoinTest j s l r) =
    (join_of s.class ≡ Some j) × (join_level j ≤ test_level l) × (join_level j < test_level r) ×
    IsTest l × IsTest r

-- the tree of a test with one more operator and operand after it
abbrev pub insert_test : Test → Join → Token → Test → Test
insert_test (JoinTest i s l r) j t e =
    cond (nat_lt (join_level i) (join_level j)) (JoinTest i s l (insert_test r j t e))
    (JoinTest j t (JoinTest i s l r) e)
insert_test l j t e = JoinTest j t l e
