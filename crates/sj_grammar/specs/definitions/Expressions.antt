-- The grammar of expressions, as the tokens of each tree.
use Rattle.std.specs.Prelude.{◌≡◌, ℕ, ◌≤◌, ◌<◌, true, nat_lt, cond, List, ◌∷◌, Some}
use Rattle.java_values.specs.declared.kind.Kind.{Kind}
use Rattle.java_values.specs.declared.op.Op1.{Op1}
use Rattle.java_values.specs.declared.op.Op2.{Op2}
use Rattle.sj_lexer.specs.declared.token.Class.TheVariants.{Reserved, Name, Mark}
use Rattle.sj_lexer.specs.declared.token.Mark as sign
use Rattle.sj_lexer.specs.declared.token.Mark.TheVariants as mark
use Rattle.sj_lexer.specs.declared.token.Word as reserved
use Rattle.sj_lexer.specs.declared.token.Token.{Token}
use Rattle.sj_grammar.specs.definitions.Roles.{is_atom, is_edge, sign_of, kind_of, infix_of, level_of}

-- each tree has its tokens, in their order
pub data Expr : Type 0 where
  Atom : (token : Token) → Expr
  Least : (minus edge : Token) → Expr
  Status : (hash name : Token) → Expr
  Prefix : (op : Op1) (token : Token) (operand : Expr) → Expr
  Cast : (kind : Kind) (open_paren keyword close_paren : Token) (operand : Expr) → Expr
  Group : (open_paren : Token) (inner : Expr) (close_paren : Token) → Expr
  Infix : (op : Op2) (token : Token) (left right : Expr) → Expr

-- the tokens of an expression, and those after it
abbrev pub print : Expr → List Token → List Token
print (Atom t) after = t ∷ after
print (Least m e) after = m ∷ e ∷ after
print (Status h n) after = h ∷ n ∷ after
print (Prefix op t e) after = t ∷ print e after
print (Cast k o w c e) after = o ∷ w ∷ c ∷ print e after
print (Group o e c) after = o ∷ print e (c ∷ after)
print (Infix op t l r) after = print l (t ∷ print r after)

-- 1 to 10 for operators with two operands, 11 for what stands as an operand
abbrev pub level : Expr → ℕ
level (Infix op t l r) = level_of op
level _ = 11

abbrev pub IsMark : sign.Mark → Token → Type 0
IsMark m t = t.class ≡ Mark m

abbrev pub IsWord : reserved.Word → Token → Type 0
IsWord w t = t.class ≡ Reserved w

abbrev pub IsName : Token → Type 0
IsName t = t.class ≡ Name

-- The tree is an expression: LITERAL, `true`, `false` or NAME; `-` and a number that is one only behind it; `#` NAME;
-- a sign and an operand; `(` kind `)` and an operand; an expression in parentheses; an operator between its operands.
-- Operators of one level group to the left.
abbrev pub IsExpr : Expr → Type 0
IsExpr (Atom t) = is_atom t.class ≡ true
IsExpr (Least m e) = IsMark mark.Minus m × (is_edge e.class ≡ true)
IsExpr (Status h n) = IsMark mark.Hash h × IsName n
IsExpr (Prefix op t e) = (sign_of t.class ≡ Some op) × (level e ≡ 11) × IsExpr e
IsExpr (Cast k o w c e) =
    IsMark mark.OpenParen o × (kind_of w.class ≡ Some k) × IsMark mark.CloseParen c ×
    (level e ≡ 11) × IsExpr e
IsExpr (Group o e c) = IsMark mark.OpenParen o × IsExpr e × IsMark mark.CloseParen c
IsExpr (Infix op t l r) =
    (infix_of t.class ≡ Some op) × (level_of op ≤ level l) × (level_of op < level r) × IsExpr l ×
    IsExpr r

-- the tree of an expression with one more operator and operand after it
abbrev pub insert : Expr → Op2 → Token → Expr → Expr
insert (Infix p s l r) op t e =
    cond (nat_lt (level_of p) (level_of op)) (Infix p s l (insert r op t e))
    (Infix op t (Infix p s l r) e)
insert l op t e = Infix op t l e
