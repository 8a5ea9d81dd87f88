-- The signs.
use Rattle.std.specs.Prelude.{ℕ, ◌==◌, Bool, ◌||◌, not, nat_le, List, [], ◌∷◌, length, Option, codes}
use Rattle.std.specs.List.{find, starts_with}
use Rattle.sj_lexer.specs.declared.token.Mark.{Mark}
use Rattle.sj_lexer.specs.declared.token.Mark.TheVariants as mark

pub record Sign : Type 0 where
  pub text : List ℕ
  pub mark : Mark

-- longer ones first
abbrev pub signs : List Sign
signs =
    record { text = codes ">>>="; mark = mark.UshrAssign } ∷
    record { text = codes "<<="; mark = mark.ShlAssign } ∷
    record { text = codes ">>="; mark = mark.ShrAssign } ∷
    record { text = codes ">>>"; mark = mark.Ushr } ∷
    record { text = codes "+="; mark = mark.PlusAssign } ∷
    record { text = codes "-="; mark = mark.MinusAssign } ∷
    record { text = codes "*="; mark = mark.StarAssign } ∷
    record { text = codes "/="; mark = mark.SlashAssign } ∷
    record { text = codes "%="; mark = mark.PercentAssign } ∷
    record { text = codes "&="; mark = mark.AmpersandAssign } ∷
    record { text = codes "|="; mark = mark.PipeAssign } ∷
    record { text = codes "^="; mark = mark.CaretAssign } ∷
    record { text = codes "<<"; mark = mark.Shl } ∷
    record { text = codes ">>"; mark = mark.Shr } ∷
    record { text = codes "<="; mark = mark.LessEq } ∷
    record { text = codes ">="; mark = mark.GreaterEq } ∷
    record { text = codes "=="; mark = mark.Equal } ∷
    record { text = codes "!="; mark = mark.NotEqual } ∷
    record { text = codes "&&"; mark = mark.Both } ∷
    record { text = codes "||"; mark = mark.Either } ∷
    record { text = codes "><"; mark = mark.Beside } ∷
    record { text = codes "{"; mark = mark.OpenBrace } ∷
    record { text = codes "}"; mark = mark.CloseBrace } ∷
    record { text = codes "("; mark = mark.OpenParen } ∷
    record { text = codes ")"; mark = mark.CloseParen } ∷
    record { text = codes ";"; mark = mark.Semicolon } ∷
    record { text = codes "#"; mark = mark.Hash } ∷
    record { text = codes "="; mark = mark.Assign } ∷
    record { text = codes "+"; mark = mark.Plus } ∷
    record { text = codes "-"; mark = mark.Minus } ∷
    record { text = codes "*"; mark = mark.Star } ∷
    record { text = codes "/"; mark = mark.Slash } ∷
    record { text = codes "%"; mark = mark.Percent } ∷
    record { text = codes "&"; mark = mark.Ampersand } ∷
    record { text = codes "|"; mark = mark.Pipe } ∷
    record { text = codes "^"; mark = mark.Caret } ∷
    record { text = codes "~"; mark = mark.Tilde } ∷
    record { text = codes "!"; mark = mark.Bang } ∷
    record { text = codes "<"; mark = mark.Less } ∷
    record { text = codes ">"; mark = mark.Greater } ∷ []

-- the longest sign with which the bytes begin
abbrev pub longest_sign : List ℕ → Option Sign
longest_sign bytes = find (λ s. starts_with ◌==◌ bytes s.text) signs

-- where the bytes begin with the sign, it has at most so many bytes
abbrev pub is_no_longer : List ℕ → ℕ → Sign → Bool
is_no_longer bytes n s = not (starts_with ◌==◌ bytes s.text) || nat_le (length s.text) n
