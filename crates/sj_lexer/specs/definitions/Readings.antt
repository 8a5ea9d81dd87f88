-- A source as pieces from its first byte on: white space and comments, and tokens.
use Rattle.std.specs.Prelude.{◌≡◌, ℕ, ◌+◌, ◌-◌, ◌≤◌, ◌<◌, true, List, [], ◌∷◌, take, drop}
use Rattle.java_values.specs.Names.{is_name}
use Rattle.sj_lexer.specs.declared.token.Class.{Class}
use Rattle.sj_lexer.specs.declared.token.Class.TheVariants.{Name}
use Rattle.sj_lexer.specs.declared.token.Token.{Token}
use Rattle.sj_lexer.specs.declared.head.Head.TheVariants.{Between, Lexeme, Bad}
use Rattle.sj_lexer.specs.declared.head.Fault.{Fault}
use Rattle.sj_lexer.specs.definitions.Heads.{head}

pub data Piece : Type 0 where
  Gap : (bytes : ℕ) → Piece
  Text : (class : Class) (bytes : ℕ) → Piece

-- the pieces stand at the head of the bytes, one after the other, and the rest behind them
abbrev pub Leads : List ℕ → List Piece → List ℕ → Type 0
Leads bytes [] rest = bytes ≡ rest
Leads bytes (Gap n ∷ pieces) rest = (head bytes ≡ Between n) × Leads (drop n bytes) pieces rest
Leads bytes (Text class n ∷ pieces) rest =
    (head bytes ≡ Lexeme class n) × Leads (drop n bytes) pieces rest

abbrev pub bytes_of : Piece → ℕ
bytes_of (Gap n) = n
bytes_of (Text class n) = n

abbrev pub bytes_in : List Piece → ℕ
bytes_in [] = 0
bytes_in (piece ∷ pieces) = bytes_of piece + bytes_in pieces

-- the tokens among the pieces, of which the first stands at this place
abbrev pub tokens_from : ℕ → List Piece → List Token
tokens_from at [] = []
tokens_from at (Gap n ∷ pieces) = tokens_from (at + n) pieces
tokens_from at (Text class n ∷ pieces) =
    record { class = class; start = at; end = at + n } ∷ tokens_from (at + n) pieces

-- the source is whole pieces, and these are their tokens
pub record AreTokens (source : List ℕ) (tokens : List Token) : Type 0 where
  pub pieces : List Piece
  pub leads : Leads source pieces []
  pub are : tokens ≡ tokens_from 0 pieces

-- Behind whole pieces stands what is none, for this reason and at this place.
pub record IsRefused (source : List ℕ) (reason : Fault) (place : ℕ) : Type 0 where
  pub pieces : List Piece
  pub rest : List ℕ
  pub offset : ℕ
  pub leads : Leads source pieces rest
  pub bad : head rest ≡ Bad reason offset
  pub at : place ≡ bytes_in pieces + offset

-- tokens in order, none within another, between two places
abbrev pub AreInOrder : ℕ → ℕ → List Token → Type 0
AreInOrder from to [] = from ≤ to
AreInOrder from to (t ∷ ts) = (from ≤ t.start) × (t.start < t.end) × AreInOrder t.end to ts

-- the bytes of a token
abbrev pub text_of : List ℕ → Token → List ℕ
text_of source t = take (t.end - t.start) (drop t.start source)

-- the bytes of each token that is a name are a name
abbrev pub HaveNames : List ℕ → List Token → Type 0
HaveNames source [] = Unit {0}
HaveNames source (t ∷ ts) =
    (t.class ≡ Name → is_name (text_of source t) ≡ true) × HaveNames source ts
