-- What the lexer keeps on its way.
use Rattle.std.specs.Prelude.{◌≡◌, ◌==◌, ◌||◌, not, Bool, ℕ, ◌+◌, List, [], ◌∷◌, ◌++◌, length}
use Rattle.sj_lexer.specs.declared.head.Head.{Head}
use Rattle.sj_lexer.specs.declared.head.Head.TheVariants.{AtEnd, Between, Lexeme, Bad}
use Rattle.sj_lexer.specs.declared.lexer.LexError.{LexError}
use Rattle.sj_lexer.specs.declared.lexer.LexError.TheVariants as error
use Rattle.sj_lexer.specs.declared.token.Class.{Class}
use Rattle.sj_lexer.specs.declared.token.Token.{Token}
use Rattle.java_values.specs.Names.{is_word_byte}
use Rattle.sj_lexer.specs.definitions.Heads.{is_white}
use Rattle.sj_lexer.specs.definitions.Readings.{Piece, Leads, tokens_from, bytes_in, AreInOrder, IsRefused}
use Rattle.sj_lexer.specs.definitions.Refusals.{IsWhy}

-- the tokens so far, and the place behind them and behind white space and comments
pub record HasRead (source : List ℕ) (tokens : List Token) (rest : List ℕ) (at : ℕ) : Type 0 where
  pub pieces : List Piece
  pub leads : Leads source pieces rest
  pub are : tokens ≡ tokens_from 0 pieces
  pub passed : at ≡ bytes_in pieces
  pub whole : at + length rest ≡ length source
  pub order : AreInOrder 0 at tokens

-- what begins with the byte is a sign or no token
abbrev pub begins_sign : ℕ → Bool
begins_sign b = not (is_white b || (is_word_byte b || ((b == 39) || (b == 47))))

-- the token of so many bytes at this place, behind the others
abbrev pub with_token : List Token → Class → ℕ → ℕ → List Token
with_token tokens class at count =
    tokens ++ record { class = class; start = at; end = at + count } ∷ []

-- what stands at the head, at this place, has so many bytes, and made these tokens of the old ones
abbrev pub Adds : Head → ℕ → List Token → List Token → ℕ → Type 0
Adds AtEnd at old new count = ⊥
Adds (Between n) at old new count = (count ≡ n) × (new ≡ old)
Adds (Lexeme class n) at old new count = (count ≡ n) × (new ≡ with_token old class at n)
Adds (Bad reason n) at old new count = ⊥

-- why what stands at the head, at this place, added nothing
abbrev pub Stops : Head → ℕ → LexError → Type 0
Stops AtEnd at why = why ≡ error.NoMemory
Stops (Between n) at why = why ≡ error.NoMemory
Stops (Lexeme class n) at why = why ≡ error.NoMemory
Stops (Bad reason n) at why =
    (source : List ℕ) → IsRefused source reason (at + n) → IsWhy source why
