-- The tokens of a source, computed.
use Rattle.std.proofs.Common.{◌≡◌, ℕ, zero, suc, Bool, true, false, List, [], ◌∷◌, drop, length, get_or, refl}
use Rattle.sj_lexer.specs.declared.head.Head.{Head}
use Rattle.sj_lexer.specs.declared.head.Head.TheVariants.{AtEnd, Between, Lexeme, Bad}
use Rattle.sj_lexer.specs.declared.token.Class.TheVariants as class
use Rattle.sj_lexer.specs.declared.token.Token.{Token}
use Rattle.sj_lexer.specs.definitions.Heads.{head}
use Rattle.sj_lexer.specs.definitions.Readings.{Piece, Gap, Text, Leads, AreTokens, tokens_from}

-- the pieces of a source, at most so many

abbrev pieces_behind : (List ℕ → List Piece) → List ℕ → Head → List Piece
pieces_behind more bytes (Between k) = Gap k ∷ more (drop k bytes)
pieces_behind more bytes (Lexeme class k) = Text class k ∷ more (drop k bytes)
pieces_behind more bytes _ = []

abbrev pub pieces : ℕ → List ℕ → List Piece
pieces zero bytes = []
pieces (suc n) [] = []
pieces (suc n) (b ∷ bytes) = pieces_behind (λ rest. pieces n rest) (b ∷ bytes) (head (b ∷ bytes))

-- nothing stands behind them

abbrev all_behind : (List ℕ → Bool) → List ℕ → Head → Bool
all_behind more bytes (Between k) = more (drop k bytes)
all_behind more bytes (Lexeme class k) = more (drop k bytes)
all_behind more bytes _ = false

abbrev pub are_all : ℕ → List ℕ → Bool
are_all n [] = true
are_all zero (b ∷ bytes) = false
are_all (suc n) (b ∷ bytes) = all_behind (λ rest. are_all n rest) (b ∷ bytes) (head (b ∷ bytes))

lead_behind : (n : ℕ) (next : (rest : List ℕ) → are_all n rest ≡ true → Leads rest (pieces n rest) []) (bytes : List ℕ) (x : Head) → head bytes ≡ x → all_behind (λ rest. are_all n rest) bytes x ≡ true → Leads bytes (pieces_behind (λ rest. pieces n rest) bytes x) []
lead_behind n next bytes AtEnd e h = cc
lead_behind n next bytes (Between k) e h = (e, next (drop k bytes) h)
lead_behind n next bytes (Lexeme class k) e h = (e, next (drop k bytes) h)
lead_behind n next bytes (Bad reason offset) e h = cc

pub lead : (n : ℕ) (bytes : List ℕ) → are_all n bytes ≡ true → Leads bytes (pieces n bytes) []
lead zero [] h = refl
lead (suc n) [] h = refl
lead zero (b ∷ bytes) h = cc
lead (suc n) (b ∷ bytes) h = lead_behind n (λ rest all. lead n rest all) (b ∷ bytes) (head (b ∷ bytes)) refl h

abbrev pub tokens_of : List ℕ → List Token
tokens_of source = tokens_from 0 (pieces (length source) source)

abbrev pub token_in : List ℕ → ℕ → Token
token_in source n = get_or (tokens_of source) n (record { class = class.Name; start = 0; end = 0 })

-- a source that is whole pieces has their tokens
pub are_tokens : (source : List ℕ) → are_all (length source) source ≡ true → AreTokens source (tokens_of source)
are_tokens source all = record { pieces = pieces (length source) source; leads = lead (length source) source all; are = refl }
