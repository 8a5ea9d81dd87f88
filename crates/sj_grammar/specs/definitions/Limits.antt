-- Runs of tokens that are read within the limits, and where a walk stops.
use Rattle.std.specs.Prelude.{◌≡◌, ℕ, Bool, true, false, List, [], ◌∷◌, ◌++◌, Some, None}
use Rattle.sj_lexer.specs.declared.token.Token.{Token}
use Rattle.sj_grammar.specs.definitions.Machine.{Symbol, next, all_end, steps}
use Rattle.sj_grammar.specs.definitions.Walks.{level_after, operators_after, is_too_deep, Outcome, Ended, Refused, TooDeep}

-- the run is read within the limits, the rest follows it, and the property holds of what is left, of the levels and of
-- the operators
abbrev pub ReadsTo : (List Symbol → ℕ → ℕ → Type 0) → List Symbol → ℕ → ℕ → List Token →
    List Token → Type 0
ReadsTo P k d n [] rest = P k d n
ReadsTo P k d n (t ∷ run) rest =
    (j : List Symbol) × (next k t.class ≡ Some j) ×
    (is_too_deep d n t.class j (run ++ rest) ≡ false)
    × ReadsTo P j (level_after d t.class) (operators_after n t.class j (run ++ rest)) run rest

-- no token of the run is too deep
pub record IsWithin (k : List Symbol) (d n : ℕ) (run rest : List Token) : Type 0 where
  pub reads : ReadsTo (λ j e m. Unit {0}) k d n run rest

-- the token could be read, and is too deep
pub record IsDeep (token : Token) (after : List Token) (k : List Symbol) (d n : ℕ) : Type 0 where
  pub left : List Symbol
  pub next_is : next k token.class ≡ Some left
  pub deep : is_too_deep d n token.class left after ≡ true

-- behind the run, whose tokens aren't, this token is too deep
pub record IsTooDeepBehind (k : List Symbol) (d n : ℕ) (run : List Token) (token : Token)
    (after : List Token) : Type 0 where
  pub reads : ReadsTo (IsDeep token after) k d n run (token ∷ after)

-- no token of the rest can be read
pub record IsBlocked (left : List Symbol) (rest : List Token) : Type 0 where
  pub none : (t : Token) (more : List Token) → rest ≡ t ∷ more → next left t.class ≡ None

-- the run is read, and no token after it can be; `ends` is whether nothing need follow
pub record Halts (k : List Symbol) (d n : ℕ) (tokens : List Token) (ends : Bool) (rest : List Token)
    : Type 0 where
  pub run : List Token
  pub left : List Symbol
  pub is : tokens ≡ run ++ rest
  pub steps_are : steps k run ≡ Some left
  pub within : IsWithin k d n run rest
  pub blocked : IsBlocked left rest
  pub ends_are : all_end left ≡ ends

-- the run and the token after it can be read, and the token is too deep
pub record Sinks (k : List Symbol) (d n : ℕ) (tokens rest : List Token) : Type 0 where
  pub run : List Token
  pub token : Token
  pub after : List Token
  pub left : List Symbol
  pub at : rest ≡ token ∷ after
  pub is : tokens ≡ run ++ rest
  pub steps_are : steps k (run ++ token ∷ []) ≡ Some left
  pub deep : IsTooDeepBehind k d n run token after

abbrev pub Tells : List Symbol → ℕ → ℕ → List Token → Outcome → Type 0
Tells k d n tokens (Ended rest) = Halts k d n tokens true rest
Tells k d n tokens (Refused rest) = Halts k d n tokens false rest
Tells k d n tokens (TooDeep rest) = Sinks k d n tokens rest
