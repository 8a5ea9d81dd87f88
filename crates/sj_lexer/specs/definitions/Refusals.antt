-- Why a source has no tokens.
use Rattle.std.specs.Prelude.{ℕ, List}
use Rattle.sj_lexer.specs.declared.head.Fault.TheVariants as fault
use Rattle.sj_lexer.specs.declared.lexer.LexError.{LexError}
use Rattle.sj_lexer.specs.declared.lexer.LexError.TheVariants as error
use Rattle.sj_lexer.specs.definitions.Readings.{IsRefused}

-- want of memory may come at any place
abbrev pub IsWhy : List ℕ → LexError → Type 0
IsWhy source (error.BadByte at) = IsRefused source fault.BadByte at
IsWhy source (error.BadNumber at) = IsRefused source fault.BadNumber at
IsWhy source (error.OpenComment at) = IsRefused source fault.OpenComment at
IsWhy source error.NoMemory = Unit {0}
