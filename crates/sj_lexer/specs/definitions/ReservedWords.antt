-- The reserved words.
use Rattle.std.specs.Prelude.{ℕ, List, [], ◌∷◌, Option, option_map, codes}
use Rattle.std.specs.List.{find}
use Rattle.std.specs.Str.{bytes_eq}
use Rattle.sj_lexer.specs.declared.token.Word.{Word}
use Rattle.sj_lexer.specs.declared.token.Word.TheVariants as word

pub record Reserved : Type 0 where
  pub text : List ℕ
  pub word : Word

abbrev pub reserved : List Reserved
reserved =
    record { text = codes "system"; word = word.System } ∷
    record { text = codes "interface"; word = word.Interface } ∷
    record { text = codes "input"; word = word.Input } ∷
    record { text = codes "output"; word = word.Output } ∷
    record { text = codes "signal"; word = word.Signal } ∷
    record { text = codes "channel"; word = word.Channel } ∷
    record { text = codes "combine"; word = word.Combine } ∷
    record { text = codes "max"; word = word.Max } ∷
    record { text = codes "min"; word = word.Min } ∷
    record { text = codes "boolean"; word = word.Boolean } ∷
    record { text = codes "byte"; word = word.Byte } ∷
    record { text = codes "short"; word = word.Short } ∷
    record { text = codes "char"; word = word.Char } ∷
    record { text = codes "int"; word = word.Int } ∷
    record { text = codes "long"; word = word.Long } ∷
    record { text = codes "pause"; word = word.Pause } ∷
    record { text = codes "halt"; word = word.Halt } ∷
    record { text = codes "emit"; word = word.Emit } ∷
    record { text = codes "sustain"; word = word.Sustain } ∷
    record { text = codes "if"; word = word.If } ∷
    record { text = codes "else"; word = word.Else } ∷
    record { text = codes "present"; word = word.Present } ∷
    record { text = codes "while"; word = word.While } ∷
    record { text = codes "true"; word = word.True } ∷
    record { text = codes "false"; word = word.False } ∷
    record { text = codes "weak"; word = word.Weak } ∷
    record { text = codes "abort"; word = word.Abort } ∷
    record { text = codes "immediate"; word = word.Immediate } ∷
    record { text = codes "suspend"; word = word.Suspend } ∷
    record { text = codes "trap"; word = word.Trap } ∷
    record { text = codes "exit"; word = word.Exit } ∷
    record { text = codes "send"; word = word.Send } ∷
    record { text = codes "receive"; word = word.Receive } ∷
    record { text = codes "await"; word = word.Await } ∷
    record { text = codes "every"; word = word.Every } ∷
    record { text = codes "loop"; word = word.Loop } ∷
    record { text = codes "each"; word = word.Each } ∷ []

-- the word of these bytes
abbrev pub reserved_word : List ℕ → Option Word
reserved_word w = option_map (λ r. r.word) (find (λ r. bytes_eq w r.text) reserved)
