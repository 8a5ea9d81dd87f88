-- Classes of tokens, compared.
use Rattle.std.specs.Prelude.{ℕ, Bool, true, false, ◌==◌}
use Rattle.sj_lexer.specs.declared.token.Class.{Class}
use Rattle.sj_lexer.specs.declared.token.Class.TheVariants.{Reserved, Name, Mark}
use Rattle.sj_lexer.specs.declared.token.Mark as sign
use Rattle.sj_lexer.specs.declared.token.Mark.TheVariants as mark
use Rattle.sj_lexer.specs.declared.token.Word as reserved
use Rattle.sj_lexer.specs.declared.token.Word.TheVariants as word

-- a number for each sign, and for each reserved word
abbrev pub mark_number : sign.Mark → ℕ
mark_number mark.OpenBrace = 0
mark_number mark.CloseBrace = 1
mark_number mark.OpenParen = 2
mark_number mark.CloseParen = 3
mark_number mark.Semicolon = 4
mark_number mark.Hash = 5
mark_number mark.Assign = 6
mark_number mark.Plus = 7
mark_number mark.Minus = 8
mark_number mark.Star = 9
mark_number mark.Slash = 10
mark_number mark.Percent = 11
mark_number mark.Ampersand = 12
mark_number mark.Pipe = 13
mark_number mark.Caret = 14
mark_number mark.Tilde = 15
mark_number mark.Bang = 16
mark_number mark.Less = 17
mark_number mark.Greater = 18
mark_number mark.PlusAssign = 19
mark_number mark.MinusAssign = 20
mark_number mark.StarAssign = 21
mark_number mark.SlashAssign = 22
mark_number mark.PercentAssign = 23
mark_number mark.AmpersandAssign = 24
mark_number mark.PipeAssign = 25
mark_number mark.CaretAssign = 26
mark_number mark.ShlAssign = 27
mark_number mark.ShrAssign = 28
mark_number mark.UshrAssign = 29
mark_number mark.Shl = 30
mark_number mark.Shr = 31
mark_number mark.Ushr = 32
mark_number mark.LessEq = 33
mark_number mark.GreaterEq = 34
mark_number mark.Equal = 35
mark_number mark.NotEqual = 36
mark_number mark.Both = 37
mark_number mark.Either = 38
mark_number mark.Beside = 39

abbrev pub word_number : reserved.Word → ℕ
word_number word.System = 0
word_number word.Interface = 1
word_number word.Input = 2
word_number word.Output = 3
word_number word.Signal = 4
word_number word.Channel = 5
word_number word.Combine = 6
word_number word.Max = 7
word_number word.Min = 8
word_number word.Boolean = 9
word_number word.Byte = 10
word_number word.Short = 11
word_number word.Char = 12
word_number word.Int = 13
word_number word.Long = 14
word_number word.Pause = 15
word_number word.Halt = 16
word_number word.Emit = 17
word_number word.Sustain = 18
word_number word.If = 19
word_number word.Else = 20
word_number word.Present = 21
word_number word.While = 22
word_number word.True = 23
word_number word.False = 24
word_number word.Weak = 25
word_number word.Abort = 26
word_number word.Immediate = 27
word_number word.Suspend = 28
word_number word.Trap = 29
word_number word.Exit = 30
word_number word.Send = 31
word_number word.Receive = 32
word_number word.Await = 33
word_number word.Every = 34
word_number word.Loop = 35
word_number word.Each = 36

-- the second class is the first one, which is no literal
abbrev pub same : Class → Class → Bool
same (Mark m) (Mark n) = mark_number m == mark_number n
same (Reserved v) (Reserved w) = word_number v == word_number w
same Name Name = true
same _ _ = false
