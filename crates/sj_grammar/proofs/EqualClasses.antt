-- Classes that are the same.
use Rattle.std.proofs.Common.{◌≡◌, ℕ, true, cond, ◌==◌, ap, refl, sym, ◌∙◌}
use Rattle.std.proofs.lemmas.Bool.{eqb-true, eq-eqb}
use Rattle.sj_lexer.specs.declared.token.Class.{Class}
use Rattle.sj_lexer.specs.declared.token.Class.TheVariants.{Reserved, Name, Mark}
use Rattle.sj_lexer.specs.declared.token.Mark as sign
use Rattle.sj_lexer.specs.declared.token.Mark.TheVariants as mark
use Rattle.sj_lexer.specs.declared.token.Word as reserved
use Rattle.sj_lexer.specs.declared.token.Word.TheVariants as word
use Rattle.sj_grammar.specs.definitions.Classes.{mark_number, word_number, same}

abbrev numbered_mark : ℕ → sign.Mark
numbered_mark n = cond (n == 0) mark.OpenBrace (cond (n == 1) mark.CloseBrace (cond (n == 2) mark.OpenParen (cond (n == 3) mark.CloseParen (cond (n == 4) mark.Semicolon (cond (n == 5) mark.Hash (cond (n == 6) mark.Assign (cond (n == 7) mark.Plus (cond (n == 8) mark.Minus (cond (n == 9) mark.Star (cond (n == 10) mark.Slash (cond (n == 11) mark.Percent (cond (n == 12) mark.Ampersand (cond (n == 13) mark.Pipe (cond (n == 14) mark.Caret (cond (n == 15) mark.Tilde (cond (n == 16) mark.Bang (cond (n == 17) mark.Less (cond (n == 18) mark.Greater (cond (n == 19) mark.PlusAssign (cond (n == 20) mark.MinusAssign (cond (n == 21) mark.StarAssign (cond (n == 22) mark.SlashAssign (cond (n == 23) mark.PercentAssign (cond (n == 24) mark.AmpersandAssign (cond (n == 25) mark.PipeAssign (cond (n == 26) mark.CaretAssign (cond (n == 27) mark.ShlAssign (cond (n == 28) mark.ShrAssign (cond (n == 29) mark.UshrAssign (cond (n == 30) mark.Shl (cond (n == 31) mark.Shr (cond (n == 32) mark.Ushr (cond (n == 33) mark.LessEq (cond (n == 34) mark.GreaterEq (cond (n == 35) mark.Equal (cond (n == 36) mark.NotEqual (cond (n == 37) mark.Both (cond (n == 38) mark.Either mark.Beside))))))))))))))))))))))))))))))))))))))

abbrev numbered_word : ℕ → reserved.Word
numbered_word n = cond (n == 0) word.System (cond (n == 1) word.Interface (cond (n == 2) word.Input (cond (n == 3) word.Output (cond (n == 4) word.Signal (cond (n == 5) word.Channel (cond (n == 6) word.Combine (cond (n == 7) word.Max (cond (n == 8) word.Min (cond (n == 9) word.Boolean (cond (n == 10) word.Byte (cond (n == 11) word.Short (cond (n == 12) word.Char (cond (n == 13) word.Int (cond (n == 14) word.Long (cond (n == 15) word.Pause (cond (n == 16) word.Halt (cond (n == 17) word.Emit (cond (n == 18) word.Sustain (cond (n == 19) word.If (cond (n == 20) word.Else (cond (n == 21) word.Present (cond (n == 22) word.While (cond (n == 23) word.True (cond (n == 24) word.False (cond (n == 25) word.Weak (cond (n == 26) word.Abort (cond (n == 27) word.Immediate (cond (n == 28) word.Suspend (cond (n == 29) word.Trap (cond (n == 30) word.Exit (cond (n == 31) word.Send (cond (n == 32) word.Receive (cond (n == 33) word.Await (cond (n == 34) word.Every (cond (n == 35) word.Loop word.Each)))))))))))))))))))))))))))))))))))

mark-numbered : (m : sign.Mark) → numbered_mark (mark_number m) ≡ m
mark-numbered mark.Plus = refl
mark-numbered _ = refl

word-numbered : (w : reserved.Word) → numbered_word (word_number w) ≡ w
word-numbered word.If = refl
word-numbered _ = refl

same-mark : (m n : sign.Mark) → mark_number m ≡ mark_number n → n ≡ m
same-mark m n h = sym (mark-numbered n) ∙ ap numbered_mark (sym h) ∙ mark-numbered m

same-word : (v w : reserved.Word) → word_number v ≡ word_number w → w ≡ v
same-word v w h = sym (word-numbered w) ∙ ap numbered_word (sym h) ∙ word-numbered v

pub same-class : (c d : Class) → same c d ≡ true → d ≡ c
same-class (Mark m) (Mark n) h = ap Mark (same-mark m n (eqb-true (mark_number m) (mark_number n) h))
same-class (Reserved v) (Reserved w) h = ap Reserved (same-word v w (eqb-true (word_number v) (word_number w) h))
same-class Name Name h = refl
same-class _ _ h = absurd (cc)

pub same-itself : (m : sign.Mark) → same (Mark m) (Mark m) ≡ true
same-itself m = eq-eqb (mark_number m) (mark_number m) refl
