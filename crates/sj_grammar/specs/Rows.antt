-- Small sentences, and what is none, by the classes of their tokens.
use Rattle.std.specs.Prelude.{pos, List, [], ◌∷◌, map, ◌++◌}
use Rattle.java_values.specs.declared.kind.Kind.TheVariants as kind
use Rattle.sj_lexer.specs.declared.token.Class.{Class}
use Rattle.sj_lexer.specs.declared.token.Class.TheVariants.{Reserved, Name, Literal, IntEdge, LongEdge, Mark}
use Rattle.sj_lexer.specs.declared.token.Mark.TheVariants as mark
use Rattle.sj_lexer.specs.declared.token.Word.TheVariants as word
use Rattle.sj_lexer.specs.declared.token.Token.{Token}

abbrev pub tokens_of : List Class → List Token
tokens_of classes = map (λ c. record { class = c; start = 0; end = 0 }) classes

abbrev pub one : Class
one = Literal (record { kind = kind.Int; number = pos 1 })

abbrev pub least_int : List Token
least_int = tokens_of (Mark mark.Minus ∷ IntEdge ∷ [])

-- `1 -` and a number that is one only behind a sign
abbrev pub edge_behind_operator : List Token
edge_behind_operator = tokens_of (one ∷ Mark mark.Minus ∷ IntEdge ∷ [])

-- `1 - -` and such a number
abbrev pub edge_behind_sign : List Token
edge_behind_sign = tokens_of (one ∷ Mark mark.Minus ∷ Mark mark.Minus ∷ LongEdge ∷ [])

-- `(int) -A * #B`
abbrev pub cast_of_product : List Token
cast_of_product =
    tokens_of (Mark mark.OpenParen ∷ Reserved word.Int ∷ Mark mark.CloseParen ∷ Mark mark.Minus ∷
    Name ∷ Mark mark.Star ∷ Mark mark.Hash ∷ Name ∷ [])

-- `(int` and a name
abbrev pub kind_and_name : List Token
kind_and_name = tokens_of (Mark mark.OpenParen ∷ Reserved word.Int ∷ Name ∷ [])

-- `1 +`
abbrev pub half_sum : List Token
half_sum = tokens_of (one ∷ Mark mark.Plus ∷ [])

-- `!A && (B || C)`
abbrev pub three_signals : List Token
three_signals =
    tokens_of (Mark mark.Bang ∷ Name ∷ Mark mark.Both ∷ Mark mark.OpenParen ∷ Name ∷
    Mark mark.Either ∷ Name ∷ Mark mark.CloseParen ∷ [])

-- a program of this interface and these domains
abbrev pub program_of : List Class → List Class → List Token
program_of ports domains =
    tokens_of (Reserved word.System ∷ Mark mark.OpenBrace ∷ Reserved word.Interface ∷
    Mark mark.OpenBrace ∷
    (ports ++ Mark mark.CloseBrace ∷ (domains ++ Mark mark.CloseBrace ∷ [])))

abbrev pub ports : List Class
ports =
    Reserved word.Input ∷ Reserved word.Signal ∷ Name ∷ Mark mark.Semicolon
    ∷ Reserved word.Output ∷ Reserved word.Int ∷ Reserved word.Signal ∷ Name ∷
    Reserved word.Combine ∷ Reserved word.Max ∷ Mark mark.Semicolon
    ∷ Reserved word.Int ∷ Reserved word.Channel ∷ Name ∷ Mark mark.Semicolon ∷ []

abbrev pub empty_block : List Class
empty_block = Mark mark.OpenBrace ∷ Mark mark.CloseBrace ∷ []

abbrev pub two_domains : List Class
two_domains = empty_block ++ Mark mark.Beside ∷ empty_block

-- `{ weak abort (immediate A) {} || {} }`, where no block stands before `||`
abbrev pub abort_beside : List Class
abort_beside =
    Mark mark.OpenBrace ∷ Reserved word.Weak ∷ Reserved word.Abort ∷ Mark mark.OpenParen ∷
    Reserved word.Immediate ∷ Name ∷ Mark mark.CloseParen
    ∷ (empty_block ++ Mark mark.Either ∷ (empty_block ++ Mark mark.CloseBrace ∷ []))

-- `{ {} || {} int x = 1; int signal A; x += 1; loop {} each (A); if (true) {} else {} }`
abbrev pub statements : List Class
statements =
    Mark mark.OpenBrace ∷ (empty_block ++ Mark mark.Either ∷ (empty_block
    ++ Reserved word.Int ∷ Name ∷ Mark mark.Assign ∷ one ∷ Mark mark.Semicolon ∷ Reserved word.Int ∷
    Reserved word.Signal ∷ Name ∷ Mark mark.Semicolon
    ∷ Name ∷ Mark mark.PlusAssign ∷ one ∷ Mark mark.Semicolon
    ∷ Reserved word.Loop ∷
    (empty_block ++
    Reserved word.Each ∷ Mark mark.OpenParen ∷ Name ∷ Mark mark.CloseParen ∷ Mark mark.Semicolon
    ∷ Reserved word.If ∷ Mark mark.OpenParen ∷ Reserved word.True ∷ Mark mark.CloseParen ∷
    (empty_block ++ Reserved word.Else ∷ (empty_block ++ Mark mark.CloseBrace ∷ [])))))
