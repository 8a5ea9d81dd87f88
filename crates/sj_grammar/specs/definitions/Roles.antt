-- What tokens may be, by their classes.
use Rattle.std.specs.Prelude.{ℕ, Bool, true, false, ◌||◌, Option, Some, None}
use Rattle.java_values.specs.declared.kind.Kind.{Kind}
use Rattle.java_values.specs.declared.kind.Kind.TheVariants as kind
use Rattle.java_values.specs.declared.op.Op1.{Op1}
use Rattle.java_values.specs.declared.op.Op1.TheVariants as op1
use Rattle.java_values.specs.declared.op.Op2.{Op2}
use Rattle.java_values.specs.declared.op.Op2.TheVariants as op2
use Rattle.sj_lexer.specs.declared.token.Class.{Class}
use Rattle.sj_lexer.specs.declared.token.Class.TheVariants.{Reserved, Name, Literal, IntEdge, LongEdge, Mark}
use Rattle.sj_lexer.specs.declared.token.Mark.TheVariants as mark
use Rattle.sj_lexer.specs.declared.token.Word.TheVariants as word
use Rattle.sj_ast.specs.declared.port.CombineOperator.{CombineOperator}
use Rattle.sj_ast.specs.declared.port.CombineOperator.TheVariants as combine
use Rattle.sj_ast.specs.declared.port.Direction.{Direction}
use Rattle.sj_ast.specs.declared.port.Direction.TheVariants as direction
use Rattle.sj_grammar.specs.declared.role.Join.{Join}
use Rattle.sj_grammar.specs.declared.role.Join.TheVariants as join
use Rattle.sj_grammar.specs.declared.role.Lead.{Lead}
use Rattle.sj_grammar.specs.declared.role.Lead.TheVariants as lead
use Rattle.sj_grammar.specs.declared.role.TestLead.{TestLead}
use Rattle.sj_grammar.specs.declared.role.TestLead.TheVariants as test_lead
use Rattle.sj_grammar.specs.declared.role.Start.{Start}
use Rattle.sj_grammar.specs.declared.role.Start.TheVariants as start
use Rattle.sj_grammar.specs.definitions.Classes.{same}

-- the operator with two operands that a token is
abbrev pub infix_of : Class → Option Op2
infix_of (Mark mark.Either) = Some op2.Either
infix_of (Mark mark.Both) = Some op2.Both
infix_of (Mark mark.Pipe) = Some op2.Or
infix_of (Mark mark.Caret) = Some op2.Xor
infix_of (Mark mark.Ampersand) = Some op2.And
infix_of (Mark mark.Equal) = Some op2.Equal
infix_of (Mark mark.NotEqual) = Some op2.NotEqual
infix_of (Mark mark.Less) = Some op2.Less
infix_of (Mark mark.LessEq) = Some op2.LessEq
infix_of (Mark mark.Greater) = Some op2.Greater
infix_of (Mark mark.GreaterEq) = Some op2.GreaterEq
infix_of (Mark mark.Shl) = Some op2.Shl
infix_of (Mark mark.Shr) = Some op2.Shr
infix_of (Mark mark.Ushr) = Some op2.Ushr
infix_of (Mark mark.Plus) = Some op2.Add
infix_of (Mark mark.Minus) = Some op2.Sub
infix_of (Mark mark.Star) = Some op2.Mul
infix_of (Mark mark.Slash) = Some op2.Div
infix_of (Mark mark.Percent) = Some op2.Rem
infix_of _ = None

-- the operator with one operand that a token is
abbrev pub sign_of : Class → Option Op1
sign_of (Mark mark.Plus) = Some op1.Plus
sign_of (Mark mark.Minus) = Some op1.Minus
sign_of (Mark mark.Tilde) = Some op1.BitNot
sign_of (Mark mark.Bang) = Some op1.Not
sign_of _ = None

-- the kind that a word names
abbrev pub kind_of : Class → Option Kind
kind_of (Reserved word.Boolean) = Some kind.Boolean
kind_of (Reserved word.Byte) = Some kind.Byte
kind_of (Reserved word.Short) = Some kind.Short
kind_of (Reserved word.Char) = Some kind.Char
kind_of (Reserved word.Int) = Some kind.Int
kind_of (Reserved word.Long) = Some kind.Long
kind_of _ = None

-- the operator of an assignment, where it has one
abbrev pub assign_of : Class → Option (Option Op2)
assign_of (Mark mark.Assign) = Some None
assign_of (Mark mark.PlusAssign) = Some (Some op2.Add)
assign_of (Mark mark.MinusAssign) = Some (Some op2.Sub)
assign_of (Mark mark.StarAssign) = Some (Some op2.Mul)
assign_of (Mark mark.SlashAssign) = Some (Some op2.Div)
assign_of (Mark mark.PercentAssign) = Some (Some op2.Rem)
assign_of (Mark mark.AmpersandAssign) = Some (Some op2.And)
assign_of (Mark mark.PipeAssign) = Some (Some op2.Or)
assign_of (Mark mark.CaretAssign) = Some (Some op2.Xor)
assign_of (Mark mark.ShlAssign) = Some (Some op2.Shl)
assign_of (Mark mark.ShrAssign) = Some (Some op2.Shr)
assign_of (Mark mark.UshrAssign) = Some (Some op2.Ushr)
assign_of _ = None

-- how emissions are combined
abbrev pub combine_of : Class → Option CombineOperator
combine_of (Mark mark.Plus) = Some combine.Add
combine_of (Reserved word.Max) = Some combine.Max
combine_of (Reserved word.Min) = Some combine.Min
combine_of (Mark mark.Ampersand) = Some combine.And
combine_of (Mark mark.Pipe) = Some combine.Or
combine_of (Mark mark.Caret) = Some combine.Xor
combine_of _ = None

-- the direction of a signal of the interface
abbrev pub direction_of : Class → Option Direction
direction_of (Reserved word.Input) = Some direction.Input
direction_of (Reserved word.Output) = Some direction.Output
direction_of _ = None

-- the operator of a test that a token is
abbrev pub join_of : Class → Option Join
join_of (Mark mark.Either) = Some join.Either
join_of (Mark mark.Both) = Some join.Both
join_of _ = None

-- what a token begins where an operand is expected
abbrev pub lead_of : Class → Lead
lead_of Name = lead.Atom
lead_of (Literal v) = lead.Atom
lead_of (Reserved word.True) = lead.Atom
lead_of (Reserved word.False) = lead.Atom
lead_of (Mark mark.Hash) = lead.Hash
lead_of (Mark mark.Plus) = lead.Prefix op1.Plus
lead_of (Mark mark.Tilde) = lead.Prefix op1.BitNot
lead_of (Mark mark.Bang) = lead.Prefix op1.Not
lead_of (Mark mark.Minus) = lead.Minus
lead_of (Mark mark.OpenParen) = lead.Open
lead_of _ = lead.Nothing

-- what a token begins where a part of a test is expected
abbrev pub test_lead_of : Class → TestLead
test_lead_of Name = test_lead.Signal
test_lead_of (Mark mark.Bang) = test_lead.Not
test_lead_of (Mark mark.OpenParen) = test_lead.Open
test_lead_of _ = test_lead.Nothing

-- the statement that a token begins
abbrev pub start_of : Class → Start
start_of (Mark mark.Semicolon) = start.Empty
start_of (Mark mark.OpenBrace) = start.Braces
start_of (Reserved word.Pause) = start.Still
start_of (Reserved word.Halt) = start.Still
start_of (Reserved word.Emit) = start.Emit
start_of (Reserved word.Sustain) = start.Emit
start_of (Reserved word.Signal) = start.Signal
start_of (Reserved word.Boolean) = start.Kind kind.Boolean
start_of (Reserved word.Byte) = start.Kind kind.Byte
start_of (Reserved word.Short) = start.Kind kind.Short
start_of (Reserved word.Char) = start.Kind kind.Char
start_of (Reserved word.Int) = start.Kind kind.Int
start_of (Reserved word.Long) = start.Kind kind.Long
start_of Name = start.Name
start_of (Reserved word.If) = start.If
start_of (Reserved word.Present) = start.Present
start_of (Reserved word.While) = start.While
start_of (Reserved word.Weak) = start.Weak
start_of (Reserved word.Abort) = start.Guarded
start_of (Reserved word.Suspend) = start.Guarded
start_of (Reserved word.Every) = start.Guarded
start_of (Reserved word.Trap) = start.Trap
start_of (Reserved word.Exit) = start.Exit
start_of (Reserved word.Send) = start.Send
start_of (Reserved word.Receive) = start.Receive
start_of (Reserved word.Await) = start.Await
start_of (Reserved word.Loop) = start.Loop
start_of _ = start.Nothing

-- a number, a character, `true`, `false` or a name
abbrev pub is_atom : Class → Bool
is_atom Name = true
is_atom (Literal v) = true
is_atom (Reserved word.True) = true
is_atom (Reserved word.False) = true
is_atom _ = false

-- a number that is one only behind a minus
abbrev pub is_edge : Class → Bool
is_edge IntEdge = true
is_edge LongEdge = true
is_edge _ = false

-- `pause` or `halt`
abbrev pub is_still : Class → Bool
is_still (Reserved word.Pause) = true
is_still (Reserved word.Halt) = true
is_still _ = false

-- `emit` or `sustain`
abbrev pub is_emission : Class → Bool
is_emission (Reserved word.Emit) = true
is_emission (Reserved word.Sustain) = true
is_emission _ = false

-- `abort`, `suspend` or `every`
abbrev pub is_guarded : Class → Bool
is_guarded (Reserved word.Abort) = true
is_guarded (Reserved word.Suspend) = true
is_guarded (Reserved word.Every) = true
is_guarded _ = false

abbrev pub level_of : Op2 → ℕ
level_of op2.Either = 1
level_of op2.Both = 2
level_of op2.Or = 3
level_of op2.Xor = 4
level_of op2.And = 5
level_of op2.Equal = 6
level_of op2.NotEqual = 6
level_of op2.Less = 7
level_of op2.LessEq = 7
level_of op2.Greater = 7
level_of op2.GreaterEq = 7
level_of op2.Shl = 8
level_of op2.Shr = 8
level_of op2.Ushr = 8
level_of op2.Add = 9
level_of op2.Sub = 9
level_of op2.Mul = 10
level_of op2.Div = 10
level_of op2.Rem = 10

abbrev pub join_level : Join → ℕ
join_level join.Either = 1
join_level join.Both = 2

abbrev pub has : {A : Type 0} → Option A → Bool
has None = false
has (Some x) = true

-- `(` or `{`
abbrev pub is_opening : Class → Bool
is_opening c = same (Mark mark.OpenParen) c || same (Mark mark.OpenBrace) c

-- `)` or `}`
abbrev pub is_closing : Class → Bool
is_closing c = same (Mark mark.CloseParen) c || same (Mark mark.CloseBrace) c

-- an expression or a test may have it
abbrev pub is_inside : Class → Bool
is_inside c =
    is_atom c || (is_edge c || (has (sign_of c) || (has (infix_of c) || (has (kind_of c)
    || (same (Mark mark.Hash) c ||
    (same (Mark mark.OpenParen) c || same (Mark mark.CloseParen) c))))))
