-- What may stand next, token by token.
use Rattle.std.specs.Prelude.{Bool, true, false, ◌&&◌, cond, List, [], ◌∷◌, Option, Some, None}
use Rattle.sj_lexer.specs.declared.token.Class.{Class}
use Rattle.sj_lexer.specs.declared.token.Class.TheVariants.{Reserved, Name, Mark}
use Rattle.sj_lexer.specs.declared.token.Mark as sign
use Rattle.sj_lexer.specs.declared.token.Mark.TheVariants as mark
use Rattle.sj_lexer.specs.declared.token.Word.TheVariants as word
use Rattle.sj_lexer.specs.declared.token.Token.{Token}
use Rattle.sj_grammar.specs.declared.role.Lead.{Lead}
use Rattle.sj_grammar.specs.declared.role.Lead.TheVariants as lead
use Rattle.sj_grammar.specs.declared.role.TestLead.{TestLead}
use Rattle.sj_grammar.specs.declared.role.TestLead.TheVariants as test_lead
use Rattle.sj_grammar.specs.declared.role.Start.{Start}
use Rattle.sj_grammar.specs.declared.role.Start.TheVariants as start
use Rattle.sj_grammar.specs.definitions.Classes.{same}
use Rattle.sj_grammar.specs.definitions.Roles.{lead_of, test_lead_of, start_of, is_edge, infix_of, kind_of, join_of, assign_of, combine_of, direction_of, has}

-- What is still to be read: one token of a class; an operand; what may follow a `-` or a `(` that begins an operand, to
-- the operand's end; further operators with their operands; the same of tests; [ `immediate` ]; a block; statements;
-- further blocks, each after a sign; [ `else` block ]; [ `(` expression `)` ]; the sign of an assignment; what follows a
-- kind that begins a statement; [ `combine` operator ]; such an operator; ports; a signal's declaration.
pub data Symbol : Type 0 where
  T : (class : Class) → Symbol
  Operand : Symbol
  AfterMinus : Symbol
  AfterOpen : Symbol
  More : Symbol
  TestOperand : Symbol
  MoreTest : Symbol
  ImmediatePart : Symbol
  InBraces : Symbol
  Statements : Symbol
  OthersPart : (sign : sign.Mark) → Symbol
  ElsePart : Symbol
  ValuePart : Symbol
  AssignSign : Symbol
  AfterKind : Symbol
  CombinePart : Symbol
  CombineSign : Symbol
  PortList : Symbol
  SignalPart : Symbol

abbrev pub lead_step : Lead → List Symbol → Option (List Symbol)
lead_step lead.Atom k = Some k
lead_step lead.Hash k = Some (T Name ∷ k)
lead_step (lead.Prefix op) k = Some (Operand ∷ k)
lead_step lead.Minus k = Some (AfterMinus ∷ k)
lead_step lead.Open k = Some (AfterOpen ∷ k)
lead_step lead.Nothing k = None

abbrev pub test_step : TestLead → List Symbol → Option (List Symbol)
test_step test_lead.Signal k = Some k
test_step test_lead.Not k = Some (TestOperand ∷ k)
test_step test_lead.Open k = Some (TestOperand ∷ MoreTest ∷ T (Mark mark.CloseParen) ∷ k)
test_step test_lead.Nothing k = None

-- `(` [ `immediate` ] test `)`
abbrev pub guard_then : List Symbol → List Symbol
guard_then k =
    T (Mark mark.OpenParen) ∷ ImmediatePart ∷ TestOperand ∷ MoreTest ∷ T (Mark mark.CloseParen) ∷ k

-- after the first token of a statement
abbrev pub start_step : Start → List Symbol → Option (List Symbol)
start_step start.Empty k = Some k
start_step start.Braces k =
    Some (Statements ∷ T (Mark mark.CloseBrace) ∷ OthersPart mark.Either ∷ k)
start_step start.Still k = Some (T (Mark mark.Semicolon) ∷ k)
start_step start.Emit k = Some (T Name ∷ ValuePart ∷ T (Mark mark.Semicolon) ∷ k)
start_step start.Signal k = Some (T Name ∷ T (Mark mark.Semicolon) ∷ k)
start_step (start.Kind kind) k = Some (AfterKind ∷ k)
start_step start.Name k = Some (AssignSign ∷ Operand ∷ More ∷ T (Mark mark.Semicolon) ∷ k)
start_step start.If k =
    Some (T (Mark mark.OpenParen) ∷ Operand ∷ More ∷ T (Mark mark.CloseParen) ∷ InBraces ∷
    ElsePart ∷ k)
start_step start.Present k =
    Some (T (Mark mark.OpenParen) ∷ TestOperand ∷ MoreTest ∷ T (Mark mark.CloseParen) ∷ InBraces ∷
    ElsePart ∷ k)
start_step start.While k =
    Some (T (Mark mark.OpenParen) ∷ T (Reserved word.True) ∷ T (Mark mark.CloseParen) ∷
    InBraces ∷ k)
start_step start.Weak k = Some (T (Reserved word.Abort) ∷ guard_then (InBraces ∷ k))
start_step start.Guarded k = Some (guard_then (InBraces ∷ k))
start_step start.Trap k =
    Some (T (Mark mark.OpenParen) ∷ T Name ∷ T (Mark mark.CloseParen) ∷ InBraces ∷ k)
start_step start.Exit k =
    Some (T (Mark mark.OpenParen) ∷ T Name ∷ T (Mark mark.CloseParen) ∷ T (Mark mark.Semicolon) ∷ k)
start_step start.Send k =
    Some (T Name ∷ T (Mark mark.OpenParen) ∷ Operand ∷ More ∷ T (Mark mark.CloseParen) ∷
    T (Mark mark.Semicolon) ∷ k)
start_step start.Receive k = Some (T Name ∷ T (Mark mark.Semicolon) ∷ k)
start_step start.Await k = Some (guard_then (T (Mark mark.Semicolon) ∷ k))
start_step start.Loop k =
    Some (InBraces ∷ T (Reserved word.Each) ∷ T (Mark mark.OpenParen) ∷ TestOperand ∷ MoreTest ∷
    T (Mark mark.CloseParen) ∷ T (Mark mark.Semicolon) ∷ k)
start_step start.Nothing k = None

-- what is still to be read after a token of the class, where the symbol may begin with it
abbrev pub expand : Symbol → Class → List Symbol → Option (List Symbol)
expand (T d) c k = cond (same d c) (Some k) None
expand Operand c k = lead_step (lead_of c) k
expand AfterMinus c k = cond (is_edge c) (Some k) (lead_step (lead_of c) k)
expand AfterOpen c k =
    cond (has (kind_of c)) (Some (T (Mark mark.CloseParen) ∷ Operand ∷
    k)) (lead_step (lead_of c) (More ∷ T (Mark mark.CloseParen) ∷ k))
expand More c k = cond (has (infix_of c)) (Some (Operand ∷ More ∷ k)) None
expand TestOperand c k = test_step (test_lead_of c) k
expand MoreTest c k = cond (has (join_of c)) (Some (TestOperand ∷ MoreTest ∷ k)) None
expand ImmediatePart c k = cond (same (Reserved word.Immediate) c) (Some k) None
expand InBraces c k =
    cond (same (Mark mark.OpenBrace) c) (Some (Statements ∷ T (Mark mark.CloseBrace) ∷ k)) None
expand Statements c k = start_step (start_of c) (Statements ∷ k)
expand (OthersPart m) c k = cond (same (Mark m) c) (Some (InBraces ∷ OthersPart m ∷ k)) None
expand ElsePart c k = cond (same (Reserved word.Else) c) (Some (InBraces ∷ k)) None
expand ValuePart c k =
    cond (same (Mark mark.OpenParen) c) (Some (Operand ∷ More ∷ T (Mark mark.CloseParen) ∷ k)) None
expand AssignSign c k = cond (has (assign_of c)) (Some k) None
expand AfterKind c k =
    cond (same (Reserved word.Signal) c) (Some (T Name ∷ CombinePart ∷ T (Mark mark.Semicolon) ∷ k))
    (cond (same Name c) (Some (T (Mark mark.Assign) ∷ Operand ∷ More ∷ T (Mark mark.Semicolon) ∷
    k)) None)
expand CombinePart c k = cond (same (Reserved word.Combine) c) (Some (CombineSign ∷ k)) None
expand CombineSign c k = cond (has (combine_of c)) (Some k) None
expand PortList c k =
    cond (has (direction_of c)) (Some (SignalPart ∷ PortList ∷ k))
    (cond (has (kind_of c)) (Some (T (Reserved word.Channel) ∷ T Name ∷ T (Mark mark.Semicolon) ∷
    PortList ∷ k)) None)
expand SignalPart c k =
    cond (same (Reserved word.Signal) c) (Some (T Name ∷ T (Mark mark.Semicolon) ∷ k))
    (cond (has (kind_of c)) (Some (T (Reserved word.Signal) ∷ T Name ∷ CombinePart ∷
    T (Mark mark.Semicolon) ∷ k)) None)

-- the symbol may stand for no token
abbrev pub may_end : Symbol → Bool
may_end More = true
may_end MoreTest = true
may_end ImmediatePart = true
may_end Statements = true
may_end (OthersPart m) = true
may_end ElsePart = true
may_end ValuePart = true
may_end CombinePart = true
may_end PortList = true
may_end _ = false

abbrev pub or_else : Option (List Symbol) → Option (List Symbol) → Option (List Symbol)
or_else None o = o
or_else (Some k) o = Some k

abbrev pub next : List Symbol → Class → Option (List Symbol)
next [] c = None
next (s ∷ k) c = or_else (expand s c k) (cond (may_end s) (next k c) None)

abbrev pub all_end : List Symbol → Bool
all_end [] = true
all_end (s ∷ k) = may_end s && all_end k

-- the symbols left after these tokens
abbrev pub steps : List Symbol → List Token → Option (List Symbol)
steps k [] = Some k
steps k (t ∷ ts) = elim (next k t.class) [ None ↦ None | Some j ↦ steps j ts ]

-- the symbols of an expression, of a test and of a program
abbrev pub expression : List Symbol
expression = Operand ∷ More ∷ []

abbrev pub test : List Symbol
test = TestOperand ∷ MoreTest ∷ []

abbrev pub program : List Symbol
program =
    T (Reserved word.System) ∷ T (Mark mark.OpenBrace) ∷ T (Reserved word.Interface) ∷
    T (Mark mark.OpenBrace) ∷ PortList ∷ T (Mark mark.CloseBrace)
    ∷ InBraces ∷ OthersPart mark.Beside ∷ T (Mark mark.CloseBrace) ∷ []

-- the tokens can be read
abbrev pub can_read : List Symbol → List Token → Bool
can_read k ts = has (steps k ts)

abbrev pub may_stop : Option (List Symbol) → Bool
may_stop None = false
may_stop (Some k) = all_end k

-- the tokens can be read, and nothing need follow
abbrev pub reads : List Symbol → List Token → Bool
reads k ts = may_stop (steps k ts)
