-- Small sources and their trees, and trees that they aren't.
use Rattle.std.specs.Prelude.{ℕ, true, false, pos, negsuc, List, [], ◌∷◌, Option, Some, None, codes}
use Rattle.java_values.specs.Kinds.{TypedNumber}
use Rattle.java_values.specs.declared.kind.Kind.{Kind}
use Rattle.java_values.specs.declared.kind.Kind.TheVariants as kind
use Rattle.java_values.specs.declared.op.Op1.TheVariants as op1
use Rattle.java_values.specs.declared.op.Op2.TheVariants as op2
use Rattle.sj_ast.specs.declared.name.Name.{Name}
use Rattle.sj_ast.specs.declared.expression.Raw as raw
use Rattle.sj_ast.specs.declared.test.Test as signal_test
use Rattle.sj_ast.specs.declared.port.CombineOperator.TheVariants as combine
use Rattle.sj_ast.specs.declared.port.Combination.{Combination}
use Rattle.sj_ast.specs.declared.port.Direction.{Direction}
use Rattle.sj_ast.specs.declared.port.Direction.TheVariants as direction
use Rattle.sj_ast.specs.declared.port.Signal.{Signal}
use Rattle.sj_ast.specs.declared.port.Port as port
use Rattle.sj_ast.specs.declared.port.Port.TheVariants as port_is
use Rattle.sj_ast.specs.declared.statement.Form as form
use Rattle.sj_ast.specs.declared.statement.Stmt as stmt
use Rattle.sj_ast.specs.declared.statement.Block as block
use Rattle.sj_grammar.specs.definitions.Trees.{SourceForm, SourceStmt, SourceBlock}
use Rattle.sj_grammar.specs.definitions.SourceTrees.{SourceTree}

-- sources, each with a tree
abbrev pub Rows : Type 0 → Type 0
Rows T = List (List ℕ × T)

abbrev pub Each : {T : Type 0} → (List ℕ → T → Type 0) → Rows T → Type 0
Each Is [] = Unit {0}
Each Is (row ∷ rows) = Is row.0 row.1 × Each Is rows

-- parts of trees, each at its place

abbrev pub name_at : ℕ → List ℕ → Name
name_at at text = record { text = text; at = at }

abbrev pub literal_at : ℕ → Kind → ℕ → raw.Raw Name
literal_at at k n = raw.Literal at (record { kind = k; number = pos n })

abbrev pub least_int : TypedNumber
least_int = record { kind = kind.Int; number = negsuc 2147483647 }

abbrev pub least_long : TypedNumber
least_long = record { kind = kind.Long; number = negsuc 9223372036854775807 }

abbrev pub variable_at : ℕ → List ℕ → raw.Raw Name
variable_at at text = raw.Variable at (name_at at text)

abbrev pub signal_at : ℕ → List ℕ → signal_test.Test Name
signal_at at text = signal_test.Signal at (name_at at text)

abbrev pub stmt_at : ℕ → SourceForm → SourceStmt
stmt_at at f = stmt.roll-Stmt Name (raw.Raw Name) (record { at = at; form = f })

abbrev pub block_from : ℕ → List SourceStmt → SourceBlock
block_from at ss = block.roll-Block Name (raw.Raw Name) (record { at = at; statements = ss })

abbrev pub pure_at : ℕ → List ℕ → Signal Name
pure_at at text = record { at = at; name = name_at at text; valued = None }

abbrev pub valued_at : ℕ → List ℕ → Kind → Option Combination → Signal Name
valued_at at text k c =
    record { at = at; name = name_at at text; valued = Some (record { kind = k; combine = c }) }

abbrev pub signal_port : Direction → Signal Name → port.Port Name
signal_port d s = port_is.Signal (record { direction = d; signal = s })

abbrev pub channel_port : Kind → ℕ → List ℕ → port.Port Name
channel_port k at text = port_is.Channel (record { kind = k; at = at; name = name_at at text })

-- what stands as an operand
abbrev pub operands : Rows (raw.Raw Name)
operands =
    (codes "5", literal_at 0 kind.Int 5) ∷
    (codes "'a'", literal_at 0 kind.Char 97) ∷
    (codes "7L", literal_at 0 kind.Long 7) ∷
    (codes "true", literal_at 0 kind.Boolean 1) ∷
    (codes "false", literal_at 0 kind.Boolean 0) ∷
    (codes "ab", variable_at 0 (codes "ab")) ∷
    (codes "-2147483648", raw.Least 0 least_int) ∷
    (codes "-9223372036854775808L", raw.Least 0 least_long) ∷
    (codes "#A", raw.Status 0 1 (name_at 1 (codes "A"))) ∷
    (codes "-a", raw.Unary 0 op1.Minus (variable_at 1 (codes "a"))) ∷
    (codes "+a", raw.Unary 0 op1.Plus (variable_at 1 (codes "a"))) ∷
    (codes "~a", raw.Unary 0 op1.BitNot (variable_at 1 (codes "a"))) ∷
    (codes "!a", raw.Unary 0 op1.Not (variable_at 1 (codes "a"))) ∷
    (codes "(int)a", raw.Cast 0 kind.Int (variable_at 5 (codes "a"))) ∷
    (codes "(a)", raw.Group 0 (variable_at 1 (codes "a"))) ∷ []

-- which operator binds closer, and that those of one level group to the left
abbrev pub groupings : Rows (raw.Raw Name)
groupings = (
  codes "a||b&&c|d^e&f==g<h<<i+j*k",
  raw.Binary 1 op2.Either (variable_at 0 (codes "a"))
      (raw.Binary 4 op2.Both (variable_at 3 (codes "b"))
      (raw.Binary 7 op2.Or (variable_at 6 (codes "c"))
      (raw.Binary 9 op2.Xor (variable_at 8 (codes "d"))
      (raw.Binary 11 op2.And (variable_at 10 (codes "e"))
      (raw.Binary 13 op2.Equal (variable_at 12 (codes "f"))
      (raw.Binary 16 op2.Less (variable_at 15 (codes "g"))
      (raw.Binary 18 op2.Shl (variable_at 17 (codes "h"))
      (raw.Binary 21 op2.Add (variable_at 20 (codes "i"))
      (raw.Binary 23 op2.Mul (variable_at 22 (codes "j")) (variable_at 24 (codes "k"))))))))))),
) ∷ (
  codes "a*b+c<<d<e==f&g^h|i&&j||k",
  raw.Binary 22 op2.Either
      (raw.Binary 19 op2.Both
      (raw.Binary 17 op2.Or
      (raw.Binary 15 op2.Xor
      (raw.Binary 13 op2.And
      (raw.Binary 10 op2.Equal
      (raw.Binary 8 op2.Less
      (raw.Binary 5 op2.Shl
      (raw.Binary 3 op2.Add
      (raw.Binary 1 op2.Mul (variable_at 0 (codes "a")) (variable_at 2 (codes "b")))
      (variable_at 4 (codes "c"))) (variable_at 7 (codes "d"))) (variable_at 9 (codes "e")))
      (variable_at 12 (codes "f"))) (variable_at 14 (codes "g"))) (variable_at 16 (codes "h")))
      (variable_at 18 (codes "i"))) (variable_at 21 (codes "j"))) (variable_at 24 (codes "k")),
) ∷ (
  codes "a-b-c",
  raw.Binary 3 op2.Sub (raw.Binary 1 op2.Sub (variable_at 0 (codes "a"))
      (variable_at 2 (codes "b"))) (variable_at 4 (codes "c")),
) ∷ (
  codes "a+b*c",
  raw.Binary 1 op2.Add (variable_at 0 (codes "a"))
      (raw.Binary 3 op2.Mul (variable_at 2 (codes "b")) (variable_at 4 (codes "c"))),
) ∷ (
  codes "(a+b)*c",
  raw.Binary 5 op2.Mul (raw.Group 0
      (raw.Binary 2 op2.Add (variable_at 1 (codes "a")) (variable_at 3 (codes "b"))))
      (variable_at 6 (codes "c")),
) ∷ (
  codes "a+b-c",
  raw.Binary 3 op2.Sub (raw.Binary 1 op2.Add (variable_at 0 (codes "a"))
      (variable_at 2 (codes "b"))) (variable_at 4 (codes "c")),
) ∷ (
  codes "a*b/c%d",
  raw.Binary 5 op2.Rem (raw.Binary 3 op2.Div
      (raw.Binary 1 op2.Mul (variable_at 0 (codes "a")) (variable_at 2 (codes "b")))
      (variable_at 4 (codes "c"))) (variable_at 6 (codes "d")),
) ∷ (
  codes "a<<b>>c>>>d",
  raw.Binary 7 op2.Ushr
      (raw.Binary 4 op2.Shr
      (raw.Binary 1 op2.Shl (variable_at 0 (codes "a")) (variable_at 3 (codes "b")))
      (variable_at 6 (codes "c"))) (variable_at 10 (codes "d")),
) ∷ (
  codes "a<b<=c>d>=e",
  raw.Binary 8 op2.GreaterEq
      (raw.Binary 6 op2.Greater
      (raw.Binary 3 op2.LessEq
      (raw.Binary 1 op2.Less (variable_at 0 (codes "a")) (variable_at 2 (codes "b")))
      (variable_at 5 (codes "c"))) (variable_at 7 (codes "d"))) (variable_at 10 (codes "e")),
) ∷ (
  codes "a==b!=c",
  raw.Binary 4 op2.NotEqual
      (raw.Binary 1 op2.Equal (variable_at 0 (codes "a")) (variable_at 3 (codes "b")))
      (variable_at 6 (codes "c")),
) ∷ (
  codes "-a+b",
  raw.Binary 2 op2.Add (raw.Unary 0 op1.Minus (variable_at 1 (codes "a")))
      (variable_at 3 (codes "b")),
) ∷ (
  codes "(byte)a+b",
  raw.Binary 7 op2.Add (raw.Cast 0 kind.Byte (variable_at 6 (codes "a")))
      (variable_at 8 (codes "b")),
) ∷
    (codes "--a", raw.Unary 0 op1.Minus (raw.Unary 1 op1.Minus (variable_at 2 (codes "a")))) ∷ []

-- tests
abbrev pub tests : Rows (signal_test.Test Name)
tests =
    (codes "A", signal_at 0 (codes "A")) ∷
    (codes "!A", signal_test.Not 0 (signal_at 1 (codes "A"))) ∷
    (codes "(A)", signal_test.Group 0 (signal_at 1 (codes "A"))) ∷
    (codes "A&&B", signal_test.Both 1 (signal_at 0 (codes "A")) (signal_at 3 (codes "B"))) ∷
    (codes "A||B", signal_test.Either 1 (signal_at 0 (codes "A")) (signal_at 3 (codes "B"))) ∷ (
      codes "A||B||C",
      signal_test.Either 4 (signal_test.Either 1 (signal_at 0 (codes "A"))
          (signal_at 3 (codes "B"))) (signal_at 6 (codes "C")),
    ) ∷ (
      codes "A||B&&C",
      signal_test.Either 1 (signal_at 0 (codes "A"))
          (signal_test.Both 4 (signal_at 3 (codes "B")) (signal_at 6 (codes "C"))),
    ) ∷ (
      codes "A&&B||C",
      signal_test.Either 4 (signal_test.Both 1 (signal_at 0 (codes "A"))
          (signal_at 3 (codes "B"))) (signal_at 6 (codes "C")),
    ) ∷ (
      codes "!A&&B",
      signal_test.Both 2 (signal_test.Not 0 (signal_at 1 (codes "A"))) (signal_at 4 (codes "B")),
    )
    ∷ (
      codes "!(A&&B)",
      signal_test.Not 0 (signal_test.Group 1
          (signal_test.Both 3 (signal_at 2 (codes "A")) (signal_at 5 (codes "B")))),
    ) ∷ []

-- statements without a block
abbrev pub plain_statements : Rows SourceBlock
plain_statements =
    (codes "{;}", block_from 0 (stmt_at 1 form.Empty ∷ [])) ∷
    (codes "{pause;}", block_from 0 (stmt_at 1 form.Pause ∷ [])) ∷
    (codes "{halt;}", block_from 0 (stmt_at 1 form.Halt ∷ [])) ∷
    (codes "{emit A;}", block_from 0 (stmt_at 1 (form.Emit 6 (name_at 6 (codes "A")) None) ∷ [])) ∷ (
      codes "{emit A(5);}",
      block_from 0 (stmt_at 1
          (form.Emit 6 (name_at 6 (codes "A")) (Some (literal_at 8 kind.Int 5))) ∷ []),
    ) ∷ (
      codes "{sustain A;}",
      block_from 0 (stmt_at 1 (form.Sustain 9 (name_at 9 (codes "A")) None) ∷ []),
    ) ∷ (
      codes "{sustain A(5);}",
      block_from 0 (stmt_at 1
          (form.Sustain 9 (name_at 9 (codes "A")) (Some (literal_at 11 kind.Int 5))) ∷ []),
    ) ∷
    (codes "{signal A;}", block_from 0 (stmt_at 1 (form.Declare (pure_at 8 (codes "A"))) ∷ [])) ∷ (
      codes "{int signal A;}",
      block_from 0 (stmt_at 1 (form.Declare (valued_at 12 (codes "A") kind.Int None)) ∷ []),
    ) ∷ (
      codes "{int x=5;}",
      block_from 0 (stmt_at 1
          (form.Variable kind.Int 5 (name_at 5 (codes "x")) (literal_at 7 kind.Int 5)) ∷ []),
    ) ∷ (
      codes "{x=5;}",
      block_from 0 (stmt_at 1 (form.Assign 1 (name_at 1 (codes "x")) (literal_at 3 kind.Int 5)) ∷
          []),
    ) ∷
    (codes "{exit(T);}", block_from 0 (stmt_at 1 (form.Exit 6 (name_at 6 (codes "T"))) ∷ [])) ∷ (
      codes "{send C(5);}",
      block_from 0 (stmt_at 1 (form.Send 6 (name_at 6 (codes "C")) (literal_at 8 kind.Int 5)) ∷
          []),
    ) ∷
    (codes "{receive C;}", block_from 0 (stmt_at 1 (form.Receive 9 (name_at 9 (codes "C"))) ∷ [])) ∷ (
      codes "{await(A);}",
      block_from 0 (stmt_at 1 (form.Await false (signal_at 7 (codes "A"))) ∷ []),
    ) ∷ (
      codes "{await(immediate A);}",
      block_from 0 (stmt_at 1 (form.Await true (signal_at 17 (codes "A"))) ∷ []),
    ) ∷ (
      codes "{pause;halt;;}",
      block_from 0 (stmt_at 1 form.Pause ∷ stmt_at 7 form.Halt ∷ stmt_at 12 form.Empty ∷ []),
    ) ∷ []

-- each kind
abbrev pub kinds : Rows SourceBlock
kinds = (
  codes "{boolean a=b;byte a=b;short a=b;char a=b;int a=b;long a=b;}",
  block_from 0 (stmt_at 1
      (form.Variable kind.Boolean 9 (name_at 9 (codes "a")) (variable_at 11 (codes "b"))) ∷
      stmt_at 13 (form.Variable kind.Byte 18 (name_at 18 (codes "a"))
      (variable_at 20 (codes "b"))) ∷
      stmt_at 22 (form.Variable kind.Short 28 (name_at 28 (codes "a"))
      (variable_at 30 (codes "b"))) ∷
      stmt_at 32 (form.Variable kind.Char 37 (name_at 37 (codes "a"))
      (variable_at 39 (codes "b"))) ∷
      stmt_at 41 (form.Variable kind.Int 45 (name_at 45 (codes "a")) (variable_at 47 (codes "b")))
      ∷ stmt_at 49 (form.Variable kind.Long 54 (name_at 54 (codes "a"))
      (variable_at 56 (codes "b"))) ∷ []),
) ∷ []

-- each way to combine
abbrev pub combinations : Rows SourceBlock
combinations = (
  codes "{int signal A combine+;}",
  block_from 0 (stmt_at 1
      (form.Declare (valued_at 12 (codes "A") kind.Int (Some (record {
        at = 21;
        operator = combine.Add;
      })))) ∷ []),
) ∷ (
  codes "{int signal A combine max;}",
  block_from 0 (stmt_at 1
      (form.Declare (valued_at 12 (codes "A") kind.Int (Some (record {
        at = 22;
        operator = combine.Max;
      })))) ∷ []),
) ∷ (
  codes "{int signal A combine min;}",
  block_from 0 (stmt_at 1
      (form.Declare (valued_at 12 (codes "A") kind.Int (Some (record {
        at = 22;
        operator = combine.Min;
      })))) ∷ []),
) ∷ (
  codes "{int signal A combine&;}",
  block_from 0 (stmt_at 1
      (form.Declare (valued_at 12 (codes "A") kind.Int (Some (record {
        at = 21;
        operator = combine.And;
      })))) ∷ []),
) ∷ (
  codes "{int signal A combine|;}",
  block_from 0 (stmt_at 1
      (form.Declare (valued_at 12 (codes "A") kind.Int (Some (record {
        at = 21;
        operator = combine.Or;
      })))) ∷ []),
) ∷ (
  codes "{int signal A combine^;}",
  block_from 0 (stmt_at 1
      (form.Declare (valued_at 12 (codes "A") kind.Int (Some (record {
        at = 21;
        operator = combine.Xor;
      })))) ∷ []),
) ∷ []

-- each sign of an assignment
abbrev pub updates : Rows SourceBlock
updates = (
  codes "{x+=a;x-=a;x*=a;x/=a;x%=a;}",
  block_from 0 (stmt_at 1
      (form.Update 1 (name_at 1 (codes "x")) 2 op2.Add (variable_at 4 (codes "a"))) ∷
      stmt_at 6 (form.Update 6 (name_at 6 (codes "x")) 7 op2.Sub (variable_at 9 (codes "a"))) ∷
      stmt_at 11 (form.Update 11 (name_at 11 (codes "x")) 12 op2.Mul (variable_at 14 (codes "a")))
      ∷ stmt_at 16 (form.Update 16 (name_at 16 (codes "x")) 17 op2.Div
      (variable_at 19 (codes "a"))) ∷
      stmt_at 21 (form.Update 21 (name_at 21 (codes "x")) 22 op2.Rem (variable_at 24 (codes "a")))
      ∷ []),
) ∷ (
  codes "{x&=a;x|=a;x^=a;}",
  block_from 0 (stmt_at 1
      (form.Update 1 (name_at 1 (codes "x")) 2 op2.And (variable_at 4 (codes "a"))) ∷
      stmt_at 6 (form.Update 6 (name_at 6 (codes "x")) 7 op2.Or (variable_at 9 (codes "a"))) ∷
      stmt_at 11 (form.Update 11 (name_at 11 (codes "x")) 12 op2.Xor (variable_at 14 (codes "a")))
      ∷ []),
) ∷ (
  codes "{x<<=a;x>>=a;x>>>=a;}",
  block_from 0 (stmt_at 1
      (form.Update 1 (name_at 1 (codes "x")) 2 op2.Shl (variable_at 5 (codes "a"))) ∷
      stmt_at 7 (form.Update 7 (name_at 7 (codes "x")) 8 op2.Shr (variable_at 11 (codes "a"))) ∷
      stmt_at 13 (form.Update 13 (name_at 13 (codes "x")) 14 op2.Ushr
      (variable_at 18 (codes "a"))) ∷ []),
) ∷ []

-- statements with blocks
abbrev pub blocks : Rows SourceBlock
blocks =
    (codes "{{}}", block_from 0 (stmt_at 1 (form.Par (block_from 1 []) []) ∷ [])) ∷ (
      codes "{{;}||{pause;}||{}}",
      block_from 0 (stmt_at 1 (form.Par (block_from 1 (stmt_at 2 form.Empty ∷
          [])) (block_from 6 (stmt_at 7 form.Pause ∷ []) ∷ block_from 16 [] ∷ [])) ∷ []),
    ) ∷
    (codes "{while(true){}}", block_from 0 (stmt_at 1 (form.While (block_from 12 [])) ∷ [])) ∷ (
      codes "{abort(A){}}",
      block_from 0 (stmt_at 1 (form.Abort false false (signal_at 7 (codes "A")) (block_from 9 []))
          ∷ []),
    ) ∷ (
      codes "{abort(immediate A){}}",
      block_from 0 (stmt_at 1
          (form.Abort false true (signal_at 17 (codes "A")) (block_from 19 [])) ∷ []),
    ) ∷ (
      codes "{weak abort(A){}}",
      block_from 0 (stmt_at 1
          (form.Abort true false (signal_at 12 (codes "A")) (block_from 14 [])) ∷ []),
    ) ∷ (
      codes "{weak abort(immediate A){}}",
      block_from 0 (stmt_at 1 (form.Abort true true (signal_at 22 (codes "A")) (block_from 24 []))
          ∷ []),
    ) ∷ (
      codes "{suspend(A){}}",
      block_from 0 (stmt_at 1 (form.Suspend false (signal_at 9 (codes "A")) (block_from 11 [])) ∷
          []),
    ) ∷ (
      codes "{suspend(immediate A){}}",
      block_from 0 (stmt_at 1 (form.Suspend true (signal_at 19 (codes "A")) (block_from 21 [])) ∷
          []),
    ) ∷ (
      codes "{every(A){}}",
      block_from 0 (stmt_at 1 (form.Every false (signal_at 7 (codes "A")) (block_from 9 [])) ∷
          []),
    ) ∷ (
      codes "{every(immediate A){}}",
      block_from 0 (stmt_at 1 (form.Every true (signal_at 17 (codes "A")) (block_from 19 [])) ∷
          []),
    ) ∷ (
      codes "{trap(T){}}",
      block_from 0 (stmt_at 1 (form.Trap 6 (name_at 6 (codes "T")) (block_from 8 [])) ∷ []),
    ) ∷ (
      codes "{loop{}each(A);}",
      block_from 0 (stmt_at 1 (form.Loop (block_from 5 []) (signal_at 12 (codes "A"))) ∷ []),
    ) ∷ []

-- an `else` belongs to the last block before it
abbrev pub branches : Rows SourceBlock
branches = (
  codes "{if(a){}}",
  block_from 0 (stmt_at 1 (form.If (variable_at 4 (codes "a")) (block_from 6 []) None) ∷ []),
)
    ∷ (
      codes "{if(a){}else{}}",
      block_from 0 (stmt_at 1
          (form.If (variable_at 4 (codes "a")) (block_from 6 []) (Some (block_from 12 []))) ∷ []),
    ) ∷ (
      codes "{present(A){}}",
      block_from 0 (stmt_at 1 (form.Present (signal_at 9 (codes "A")) (block_from 11 []) None) ∷
          []),
    ) ∷ (
      codes "{present(A){}else{}}",
      block_from 0 (stmt_at 1
          (form.Present (signal_at 9 (codes "A")) (block_from 11 []) (Some (block_from 17 []))) ∷ []),
    )
    ∷ (
      codes "{if(a){if(b){}}else{}}",
      block_from 0 (stmt_at 1
          (form.If (variable_at 4 (codes "a"))
          (block_from 6 (stmt_at 7 (form.If (variable_at 10 (codes "b")) (block_from 12 []) None) ∷
          [])) (Some (block_from 19 []))) ∷ []),
    ) ∷ (
      codes "{if(a){if(b){}else{}}}",
      block_from 0 (stmt_at 1
          (form.If (variable_at 4 (codes "a"))
          (block_from 6 (stmt_at 7
          (form.If (variable_at 10 (codes "b")) (block_from 12 []) (Some (block_from 18 []))) ∷
          [])) None) ∷ []),
    ) ∷ []

-- ports and domains
abbrev pub programs : Rows SourceTree
programs = (
  codes "system{interface{input signal A;output signal B;}{}}",
  record {
    ports = signal_port direction.Input (pure_at 30 (codes "A")) ∷
        signal_port direction.Output (pure_at 46 (codes "B")) ∷ [];
    domains = block_from 49 [] ∷
        [];
  },
) ∷ (
  codes "system{interface{input int signal A;output long signal B combine max;}{}}",
  record {
    ports = signal_port direction.Input (valued_at 34 (codes "A") kind.Int None) ∷
        signal_port direction.Output (valued_at 55 (codes "B") kind.Long (Some (record {
          at = 65;
          operator = combine.Max;
        }))) ∷ [];
    domains = block_from 70 [] ∷ [];
  },
) ∷ (
  codes "system{interface{boolean channel C;int channel D;}{}}",
  record {
    ports = channel_port kind.Boolean 33 (codes "C") ∷
        channel_port kind.Int 47 (codes "D") ∷ [];
    domains = block_from 50 [] ∷ [];
  },
) ∷ (
  codes "system{interface{}{;}><{}><{}}",
  record {
    ports = [];
    domains = block_from 18 (stmt_at 19 form.Empty ∷ []) ∷
        block_from 23 [] ∷ block_from 27 [] ∷ [];
  },
) ∷ []

-- another grouping, another place, another operator, and parentheses that are left out
abbrev pub wrong_expressions : Rows (raw.Raw Name)
wrong_expressions = (
  codes "a-b-c",
  raw.Binary 1 op2.Sub (variable_at 0 (codes "a"))
      (raw.Binary 3 op2.Sub (variable_at 2 (codes "b")) (variable_at 4 (codes "c"))),
) ∷ (
  codes "a+b*c",
  raw.Binary 3 op2.Mul (raw.Binary 1 op2.Add (variable_at 0 (codes "a"))
      (variable_at 2 (codes "b"))) (variable_at 4 (codes "c")),
) ∷ (
  codes "-a+b",
  raw.Unary 0 op1.Minus
      (raw.Binary 2 op2.Add (variable_at 1 (codes "a")) (variable_at 3 (codes "b"))),
) ∷ (
  codes "(byte)a+b",
  raw.Cast 0 kind.Byte (raw.Binary 7 op2.Add (variable_at 6 (codes "a"))
      (variable_at 8 (codes "b"))),
) ∷
    (codes "a+b", raw.Binary 0 op2.Add (variable_at 0 (codes "a")) (variable_at 2 (codes "b"))) ∷
    (codes "a+b", raw.Binary 1 op2.Add (variable_at 0 (codes "a")) (variable_at 1 (codes "b"))) ∷ (
      codes "a==b",
      raw.Binary 1 op2.NotEqual (variable_at 0 (codes "a")) (variable_at 3 (codes "b")),
    ) ∷
    (codes "(a)", variable_at 1 (codes "a")) ∷
    (codes "-2147483648", raw.Unary 0 op1.Minus (literal_at 1 kind.Int 2147483648)) ∷
    (codes "#A", raw.Status 0 0 (name_at 0 (codes "A"))) ∷ []

-- another grouping, operator or place in tests
abbrev pub wrong_tests : Rows (signal_test.Test Name)
wrong_tests = (
  codes "!A&&B",
  signal_test.Not 0 (signal_test.Both 2 (signal_at 1 (codes "A")) (signal_at 4 (codes "B"))),
)
    ∷ (
      codes "A||B&&C",
      signal_test.Both 4 (signal_test.Either 1 (signal_at 0 (codes "A"))
          (signal_at 3 (codes "B"))) (signal_at 6 (codes "C")),
    ) ∷ (
      codes "A||B||C",
      signal_test.Either 1 (signal_at 0 (codes "A"))
          (signal_test.Either 4 (signal_at 3 (codes "B")) (signal_at 6 (codes "C"))),
    ) ∷
    (codes "A&&B", signal_test.Either 1 (signal_at 0 (codes "A")) (signal_at 3 (codes "B"))) ∷
    (codes "A&&B", signal_test.Both 0 (signal_at 0 (codes "A")) (signal_at 3 (codes "B"))) ∷ []

-- another form, another place, another flag, and an `else` of another block
abbrev pub wrong_blocks : Rows SourceBlock
wrong_blocks =
    (codes "{pause;}", block_from 0 (stmt_at 1 form.Halt ∷ [])) ∷
    (codes "{pause;}", block_from 0 (stmt_at 0 form.Pause ∷ [])) ∷ (
      codes "{emit A;}",
      block_from 0 (stmt_at 1 (form.Sustain 6 (name_at 6 (codes "A")) None) ∷ []),
    ) ∷
    (codes "{emit A;}", block_from 0 (stmt_at 1 (form.Emit 1 (name_at 1 (codes "A")) None) ∷ [])) ∷ (
      codes "{emit A(5);}",
      block_from 0 (stmt_at 1 (form.Emit 6 (name_at 6 (codes "A")) None) ∷ []),
    ) ∷ (
      codes "{int x=5;}",
      block_from 0 (stmt_at 1
          (form.Variable kind.Long 5 (name_at 5 (codes "x")) (literal_at 7 kind.Int 5)) ∷ []),
    ) ∷ (
      codes "{x+=a;}",
      block_from 0 (stmt_at 1
          (form.Update 1 (name_at 1 (codes "x")) 1 op2.Add (variable_at 4 (codes "a"))) ∷ []),
    ) ∷ (
      codes "{x+=a;}",
      block_from 0 (stmt_at 1 (form.Assign 1 (name_at 1 (codes "x")) (variable_at 4 (codes "a")))
          ∷ []),
    ) ∷ (
      codes "{abort(A){}}",
      block_from 0 (stmt_at 1 (form.Abort true false (signal_at 7 (codes "A")) (block_from 9 []))
          ∷ []),
    ) ∷ (
      codes "{weak abort(A){}}",
      block_from 0 (stmt_at 1
          (form.Abort false false (signal_at 12 (codes "A")) (block_from 14 [])) ∷ []),
    ) ∷ (
      codes "{abort(immediate A){}}",
      block_from 0 (stmt_at 1
          (form.Abort false false (signal_at 17 (codes "A")) (block_from 19 [])) ∷ []),
    ) ∷ (
      codes "{suspend(A){}}",
      block_from 0 (stmt_at 1 (form.Suspend true (signal_at 9 (codes "A")) (block_from 11 [])) ∷
          []),
    ) ∷ (
      codes "{every(A){}}",
      block_from 0 (stmt_at 1 (form.Every true (signal_at 7 (codes "A")) (block_from 9 [])) ∷ []),
    )
    ∷ (
      codes "{await(immediate A);}",
      block_from 0 (stmt_at 1 (form.Await false (signal_at 17 (codes "A"))) ∷ []),
    ) ∷ (
      codes "{int signal A combine max;}",
      block_from 0 (stmt_at 1
          (form.Declare (valued_at 12 (codes "A") kind.Int (Some (record {
            at = 14;
            operator = combine.Max;
          })))) ∷ []),
    ) ∷ (
      codes "{if(a){if(b){}}else{}}",
      block_from 0 (stmt_at 1
          (form.If (variable_at 4 (codes "a"))
          (block_from 6 (stmt_at 7
          (form.If (variable_at 10 (codes "b")) (block_from 12 []) (Some (block_from 19 []))) ∷
          [])) None) ∷ []),
    ) ∷ (
      codes "{if(a){if(b){}else{}}}",
      block_from 0 (stmt_at 1
          (form.If (variable_at 4 (codes "a"))
          (block_from 6 (stmt_at 7 (form.If (variable_at 10 (codes "b")) (block_from 12 []) None) ∷
          [])) (Some (block_from 18 []))) ∷ []),
    ) ∷ (
      codes "{present(A){}else{}}",
      block_from 0 (stmt_at 1 (form.Present (signal_at 9 (codes "A")) (block_from 11 []) None) ∷
          []),
    ) ∷ []

-- another direction, kind or place of a port, and another number of domains
abbrev pub wrong_programs : Rows SourceTree
wrong_programs = (
  codes "system{interface{input signal A;}{}}",
  record {
    ports = signal_port direction.Output (pure_at 30 (codes "A")) ∷
        [];
    domains = block_from 33 [] ∷ [];
  },
) ∷ (
  codes "system{interface{int channel C;}{}}",
  record {
    ports = channel_port kind.Long 29 (codes "C") ∷ [];
    domains = block_from 32 [] ∷
        [];
  },
) ∷ (
  codes "system{interface{int channel C;}{}}",
  record {
    ports = channel_port kind.Int 21 (codes "C") ∷ [];
    domains = block_from 32 [] ∷
        [];
  },
) ∷
    (codes "system{interface{}{}><{}}", record { ports = []; domains = block_from 18 [] ∷ [] }) ∷ []
