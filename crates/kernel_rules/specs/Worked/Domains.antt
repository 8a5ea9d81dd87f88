-- Domains whose legal ticks are worked out.
use Rattle.std.specs.Prelude.{ℕ, ◌==◌, ◌&&◌, cond, pos, List, [], ◌∷◌, Some, None, codes}
use Rattle.java_values.specs.declared.kind.Kind.TheVariants as kind
use Rattle.java_values.specs.declared.op.Op1.TheVariants as op
use Rattle.kernel_terms.specs.declared.tables.SignalInfo.{SignalInfo}
use Rattle.kernel_terms.specs.declared.tables.Tables.{Tables}
use Rattle.kernel_terms.specs.declared.tables.Sort.TheVariants as sort
use Rattle.kernel_terms.specs.declared.tables.Combine.TheVariants as combine
use Rattle.kernel_terms.specs.Expressions.{Expression, Literal, Variable, Unary, IsPresent}
use Rattle.kernel_terms.specs.Statements.{Stmt, Nothing, Pause, Assign, If, Present, Seq, Loop, Par}
use Rattle.kernel_terms.specs.Marks.{Going}
use Rattle.kernel_rules.specs.definitions.LegalTick.{DomainState, Inputs}
use Rattle.kernel_rules.specs.Rows.{int, pure, summed, signals_alone}
use Rattle.kernel_rules.specs.Worked.Words.{emit, emit_value, assign, plus, variable, signal_value}
use Rattle.kernel_rules.specs.Worked.Variables.{sum_of}

-- output int S
abbrev pub one_sum : Tables
one_sum = signals_alone (summed (codes "S") ∷ [])

-- int v = 1; pause; v = #S; pause; emit S(v + 4);
abbrev pub reads_absent : Stmt
reads_absent =
    Seq (assign 0 1) (Seq Pause
    (Seq (Assign 0 (signal_value 0)) (Seq Pause (emit_value 0 (plus (variable 0) (int 4))))))

abbrev pub flag : Expression
flag = Variable kind.Boolean 1

-- if(b){v = #S;}else{emit S(v + 2);} b = !b; pause;
abbrev pub one_turn : Stmt
one_turn =
    Seq (If flag (Assign 0 (signal_value 0)) (emit_value 0 (plus (variable 0) (int 2))))
    (Seq (Assign 1 (Unary kind.Boolean op.Not flag)) Pause)

-- int v = 1; boolean b = true; while(true){one turn}
abbrev pub alternates : Stmt
alternates = Seq (assign 0 1) (Seq (Assign 1 (Literal kind.Boolean (pos 1))) (Loop one_turn))

-- what each of its ticks leaves
abbrev pub turns_again : Stmt
turns_again = Seq Nothing (Loop one_turn)

-- input int I, output int B
abbrev pub number_input : List ℕ → SignalInfo
number_input name =
    record {
      name = name;
      domain = 0;
      sort = sort.Input;
      kind = Some kind.Int;
      combine = combine.Add;
    }

abbrev pub input_tables : Tables
input_tables = signals_alone (number_input (codes "I") ∷ summed (codes "B") ∷ [])

-- 7 is handed in for I at tick 2 alone
abbrev pub seven_at_two : Inputs
seven_at_two s n = cond ((s == 0) && (n == 2)) (Some (pos 7)) None

-- while(true){emit B(#I); pause;}
abbrev pub shows_input : Stmt
shows_input = Loop (Seq (emit_value 1 (signal_value 0)) Pause)

-- what each of its ticks leaves
abbrev pub shows_input_again : Stmt
shows_input_again = Seq Nothing shows_input

-- emit S(5); pause; emit S(3); emit S(1); pause; pause; emit S(2);
abbrev pub emits_again : Stmt
emits_again =
    Seq (emit_value 0 (int 5))
    (Seq Pause (Seq (emit_value 0 (int 3))
    (Seq (emit_value 0 (int 1)) (Seq Pause (Seq Pause (emit_value 0 (int 2)))))))

-- outputs A and B of the domain 0, and between them one of the domain 1
abbrev pub shared_tables : Tables
shared_tables =
    signals_alone (pure (codes "A") ∷ record (pure (codes "C")) { domain = 1 } ∷
    pure (codes "B") ∷ [])

-- emit A; pause; emit B;
abbrev pub one_then_other : Stmt
one_then_other = Seq (emit 0) (Seq Pause (emit 2))

-- {emit A;} || {present(A){emit B;}}
abbrev pub answers : Stmt
answers = Par (emit 0) (Present (IsPresent 0) (emit 2) Nothing)

-- present(A){emit A;}
abbrev pub relies_on_itself : Stmt
relies_on_itself = Present (IsPresent 0) (emit 0) Nothing

-- present(A){}else{emit A;}
abbrev pub contradicts_itself : Stmt
contradicts_itself = Present (IsPresent 0) Nothing (emit 0)

-- emit B(x + #I + #C); after four ticks, where x is 7 and the last values are 80 and 900
abbrev pub shows_state : DomainState
shows_state = record {
  statement = emit_value 1 (sum_of 0 0 0);
  variables = λ x. pos 7;
  values = λ s. pos 80;
  last = λ c. pos 900;
  ticks = 4;
  mark = Going;
}
