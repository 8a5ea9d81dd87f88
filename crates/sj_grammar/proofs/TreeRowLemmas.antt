-- Small sources, read, and their trees.
use Rattle.std.specs.Prelude.{Option, codes}
use Rattle.std.proofs.Common.{◌≡◌, ℕ, true, false, List, [], ◌∷◌, length, Some, None, refl, sym, ap, ◌∙◌, arith}
use Rattle.java_values.specs.declared.kind.Kind.{Kind}
use Rattle.java_values.specs.declared.kind.Kind.TheVariants as kind
use Rattle.java_values.specs.declared.op.Op1.TheVariants as op1
use Rattle.java_values.specs.declared.op.Op2.{Op2}
use Rattle.java_values.specs.declared.op.Op2.TheVariants as op2
use Rattle.sj_lexer.specs.declared.token.Token.{Token}
use Rattle.sj_lexer.specs.definitions.Readings.{AreTokens}
use Rattle.sj_ast.specs.declared.name.Name.{Name}
use Rattle.sj_ast.specs.declared.expression.Raw as raw
use Rattle.sj_ast.specs.declared.expression.Raw.TheOpen.{Raw-F}
use Rattle.sj_ast.specs.declared.expression.Raw.TheVariants.{rolls-Binary}
use Rattle.sj_ast.specs.declared.statement.Form as form
use Rattle.sj_ast.specs.declared.statement.Form.TheOpen.{Form-F}
use Rattle.sj_ast.specs.declared.statement.Form.TheVariants.{rolls-If, rolls-Present}
use Rattle.sj_ast.specs.declared.statement.Stmt as stmt
use Rattle.sj_ast.specs.declared.statement.Block as block
use Rattle.sj_ast.specs.declared.test.Test as signal_test
use Rattle.sj_ast.specs.declared.port.CombineOperator.TheVariants as combine
use Rattle.sj_ast.specs.declared.port.Combination.{Combination}
use Rattle.sj_ast.specs.declared.port.Valued as ast_valued
use Rattle.sj_ast.specs.declared.port.Signal.{Signal}
use Rattle.sj_ast.specs.declared.port.Direction.{Direction}
use Rattle.sj_ast.specs.declared.port.Direction.TheVariants as direction
use Rattle.sj_ast.specs.declared.port.Port as port
use Rattle.sj_ast.specs.declared.port.Port.TheVariants as port_is
use Rattle.sj_grammar.specs.declared.role.Join.TheVariants as join
use Rattle.sj_grammar.specs.definitions.Expressions.{Atom, Least, Status, Prefix, Cast, Group, Infix, print, IsExpr}
use Rattle.sj_grammar.specs.definitions.Tests.{SignalTest, NotTest, GroupTest, JoinTest, print_test, IsTest}
use Rattle.sj_grammar.specs.definitions.Statements.{NoValue, Value, Later, AtOnce, NotCombined, CombinedBy, Pure, Valued, EmptyStmt, ParStmt, StillStmt, EmitStmt, SignalStmt, VariableStmt, AssignStmt, IfStmt, PresentStmt, WhileStmt, GuardedStmt, WeakStmt, TrapStmt, ExitStmt, SendStmt, ReceiveStmt, AwaitStmt, LoopStmt, Done, Then, Block, Braces, NoElse, ElseBlock, NoOther, Beside, print_block, IsBlock}
use Rattle.sj_grammar.specs.definitions.Programs.{SignalPort, ChannelPort, NoPort, PortThen, print_program, IsProgram}
use Rattle.sj_grammar.specs.definitions.Trees.{raw_of, test_of, SourceForm, SourceStmt, SourceBlock, block_of, tree_of}
use Rattle.sj_grammar.specs.definitions.SourceTrees.{IsMadeOf, SourceTree, IsExpressionOf, IsTestOf, IsBlockOf, IsProgramOf, IsNoExpressionOf, IsNoTestOf, IsNoBlockOf, IsNoProgramOf}
use Rattle.sj_grammar.proofs.OneExpression.{one-expression}
use Rattle.sj_grammar.proofs.OneTest.{one-test}
use Rattle.sj_grammar.proofs.OneProgram.{block-same, one-program}
use Rattle.sj_grammar.proofs.SourcePieces.{are_all, tokens_of, token_in, are_tokens}
use Rattle.sj_grammar.specs.TreeRows.{Each, name_at, literal_at, least_int, variable_at, signal_at, stmt_at, block_from, pure_at, valued_at, signal_port, channel_port, operands, groupings, tests, plain_statements, kinds, combinations, updates, blocks, branches, programs, wrong_expressions, wrong_tests, wrong_blocks, wrong_programs}

-- what the tokens of a whole source print is its sentence
made : {S T : Type 0} (Is : S → Type 0) (print_all : S → List Token → List Token) (of : List ℕ → S → T) {source : List ℕ} {tree : T} (s : (ℕ → Token) → S) → are_all (length source) source ≡ true → Is (s (token_in source)) → print_all (s (token_in source)) [] ≡ tokens_of source → tree ≡ of source (s (token_in source)) → IsMadeOf Is print_all of source tree
made Is print_all of {source} {tree} s all is printed stands = record {
  tokens = tokens_of source;
  are = are_tokens source all;
  sentence = s (token_in source);
  is_sentence = is;
  printed = printed;
  stands = stands;
}

pub operands_made : Each IsExpressionOf operands
operands_made = (
  made IsExpr print raw_of (λ t. Atom (t 0)) refl refl refl refl,
  (
    made IsExpr print raw_of (λ t. Atom (t 0)) refl refl refl refl,
    (
      made IsExpr print raw_of (λ t. Atom (t 0)) refl refl refl refl,
      (
        made IsExpr print raw_of (λ t. Atom (t 0)) refl refl refl refl,
        (
          made IsExpr print raw_of (λ t. Atom (t 0)) refl refl refl refl,
          (
            made IsExpr print raw_of (λ t. Atom (t 0)) refl refl refl refl,
            (
              made IsExpr print raw_of (λ t. Least (t 0) (t 1)) refl (refl, refl) refl refl,
              (
                made IsExpr print raw_of (λ t. Least (t 0) (t 1)) refl (refl, refl) refl refl,
                (
                  made IsExpr print raw_of (λ t. Status (t 0) (t 1)) refl (refl, refl) refl refl,
                  (
                    made IsExpr print raw_of (λ t. Prefix op1.Minus (t 0) (Atom (t 1))) refl (refl, refl, refl) refl refl,
                    (
                      made IsExpr print raw_of (λ t. Prefix op1.Plus (t 0) (Atom (t 1))) refl (refl, refl, refl) refl refl,
                      (
                        made IsExpr print raw_of (λ t. Prefix op1.BitNot (t 0) (Atom (t 1))) refl (refl, refl, refl) refl refl,
                        (
                          made IsExpr print raw_of (λ t. Prefix op1.Not (t 0) (Atom (t 1))) refl (refl, refl, refl) refl refl,
                          (
                            made IsExpr print raw_of (λ t. Cast kind.Int (t 0) (t 1) (t 2) (Atom (t 3))) refl (refl, refl, refl, refl, refl) refl refl,
                            (made IsExpr print raw_of (λ t. Group (t 0) (Atom (t 1)) (t 2)) refl (refl, refl, refl) refl refl, tt),
                          ),
                        ),
                      ),
                    ),
                  ),
                ),
              ),
            ),
          ),
        ),
      ),
    ),
  ),
)

pub groupings_made : Each IsExpressionOf groupings
groupings_made = (
  made IsExpr print raw_of (λ t. Infix op2.Either (t 1) (Atom (t 0)) (Infix op2.Both (t 3) (Atom (t 2)) (Infix op2.Or (t 5) (Atom (t 4)) (Infix op2.Xor (t 7) (Atom (t 6)) (Infix op2.And (t 9) (Atom (t 8)) (Infix op2.Equal (t 11) (Atom (t 10)) (Infix op2.Less (t 13) (Atom (t 12)) (Infix op2.Shl (t 15) (Atom (t 14)) (Infix op2.Add (t 17) (Atom (t 16)) (Infix op2.Mul (t 19) (Atom (t 18)) (Atom (t 20)))))))))))) refl (refl, omega arith, omega arith, refl, (refl, omega arith, omega arith, refl, (refl, omega arith, omega arith, refl, (refl, omega arith, omega arith, refl, (refl, omega arith, omega arith, refl, (refl, omega arith, omega arith, refl, (refl, omega arith, omega arith, refl, (refl, omega arith, omega arith, refl, (refl, omega arith, omega arith, refl, (refl, omega arith, omega arith, refl, refl)))))))))) refl refl,
  (
    made IsExpr print raw_of (λ t. Infix op2.Either (t 19) (Infix op2.Both (t 17) (Infix op2.Or (t 15) (Infix op2.Xor (t 13) (Infix op2.And (t 11) (Infix op2.Equal (t 9) (Infix op2.Less (t 7) (Infix op2.Shl (t 5) (Infix op2.Add (t 3) (Infix op2.Mul (t 1) (Atom (t 0)) (Atom (t 2))) (Atom (t 4))) (Atom (t 6))) (Atom (t 8))) (Atom (t 10))) (Atom (t 12))) (Atom (t 14))) (Atom (t 16))) (Atom (t 18))) (Atom (t 20))) refl (refl, omega arith, omega arith, (refl, omega arith, omega arith, (refl, omega arith, omega arith, (refl, omega arith, omega arith, (refl, omega arith, omega arith, (refl, omega arith, omega arith, (refl, omega arith, omega arith, (refl, omega arith, omega arith, (refl, omega arith, omega arith, (refl, omega arith, omega arith, refl, refl), refl), refl), refl), refl), refl), refl), refl), refl), refl) refl refl,
    (
      made IsExpr print raw_of (λ t. Infix op2.Sub (t 3) (Infix op2.Sub (t 1) (Atom (t 0)) (Atom (t 2))) (Atom (t 4))) refl (refl, omega arith, omega arith, (refl, omega arith, omega arith, refl, refl), refl) refl refl,
      (
        made IsExpr print raw_of (λ t. Infix op2.Add (t 1) (Atom (t 0)) (Infix op2.Mul (t 3) (Atom (t 2)) (Atom (t 4)))) refl (refl, omega arith, omega arith, refl, (refl, omega arith, omega arith, refl, refl)) refl refl,
        (
          made IsExpr print raw_of (λ t. Infix op2.Mul (t 5) (Group (t 0) (Infix op2.Add (t 2) (Atom (t 1)) (Atom (t 3))) (t 4)) (Atom (t 6))) refl (refl, omega arith, omega arith, (refl, (refl, omega arith, omega arith, refl, refl), refl), refl) refl refl,
          (
            made IsExpr print raw_of (λ t. Infix op2.Sub (t 3) (Infix op2.Add (t 1) (Atom (t 0)) (Atom (t 2))) (Atom (t 4))) refl (refl, omega arith, omega arith, (refl, omega arith, omega arith, refl, refl), refl) refl refl,
            (
              made IsExpr print raw_of (λ t. Infix op2.Rem (t 5) (Infix op2.Div (t 3) (Infix op2.Mul (t 1) (Atom (t 0)) (Atom (t 2))) (Atom (t 4))) (Atom (t 6))) refl (refl, omega arith, omega arith, (refl, omega arith, omega arith, (refl, omega arith, omega arith, refl, refl), refl), refl) refl refl,
              (
                made IsExpr print raw_of (λ t. Infix op2.Ushr (t 5) (Infix op2.Shr (t 3) (Infix op2.Shl (t 1) (Atom (t 0)) (Atom (t 2))) (Atom (t 4))) (Atom (t 6))) refl (refl, omega arith, omega arith, (refl, omega arith, omega arith, (refl, omega arith, omega arith, refl, refl), refl), refl) refl refl,
                (
                  made IsExpr print raw_of (λ t. Infix op2.GreaterEq (t 7) (Infix op2.Greater (t 5) (Infix op2.LessEq (t 3) (Infix op2.Less (t 1) (Atom (t 0)) (Atom (t 2))) (Atom (t 4))) (Atom (t 6))) (Atom (t 8))) refl (refl, omega arith, omega arith, (refl, omega arith, omega arith, (refl, omega arith, omega arith, (refl, omega arith, omega arith, refl, refl), refl), refl), refl) refl refl,
                  (
                    made IsExpr print raw_of (λ t. Infix op2.NotEqual (t 3) (Infix op2.Equal (t 1) (Atom (t 0)) (Atom (t 2))) (Atom (t 4))) refl (refl, omega arith, omega arith, (refl, omega arith, omega arith, refl, refl), refl) refl refl,
                    (
                      made IsExpr print raw_of (λ t. Infix op2.Add (t 2) (Prefix op1.Minus (t 0) (Atom (t 1))) (Atom (t 3))) refl (refl, omega arith, omega arith, (refl, refl, refl), refl) refl refl,
                      (
                        made IsExpr print raw_of (λ t. Infix op2.Add (t 4) (Cast kind.Byte (t 0) (t 1) (t 2) (Atom (t 3))) (Atom (t 5))) refl (refl, omega arith, omega arith, (refl, refl, refl, refl, refl), refl) refl refl,
                        (made IsExpr print raw_of (λ t. Prefix op1.Minus (t 0) (Prefix op1.Minus (t 1) (Atom (t 2)))) refl (refl, refl, (refl, refl, refl)) refl refl, tt),
                      ),
                    ),
                  ),
                ),
              ),
            ),
          ),
        ),
      ),
    ),
  ),
)

pub tests_made : Each IsTestOf tests
tests_made = (
  made IsTest print_test test_of (λ t. SignalTest (t 0)) refl refl refl refl,
  (
    made IsTest print_test test_of (λ t. NotTest (t 0) (SignalTest (t 1))) refl (refl, refl, refl) refl refl,
    (
      made IsTest print_test test_of (λ t. GroupTest (t 0) (SignalTest (t 1)) (t 2)) refl (refl, refl, refl) refl refl,
      (
        made IsTest print_test test_of (λ t. JoinTest join.Both (t 1) (SignalTest (t 0)) (SignalTest (t 2))) refl (refl, omega arith, omega arith, refl, refl) refl refl,
        (
          made IsTest print_test test_of (λ t. JoinTest join.Either (t 1) (SignalTest (t 0)) (SignalTest (t 2))) refl (refl, omega arith, omega arith, refl, refl) refl refl,
          (
            made IsTest print_test test_of (λ t. JoinTest join.Either (t 3) (JoinTest join.Either (t 1) (SignalTest (t 0)) (SignalTest (t 2))) (SignalTest (t 4))) refl (refl, omega arith, omega arith, (refl, omega arith, omega arith, refl, refl), refl) refl refl,
            (
              made IsTest print_test test_of (λ t. JoinTest join.Either (t 1) (SignalTest (t 0)) (JoinTest join.Both (t 3) (SignalTest (t 2)) (SignalTest (t 4)))) refl (refl, omega arith, omega arith, refl, (refl, omega arith, omega arith, refl, refl)) refl refl,
              (
                made IsTest print_test test_of (λ t. JoinTest join.Either (t 3) (JoinTest join.Both (t 1) (SignalTest (t 0)) (SignalTest (t 2))) (SignalTest (t 4))) refl (refl, omega arith, omega arith, (refl, omega arith, omega arith, refl, refl), refl) refl refl,
                (
                  made IsTest print_test test_of (λ t. JoinTest join.Both (t 2) (NotTest (t 0) (SignalTest (t 1))) (SignalTest (t 3))) refl (refl, omega arith, omega arith, (refl, refl, refl), refl) refl refl,
                  (made IsTest print_test test_of (λ t. NotTest (t 0) (GroupTest (t 1) (JoinTest join.Both (t 3) (SignalTest (t 2)) (SignalTest (t 4))) (t 5))) refl (refl, refl, (refl, (refl, omega arith, omega arith, refl, refl), refl)) refl refl, tt),
                ),
              ),
            ),
          ),
        ),
      ),
    ),
  ),
)

pub plain_statements_made : Each IsBlockOf plain_statements
plain_statements_made = (
  made IsBlock print_block block_of (λ t. Braces (t 0) (Then (EmptyStmt (t 1)) Done) (t 2)) refl (refl, (refl, tt), refl) refl refl,
  (
    made IsBlock print_block block_of (λ t. Braces (t 0) (Then (StillStmt (t 1) (t 2)) Done) (t 3)) refl (refl, ((refl, refl), tt), refl) refl refl,
    (
      made IsBlock print_block block_of (λ t. Braces (t 0) (Then (StillStmt (t 1) (t 2)) Done) (t 3)) refl (refl, ((refl, refl), tt), refl) refl refl,
      (
        made IsBlock print_block block_of (λ t. Braces (t 0) (Then (EmitStmt (t 1) (t 2) NoValue (t 3)) Done) (t 4)) refl (refl, ((refl, refl, tt, refl), tt), refl) refl refl,
        (
          made IsBlock print_block block_of (λ t. Braces (t 0) (Then (EmitStmt (t 1) (t 2) (Value (t 3) (Atom (t 4)) (t 5)) (t 6)) Done) (t 7)) refl (refl, ((refl, refl, (refl, refl, refl), refl), tt), refl) refl refl,
          (
            made IsBlock print_block block_of (λ t. Braces (t 0) (Then (EmitStmt (t 1) (t 2) NoValue (t 3)) Done) (t 4)) refl (refl, ((refl, refl, tt, refl), tt), refl) refl refl,
            (
              made IsBlock print_block block_of (λ t. Braces (t 0) (Then (EmitStmt (t 1) (t 2) (Value (t 3) (Atom (t 4)) (t 5)) (t 6)) Done) (t 7)) refl (refl, ((refl, refl, (refl, refl, refl), refl), tt), refl) refl refl,
              (
                made IsBlock print_block block_of (λ t. Braces (t 0) (Then (SignalStmt (Pure (t 1) (t 2) (t 3))) Done) (t 4)) refl (refl, ((refl, refl, refl), tt), refl) refl refl,
                (
                  made IsBlock print_block block_of (λ t. Braces (t 0) (Then (SignalStmt (Valued kind.Int (t 1) (t 2) (t 3) NotCombined (t 4))) Done) (t 5)) refl (refl, ((refl, refl, refl, tt, refl), tt), refl) refl refl,
                  (
                    made IsBlock print_block block_of (λ t. Braces (t 0) (Then (VariableStmt kind.Int (t 1) (t 2) (t 3) (Atom (t 4)) (t 5)) Done) (t 6)) refl (refl, ((refl, refl, refl, refl, refl), tt), refl) refl refl,
                    (
                      made IsBlock print_block block_of (λ t. Braces (t 0) (Then (AssignStmt None (t 1) (t 2) (Atom (t 3)) (t 4)) Done) (t 5)) refl (refl, ((refl, refl, refl, refl), tt), refl) refl refl,
                      (
                        made IsBlock print_block block_of (λ t. Braces (t 0) (Then (ExitStmt (t 1) (t 2) (t 3) (t 4) (t 5)) Done) (t 6)) refl (refl, ((refl, refl, refl, refl, refl), tt), refl) refl refl,
                        (
                          made IsBlock print_block block_of (λ t. Braces (t 0) (Then (SendStmt (t 1) (t 2) (t 3) (Atom (t 4)) (t 5) (t 6)) Done) (t 7)) refl (refl, ((refl, refl, refl, refl, refl, refl), tt), refl) refl refl,
                          (
                            made IsBlock print_block block_of (λ t. Braces (t 0) (Then (ReceiveStmt (t 1) (t 2) (t 3)) Done) (t 4)) refl (refl, ((refl, refl, refl), tt), refl) refl refl,
                            (
                              made IsBlock print_block block_of (λ t. Braces (t 0) (Then (AwaitStmt (t 1) (Later (t 2) (SignalTest (t 3)) (t 4)) (t 5)) Done) (t 6)) refl (refl, ((refl, (refl, refl, refl), refl), tt), refl) refl refl,
                              (
                                made IsBlock print_block block_of (λ t. Braces (t 0) (Then (AwaitStmt (t 1) (AtOnce (t 2) (t 3) (SignalTest (t 4)) (t 5)) (t 6)) Done) (t 7)) refl (refl, ((refl, (refl, refl, refl, refl), refl), tt), refl) refl refl,
                                (made IsBlock print_block block_of (λ t. Braces (t 0) (Then (StillStmt (t 1) (t 2)) (Then (StillStmt (t 3) (t 4)) (Then (EmptyStmt (t 5)) Done))) (t 6)) refl (refl, ((refl, refl), ((refl, refl), (refl, tt))), refl) refl refl, tt),
                              ),
                            ),
                          ),
                        ),
                      ),
                    ),
                  ),
                ),
              ),
            ),
          ),
        ),
      ),
    ),
  ),
)

pub kinds_made : Each IsBlockOf kinds
kinds_made =
    (made IsBlock print_block block_of (λ t. Braces (t 0) (Then (VariableStmt kind.Boolean (t 1) (t 2) (t 3) (Atom (t 4)) (t 5)) (Then (VariableStmt kind.Byte (t 6) (t 7) (t 8) (Atom (t 9)) (t 10)) (Then (VariableStmt kind.Short (t 11) (t 12) (t 13) (Atom (t 14)) (t 15)) (Then (VariableStmt kind.Char (t 16) (t 17) (t 18) (Atom (t 19)) (t 20)) (Then (VariableStmt kind.Int (t 21) (t 22) (t 23) (Atom (t 24)) (t 25)) (Then (VariableStmt kind.Long (t 26) (t 27) (t 28) (Atom (t 29)) (t 30)) Done)))))) (t 31)) refl (refl, ((refl, refl, refl, refl, refl), ((refl, refl, refl, refl, refl), ((refl, refl, refl, refl, refl), ((refl, refl, refl, refl, refl), ((refl, refl, refl, refl, refl), ((refl, refl, refl, refl, refl), tt)))))), refl) refl refl, tt)

pub combinations_made : Each IsBlockOf combinations
combinations_made = (
  made IsBlock print_block block_of (λ t. Braces (t 0) (Then (SignalStmt (Valued kind.Int (t 1) (t 2) (t 3) (CombinedBy combine.Add (t 4) (t 5)) (t 6))) Done) (t 7)) refl (refl, ((refl, refl, refl, (refl, refl), refl), tt), refl) refl refl,
  (
    made IsBlock print_block block_of (λ t. Braces (t 0) (Then (SignalStmt (Valued kind.Int (t 1) (t 2) (t 3) (CombinedBy combine.Max (t 4) (t 5)) (t 6))) Done) (t 7)) refl (refl, ((refl, refl, refl, (refl, refl), refl), tt), refl) refl refl,
    (
      made IsBlock print_block block_of (λ t. Braces (t 0) (Then (SignalStmt (Valued kind.Int (t 1) (t 2) (t 3) (CombinedBy combine.Min (t 4) (t 5)) (t 6))) Done) (t 7)) refl (refl, ((refl, refl, refl, (refl, refl), refl), tt), refl) refl refl,
      (
        made IsBlock print_block block_of (λ t. Braces (t 0) (Then (SignalStmt (Valued kind.Int (t 1) (t 2) (t 3) (CombinedBy combine.And (t 4) (t 5)) (t 6))) Done) (t 7)) refl (refl, ((refl, refl, refl, (refl, refl), refl), tt), refl) refl refl,
        (
          made IsBlock print_block block_of (λ t. Braces (t 0) (Then (SignalStmt (Valued kind.Int (t 1) (t 2) (t 3) (CombinedBy combine.Or (t 4) (t 5)) (t 6))) Done) (t 7)) refl (refl, ((refl, refl, refl, (refl, refl), refl), tt), refl) refl refl,
          (made IsBlock print_block block_of (λ t. Braces (t 0) (Then (SignalStmt (Valued kind.Int (t 1) (t 2) (t 3) (CombinedBy combine.Xor (t 4) (t 5)) (t 6))) Done) (t 7)) refl (refl, ((refl, refl, refl, (refl, refl), refl), tt), refl) refl refl, tt),
        ),
      ),
    ),
  ),
)

pub updates_made : Each IsBlockOf updates
updates_made = (
  made IsBlock print_block block_of (λ t. Braces (t 0) (Then (AssignStmt (Some op2.Add) (t 1) (t 2) (Atom (t 3)) (t 4)) (Then (AssignStmt (Some op2.Sub) (t 5) (t 6) (Atom (t 7)) (t 8)) (Then (AssignStmt (Some op2.Mul) (t 9) (t 10) (Atom (t 11)) (t 12)) (Then (AssignStmt (Some op2.Div) (t 13) (t 14) (Atom (t 15)) (t 16)) (Then (AssignStmt (Some op2.Rem) (t 17) (t 18) (Atom (t 19)) (t 20)) Done))))) (t 21)) refl (refl, ((refl, refl, refl, refl), ((refl, refl, refl, refl), ((refl, refl, refl, refl), ((refl, refl, refl, refl), ((refl, refl, refl, refl), tt))))), refl) refl refl,
  (
    made IsBlock print_block block_of (λ t. Braces (t 0) (Then (AssignStmt (Some op2.And) (t 1) (t 2) (Atom (t 3)) (t 4)) (Then (AssignStmt (Some op2.Or) (t 5) (t 6) (Atom (t 7)) (t 8)) (Then (AssignStmt (Some op2.Xor) (t 9) (t 10) (Atom (t 11)) (t 12)) Done))) (t 13)) refl (refl, ((refl, refl, refl, refl), ((refl, refl, refl, refl), ((refl, refl, refl, refl), tt))), refl) refl refl,
    (made IsBlock print_block block_of (λ t. Braces (t 0) (Then (AssignStmt (Some op2.Shl) (t 1) (t 2) (Atom (t 3)) (t 4)) (Then (AssignStmt (Some op2.Shr) (t 5) (t 6) (Atom (t 7)) (t 8)) (Then (AssignStmt (Some op2.Ushr) (t 9) (t 10) (Atom (t 11)) (t 12)) Done))) (t 13)) refl (refl, ((refl, refl, refl, refl), ((refl, refl, refl, refl), ((refl, refl, refl, refl), tt))), refl) refl refl, tt),
  ),
)

pub blocks_made : Each IsBlockOf blocks
blocks_made = (
  made IsBlock print_block block_of (λ t. Braces (t 0) (Then (ParStmt (Braces (t 1) Done (t 2)) NoOther) Done) (t 3)) refl (refl, (((refl, tt, refl), tt), tt), refl) refl refl,
  (
    made IsBlock print_block block_of (λ t. Braces (t 0) (Then (ParStmt (Braces (t 1) (Then (EmptyStmt (t 2)) Done) (t 3)) (Beside (t 4) (Braces (t 5) (Then (StillStmt (t 6) (t 7)) Done) (t 8)) (Beside (t 9) (Braces (t 10) Done (t 11)) NoOther))) Done) (t 12)) refl (refl, (((refl, (refl, tt), refl), (refl, (refl, ((refl, refl), tt), refl), (refl, (refl, tt, refl), tt))), tt), refl) refl refl,
    (
      made IsBlock print_block block_of (λ t. Braces (t 0) (Then (WhileStmt (t 1) (t 2) (t 3) (t 4) (Braces (t 5) Done (t 6))) Done) (t 7)) refl (refl, ((refl, refl, refl, refl, (refl, tt, refl)), tt), refl) refl refl,
      (
        made IsBlock print_block block_of (λ t. Braces (t 0) (Then (GuardedStmt (t 1) (Later (t 2) (SignalTest (t 3)) (t 4)) (Braces (t 5) Done (t 6))) Done) (t 7)) refl (refl, ((refl, (refl, refl, refl), (refl, tt, refl)), tt), refl) refl refl,
        (
          made IsBlock print_block block_of (λ t. Braces (t 0) (Then (GuardedStmt (t 1) (AtOnce (t 2) (t 3) (SignalTest (t 4)) (t 5)) (Braces (t 6) Done (t 7))) Done) (t 8)) refl (refl, ((refl, (refl, refl, refl, refl), (refl, tt, refl)), tt), refl) refl refl,
          (
            made IsBlock print_block block_of (λ t. Braces (t 0) (Then (WeakStmt (t 1) (t 2) (Later (t 3) (SignalTest (t 4)) (t 5)) (Braces (t 6) Done (t 7))) Done) (t 8)) refl (refl, ((refl, refl, (refl, refl, refl), (refl, tt, refl)), tt), refl) refl refl,
            (
              made IsBlock print_block block_of (λ t. Braces (t 0) (Then (WeakStmt (t 1) (t 2) (AtOnce (t 3) (t 4) (SignalTest (t 5)) (t 6)) (Braces (t 7) Done (t 8))) Done) (t 9)) refl (refl, ((refl, refl, (refl, refl, refl, refl), (refl, tt, refl)), tt), refl) refl refl,
              (
                made IsBlock print_block block_of (λ t. Braces (t 0) (Then (GuardedStmt (t 1) (Later (t 2) (SignalTest (t 3)) (t 4)) (Braces (t 5) Done (t 6))) Done) (t 7)) refl (refl, ((refl, (refl, refl, refl), (refl, tt, refl)), tt), refl) refl refl,
                (
                  made IsBlock print_block block_of (λ t. Braces (t 0) (Then (GuardedStmt (t 1) (AtOnce (t 2) (t 3) (SignalTest (t 4)) (t 5)) (Braces (t 6) Done (t 7))) Done) (t 8)) refl (refl, ((refl, (refl, refl, refl, refl), (refl, tt, refl)), tt), refl) refl refl,
                  (
                    made IsBlock print_block block_of (λ t. Braces (t 0) (Then (GuardedStmt (t 1) (Later (t 2) (SignalTest (t 3)) (t 4)) (Braces (t 5) Done (t 6))) Done) (t 7)) refl (refl, ((refl, (refl, refl, refl), (refl, tt, refl)), tt), refl) refl refl,
                    (
                      made IsBlock print_block block_of (λ t. Braces (t 0) (Then (GuardedStmt (t 1) (AtOnce (t 2) (t 3) (SignalTest (t 4)) (t 5)) (Braces (t 6) Done (t 7))) Done) (t 8)) refl (refl, ((refl, (refl, refl, refl, refl), (refl, tt, refl)), tt), refl) refl refl,
                      (
                        made IsBlock print_block block_of (λ t. Braces (t 0) (Then (TrapStmt (t 1) (t 2) (t 3) (t 4) (Braces (t 5) Done (t 6))) Done) (t 7)) refl (refl, ((refl, refl, refl, refl, (refl, tt, refl)), tt), refl) refl refl,
                        (made IsBlock print_block block_of (λ t. Braces (t 0) (Then (LoopStmt (t 1) (Braces (t 2) Done (t 3)) (t 4) (t 5) (SignalTest (t 6)) (t 7) (t 8)) Done) (t 9)) refl (refl, ((refl, (refl, tt, refl), refl, refl, refl, refl, refl), tt), refl) refl refl, tt),
                      ),
                    ),
                  ),
                ),
              ),
            ),
          ),
        ),
      ),
    ),
  ),
)

pub branches_made : Each IsBlockOf branches
branches_made = (
  made IsBlock print_block block_of (λ t. Braces (t 0) (Then (IfStmt (t 1) (t 2) (Atom (t 3)) (t 4) (Braces (t 5) Done (t 6)) NoElse) Done) (t 7)) refl (refl, ((refl, refl, refl, refl, (refl, tt, refl), tt), tt), refl) refl refl,
  (
    made IsBlock print_block block_of (λ t. Braces (t 0) (Then (IfStmt (t 1) (t 2) (Atom (t 3)) (t 4) (Braces (t 5) Done (t 6)) (ElseBlock (t 7) (Braces (t 8) Done (t 9)))) Done) (t 10)) refl (refl, ((refl, refl, refl, refl, (refl, tt, refl), (refl, (refl, tt, refl))), tt), refl) refl refl,
    (
      made IsBlock print_block block_of (λ t. Braces (t 0) (Then (PresentStmt (t 1) (t 2) (SignalTest (t 3)) (t 4) (Braces (t 5) Done (t 6)) NoElse) Done) (t 7)) refl (refl, ((refl, refl, refl, refl, (refl, tt, refl), tt), tt), refl) refl refl,
      (
        made IsBlock print_block block_of (λ t. Braces (t 0) (Then (PresentStmt (t 1) (t 2) (SignalTest (t 3)) (t 4) (Braces (t 5) Done (t 6)) (ElseBlock (t 7) (Braces (t 8) Done (t 9)))) Done) (t 10)) refl (refl, ((refl, refl, refl, refl, (refl, tt, refl), (refl, (refl, tt, refl))), tt), refl) refl refl,
        (
          made IsBlock print_block block_of (λ t. Braces (t 0) (Then (IfStmt (t 1) (t 2) (Atom (t 3)) (t 4) (Braces (t 5) (Then (IfStmt (t 6) (t 7) (Atom (t 8)) (t 9) (Braces (t 10) Done (t 11)) NoElse) Done) (t 12)) (ElseBlock (t 13) (Braces (t 14) Done (t 15)))) Done) (t 16)) refl (refl, ((refl, refl, refl, refl, (refl, ((refl, refl, refl, refl, (refl, tt, refl), tt), tt), refl), (refl, (refl, tt, refl))), tt), refl) refl refl,
          (made IsBlock print_block block_of (λ t. Braces (t 0) (Then (IfStmt (t 1) (t 2) (Atom (t 3)) (t 4) (Braces (t 5) (Then (IfStmt (t 6) (t 7) (Atom (t 8)) (t 9) (Braces (t 10) Done (t 11)) (ElseBlock (t 12) (Braces (t 13) Done (t 14)))) Done) (t 15)) NoElse) Done) (t 16)) refl (refl, ((refl, refl, refl, refl, (refl, ((refl, refl, refl, refl, (refl, tt, refl), (refl, (refl, tt, refl))), tt), refl), tt), tt), refl) refl refl, tt),
        ),
      ),
    ),
  ),
)

pub programs_made : Each IsProgramOf programs
programs_made = (
  made IsProgram print_program tree_of (λ t. record { system = (t 0); open_system = (t 1); interface = (t 2); open_ports = (t 3); ports = (PortThen (SignalPort direction.Input (t 4) (Pure (t 5) (t 6) (t 7))) (PortThen (SignalPort direction.Output (t 8) (Pure (t 9) (t 10) (t 11))) NoPort)); close_ports = (t 12); first = (Braces (t 13) Done (t 14)); others = NoOther; close_system = (t 15) }) refl (record { system = refl; open_system = refl; interface = refl; open_ports = refl; ports = ((refl, (refl, refl, refl)), ((refl, (refl, refl, refl)), tt)); close_ports = refl; first = (refl, tt, refl); others = tt; close_system = refl }) refl refl,
  (
    made IsProgram print_program tree_of (λ t. record { system = (t 0); open_system = (t 1); interface = (t 2); open_ports = (t 3); ports = (PortThen (SignalPort direction.Input (t 4) (Valued kind.Int (t 5) (t 6) (t 7) NotCombined (t 8))) (PortThen (SignalPort direction.Output (t 9) (Valued kind.Long (t 10) (t 11) (t 12) (CombinedBy combine.Max (t 13) (t 14)) (t 15))) NoPort)); close_ports = (t 16); first = (Braces (t 17) Done (t 18)); others = NoOther; close_system = (t 19) }) refl (record { system = refl; open_system = refl; interface = refl; open_ports = refl; ports = ((refl, (refl, refl, refl, tt, refl)), ((refl, (refl, refl, refl, (refl, refl), refl)), tt)); close_ports = refl; first = (refl, tt, refl); others = tt; close_system = refl }) refl refl,
    (
      made IsProgram print_program tree_of (λ t. record { system = (t 0); open_system = (t 1); interface = (t 2); open_ports = (t 3); ports = (PortThen (ChannelPort kind.Boolean (t 4) (t 5) (t 6) (t 7)) (PortThen (ChannelPort kind.Int (t 8) (t 9) (t 10) (t 11)) NoPort)); close_ports = (t 12); first = (Braces (t 13) Done (t 14)); others = NoOther; close_system = (t 15) }) refl (record { system = refl; open_system = refl; interface = refl; open_ports = refl; ports = ((refl, refl, refl, refl), ((refl, refl, refl, refl), tt)); close_ports = refl; first = (refl, tt, refl); others = tt; close_system = refl }) refl refl,
      (made IsProgram print_program tree_of (λ t. record { system = (t 0); open_system = (t 1); interface = (t 2); open_ports = (t 3); ports = NoPort; close_ports = (t 4); first = (Braces (t 5) (Then (EmptyStmt (t 6)) Done) (t 7)); others = (Beside (t 8) (Braces (t 9) Done (t 10)) (Beside (t 11) (Braces (t 12) Done (t 13)) NoOther)); close_system = (t 14) }) refl (record { system = refl; open_system = refl; interface = refl; open_ports = refl; ports = tt; close_ports = refl; first = (refl, (refl, tt), refl); others = (refl, (refl, tt, refl), (refl, (refl, tt, refl), tt)); close_system = refl }) refl refl, tt),
    ),
  ),
)

-- a source is one tree at most

abbrev pub OneReading : Type 0
OneReading = (source : List ℕ) (ts us : List Token) → AreTokens source ts → AreTokens source us → ts ≡ us

one : {S T : Type 0} (Is : S → Type 0) (print_all : S → List Token → List Token) (of : List ℕ → S → T) → OneReading → ((x y : S) → Is x → Is y → print_all x [] ≡ print_all y [] → x ≡ y) → (source : List ℕ) (t u : T) → IsMadeOf Is print_all of source t → IsMadeOf Is print_all of source u → t ≡ u
one Is print_all of reading unique source t u m n = m.stands ∙ ap (of source) (unique m.sentence n.sentence m.is_sentence n.is_sentence (m.printed ∙ reading source m.tokens n.tokens m.are n.are ∙ sym n.printed)) ∙ sym n.stands

one-block : (x y : Block) → IsBlock x → IsBlock y → print_block x [] ≡ print_block y [] → x ≡ y
one-block x y h g e = (block-same x y h g e).0

pub one_expression_tree : OneReading → (source : List ℕ) (t u : raw.Raw Name) → IsExpressionOf source t → IsExpressionOf source u → t ≡ u
one_expression_tree reading = one IsExpr print raw_of reading one-expression

pub one_test_tree : OneReading → (source : List ℕ) (t u : signal_test.Test Name) → IsTestOf source t → IsTestOf source u → t ≡ u
one_test_tree reading = one IsTest print_test test_of reading one-test

pub one_block_tree : OneReading → (source : List ℕ) (t u : SourceBlock) → IsBlockOf source t → IsBlockOf source u → t ≡ u
one_block_tree reading = one IsBlock print_block block_of reading one-block

pub one_program_tree : OneReading → (source : List ℕ) (t u : SourceTree) → IsProgramOf source t → IsProgramOf source u → t ≡ u
one_program_tree reading = one IsProgram print_program tree_of reading one-program

-- so it is no other tree
unmade : {S T : Type 0} (Is : S → Type 0) (print_all : S → List Token → List Token) (of : List ℕ → S → T) → OneReading → ((x y : S) → Is x → Is y → print_all x [] ≡ print_all y [] → x ≡ y) → {source : List ℕ} {u : T} (t : T) → IsMadeOf Is print_all of source t → (t ≡ u → ⊥) → IsMadeOf Is print_all of source u → ⊥
unmade Is print_all of reading unique {source} {u} t m differ n = differ (one Is print_all of reading unique source t u m n)

-- the first statement of a block, and parts of a form and of an expression

first_place : List SourceStmt → ℕ
first_place [] = 0
first_place (s ∷ ss) = (stmt.out-Stmt Name (raw.Raw Name) s).at

first_form : List SourceStmt → SourceForm
first_form [] = form.Empty
first_form (s ∷ ss) = (stmt.out-Stmt Name (raw.Raw Name) s).form

in_block : SourceBlock → List SourceStmt
in_block b = (block.out-Block Name (raw.Raw Name) b).statements

in_block_is : (a : ℕ) (ss : List SourceStmt) → in_block (block_from a ss) ≡ ss
unfolding in_block
in_block_is a ss = ap (λ r. r.statements) (block.out-roll-Block Name (raw.Raw Name) (record { at = a; statements = ss }))

place_is : (a c : ℕ) (f : SourceForm) → first_place (in_block (block_from a (stmt_at c f ∷ []))) ≡ c
unfolding first_place
place_is a c f = ap first_place (in_block_is a (stmt_at c f ∷ [])) ∙ ap (λ r. r.at) (stmt.out-roll-Stmt Name (raw.Raw Name) (record { at = c; form = f }))

form_is : (a c : ℕ) (f : SourceForm) → first_form (in_block (block_from a (stmt_at c f ∷ []))) ≡ f
unfolding first_form
form_is a c f = ap first_form (in_block_is a (stmt_at c f ∷ [])) ∙ ap (λ r. r.form) (stmt.out-roll-Stmt Name (raw.Raw Name) (record { at = c; form = f }))

places_apart : (a b c d : ℕ) (f g : SourceForm) → (c ≡ d → ⊥) → block_from a (stmt_at c f ∷ []) ≡ block_from b (stmt_at d g ∷ []) → ⊥
places_apart a b c d f g apart e = apart (sym (place_is a c f) ∙ ap (λ x. first_place (in_block x)) e ∙ place_is b d g)

forms_apart : (a b c d : ℕ) (f g : SourceForm) → (f ≡ g → ⊥) → block_from a (stmt_at c f ∷ []) ≡ block_from b (stmt_at d g ∷ []) → ⊥
forms_apart a b c d f g apart e = apart (sym (form_is a c f) ∙ ap (λ x. first_form (in_block x)) e ∙ form_is b d g)

other_in : Form-F Name (raw.Raw Name) SourceForm SourceBlock SourceStmt → Option SourceBlock
other_in (Form-F.If e b o) = o
other_in (Form-F.Present t b o) = o
other_in _ = None

other_of : SourceForm → Option SourceBlock
other_of f = other_in (form.out-Form Name (raw.Raw Name) f)

other_if : (e : raw.Raw Name) (b : SourceBlock) (o : Option SourceBlock) → other_of (form.If e b o) ≡ o
unfolding other_of other_in
other_if e b o = ap other_of (sym (rolls-If e b o)) ∙ ap other_in (form.out-roll-Form Name (raw.Raw Name) (Form-F.If e b o))

other_present : (t : signal_test.Test Name) (b : SourceBlock) (o : Option SourceBlock) → other_of (form.Present t b o) ≡ o
unfolding other_of other_in
other_present t b o = ap other_of (sym (rolls-Present t b o)) ∙ ap other_in (form.out-roll-Form Name (raw.Raw Name) (Form-F.Present t b o))

ifs_apart : (e f : raw.Raw Name) (b c : SourceBlock) (o p : Option SourceBlock) → (o ≡ p → ⊥) → form.If e b o ≡ form.If f c p → ⊥
ifs_apart e f b c o p apart h = apart (sym (other_if e b o) ∙ ap other_of h ∙ other_if f c p)

presents_apart : (t u : signal_test.Test Name) (b c : SourceBlock) (o p : Option SourceBlock) → (o ≡ p → ⊥) → form.Present t b o ≡ form.Present u c p → ⊥
presents_apart t u b c o p apart h = apart (sym (other_present t b o) ∙ ap other_of h ∙ other_present u c p)

right_in : Raw-F Name (raw.Raw Name) → Option (raw.Raw Name)
right_in (Raw-F.Binary at op l r) = Some r
right_in _ = None

right_of : raw.Raw Name → Option (raw.Raw Name)
right_of e = right_in (raw.out-Raw Name e)

right_is : (a : ℕ) (op : Op2) (l r : raw.Raw Name) → right_of (raw.Binary a op l r) ≡ Some r
unfolding right_of right_in
right_is a op l r = ap right_of (sym (rolls-Binary a op l r)) ∙ ap right_in (raw.out-roll-Raw Name (Raw-F.Binary a op l r))

rights_apart : (a b : ℕ) (o p : Op2) (l m r s : raw.Raw Name) → (Some r ≡ Some s → ⊥) → raw.Binary a o l r ≡ raw.Binary b p m s → ⊥
rights_apart a b o p l m r s apart e = apart (sym (right_is a o l r) ∙ ap right_of e ∙ right_is b p m s)

-- parts of declarations

abbrev combination_place : Option Combination → ℕ
combination_place None = 0
combination_place (Some c) = c.at

abbrev valued_place : Option ast_valued.Valued → ℕ
valued_place None = 0
valued_place (Some v) = combination_place v.combine

abbrev declaring : Signal Name → SourceForm
declaring s = form.Declare s

declares_apart : (s t : Signal Name) → (valued_place s.valued ≡ valued_place t.valued → ⊥) → declaring s ≡ declaring t → ⊥
declares_apart s t apart h = let x : s ≡ t = cc in apart (ap (λ (u : Signal Name). valued_place u.valued) x)

abbrev direction_in : List (port.Port Name) → Option Direction
direction_in (port_is.Signal s ∷ ps) = Some s.direction
direction_in _ = None

abbrev kind_in : List (port.Port Name) → Option Kind
kind_in (port_is.Channel c ∷ ps) = Some c.kind
kind_in _ = None

abbrev place_in : List (port.Port Name) → ℕ
place_in (port_is.Channel c ∷ ps) = c.at
place_in _ = 0

pub wrong_expressions_unmade : OneReading → Each IsNoExpressionOf wrong_expressions
wrong_expressions_unmade reading = (
  unmade IsExpr print raw_of reading one-expression (raw.Binary 3 op2.Sub (raw.Binary 1 op2.Sub (variable_at 0 (codes "a")) (variable_at 2 (codes "b"))) (variable_at 4 (codes "c"))) (made IsExpr print raw_of (λ t. Infix op2.Sub (t 3) (Infix op2.Sub (t 1) (Atom (t 0)) (Atom (t 2))) (Atom (t 4))) refl (refl, omega arith, omega arith, (refl, omega arith, omega arith, refl, refl), refl) refl refl) (λ e. cc),
  (
    unmade IsExpr print raw_of reading one-expression (raw.Binary 1 op2.Add (variable_at 0 (codes "a")) (raw.Binary 3 op2.Mul (variable_at 2 (codes "b")) (variable_at 4 (codes "c")))) (made IsExpr print raw_of (λ t. Infix op2.Add (t 1) (Atom (t 0)) (Infix op2.Mul (t 3) (Atom (t 2)) (Atom (t 4)))) refl (refl, omega arith, omega arith, refl, (refl, omega arith, omega arith, refl, refl)) refl refl) (λ e. cc),
    (
      unmade IsExpr print raw_of reading one-expression (raw.Binary 2 op2.Add (raw.Unary 0 op1.Minus (variable_at 1 (codes "a"))) (variable_at 3 (codes "b"))) (made IsExpr print raw_of (λ t. Infix op2.Add (t 2) (Prefix op1.Minus (t 0) (Atom (t 1))) (Atom (t 3))) refl (refl, omega arith, omega arith, (refl, refl, refl), refl) refl refl) (λ e. cc),
      (
        unmade IsExpr print raw_of reading one-expression (raw.Binary 7 op2.Add (raw.Cast 0 kind.Byte (variable_at 6 (codes "a"))) (variable_at 8 (codes "b"))) (made IsExpr print raw_of (λ t. Infix op2.Add (t 4) (Cast kind.Byte (t 0) (t 1) (t 2) (Atom (t 3))) (Atom (t 5))) refl (refl, omega arith, omega arith, (refl, refl, refl, refl, refl), refl) refl refl) (λ e. cc),
        (
          unmade IsExpr print raw_of reading one-expression (raw.Binary 1 op2.Add (variable_at 0 (codes "a")) (variable_at 2 (codes "b"))) (made IsExpr print raw_of (λ t. Infix op2.Add (t 1) (Atom (t 0)) (Atom (t 2))) refl (refl, omega arith, omega arith, refl, refl) refl refl) (λ e. cc),
          (
            unmade IsExpr print raw_of reading one-expression (raw.Binary 1 op2.Add (variable_at 0 (codes "a")) (variable_at 2 (codes "b"))) (made IsExpr print raw_of (λ t. Infix op2.Add (t 1) (Atom (t 0)) (Atom (t 2))) refl (refl, omega arith, omega arith, refl, refl) refl refl) (rights_apart 1 1 op2.Add op2.Add (variable_at 0 (codes "a")) (variable_at 0 (codes "a")) (variable_at 2 (codes "b")) (variable_at 1 (codes "b")) (λ e. cc)),
            (
              unmade IsExpr print raw_of reading one-expression (raw.Binary 1 op2.Equal (variable_at 0 (codes "a")) (variable_at 3 (codes "b"))) (made IsExpr print raw_of (λ t. Infix op2.Equal (t 1) (Atom (t 0)) (Atom (t 2))) refl (refl, omega arith, omega arith, refl, refl) refl refl) (λ e. cc),
              (
                unmade IsExpr print raw_of reading one-expression (raw.Group 0 (variable_at 1 (codes "a"))) (made IsExpr print raw_of (λ t. Group (t 0) (Atom (t 1)) (t 2)) refl (refl, refl, refl) refl refl) (λ e. cc),
                (
                  unmade IsExpr print raw_of reading one-expression (raw.Least 0 least_int) (made IsExpr print raw_of (λ t. Least (t 0) (t 1)) refl (refl, refl) refl refl) (λ e. cc),
                  (unmade IsExpr print raw_of reading one-expression (raw.Status 0 1 (name_at 1 (codes "A"))) (made IsExpr print raw_of (λ t. Status (t 0) (t 1)) refl (refl, refl) refl refl) (λ e. cc), tt),
                ),
              ),
            ),
          ),
        ),
      ),
    ),
  ),
)

pub wrong_tests_unmade : OneReading → Each IsNoTestOf wrong_tests
wrong_tests_unmade reading = (
  unmade IsTest print_test test_of reading one-test (signal_test.Both 2 (signal_test.Not 0 (signal_at 1 (codes "A"))) (signal_at 4 (codes "B"))) (made IsTest print_test test_of (λ t. JoinTest join.Both (t 2) (NotTest (t 0) (SignalTest (t 1))) (SignalTest (t 3))) refl (refl, omega arith, omega arith, (refl, refl, refl), refl) refl refl) (λ e. cc),
  (
    unmade IsTest print_test test_of reading one-test (signal_test.Either 1 (signal_at 0 (codes "A")) (signal_test.Both 4 (signal_at 3 (codes "B")) (signal_at 6 (codes "C")))) (made IsTest print_test test_of (λ t. JoinTest join.Either (t 1) (SignalTest (t 0)) (JoinTest join.Both (t 3) (SignalTest (t 2)) (SignalTest (t 4)))) refl (refl, omega arith, omega arith, refl, (refl, omega arith, omega arith, refl, refl)) refl refl) (λ e. cc),
    (
      unmade IsTest print_test test_of reading one-test (signal_test.Either 4 (signal_test.Either 1 (signal_at 0 (codes "A")) (signal_at 3 (codes "B"))) (signal_at 6 (codes "C"))) (made IsTest print_test test_of (λ t. JoinTest join.Either (t 3) (JoinTest join.Either (t 1) (SignalTest (t 0)) (SignalTest (t 2))) (SignalTest (t 4))) refl (refl, omega arith, omega arith, (refl, omega arith, omega arith, refl, refl), refl) refl refl) (λ e. cc),
      (
        unmade IsTest print_test test_of reading one-test (signal_test.Both 1 (signal_at 0 (codes "A")) (signal_at 3 (codes "B"))) (made IsTest print_test test_of (λ t. JoinTest join.Both (t 1) (SignalTest (t 0)) (SignalTest (t 2))) refl (refl, omega arith, omega arith, refl, refl) refl refl) (λ e. cc),
        (unmade IsTest print_test test_of reading one-test (signal_test.Both 1 (signal_at 0 (codes "A")) (signal_at 3 (codes "B"))) (made IsTest print_test test_of (λ t. JoinTest join.Both (t 1) (SignalTest (t 0)) (SignalTest (t 2))) refl (refl, omega arith, omega arith, refl, refl) refl refl) (λ e. cc), tt),
      ),
    ),
  ),
)

pub wrong_blocks_unmade : OneReading → Each IsNoBlockOf wrong_blocks
wrong_blocks_unmade reading = (
  unmade IsBlock print_block block_of reading one-block (block_from 0 (stmt_at 1 form.Pause ∷ [])) (made IsBlock print_block block_of (λ t. Braces (t 0) (Then (StillStmt (t 1) (t 2)) Done) (t 3)) refl (refl, ((refl, refl), tt), refl) refl refl) (forms_apart 0 0 1 1 form.Pause form.Halt (λ e. cc)),
  (
    unmade IsBlock print_block block_of reading one-block (block_from 0 (stmt_at 1 form.Pause ∷ [])) (made IsBlock print_block block_of (λ t. Braces (t 0) (Then (StillStmt (t 1) (t 2)) Done) (t 3)) refl (refl, ((refl, refl), tt), refl) refl refl) (places_apart 0 0 1 0 form.Pause form.Pause (λ e. cc)),
    (
      unmade IsBlock print_block block_of reading one-block (block_from 0 (stmt_at 1 (form.Emit 6 (name_at 6 (codes "A")) None) ∷ [])) (made IsBlock print_block block_of (λ t. Braces (t 0) (Then (EmitStmt (t 1) (t 2) NoValue (t 3)) Done) (t 4)) refl (refl, ((refl, refl, tt, refl), tt), refl) refl refl) (forms_apart 0 0 1 1 (form.Emit 6 (name_at 6 (codes "A")) None) (form.Sustain 6 (name_at 6 (codes "A")) None) (λ e. cc)),
      (
        unmade IsBlock print_block block_of reading one-block (block_from 0 (stmt_at 1 (form.Emit 6 (name_at 6 (codes "A")) None) ∷ [])) (made IsBlock print_block block_of (λ t. Braces (t 0) (Then (EmitStmt (t 1) (t 2) NoValue (t 3)) Done) (t 4)) refl (refl, ((refl, refl, tt, refl), tt), refl) refl refl) (forms_apart 0 0 1 1 (form.Emit 6 (name_at 6 (codes "A")) None) (form.Emit 1 (name_at 1 (codes "A")) None) (λ e. cc)),
        (
          unmade IsBlock print_block block_of reading one-block (block_from 0 (stmt_at 1 (form.Emit 6 (name_at 6 (codes "A")) (Some (literal_at 8 kind.Int 5))) ∷ [])) (made IsBlock print_block block_of (λ t. Braces (t 0) (Then (EmitStmt (t 1) (t 2) (Value (t 3) (Atom (t 4)) (t 5)) (t 6)) Done) (t 7)) refl (refl, ((refl, refl, (refl, refl, refl), refl), tt), refl) refl refl) (forms_apart 0 0 1 1 (form.Emit 6 (name_at 6 (codes "A")) (Some (literal_at 8 kind.Int 5))) (form.Emit 6 (name_at 6 (codes "A")) None) (λ e. cc)),
          (
            unmade IsBlock print_block block_of reading one-block (block_from 0 (stmt_at 1 (form.Variable kind.Int 5 (name_at 5 (codes "x")) (literal_at 7 kind.Int 5)) ∷ [])) (made IsBlock print_block block_of (λ t. Braces (t 0) (Then (VariableStmt kind.Int (t 1) (t 2) (t 3) (Atom (t 4)) (t 5)) Done) (t 6)) refl (refl, ((refl, refl, refl, refl, refl), tt), refl) refl refl) (forms_apart 0 0 1 1 (form.Variable kind.Int 5 (name_at 5 (codes "x")) (literal_at 7 kind.Int 5)) (form.Variable kind.Long 5 (name_at 5 (codes "x")) (literal_at 7 kind.Int 5)) (λ e. cc)),
            (
              unmade IsBlock print_block block_of reading one-block (block_from 0 (stmt_at 1 (form.Update 1 (name_at 1 (codes "x")) 2 op2.Add (variable_at 4 (codes "a"))) ∷ [])) (made IsBlock print_block block_of (λ t. Braces (t 0) (Then (AssignStmt (Some op2.Add) (t 1) (t 2) (Atom (t 3)) (t 4)) Done) (t 5)) refl (refl, ((refl, refl, refl, refl), tt), refl) refl refl) (forms_apart 0 0 1 1 (form.Update 1 (name_at 1 (codes "x")) 2 op2.Add (variable_at 4 (codes "a"))) (form.Update 1 (name_at 1 (codes "x")) 1 op2.Add (variable_at 4 (codes "a"))) (λ e. cc)),
              (
                unmade IsBlock print_block block_of reading one-block (block_from 0 (stmt_at 1 (form.Update 1 (name_at 1 (codes "x")) 2 op2.Add (variable_at 4 (codes "a"))) ∷ [])) (made IsBlock print_block block_of (λ t. Braces (t 0) (Then (AssignStmt (Some op2.Add) (t 1) (t 2) (Atom (t 3)) (t 4)) Done) (t 5)) refl (refl, ((refl, refl, refl, refl), tt), refl) refl refl) (forms_apart 0 0 1 1 (form.Update 1 (name_at 1 (codes "x")) 2 op2.Add (variable_at 4 (codes "a"))) (form.Assign 1 (name_at 1 (codes "x")) (variable_at 4 (codes "a"))) (λ e. cc)),
                (
                  unmade IsBlock print_block block_of reading one-block (block_from 0 (stmt_at 1 (form.Abort false false (signal_at 7 (codes "A")) (block_from 9 [])) ∷ [])) (made IsBlock print_block block_of (λ t. Braces (t 0) (Then (GuardedStmt (t 1) (Later (t 2) (SignalTest (t 3)) (t 4)) (Braces (t 5) Done (t 6))) Done) (t 7)) refl (refl, ((refl, (refl, refl, refl), (refl, tt, refl)), tt), refl) refl refl) (forms_apart 0 0 1 1 (form.Abort false false (signal_at 7 (codes "A")) (block_from 9 [])) (form.Abort true false (signal_at 7 (codes "A")) (block_from 9 [])) (λ e. cc)),
                  (
                    unmade IsBlock print_block block_of reading one-block (block_from 0 (stmt_at 1 (form.Abort true false (signal_at 12 (codes "A")) (block_from 14 [])) ∷ [])) (made IsBlock print_block block_of (λ t. Braces (t 0) (Then (WeakStmt (t 1) (t 2) (Later (t 3) (SignalTest (t 4)) (t 5)) (Braces (t 6) Done (t 7))) Done) (t 8)) refl (refl, ((refl, refl, (refl, refl, refl), (refl, tt, refl)), tt), refl) refl refl) (forms_apart 0 0 1 1 (form.Abort true false (signal_at 12 (codes "A")) (block_from 14 [])) (form.Abort false false (signal_at 12 (codes "A")) (block_from 14 [])) (λ e. cc)),
                    (
                      unmade IsBlock print_block block_of reading one-block (block_from 0 (stmt_at 1 (form.Abort false true (signal_at 17 (codes "A")) (block_from 19 [])) ∷ [])) (made IsBlock print_block block_of (λ t. Braces (t 0) (Then (GuardedStmt (t 1) (AtOnce (t 2) (t 3) (SignalTest (t 4)) (t 5)) (Braces (t 6) Done (t 7))) Done) (t 8)) refl (refl, ((refl, (refl, refl, refl, refl), (refl, tt, refl)), tt), refl) refl refl) (forms_apart 0 0 1 1 (form.Abort false true (signal_at 17 (codes "A")) (block_from 19 [])) (form.Abort false false (signal_at 17 (codes "A")) (block_from 19 [])) (λ e. cc)),
                      (
                        unmade IsBlock print_block block_of reading one-block (block_from 0 (stmt_at 1 (form.Suspend false (signal_at 9 (codes "A")) (block_from 11 [])) ∷ [])) (made IsBlock print_block block_of (λ t. Braces (t 0) (Then (GuardedStmt (t 1) (Later (t 2) (SignalTest (t 3)) (t 4)) (Braces (t 5) Done (t 6))) Done) (t 7)) refl (refl, ((refl, (refl, refl, refl), (refl, tt, refl)), tt), refl) refl refl) (forms_apart 0 0 1 1 (form.Suspend false (signal_at 9 (codes "A")) (block_from 11 [])) (form.Suspend true (signal_at 9 (codes "A")) (block_from 11 [])) (λ e. cc)),
                        (
                          unmade IsBlock print_block block_of reading one-block (block_from 0 (stmt_at 1 (form.Every false (signal_at 7 (codes "A")) (block_from 9 [])) ∷ [])) (made IsBlock print_block block_of (λ t. Braces (t 0) (Then (GuardedStmt (t 1) (Later (t 2) (SignalTest (t 3)) (t 4)) (Braces (t 5) Done (t 6))) Done) (t 7)) refl (refl, ((refl, (refl, refl, refl), (refl, tt, refl)), tt), refl) refl refl) (forms_apart 0 0 1 1 (form.Every false (signal_at 7 (codes "A")) (block_from 9 [])) (form.Every true (signal_at 7 (codes "A")) (block_from 9 [])) (λ e. cc)),
                          (
                            unmade IsBlock print_block block_of reading one-block (block_from 0 (stmt_at 1 (form.Await true (signal_at 17 (codes "A"))) ∷ [])) (made IsBlock print_block block_of (λ t. Braces (t 0) (Then (AwaitStmt (t 1) (AtOnce (t 2) (t 3) (SignalTest (t 4)) (t 5)) (t 6)) Done) (t 7)) refl (refl, ((refl, (refl, refl, refl, refl), refl), tt), refl) refl refl) (forms_apart 0 0 1 1 (form.Await true (signal_at 17 (codes "A"))) (form.Await false (signal_at 17 (codes "A"))) (λ e. cc)),
                            (
                              unmade IsBlock print_block block_of reading one-block (block_from 0 (stmt_at 1 (form.Declare (valued_at 12 (codes "A") kind.Int (Some (record { at = 22; operator = combine.Max })))) ∷ [])) (made IsBlock print_block block_of (λ t. Braces (t 0) (Then (SignalStmt (Valued kind.Int (t 1) (t 2) (t 3) (CombinedBy combine.Max (t 4) (t 5)) (t 6))) Done) (t 7)) refl (refl, ((refl, refl, refl, (refl, refl), refl), tt), refl) refl refl) (forms_apart 0 0 1 1 (form.Declare (valued_at 12 (codes "A") kind.Int (Some (record { at = 22; operator = combine.Max })))) (form.Declare (valued_at 12 (codes "A") kind.Int (Some (record { at = 14; operator = combine.Max })))) (declares_apart (valued_at 12 (codes "A") kind.Int (Some (record { at = 22; operator = combine.Max }))) (valued_at 12 (codes "A") kind.Int (Some (record { at = 14; operator = combine.Max }))) (λ e. cc))),
                              (
                                unmade IsBlock print_block block_of reading one-block (block_from 0 (stmt_at 1 (form.If (variable_at 4 (codes "a")) (block_from 6 (stmt_at 7 (form.If (variable_at 10 (codes "b")) (block_from 12 []) None) ∷ [])) (Some (block_from 19 []))) ∷ [])) (made IsBlock print_block block_of (λ t. Braces (t 0) (Then (IfStmt (t 1) (t 2) (Atom (t 3)) (t 4) (Braces (t 5) (Then (IfStmt (t 6) (t 7) (Atom (t 8)) (t 9) (Braces (t 10) Done (t 11)) NoElse) Done) (t 12)) (ElseBlock (t 13) (Braces (t 14) Done (t 15)))) Done) (t 16)) refl (refl, ((refl, refl, refl, refl, (refl, ((refl, refl, refl, refl, (refl, tt, refl), tt), tt), refl), (refl, (refl, tt, refl))), tt), refl) refl refl) (forms_apart 0 0 1 1 (form.If (variable_at 4 (codes "a")) (block_from 6 (stmt_at 7 (form.If (variable_at 10 (codes "b")) (block_from 12 []) None) ∷ [])) (Some (block_from 19 []))) (form.If (variable_at 4 (codes "a")) (block_from 6 (stmt_at 7 (form.If (variable_at 10 (codes "b")) (block_from 12 []) (Some (block_from 19 []))) ∷ [])) None) (ifs_apart (variable_at 4 (codes "a")) (variable_at 4 (codes "a")) (block_from 6 (stmt_at 7 (form.If (variable_at 10 (codes "b")) (block_from 12 []) None) ∷ [])) (block_from 6 (stmt_at 7 (form.If (variable_at 10 (codes "b")) (block_from 12 []) (Some (block_from 19 []))) ∷ [])) (Some (block_from 19 [])) None (λ e. cc))),
                                (
                                  unmade IsBlock print_block block_of reading one-block (block_from 0 (stmt_at 1 (form.If (variable_at 4 (codes "a")) (block_from 6 (stmt_at 7 (form.If (variable_at 10 (codes "b")) (block_from 12 []) (Some (block_from 18 []))) ∷ [])) None) ∷ [])) (made IsBlock print_block block_of (λ t. Braces (t 0) (Then (IfStmt (t 1) (t 2) (Atom (t 3)) (t 4) (Braces (t 5) (Then (IfStmt (t 6) (t 7) (Atom (t 8)) (t 9) (Braces (t 10) Done (t 11)) (ElseBlock (t 12) (Braces (t 13) Done (t 14)))) Done) (t 15)) NoElse) Done) (t 16)) refl (refl, ((refl, refl, refl, refl, (refl, ((refl, refl, refl, refl, (refl, tt, refl), (refl, (refl, tt, refl))), tt), refl), tt), tt), refl) refl refl) (forms_apart 0 0 1 1 (form.If (variable_at 4 (codes "a")) (block_from 6 (stmt_at 7 (form.If (variable_at 10 (codes "b")) (block_from 12 []) (Some (block_from 18 []))) ∷ [])) None) (form.If (variable_at 4 (codes "a")) (block_from 6 (stmt_at 7 (form.If (variable_at 10 (codes "b")) (block_from 12 []) None) ∷ [])) (Some (block_from 18 []))) (ifs_apart (variable_at 4 (codes "a")) (variable_at 4 (codes "a")) (block_from 6 (stmt_at 7 (form.If (variable_at 10 (codes "b")) (block_from 12 []) (Some (block_from 18 []))) ∷ [])) (block_from 6 (stmt_at 7 (form.If (variable_at 10 (codes "b")) (block_from 12 []) None) ∷ [])) None (Some (block_from 18 [])) (λ e. cc))),
                                  (unmade IsBlock print_block block_of reading one-block (block_from 0 (stmt_at 1 (form.Present (signal_at 9 (codes "A")) (block_from 11 []) (Some (block_from 17 []))) ∷ [])) (made IsBlock print_block block_of (λ t. Braces (t 0) (Then (PresentStmt (t 1) (t 2) (SignalTest (t 3)) (t 4) (Braces (t 5) Done (t 6)) (ElseBlock (t 7) (Braces (t 8) Done (t 9)))) Done) (t 10)) refl (refl, ((refl, refl, refl, refl, (refl, tt, refl), (refl, (refl, tt, refl))), tt), refl) refl refl) (forms_apart 0 0 1 1 (form.Present (signal_at 9 (codes "A")) (block_from 11 []) (Some (block_from 17 []))) (form.Present (signal_at 9 (codes "A")) (block_from 11 []) None) (presents_apart (signal_at 9 (codes "A")) (signal_at 9 (codes "A")) (block_from 11 []) (block_from 11 []) (Some (block_from 17 [])) None (λ e. cc))), tt),
                                ),
                              ),
                            ),
                          ),
                        ),
                      ),
                    ),
                  ),
                ),
              ),
            ),
          ),
        ),
      ),
    ),
  ),
)

pub wrong_programs_unmade : OneReading → Each IsNoProgramOf wrong_programs
wrong_programs_unmade reading = (
  unmade IsProgram print_program tree_of reading one-program (record { ports = signal_port direction.Input (pure_at 30 (codes "A")) ∷ []; domains = block_from 33 [] ∷ [] }) (made IsProgram print_program tree_of (λ t. record { system = (t 0); open_system = (t 1); interface = (t 2); open_ports = (t 3); ports = (PortThen (SignalPort direction.Input (t 4) (Pure (t 5) (t 6) (t 7))) NoPort); close_ports = (t 8); first = (Braces (t 9) Done (t 10)); others = NoOther; close_system = (t 11) }) refl (record { system = refl; open_system = refl; interface = refl; open_ports = refl; ports = ((refl, (refl, refl, refl)), tt); close_ports = refl; first = (refl, tt, refl); others = tt; close_system = refl }) refl refl) (λ e. let x = ap (λ (t : SourceTree). direction_in t.ports) e in cc),
  (
    unmade IsProgram print_program tree_of reading one-program (record { ports = channel_port kind.Int 29 (codes "C") ∷ []; domains = block_from 32 [] ∷ [] }) (made IsProgram print_program tree_of (λ t. record { system = (t 0); open_system = (t 1); interface = (t 2); open_ports = (t 3); ports = (PortThen (ChannelPort kind.Int (t 4) (t 5) (t 6) (t 7)) NoPort); close_ports = (t 8); first = (Braces (t 9) Done (t 10)); others = NoOther; close_system = (t 11) }) refl (record { system = refl; open_system = refl; interface = refl; open_ports = refl; ports = ((refl, refl, refl, refl), tt); close_ports = refl; first = (refl, tt, refl); others = tt; close_system = refl }) refl refl) (λ e. let x = ap (λ (t : SourceTree). kind_in t.ports) e in cc),
    (
      unmade IsProgram print_program tree_of reading one-program (record { ports = channel_port kind.Int 29 (codes "C") ∷ []; domains = block_from 32 [] ∷ [] }) (made IsProgram print_program tree_of (λ t. record { system = (t 0); open_system = (t 1); interface = (t 2); open_ports = (t 3); ports = (PortThen (ChannelPort kind.Int (t 4) (t 5) (t 6) (t 7)) NoPort); close_ports = (t 8); first = (Braces (t 9) Done (t 10)); others = NoOther; close_system = (t 11) }) refl (record { system = refl; open_system = refl; interface = refl; open_ports = refl; ports = ((refl, refl, refl, refl), tt); close_ports = refl; first = (refl, tt, refl); others = tt; close_system = refl }) refl refl) (λ e. let x = ap (λ (t : SourceTree). place_in t.ports) e in cc),
      (unmade IsProgram print_program tree_of reading one-program (record { ports = []; domains = block_from 18 [] ∷ block_from 22 [] ∷ [] }) (made IsProgram print_program tree_of (λ t. record { system = (t 0); open_system = (t 1); interface = (t 2); open_ports = (t 3); ports = NoPort; close_ports = (t 4); first = (Braces (t 5) Done (t 6)); others = (Beside (t 7) (Braces (t 8) Done (t 9)) NoOther); close_system = (t 10) }) refl (record { system = refl; open_system = refl; interface = refl; open_ports = refl; ports = tt; close_ports = refl; first = (refl, tt, refl); others = (refl, (refl, tt, refl), tt); close_system = refl }) refl refl) (λ e. let x = ap (λ (t : SourceTree). length t.domains) e in cc), tt),
    ),
  ),
)
