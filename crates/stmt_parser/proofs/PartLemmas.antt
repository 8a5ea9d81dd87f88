-- The parts of statements.
use Rattle.std.proofs.Common.{◌≡◌, ℕ, ◌+◌, ◌<◌, true, false, List, [], ◌∷◌, length, Option, Some, ap, refl, ◌∙◌, arith}
use Rattle.sj_ast.specs.declared.port.CombineOperator.{CombineOperator}
use Rattle.sj_lexer.specs.declared.token.Class.TheVariants.{Reserved, Name, Mark}
use Rattle.sj_lexer.specs.declared.token.Mark.TheVariants as mark
use Rattle.sj_lexer.specs.declared.token.Token.{Token}
use Rattle.sj_ast.specs.declared.name.Name as ast_name
use Rattle.sj_ast.specs.declared.expression.Raw as raw
use Rattle.sj_ast.specs.declared.test.Test as signal_test
use Rattle.sj_grammar.specs.definitions.Roles.{combine_of}
use Rattle.sj_grammar.specs.definitions.Statements.{Value, Later, AtOnce, CombinedBy}
use Rattle.sj_grammar.specs.definitions.Machine.{Symbol, T, Operand, More, TestOperand, MoreTest, ImmediatePart, AfterKind, CombinePart, CombineSign, ValuePart, next}
use Rattle.sj_lexer.specs.declared.token.Word.TheVariants as word
use Rattle.sj_ast.specs.declared.port.Combination.{Combination}
use Rattle.sj_grammar.specs.definitions.Classes.{same}
use Rattle.expr_parser.specs.declared.read.Stop.{Stop}
use Rattle.sj_grammar.proofs.TokenWalks.{walk-alike}
use Rattle.sj_grammar.proofs.EqualClasses.{same-class}
use Rattle.expr_parser.specs.Reading.{IsFirst, IsNotFirst, FailsAt, ReadsFrom, ReadsTestFrom}
use Rattle.expr_parser.proofs.OperandLemmas.{more-done}
use Rattle.expr_parser.proofs.TestOperandLemmas as test_operands
use Rattle.stmt_parser.specs.Reading.{ReadsCombineSign, ReadsValue, ReadsTest, ReadsClosed, ReadsClosedTest, ReadsGiven, ReadsGuard, ReadsCombined, Skips}
use Rattle.stmt_parser.proofs.WalkLemmas.{combine-goes, open-goes, class-goes, refails}

pub value-reads : (source : List ℕ) (ts rest : List Token) (d m : ℕ) (tree : raw.Raw ast_name.Name) → ReadsFrom source ts d 0 1 tree m rest → ReadsValue source ts d tree rest
value-reads source ts rest d m tree r = record {
  expr = r.front.expr;
  is_expr = r.front.is_expr;
  stands = r.front.stands;
  printed = r.front.printed;
  after = m;
  goes = record { goes = λ k. r.front.walks k ∙ more-done rest d m k r.ends };
  shorter = r.front.shorter;
}

pub test-reads : (source : List ℕ) (ts rest : List Token) (d m : ℕ) (tree : signal_test.Test ast_name.Name) → ReadsTestFrom source ts d 0 1 tree m rest → ReadsTest source ts d tree rest
test-reads source ts rest d m tree r = record {
  test = r.front.test;
  is_test = r.front.is_test;
  stands = r.front.stands;
  printed = r.front.printed;
  after = m;
  goes = record { goes = λ k. r.front.walks k ∙ test_operands.more-done rest d m k r.ends };
  shorter = r.front.shorter;
}

pub combine-sign : (ts us : List Token) (t : Token) (d : ℕ) (op : CombineOperator) → ts ≡ t ∷ us → combine_of t.class ≡ Some op → ReadsCombineSign ts d op t.start us
combine-sign ts us t d op h q = record { token = t; sign_is = q; place = refl; printed = h; after = _; goes = combine-goes ts us t d op h q }

pub given-reads : (source : List ℕ) (ts us rest : List Token) (t : Token) (d : ℕ) (tree : raw.Raw ast_name.Name) → IsFirst (Mark mark.OpenParen) ts t us → d < 64 → ReadsClosed source us d tree rest → ReadsGiven source ts d (Some tree) rest
given-reads source ts us rest t d tree f a r = record {
  given = Value t r.expr r.close_paren;
  is_given = (same-class (Mark mark.OpenParen) t.class f.class_is, r.is_expr, r.closes);
  stands = ap Some r.stands;
  printed = f.is ∙ ap (λ x. t ∷ x) r.printed;
  after = r.after;
  goes = record { goes = λ k. open-goes (ValuePart ∷ k) (Operand ∷ More ∷ T (Mark mark.CloseParen) ∷ k) d t ts us f refl refl a ∙ r.goes.goes k };
  no_longer = (let x = ap length f.is in let y = r.shorter in omega arith);
}

pub combined-reads : (ts us rest : List Token) (w : Token) (d at : ℕ) (op : CombineOperator) → IsFirst (Reserved word.Combine) ts w us → ReadsCombineSign us d op at rest → ReadsCombined ts d (Some (record { at = at; operator = op })) rest
combined-reads ts us rest w d at op f r = record {
  combined = CombinedBy op w r.token;
  is_combined = (same-class (Reserved word.Combine) w.class f.class_is, r.sign_is);
  stands = ap (λ x. (let y : Option Combination = Some (record { at = x; operator = op }) in y)) r.place;
  printed = f.is ∙ ap (λ x. w ∷ x) r.printed;
  after = r.after;
  goes = record { goes = λ k. class-goes (Reserved word.Combine) (CombinePart ∷ k) (CombineSign ∷ k) d 0 w ts us d 0 f refl refl refl refl ∙ r.goes.goes k };
  no_longer = (let x = ap length f.is in let y = ap length r.printed in omega arith);
}

pub later-reads : (source : List ℕ) (ts us rest : List Token) (t : Token) (d : ℕ) (tree : signal_test.Test ast_name.Name) → IsFirst (Mark mark.OpenParen) ts t us → d < 64 → Skips ImmediatePart us → ReadsClosedTest source us d tree rest → ReadsGuard source ts d false tree rest
later-reads source ts us rest t d tree f a s r = record {
  guard = Later t r.test r.close_paren;
  is_guard = (same-class (Mark mark.OpenParen) t.class f.class_is, r.is_test, r.closes);
  once = refl;
  stands = r.stands;
  printed = f.is ∙ ap (λ x. t ∷ x) r.printed;
  after = r.after;
  goes = record {
    goes = λ k. open-goes (T (Mark mark.OpenParen) ∷ ImmediatePart ∷ TestOperand ∷ MoreTest ∷ T (Mark mark.CloseParen) ∷ k) (ImmediatePart ∷ TestOperand ∷ MoreTest ∷ T (Mark mark.CloseParen) ∷ k) d t ts us f refl refl a
        ∙ s.skips (TestOperand ∷ MoreTest ∷ T (Mark mark.CloseParen) ∷ k) (d + 1) 0 ∙ r.goes.goes k;
  };
  shorter = (let x = ap length f.is in let y = r.shorter in omega arith);
}

pub once-reads : (source : List ℕ) (ts us vs rest : List Token) (t u : Token) (d : ℕ) (tree : signal_test.Test ast_name.Name) → IsFirst (Mark mark.OpenParen) ts t us → d < 64 → IsFirst (Reserved word.Immediate) us u vs → ReadsClosedTest source vs d tree rest → ReadsGuard source ts d true tree rest
once-reads source ts us vs rest t u d tree f a g r = record {
  guard = AtOnce t u r.test r.close_paren;
  is_guard = (same-class (Mark mark.OpenParen) t.class f.class_is, same-class (Reserved word.Immediate) u.class g.class_is, r.is_test, r.closes);
  once = refl;
  stands = r.stands;
  printed = f.is ∙ ap (λ x. t ∷ x) (g.is ∙ ap (λ x. u ∷ x) r.printed);
  after = r.after;
  goes = record {
    goes = λ k. open-goes (T (Mark mark.OpenParen) ∷ ImmediatePart ∷ TestOperand ∷ MoreTest ∷ T (Mark mark.CloseParen) ∷ k) (ImmediatePart ∷ TestOperand ∷ MoreTest ∷ T (Mark mark.CloseParen) ∷ k) d t ts us f refl refl a
        ∙ class-goes (Reserved word.Immediate) (ImmediatePart ∷ TestOperand ∷ MoreTest ∷ T (Mark mark.CloseParen) ∷ k) (TestOperand ∷ MoreTest ∷ T (Mark mark.CloseParen) ∷ k) (d + 1) 0 u us vs (d + 1) 0 g refl refl refl refl ∙ r.goes.goes k;
  };
  shorter = (let x = ap length f.is in let z = ap length g.is in let y = r.shorter in omega arith);
}

-- a kind that no `signal` follows
no-signal : (t : Token) (k : List Symbol) → same (Reserved word.Signal) t.class ≡ false → next (AfterKind ∷ k) t.class ≡ next (T Name ∷ T (Mark mark.Assign) ∷ Operand ∷ More ∷ T (Mark mark.Semicolon) ∷ k) t.class
no-signal t k h = rw h refl

pub nameless-fails : (ts : List Token) (d : ℕ) (s : Stop) → IsNotFirst (Reserved word.Signal) ts → FailsAt (T Name ∷ []) ts d 0 s → FailsAt (AfterKind ∷ []) ts d 0 s
nameless-fails ts d s b r = refails (AfterKind ∷ []) (T Name ∷ []) (λ k. T (Mark mark.Assign) ∷ Operand ∷ More ∷ T (Mark mark.Semicolon) ∷ k) ts ts d 0 d 0 s (λ k. walk-alike (AfterKind ∷ k) (T Name ∷ T (Mark mark.Assign) ∷ Operand ∷ More ∷ T (Mark mark.Semicolon) ∷ k) d 0 ts (λ t more i. no-signal t k (b.none t more i)) refl) r
