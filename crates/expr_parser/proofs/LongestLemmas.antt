-- Where a walk stops, in the words of the grammar.
use Rattle.std.proofs.Common.{◌≡◌, ◌↔◌, ℕ, ◌+◌, ◌-◌, ◌≤◌, Bool, true, false, List, [], ◌∷◌, ◌++◌, length, Some, ap, refl, sym, ◌∙◌, subst, arith, append_assoc, drop, length-append}
use Rattle.std.proofs.lemmas.List.{append_cancel_right, length-drop}
use Rattle.sj_lexer.specs.declared.token.Token.{Token}
use Rattle.sj_ast.specs.declared.name.Name as ast_name
use Rattle.sj_ast.specs.declared.expression.Raw as raw
use Rattle.sj_ast.specs.declared.test.Test as signal_test
use Rattle.sj_grammar.specs.definitions.Roles.{has}
use Rattle.sj_grammar.specs.definitions.Expressions.{Expr, Atom, Least, Status, Prefix, Cast, Group, Infix, print}
use Rattle.sj_grammar.specs.definitions.Tests.{Test, SignalTest, NotTest, GroupTest, JoinTest, print_test}
use Rattle.sj_grammar.specs.definitions.Sentences.{AreExpression, AreTest, BeginExpression, BeginTest}
use Rattle.sj_grammar.specs.definitions.Machine.{Symbol, Operand, More, TestOperand, MoreTest, steps, expression, test, can_read, reads, may_stop}
use Rattle.sj_grammar.specs.definitions.Walks.{Outcome, Ended, Refused, TooDeep, walk}
use Rattle.sj_grammar.specs.definitions.Limits.{IsBlocked, Halts, Sinks, Tells}
use Rattle.sj_grammar.proofs.SentenceReadings.{expression-begins, expression-whole, test-begins, test-whole}
use Rattle.sj_grammar.proofs.CountedLimits.{are_of, within-counted, deep-counted}
use Rattle.sj_grammar.proofs.WalkStops.{tells, steps-more, steps-one-none}
use Rattle.expr_parser.specs.declared.read.Stop.{Stop}
use Rattle.expr_parser.specs.declared.read.Stop.TheVariants as stop_at
use Rattle.expr_parser.specs.definitions.Longest.{IsLongest, place_of, ReadsExpression, ReadsTest, SyntaxAt, TooDeepAt}
use Rattle.expr_parser.specs.Reading.{FailsAt, ReadsFrom, ReadsTestFrom, ExpressionBefore, TestBefore, RefusedBefore, TooDeepBefore, Stops}
use Rattle.expr_parser.proofs.OperandLemmas.{more-done}
use Rattle.expr_parser.proofs.TestOperandLemmas.{more-done as more_test-done}

-- what is known of the sentences from a list of symbols
pub record Sentences (Begin Are : List Token → Type 0) (casts : Bool) (symbols : List Symbol) : Type 0 where
  pub has_symbols : are_of casts symbols ≡ true
  pub begin : (ts : List Token) → Begin ts ↔ (can_read symbols ts ≡ true)
  pub are : (ts : List Token) → Are ts ↔ (reads symbols ts ≡ true)

pub expressions : Sentences BeginExpression AreExpression true expression
expressions = record { has_symbols = refl; begin = expression-begins; are = expression-whole }

pub tests : Sentences BeginTest AreTest false test
tests = record { has_symbols = refl; begin = test-begins; are = test-whole }

not-true : (b : Bool) → b ≡ false → b ≡ true → ⊥
not-true b h g = cc

longest : (Begin Are : List Token → Type 0) (casts : Bool) (symbols : List Symbol) (run rest : List Token) (left : List Symbol) → Sentences Begin Are casts symbols → steps symbols run ≡ Some left → IsBlocked left rest → IsLongest Begin run rest
longest Begin Are casts symbols run rest left s h b = record {
  begins = (let q = s.begin run in q.1 (ap has h));
  ends = λ t more e g. (let q = s.begin (run ++ t ∷ []) in not-true (can_read symbols (run ++ t ∷ [])) (ap has (steps-more run (t ∷ []) symbols left h ∙ steps-one-none left t (b.none t more e))) (q.0 g));
}

halted : (Begin Are : List Token → Type 0) (casts : Bool) (symbols : List Symbol) (ts rest : List Token) (d : ℕ) → Sentences Begin Are casts symbols → Halts symbols d 0 ts false rest → RefusedBefore Begin Are casts ts d rest
halted Begin Are casts symbols ts rest d s w = record {
  run = w.run;
  refused = record {
    is = w.is;
    longest = longest Begin Are casts symbols w.run rest w.left s w.steps_are w.blocked;
    none = λ a. (let q = s.are w.run in not-true (reads symbols w.run) (ap may_stop w.steps_are ∙ w.ends_are) (q.0 a));
    within = within-counted casts symbols d 0 w.run rest s.has_symbols w.within;
  };
}

sunk : (Begin Are : List Token → Type 0) (casts : Bool) (symbols : List Symbol) (ts rest : List Token) (d : ℕ) → Sentences Begin Are casts symbols → Sinks symbols d 0 ts rest → TooDeepBefore Begin casts ts d rest
sunk Begin Are casts symbols ts rest d s w = record {
  run = w.run;
  refused = record {
    token = w.token;
    after = w.after;
    at = w.at;
    is = w.is;
    begins = (let q = s.begin (w.run ++ w.token ∷ []) in q.1 (ap has w.steps_are));
    deep = deep-counted casts symbols d 0 w.run w.token w.after s.has_symbols w.deep;
  };
}

told : (symbols : List Symbol) (ts : List Token) (d : ℕ) (o : Outcome) → walk symbols d 0 ts ≡ o → Tells symbols d 0 ts o
told symbols ts d o h = let P : Outcome → Type 0 = λ x. Tells symbols d 0 ts x in subst P h (tells symbols d 0 ts)

pub expression-stops : (ts : List Token) (d : ℕ) (s : Stop) → FailsAt (Operand ∷ More ∷ []) ts d 0 s → Stops BeginExpression AreExpression true ts d s
expression-stops ts d (stop_at.Syntax bad) f = halted BeginExpression AreExpression true expression ts bad.now d expressions (told expression ts d (Refused bad.now) (f.fails []))
expression-stops ts d (stop_at.TooDeep bad) f = sunk BeginExpression AreExpression true expression ts bad.now d expressions (told expression ts d (TooDeep bad.now) (f.fails []))
expression-stops ts d stop_at.NoMemory f = tt

pub test-stops : (ts : List Token) (d : ℕ) (s : Stop) → FailsAt (TestOperand ∷ MoreTest ∷ []) ts d 0 s → Stops BeginTest AreTest false ts d s
test-stops ts d (stop_at.Syntax bad) f = halted BeginTest AreTest false test ts bad.now d tests (told test ts d (Refused bad.now) (f.fails []))
test-stops ts d (stop_at.TooDeep bad) f = sunk BeginTest AreTest false test ts bad.now d tests (told test ts d (TooDeep bad.now) (f.fails []))
test-stops ts d stop_at.NoMemory f = tt

walk-nothing : (d n : ℕ) (ts : List Token) → walk [] d n ts ≡ Ended ts
walk-nothing d n [] = refl
walk-nothing d n (t ∷ ts) = refl

-- the tokens of a tree before those that follow
print-after : (e : Expr) (after : List Token) → print e after ≡ print e [] ++ after
print-after (Atom t) after = refl
print-after (Least m e) after = refl
print-after (Status h n) after = refl
print-after (Prefix op t e) after = ap (λ x. t ∷ x) (print-after e after)
print-after (Cast k o w c e) after = ap (λ x. o ∷ w ∷ c ∷ x) (print-after e after)
print-after (Group o e c) after = ap (λ x. o ∷ x) (print-after e (c ∷ after) ∙ sym (ap (λ x. x ++ after) (print-after e (c ∷ [])) ∙ append_assoc (print e []) (c ∷ []) after))
print-after (Infix op t l r) after =
    print-after l (t ∷ print r after) ∙ ap (λ x. print l [] ++ t ∷ x) (print-after r after)
    ∙ sym (ap (λ x. x ++ after) (print-after l (t ∷ print r [])) ∙ append_assoc (print l []) (t ∷ print r []) after)

print_test-after : (e : Test) (after : List Token) → print_test e after ≡ print_test e [] ++ after
print_test-after (SignalTest n) after = refl
print_test-after (NotTest b e) after = ap (λ x. b ∷ x) (print_test-after e after)
print_test-after (GroupTest o e c) after = ap (λ x. o ∷ x) (print_test-after e (c ∷ after) ∙ sym (ap (λ x. x ++ after) (print_test-after e (c ∷ [])) ∙ append_assoc (print_test e []) (c ∷ []) after))
print_test-after (JoinTest j t l r) after =
    print_test-after l (t ∷ print_test r after) ∙ ap (λ x. print_test l [] ++ t ∷ x) (print_test-after r after)
    ∙ sym (ap (λ x. x ++ after) (print_test-after l (t ∷ print_test r [])) ∙ append_assoc (print_test l []) (t ∷ print_test r []) after)

pub is-expression : (source : List ℕ) (ts : List Token) (d m : ℕ) (tree : raw.Raw ast_name.Name) (rest : List Token) → ReadsFrom source ts d 0 1 tree m rest → ExpressionBefore source ts d tree rest
is-expression source ts d m tree rest r =
    let w : Halts expression d 0 ts true rest = told expression ts d (Ended rest) (r.front.walks [] ∙ more-done rest d m [] r.ends ∙ walk-nothing d m rest) in
    record {
      run = w.run;
      whole = record {
        expr = r.front.expr;
        is_expr = r.front.is_expr;
        printed = append_cancel_right (print r.front.expr []) w.run rest (sym (print-after r.front.expr rest) ∙ sym r.front.printed ∙ w.is);
        stands = r.front.stands;
        is = w.is;
        longest = longest BeginExpression AreExpression true expression w.run rest w.left expressions w.steps_are w.blocked;
        within = within-counted true expression d 0 w.run rest refl w.within;
      };
    }

pub is-test : (source : List ℕ) (ts : List Token) (d m : ℕ) (tree : signal_test.Test ast_name.Name) (rest : List Token) → ReadsTestFrom source ts d 0 1 tree m rest → TestBefore source ts d tree rest
is-test source ts d m tree rest r =
    let w : Halts test d 0 ts true rest = told test ts d (Ended rest) (r.front.walks [] ∙ more_test-done rest d m [] r.ends ∙ walk-nothing d m rest) in
    record {
      run = w.run;
      whole = record {
        test = r.front.test;
        is_test = r.front.is_test;
        printed = append_cancel_right (print_test r.front.test []) w.run rest (sym (print_test-after r.front.test rest) ∙ sym r.front.printed ∙ w.is);
        stands = r.front.stands;
        is = w.is;
        longest = longest BeginTest AreTest false test w.run rest w.left tests w.steps_are w.blocked;
        within = within-counted false test d 0 w.run rest refl w.within;
      };
    }

-- the places
run-length : (tokens : List Token) (from : ℕ) (run rest : List Token) → from ≤ length tokens → drop from tokens ≡ run ++ rest → from + length run + length rest ≡ length tokens
run-length tokens from run rest h e =
    let a : length (drop from tokens) ≡ length run + length rest = ap length e ∙ length-append run rest in
    let b : length (drop from tokens) ≡ length tokens - from = length-drop from tokens in
    omega arith

pub rest-fits : (tokens : List Token) (from : ℕ) (run rest : List Token) → from ≤ length tokens → drop from tokens ≡ run ++ rest → length rest ≤ length tokens
rest-fits tokens from run rest h e = let l = run-length tokens from run rest h e in omega arith

pub reads-expression : (source : List ℕ) (tokens : List Token) (from d number : ℕ) (tree : raw.Raw ast_name.Name) (rest : List Token) → from ≤ length tokens → ExpressionBefore source (drop from tokens) d tree rest → number ≡ length tokens - length rest
    → ReadsExpression source tokens from d tree number
reads-expression source tokens from d number tree rest h w q = record { run = w.run; rest = rest; whole = w.whole; number_is = (let l = run-length tokens from w.run rest h w.whole.is in omega arith) }

pub reads-test : (source : List ℕ) (tokens : List Token) (from d number : ℕ) (tree : signal_test.Test ast_name.Name) (rest : List Token) → from ≤ length tokens → TestBefore source (drop from tokens) d tree rest → number ≡ length tokens - length rest
    → ReadsTest source tokens from d tree number
reads-test source tokens from d number tree rest h w q = record { run = w.run; rest = rest; whole = w.whole; number_is = (let l = run-length tokens from w.run rest h w.whole.is in omega arith) }

pub syntax-at : (Begin Are : List Token → Type 0) (casts : Bool) (source : List ℕ) (tokens : List Token) (from d place : ℕ) (rest : List Token) → from ≤ length tokens → RefusedBefore Begin Are casts (drop from tokens) d rest
    → place ≡ place_of (drop (length tokens - length rest) tokens) (length source) → SyntaxAt Begin Are casts source tokens from d place
syntax-at Begin Are casts source tokens from d place rest h w q =
    let l : length tokens - length rest ≡ from + length w.run = (let x = run-length tokens from w.run rest h w.refused.is in omega arith) in
    record { run = w.run; rest = rest; refused = w.refused; place_is = q ∙ ap (λ x. place_of (drop x tokens) (length source)) l }

pub deep-at : (Begin : List Token → Type 0) (casts : Bool) (source : List ℕ) (tokens : List Token) (from d place : ℕ) (rest : List Token) → from ≤ length tokens → TooDeepBefore Begin casts (drop from tokens) d rest
    → place ≡ place_of (drop (length tokens - length rest) tokens) (length source) → TooDeepAt Begin casts source tokens from d place
deep-at Begin casts source tokens from d place rest h w q =
    let l : length tokens - length rest ≡ from + length w.run = (let x = run-length tokens from w.run rest h w.refused.is in omega arith) in
    record { run = w.run; rest = rest; refused = w.refused; place_is = q ∙ ap (λ x. place_of (drop x tokens) (length source)) l }
