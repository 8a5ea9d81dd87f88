-- What can be read is what begins a sentence, and what is read to an end is one.
use Rattle.std.proofs.Common.{◌≡◌, ◌↔◌, true, List, ◌++◌, Option, Some, None, ap, refl, sym, ◌∙◌}
use Rattle.sj_lexer.specs.declared.token.Token.{Token}
use Rattle.sj_grammar.specs.definitions.Roles.{has}
use Rattle.sj_grammar.specs.definitions.Sentences.{AreExpression, AreTest, AreProgram, BeginExpression, BeginTest, BeginProgram}
use Rattle.sj_grammar.specs.definitions.Machine.{Symbol, all_end, steps, expression, test, program, can_read, reads, may_stop}
use Rattle.sj_grammar.proofs.ViablePrefixes.{begin-expression, begin-test, begin-program, whole-expression, whole-test, whole-program}
use Rattle.sj_grammar.proofs.PrintedExpressions.{ReadTo, prefix-reads, whole-expr, whole-test as read-test}
use Rattle.sj_grammar.proofs.PrintedStatements.{whole-program as read-program}

pub record Left (o : Option (List Symbol)) : Type 0 where
  pub left : List Symbol
  pub is : o ≡ Some left

pub left-of : (o : Option (List Symbol)) → has o ≡ true → Left o
left-of (Some k) h = record { left = k; is = refl }
left-of None h = absurd (cc)

pub record LeftEnding (o : Option (List Symbol)) : Type 0 where
  pub left : List Symbol
  pub is : o ≡ Some left
  pub ends : all_end left ≡ true

pub left-ending : (o : Option (List Symbol)) → may_stop o ≡ true → LeftEnding o
left-ending (Some k) h = record { left = k; is = refl; ends = h }
left-ending None h = absurd (cc)

-- the symbols left after a sentence
pub expression-left : (ts : List Token) → AreExpression ts → LeftEnding (steps expression ts)
expression-left ts a = record { left = _; is = sym (ap (steps expression) a.printed) ∙ whole-expr a.tree a.is_expr; ends = refl }

pub test-left : (ts : List Token) → AreTest ts → LeftEnding (steps test ts)
test-left ts a = record { left = _; is = sym (ap (steps test) a.printed) ∙ read-test a.tree a.is_test; ends = refl }

pub program-left : (ts : List Token) → AreProgram ts → LeftEnding (steps program ts)
program-left ts a = record { left = _; is = sym (ap (steps program) a.printed) ∙ read-program a.tree a.is_program; ends = refl }

ending-reads : (o : Option (List Symbol)) → LeftEnding o → may_stop o ≡ true
ending-reads o l = ap may_stop l.is ∙ l.ends

-- the symbols left after a prefix of a sentence
pub expression-begun : (ts : List Token) → BeginExpression ts → ReadTo expression ts
expression-begun ts b = let l = expression-left (ts ++ b.more) b.whole in prefix-reads ts b.more expression l.left l.is

pub test-begun : (ts : List Token) → BeginTest ts → ReadTo test ts
test-begun ts b = let l = test-left (ts ++ b.more) b.whole in prefix-reads ts b.more test l.left l.is

pub program-begun : (ts : List Token) → BeginProgram ts → ReadTo program ts
program-begun ts b = let l = program-left (ts ++ b.more) b.whole in prefix-reads ts b.more program l.left l.is

read-has : (k : List Symbol) (ts : List Token) → ReadTo k ts → can_read k ts ≡ true
read-has k ts r = ap has r.is

pub expression-begins : (ts : List Token) → BeginExpression ts ↔ (can_read expression ts ≡ true)
expression-begins ts = (λ b. read-has expression ts (expression-begun ts b), λ h. (let l = left-of (steps expression ts) h in begin-expression ts l.left l.is))

pub test-begins : (ts : List Token) → BeginTest ts ↔ (can_read test ts ≡ true)
test-begins ts = (λ b. read-has test ts (test-begun ts b), λ h. (let l = left-of (steps test ts) h in begin-test ts l.left l.is))

pub program-begins : (ts : List Token) → BeginProgram ts ↔ (can_read program ts ≡ true)
program-begins ts = (λ b. read-has program ts (program-begun ts b), λ h. (let l = left-of (steps program ts) h in begin-program ts l.left l.is))

pub expression-whole : (ts : List Token) → AreExpression ts ↔ (reads expression ts ≡ true)
expression-whole ts = (λ a. ending-reads (steps expression ts) (expression-left ts a), λ h. (let l = left-ending (steps expression ts) h in whole-expression ts l.left l.is l.ends))

pub test-whole : (ts : List Token) → AreTest ts ↔ (reads test ts ≡ true)
test-whole ts = (λ a. ending-reads (steps test ts) (test-left ts a), λ h. (let l = left-ending (steps test ts) h in whole-test ts l.left l.is l.ends))

pub program-whole : (ts : List Token) → AreProgram ts ↔ (reads program ts ≡ true)
program-whole ts = (λ a. ending-reads (steps program ts) (program-left ts a), λ h. (let l = left-ending (steps program ts) h in whole-program ts l.left l.is l.ends))
