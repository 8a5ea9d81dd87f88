-- What the tables of classes tell of a class.
use Rattle.std.proofs.Common.{◌≡◌, Bool, true, false, ◌&&◌, Option, Some, None, refl, subst}
use Rattle.java_values.specs.declared.kind.Kind.{Kind}
use Rattle.java_values.specs.declared.op.Op1.{Op1}
use Rattle.java_values.specs.declared.op.Op1.TheVariants as op1
use Rattle.sj_lexer.specs.declared.token.Class.{Class}
use Rattle.sj_lexer.specs.declared.token.Class.TheVariants.{Reserved, Name, Mark}
use Rattle.sj_lexer.specs.declared.token.Mark.TheVariants as mark
use Rattle.sj_lexer.specs.declared.token.Word.TheVariants as word
use Rattle.sj_grammar.specs.declared.role.Lead.{Lead}
use Rattle.sj_grammar.specs.declared.role.Lead.TheVariants as lead
use Rattle.sj_grammar.specs.declared.role.TestLead.{TestLead}
use Rattle.sj_grammar.specs.declared.role.TestLead.TheVariants as test_lead
use Rattle.sj_grammar.specs.declared.role.Start.{Start}
use Rattle.sj_grammar.specs.declared.role.Start.TheVariants as start
use Rattle.sj_grammar.specs.definitions.Classes.{same}
use Rattle.sj_grammar.specs.definitions.Roles.{lead_of, test_lead_of, start_of, is_atom, is_edge, is_still, is_emission, is_guarded, sign_of, kind_of, direction_of, has}

-- from a table to the class
abbrev pub LeadIs : Lead → Class → Type 0
LeadIs lead.Atom c = is_atom c ≡ true
LeadIs lead.Hash c = c ≡ Mark mark.Hash
LeadIs (lead.Prefix op) c = sign_of c ≡ Some op
LeadIs lead.Minus c = c ≡ Mark mark.Minus
LeadIs lead.Open c = c ≡ Mark mark.OpenParen
LeadIs lead.Nothing c = c ≡ c

pub lead-is : (c : Class) → LeadIs (lead_of c) c
lead-is (Mark mark.Plus) = refl
lead-is (Reserved word.True) = refl
lead-is _ = refl

abbrev pub TestLeadIs : TestLead → Class → Type 0
TestLeadIs test_lead.Signal c = c ≡ Name
TestLeadIs test_lead.Not c = c ≡ Mark mark.Bang
TestLeadIs test_lead.Open c = c ≡ Mark mark.OpenParen
TestLeadIs test_lead.Nothing c = c ≡ c

pub test-lead-is : (c : Class) → TestLeadIs (test_lead_of c) c
test-lead-is (Mark mark.Bang) = refl
test-lead-is _ = refl

abbrev pub StartIs : Start → Class → Type 0
StartIs start.Empty c = c ≡ Mark mark.Semicolon
StartIs start.Braces c = c ≡ Mark mark.OpenBrace
StartIs start.Still c = is_still c ≡ true
StartIs start.Emit c = is_emission c ≡ true
StartIs start.Signal c = c ≡ Reserved word.Signal
StartIs (start.Kind kind) c = kind_of c ≡ Some kind
StartIs start.Name c = c ≡ Name
StartIs start.If c = c ≡ Reserved word.If
StartIs start.Present c = c ≡ Reserved word.Present
StartIs start.While c = c ≡ Reserved word.While
StartIs start.Weak c = c ≡ Reserved word.Weak
StartIs start.Guarded c = is_guarded c ≡ true
StartIs start.Trap c = c ≡ Reserved word.Trap
StartIs start.Exit c = c ≡ Reserved word.Exit
StartIs start.Send c = c ≡ Reserved word.Send
StartIs start.Receive c = c ≡ Reserved word.Receive
StartIs start.Await c = c ≡ Reserved word.Await
StartIs start.Loop c = c ≡ Reserved word.Loop
StartIs start.Nothing c = c ≡ c

pub start-is : (c : Class) → StartIs (start_of c) c
start-is (Mark mark.Semicolon) = refl
start-is (Reserved word.If) = refl
start-is _ = refl

-- from the class to a table
pub atom-lead : (c : Class) → is_atom c ≡ true → lead_of c ≡ lead.Atom
atom-lead (Mark mark.Plus) h = cc
atom-lead (Reserved word.True) h = refl
atom-lead _ h = cc

abbrev pub sign_lead : Op1 → Lead
sign_lead op1.Minus = lead.Minus
sign_lead op = lead.Prefix op

abbrev SignIs : Option Op1 → Class → Type 0
SignIs None c = c ≡ c
SignIs (Some op) c = lead_of c ≡ sign_lead op

sign-is : (c : Class) → SignIs (sign_of c) c
sign-is (Mark mark.Plus) = refl
sign-is _ = refl

pub sign-leads : (c : Class) (op : Op1) → sign_of c ≡ Some op → lead_of c ≡ sign_lead op
sign-leads c op h = let P : Option Op1 → Type 0 = λ o. SignIs o c in subst P h (sign-is c)

abbrev pub leads : Lead → Bool
leads lead.Nothing = false
leads _ = true

-- no operand begins with a kind, or with a number that is one only behind a minus
pub leads-no-kind : (c : Class) → (leads (lead_of c) && has (kind_of c)) ≡ false
leads-no-kind (Mark mark.Plus) = refl
leads-no-kind (Reserved word.True) = refl
leads-no-kind _ = refl

pub leads-no-edge : (c : Class) → (leads (lead_of c) && is_edge c) ≡ false
leads-no-edge (Mark mark.Plus) = refl
leads-no-edge (Reserved word.True) = refl
leads-no-edge _ = refl

abbrev StillIs : Bool → Class → Type 0
StillIs true c = start_of c ≡ start.Still
StillIs false c = c ≡ c

still-is : (c : Class) → StillIs (is_still c) c
still-is (Reserved word.Pause) = refl
still-is _ = refl

pub still-start : (c : Class) → is_still c ≡ true → start_of c ≡ start.Still
still-start c h = let P : Bool → Type 0 = λ b. StillIs b c in subst P h (still-is c)

abbrev EmissionIs : Bool → Class → Type 0
EmissionIs true c = start_of c ≡ start.Emit
EmissionIs false c = c ≡ c

emission-is : (c : Class) → EmissionIs (is_emission c) c
emission-is (Reserved word.Emit) = refl
emission-is _ = refl

pub emission-start : (c : Class) → is_emission c ≡ true → start_of c ≡ start.Emit
emission-start c h = let P : Bool → Type 0 = λ b. EmissionIs b c in subst P h (emission-is c)

abbrev GuardedIs : Bool → Class → Type 0
GuardedIs true c = start_of c ≡ start.Guarded
GuardedIs false c = c ≡ c

guarded-is : (c : Class) → GuardedIs (is_guarded c) c
guarded-is (Reserved word.Abort) = refl
guarded-is _ = refl

pub guarded-start : (c : Class) → is_guarded c ≡ true → start_of c ≡ start.Guarded
guarded-start c h = let P : Bool → Type 0 = λ b. GuardedIs b c in subst P h (guarded-is c)

abbrev KindIs : Option Kind → Class → Type 0
KindIs None c = c ≡ c
KindIs (Some kind) c = start_of c ≡ start.Kind kind

kind-is : (c : Class) → KindIs (kind_of c) c
kind-is (Reserved word.Int) = refl
kind-is _ = refl

pub kind-start : (c : Class) (kind : Kind) → kind_of c ≡ Some kind → start_of c ≡ start.Kind kind
kind-start c kind h = let P : Option Kind → Type 0 = λ o. KindIs o c in subst P h (kind-is c)

abbrev pub begins : Start → Bool
begins start.Nothing = false
begins _ = true

-- no statement begins with `else` or `||`
pub begins-no-else : (c : Class) → (begins (start_of c) && same (Reserved word.Else) c) ≡ false
begins-no-else (Mark mark.Semicolon) = refl
begins-no-else (Reserved word.If) = refl
begins-no-else _ = refl

pub begins-no-either : (c : Class) → (begins (start_of c) && same (Mark mark.Either) c) ≡ false
begins-no-either (Mark mark.Semicolon) = refl
begins-no-either (Reserved word.If) = refl
begins-no-either _ = refl

-- no test begins with `immediate`
abbrev pub tests : TestLead → Bool
tests test_lead.Nothing = false
tests _ = true

pub tests-no-immediate : (c : Class) → (tests (test_lead_of c) && same (Reserved word.Immediate) c) ≡ false
tests-no-immediate (Mark mark.Bang) = refl
tests-no-immediate (Reserved word.Immediate) = refl
tests-no-immediate _ = refl

-- a kind is no direction, and not `signal`
pub kind-no-direction : (c : Class) → (has (kind_of c) && has (direction_of c)) ≡ false
kind-no-direction (Reserved word.Int) = refl
kind-no-direction _ = refl

pub kind-no-signal : (c : Class) → (has (kind_of c) && same (Reserved word.Signal) c) ≡ false
kind-no-signal (Reserved word.Int) = refl
kind-no-signal _ = refl

-- one of two that aren't both
pub second-false : (a b : Bool) → (a && b) ≡ false → a ≡ true → b ≡ false
second-false true b h g = h
second-false false b h g = absurd (cc)
