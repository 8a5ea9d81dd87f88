-- An expression typed without failure has its kinds by operators and operands, and allowed divisors.
use Rattle.std.proofs.Common.{rules, ◌≡◌, ℕ, ℤ, Bool, true, false, ◌&&◌, ◌||◌, not, cond, int_le, neg_ℤ, [], ◌∷◌, Option, Some, None, ap, refl, sym, ◌∙◌, subst}
use Rattle.std.specs.Prelude.{option_map}
use Rattle.java_values.specs.declared.kind.Kind.{Kind}
use Rattle.java_values.specs.declared.kind.Kind.TheVariants.{Boolean, Byte, Short, Char, Int, Long}
use Rattle.java_values.specs.declared.op.Op1.{Op1}
use Rattle.java_values.specs.declared.op.Op1.TheVariants as op1
use Rattle.java_values.specs.declared.op.Op2.{Op2}
use Rattle.java_values.specs.declared.op.Op2.TheVariants as op2
use Rattle.java_values.specs.Kinds.{TypedNumber, IsInRange, lowest, highest, is_integer, is_widened, is_castable, result_kind1, result_kind2}
use Rattle.java_values.proofs.InRangeLemmas.{wrapped_range}
use Rattle.kernel_terms.specs.declared.expr.Expr as expr
use Rattle.kernel_terms.specs.declared.expr.ExprForm as expr_form
use Rattle.kernel_terms.specs.declared.tables.Tables.{Tables}
use Rattle.kernel_terms.specs.TableEntries.{signal_at, channel_at, variable_at}
use Rattle.kernel_terms.specs.Expressions as terms
use Rattle.kernel_terms.specs.Expressions.{Expression, Literal, Variable, SignalValue, ChannelValue, Unary, Binary, Cast, expression}
use Rattle.kernel_terms.specs.Divisors as divisors
use Rattle.kernel_terms.specs.Divisors.{is_number, is_allowed, has_divisors}
use Rattle.kernel_terms.specs.WellFormed.{Scope, same_kind, is_of_kind, fits_expression, is_given, can_use, is_variable_of, is_receiver_of}
use Rattle.kernel_terms.proofs.StatementLayers.{expression-Literal, expression-Variable, expression-Signal, expression-Channel, expression-Unary, expression-Binary, expression-Cast}
use Rattle.sj_ast.specs.declared.expression.Raw as raw
use Rattle.sj_ast.specs.declared.expression.Raw.{Raw}
use Rattle.sj_ast.specs.declared.expression.Raw.TheOpen.{Raw-F}
use Rattle.sj_ast.specs.declared.expression.Raw.TheFolds.{fold-roll-Raw, ind-Raw}
use Rattle.sj_names.specs.declared.entry.TableEntry.{TableEntry}
use Rattle.sj_names.specs.declared.entry.TableEntry.TheVariants as entry
use Rattle.sj_names.specs.definitions.FittingTrees.{is_named, has_status, fits_raw_layer, uses_entries}
use Rattle.java_types.specs.declared.operand.Spelling.{Spelling}
use Rattle.java_types.specs.declared.operand.Spelling.TheVariants as spelling
use Rattle.java_types.specs.declared.operand.Operand.{Operand}
use Rattle.java_types.specs.declared.failure.TypeFailure.TheVariants as failure
use Rattle.java_types.specs.definitions.Checks.{Checked, fine, wrong, map2}
use Rattle.java_types.specs.definitions.Spellings.{grouped, negated, unary_spelling, is_number_kind, is_zero, spells_divisor, may_narrow, is_given_to}
use Rattle.java_types.specs.definitions.Operands.{expr_of, kind_of, written, entry_expression, value_of_name, literal, literal_value, with_kind1, unary, cast, in_parentheses, divides, with_divisor, with_kind2, binary, operands, binary_operand, checked_layer, checked_expression}
use Rattle.java_types.specs.definitions.Conversions.{converted, given, condition, cast_back, variable_of, updated}
use Rattle.java_types.specs.definitions.TypedTrees.{value_for, condition_of, update_of}
use Rattle.java_types.proofs.CheckParts.{Gives, given_fine, none_wrong, given_both, given_then}

pub both_true : (a b : Bool) → a ≡ true → b ≡ true → (a && b) ≡ true
both_true true b g h = h
both_true false b g h = absurd (cc)

pub left_true : (a b : Bool) → (a && b) ≡ true → a ≡ true
left_true true b h = refl
left_true false b h = absurd (cc)

pub right_true : (a b : Bool) → (a && b) ≡ true → b ≡ true
right_true true b h = h
right_true false b h = absurd (cc)

-- nodes and their kinds

kind_made : (k : Kind) (f : expr_form.ExprForm) → kind_of (expr_of k f) ≡ k
kind_made k f = ap (λ (e : _). e.kind) (expr.out-roll-Expr (record { kind = k; form = f }))

form_made : (k : Kind) (f : expr_form.ExprForm) → (expr_of k f).form ≡ f
form_made k f = ap (λ (e : _). e.form) (expr.out-roll-Expr (record { kind = k; form = f }))

of_literal : (k : Kind) (n : ℤ) → expression (expr_of k (expr_form.Literal n)) ≡ Literal k n
of_literal k n = expression-Literal (expr_of k (expr_form.Literal n)) n (form_made k (expr_form.Literal n)) ∙ ap (λ j. Literal j n) (kind_made k (expr_form.Literal n))

of_variable : (k : Kind) (n : ℕ) → expression (expr_of k (expr_form.Variable n)) ≡ Variable k n
of_variable k n = expression-Variable (expr_of k (expr_form.Variable n)) n (form_made k (expr_form.Variable n)) ∙ ap (λ j. Variable j n) (kind_made k (expr_form.Variable n))

of_signal : (k : Kind) (n : ℕ) → expression (expr_of k (expr_form.Signal n)) ≡ SignalValue k n
of_signal k n = expression-Signal (expr_of k (expr_form.Signal n)) n (form_made k (expr_form.Signal n)) ∙ ap (λ j. SignalValue j n) (kind_made k (expr_form.Signal n))

of_channel : (k : Kind) (n : ℕ) → expression (expr_of k (expr_form.Channel n)) ≡ ChannelValue k n
of_channel k n = expression-Channel (expr_of k (expr_form.Channel n)) n (form_made k (expr_form.Channel n)) ∙ ap (λ j. ChannelValue j n) (kind_made k (expr_form.Channel n))

of_unary : (k : Kind) (op : Op1) (e : expr.Expr) → expression (expr_of k (expr_form.Unary op e)) ≡ Unary k op (expression e)
of_unary k op e = expression-Unary (expr_of k (expr_form.Unary op e)) op e (form_made k (expr_form.Unary op e)) ∙ ap (λ j. Unary j op (expression e)) (kind_made k (expr_form.Unary op e))

of_binary : (k : Kind) (op : Op2) (e f : expr.Expr) → expression (expr_of k (expr_form.Binary op e f)) ≡ Binary k op (expression e) (expression f)
of_binary k op e f = expression-Binary (expr_of k (expr_form.Binary op e f)) op e f (form_made k (expr_form.Binary op e f)) ∙ ap (λ j. Binary j op (expression e) (expression f)) (kind_made k (expr_form.Binary op e f))

of_cast : (k : Kind) (e : expr.Expr) → expression (expr_of k (expr_form.Cast e)) ≡ Cast k (expression e)
of_cast k e = expression-Cast (expr_of k (expr_form.Cast e)) e (form_made k (expr_form.Cast e)) ∙ ap (λ j. Cast j (expression e)) (kind_made k (expr_form.Cast e))

is_itself : (k : Kind) → same_kind k k ≡ true
is_itself Boolean = refl
is_itself Byte = refl
is_itself Short = refl
is_itself Char = refl
is_itself Int = refl
is_itself Long = refl

same_is : (a b : Kind) → same_kind a b ≡ true → a ≡ b
same_is Boolean Boolean h = refl
same_is Boolean Byte h = absurd (cc)
same_is Boolean Short h = absurd (cc)
same_is Boolean Char h = absurd (cc)
same_is Boolean Int h = absurd (cc)
same_is Boolean Long h = absurd (cc)
same_is Byte Boolean h = absurd (cc)
same_is Byte Byte h = refl
same_is Byte Short h = absurd (cc)
same_is Byte Char h = absurd (cc)
same_is Byte Int h = absurd (cc)
same_is Byte Long h = absurd (cc)
same_is Short Boolean h = absurd (cc)
same_is Short Byte h = absurd (cc)
same_is Short Short h = refl
same_is Short Char h = absurd (cc)
same_is Short Int h = absurd (cc)
same_is Short Long h = absurd (cc)
same_is Char Boolean h = absurd (cc)
same_is Char Byte h = absurd (cc)
same_is Char Short h = absurd (cc)
same_is Char Char h = refl
same_is Char Int h = absurd (cc)
same_is Char Long h = absurd (cc)
same_is Int Boolean h = absurd (cc)
same_is Int Byte h = absurd (cc)
same_is Int Short h = absurd (cc)
same_is Int Char h = absurd (cc)
same_is Int Int h = refl
same_is Int Long h = absurd (cc)
same_is Long Boolean h = absurd (cc)
same_is Long Byte h = absurd (cc)
same_is Long Short h = absurd (cc)
same_is Long Char h = absurd (cc)
same_is Long Int h = absurd (cc)
same_is Long Long h = refl

in_range : (k : Kind) (n : ℤ) → IsInRange k n → (int_le (lowest k) n && int_le n (highest k)) ≡ true
in_range k n h = both_true (int_le (lowest k) n) (int_le n (highest k)) (let l = h.low in search rules) (let l = h.high in search rules)

-- what a spelling says of the expression

record IsMinus (v : TypedNumber) (e : Expression) : Type 0 where
  kind : Kind
  is : e ≡ Unary kind op1.Minus (Literal v.kind v.number)

abbrev IsSpelled : Spelling → Expression → Type 0
IsSpelled (spelling.Literal v) e = e ≡ Literal v.kind v.number
IsSpelled (spelling.Grouped v) e = e ≡ Literal v.kind v.number
IsSpelled (spelling.Minus v) e = IsMinus v e
IsSpelled (spelling.MinusGrouped v) e = IsMinus v e
IsSpelled (spelling.Least v) e = e ≡ Literal v.kind v.number
IsSpelled spelling.Other e = Unit {0}

spelled_minus : (k : Kind) (s : Spelling) (e : Expression) → IsSpelled s e → IsSpelled (negated s) (Unary k op1.Minus e)
spelled_minus k (spelling.Literal v) e h = record { kind = k; is = ap (λ x. Unary k op1.Minus x) h }
spelled_minus k (spelling.Grouped v) e h = record { kind = k; is = ap (λ x. Unary k op1.Minus x) h }
spelled_minus k (spelling.Minus v) e h = tt
spelled_minus k (spelling.MinusGrouped v) e h = tt
spelled_minus k (spelling.Least v) e h = tt
spelled_minus k spelling.Other e h = tt

spelled_unary : (k : Kind) (op : Op1) (s : Spelling) (e : Expression) → IsSpelled s e → IsSpelled (unary_spelling op s) (Unary k op e)
spelled_unary k op1.Minus s e h = spelled_minus k s e h
spelled_unary k op1.Plus s e h = tt
spelled_unary k op1.BitNot s e h = tt
spelled_unary k op1.Not s e h = tt

spelled_grouped : (s : Spelling) (e : Expression) → IsSpelled s e → IsSpelled (grouped s) e
spelled_grouped (spelling.Literal v) e h = h
spelled_grouped (spelling.Grouped v) e h = h
spelled_grouped (spelling.Minus v) e h = h
spelled_grouped (spelling.MinusGrouped v) e h = h
spelled_grouped (spelling.Least v) e h = h
spelled_grouped spelling.Other e h = h

number_divides : (k : Kind) (n : ℤ) (b : Bool) → b ≡ divisors.is_nonzero n → (is_number_kind k && b) ≡ true → is_number (Literal k n) ≡ true
number_divides Int n b e h = sym e ∙ h
number_divides Long n b e h = sym e ∙ h
number_divides Boolean n b e h = absurd (cc)
number_divides Byte n b e h = absurd (cc)
number_divides Short n b e h = absurd (cc)
number_divides Char n b e h = absurd (cc)

spelled_divisor : (s : Spelling) (e : Expression) → IsSpelled s e → spells_divisor s ≡ true → divisors.is_divisor e ≡ true
spelled_divisor (spelling.Literal v) e h d = ap divisors.is_divisor h ∙ d
spelled_divisor (spelling.Grouped v) e h d = ap divisors.is_divisor h ∙ d
spelled_divisor (spelling.Minus v) e h d = ap divisors.is_divisor h.is ∙ number_divides v.kind v.number (not (is_zero v)) refl d
spelled_divisor (spelling.MinusGrouped v) e h d = absurd (cc)
spelled_divisor (spelling.Least v) e h d = ap divisors.is_divisor h ∙ d
spelled_divisor spelling.Other e h d = absurd (cc)

allowed_if : (op : Op2) (e : Expression) → (divides op ≡ true → divisors.is_divisor e ≡ true) → is_allowed op e ≡ true
allowed_if op2.Div e h = h refl
allowed_if op2.Rem e h = h refl
allowed_if op2.Mul e h = refl
allowed_if op2.Add e h = refl
allowed_if op2.Sub e h = refl
allowed_if op2.Shl e h = refl
allowed_if op2.Shr e h = refl
allowed_if op2.Ushr e h = refl
allowed_if op2.Less e h = refl
allowed_if op2.LessEq e h = refl
allowed_if op2.Greater e h = refl
allowed_if op2.GreaterEq e h = refl
allowed_if op2.Equal e h = refl
allowed_if op2.NotEqual e h = refl
allowed_if op2.And e h = refl
allowed_if op2.Xor e h = refl
allowed_if op2.Or e h = refl
allowed_if op2.Both e h = refl
allowed_if op2.Either e h = refl

-- what may be given may be cast

widened_castable : (a k : Kind) → is_widened a k ≡ true → is_castable a k ≡ true
widened_castable Boolean Boolean h = refl
widened_castable Boolean Byte h = absurd (cc)
widened_castable Boolean Short h = absurd (cc)
widened_castable Boolean Char h = absurd (cc)
widened_castable Boolean Int h = absurd (cc)
widened_castable Boolean Long h = absurd (cc)
widened_castable Byte k h = integer_of k h
  where
    integer_of : (k : Kind) → is_widened Byte k ≡ true → is_integer k ≡ true
    integer_of Boolean h = absurd (cc)
    integer_of Byte h = refl
    integer_of Short h = refl
    integer_of Char h = refl
    integer_of Int h = refl
    integer_of Long h = refl
widened_castable Short k h = integer_of k h
  where
    integer_of : (k : Kind) → is_widened Short k ≡ true → is_integer k ≡ true
    integer_of Boolean h = absurd (cc)
    integer_of Byte h = refl
    integer_of Short h = refl
    integer_of Char h = refl
    integer_of Int h = refl
    integer_of Long h = refl
widened_castable Char k h = integer_of k h
  where
    integer_of : (k : Kind) → is_widened Char k ≡ true → is_integer k ≡ true
    integer_of Boolean h = absurd (cc)
    integer_of Byte h = refl
    integer_of Short h = refl
    integer_of Char h = refl
    integer_of Int h = refl
    integer_of Long h = refl
widened_castable Int k h = integer_of k h
  where
    integer_of : (k : Kind) → is_widened Int k ≡ true → is_integer k ≡ true
    integer_of Boolean h = absurd (cc)
    integer_of Byte h = refl
    integer_of Short h = refl
    integer_of Char h = refl
    integer_of Int h = refl
    integer_of Long h = refl
widened_castable Long k h = integer_of k h
  where
    integer_of : (k : Kind) → is_widened Long k ≡ true → is_integer k ≡ true
    integer_of Boolean h = absurd (cc)
    integer_of Byte h = refl
    integer_of Short h = refl
    integer_of Char h = refl
    integer_of Int h = refl
    integer_of Long h = refl

narrowed_castable : (a k : Kind) (b : Bool) → (may_narrow a && (is_integer k && b)) ≡ true → is_castable a k ≡ true
narrowed_castable Int k b h = left_true (is_integer k) b h
narrowed_castable Char k b h = left_true (is_integer k) b h
narrowed_castable Boolean k b h = absurd (cc)
narrowed_castable Byte k b h = absurd (cc)
narrowed_castable Short k b h = absurd (cc)
narrowed_castable Long k b h = absurd (cc)

from_int : (m k : Kind) → same_kind Int m ≡ true → is_integer k ≡ true → is_castable m k ≡ true
from_int Int k e h = h
from_int Boolean k e h = absurd (cc)
from_int Byte k e h = absurd (cc)
from_int Short k e h = absurd (cc)
from_int Char k e h = absurd (cc)
from_int Long k e h = absurd (cc)

minus_castable : (a m k : Kind) (b : Bool) → (may_narrow a && (is_integer k && b)) ≡ true → is_of_kind (result_kind1 op1.Minus a) m ≡ true → is_castable m k ≡ true
minus_castable Int m k b h e = from_int m k e (left_true (is_integer k) b h)
minus_castable Char m k b h e = from_int m k e (left_true (is_integer k) b h)
minus_castable Boolean m k b h e = absurd (let g = h in cc)
minus_castable Byte m k b h e = absurd (let g = h in cc)
minus_castable Short m k b h e = absurd (let g = h in cc)
minus_castable Long m k b h e = absurd (let g = h in cc)

module _ (t : Tables) (scope : Scope) where
  -- the expression keeps the rules
  pub record Keeps (e : expr.Expr) : Type 0 where
    pub fits : fits_expression t scope (expression e) ≡ true
    pub divided : has_divisors (expression e) ≡ true
    pub kind : terms.kind_of (expression e) ≡ kind_of e

  record KeepsAsSpelled (o : Operand) : Type 0 where
    keeps : Keeps o.expr
    spelled : IsSpelled o.spelling (expression o.expr)

  made_keeps : (k : Kind) (f : expr_form.ExprForm) (x : Expression) → expression (expr_of k f) ≡ x → terms.kind_of x ≡ k → fits_expression t scope x ≡ true → has_divisors x ≡ true → Keeps (expr_of k f)
  made_keeps k f x e i g d = record { fits = ap (fits_expression t scope) e ∙ g; divided = ap has_divisors e ∙ d; kind = ap terms.kind_of e ∙ i ∙ sym (kind_made k f) }

  made_other : (at : ℕ) (e : expr.Expr) → Keeps e → KeepsAsSpelled (written at spelling.Other e)
  made_other at e h = record { keeps = h; spelled = tt }

  -- names and literals

  literal_keeps : (v : TypedNumber) → Keeps (expr_of v.kind (expr_form.Literal (literal_value v).number))
  literal_keeps v =
      made_keeps v.kind (expr_form.Literal (literal_value v).number) (Literal v.kind (literal_value v).number) (of_literal v.kind (literal_value v).number) refl
      (in_range v.kind (literal_value v).number (wrapped_range v.kind v.number)) refl

  variable_keeps : (n : ℕ) → is_variable_of t scope.domain n ≡ true → Keeps (variable_of (variable_at t n).kind n)
  variable_keeps n h =
      made_keeps (variable_at t n).kind (expr_form.Variable n) (Variable (variable_at t n).kind n) (of_variable (variable_at t n).kind n) refl
      (both_true (is_variable_of t scope.domain n) (same_kind (variable_at t n).kind (variable_at t n).kind) h (is_itself (variable_at t n).kind)) refl

  channel_keeps : (n : ℕ) → is_receiver_of t scope.domain n ≡ true → Keeps (expr_of (channel_at t n).kind (expr_form.Channel n))
  channel_keeps n h =
      made_keeps (channel_at t n).kind (expr_form.Channel n) (ChannelValue (channel_at t n).kind n) (of_channel (channel_at t n).kind n) refl
      (both_true (is_receiver_of t scope.domain n) (same_kind (channel_at t n).kind (channel_at t n).kind) h (is_itself (channel_at t n).kind)) refl

  signal_keeps : (n : ℕ) (k : Kind) → can_use t scope n ≡ true → (signal_at t n).kind ≡ Some k → Keeps (expr_of k (expr_form.Signal n))
  signal_keeps n k h i =
      made_keeps k (expr_form.Signal n) (SignalValue k n) (of_signal k n) refl
      (both_true (can_use t scope n) (is_of_kind (signal_at t n).kind k) h (ap (λ l. is_of_kind l k) i ∙ is_itself k)) refl

  status_keeps : (first name_at : ℕ) (n : TableEntry) (o : Operand) → has_status t scope n ≡ true → Gives (value_of_name first name_at (entry_expression t n)) o → KeepsAsSpelled o
  status_keeps first at (entry.Signal n) o h g = split (signal_at t n).kind refl g
    where
      split : (k : Option Kind) → (signal_at t n).kind ≡ k → Gives (value_of_name first at (option_map (λ k. expr_of k (expr_form.Signal n)) k)) o → KeepsAsSpelled o
      split None e i = absurd (none_wrong (failure.Mismatch at) o i)
      split (Some k) e i = subst KeepsAsSpelled (sym (given_fine (written first spelling.Other (expr_of k (expr_form.Signal n))) o i)) (made_other first (expr_of k (expr_form.Signal n)) (signal_keeps n k h e))
  status_keeps first at (entry.Variable n) o h g = absurd (cc)
  status_keeps first at (entry.Channel n) o h g =
      subst KeepsAsSpelled (sym (given_fine (written first spelling.Other (expr_of (channel_at t n).kind (expr_form.Channel n))) o g)) (made_other first (expr_of (channel_at t n).kind (expr_form.Channel n)) (channel_keeps n h))

  name_keeps : (first name_at : ℕ) (n : TableEntry) (o : Operand) → is_named t scope n ≡ true → Gives (value_of_name first name_at (entry_expression t n)) o → KeepsAsSpelled o
  name_keeps first at (entry.Signal n) o h g = absurd (cc)
  name_keeps first at (entry.Channel n) o h g = absurd (cc)
  name_keeps first at (entry.Variable n) o h g =
      subst KeepsAsSpelled (sym (given_fine (written first spelling.Other (variable_of (variable_at t n).kind n)) o g)) (made_other first (variable_of (variable_at t n).kind n) (variable_keeps n h))

  -- operators and casts

  unary_made : (at : ℕ) (op : Op1) (e : Operand) (k : Kind) → KeepsAsSpelled e → result_kind1 op (kind_of e.expr) ≡ Some k → KeepsAsSpelled (written at (unary_spelling op e.spelling) (expr_of k (expr_form.Unary op e.expr)))
  unary_made at op e k g i = record {
    keeps = made_keeps k (expr_form.Unary op e.expr) (Unary k op (expression e.expr)) (of_unary k op e.expr) refl
        (both_true (fits_expression t scope (expression e.expr)) (is_of_kind (result_kind1 op (terms.kind_of (expression e.expr))) k) g.keeps.fits
        (ap (λ j. is_of_kind (result_kind1 op j) k) g.keeps.kind ∙ ap (λ j. is_of_kind j k) i ∙ is_itself k))
        g.keeps.divided;
    spelled = subst (IsSpelled (unary_spelling op e.spelling)) (sym (of_unary k op e.expr)) (spelled_unary k op e.spelling (expression e.expr) g.spelled);
  }

  unary_keeps : (at : ℕ) (op : Op1) (e o : Operand) → KeepsAsSpelled e → Gives (unary at op e) o → KeepsAsSpelled o
  unary_keeps at op e o g h = split (result_kind1 op (kind_of e.expr)) refl h
    where
      split : (k : Option Kind) → result_kind1 op (kind_of e.expr) ≡ k → Gives (with_kind1 at op e k) o → KeepsAsSpelled o
      split None i j = absurd (none_wrong (failure.Mismatch at) o j)
      split (Some k) i j = subst KeepsAsSpelled (sym (given_fine (written at (unary_spelling op e.spelling) (expr_of k (expr_form.Unary op e.expr))) o j)) (unary_made at op e k g i)

  cast_made : (k : Kind) (e : expr.Expr) → Keeps e → is_castable (kind_of e) k ≡ true → Keeps (expr_of k (expr_form.Cast e))
  cast_made k e g i =
      made_keeps k (expr_form.Cast e) (Cast k (expression e)) (of_cast k e) refl
      (both_true (fits_expression t scope (expression e)) (is_castable (terms.kind_of (expression e)) k) g.fits (ap (λ j. is_castable j k) g.kind ∙ i)) g.divided

  cast_keeps : (at : ℕ) (k : Kind) (e o : Operand) → KeepsAsSpelled e → Gives (cast at k e) o → KeepsAsSpelled o
  cast_keeps at k e o g h = split (is_castable (kind_of e.expr) k) refl h
    where
      split : (b : Bool) → is_castable (kind_of e.expr) k ≡ b → Gives (cond b (fine (written at spelling.Other (expr_of k (expr_form.Cast e.expr)))) (wrong (failure.Mismatch at))) o → KeepsAsSpelled o
      split false i j = absurd (none_wrong (failure.Mismatch at) o j)
      split true i j = subst KeepsAsSpelled (sym (given_fine (written at spelling.Other (expr_of k (expr_form.Cast e.expr))) o j)) (made_other at (expr_of k (expr_form.Cast e.expr)) (cast_made k e.expr g.keeps i))

  record Divided (op : Op2) (r : Operand) (e x : expr.Expr) : Type 0 where
    is : x ≡ e
    allowed : is_allowed op (expression r.expr) ≡ true

  divided : (op : Op2) (r : Operand) (e x : expr.Expr) → KeepsAsSpelled r → Gives (with_divisor (divides op) r e) x → Divided op r e x
  divided op r e x g h = split (divides op) refl h
    where
      test : (b : Bool) → spells_divisor r.spelling ≡ b → Gives (cond b (fine e) (record { value = Some e; failures = failure.Divisor r.first ∷ [] })) x → Divided op r e x
      test true i j = record { is = given_fine e x j; allowed = allowed_if op (expression r.expr) (λ d. spelled_divisor r.spelling (expression r.expr) g.spelled i) }
      test false i j = absurd (let f = j.failures in cc)

      no_divisor : divides op ≡ false → divides op ≡ true → divisors.is_divisor (expression r.expr) ≡ true
      no_divisor i d = absurd (cc)

      split : (b : Bool) → divides op ≡ b → Gives (with_divisor b r e) x → Divided op r e x
      split false i j = record { is = given_fine e x j; allowed = allowed_if op (expression r.expr) (no_divisor i) }
      split true i j = test (spells_divisor r.spelling) refl j

  binary_made : (op : Op2) (l : expr.Expr) (r : Operand) (k : Kind) → Keeps l → KeepsAsSpelled r → result_kind2 op (kind_of l) (kind_of r.expr) ≡ Some k → is_allowed op (expression r.expr) ≡ true → Keeps (expr_of k (expr_form.Binary op l r.expr))
  binary_made op l r k g h i d =
      made_keeps k (expr_form.Binary op l r.expr) (Binary k op (expression l) (expression r.expr)) (of_binary k op l r.expr) refl
      (both_true (fits_expression t scope (expression l)) (fits_expression t scope (expression r.expr) && is_of_kind (result_kind2 op (terms.kind_of (expression l)) (terms.kind_of (expression r.expr))) k) g.fits
      (both_true (fits_expression t scope (expression r.expr)) (is_of_kind (result_kind2 op (terms.kind_of (expression l)) (terms.kind_of (expression r.expr))) k) h.keeps.fits
      (ap (λ j. is_of_kind (result_kind2 op j (terms.kind_of (expression r.expr))) k) g.kind ∙ ap (λ j. is_of_kind (result_kind2 op (kind_of l) j) k) h.keeps.kind ∙ ap (λ j. is_of_kind j k) i ∙ is_itself k)))
      (both_true (has_divisors (expression l)) (has_divisors (expression r.expr) && is_allowed op (expression r.expr)) g.divided (both_true (has_divisors (expression r.expr)) (is_allowed op (expression r.expr)) h.keeps.divided d))

  binary_keeps : (at : ℕ) (op : Op2) (l : expr.Expr) (r : Operand) (x : expr.Expr) → Keeps l → KeepsAsSpelled r → Gives (binary at op l r) x → Keeps x
  binary_keeps at op l r x g h b = split (result_kind2 op (kind_of l) (kind_of r.expr)) refl b
    where
      split : (k : Option Kind) → result_kind2 op (kind_of l) (kind_of r.expr) ≡ k → Gives (with_kind2 at op l r k) x → Keeps x
      split None i j = absurd (none_wrong (failure.Mismatch at) x j)
      split (Some k) i j = let d = divided op r (expr_of k (expr_form.Binary op l r.expr)) x h j in subst Keeps (sym d.is) (binary_made op l r k g h i d.allowed)

  pair_keeps : (at : ℕ) (op : Op2) (l r o : Operand) → KeepsAsSpelled l → KeepsAsSpelled r → Gives (binary_operand at op (operands l r)) o → KeepsAsSpelled o
  pair_keeps at op l r o g h b =
      let made = given_then (binary at op l.expr r) (λ e. fine (written l.first spelling.Other e)) o b in
      subst KeepsAsSpelled (sym (given_fine (written l.first spelling.Other made.part) o made.second)) (made_other l.first made.part (binary_keeps at op l.expr r made.part g.keeps h made.first))

  -- whole expressions

  abbrev IsSound : Raw TableEntry → Type 0
  IsSound e = (o : Operand) → uses_entries t scope e ≡ true → Gives (checked_expression t e) o → KeepsAsSpelled o

  abbrev Proved : Type 0
  Proved = (e : Raw TableEntry) × IsSound e

  abbrev uses_of : Raw-F TableEntry Proved → Raw-F TableEntry Bool
  uses_of = raw.map-Raw TableEntry Proved Bool (λ e. uses_entries t scope e.0)

  abbrev checks_of : Raw-F TableEntry Proved → Raw-F TableEntry (Checked Operand)
  checks_of = raw.map-Raw TableEntry Proved (Checked Operand) (λ e. checked_expression t e.0)

  abbrev plain_of : Raw-F TableEntry Proved → Raw-F TableEntry (Raw TableEntry)
  plain_of = raw.map-Raw TableEntry Proved (Raw TableEntry) (λ e. e.0)

  step : (y : Raw-F TableEntry Proved) (o : Operand) → fits_raw_layer t scope (uses_of y) ≡ true → Gives (checked_layer t (checks_of y)) o → KeepsAsSpelled o
  step (Raw-F.Literal at v) o h g =
      subst KeepsAsSpelled (sym (given_fine (literal at (literal_value v) (spelling.Literal (literal_value v))) o g)) (record { keeps = literal_keeps v; spelled = of_literal v.kind (literal_value v).number })
  step (Raw-F.Least at v) o h g =
      subst KeepsAsSpelled (sym (given_fine (literal at (literal_value v) (spelling.Least (literal_value v))) o g)) (record { keeps = literal_keeps v; spelled = of_literal v.kind (literal_value v).number })
  step (Raw-F.Variable at n) o h g = name_keeps at at n o h g
  step (Raw-F.Status at name_at n) o h g = status_keeps at name_at n o h g
  step (Raw-F.Unary at op e) o h g =
      let made = given_then (checked_expression t e.0) (unary at op) o g in unary_keeps at op made.part o (e.1 made.part h made.first) made.second
  step (Raw-F.Cast at k e) o h g =
      let made = given_then (checked_expression t e.0) (cast at k) o g in cast_keeps at k made.part o (e.1 made.part h made.first) made.second
  step (Raw-F.Group at e) o h g =
      let made = given_then (checked_expression t e.0) (λ o. fine (in_parentheses at o)) o g in
      let inner = e.1 made.part h made.first in
      subst KeepsAsSpelled (sym (given_fine (in_parentheses at made.part) o made.second)) (record { keeps = inner.keeps; spelled = spelled_grouped made.part.spelling (expression made.part.expr) inner.spelled })
  step (Raw-F.Binary at op l r) o h g =
      let made = given_then (map2 operands (checked_expression t l.0) (checked_expression t r.0)) (binary_operand at op) o g in
      let two = given_both operands (checked_expression t l.0) (checked_expression t r.0) made.part made.first in
      pair_keeps at op two.left two.right o (l.1 two.left (left_true (uses_entries t scope l.0) (uses_entries t scope r.0) h) two.first) (r.1 two.right (right_true (uses_entries t scope l.0) (uses_entries t scope r.0) h) two.second)
      (subst (λ x. Gives (binary_operand at op x) o) two.is made.second)

  uses_rolled : (y : Raw-F TableEntry Proved) → uses_entries t scope (raw.roll-Raw TableEntry (plain_of y)) ≡ fits_raw_layer t scope (uses_of y)
  uses_rolled (Raw-F.Literal at v) = fold-roll-Raw TableEntry Bool (fits_raw_layer t scope) (Raw-F.Literal at v)
  uses_rolled (Raw-F.Least at v) = fold-roll-Raw TableEntry Bool (fits_raw_layer t scope) (Raw-F.Least at v)
  uses_rolled (Raw-F.Variable at n) = fold-roll-Raw TableEntry Bool (fits_raw_layer t scope) (Raw-F.Variable at n)
  uses_rolled (Raw-F.Status at name_at n) = fold-roll-Raw TableEntry Bool (fits_raw_layer t scope) (Raw-F.Status at name_at n)
  uses_rolled (Raw-F.Unary at op e) = fold-roll-Raw TableEntry Bool (fits_raw_layer t scope) (Raw-F.Unary at op e.0)
  uses_rolled (Raw-F.Cast at k e) = fold-roll-Raw TableEntry Bool (fits_raw_layer t scope) (Raw-F.Cast at k e.0)
  uses_rolled (Raw-F.Group at e) = fold-roll-Raw TableEntry Bool (fits_raw_layer t scope) (Raw-F.Group at e.0)
  uses_rolled (Raw-F.Binary at op l r) = fold-roll-Raw TableEntry Bool (fits_raw_layer t scope) (Raw-F.Binary at op l.0 r.0)

  checks_rolled : (y : Raw-F TableEntry Proved) → checked_expression t (raw.roll-Raw TableEntry (plain_of y)) ≡ checked_layer t (checks_of y)
  checks_rolled (Raw-F.Literal at v) = fold-roll-Raw TableEntry (Checked Operand) (checked_layer t) (Raw-F.Literal at v)
  checks_rolled (Raw-F.Least at v) = fold-roll-Raw TableEntry (Checked Operand) (checked_layer t) (Raw-F.Least at v)
  checks_rolled (Raw-F.Variable at n) = fold-roll-Raw TableEntry (Checked Operand) (checked_layer t) (Raw-F.Variable at n)
  checks_rolled (Raw-F.Status at name_at n) = fold-roll-Raw TableEntry (Checked Operand) (checked_layer t) (Raw-F.Status at name_at n)
  checks_rolled (Raw-F.Unary at op e) = fold-roll-Raw TableEntry (Checked Operand) (checked_layer t) (Raw-F.Unary at op e.0)
  checks_rolled (Raw-F.Cast at k e) = fold-roll-Raw TableEntry (Checked Operand) (checked_layer t) (Raw-F.Cast at k e.0)
  checks_rolled (Raw-F.Group at e) = fold-roll-Raw TableEntry (Checked Operand) (checked_layer t) (Raw-F.Group at e.0)
  checks_rolled (Raw-F.Binary at op l r) = fold-roll-Raw TableEntry (Checked Operand) (checked_layer t) (Raw-F.Binary at op l.0 r.0)

  rolled : (y : Raw-F TableEntry Proved) → IsSound (raw.roll-Raw TableEntry (plain_of y))
  rolled y o h g = step y o (sym (uses_rolled y) ∙ h) (subst (λ c. Gives c o) (checks_rolled y) g)

  expression_keeps : (e : Raw TableEntry) → IsSound e
  expression_keeps = ind-Raw TableEntry IsSound (λ x y is. subst (λ z. IsSound (raw.roll-Raw TableEntry z)) is (rolled y))

  -- what is given to something of a kind

  pub record IsGiven (k : Kind) (e : expr.Expr) : Type 0 where
    pub keeps : Keeps e
    pub kind : kind_of e ≡ k

  pub rules_kept : (k : Kind) (e : expr.Expr) → IsGiven k e → (is_given t scope k (expression e) && has_divisors (expression e)) ≡ true
  rules_kept k e g =
      both_true (is_given t scope k (expression e)) (has_divisors (expression e))
      (both_true (fits_expression t scope (expression e)) (same_kind (terms.kind_of (expression e)) k) g.keeps.fits (ap (λ j. same_kind j k) (g.keeps.kind ∙ g.kind) ∙ is_itself k)) g.keeps.divided

  cast_given : (k : Kind) (e : expr.Expr) → Keeps e → is_castable (kind_of e) k ≡ true → IsGiven k (expr_of k (expr_form.Cast e))
  cast_given k e g i = record { keeps = cast_made k e g i; kind = kind_made k (expr_form.Cast e) }

  spelled_castable : (k : Kind) (s : Spelling) (e : Expression) → IsSpelled s e → fits_expression t scope e ≡ true → is_given_to k s ≡ true → is_castable (terms.kind_of e) k ≡ true
  spelled_castable k (spelling.Literal v) e h f g = ap (λ x. is_castable (terms.kind_of x) k) h ∙ narrowed_castable v.kind k (int_le (lowest k) v.number && int_le v.number (highest k)) g
  spelled_castable k (spelling.Grouped v) e h f g = ap (λ x. is_castable (terms.kind_of x) k) h ∙ narrowed_castable v.kind k (int_le (lowest k) v.number && int_le v.number (highest k)) g
  spelled_castable k (spelling.Minus v) e h f g =
      ap (λ x. is_castable (terms.kind_of x) k) h.is
      ∙ minus_castable v.kind h.kind k (int_le (lowest k) (neg_ℤ v.number) && int_le (neg_ℤ v.number) (highest k)) g (right_true (fits_expression t scope (Literal v.kind v.number)) (is_of_kind (result_kind1 op1.Minus v.kind) h.kind) (sym (ap (fits_expression t scope) h.is) ∙ f))
  spelled_castable k (spelling.MinusGrouped v) e h f g =
      ap (λ x. is_castable (terms.kind_of x) k) h.is
      ∙ minus_castable v.kind h.kind k (int_le (lowest k) (neg_ℤ v.number) && int_le (neg_ℤ v.number) (highest k)) g (right_true (fits_expression t scope (Literal v.kind v.number)) (is_of_kind (result_kind1 op1.Minus v.kind) h.kind) (sym (ap (fits_expression t scope) h.is) ∙ f))
  spelled_castable k (spelling.Least v) e h f g = absurd (cc)
  spelled_castable k spelling.Other e h f g = absurd (cc)

  given_castable : (k : Kind) (o : Operand) (b : Bool) → is_widened (kind_of o.expr) k ≡ b → KeepsAsSpelled o → (b || is_given_to k o.spelling) ≡ true → is_castable (kind_of o.expr) k ≡ true
  given_castable k o true e g h = widened_castable (kind_of o.expr) k e
  given_castable k o false e g h = ap (λ j. is_castable j k) (sym g.keeps.kind) ∙ spelled_castable k o.spelling (expression o.expr) g.spelled g.keeps.fits h

  converted_given : (k : Kind) (o : Operand) → KeepsAsSpelled o → is_castable (kind_of o.expr) k ≡ true → IsGiven k (converted k o.expr)
  converted_given k o g h = split (same_kind (kind_of o.expr) k) refl
    where
      split : (b : Bool) → same_kind (kind_of o.expr) k ≡ b → IsGiven k (cond b o.expr (expr_of k (expr_form.Cast o.expr)))
      split true e = record { keeps = g.keeps; kind = same_is (kind_of o.expr) k e }
      split false e = cast_given k o.expr g.keeps h

  operand_given : (k : Kind) (o : Operand) (x : expr.Expr) → KeepsAsSpelled o → Gives (given k o) x → IsGiven k x
  operand_given k o x g h = split (is_widened (kind_of o.expr) k || is_given_to k o.spelling) refl h
    where
      split : (b : Bool) → (is_widened (kind_of o.expr) k || is_given_to k o.spelling) ≡ b → Gives (cond b (fine (converted k o.expr)) (wrong (failure.Mismatch o.first))) x → IsGiven k x
      split true i j = subst (IsGiven k) (sym (given_fine (converted k o.expr) x j)) (converted_given k o g (given_castable k o (is_widened (kind_of o.expr) k) refl g i))
      split false i j = absurd (none_wrong (failure.Mismatch o.first) x j)

  operand_condition : (o : Operand) (x : expr.Expr) → KeepsAsSpelled o → Gives (condition o) x → IsGiven Boolean x
  operand_condition o x g h = split (same_kind (kind_of o.expr) Boolean) refl h
    where
      split : (b : Bool) → same_kind (kind_of o.expr) Boolean ≡ b → Gives (cond b (fine o.expr) (wrong (failure.Mismatch o.first))) x → IsGiven Boolean x
      split true i j = subst (IsGiven Boolean) (sym (given_fine o.expr x j)) (record { keeps = g.keeps; kind = same_is (kind_of o.expr) Boolean i })
      split false i j = absurd (none_wrong (failure.Mismatch o.first) x j)

  cast_back_given : (at : ℕ) (k : Kind) (e x : expr.Expr) → Keeps e → Gives (cast_back at k e) x → IsGiven k x
  cast_back_given at k e x g h = split (is_castable (kind_of e) k) refl h
    where
      split : (b : Bool) → is_castable (kind_of e) k ≡ b → Gives (cond b (fine (expr_of k (expr_form.Cast e))) (wrong (failure.Mismatch at))) x → IsGiven k x
      split true i j = subst (IsGiven k) (sym (given_fine (expr_of k (expr_form.Cast e)) x j)) (cast_given k e g i)
      split false i j = absurd (none_wrong (failure.Mismatch at) x j)

  pub value_given : (k : Kind) (e : Raw TableEntry) (x : expr.Expr) → uses_entries t scope e ≡ true → Gives (value_for t k e) x → IsGiven k x
  value_given k e x h g = let made = given_then (checked_expression t e) (given k) x g in operand_given k made.part x (expression_keeps e made.part h made.first) made.second

  pub condition_given : (e : Raw TableEntry) (x : expr.Expr) → uses_entries t scope e ≡ true → Gives (condition_of t e) x → IsGiven Boolean x
  condition_given e x h g = let made = given_then (checked_expression t e) condition x g in operand_condition made.part x (expression_keeps e made.part h made.first) made.second

  pub update_given : (n at : ℕ) (op : Op2) (e : Raw TableEntry) (x : expr.Expr) → is_variable_of t scope.domain n ≡ true → uses_entries t scope e ≡ true → Gives (update_of t n at op e) x → IsGiven (variable_at t n).kind x
  update_given n at op e x v h g =
      let made = given_then (checked_expression t e) (updated (variable_at t n).kind n at op) x g in
      let new = given_then (binary at op (variable_of (variable_at t n).kind n) made.part) (cast_back at (variable_at t n).kind) x made.second in
      cast_back_given at (variable_at t n).kind new.part x (binary_keeps at op (variable_of (variable_at t n).kind n) made.part new.part (variable_keeps n v) (expression_keeps e made.part h made.first) new.first) new.second
