-- Which expressions are literals of the kind `int`.
use Rattle.std.proofs.Common.{◌≡◌, ℕ, ℤ, Bool, true, false, Some, None, ap, refl, sym, ◌∙◌}
use Rattle.java_values.specs.declared.kind.Kind.{Kind}
use Rattle.java_values.specs.declared.kind.Kind.TheVariants as kind
use Rattle.java_values.specs.declared.op.Op1.{Op1}
use Rattle.java_values.specs.declared.op.Op2.{Op2}
use Rattle.kernel_terms.specs.declared.expr.Expr.{Expr}
use Rattle.kernel_terms.specs.declared.expr.ExprForm.{ExprForm}
use Rattle.kernel_terms.specs.declared.expr.ExprForm as value
use Rattle.kernel_terms.specs.declared.expr.ExprForm.TheOpen.{ExprForm-F}
use Rattle.kernel_terms.specs.declared.expr.ExprForm.TheFolds.{fold-ExprForm, fold-roll-ExprForm, fold_out-ExprForm, fold_out-Expr}
use Rattle.kernel_terms.specs.declared.expr.ExprForm.TheVariants.{rolls-Literal, rolls-Variable, rolls-Signal, rolls-Channel, rolls-Unary, rolls-Binary, rolls-Cast}
use Rattle.kernel_terms.specs.Expressions.{Expression, Literal, Variable, SignalValue, ChannelValue, Unary, Binary, Cast, kind_of, expression, form_expression, node_expression}
use Rattle.sj_accept.specs.definitions.Lowering.{int_of}

value_of_form : ExprForm → Kind → Expression
value_of_form = fold-ExprForm (Kind → Expression) Expression form_expression node_expression

layer : (e : Expr) (y : ExprForm-F ExprForm Expr) → e.form ≡ value.roll-ExprForm y → expression e ≡ form_expression (value.map-ExprForm ExprForm Expr (Kind → Expression) Expression value_of_form expression y) e.kind
unfolding value_of_form
layer e y h =
    fold_out-Expr (Kind → Expression) Expression form_expression node_expression e
    ∙ ap (λ f. value_of_form f e.kind) h
    ∙ ap (λ (f : Kind → Expression). f e.kind) (fold-roll-ExprForm (Kind → Expression) Expression form_expression node_expression y)

pub int_literal : (e : Expr) (n : ℤ) → e.form ≡ value.Literal n → e.kind ≡ kind.Int → int_of (expression e) ≡ Some n
int_literal e n h k = ap int_of (layer e (ExprForm-F.Literal n) (h ∙ sym (rolls-Literal n))) ∙ ap (λ x. int_of (Literal x n)) k

pub variable_is_none : (e : Expr) (n : ℕ) → e.form ≡ value.Variable n → int_of (expression e) ≡ None
variable_is_none e n h = ap int_of (layer e (ExprForm-F.Variable n) (h ∙ sym (rolls-Variable n)))

pub signal_is_none : (e : Expr) (n : ℕ) → e.form ≡ value.Signal n → int_of (expression e) ≡ None
signal_is_none e n h = ap int_of (layer e (ExprForm-F.Signal n) (h ∙ sym (rolls-Signal n)))

pub channel_is_none : (e : Expr) (n : ℕ) → e.form ≡ value.Channel n → int_of (expression e) ≡ None
channel_is_none e n h = ap int_of (layer e (ExprForm-F.Channel n) (h ∙ sym (rolls-Channel n)))

pub unary_is_none : (e f : Expr) (op : Op1) → e.form ≡ value.Unary op f → int_of (expression e) ≡ None
unary_is_none e f op h = ap int_of (layer e (ExprForm-F.Unary op f) (h ∙ sym (rolls-Unary op f)))

pub binary_is_none : (e f g : Expr) (op : Op2) → e.form ≡ value.Binary op f g → int_of (expression e) ≡ None
binary_is_none e f g op h = ap int_of (layer e (ExprForm-F.Binary op f g) (h ∙ sym (rolls-Binary op f g)))

pub cast_is_none : (e f : Expr) → e.form ≡ value.Cast f → int_of (expression e) ≡ None
cast_is_none e f h = ap int_of (layer e (ExprForm-F.Cast f) (h ∙ sym (rolls-Cast f)))

-- an expression of another kind

kind_kept : (y : ExprForm-F (Kind → Expression) Expression) (k : Kind) → kind_of (form_expression y k) ≡ k
kind_kept (ExprForm-F.Literal n) k = refl
kind_kept (ExprForm-F.Variable n) k = refl
kind_kept (ExprForm-F.Signal s) k = refl
kind_kept (ExprForm-F.Channel c) k = refl
kind_kept (ExprForm-F.Unary op e) k = refl
kind_kept (ExprForm-F.Binary op e f) k = refl
kind_kept (ExprForm-F.Cast e) k = refl

kind_is : (e : Expr) → kind_of (expression e) ≡ e.kind
unfolding value_of_form
kind_is e =
    ap kind_of (fold_out-Expr (Kind → Expression) Expression form_expression node_expression e)
    ∙ ap (λ (f : Kind → Expression). kind_of (f e.kind)) (fold_out-ExprForm (Kind → Expression) Expression form_expression node_expression e.form)
    ∙ kind_kept _ e.kind

abbrev is_int : Kind → Bool
is_int kind.Int = true
is_int _ = false

number_at : (k : Kind) (n : ℤ) → is_int k ≡ false → int_of (Literal k n) ≡ None
number_at kind.Boolean n h = refl
number_at kind.Byte n h = refl
number_at kind.Short n h = refl
number_at kind.Char n h = refl
number_at kind.Int n h = absurd (cc)
number_at kind.Long n h = refl

no_int : (x : Expression) → is_int (kind_of x) ≡ false → int_of x ≡ None
no_int (Literal k n) h = number_at k n h
no_int (Variable k x) h = refl
no_int (SignalValue k s) h = refl
no_int (ChannelValue k c) h = refl
no_int (Unary k op e) h = refl
no_int (Binary k op e f) h = refl
no_int (Cast k e) h = refl

of_kind : (e : Expr) (k : Kind) → e.kind ≡ k → is_int k ≡ false → int_of (expression e) ≡ None
of_kind e k h n = no_int (expression e) (ap is_int (kind_is e ∙ h) ∙ n)

pub boolean_is_none : (e : Expr) → e.kind ≡ kind.Boolean → int_of (expression e) ≡ None
boolean_is_none e h = of_kind e kind.Boolean h refl

pub byte_is_none : (e : Expr) → e.kind ≡ kind.Byte → int_of (expression e) ≡ None
byte_is_none e h = of_kind e kind.Byte h refl

pub short_is_none : (e : Expr) → e.kind ≡ kind.Short → int_of (expression e) ≡ None
short_is_none e h = of_kind e kind.Short h refl

pub char_is_none : (e : Expr) → e.kind ≡ kind.Char → int_of (expression e) ≡ None
char_is_none e h = of_kind e kind.Char h refl

pub long_is_none : (e : Expr) → e.kind ≡ kind.Long → int_of (expression e) ≡ None
long_is_none e h = of_kind e kind.Long h refl

-- a literal's number tells the expression
pub literal_of : (x : Expression) (n : ℤ) → int_of x ≡ Some n → x ≡ Literal kind.Int n
literal_of (Literal kind.Int m) n h = ap (Literal kind.Int) (same m n h)
  where
    same : (a b : ℤ) → Some a ≡ Some b → a ≡ b
    same a b e = cc
literal_of (Literal kind.Boolean m) n h = absurd (cc)
literal_of (Literal kind.Byte m) n h = absurd (cc)
literal_of (Literal kind.Short m) n h = absurd (cc)
literal_of (Literal kind.Char m) n h = absurd (cc)
literal_of (Literal kind.Long m) n h = absurd (cc)
literal_of (Variable k x) n h = absurd (cc)
literal_of (SignalValue k s) n h = absurd (cc)
literal_of (ChannelValue k c) n h = absurd (cc)
literal_of (Unary k op e) n h = absurd (cc)
literal_of (Binary k op e f) n h = absurd (cc)
literal_of (Cast k e) n h = absurd (cc)

pub ruleset literals = (int_literal, variable_is_none, signal_is_none, channel_is_none, unary_is_none, binary_is_none, cast_is_none, boolean_is_none, byte_is_none, short_is_none, char_is_none, long_is_none)
