-- The forms of statements that are built so far.
use Rattle.std.specs.Prelude.{Bool, true, false, ◌&&◌, List, [], ◌∷◌, None}
use Rattle.java_values.specs.declared.kind.Kind.TheVariants as kind
use Rattle.kernel_terms.specs.declared.term.Term.{Term}
use Rattle.kernel_terms.specs.declared.term.Form.{Form}
use Rattle.kernel_terms.specs.declared.term.Form.TheOpen.{Form-F, Term-F}
use Rattle.kernel_terms.specs.declared.term.Form.TheFolds.{fold-Form, fold-Term}
use Rattle.kernel_terms.specs.Expressions.{Expression, Literal, expression}

abbrev pub is_int_literal : Expression → Bool
is_int_literal (Literal kind.Int n) = true
is_int_literal _ = false

-- one level of a tree, with whether each part has built forms alone in its place
abbrev pub all_built : List Bool → Bool
all_built [] = true
all_built (b ∷ bs) = b && all_built bs

abbrev pub form_built : Form-F Bool Bool → Bool
form_built Form-F.Nothing = true
form_built Form-F.Pause = true
form_built (Form-F.Emit s None) = true
form_built (Form-F.Seq bs) = all_built bs
form_built (Form-F.Loop b) = b
form_built (Form-F.Send c e) = is_int_literal (expression e)
form_built (Form-F.Receive c) = true
form_built _ = false

abbrev pub term_built : Term-F Bool Bool → Bool
term_built t = t.form

-- the tree has built forms alone: `;`, `pause`, `emit` of a pure signal, `while(true)`, `send` of a literal of
-- the kind `int`, `receive`
abbrev pub is_built : Term → Bool
is_built = fold-Term Bool Bool form_built term_built

abbrev pub is_built_form : Form → Bool
is_built_form = fold-Form Bool Bool form_built term_built
