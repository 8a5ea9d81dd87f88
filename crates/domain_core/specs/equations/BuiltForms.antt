-- Statements of the forms that are built so far, and what they stand for in the rules.
use Rattle.std.specs.Prelude.{ℕ, ℤ, pos, Bool, List, [], ◌∷◌, None}
use Rattle.java_values.specs.declared.kind.Kind.TheVariants as kind
use Rattle.kernel_terms.specs.declared.term.Term.{Term}
use Rattle.kernel_terms.specs.declared.term.Form.{Form}
use Rattle.kernel_terms.specs.declared.term.Form.TheOpen.{Form-F, Term-F}
use Rattle.kernel_terms.specs.declared.term.Form.TheFolds.{fold-Form, fold-Term}
use Rattle.kernel_terms.specs.Expressions.{Expression, Literal, expression}
use Rattle.kernel_terms.specs.Statements.{Stmt}
use Rattle.kernel_terms.specs.Statements as rules
use Rattle.kernel_terms.specs.MayEnd as ends

-- emissions are pure, and what is sent is a literal of the kind `int`
pub data Plain : Type 0 where
  Nothing : Plain
  Pause : Plain
  Emit : (signal : ℕ) → Plain
  Seq : (p q : Plain) → Plain
  Loop : (p : Plain) → Plain
  Send : (channel : ℕ) (literal : ℤ) → Plain
  Receive : (channel : ℕ) → Plain

-- its statement in the rules
abbrev pub whole : Plain → Stmt
whole Nothing = rules.Nothing
whole Pause = rules.Pause
whole (Emit s) = rules.Emit s None
whole (Seq p q) = rules.Seq (whole p) (whole q)
whole (Loop p) = rules.Loop (whole p)
whole (Send c n) = rules.Send c (Literal kind.Int n)
whole (Receive c) = rules.Receive c

-- it may end in its starting tick, and in a later one
abbrev pub ends0 : Plain → Bool
ends0 p = ends.ends0 (whole p)

abbrev pub ends1 : Plain → Bool
ends1 p = ends.ends1 (whole p)

-- no loop's body may end in its starting tick
abbrev pub LoopsWait : Plain → Type 0
LoopsWait p = ends.LoopsWait (whole p)

-- the number of a literal
abbrev pub number_of : Expression → ℤ
number_of (Literal k n) = n
number_of _ = pos 0

-- A list of parts nests to the right. One part stands for itself, and none for nothing.
abbrev pub sequence_from : Plain → List Plain → Plain
sequence_from p [] = p
sequence_from p (q ∷ rest) = Seq p (sequence_from q rest)

abbrev pub sequence : List Plain → Plain
sequence [] = Nothing
sequence (p ∷ rest) = sequence_from p rest

-- One level of a tree, with the built statement of each part in its place. Other forms aren't built.
abbrev pub form_plain : Form-F Plain Plain → Plain
form_plain Form-F.Pause = Pause
form_plain (Form-F.Emit s e) = Emit s
form_plain (Form-F.Seq ps) = sequence ps
form_plain (Form-F.Loop p) = Loop p
form_plain (Form-F.Send c e) = Send c (number_of (expression e))
form_plain (Form-F.Receive c) = Receive c
form_plain _ = Nothing

abbrev pub term_plain : Term-F Plain Plain → Plain
term_plain t = t.form

abbrev pub plain : Term → Plain
plain = fold-Term Plain Plain form_plain term_plain

abbrev pub plain_of_form : Form → Plain
plain_of_form = fold-Form Plain Plain form_plain term_plain
