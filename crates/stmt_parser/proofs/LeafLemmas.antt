-- Statements without blocks.
use Rattle.std.proofs.Common.{◌≡◌, ℕ, Bool, List, ◌∷◌, length, Option, Some, None, ap, refl, ◌∙◌, subst, arith}
use Rattle.java_values.specs.declared.kind.Kind.{Kind}
use Rattle.java_values.specs.declared.op.Op2.{Op2}
use Rattle.sj_ast.specs.declared.port.Combination.{Combination}
use Rattle.sj_ast.specs.declared.port.Signal.{Signal}
use Rattle.sj_lexer.specs.declared.token.Class.{Class}
use Rattle.sj_lexer.specs.declared.token.Class.TheVariants.{Reserved, Name, Mark}
use Rattle.sj_lexer.specs.declared.token.Mark.TheVariants as mark
use Rattle.sj_lexer.specs.declared.token.Word.TheVariants as word
use Rattle.sj_lexer.specs.declared.token.Token.{Token}
use Rattle.sj_ast.specs.declared.name.Name as ast_name
use Rattle.sj_ast.specs.declared.expression.Raw as raw
use Rattle.sj_ast.specs.declared.test.Test as signal_test
use Rattle.sj_ast.specs.declared.statement.Form as form
use Rattle.sj_grammar.specs.declared.role.Start.{Start}
use Rattle.sj_grammar.specs.declared.role.Start.TheVariants as start
use Rattle.sj_grammar.specs.definitions.Roles.{start_of}
use Rattle.sj_grammar.specs.definitions.Expressions.{print}
use Rattle.sj_grammar.specs.definitions.Statements.{print_given, print_guard, print_combined, Pure, Valued, StillStmt, EmitStmt, SignalStmt, VariableStmt, AssignStmt, ExitStmt, SendStmt, ReceiveStmt, AwaitStmt}
use Rattle.sj_grammar.specs.definitions.Trees.{name_of, is_at_once, placed, still_form, emission_form, assign_form, SourceStmt}
use Rattle.sj_grammar.specs.definitions.Machine.{T, Operand, More, ValuePart, CombinePart, AfterKind}
use Rattle.sj_grammar.proofs.EqualClasses.{same-class}
use Rattle.sj_grammar.proofs.ClassRoles.{StartIs, start-is}
use Rattle.expr_parser.specs.Reading.{IsFirst}
use Rattle.stmt_parser.specs.Reading.{ReadsName, ReadsNamed, ReadsNameEnd, ReadsCombined, ReadsValued, ReadsGiven, ReadsValue, ReadsParens, ReadsGuard, ReadsAssignSign, ReadsForm}
use Rattle.stmt_parser.proofs.WalkLemmas.{class-goes, name-goes, end-goes}

-- what a start tells of the class
pub started : (s : Start) (t : Token) → start_of t.class ≡ s → StartIs s t.class
started s t h = let P : Start → Type 0 = λ x. StartIs x t.class in subst P h (start-is t.class)

pub first-class : (c : Class) (ts us : List Token) (t : Token) → IsFirst c ts t us → t.class ≡ c
first-class c ts us t f = same-class c t.class f.class_is

pub still-reads : (source : List ℕ) (ts rest : List Token) (w s : Token) (d : ℕ) (tree : SourceStmt) → start_of w.class ≡ start.Still → IsFirst (Mark mark.Semicolon) ts s rest → tree ≡ placed w (still_form w.class) → ReadsForm source w start.Still ts d tree rest
still-reads source ts rest w s d tree r f q = record {
  stmt = StillStmt w s;
  is_stmt = (started start.Still w r, first-class (Mark mark.Semicolon) ts rest s f);
  stands = q;
  printed = ap (λ x. w ∷ x) f.is;
  goes = end-goes ts rest s d 0 f;
  no_longer = (let x = ap length f.is in omega arith);
}

pub emit-reads : (source : List ℕ) (ts mid after rest : List Token) (w s : Token) (d : ℕ) (name : ast_name.Name) (value : Option (raw.Raw ast_name.Name)) (tree : SourceStmt)
    → start_of w.class ≡ start.Emit → ReadsName source ts name mid → ReadsGiven source mid d value after → IsFirst (Mark mark.Semicolon) after s rest → tree ≡ placed w (emission_form w.class name.at name value) → ReadsForm source w start.Emit ts d tree rest
emit-reads source ts mid after rest w s d name value tree r n g f q = record {
  stmt = EmitStmt w n.token g.given s;
  is_stmt = (started start.Emit w r, first-class Name ts mid n.token n.first, g.is_given, first-class (Mark mark.Semicolon) after rest s f);
  stands = q ∙ ap (λ (x : ast_name.Name). placed w (emission_form w.class x.at x value)) n.stands ∙ ap (λ v. placed w (emission_form w.class n.token.start (name_of source n.token) v)) g.stands;
  printed = ap (λ x. w ∷ x) (n.first.is ∙ ap (λ x. n.token ∷ x) (g.printed ∙ ap (print_given g.given) f.is));
  goes = record { goes = λ k. (name-goes ts mid n.token d 0 n.first).goes (ValuePart ∷ T (Mark mark.Semicolon) ∷ k) ∙ g.goes.goes (T (Mark mark.Semicolon) ∷ k) ∙ (end-goes after rest s d g.after f).goes k };
  no_longer = (let x = ap length n.first.is in let y = g.no_longer in let z = ap length f.is in omega arith);
}

pub signal-reads : (source : List ℕ) (ts rest : List Token) (w : Token) (d : ℕ) (name : ast_name.Name) (tree : SourceStmt)
    → start_of w.class ≡ start.Signal → ReadsNameEnd source ts d name rest → tree ≡ placed w (form.Declare (record { at = name.at; name = name; valued = None })) → ReadsForm source w start.Signal ts d tree rest
signal-reads source ts rest w d name tree r n q = record {
  stmt = SignalStmt (Pure w n.token n.semicolon);
  is_stmt = (started start.Signal w r, n.named, n.ends);
  stands = q ∙ ap (λ (x : ast_name.Name). placed w (form.Declare (record { at = x.at; name = x; valued = None }))) n.stands;
  printed = ap (λ x. w ∷ x) n.printed;
  goes = n.goes;
  no_longer = (let x = ap length n.printed in omega arith);
}

pub receive-reads : (source : List ℕ) (ts rest : List Token) (w : Token) (d : ℕ) (name : ast_name.Name) (tree : SourceStmt)
    → start_of w.class ≡ start.Receive → ReadsNameEnd source ts d name rest → tree ≡ placed w (form.Receive name.at name) → ReadsForm source w start.Receive ts d tree rest
receive-reads source ts rest w d name tree r n q = record {
  stmt = ReceiveStmt w n.token n.semicolon;
  is_stmt = (started start.Receive w r, n.named, n.ends);
  stands = q ∙ ap (λ (x : ast_name.Name). placed w (form.Receive x.at x)) n.stands;
  printed = ap (λ x. w ∷ x) n.printed;
  goes = n.goes;
  no_longer = (let x = ap length n.printed in omega arith);
}

pub valued-reads : (source : List ℕ) (kind : Kind) (ts mid after rest : List Token) (s : Token) (d : ℕ) (name : ast_name.Name) (found : Option Combination)
    → ReadsName source ts name mid → ReadsCombined mid d found after → IsFirst (Mark mark.Semicolon) after s rest → ReadsValued source kind ts d (record { at = name.at; name = name; valued = Some (record { kind = kind; combine = found }) }) rest
valued-reads source kind ts mid after rest s d name found n g f = record {
  token = n.token;
  combined = g.combined;
  semicolon = s;
  named = first-class Name ts mid n.token n.first;
  is_combined = g.is_combined;
  ends = first-class (Mark mark.Semicolon) after rest s f;
  stands = ap (λ (x : ast_name.Name). (let y : Signal ast_name.Name = record { at = x.at; name = x; valued = Some (record { kind = kind; combine = found }) } in y)) n.stands ∙ ap (λ c. (let y : Signal ast_name.Name = record { at = n.token.start; name = name_of source n.token; valued = Some (record { kind = kind; combine = c }) } in y)) g.stands;
  printed = n.first.is ∙ ap (λ x. n.token ∷ x) (g.printed ∙ ap (print_combined g.combined) f.is);
  goes = record { goes = λ k. (name-goes ts mid n.token d 0 n.first).goes (CombinePart ∷ T (Mark mark.Semicolon) ∷ k) ∙ g.goes.goes (T (Mark mark.Semicolon) ∷ k) ∙ (end-goes after rest s d g.after f).goes k };
  no_longer = (let x = ap length n.first.is in let y = g.no_longer in let z = ap length f.is in omega arith);
}

pub declared-reads : (source : List ℕ) (kind : Kind) (ts mid rest : List Token) (v w : Token) (d : ℕ) (signal : Signal ast_name.Name) (tree : SourceStmt)
    → start_of v.class ≡ start.Kind kind → IsFirst (Reserved word.Signal) ts w mid → ReadsValued source kind mid d signal rest → tree ≡ placed v (form.Declare signal) → ReadsForm source v (start.Kind kind) ts d tree rest
declared-reads source kind ts mid rest v w d signal tree r f g q = record {
  stmt = SignalStmt (Valued kind v w g.token g.combined g.semicolon);
  is_stmt = (started (start.Kind kind) v r, first-class (Reserved word.Signal) ts mid w f, g.named, g.is_combined, g.ends);
  stands = q ∙ ap (λ x. placed v (form.Declare x)) g.stands;
  printed = ap (λ x. v ∷ x) (f.is ∙ ap (λ x. w ∷ x) g.printed);
  goes = record { goes = λ k. class-goes (Reserved word.Signal) (AfterKind ∷ k) (T Name ∷ CombinePart ∷ T (Mark mark.Semicolon) ∷ k) d 0 w ts mid d 0 f refl refl refl refl ∙ g.goes.goes k };
  no_longer = (let x = ap length f.is in let y = g.no_longer in omega arith);
}

pub variable-reads : (source : List ℕ) (kind : Kind) (ts mid us after rest : List Token) (v t s : Token) (d : ℕ) (name : ast_name.Name) (value : raw.Raw ast_name.Name) (tree : SourceStmt)
    → start_of v.class ≡ start.Kind kind → ReadsName source ts name mid → IsFirst (Mark mark.Assign) mid t us → ReadsValue source us d value after → IsFirst (Mark mark.Semicolon) after s rest → tree ≡ placed v (form.Variable kind name.at name value) → ReadsForm source v (start.Kind kind) ts d tree rest
variable-reads source kind ts mid us after rest v t s d name value tree r n a g f q = record {
  stmt = VariableStmt kind v n.token t g.expr s;
  is_stmt = (started (start.Kind kind) v r, first-class Name ts mid n.token n.first, first-class (Mark mark.Assign) mid us t a, g.is_expr, first-class (Mark mark.Semicolon) after rest s f);
  stands = q ∙ ap (λ (x : ast_name.Name). placed v (form.Variable kind x.at x value)) n.stands ∙ ap (λ x. placed v (form.Variable kind n.token.start (name_of source n.token) x)) g.stands;
  printed = ap (λ x. v ∷ x) (n.first.is ∙ ap (λ x. n.token ∷ x) (a.is ∙ ap (λ x. t ∷ x) (g.printed ∙ ap (print g.expr) f.is)));
  goes = record {
    goes = λ k. class-goes Name (AfterKind ∷ k) (T (Mark mark.Assign) ∷ Operand ∷ More ∷ T (Mark mark.Semicolon) ∷ k) d 0 n.token ts mid d 0 n.first refl refl refl refl
        ∙ class-goes (Mark mark.Assign) (T (Mark mark.Assign) ∷ Operand ∷ More ∷ T (Mark mark.Semicolon) ∷ k) (Operand ∷ More ∷ T (Mark mark.Semicolon) ∷ k) d 0 t mid us d 0 a refl refl refl refl ∙ g.goes.goes (T (Mark mark.Semicolon) ∷ k) ∙ (end-goes after rest s d g.after f).goes k;
  };
  no_longer = (let x = ap length n.first.is in let u = ap length a.is in let y = g.shorter in let z = ap length f.is in omega arith);
}

pub assign-reads : (source : List ℕ) (ts us after rest : List Token) (n s : Token) (d at : ℕ) (op : Option Op2) (name : ast_name.Name) (value : raw.Raw ast_name.Name) (tree : SourceStmt)
    → start_of n.class ≡ start.Name → name ≡ name_of source n → ReadsAssignSign ts d op at us → ReadsValue source us d value after → IsFirst (Mark mark.Semicolon) after s rest → tree ≡ placed n (assign_form op name.at name at value) → ReadsForm source n start.Name ts d tree rest
assign-reads source ts us after rest n s d at op name value tree r h a g f q = record {
  stmt = AssignStmt op n a.token g.expr s;
  is_stmt = (started start.Name n r, a.sign_is, g.is_expr, first-class (Mark mark.Semicolon) after rest s f);
  stands = q ∙ ap (λ (x : ast_name.Name). placed n (assign_form op x.at x at value)) h ∙ ap (λ x. placed n (assign_form op n.start (name_of source n) x value)) a.place ∙ ap (λ x. placed n (assign_form op n.start (name_of source n) a.token.start x)) g.stands;
  printed = ap (λ x. n ∷ x) (a.printed ∙ ap (λ x. a.token ∷ x) (g.printed ∙ ap (print g.expr) f.is));
  goes = record { goes = λ k. a.goes.goes (Operand ∷ More ∷ T (Mark mark.Semicolon) ∷ k) ∙ g.goes.goes (T (Mark mark.Semicolon) ∷ k) ∙ (end-goes after rest s d g.after f).goes k };
  no_longer = (let u = ap length a.printed in let y = g.shorter in let z = ap length f.is in omega arith);
}

pub exit-reads : (source : List ℕ) (ts mid rest : List Token) (w s : Token) (d : ℕ) (name : ast_name.Name) (tree : SourceStmt)
    → start_of w.class ≡ start.Exit → ReadsNamed source ts d name mid → IsFirst (Mark mark.Semicolon) mid s rest → tree ≡ placed w (form.Exit name.at name) → ReadsForm source w start.Exit ts d tree rest
exit-reads source ts mid rest w s d name tree r n f q = record {
  stmt = ExitStmt w n.open_paren n.token n.close_paren s;
  is_stmt = (started start.Exit w r, n.opens, n.named, n.closes, first-class (Mark mark.Semicolon) mid rest s f);
  stands = q ∙ ap (λ (x : ast_name.Name). placed w (form.Exit x.at x)) n.stands;
  printed = ap (λ x. w ∷ x) (n.printed ∙ ap (λ x. n.open_paren ∷ n.token ∷ n.close_paren ∷ x) f.is);
  goes = record { goes = λ k. n.goes.goes (T (Mark mark.Semicolon) ∷ k) ∙ (end-goes mid rest s d 0 f).goes k };
  no_longer = (let x = ap length n.printed in let z = ap length f.is in omega arith);
}

pub send-reads : (source : List ℕ) (ts mid after rest : List Token) (w s : Token) (d : ℕ) (name : ast_name.Name) (value : raw.Raw ast_name.Name) (tree : SourceStmt)
    → start_of w.class ≡ start.Send → ReadsName source ts name mid → ReadsParens source mid d value after → IsFirst (Mark mark.Semicolon) after s rest → tree ≡ placed w (form.Send name.at name value) → ReadsForm source w start.Send ts d tree rest
send-reads source ts mid after rest w s d name value tree r n g f q = record {
  stmt = SendStmt w n.token g.open_paren g.expr g.close_paren s;
  is_stmt = (started start.Send w r, first-class Name ts mid n.token n.first, g.opens, g.is_expr, g.closes, first-class (Mark mark.Semicolon) after rest s f);
  stands = q ∙ ap (λ (x : ast_name.Name). placed w (form.Send x.at x value)) n.stands ∙ ap (λ v. placed w (form.Send n.token.start (name_of source n.token) v)) g.stands;
  printed = ap (λ x. w ∷ x) (n.first.is ∙ ap (λ x. n.token ∷ x) (g.printed ∙ ap (λ x. g.open_paren ∷ print g.expr (g.close_paren ∷ x)) f.is));
  goes = record { goes = λ k. (name-goes ts mid n.token d 0 n.first).goes (T (Mark mark.OpenParen) ∷ Operand ∷ More ∷ T (Mark mark.CloseParen) ∷ T (Mark mark.Semicolon) ∷ k) ∙ g.goes.goes (T (Mark mark.Semicolon) ∷ k) ∙ (end-goes after rest s d g.after f).goes k };
  no_longer = (let x = ap length n.first.is in let y = g.shorter in let z = ap length f.is in omega arith);
}

pub await-reads : (source : List ℕ) (ts mid rest : List Token) (w s : Token) (d : ℕ) (at_once : Bool) (test : signal_test.Test ast_name.Name) (tree : SourceStmt)
    → start_of w.class ≡ start.Await → ReadsGuard source ts d at_once test mid → IsFirst (Mark mark.Semicolon) mid s rest → tree ≡ placed w (form.Await at_once test) → ReadsForm source w start.Await ts d tree rest
await-reads source ts mid rest w s d at_once test tree r g f q = record {
  stmt = AwaitStmt w g.guard s;
  is_stmt = (started start.Await w r, g.is_guard, first-class (Mark mark.Semicolon) mid rest s f);
  stands = q ∙ ap (λ x. placed w (form.Await x test)) g.once ∙ ap (λ x. placed w (form.Await (is_at_once g.guard) x)) g.stands;
  printed = ap (λ x. w ∷ x) (g.printed ∙ ap (print_guard g.guard) f.is);
  goes = record { goes = λ k. g.goes.goes (T (Mark mark.Semicolon) ∷ k) ∙ (end-goes mid rest s d g.after f).goes k };
  no_longer = (let x = g.shorter in let z = ap length f.is in omega arith);
}
