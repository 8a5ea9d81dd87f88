-- Blocks, and the statements that have them.
use Rattle.std.proofs.Common.{◌≡◌, ℕ, ◌+◌, ◌≤◌, ◌<◌, Bool, true, false, ◌||◌, List, [], ◌∷◌, ◌++◌, length, Option, Some, None, ap, refl, sym, ◌∙◌, subst, arith}
use Rattle.sj_lexer.specs.declared.token.Class.{Class}
use Rattle.sj_lexer.specs.declared.token.Class.TheVariants.{Reserved, Mark}
use Rattle.sj_lexer.specs.declared.token.Mark as sign
use Rattle.sj_lexer.specs.declared.token.Mark.TheVariants as mark
use Rattle.sj_lexer.specs.declared.token.Word.TheVariants as word
use Rattle.sj_lexer.specs.declared.token.Token.{Token}
use Rattle.sj_ast.specs.declared.name.Name as ast_name
use Rattle.sj_ast.specs.declared.expression.Raw as raw
use Rattle.sj_ast.specs.declared.test.Test as signal_test
use Rattle.sj_ast.specs.declared.statement.Form as form
use Rattle.sj_grammar.specs.declared.role.Start.{Start}
use Rattle.sj_grammar.specs.declared.role.Start.TheVariants as start
use Rattle.sj_grammar.specs.definitions.Classes.{same}
use Rattle.sj_grammar.specs.definitions.Roles.{start_of}
use Rattle.sj_grammar.specs.definitions.Expressions.{print}
use Rattle.sj_grammar.specs.definitions.Tests.{print_test}
use Rattle.sj_grammar.specs.definitions.Statements.{Stmt, EmptyStmt, ParStmt, IfStmt, PresentStmt, WhileStmt, GuardedStmt, WeakStmt, TrapStmt, LoopStmt, Stmts, Done, Then, Block, Braces, NoElse, ElseBlock, Others, NoOther, Beside, print_guard, print_stmt, print_stmts, print_block, print_others, IsStmt, IsStmts, IsBlock, IsOthers}
use Rattle.sj_grammar.specs.definitions.Trees.{name_of, raw_of, test_of, is_at_once, guard_test, placed, block_at, guarded_form, SourceStmt, SourceBlock, stmt_of, stmts_of, block_of, others_of, first_token}
use Rattle.sj_grammar.specs.definitions.Machine.{Symbol, T, TestOperand, MoreTest, ImmediatePart, InBraces, Statements, OthersPart, ElsePart, start_step, next}
use Rattle.sj_grammar.specs.definitions.Walks.{level_after, operators_after, is_too_deep, Outcome, Refused, TooDeep, walk}
use Rattle.sj_grammar.proofs.TokenWalks.{walk-none, walk-step, walk-deep, walk-to, walk-class-deep, within, beyond}
use Rattle.expr_parser.specs.declared.read.Stop.{Stop}
use Rattle.expr_parser.specs.declared.read.Stop.TheVariants as stop_at
use Rattle.expr_parser.specs.Reading.{IsNotFirst, IsFirst, Fails, FailsAt}
use Rattle.stmt_parser.specs.Reading.{tail_of, is_start, is_form, begins_statement, ReadsNamed, ReadsParens, ReadsTestParens, ReadsGuard, ReadsTrue, ReadsForm, ReadsStmt, ReadsStmts, ReadsInside, ReadsBraces, FailsBraces, ReadsOther, ReadsOthers, ReadsBeside, is_between, Skips}
use Rattle.stmt_parser.proofs.WalkLemmas.{refails, class-goes, end-goes, stops-here}
use Rattle.stmt_parser.proofs.LeafLemmas.{started, first-class}

-- the failure of a block behind what was read
pub fails-in-braces : (f : List Symbol) (h : List Symbol → List Symbol) (ts us : List Token) (d n m : ℕ) (s : Stop) → ((k : List Symbol) → walk (f ++ k) d n ts ≡ walk (InBraces ∷ h k) d m us) → FailsBraces us d s → FailsAt f ts d n s
fails-in-braces f h ts us d n m (stop_at.Syntax bad) w r = record { fails = λ k. w k ∙ r.fails (h k) m }
fails-in-braces f h ts us d n m (stop_at.TooDeep bad) w r = record { fails = λ k. w k ∙ r.fails (h k) m }
fails-in-braces f h ts us d n m stop_at.NoMemory w r = record { fails = λ k. tt }

-- two lists of symbols that go on alike
walk-both-at : (b : Bool) (i j k : List Symbol) (d n : ℕ) (t : Token) (us : List Token) → next i t.class ≡ Some k → next j t.class ≡ Some k → is_too_deep d n t.class k us ≡ b → walk i d n (t ∷ us) ≡ walk j d n (t ∷ us)
walk-both-at true i j k d n t us a b e = walk-deep i d n t us k a e ∙ sym (walk-deep j d n t us k b e)
walk-both-at false i j k d n t us a b e = walk-step i d n t us k a e ∙ sym (walk-step j d n t us k b e)

walk-both : (i j k : List Symbol) (d n : ℕ) (t : Token) (us : List Token) → next i t.class ≡ Some k → next j t.class ≡ Some k → walk i d n (t ∷ us) ≡ walk j d n (t ∷ us)
walk-both i j k d n t us a b = walk-both-at (is_too_deep d n t.class k us) i j k d n t us a b refl

-- `{`
brace-goes : (j k : List Symbol) (d m : ℕ) (t : Token) (ts us : List Token) → IsFirst (Mark mark.OpenBrace) ts t us → next j (Mark mark.OpenBrace) ≡ Some k → d < 64 → walk j d m ts ≡ walk k (d + 1) 0 us
brace-goes j k d m t ts us f h a = class-goes (Mark mark.OpenBrace) j k d m t ts us (d + 1) 0 f h (ap (λ x. x || false) (within 64 d a)) refl refl

pub braces-reads : (source : List ℕ) (ts us rest : List Token) (t : Token) (d : ℕ) (trees : List SourceStmt) (tree : SourceBlock) → IsFirst (Mark mark.OpenBrace) ts t us → d < 64 → ReadsInside source us d trees rest → tree ≡ block_at t trees → ReadsBraces source ts d tree rest
braces-reads source ts us rest t d trees tree f a r q = record {
  block = Braces t r.stmts r.close_brace;
  is_block = (first-class (Mark mark.OpenBrace) ts us t f, r.are_stmts, r.closes);
  stands = q ∙ ap (block_at t) r.stands;
  printed = f.is ∙ ap (λ x. t ∷ x) r.printed;
  walks = λ k m. brace-goes (InBraces ∷ k) (Statements ∷ T (Mark mark.CloseBrace) ∷ k) d m t ts us f refl a ∙ r.goes.goes k;
  shorter = (let x = ap length f.is in let y = r.shorter in omega arith);
}

pub braces-fail : (ts us : List Token) (t : Token) (d : ℕ) (s : Stop) → IsFirst (Mark mark.OpenBrace) ts t us → d < 64 → FailsAt (Statements ∷ T (Mark mark.CloseBrace) ∷ []) us (d + 1) 0 s → FailsBraces ts d s
braces-fail ts us t d s f a r = record {
  fails = λ k m. (let q = refails (InBraces ∷ []) (Statements ∷ T (Mark mark.CloseBrace) ∷ []) (λ x. x) ts us d m (d + 1) 0 s (λ x. brace-goes (InBraces ∷ x) (Statements ∷ T (Mark mark.CloseBrace) ∷ x) d m t ts us f refl a) r in q.fails k);
}

in-braces : (t : Token) (ts : List Token) (k : List Symbol) (d m : ℕ) → same (Mark mark.OpenBrace) t.class ≡ false → walk (InBraces ∷ k) d m (t ∷ ts) ≡ Refused (t ∷ ts)
in-braces t ts k d m h = walk-none (InBraces ∷ k) d m t ts (rw h refl)

braces-refused : (ts : List Token) (d m : ℕ) (k : List Symbol) → IsNotFirst (Mark mark.OpenBrace) ts → walk (InBraces ∷ k) d m ts ≡ Refused ts
braces-refused [] d m k b = refl
braces-refused (t ∷ ts) d m k b = in-braces t ts k d m (b.none t ts refl)

pub braces-absent : (ts : List Token) (d : ℕ) (s : Stop) → IsNotFirst (Mark mark.OpenBrace) ts → Fails s (Refused ts) → FailsBraces ts d s
braces-absent ts d s b h = record { fails = λ k m. (let P : Outcome → Type 0 = λ x. Fails s x in subst P (sym (braces-refused ts d m k b)) h) }

pub braces-deep : (ts us : List Token) (t : Token) (d : ℕ) (s : Stop) → IsFirst (Mark mark.OpenBrace) ts t us → 64 ≤ d → Fails s (TooDeep ts) → FailsBraces ts d s
braces-deep ts us t d s f a h = record {
  fails = λ k m. (let P : Outcome → Type 0 = λ x. Fails s x in
      subst P (sym (ap (walk (InBraces ∷ k) d m) f.is ∙ walk-class-deep (Mark mark.OpenBrace) (InBraces ∷ k) d m t us (Statements ∷ T (Mark mark.CloseBrace) ∷ k) (first-class (Mark mark.OpenBrace) ts us t f) refl (ap (λ x. x || false) (beyond 64 d a)) ∙ ap TooDeep (sym f.is))) h);
}

-- statements one after another
pub stmts-none : (source : List ℕ) (ts : List Token) (d : ℕ) → ReadsStmts source ts d [] ts
stmts-none source ts d = record { stmts = Done; are_stmts = tt; stands = refl; printed = refl; walks = λ k. refl; no_longer = omega arith }

abbrev and_then : Stmts → Stmt → Stmts
and_then Done s = Then s Done
and_then (Then x ss) s = Then x (and_then ss s)

then-print : (ss : Stmts) (s : Stmt) (after : List Token) → print_stmts (and_then ss s) after ≡ print_stmts ss (print_stmt s after)
then-print Done s after = refl
then-print (Then x ss) s after = ap (print_stmt x) (then-print ss s after)

then-are : (ss : Stmts) (s : Stmt) → IsStmts ss → IsStmt s → IsStmts (and_then ss s)
then-are Done s h g = (g, tt)
then-are (Then x ss) s h g = (h.0, then-are ss s h.1 g)

then-stand : (source : List ℕ) (ss : Stmts) (s : Stmt) → stmts_of source (and_then ss s) ≡ stmts_of source ss ++ stmt_of source s ∷ []
then-stand source Done s = refl
then-stand source (Then x ss) s = ap (λ l. stmt_of source x ∷ l) (then-stand source ss s)

pub stmts-more : (source : List ℕ) (ts mid rest : List Token) (d : ℕ) (old new : List SourceStmt) (tree : SourceStmt) → new ≡ old ++ tree ∷ [] → ReadsStmts source ts d old mid → ReadsStmt source mid d tree rest → ReadsStmts source ts d new rest
stmts-more source ts mid rest d old new tree h r q = record {
  stmts = and_then r.stmts q.stmt;
  are_stmts = then-are r.stmts q.stmt r.are_stmts q.is_stmt;
  stands = h ∙ ap (λ l. l ++ tree ∷ []) r.stands ∙ ap (λ x. stmts_of source r.stmts ++ x ∷ []) q.stands ∙ sym (then-stand source r.stmts q.stmt);
  printed = r.printed ∙ ap (print_stmts r.stmts) q.printed ∙ sym (then-print r.stmts q.stmt rest);
  walks = λ k. r.walks k ∙ q.walks k;
  no_longer = (let x = r.no_longer in let y = q.shorter in omega arith);
}

pub stmts-fail : (source : List ℕ) (ts mid : List Token) (d : ℕ) (trees : List SourceStmt) (s : Stop) → ReadsStmts source ts d trees mid → FailsAt (Statements ∷ []) mid d 0 s → FailsAt (Statements ∷ T (Mark mark.CloseBrace) ∷ []) ts d 0 s
stmts-fail source ts mid d trees s r q = refails (Statements ∷ T (Mark mark.CloseBrace) ∷ []) (Statements ∷ []) (λ k. T (Mark mark.CloseBrace) ∷ k) ts mid d 0 d 0 s (λ k. r.walks (T (Mark mark.CloseBrace) ∷ k)) q

pub inside-reads : (source : List ℕ) (ts mid rest : List Token) (t : Token) (d : ℕ) (trees : List SourceStmt) → ReadsStmts source ts (d + 1) trees mid → IsFirst (Mark mark.CloseBrace) mid t rest → ReadsInside source ts d trees rest
inside-reads source ts mid rest t d trees r f = record {
  stmts = r.stmts;
  close_brace = t;
  are_stmts = r.are_stmts;
  closes = first-class (Mark mark.CloseBrace) mid rest t f;
  stands = r.stands;
  printed = r.printed ∙ ap (print_stmts r.stmts) f.is;
  goes = record { goes = λ k. r.walks (T (Mark mark.CloseBrace) ∷ k) ∙ class-goes (Mark mark.CloseBrace) (Statements ∷ T (Mark mark.CloseBrace) ∷ k) k (d + 1) 0 t mid rest d 0 f refl refl (omega arith) refl };
  shorter = (let x = r.no_longer in let y = ap length f.is in omega arith);
}

no-start : (x : Start) (t : Token) (k : List Symbol) → start_of t.class ≡ x → is_start x ≡ false → same (Mark mark.CloseBrace) t.class ≡ false → next (Statements ∷ T (Mark mark.CloseBrace) ∷ k) t.class ≡ None
no-start start.Nothing t k h e g = rw (h, g) refl
no-start _ t k h e g = absurd (cc)

parts-refused : (ts : List Token) (d : ℕ) (k : List Symbol) → begins_statement ts ≡ false → IsNotFirst (Mark mark.CloseBrace) ts → walk (Statements ∷ T (Mark mark.CloseBrace) ∷ k) d 0 ts ≡ Refused ts
parts-refused [] d k h b = refl
parts-refused (t ∷ ts) d k h b = walk-none (Statements ∷ T (Mark mark.CloseBrace) ∷ k) d 0 t ts (no-start (start_of t.class) t k refl h (b.none t ts refl))

pub inside-refused : (source : List ℕ) (ts mid : List Token) (d : ℕ) (trees : List SourceStmt) (s : Stop) → ReadsStmts source ts d trees mid → begins_statement mid ≡ false → IsNotFirst (Mark mark.CloseBrace) mid → Fails s (Refused mid) → FailsAt (Statements ∷ T (Mark mark.CloseBrace) ∷ []) ts d 0 s
inside-refused source ts mid d trees s r h b g = stops-here (Statements ∷ T (Mark mark.CloseBrace) ∷ []) ts d 0 s (Refused mid) (λ k. r.walks (T (Mark mark.CloseBrace) ∷ k) ∙ parts-refused mid d k h b) g

-- the first token of a statement that isn't a block
form-level : (d : ℕ) (c : Class) → is_form (start_of c) ≡ true → level_after d c ≡ d
form-level d (Reserved word.If) h = refl
form-level d (Mark mark.Semicolon) h = refl
form-level d _ h = cc

form-counts : (c : Class) (k : List Symbol) (us : List Token) → is_form (start_of c) ≡ true → operators_after 0 c k us ≡ 0
form-counts (Reserved word.If) k us h = refl
form-counts (Mark mark.Semicolon) k us h = refl
form-counts _ k us h = cc

form-deep : (d : ℕ) (c : Class) (k : List Symbol) (us : List Token) → is_form (start_of c) ≡ true → is_too_deep d 0 c k us ≡ false
form-deep d (Reserved word.If) k us h = refl
form-deep d (Mark mark.Semicolon) k us h = refl
form-deep d _ k us h = cc

form-step : (s : Start) (k : List Symbol) → is_form s ≡ true → start_step s k ≡ Some (tail_of s ++ k)
form-step start.If k h = refl
form-step start.Braces k h = absurd (cc)
form-step start.Nothing k h = absurd (cc)
form-step _ k h = refl

form-next : (t : Token) (k : List Symbol) → is_form (start_of t.class) ≡ true → next (Statements ∷ k) t.class ≡ Some (tail_of (start_of t.class) ++ Statements ∷ k)
form-next t k h = rw (form-step (start_of t.class) (Statements ∷ k) h) refl

form-goes : (t : Token) (s : Start) (ts us : List Token) (d : ℕ) (k : List Symbol) → ts ≡ t ∷ us → start_of t.class ≡ s → is_form s ≡ true → walk (Statements ∷ k) d 0 ts ≡ walk (tail_of s ++ Statements ∷ k) d 0 us
form-goes t s ts us d k h r g =
    let e : is_form (start_of t.class) ≡ true = ap is_form r ∙ g in
    ap (walk (Statements ∷ k) d 0) h
    ∙ walk-to (Statements ∷ k) d 0 t us (tail_of (start_of t.class) ++ Statements ∷ k) d 0 (form-next t k e) (form-deep d t.class (tail_of (start_of t.class) ++ Statements ∷ k) us e) (form-level d t.class e) (form-counts t.class (tail_of (start_of t.class) ++ Statements ∷ k) us e)
    ∙ ap (λ x. walk (tail_of x ++ Statements ∷ k) d 0 us) r

pub stmt-reads : (source : List ℕ) (t : Token) (s : Start) (ts us rest : List Token) (d : ℕ) (tree : SourceStmt) → ts ≡ t ∷ us → start_of t.class ≡ s → is_form s ≡ true → ReadsForm source t s us d tree rest → ReadsStmt source ts d tree rest
stmt-reads source t s ts us rest d tree h r g q = record {
  stmt = q.stmt;
  is_stmt = q.is_stmt;
  stands = q.stands;
  printed = h ∙ q.printed;
  walks = λ k. form-goes t s ts us d k h r g ∙ q.goes.goes (Statements ∷ k);
  shorter = (let x = ap length h in let y = q.no_longer in omega arith);
}

pub stmt-fails : (t : Token) (s : Start) (ts us : List Token) (d : ℕ) (stop : Stop) → ts ≡ t ∷ us → start_of t.class ≡ s → is_form s ≡ true → FailsAt (tail_of s) us d 0 stop → FailsAt (Statements ∷ []) ts d 0 stop
stmt-fails t s ts us d stop h r g q = refails (Statements ∷ []) (tail_of s) (λ k. Statements ∷ k) ts us d 0 d 0 stop (λ k. form-goes t s ts us d k h r g) q

-- a start that is no form is a block's
pub block-start : (s : Start) (ts us : List Token) (t : Token) → ts ≡ t ∷ us → start_of t.class ≡ s → begins_statement ts ≡ true → is_form s ≡ false → start_of t.class ≡ start.Braces
block-start start.Braces ts us t h r b g = r
block-start start.Nothing ts us t h r b g = (let x : is_start (start_of t.class) ≡ true = sym (ap begins_statement h) ∙ b in let y = ap is_start r in absurd (cc))
block-start _ ts us t h r b g = absurd (cc)

-- a block, and the blocks beside it
first-is : (b : Block) (t : Token) (us after : List Token) → t ∷ us ≡ print_block b after → first_token b ≡ t
first-is (Braces o ss c) t us after h = cc

brace-next : (ts us : List Token) (t : Token) (d : ℕ) (k : List Symbol) → ts ≡ t ∷ us → t.class ≡ Mark mark.OpenBrace → walk (Statements ∷ k) d 0 ts ≡ walk (InBraces ∷ OthersPart mark.Either ∷ Statements ∷ k) d 0 ts
brace-next ts us t d k h c =
    let j : List Symbol = Statements ∷ T (Mark mark.CloseBrace) ∷ OthersPart mark.Either ∷ Statements ∷ k in
    let a : next (Statements ∷ k) t.class ≡ Some j = ap (next (Statements ∷ k)) c in
    let b : next (InBraces ∷ OthersPart mark.Either ∷ Statements ∷ k) t.class ≡ Some j = ap (next (InBraces ∷ OthersPart mark.Either ∷ Statements ∷ k)) c in
    ap (walk (Statements ∷ k) d 0) h ∙ walk-both (Statements ∷ k) (InBraces ∷ OthersPart mark.Either ∷ Statements ∷ k) j d 0 t us a b ∙ sym (ap (walk (InBraces ∷ OthersPart mark.Either ∷ Statements ∷ k) d 0) h)

pub par-reads : (source : List ℕ) (ts us mid rest : List Token) (t : Token) (d : ℕ) (first : SourceBlock) (beside : List SourceBlock) (tree : SourceStmt)
    → ts ≡ t ∷ us → start_of t.class ≡ start.Braces → ReadsBraces source ts d first mid → ReadsOthers source mid mark.Either d beside rest → tree ≡ placed t (form.Par first beside) → ReadsStmt source ts d tree rest
par-reads source ts us mid rest t d first beside tree h r b o q = record {
  stmt = ParStmt b.block o.others;
  is_stmt = (b.is_block, o.are_others);
  stands = q ∙ ap (λ x. placed t (form.Par x beside)) b.stands ∙ ap (λ x. placed t (form.Par (block_of source b.block) x)) o.stands ∙ ap (λ x. placed x (form.Par (block_of source b.block) (others_of source o.others))) (sym (first-is b.block t us mid (sym h ∙ b.printed)));
  printed = b.printed ∙ ap (print_block b.block) o.printed;
  walks = λ k. brace-next ts us t d k h (started start.Braces t r) ∙ b.walks (OthersPart mark.Either ∷ Statements ∷ k) 0 ∙ o.goes.goes (Statements ∷ k);
  shorter = (let x = b.shorter in let y = o.no_longer in omega arith);
}

pub par-fails-first : (ts us : List Token) (t : Token) (d : ℕ) (s : Stop) → ts ≡ t ∷ us → start_of t.class ≡ start.Braces → FailsBraces ts d s → FailsAt (Statements ∷ []) ts d 0 s
par-fails-first ts us t d s h r f = fails-in-braces (Statements ∷ []) (λ k. OthersPart mark.Either ∷ Statements ∷ k) ts ts d 0 0 s (λ k. brace-next ts us t d k h (started start.Braces t r)) f

pub par-fails-others : (source : List ℕ) (ts us mid : List Token) (t : Token) (d : ℕ) (first : SourceBlock) (s : Stop) → ts ≡ t ∷ us → start_of t.class ≡ start.Braces → ReadsBraces source ts d first mid → FailsAt (OthersPart mark.Either ∷ []) mid d 0 s → FailsAt (Statements ∷ []) ts d 0 s
par-fails-others source ts us mid t d first s h r b f = refails (Statements ∷ []) (OthersPart mark.Either ∷ []) (λ k. Statements ∷ k) ts mid d 0 d 0 s (λ k. brace-next ts us t d k h (started start.Braces t r) ∙ b.walks (OthersPart mark.Either ∷ Statements ∷ k) 0) f

-- [ `else` block ]
pub other-none : (source : List ℕ) (ts : List Token) (d : ℕ) → Skips ElsePart ts → ReadsOther source ts d None ts
other-none source ts d s = record { other = NoElse; is_other = tt; stands = refl; printed = refl; goes = record { goes = λ k. s.skips k d 0 }; no_longer = omega arith }

else-goes : (ts us : List Token) (t : Token) (d : ℕ) (k : List Symbol) → IsFirst (Reserved word.Else) ts t us → walk (ElsePart ∷ k) d 0 ts ≡ walk (InBraces ∷ k) d 0 us
else-goes ts us t d k f = class-goes (Reserved word.Else) (ElsePart ∷ k) (InBraces ∷ k) d 0 t ts us d 0 f refl refl refl refl

pub other-reads : (source : List ℕ) (ts us rest : List Token) (t : Token) (d : ℕ) (tree : SourceBlock) → IsFirst (Reserved word.Else) ts t us → ReadsBraces source us d tree rest → ReadsOther source ts d (Some tree) rest
other-reads source ts us rest t d tree f b = record {
  other = ElseBlock t b.block;
  is_other = (first-class (Reserved word.Else) ts us t f, b.is_block);
  stands = ap Some b.stands;
  printed = f.is ∙ ap (λ x. t ∷ x) b.printed;
  goes = record { goes = λ k. else-goes ts us t d k f ∙ b.walks k 0 };
  no_longer = (let x = ap length f.is in let y = b.shorter in omega arith);
}

pub other-fails : (ts us : List Token) (t : Token) (d : ℕ) (s : Stop) → IsFirst (Reserved word.Else) ts t us → FailsBraces us d s → FailsAt (ElsePart ∷ []) ts d 0 s
other-fails ts us t d s f b = fails-in-braces (ElsePart ∷ []) (λ k. k) ts us d 0 0 s (λ k. else-goes ts us t d k f) b

-- further blocks
pub beside-none : (source : List ℕ) (ts : List Token) (m : sign.Mark) (d : ℕ) → ReadsBeside source ts m d [] ts
beside-none source ts m d = record { others = NoOther; are_others = tt; stands = refl; printed = refl; walks = λ k. refl; no_longer = omega arith }

abbrev and_beside : Others → Token → Block → Others
and_beside NoOther t b = Beside t b NoOther
and_beside (Beside u x o) t b = Beside u x (and_beside o t b)

beside-print : (o : Others) (t : Token) (b : Block) (after : List Token) → print_others (and_beside o t b) after ≡ print_others o (t ∷ print_block b after)
beside-print NoOther t b after = refl
beside-print (Beside u x o) t b after = ap (λ y. u ∷ print_block x y) (beside-print o t b after)

beside-are : (m : sign.Mark) (o : Others) (t : Token) (b : Block) → IsOthers m o → t.class ≡ Mark m → IsBlock b → IsOthers m (and_beside o t b)
beside-are m NoOther t b h c g = (c, g, tt)
beside-are m (Beside u x o) t b h c g = (h.0, h.1, beside-are m o t b h.2 c g)

beside-stand : (source : List ℕ) (o : Others) (t : Token) (b : Block) → others_of source (and_beside o t b) ≡ others_of source o ++ block_of source b ∷ []
beside-stand source NoOther t b = refl
beside-stand source (Beside u x o) t b = ap (λ l. block_of source x ∷ l) (beside-stand source o t b)

beside-goes : (m : sign.Mark) (k : List Symbol) (d : ℕ) (t : Token) (mid us : List Token) → is_between m ≡ true → IsFirst (Mark m) mid t us → walk (OthersPart m ∷ k) d 0 mid ≡ walk (InBraces ∷ OthersPart m ∷ k) d (operators_after 0 (Mark m) [] []) us
beside-goes mark.Either k d t mid us h f = class-goes (Mark mark.Either) (OthersPart mark.Either ∷ k) (InBraces ∷ OthersPart mark.Either ∷ k) d 0 t mid us d (operators_after 0 (Mark mark.Either) [] []) f refl refl refl refl
beside-goes mark.Beside k d t mid us h f = class-goes (Mark mark.Beside) (OthersPart mark.Beside ∷ k) (InBraces ∷ OthersPart mark.Beside ∷ k) d 0 t mid us d (operators_after 0 (Mark mark.Beside) [] []) f refl refl refl refl
beside-goes _ k d t mid us h f = absurd (cc)

pub beside-more : (source : List ℕ) (ts mid us rest : List Token) (m : sign.Mark) (t : Token) (d : ℕ) (old new : List SourceBlock) (tree : SourceBlock) → is_between m ≡ true → new ≡ old ++ tree ∷ [] → ReadsBeside source ts m d old mid → IsFirst (Mark m) mid t us → ReadsBraces source us d tree rest → ReadsBeside source ts m d new rest
beside-more source ts mid us rest m t d old new tree g h r f q = record {
  others = and_beside r.others t q.block;
  are_others = beside-are m r.others t q.block r.are_others (first-class (Mark m) mid us t f) q.is_block;
  stands = h ∙ ap (λ l. l ++ tree ∷ []) r.stands ∙ ap (λ x. others_of source r.others ++ x ∷ []) q.stands ∙ sym (beside-stand source r.others t q.block);
  printed = r.printed ∙ ap (print_others r.others) (f.is ∙ ap (λ x. t ∷ x) q.printed) ∙ sym (beside-print r.others t q.block rest);
  walks = λ k. r.walks k ∙ beside-goes m k d t mid us g f ∙ q.walks (OthersPart m ∷ k) (operators_after 0 (Mark m) [] []);
  no_longer = (let x = r.no_longer in let y = ap length f.is in let z = q.shorter in omega arith);
}

pub beside-fails : (source : List ℕ) (ts mid us : List Token) (m : sign.Mark) (t : Token) (d : ℕ) (trees : List SourceBlock) (s : Stop) → is_between m ≡ true → ReadsBeside source ts m d trees mid → IsFirst (Mark m) mid t us → FailsBraces us d s → FailsAt (OthersPart m ∷ []) ts d 0 s
beside-fails source ts mid us m t d trees s g r f b = fails-in-braces (OthersPart m ∷ []) (λ k. OthersPart m ∷ k) ts us d 0 (operators_after 0 (Mark m) [] []) s (λ k. r.walks k ∙ beside-goes m k d t mid us g f) b

pub others-end : (source : List ℕ) (ts mid : List Token) (m : sign.Mark) (d : ℕ) (trees : List SourceBlock) → ReadsBeside source ts m d trees mid → Skips (OthersPart m) mid → ReadsOthers source ts m d trees mid
others-end source ts mid m d trees r s = record { others = r.others; are_others = r.are_others; stands = r.stands; printed = r.printed; goes = record { goes = λ k. r.walks k ∙ s.skips k d 0 }; no_longer = r.no_longer }

-- `;`
pub empty-reads : (source : List ℕ) (ts : List Token) (w : Token) (d : ℕ) (tree : SourceStmt) → start_of w.class ≡ start.Empty → tree ≡ placed w form.Empty → ReadsForm source w start.Empty ts d tree ts
empty-reads source ts w d tree r q = record { stmt = EmptyStmt w; is_stmt = started start.Empty w r; stands = q; printed = refl; goes = record { goes = λ k. refl }; no_longer = omega arith }

-- `if`
pub if-reads : (source : List ℕ) (ts mid after rest : List Token) (what : raw.Raw ast_name.Name) (body : SourceBlock) (final : Option SourceBlock) (w : Token) (d : ℕ) (tree : SourceStmt) → start_of w.class ≡ start.If → ReadsParens source ts d what mid → ReadsBraces source mid d body after → ReadsOther source after d final rest → tree ≡ placed w (form.If what body final) → ReadsForm source w start.If ts d tree rest
if-reads source ts mid after rest what body final w d tree r g b o q = record {
  stmt = IfStmt w g.open_paren g.expr g.close_paren b.block o.other;
  is_stmt = (started start.If w r, g.opens, g.is_expr, g.closes, b.is_block, o.is_other);
  stands = q ∙ ap (λ x. placed w (form.If x body final)) g.stands ∙ ap (λ x. placed w (form.If (raw_of source g.expr) x final)) b.stands ∙ ap (λ x. placed w (form.If (raw_of source g.expr) (block_of source b.block) x)) o.stands;
  printed = ap (λ x. w ∷ x) (g.printed ∙ ap (λ x. g.open_paren ∷ print g.expr (g.close_paren ∷ x)) (b.printed ∙ ap (print_block b.block) o.printed));
  goes = record { goes = λ k. g.goes.goes (InBraces ∷ ElsePart ∷ k) ∙ b.walks (ElsePart ∷ k) g.after ∙ o.goes.goes k };
  no_longer = (let x = g.shorter in let y = b.shorter in let z = o.no_longer in omega arith);
}

-- `present`
pub present-reads : (source : List ℕ) (ts mid after rest : List Token) (what : signal_test.Test ast_name.Name) (body : SourceBlock) (final : Option SourceBlock) (w : Token) (d : ℕ) (tree : SourceStmt) → start_of w.class ≡ start.Present → ReadsTestParens source ts d what mid → ReadsBraces source mid d body after → ReadsOther source after d final rest → tree ≡ placed w (form.Present what body final) → ReadsForm source w start.Present ts d tree rest
present-reads source ts mid after rest what body final w d tree r g b o q = record {
  stmt = PresentStmt w g.open_paren g.test g.close_paren b.block o.other;
  is_stmt = (started start.Present w r, g.opens, g.is_test, g.closes, b.is_block, o.is_other);
  stands = q ∙ ap (λ x. placed w (form.Present x body final)) g.stands ∙ ap (λ x. placed w (form.Present (test_of source g.test) x final)) b.stands ∙ ap (λ x. placed w (form.Present (test_of source g.test) (block_of source b.block) x)) o.stands;
  printed = ap (λ x. w ∷ x) (g.printed ∙ ap (λ x. g.open_paren ∷ print_test g.test (g.close_paren ∷ x)) (b.printed ∙ ap (print_block b.block) o.printed));
  goes = record { goes = λ k. g.goes.goes (InBraces ∷ ElsePart ∷ k) ∙ b.walks (ElsePart ∷ k) g.after ∙ o.goes.goes k };
  no_longer = (let x = g.shorter in let y = b.shorter in let z = o.no_longer in omega arith);
}

-- `while`
pub while-reads : (source : List ℕ) (ts mid rest : List Token) (body : SourceBlock) (w : Token) (d : ℕ) (tree : SourceStmt) → start_of w.class ≡ start.While → ReadsTrue ts d mid → ReadsBraces source mid d body rest → tree ≡ placed w (form.While body) → ReadsForm source w start.While ts d tree rest
while-reads source ts mid rest body w d tree r g b q = record {
  stmt = WhileStmt w g.open_paren g.truth g.close_paren b.block;
  is_stmt = (started start.While w r, g.opens, g.holds, g.closes, b.is_block);
  stands = q ∙ ap (λ x. placed w (form.While x)) b.stands;
  printed = ap (λ x. w ∷ x) (g.printed ∙ ap (λ x. g.open_paren ∷ g.truth ∷ g.close_paren ∷ x) b.printed);
  goes = record { goes = λ k. g.goes.goes (InBraces ∷ k) ∙ b.walks k 0 };
  no_longer = (let x = ap length g.printed in let y = b.shorter in omega arith);
}

-- `trap`
pub trap-reads : (source : List ℕ) (ts mid rest : List Token) (name : ast_name.Name) (body : SourceBlock) (w : Token) (d : ℕ) (tree : SourceStmt) → start_of w.class ≡ start.Trap → ReadsNamed source ts d name mid → ReadsBraces source mid d body rest → tree ≡ placed w (form.Trap name.at name body) → ReadsForm source w start.Trap ts d tree rest
trap-reads source ts mid rest name body w d tree r g b q = record {
  stmt = TrapStmt w g.open_paren g.token g.close_paren b.block;
  is_stmt = (started start.Trap w r, g.opens, g.named, g.closes, b.is_block);
  stands = q ∙ ap (λ (x : ast_name.Name). placed w (form.Trap x.at x body)) g.stands ∙ ap (λ x. placed w (form.Trap g.token.start (name_of source g.token) x)) b.stands;
  printed = ap (λ x. w ∷ x) (g.printed ∙ ap (λ x. g.open_paren ∷ g.token ∷ g.close_paren ∷ x) b.printed);
  goes = record { goes = λ k. g.goes.goes (InBraces ∷ k) ∙ b.walks k 0 };
  no_longer = (let x = ap length g.printed in let y = b.shorter in omega arith);
}

-- `abort`, `suspend`, `every`
pub guarded-reads : (source : List ℕ) (ts mid rest : List Token) (at_once : Bool) (test : signal_test.Test ast_name.Name) (body : SourceBlock) (w : Token) (d : ℕ) (tree : SourceStmt) → start_of w.class ≡ start.Guarded → ReadsGuard source ts d at_once test mid → ReadsBraces source mid d body rest → tree ≡ placed w (guarded_form w.class at_once test body) → ReadsForm source w start.Guarded ts d tree rest
guarded-reads source ts mid rest at_once test body w d tree r g b q = record {
  stmt = GuardedStmt w g.guard b.block;
  is_stmt = (started start.Guarded w r, g.is_guard, b.is_block);
  stands = q ∙ ap (λ x. placed w (guarded_form w.class x test body)) g.once ∙ ap (λ x. placed w (guarded_form w.class (is_at_once g.guard) x body)) g.stands ∙ ap (λ x. placed w (guarded_form w.class (is_at_once g.guard) (guard_test source g.guard) x)) b.stands;
  printed = ap (λ x. w ∷ x) (g.printed ∙ ap (print_guard g.guard) b.printed);
  goes = record { goes = λ k. g.goes.goes (InBraces ∷ k) ∙ b.walks k g.after };
  no_longer = (let x = g.shorter in let y = b.shorter in omega arith);
}

-- `weak abort`
pub weak-reads : (source : List ℕ) (ts us mid rest : List Token) (u : Token) (at_once : Bool) (test : signal_test.Test ast_name.Name) (body : SourceBlock) (w : Token) (d : ℕ) (tree : SourceStmt) → start_of w.class ≡ start.Weak → IsFirst (Reserved word.Abort) ts u us → ReadsGuard source us d at_once test mid → ReadsBraces source mid d body rest → tree ≡ placed w (form.Abort true at_once test body) → ReadsForm source w start.Weak ts d tree rest
weak-reads source ts us mid rest u at_once test body w d tree r f g b q = record {
  stmt = WeakStmt w u g.guard b.block;
  is_stmt = (started start.Weak w r, first-class (Reserved word.Abort) ts us u f, g.is_guard, b.is_block);
  stands = q ∙ ap (λ x. placed w (form.Abort true x test body)) g.once ∙ ap (λ x. placed w (form.Abort true (is_at_once g.guard) x body)) g.stands ∙ ap (λ x. placed w (form.Abort true (is_at_once g.guard) (guard_test source g.guard) x)) b.stands;
  printed = ap (λ x. w ∷ x) (f.is ∙ ap (λ x. u ∷ x) (g.printed ∙ ap (print_guard g.guard) b.printed));
  goes = record { goes = λ k. class-goes (Reserved word.Abort) (T (Reserved word.Abort) ∷ T (Mark mark.OpenParen) ∷ ImmediatePart ∷ TestOperand ∷ MoreTest ∷ T (Mark mark.CloseParen) ∷ InBraces ∷ k) (T (Mark mark.OpenParen) ∷ ImmediatePart ∷ TestOperand ∷ MoreTest ∷ T (Mark mark.CloseParen) ∷ InBraces ∷ k) d 0 u ts us d 0 f refl refl refl refl ∙ g.goes.goes (InBraces ∷ k) ∙ b.walks k g.after };
  no_longer = (let z = ap length f.is in let x = g.shorter in let y = b.shorter in omega arith);
}

-- `loop` and `each`
pub loop-reads : (source : List ℕ) (ts mid us after rest : List Token) (u s : Token) (body : SourceBlock) (test : signal_test.Test ast_name.Name) (w : Token) (d : ℕ) (tree : SourceStmt) → start_of w.class ≡ start.Loop → ReadsBraces source ts d body mid → IsFirst (Reserved word.Each) mid u us → ReadsTestParens source us d test after → IsFirst (Mark mark.Semicolon) after s rest → tree ≡ placed w (form.Loop body test) → ReadsForm source w start.Loop ts d tree rest
loop-reads source ts mid us after rest u s body test w d tree r b f g e q = record {
  stmt = LoopStmt w b.block u g.open_paren g.test g.close_paren s;
  is_stmt = (started start.Loop w r, b.is_block, first-class (Reserved word.Each) mid us u f, g.opens, g.is_test, g.closes, first-class (Mark mark.Semicolon) after rest s e);
  stands = q ∙ ap (λ x. placed w (form.Loop x test)) b.stands ∙ ap (λ x. placed w (form.Loop (block_of source b.block) x)) g.stands;
  printed = ap (λ x. w ∷ x) (b.printed ∙ ap (print_block b.block) (f.is ∙ ap (λ x. u ∷ x) (g.printed ∙ ap (λ x. g.open_paren ∷ print_test g.test (g.close_paren ∷ x)) e.is)));
  goes = record { goes = λ k. b.walks (T (Reserved word.Each) ∷ T (Mark mark.OpenParen) ∷ TestOperand ∷ MoreTest ∷ T (Mark mark.CloseParen) ∷ T (Mark mark.Semicolon) ∷ k) 0 ∙ class-goes (Reserved word.Each) (T (Reserved word.Each) ∷ T (Mark mark.OpenParen) ∷ TestOperand ∷ MoreTest ∷ T (Mark mark.CloseParen) ∷ T (Mark mark.Semicolon) ∷ k) (T (Mark mark.OpenParen) ∷ TestOperand ∷ MoreTest ∷ T (Mark mark.CloseParen) ∷ T (Mark mark.Semicolon) ∷ k) d 0 u mid us d 0 f refl refl refl refl ∙ g.goes.goes (T (Mark mark.Semicolon) ∷ k) ∙ (end-goes after rest s d g.after e).goes k };
  no_longer = (let x = b.shorter in let y = ap length f.is in let z = g.shorter in let v = ap length e.is in omega arith);
}
