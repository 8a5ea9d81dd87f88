-- How the walk goes over pieces, one after the other.
use Rattle.std.proofs.Common.{◌≡◌, ℕ, ◌+◌, ◌≤◌, ◌<◌, true, false, ◌&&◌, ◌||◌, nat_le, cond, List, [], ◌∷◌, ◌++◌, append_assoc, Option, Some, None, ap, refl, sym, ◌∙◌, subst, arith}
use Rattle.java_values.specs.declared.op.Op2.{Op2}
use Rattle.sj_ast.specs.declared.port.CombineOperator.{CombineOperator}
use Rattle.sj_lexer.specs.declared.token.Class.{Class}
use Rattle.sj_lexer.specs.declared.token.Class.TheVariants.{Reserved, Name, Mark}
use Rattle.sj_lexer.specs.declared.token.Mark as sign
use Rattle.sj_lexer.specs.declared.token.Mark.TheVariants as mark
use Rattle.sj_lexer.specs.declared.token.Word.TheVariants as word
use Rattle.sj_lexer.specs.declared.token.Token.{Token}
use Rattle.sj_grammar.specs.definitions.Classes.{same}
use Rattle.sj_grammar.specs.definitions.Machine.{Symbol, T, CombineSign, AssignSign, CombinePart, ImmediatePart, ValuePart, ElsePart, OthersPart, next, all_end, may_end}
use Rattle.sj_grammar.specs.definitions.Roles.{combine_of, assign_of}
use Rattle.sj_grammar.specs.definitions.Walks.{opens_cast, level_after, operators_after, is_too_deep, Outcome, Refused, TooDeep, walk}
use Rattle.sj_grammar.proofs.EqualClasses.{same-class}
use Rattle.sj_grammar.proofs.TokenWalks.{walk-none, walk-to, walk-alike, walk-class, walk-class-deep, token-refused, within, beyond}
use Rattle.expr_parser.specs.declared.read.Stop.{Stop}
use Rattle.expr_parser.specs.declared.read.Stop.TheVariants as stop_at
use Rattle.expr_parser.specs.Reading.{IsNotFirst, IsFirst, Fails, FailsAt}
use Rattle.stmt_parser.specs.Reading.{Goes, Lacks, Skips}

-- the failure of what is read later
pub refails : (f g : List Symbol) (h : List Symbol → List Symbol) (ts us : List Token) (d n e m : ℕ) (s : Stop) → ((k : List Symbol) → walk (f ++ k) d n ts ≡ walk (g ++ h k) e m us) → FailsAt g us e m s → FailsAt f ts d n s
refails f g h ts us d n e m (stop_at.Syntax bad) w r = record { fails = λ k. w k ∙ r.fails (h k) }
refails f g h ts us d n e m (stop_at.TooDeep bad) w r = record { fails = λ k. w k ∙ r.fails (h k) }
refails f g h ts us d n e m stop_at.NoMemory w r = record { fails = λ k. tt }

-- the failure of the first piece
pub first-fails : (f g : List Symbol) (ts : List Token) (d n : ℕ) (s : Stop) → FailsAt f ts d n s → FailsAt (f ++ g) ts d n s
first-fails f g ts d n s r = refails (f ++ g) f (λ k. g ++ k) ts ts d n d n s (λ k. ap (λ x. walk x d n ts) (append_assoc f g k)) r

-- one piece and then another
pub goes-then : (f g : List Symbol) (ts us rest : List Token) (d n d2 n2 d3 n3 : ℕ) → Goes f ts d n us d2 n2 → Goes g us d2 n2 rest d3 n3 → Goes (f ++ g) ts d n rest d3 n3
goes-then f g ts us rest d n d2 n2 d3 n3 a b = record { goes = λ k. ap (λ x. walk x d n ts) (append_assoc f g k) ∙ a.goes (g ++ k) ∙ b.goes k }

pub then-fails : (f g : List Symbol) (ts us : List Token) (d n d2 n2 : ℕ) (s : Stop) → Goes f ts d n us d2 n2 → FailsAt g us d2 n2 s → FailsAt (f ++ g) ts d n s
then-fails f g ts us d n d2 n2 s a r = refails (f ++ g) g (λ k. k) ts us d n d2 n2 s (λ k. ap (λ x. walk x d n ts) (append_assoc f g k) ∙ a.goes (g ++ k)) r

-- a token of a class
pub class-goes : (c : Class) (j k : List Symbol) (d n : ℕ) (t : Token) (ts us : List Token) (e m : ℕ) → IsFirst c ts t us → next j c ≡ Some k → is_too_deep d n c k us ≡ false → level_after d c ≡ e → operators_after n c k us ≡ m → walk j d n ts ≡ walk k e m us
class-goes c j k d n t ts us e m f h i a b = ap (walk j d n) f.is ∙ walk-class c j d n t us k e m (same-class c t.class f.class_is) h i a b

pub name-goes : (ts us : List Token) (t : Token) (d n : ℕ) → IsFirst Name ts t us → Goes (T Name ∷ []) ts d n us d n
name-goes ts us t d n f = record { goes = λ k. class-goes Name (T Name ∷ k) k d n t ts us d n f refl refl refl refl }

pub end-goes : (ts us : List Token) (t : Token) (d n : ℕ) → IsFirst (Mark mark.Semicolon) ts t us → Goes (T (Mark mark.Semicolon) ∷ []) ts d n us d 0
end-goes ts us t d n f = record { goes = λ k. class-goes (Mark mark.Semicolon) (T (Mark mark.Semicolon) ∷ k) k d n t ts us d 0 f refl refl refl refl }

pub close-goes : (ts us : List Token) (t : Token) (d n : ℕ) → IsFirst (Mark mark.CloseParen) ts t us → Goes (T (Mark mark.CloseParen) ∷ []) ts (d + 1) n us d n
close-goes ts us t d n f = record { goes = λ k. class-goes (Mark mark.CloseParen) (T (Mark mark.CloseParen) ∷ k) k (d + 1) n t ts us d n f refl refl (omega arith) refl }

-- a token that isn't there
pub not-there : (c : Class) (k : List Symbol) (d n : ℕ) (ts : List Token) → IsNotFirst c ts → walk (T c ∷ k) d n ts ≡ Refused ts
not-there c k d n ts b = token-refused c k d n ts b.none

-- the walk stops there
pub stops-here : (f : List Symbol) (ts : List Token) (d n : ℕ) (s : Stop) (o : Outcome) → ((k : List Symbol) → walk (f ++ k) d n ts ≡ o) → Fails s o → FailsAt f ts d n s
stops-here f ts d n s o w h = record { fails = λ k. (let P : Outcome → Type 0 = λ x. Fails s x in subst P (sym (w k)) h) }

pub absent : (c : Class) (g : List Symbol) (ts : List Token) (d n : ℕ) (s : Stop) → IsNotFirst c ts → Fails s (Refused ts) → FailsAt (T c ∷ g) ts d n s
absent c g ts d n s b h = stops-here (T c ∷ g) ts d n s (Refused ts) (λ k. not-there c (g ++ k) d n ts b) h

-- a token that isn't there behind a piece
pub then-absent : (f : List Symbol) (c : Class) (g : List Symbol) (ts us : List Token) (d n d2 n2 : ℕ) (s : Stop) → Goes f ts d n us d2 n2 → IsNotFirst c us → Fails s (Refused us) → FailsAt (f ++ T c ∷ g) ts d n s
then-absent f c g ts us d n d2 n2 s a b h = then-fails f (T c ∷ g) ts us d n d2 n2 s a (absent c g us d2 n2 s b h)

-- `(`
open-deep : (d n : ℕ) (k : List Symbol) (us : List Token) → 64 ≤ d → is_too_deep d n (Mark mark.OpenParen) k us ≡ true
open-deep d n k us a = ap (λ x. x || (opens_cast k us && nat_le 256 n)) (beyond 64 d a)

pub too-deep : (g : List Symbol) (ts us : List Token) (t : Token) (d n : ℕ) (s : Stop) → IsFirst (Mark mark.OpenParen) ts t us → 64 ≤ d → Fails s (TooDeep ts) → FailsAt (T (Mark mark.OpenParen) ∷ g) ts d n s
too-deep g ts us t d n s f a h =
    stops-here (T (Mark mark.OpenParen) ∷ g) ts d n s (TooDeep ts) (λ k. ap (walk (T (Mark mark.OpenParen) ∷ (g ++ k)) d n) f.is ∙ walk-class-deep (Mark mark.OpenParen) (T (Mark mark.OpenParen) ∷ (g ++ k)) d n t us (g ++ k) (same-class (Mark mark.OpenParen) t.class f.class_is) refl (open-deep d n (g ++ k) us a) ∙ ap TooDeep (sym f.is)) h

-- where no cast can follow
open-within : (d : ℕ) (k : List Symbol) (us : List Token) → d < 64 → opens_cast k us ≡ false → is_too_deep d 0 (Mark mark.OpenParen) k us ≡ false
open-within d k us a b = ap (λ x. x || (opens_cast k us && false)) (within 64 d a) ∙ ap (λ x. x && false) b

pub open-goes : (j k : List Symbol) (d : ℕ) (t : Token) (ts us : List Token) → IsFirst (Mark mark.OpenParen) ts t us → next j (Mark mark.OpenParen) ≡ Some k → opens_cast k us ≡ false → d < 64 → walk j d 0 ts ≡ walk k (d + 1) 0 us
open-goes j k d t ts us f h b a = class-goes (Mark mark.OpenParen) j k d 0 t ts us (d + 1) 0 f h (open-within d k us a b) refl (ap (λ x. cond x 1 0) b)

pub lacks : (c : Class) (ts : List Token) (s : Stop) → IsNotFirst c ts → Fails s (Refused ts) → Lacks c ts s
lacks c ts s b h = record { fails = λ k d n. (let P : Outcome → Type 0 = λ x. Fails s x in subst P (sym (not-there c k d n ts b)) h) }

-- a part that isn't there
skip : (s : Symbol) (c : Class) (ts : List Token) → ((t : Token) (k : List Symbol) → same c t.class ≡ false → next (s ∷ k) t.class ≡ next k t.class) → may_end s ≡ true → IsNotFirst c ts → Skips s ts
skip s c ts h e b = record { skips = λ k d n. walk-alike (s ∷ k) k d n ts (λ t more i. h t k (b.none t more i)) (ap (λ x. x && all_end k) e) }

no-combine : (t : Token) (k : List Symbol) → same (Reserved word.Combine) t.class ≡ false → next (CombinePart ∷ k) t.class ≡ next k t.class
no-combine t k h = rw h refl

no-immediate : (t : Token) (k : List Symbol) → same (Reserved word.Immediate) t.class ≡ false → next (ImmediatePart ∷ k) t.class ≡ next k t.class
no-immediate t k h = rw h refl

no-value : (t : Token) (k : List Symbol) → same (Mark mark.OpenParen) t.class ≡ false → next (ValuePart ∷ k) t.class ≡ next k t.class
no-value t k h = rw h refl

no-else : (t : Token) (k : List Symbol) → same (Reserved word.Else) t.class ≡ false → next (ElsePart ∷ k) t.class ≡ next k t.class
no-else t k h = rw h refl

no-others : (m : sign.Mark) (t : Token) (k : List Symbol) → same (Mark m) t.class ≡ false → next (OthersPart m ∷ k) t.class ≡ next k t.class
no-others m t k h = rw h refl

pub skips-combine : (ts : List Token) → IsNotFirst (Reserved word.Combine) ts → Skips CombinePart ts
skips-combine ts b = skip CombinePart (Reserved word.Combine) ts no-combine refl b

pub skips-immediate : (ts : List Token) → IsNotFirst (Reserved word.Immediate) ts → Skips ImmediatePart ts
skips-immediate ts b = skip ImmediatePart (Reserved word.Immediate) ts no-immediate refl b

pub skips-value : (ts : List Token) → IsNotFirst (Mark mark.OpenParen) ts → Skips ValuePart ts
skips-value ts b = skip ValuePart (Mark mark.OpenParen) ts no-value refl b

pub skips-else : (ts : List Token) → IsNotFirst (Reserved word.Else) ts → Skips ElsePart ts
skips-else ts b = skip ElsePart (Reserved word.Else) ts no-else refl b

pub skips-others : (m : sign.Mark) (ts : List Token) → IsNotFirst (Mark m) ts → Skips (OthersPart m) ts
skips-others m ts b = skip (OthersPart m) (Mark m) ts (no-others m) refl b

-- signs
combine-next : (t : Token) (k : List Symbol) (op : CombineOperator) → combine_of t.class ≡ Some op → next (CombineSign ∷ k) t.class ≡ Some k
combine-next t k op h = rw h refl

combine-none : (t : Token) (k : List Symbol) → combine_of t.class ≡ None → next (CombineSign ∷ k) t.class ≡ None
combine-none t k h = rw h refl

combine-deep : (d : ℕ) (c : Class) (k : List Symbol) (us : List Token) (op : CombineOperator) → combine_of c ≡ Some op → is_too_deep d 0 c k us ≡ false
combine-deep d (Mark mark.Plus) k us op h = refl
combine-deep d (Reserved word.Max) k us op h = refl
combine-deep d _ k us op h = cc

combine-level : (d : ℕ) (c : Class) (op : CombineOperator) → combine_of c ≡ Some op → level_after d c ≡ d
combine-level d (Mark mark.Plus) op h = refl
combine-level d (Reserved word.Max) op h = refl
combine-level d _ op h = cc

-- how many operators a sign counts
abbrev counted : Class → ℕ
counted c = operators_after 0 c [] []

combine-counts : (c : Class) (k : List Symbol) (us : List Token) (op : CombineOperator) → combine_of c ≡ Some op → operators_after 0 c k us ≡ operators_after 0 c [] []
combine-counts (Mark mark.Plus) k us op h = refl
combine-counts (Reserved word.Max) k us op h = refl
combine-counts _ k us op h = cc

pub combine-goes : (ts us : List Token) (t : Token) (d : ℕ) (op : CombineOperator) → ts ≡ t ∷ us → combine_of t.class ≡ Some op → Goes (CombineSign ∷ []) ts d 0 us d (operators_after 0 t.class [] [])
combine-goes ts us t d op h q = record { goes = λ k. ap (walk (CombineSign ∷ k) d 0) h ∙ walk-to (CombineSign ∷ k) d 0 t us k d (operators_after 0 t.class [] []) (combine-next t k op q) (combine-deep d t.class k us op q) (combine-level d t.class op q) (combine-counts t.class k us op q) }

pub combine-missing : (ts us : List Token) (t : Token) (d : ℕ) (k : List Symbol) → ts ≡ t ∷ us → combine_of t.class ≡ None → walk (CombineSign ∷ k) d 0 ts ≡ Refused ts
combine-missing ts us t d k h q = ap (walk (CombineSign ∷ k) d 0) h ∙ walk-none (CombineSign ∷ k) d 0 t us (combine-none t k q) ∙ ap Refused (sym h)

assign-next : (t : Token) (k : List Symbol) (op : Option Op2) → assign_of t.class ≡ Some op → next (AssignSign ∷ k) t.class ≡ Some k
assign-next t k op h = rw h refl

assign-none : (t : Token) (k : List Symbol) → assign_of t.class ≡ None → next (AssignSign ∷ k) t.class ≡ None
assign-none t k h = rw h refl

assign-deep : (d : ℕ) (c : Class) (k : List Symbol) (us : List Token) (op : Option Op2) → assign_of c ≡ Some op → is_too_deep d 0 c k us ≡ false
assign-deep d (Mark mark.Assign) k us op h = refl
assign-deep d _ k us op h = cc

assign-level : (d : ℕ) (c : Class) (op : Option Op2) → assign_of c ≡ Some op → level_after d c ≡ d
assign-level d (Mark mark.Assign) op h = refl
assign-level d _ op h = cc

assign-counts : (c : Class) (k : List Symbol) (us : List Token) (op : Option Op2) → assign_of c ≡ Some op → operators_after 0 c k us ≡ 0
assign-counts (Mark mark.Assign) k us op h = refl
assign-counts _ k us op h = cc

pub assign-goes : (ts us : List Token) (t : Token) (d : ℕ) (op : Option Op2) → ts ≡ t ∷ us → assign_of t.class ≡ Some op → Goes (AssignSign ∷ []) ts d 0 us d 0
assign-goes ts us t d op h q = record { goes = λ k. ap (walk (AssignSign ∷ k) d 0) h ∙ walk-to (AssignSign ∷ k) d 0 t us k d 0 (assign-next t k op q) (assign-deep d t.class k us op q) (assign-level d t.class op q) (assign-counts t.class k us op q) }

pub assign-missing : (ts us : List Token) (t : Token) (d : ℕ) (k : List Symbol) → ts ≡ t ∷ us → assign_of t.class ≡ None → walk (AssignSign ∷ k) d 0 ts ≡ Refused ts
assign-missing ts us t d k h q = ap (walk (AssignSign ∷ k) d 0) h ∙ walk-none (AssignSign ∷ k) d 0 t us (assign-none t k q) ∙ ap Refused (sym h)
