-- Which tokens are read within the limit on levels, and that parts of a source leave as many levels open as before.
use Rattle.std.proofs.Common.{◌≡◌, ℕ, ◌+◌, ◌-◌, ◌<◌, ◌≤◌, Bool, true, false, ◌&&◌, ◌||◌, not, nat_le, cond, List, [], ◌∷◌, ◌++◌, Some, ap, refl, sym, ◌∙◌, subst, arith}
use Rattle.std.proofs.lemmas.Bool.{leb-false}
use Rattle.sj_lexer.specs.declared.token.Class.{Class}
use Rattle.sj_lexer.specs.declared.token.Class.TheVariants.{Reserved, Name, Mark}
use Rattle.sj_lexer.specs.declared.token.Mark.TheVariants as mark
use Rattle.sj_lexer.specs.declared.token.Word.TheVariants as word
use Rattle.sj_lexer.specs.declared.token.Token.{Token}
use Rattle.sj_grammar.specs.definitions.Roles.{is_atom, is_edge, sign_of, kind_of, infix_of, join_of, combine_of, has, is_opening, is_closing}
use Rattle.sj_grammar.specs.definitions.Expressions.{Expr, Atom, Least, Status, Prefix, Cast, Group, Infix, print, IsMark, IsExpr}
use Rattle.sj_grammar.specs.definitions.Tests.{Test, SignalTest, NotTest, GroupTest, JoinTest, print_test, IsTest}
use Rattle.sj_grammar.specs.definitions.Statements.{Given, NoValue, Value, print_given, IsGiven, Guard, Later, AtOnce, print_guard, IsGuard, Combined, NotCombined, CombinedBy, print_combined, IsCombined, Declared, Pure, Valued, print_declared, IsDeclared}
use Rattle.sj_grammar.specs.definitions.Machine.{Symbol}
use Rattle.sj_grammar.specs.definitions.Walks.{level_after, operators_after, is_operator, most_open}
use Rattle.sj_grammar.specs.definitions.Limits.{ReadsTo}

abbrev LevelsFit : ℕ → List Token → Type 0
LevelsFit d [] = Unit {0}
LevelsFit d (t ∷ ts) = ((is_opening t.class && nat_le most_open d) ≡ false) × LevelsFit (level_after d t.class) ts

-- the tokens open no level too many, where so many are open before
pub record Fine (d : ℕ) (ts : List Token) : Type 0 where
  pub fits : LevelsFit d ts

either_false : (a b : Bool) → (a || b) ≡ false → a ≡ false
either_false false b h = refl
either_false true b h = absurd (cc)

read_levels : (k : List Symbol) (d n : ℕ) (run rest : List Token) → ReadsTo (λ j e m. Unit {0}) k d n run rest → LevelsFit d run
read_levels k d n [] rest r = tt
read_levels k d n (t ∷ run) rest r =
    (either_false (is_opening t.class && nat_le most_open d) (is_operator t.class r.0 (run ++ rest) && nat_le 256 n) r.2, read_levels r.0 (level_after d t.class) (operators_after n t.class r.0 (run ++ rest)) run rest r.3)

pub fine_read : (k : List Symbol) (d n : ℕ) (run rest : List Token) → ReadsTo (λ j e m. Unit {0}) k d n run rest → Fine d run
fine_read k d n run rest r = record { fits = read_levels k d n run rest r }

-- as many levels are open behind the tokens up to these
pub record Passes (ts us : List Token) : Type 0 where
  pub passes : (d : ℕ) → Fine d ts → Fine d us

pub passed : {ts us : List Token} (d : ℕ) → Fine d ts → Passes ts us → Fine d us
passed d f p = p.passes d f

pub then : {ts us vs : List Token} → Passes ts us → Passes us vs → Passes ts vs
then a b = record { passes = λ d f. b.passes d (a.passes d f) }

-- a token that opens and closes no level

abbrev pub is_flat : Class → Bool
is_flat c = not (is_opening c || is_closing c)

same_level : (a b : Bool) (d : ℕ) → not (a || b) ≡ true → cond a (d + 1) (cond b (d - 1) d) ≡ d
same_level false false d h = refl
same_level false true d h = absurd (cc)
same_level true b d h = absurd (cc)

pub flat : {t : Token} {ts : List Token} → is_flat t.class ≡ true → Passes (t ∷ ts) ts
flat {t} {ts} h = record { passes = λ d f. record { fits = subst (λ e. LevelsFit e ts) (same_level (is_opening t.class) (is_closing t.class) d h) f.fits.1 } }

pub read : {t : Token} {ts : List Token} (c : Class) → t.class ≡ c → is_flat c ≡ true → Passes (t ∷ ts) ts
read c h g = flat (ap is_flat h ∙ g)

where_flat : (b : Bool) (c : Class) → b ≡ true → cond b (is_flat c) true ≡ true → is_flat c ≡ true
where_flat true c h e = e
where_flat false c h e = absurd (cc)

-- one more level

pub record Opened (d : ℕ) (ts : List Token) : Type 0 where
  pub room : d < 64
  pub inside : Fine (d + 1) ts

room_of : (a : Bool) (d : ℕ) → a ≡ true → (a && nat_le most_open d) ≡ false → d < 64
room_of true d h g = leb-false 64 d g
room_of false d h g = absurd (cc)

pub opened : {o : Token} {ts : List Token} (d : ℕ) → is_opening o.class ≡ true → Fine d (o ∷ ts) → Opened d ts
opened {o} {ts} d h f = record {
  room = room_of (is_opening o.class) d h f.fits.0;
  inside = record { fits = subst (λ e. LevelsFit e ts) (ap (λ a. cond a (d + 1) (cond (is_closing o.class) (d - 1) d)) h) f.fits.1 };
}

one_less : (d : ℕ) → d + 1 - 1 ≡ d
one_less d = omega arith

level_closed : (c : Class) (d : ℕ) → is_opening c ≡ false → is_closing c ≡ true → level_after (d + 1) c ≡ d
level_closed c d h g = ap (λ a. cond a (d + 1 + 1) (cond (is_closing c) (d + 1 - 1) (d + 1))) h ∙ ap (λ a. cond a (d + 1 - 1) (d + 1)) g ∙ one_less d

pub closed : {c : Token} {ts : List Token} (d : ℕ) → is_opening c.class ≡ false → is_closing c.class ≡ true → Fine (d + 1) (c ∷ ts) → Fine d ts
closed {c} {ts} d h g f = record { fits = subst (λ e. LevelsFit e ts) (level_closed c.class d h g) f.fits.1 }

-- tokens in parentheses
pub enclosed : {o c : Token} {ts us : List Token} → IsMark mark.OpenParen o → Passes ts (c ∷ us) → IsMark mark.CloseParen c → Passes (o ∷ ts) us
enclosed {o} {c} {ts} {us} h p g = record { passes = λ d f. closed d (ap is_opening g) (ap is_closing g) (p.passes (d + 1) (opened d (ap is_opening h) f).inside) }

-- tokens by the tables of classes

atom_flat : (c : Class) → cond (is_atom c) (is_flat c) true ≡ true
atom_flat (Mark mark.Plus) = refl
atom_flat (Reserved word.True) = refl
atom_flat _ = refl

edge_flat : (c : Class) → cond (is_edge c) (is_flat c) true ≡ true
edge_flat (Mark mark.Plus) = refl
edge_flat (Reserved word.True) = refl
edge_flat _ = refl

sign_flat : (c : Class) → cond (has (sign_of c)) (is_flat c) true ≡ true
sign_flat (Mark mark.Plus) = refl
sign_flat (Reserved word.True) = refl
sign_flat _ = refl

infix_flat : (c : Class) → cond (has (infix_of c)) (is_flat c) true ≡ true
infix_flat (Mark mark.Plus) = refl
infix_flat (Reserved word.True) = refl
infix_flat _ = refl

kind_flat : (c : Class) → cond (has (kind_of c)) (is_flat c) true ≡ true
kind_flat (Mark mark.Plus) = refl
kind_flat (Reserved word.True) = refl
kind_flat _ = refl

join_flat : (c : Class) → cond (has (join_of c)) (is_flat c) true ≡ true
join_flat (Mark mark.Plus) = refl
join_flat (Reserved word.True) = refl
join_flat _ = refl

combine_flat : (c : Class) → cond (has (combine_of c)) (is_flat c) true ≡ true
combine_flat (Mark mark.Plus) = refl
combine_flat (Reserved word.True) = refl
combine_flat _ = refl

pub read_kind : {t : Token} {ts : List Token} → has (kind_of t.class) ≡ true → Passes (t ∷ ts) ts
read_kind {t} h = flat (where_flat (has (kind_of t.class)) t.class h (kind_flat t.class))

-- a token for which a table has something
pub read_where : {t : Token} {ts : List Token} (b : Bool) → b ≡ true → cond b (is_flat t.class) true ≡ true → Passes (t ∷ ts) ts
read_where {t} b h g = flat (where_flat b t.class h g)

-- expressions and tests

pub expr_passes : {more : List Token} (e : Expr) → IsExpr e → Passes (print e more) more
expr_passes (Atom t) h = read_where (is_atom t.class) h (atom_flat t.class)
expr_passes (Least m e) h = then (read (Mark mark.Minus) h.0 refl) (read_where (is_edge e.class) h.1 (edge_flat e.class))
expr_passes (Status a n) h = then (read (Mark mark.Hash) h.0 refl) (read Name h.1 refl)
expr_passes (Prefix op t e) h = then (read_where (has (sign_of t.class)) (ap has h.0) (sign_flat t.class)) (expr_passes e h.2)
expr_passes (Cast k o w c e) h = then (enclosed h.0 (read_kind (ap has h.1)) h.2) (expr_passes e h.4)
expr_passes (Group o e c) h = enclosed h.0 (expr_passes e h.1) h.2
expr_passes (Infix op t l r) h = then (expr_passes l h.3) (then (read_where (has (infix_of t.class)) (ap has h.0) (infix_flat t.class)) (expr_passes r h.4))

pub test_passes : {more : List Token} (e : Test) → IsTest e → Passes (print_test e more) more
test_passes (SignalTest n) h = read Name h refl
test_passes (NotTest b t) h = then (read (Mark mark.Bang) h.0 refl) (test_passes t h.2)
test_passes (GroupTest o t c) h = enclosed h.0 (test_passes t h.1) h.2
test_passes (JoinTest j t l r) h = then (test_passes l h.3) (then (read_where (has (join_of t.class)) (ap has h.0) (join_flat t.class)) (test_passes r h.4))

-- parts of statements

pub given_passes : {more : List Token} (v : Given) → IsGiven v → Passes (print_given v more) more
given_passes NoValue h = record { passes = λ d f. f }
given_passes (Value o e c) h = enclosed h.0 (expr_passes e h.1) h.2

pub guard_passes : {more : List Token} (g : Guard) → IsGuard g → Passes (print_guard g more) more
guard_passes (Later o t c) h = enclosed h.0 (test_passes t h.1) h.2
guard_passes (AtOnce o i t c) h = enclosed h.0 (then (read (Reserved word.Immediate) h.1 refl) (test_passes t h.2)) h.3

combined_passes : {more : List Token} (c : Combined) → IsCombined c → Passes (print_combined c more) more
combined_passes NotCombined h = record { passes = λ d f. f }
combined_passes (CombinedBy op w t) h = then (read (Reserved word.Combine) h.0 refl) (read_where (has (combine_of t.class)) (ap has h.1) (combine_flat t.class))

pub declared_passes : {more : List Token} (d : Declared) → IsDeclared d → Passes (print_declared d more) more
declared_passes (Pure w n s) h = then (read (Reserved word.Signal) h.0 refl) (then (read Name h.1 refl) (read (Mark mark.Semicolon) h.2 refl))
declared_passes (Valued k v w n c s) h = then (read_kind (ap has h.0)) (then (read (Reserved word.Signal) h.1 refl) (then (read Name h.2 refl) (then (combined_passes c h.3) (read (Mark mark.Semicolon) h.4 refl))))
