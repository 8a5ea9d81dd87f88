-- What a source's reading tells.
use Rattle.std.proofs.Common.{◌≡◌, ◌==◌, ℕ, ◌+◌, Bool, true, false, ◌&&◌, ◌||◌, not, nat_le, cond, List, [], ◌∷◌, length, drop, Option, Some, refl, ap, sym, ◌∙◌, subst, arith}
use Rattle.std.specs.List.{find, list_all, starts_with}
use Rattle.std.proofs.lemmas.Bool.Decides.{nat_tests}
use Rattle.sj_lexer.specs.declared.head.Head.{Head}
use Rattle.sj_lexer.specs.declared.head.Head.TheVariants.{AtEnd, Between, Lexeme, Bad}
use Rattle.sj_lexer.specs.declared.head.Fault.{Fault}
use Rattle.sj_lexer.specs.declared.token.Class.{Class}
use Rattle.sj_lexer.specs.declared.token.Token.{Token}
use Rattle.sj_lexer.specs.definitions.Signs.{Sign, signs, longest_sign, is_no_longer}
use Rattle.sj_lexer.specs.definitions.Heads.{head}
use Rattle.sj_lexer.specs.definitions.Readings.{Piece, Gap, Text, Leads, bytes_in, tokens_from, AreTokens, IsRefused}

abbrev all_within : ℕ → List Sign → Bool
all_within n = list_all (λ s. nat_le (length s.text) n)

-- no sign of the table is longer than one before it
abbrev descends : List Sign → Bool
descends [] = true
descends (s ∷ ss) = all_within (length s.text) ss && descends ss

and_both : (a b : Bool) → a ≡ true → b ≡ true → a && b ≡ true
and_both true b h k = k
and_both false b h k = h

and_left : (a b : Bool) → a && b ≡ true → a ≡ true
and_left true b h = refl
and_left false b h = cc

and_right : (a b : Bool) → a && b ≡ true → b ≡ true
and_right true b h = h
and_right false b h = cc

or_right : (a b : Bool) → b ≡ true → a || b ≡ true
or_right true b h = refl
or_right false b h = h

all_no_longer : (bytes : List ℕ) (n : ℕ) (ss : List Sign) → all_within n ss ≡ true → list_all (is_no_longer bytes n) ss ≡ true
all_no_longer bytes n [] h = refl
all_no_longer bytes n (s ∷ ss) h =
    and_both (is_no_longer bytes n s) (list_all (is_no_longer bytes n) ss) (or_right (not (starts_with ◌==◌ bytes s.text)) (nat_le (length s.text) n) (and_left (nat_le (length s.text) n) (all_within n ss) h)) (all_no_longer bytes n ss (and_right (nat_le (length s.text) n) (all_within n ss) h))

self_within : (n : ℕ) → nat_le n n ≡ true
self_within n = grind (arith, nat_tests)

first_of : (c : Bool) (bytes : List ℕ) (s t : Sign) (o : Option Sign) (ss : List Sign) → starts_with ◌==◌ bytes s.text ≡ c → cond c (Some s) o ≡ Some t → all_within (length s.text) ss ≡ true
    → (o ≡ Some t → list_all (is_no_longer bytes (length t.text)) ss ≡ true) → list_all (is_no_longer bytes (length t.text)) (s ∷ ss) ≡ true
first_of true bytes s t o ss is e h f =
    let same : s ≡ t = cc in
    subst (λ x. list_all (is_no_longer bytes (length x.text)) (s ∷ ss) ≡ true) same
    (and_both (is_no_longer bytes (length s.text) s) (list_all (is_no_longer bytes (length s.text)) ss) (or_right (not (starts_with ◌==◌ bytes s.text)) (nat_le (length s.text) (length s.text)) (self_within (length s.text))) (all_no_longer bytes (length s.text) ss h))
first_of false bytes s t o ss is e h f =
    and_both (is_no_longer bytes (length t.text) s) (list_all (is_no_longer bytes (length t.text)) ss) (ap (λ c. not c || nat_le (length s.text) (length t.text)) is) (f e)

longest_in : (bytes : List ℕ) (ss : List Sign) (t : Sign) → descends ss ≡ true → find (λ s. starts_with ◌==◌ bytes s.text) ss ≡ Some t → list_all (is_no_longer bytes (length t.text)) ss ≡ true
longest_in bytes [] t h e = cc
longest_in bytes (s ∷ ss) t h e =
    first_of (starts_with ◌==◌ bytes s.text) bytes s t (find (λ x. starts_with ◌==◌ bytes x.text) ss) ss refl e (and_left (all_within (length s.text) ss) (descends ss) h) (longest_in bytes ss t (and_right (all_within (length s.text) ss) (descends ss) h))

pub longest : (bytes : List ℕ) (t : Sign) → longest_sign bytes ≡ Some t → list_all (is_no_longer bytes (length t.text)) signs ≡ true
longest bytes t e = longest_in bytes signs t refl e

same_gap : (h : Head) (n m : ℕ) → h ≡ Between n → h ≡ Between m → n ≡ m
same_gap h n m a b = cc

same_class : (h : Head) (c d : Class) (n m : ℕ) → h ≡ Lexeme c n → h ≡ Lexeme d m → (c ≡ d) × (n ≡ m)
same_class h c d n m a b = (cc, cc)

-- the head of no bytes
at_end : (bytes : List ℕ) → bytes ≡ [] → head bytes ≡ AtEnd
at_end bytes e = ap head e

pub one_reading : (bytes : List ℕ) (ps qs : List Piece) → Leads bytes ps [] → Leads bytes qs [] → ps ≡ qs
one_reading bytes [] [] a b = refl
one_reading bytes [] (Gap m ∷ qs) a b = let e = at_end bytes a in cc
one_reading bytes [] (Text d m ∷ qs) a b = let e = at_end bytes a in cc
one_reading bytes (Gap n ∷ ps) [] a b = let e = at_end bytes b in cc
one_reading bytes (Text c n ∷ ps) [] a b = let e = at_end bytes b in cc
one_reading bytes (Gap n ∷ ps) (Gap m ∷ qs) a b =
    let e = same_gap (head bytes) n m a.0 b.0 in
    ap (λ k. Gap k ∷ ps) e ∙ ap (λ rs. Gap m ∷ rs) (one_reading (drop n bytes) ps qs a.1 (subst (λ k. Leads (drop k bytes) qs []) (sym e) b.1))
one_reading bytes (Gap n ∷ ps) (Text d m ∷ qs) a b = let x = a.0 in let y = b.0 in cc
one_reading bytes (Text c n ∷ ps) (Gap m ∷ qs) a b = let x = a.0 in let y = b.0 in cc
one_reading bytes (Text c n ∷ ps) (Text d m ∷ qs) a b =
    let e = same_class (head bytes) c d n m a.0 b.0 in
    ap (λ x. Text x n ∷ ps) e.0 ∙ ap (λ k. Text d k ∷ ps) e.1 ∙ ap (λ rs. Text d m ∷ rs) (one_reading (drop n bytes) ps qs a.1 (subst (λ k. Leads (drop k bytes) qs []) (sym e.1) b.1))

pub same_tokens : (source : List ℕ) (ts us : List Token) → AreTokens source ts → AreTokens source us → ts ≡ us
same_tokens source ts us a b = a.are ∙ ap (tokens_from 0) (one_reading source a.pieces b.pieces a.leads b.leads) ∙ sym b.are

not_refused : (bytes rest : List ℕ) (ps qs : List Piece) (f : Fault) (k : ℕ) → Leads bytes ps [] → Leads bytes qs rest → head rest ≡ Bad f k → ⊥
not_refused bytes rest [] [] f k a b bad = let e = at_end bytes a in let r = ap head b in cc
not_refused bytes rest [] (Gap m ∷ qs) f k a b bad = let e = at_end bytes a in let y = b.0 in cc
not_refused bytes rest [] (Text d m ∷ qs) f k a b bad = let e = at_end bytes a in let y = b.0 in cc
not_refused bytes rest (Gap n ∷ ps) [] f k a b bad = let x = a.0 in let r = ap head b in cc
not_refused bytes rest (Text c n ∷ ps) [] f k a b bad = let x = a.0 in let r = ap head b in cc
not_refused bytes rest (Gap n ∷ ps) (Gap m ∷ qs) f k a b bad =
    let e = same_gap (head bytes) n m a.0 b.0 in
    not_refused (drop n bytes) rest ps qs f k a.1 (subst (λ j. Leads (drop j bytes) qs rest) (sym e) b.1) bad
not_refused bytes rest (Gap n ∷ ps) (Text d m ∷ qs) f k a b bad = let x = a.0 in let y = b.0 in cc
not_refused bytes rest (Text c n ∷ ps) (Gap m ∷ qs) f k a b bad = let x = a.0 in let y = b.0 in cc
not_refused bytes rest (Text c n ∷ ps) (Text d m ∷ qs) f k a b bad =
    let e = same_class (head bytes) c d n m a.0 b.0 in
    not_refused (drop n bytes) rest ps qs f k a.1 (subst (λ j. Leads (drop j bytes) qs rest) (sym e.1) b.1) bad

pub tokens_or_refused : (source : List ℕ) (ts : List Token) (f : Fault) (at : ℕ) → AreTokens source ts → IsRefused source f at → ⊥
tokens_or_refused source ts f at a b = not_refused source b.rest a.pieces b.pieces f b.offset a.leads b.leads b.bad

same_bad : (h : Head) (f g : Fault) (n m : ℕ) → h ≡ Bad f n → h ≡ Bad g m → (f ≡ g) × (n ≡ m)
same_bad h f g n m a b = (cc, cc)

one_refusal : (bytes rest last : List ℕ) (ps qs : List Piece) (f g : Fault) (k j : ℕ) → Leads bytes ps rest → Leads bytes qs last → head rest ≡ Bad f k → head last ≡ Bad g j → (f ≡ g) × (bytes_in ps + k ≡ bytes_in qs + j)
one_refusal bytes rest last [] [] f g k j a b x y =
    let e = same_bad (head bytes) f g k j (ap head a ∙ x) (ap head b ∙ y) in
    (e.0, ap (λ n. 0 + n) e.1)
one_refusal bytes rest last [] (Gap m ∷ qs) f g k j a b x y = let e = ap head a in let z = b.0 in cc
one_refusal bytes rest last [] (Text d m ∷ qs) f g k j a b x y = let e = ap head a in let z = b.0 in cc
one_refusal bytes rest last (Gap n ∷ ps) [] f g k j a b x y = let e = ap head b in let z = a.0 in cc
one_refusal bytes rest last (Text c n ∷ ps) [] f g k j a b x y = let e = ap head b in let z = a.0 in cc
one_refusal bytes rest last (Gap n ∷ ps) (Gap m ∷ qs) f g k j a b x y =
    let e = same_gap (head bytes) n m a.0 b.0 in
    let r = one_refusal (drop n bytes) rest last ps qs f g k j a.1 (subst (λ i. Leads (drop i bytes) qs last) (sym e) b.1) x y in
    (r.0, omega (arith, e, r.1))
one_refusal bytes rest last (Gap n ∷ ps) (Text d m ∷ qs) f g k j a b x y = let u = a.0 in let v = b.0 in cc
one_refusal bytes rest last (Text c n ∷ ps) (Gap m ∷ qs) f g k j a b x y = let u = a.0 in let v = b.0 in cc
one_refusal bytes rest last (Text c n ∷ ps) (Text d m ∷ qs) f g k j a b x y =
    let e = same_class (head bytes) c d n m a.0 b.0 in
    let r = one_refusal (drop n bytes) rest last ps qs f g k j a.1 (subst (λ i. Leads (drop i bytes) qs last) (sym e.1) b.1) x y in
    (r.0, omega (arith, e.1, r.1))

pub same_refusal : (source : List ℕ) (f g : Fault) (at place : ℕ) → IsRefused source f at → IsRefused source g place → (f ≡ g) × (at ≡ place)
same_refusal source f g at place a b =
    let r = one_refusal source a.rest b.rest a.pieces b.pieces f g a.offset b.offset a.leads b.leads a.bad b.bad in
    (r.0, a.at ∙ r.1 ∙ sym b.at)
