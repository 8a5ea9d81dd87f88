-- What stands at the head of bytes has at least one of them, and no more than there are.
use Rattle.std.proofs.Common.{◌≡◌, ◌==◌, ℕ, suc, ◌+◌, ◌≤◌, Bool, true, false, ◌&&◌, not, nat_le, cond, List, [], ◌∷◌, length, drop, Option, Some, None, option_map, codes, refl, ap, sym, arith, length-drop}
use Rattle.std.specs.List.{find, list_all, prefix_len, take_while, starts_with}
use Rattle.std.proofs.lemmas.List.Sums.{prefix_len-le-length}
use Rattle.std.proofs.lemmas.List.Folds.{length-prefix_len}
use Rattle.std.proofs.lemmas.Bool.Decides.{nat_tests}
use Rattle.java_values.specs.Names.{is_letter, is_word_byte}
use Rattle.sj_lexer.specs.declared.head.Head.{Head}
use Rattle.sj_lexer.specs.declared.head.Head.TheVariants.{AtEnd, Between, Lexeme, Bad}
use Rattle.sj_lexer.specs.declared.head.Fault.TheVariants as fault
use Rattle.sj_lexer.specs.declared.characters.Character.{Character}
use Rattle.sj_lexer.specs.declared.token.Class.{Class}
use Rattle.sj_lexer.specs.declared.token.Class.TheVariants.{Name}
use Rattle.sj_lexer.specs.declared.token.Word.{Word}
use Rattle.sj_lexer.specs.definitions.ReservedWords.{reserved_word}
use Rattle.sj_lexer.specs.definitions.Numbers.{number_class}
use Rattle.sj_lexer.specs.definitions.Characters.{escaped, plain, closed, after_backslash, character}
use Rattle.sj_lexer.specs.definitions.Signs.{Sign, signs, longest_sign}
use Rattle.sj_lexer.specs.definitions.Heads.{is_white, is_line_end, comment_end, comment, word, number, quoted, sign, run, lexeme, head}

abbrev pub Within : Head → ℕ → Type 0
Within AtEnd len = ⊥
Within (Between n) len = (1 ≤ n) × (n ≤ len)
Within (Lexeme class n) len = (1 ≤ n) × (n ≤ len)
Within (Bad reason k) len = k ≤ len

within_more : (h : Head) (k len : ℕ) → k ≤ len → Within h k → Within h len
within_more AtEnd k len le w = w
within_more (Between n) k len le w = (w.0, omega (arith, w.1))
within_more (Lexeme class n) k len le w = (w.0, omega (arith, w.1))
within_more (Bad reason m) k len le w = omega arith

either_within : (c : Bool) (x y : Head) (len : ℕ) → (c ≡ true → Within x len) → (c ≡ false → Within y len) → Within (cond c x y) len
either_within true x y len f g = f refl
either_within false x y len f g = g refl

and_right : (a b : Bool) → a && b ≡ true → b ≡ true
and_right true b h = h
and_right false b h = cc

and_left : (a b : Bool) → a && b ≡ true → a ≡ true
and_left true b h = refl
and_left false b h = cc

pub starts_length : (xs needle : List ℕ) → starts_with ◌==◌ xs needle ≡ true → length needle ≤ length xs
starts_length xs [] h = omega arith
starts_length [] (n ∷ ns) h = cc
starts_length (x ∷ xs) (n ∷ ns) h = let k = starts_length xs ns (and_right (n == x) (starts_with ◌==◌ xs ns) h) in omega arith

starts_first : (x n : ℕ) (xs ns : List ℕ) → starts_with ◌==◌ (x ∷ xs) (n ∷ ns) ≡ true → n ≡ x
starts_first x n xs ns h = let e = and_left (n == x) (starts_with ◌==◌ xs ns) h in grind (arith, nat_tests)

passes_first : (p : ℕ → Bool) (b : ℕ) (bs : List ℕ) → p b ≡ true → prefix_len p (b ∷ bs) ≡ 1 + prefix_len p bs
passes_first p b bs h = ap (λ c. cond c (1 + prefix_len p bs) 0) h

prefix_within : (p : ℕ → Bool) (b : ℕ) (bs : List ℕ) → p b ≡ true → Within (Between (prefix_len p (b ∷ bs))) (length (b ∷ bs))
prefix_within p b bs h = (omega (arith, passes_first p b bs h), prefix_len-le-length p (b ∷ bs))

pub two_at_least : (c : Bool) (o : Option ℕ) (n len : ℕ) → (c ≡ true → 2 ≤ suc len) → ((m : ℕ) → o ≡ Some m → (2 ≤ m) × (m ≤ len)) → cond c (Some 2) (option_map (λ k. k + 1) o) ≡ Some n → (2 ≤ n) × (n ≤ suc len)
two_at_least true o n len f g h = let e : 2 ≡ n = cc in (omega arith, omega (arith, f refl))
two_at_least false None n len f g h = cc
two_at_least false (Some m) n len f g h = let e : m + 1 ≡ n = cc in let w = g m refl in (omega (arith, w.0), omega (arith, w.1))

comment_length : (bs : List ℕ) (n : ℕ) → comment_end bs ≡ Some n → (2 ≤ n) × (n ≤ length bs)
comment_length [] n h = cc
comment_length (b ∷ bs) n h = two_at_least (starts_with ◌==◌ (b ∷ bs) (codes "*/")) (comment_end bs) n (length bs) (starts_length (b ∷ bs) (codes "*/")) (comment_length bs) h

comment_within : (o : Option ℕ) (bs : List ℕ) (len : ℕ) → ((n : ℕ) → o ≡ Some n → (2 ≤ n) × (n ≤ length (drop 1 bs))) → len ≡ suc (length bs) → Within (comment o) len
comment_within None bs len f e = omega arith
comment_within (Some n) bs len f e = let w = f n refl in (omega (arith, w.0), omega (arith, w.0, w.1, e, length-drop 1 bs))

word_within : (o : Option Word) (n : ℕ) → 1 ≤ n → Within (word o n) n
word_within (Some w) n h = (h, omega arith)
word_within None n h = either_within (nat_le n 64) (Lexeme Name n) (Bad fault.BadByte 64) n (λ e. (h, omega arith)) (λ e. grind (arith, nat_tests))

number_within : (o : Option Class) (n : ℕ) → 1 ≤ n → Within (number o n) n
number_within (Some c) n h = (h, omega arith)
number_within None n h = omega arith

run_within : (w : List ℕ) → 1 ≤ length w → Within (run w) (length w)
run_within [] h = absurd (omega arith)
run_within (b ∷ bs) h =
    either_within (is_letter b) (word (reserved_word (b ∷ bs)) (length (b ∷ bs))) (number (number_class (b ∷ bs)) (length (b ∷ bs))) (length (b ∷ bs))
    (λ e. word_within (reserved_word (b ∷ bs)) (length (b ∷ bs)) h) (λ e. number_within (number_class (b ∷ bs)) (length (b ∷ bs)) h)

abbrev IsShort : Option Character → ℕ → Type 0
IsShort None len = Unit {0}
IsShort (Some c) len = (1 ≤ c.bytes) × (c.bytes ≤ len)

if_short : (c : Bool) (x : Character) (len : ℕ) → IsShort (Some x) len → IsShort (cond c (Some x) None) len
if_short true x len h = h
if_short false x len h = tt

short_closed : (o : Option ℕ) (k : ℕ) (bs : List ℕ) (len : ℕ) → 1 ≤ k → (1 ≤ length bs → k ≤ len) → IsShort (closed o k bs) len
short_closed None k bs len a f = tt
short_closed (Some n) k [] len a f = tt
short_closed (Some n) k (q ∷ bs) len a f = if_short (q == 39) (record { number = n; bytes = k }) len (a, f (omega arith))

short_escape : (bs : List ℕ) (len : ℕ) → suc (suc (length bs)) ≤ len → IsShort (after_backslash bs) len
short_escape [] len h = tt
short_escape (b ∷ bs) len h = short_closed (escaped b) 4 bs len (omega arith) (λ k. omega arith)

either_short : (c : Bool) (x y : Option Character) (len : ℕ) → IsShort x len → IsShort y len → IsShort (cond c x y) len
either_short true x y len a b = a
either_short false x y len a b = b

short_character : (bs : List ℕ) → IsShort (character bs) (suc (length bs))
short_character [] = tt
short_character (b ∷ bs) = either_short (b == 92) (after_backslash bs) (closed (plain b) 3 bs) (suc (length (b ∷ bs))) (short_escape bs (suc (length (b ∷ bs))) (omega arith)) (short_closed (plain b) 3 bs (suc (length (b ∷ bs))) (omega arith) (λ k. omega arith))

quoted_within : (o : Option Character) (len : ℕ) → IsShort o len → Within (quoted o) len
quoted_within None len h = omega arith
quoted_within (Some c) len h = h

abbrev is_spelled : Sign → Bool
is_spelled s = nat_le 1 (length s.text)

at_least_one : (s : Sign) → is_spelled s ≡ true → 1 ≤ length s.text
at_least_one s h = grind (arith, nat_tests)

if_sign : (c : Bool) (s : Sign) (o : Option Sign) (len : ℕ) → (c ≡ true → Within (sign (Some s)) len) → Within (sign o) len → Within (sign (cond c (Some s) o)) len
if_sign true s o len f w = f refl
if_sign false s o len f w = w

signs_within : (ss : List Sign) (bytes : List ℕ) → list_all is_spelled ss ≡ true → Within (sign (find (λ s. starts_with ◌==◌ bytes s.text) ss)) (length bytes)
signs_within [] bytes a = omega arith
signs_within (s ∷ ss) bytes a = if_sign (starts_with ◌==◌ bytes s.text) s (find (λ x. starts_with ◌==◌ bytes x.text) ss) (length bytes) (λ h. (at_least_one s (and_left (is_spelled s) (list_all is_spelled ss) a), starts_length bytes s.text h)) (signs_within ss bytes (and_right (is_spelled s) (list_all is_spelled ss) a))

pub sign_within : (bytes : List ℕ) → Within (sign (longest_sign bytes)) (length bytes)
sign_within bytes = signs_within signs bytes refl

run_length : (b : ℕ) (bs : List ℕ) → is_word_byte b ≡ true → Within (run (take_while is_word_byte (b ∷ bs))) (length (b ∷ bs))
run_length b bs h =
    let n = length-prefix_len is_word_byte (b ∷ bs) in
    within_more (run (take_while is_word_byte (b ∷ bs))) (length (take_while is_word_byte (b ∷ bs))) (length (b ∷ bs)) (omega (arith, n, prefix_len-le-length is_word_byte (b ∷ bs))) (run_within (take_while is_word_byte (b ∷ bs)) (omega (arith, n, passes_first is_word_byte b bs h)))

lexeme_within : (b : ℕ) (bs : List ℕ) → Within (lexeme b bs) (length (b ∷ bs))
lexeme_within b bs =
    either_within (is_word_byte b) (run (take_while is_word_byte (b ∷ bs))) (cond (b == 39) (quoted (character bs)) (sign (longest_sign (b ∷ bs)))) (length (b ∷ bs)) (run_length b bs)
    (λ e. either_within (b == 39) (quoted (character bs)) (sign (longest_sign (b ∷ bs))) (length (b ∷ bs)) (λ f. quoted_within (character bs) (length (b ∷ bs)) (short_character bs)) (λ f. sign_within (b ∷ bs)))

no_line_end : (b : ℕ) (bs : List ℕ) → starts_with ◌==◌ (b ∷ bs) (codes "//") ≡ true → not (is_line_end b) ≡ true
no_line_end b bs h = ap (λ c. not (is_line_end c)) (sym (starts_first b 47 bs (47 ∷ []) h))

pub head_within : (b : ℕ) (bs : List ℕ) → Within (head (b ∷ bs)) (length (b ∷ bs))
head_within b bs =
    let len = length (b ∷ bs) in
    either_within (is_white b) _ _ len (prefix_within is_white b bs)
    (λ e. either_within (starts_with ◌==◌ (b ∷ bs) (codes "//")) _ _ len (λ h. prefix_within (λ c. not (is_line_end c)) b bs (no_line_end b bs h))
    (λ f. either_within (starts_with ◌==◌ (b ∷ bs) (codes "/*")) _ _ len (λ h. comment_within (comment_end (drop 1 bs)) bs len (comment_length (drop 1 bs)) refl) (λ g. lexeme_within b bs)))
