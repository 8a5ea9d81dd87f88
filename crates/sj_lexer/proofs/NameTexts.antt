-- The text of a name is a name.
use Rattle.std.proofs.Common.{◌≡◌, ◌==◌, ℕ, ◌+◌, ◌-◌, ◌*◌, ℤ, pos, negsuc, Bool, true, false, ◌&&◌, ◌||◌, not, nat_le, cond, List, [], ◌∷◌, length, take, drop, map, Option, Some, None, option_map, codes, refl, ap, sym, ◌∙◌, subst, arith}
use Rattle.std.specs.List.{find, list_all, list_any, prefix_len, take_while, starts_with}
use Rattle.std.specs.Str.{bytes_eq}
use Rattle.std.proofs.lemmas.List.{drop-drop}
use Rattle.std.proofs.lemmas.List.Folds.{length-prefix_len}
use Rattle.std.proofs.lemmas.List.Sums.{take_while-cons}
use Rattle.java_values.specs.Names.{is_letter, is_word_byte, is_word, is_reserved, is_name}
use Rattle.sj_lexer.specs.declared.head.Head.{Head}
use Rattle.sj_lexer.specs.declared.head.Head.TheVariants.{Between, Lexeme, Bad}
use Rattle.sj_lexer.specs.declared.head.Fault.TheVariants as fault
use Rattle.sj_lexer.specs.declared.characters.Character.{Character}
use Rattle.sj_lexer.specs.declared.token.Class.{Class}
use Rattle.sj_lexer.specs.declared.token.Class.TheVariants.{Name, IntEdge, LongEdge}
use Rattle.sj_lexer.specs.declared.token.Token.{Token}
use Rattle.sj_lexer.specs.declared.token.Word.{Word}
use Rattle.sj_lexer.specs.definitions.ReservedWords.{reserved, reserved_word}
use Rattle.sj_lexer.specs.definitions.ReservedWords as words
use Rattle.sj_lexer.specs.definitions.Numbers.{number_from, edge_of, literal, decimal_class, hexadecimal_class, after_zero, unmarked_class, but_last, number_class}
use Rattle.sj_lexer.specs.definitions.Characters.{character}
use Rattle.sj_lexer.specs.definitions.Signs.{Sign, longest_sign}
use Rattle.sj_lexer.specs.definitions.Readings.{Piece, Gap, Text, Leads, tokens_from, AreTokens, HaveNames}
use Rattle.sj_lexer.specs.definitions.Heads.{is_white, is_line_end, comment_end, comment, word, number, quoted, sign, run, lexeme, head}

-- where it is a name, its bytes are
abbrev pub Names : Head → List ℕ → Type 0
Names h bytes = (n : ℕ) → h ≡ Lexeme Name n → is_name (take n bytes) ≡ true

either_names : (c : Bool) (x y : Head) (bytes : List ℕ) → (c ≡ true → Names x bytes) → (c ≡ false → Names y bytes) → Names (cond c x y) bytes
either_names true x y bytes f g = f refl
either_names false x y bytes f g = g refl

between_names : (k : ℕ) (bytes : List ℕ) → Names (Between k) bytes
between_names k bytes = λ n h. cc

comment_names : (o : Option ℕ) (bytes : List ℕ) → Names (comment o) bytes
comment_names None bytes = λ n h. cc
comment_names (Some k) bytes = λ n h. cc

quoted_names : (o : Option Character) (bytes : List ℕ) → Names (quoted o) bytes
quoted_names None bytes = λ n h. cc
quoted_names (Some c) bytes = λ n h. cc

sign_names : (o : Option Sign) (bytes : List ℕ) → Names (sign o) bytes
sign_names None bytes = λ n h. cc
sign_names (Some s) bytes = λ n h. cc

-- a number is no name
abbrev NoName : Option Class → Type 0
NoName o = o ≡ Some Name → ⊥

either_no : (c : Bool) (x y : Option Class) → NoName x → NoName y → NoName (cond c x y)
either_no true x y f g = f
either_no false x y f g = g

none_no : NoName None
none_no h = cc

literal_no : (is_long : Bool) (z : ℤ) → NoName (Some (literal is_long z))
literal_no is_long z h = cc

edge_no : (is_long : Bool) → NoName (Some (cond is_long LongEdge IntEdge))
edge_no true h = cc
edge_no false h = cc

decimal_no : (is_long : Bool) (n : ℕ) → NoName (decimal_class is_long n)
decimal_no is_long n = either_no _ _ _ (literal_no is_long (pos n)) (either_no _ _ _ (edge_no is_long) none_no)

hexadecimal_no : (is_long : Bool) (n : ℕ) → NoName (hexadecimal_class is_long n)
hexadecimal_no is_long n = either_no _ _ _ (literal_no is_long (pos n)) (either_no _ _ _ (literal_no is_long (negsuc (2 * edge_of is_long - 1 - n))) none_no)

zero_no : (is_long : Bool) (bs : List ℕ) → NoName (after_zero is_long bs)
zero_no is_long [] = decimal_no is_long 0
zero_no is_long (b ∷ bs) = either_no _ _ _ (hexadecimal_no is_long (number_from 16 0 bs)) none_no

unmarked_no : (is_long : Bool) (w : List ℕ) → NoName (unmarked_class is_long w)
unmarked_no is_long [] = none_no
unmarked_no is_long (b ∷ bs) = either_no _ _ _ (zero_no is_long bs) (either_no _ _ _ (decimal_no is_long (number_from 10 0 (b ∷ bs))) none_no)

number_no : (w : List ℕ) → NoName (number_class w)
number_no w = either_no _ _ _ (unmarked_no true (but_last w)) (unmarked_no false w)

number_names : (o : Option Class) (k : ℕ) (bytes : List ℕ) → NoName o → Names (number o k) bytes
number_names None k bytes f = λ n h. cc
number_names (Some c) k bytes f = λ n h. let e : c ≡ Name = cc in absurd (f (ap Some e))

-- no reserved word
none_or : (c : Bool) (r : words.Reserved) (o : Option words.Reserved) (b : Bool) → option_map (λ x. x.word) (cond c (Some r) o) ≡ None → (option_map (λ x. x.word) o ≡ None → b ≡ false) → c || b ≡ false
none_or true r o b h f = cc
none_or false r o b h f = f h

not_in : (w : List ℕ) (rs : List words.Reserved) → option_map (λ r. r.word) (find (λ r. bytes_eq w r.text) rs) ≡ None → list_any (bytes_eq w) (map (λ r. r.text) rs) ≡ false
not_in w [] h = refl
not_in w (r ∷ rs) h = none_or (bytes_eq w r.text) r (find (λ x. bytes_eq w x.text) rs) (list_any (bytes_eq w) (map (λ x. x.text) rs)) h (not_in w rs)

not_reserved : (w : List ℕ) → reserved_word w ≡ None → is_reserved w ≡ false
not_reserved w h = not_in w reserved h

and_both : (a b : Bool) → a ≡ true → b ≡ true → a && b ≡ true
and_both true b h k = k
and_both false b h k = h

passes : (p : ℕ → Bool) (c : Bool) (x : ℕ) (xs : List ℕ) → p x ≡ c → list_all p xs ≡ true → list_all p (cond c (x ∷ xs) []) ≡ true
passes p true x xs e h = and_both (p x) (list_all p xs) e h
passes p false x xs e h = refl

all_pass : (p : ℕ → Bool) (xs : List ℕ) → list_all p (take_while p xs) ≡ true
all_pass p [] = refl
all_pass p (x ∷ xs) = ap (list_all p) (take_while-cons p x xs) ∙ passes p (p x) x (take_while p xs) refl (all_pass p xs)

letters_first : (w : List ℕ) (b : ℕ) (bs : List ℕ) → w ≡ b ∷ bs → is_letter b ≡ true → list_all is_word_byte w ≡ true → is_word w ≡ true
letters_first w b bs e l a = ap is_word e ∙ and_both (is_letter b) (list_all is_word_byte bs) l (all_of b bs (sym (ap (list_all is_word_byte) e) ∙ a))
  where
    right : (x y : Bool) → x && y ≡ true → y ≡ true
    right true y h = h
    right false y h = cc

    all_of : (b : ℕ) (bs : List ℕ) → list_all is_word_byte (b ∷ bs) ≡ true → list_all is_word_byte bs ≡ true
    all_of b bs h = right (is_word_byte b) (list_all is_word_byte bs) h

word_names : (o : Option Word) (w bytes : List ℕ) → reserved_word w ≡ o → is_word w ≡ true → ((n : ℕ) → length w ≡ n → take n bytes ≡ w) → Names (word o (length w)) bytes
word_names (Some r) w bytes e l f = λ n h. cc
word_names None w bytes e l f =
    either_names (nat_le (length w) 64) (Lexeme Name (length w)) (Bad fault.BadByte 64) bytes
    (λ le n h. let same : length w ≡ n = cc in ap is_name (f n same) ∙ and_both (is_word w) (not (is_reserved w) && nat_le (length w) 64) l (and_both (not (is_reserved w)) (nat_le (length w) 64) (ap not (not_reserved w e)) le))
    (λ le n h. cc)

run_names : (w bytes : List ℕ) → list_all is_word_byte w ≡ true → ((n : ℕ) → length w ≡ n → take n bytes ≡ w) → Names (run w) bytes
run_names [] bytes a f = λ n h. cc
run_names (b ∷ bs) bytes a f =
    either_names (is_letter b) (word (reserved_word (b ∷ bs)) (length (b ∷ bs))) (number (number_class (b ∷ bs)) (length (b ∷ bs))) bytes
    (λ l. word_names (reserved_word (b ∷ bs)) (b ∷ bs) bytes refl (letters_first (b ∷ bs) b bs refl l a) f)
    (λ l. number_names (number_class (b ∷ bs)) (length (b ∷ bs)) bytes (number_no (b ∷ bs)))

front_is : (bytes : List ℕ) (n : ℕ) → length (take_while is_word_byte bytes) ≡ n → take n bytes ≡ take_while is_word_byte bytes
front_is bytes n h = ap (λ k. take k bytes) (sym h ∙ length-prefix_len is_word_byte bytes)

lexeme_names : (b : ℕ) (bs : List ℕ) → Names (lexeme b bs) (b ∷ bs)
lexeme_names b bs =
    either_names (is_word_byte b) _ _ (b ∷ bs) (λ e. run_names (take_while is_word_byte (b ∷ bs)) (b ∷ bs) (all_pass is_word_byte (b ∷ bs)) (front_is (b ∷ bs)))
    (λ e. either_names (b == 39) _ _ (b ∷ bs) (λ f. quoted_names (character bs) (b ∷ bs)) (λ f. sign_names (longest_sign (b ∷ bs)) (b ∷ bs)))

pub head_names : (bytes : List ℕ) → Names (head bytes) bytes
head_names [] = λ n h. cc
head_names (b ∷ bs) =
    either_names (is_white b) _ _ (b ∷ bs) (λ e. between_names (prefix_len is_white (b ∷ bs)) (b ∷ bs))
    (λ e. either_names (starts_with ◌==◌ (b ∷ bs) (codes "//")) _ _ (b ∷ bs) (λ f. between_names (prefix_len (λ c. not (is_line_end c)) (b ∷ bs)) (b ∷ bs))
    (λ f. either_names (starts_with ◌==◌ (b ∷ bs) (codes "/*")) _ _ (b ∷ bs) (λ g. comment_names (comment_end (drop 1 bs)) (b ∷ bs)) (λ g. lexeme_names b bs)))

text_is : (source bytes : List ℕ) (at n : ℕ) → bytes ≡ drop at source → take (at + n - at) (drop at source) ≡ take n bytes
text_is source bytes at n e = ap (λ k. take k (drop at source)) (omega arith) ∙ ap (take n) (sym e)

names_from : (source bytes rest : List ℕ) (at : ℕ) (ps : List Piece) → bytes ≡ drop at source → Leads bytes ps rest → HaveNames source (tokens_from at ps)
names_from source bytes rest at [] e l = tt
names_from source bytes rest at (Gap n ∷ ps) e l = names_from source (drop n bytes) rest (at + n) ps (ap (drop n) e ∙ drop-drop n at source) l.1
names_from source bytes rest at (Text c n ∷ ps) e l =
    ((λ h. ap is_name (text_is source bytes at n e) ∙ head_names bytes n (l.0 ∙ ap (λ k. Lexeme k n) h)), names_from source (drop n bytes) rest (at + n) ps (ap (drop n) e ∙ drop-drop n at source) l.1)

pub tokens_have_names : (source : List ℕ) (ts : List Token) → AreTokens source ts → HaveNames source ts
tokens_have_names source ts a = subst (HaveNames source) (sym a.are) (names_from source source [] 0 a.pieces refl a.leads)
