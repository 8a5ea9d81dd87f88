-- What a step of the lexer reads.
use Rattle.std.proofs.Common.{◌≡◌, ◌==◌, ℕ, ◌+◌, ◌≤◌, Bool, true, false, ◌&&◌, ◌||◌, not, nat_le, cond, List, [], ◌∷◌, ◌++◌, length, drop, codes, refl, ap, sym, ◌∙◌, subst, arith}
use Rattle.std.specs.List.{take_while, starts_with}
use Rattle.std.proofs.lemmas.List.Sums.{take_while-cons}
use Rattle.std.proofs.lemmas.Bool.Decides.{nat_tests}
use Rattle.java_values.specs.Names.{is_letter, is_word_byte, is_between}
use Rattle.sj_lexer.specs.declared.head.Head.{Head}
use Rattle.sj_lexer.specs.declared.head.Head.TheVariants.{AtEnd, Between, Lexeme, Bad}
use Rattle.sj_lexer.specs.declared.lexer.LexError.{LexError}
use Rattle.sj_lexer.specs.declared.token.Token.{Token}
use Rattle.sj_lexer.specs.definitions.ReservedWords.{reserved_word}
use Rattle.sj_lexer.specs.definitions.Numbers.{number_class}
use Rattle.sj_lexer.specs.definitions.Signs.{longest_sign}
use Rattle.sj_lexer.specs.definitions.Heads.{is_white, word, number, sign, run, lexeme, head}
use Rattle.sj_lexer.specs.definitions.Refusals.{IsWhy}
use Rattle.sj_lexer.specs.Lexing.{HasRead, Adds, Stops, begins_sign}
use Rattle.sj_lexer.specs.declared.token.Mark.{Mark}
use Rattle.sj_lexer.specs.declared.token.Class.TheVariants as class
use Rattle.sj_lexer.proofs.HeadLengths.{Within, sign_within}
use Rattle.sj_lexer.proofs.Lexing.{within_head, read_gap, read_text, read_bad}

skip : {A : Type 0} (c : Bool) (x : A) {y r : A} → c ≡ false → y ≡ r → cond c x y ≡ r
skip true x h e = cc
skip false x h e = e

stay : {A : Type 0} (c : Bool) {x r : A} (y : A) → c ≡ true → x ≡ r → cond c x y ≡ r
stay true y h e = e
stay false y h e = cc

not_white : (b : ℕ) → is_letter b ≡ true → is_white b ≡ false
not_white b h = grind (arith, nat_tests)

not_slash : (b : ℕ) → is_letter b ≡ true → (47 == b) ≡ false
not_slash b h = grind (arith, nat_tests)

not_begun : (b : ℕ) (bs needle : List ℕ) → (47 == b) ≡ false → starts_with ◌==◌ (b ∷ bs) (47 ∷ needle) ≡ false
not_begun b bs needle h = ap (λ c. c && starts_with ◌==◌ bs needle) h

taken : (b : ℕ) (bs : List ℕ) → is_word_byte b ≡ true → take_while is_word_byte (b ∷ bs) ≡ b ∷ take_while is_word_byte bs
taken b bs h = take_while-cons is_word_byte b bs ∙ stay (is_word_byte b) _ h refl

run_of_word : (w : List ℕ) (b : ℕ) (bs : List ℕ) → w ≡ b ∷ bs → is_letter b ≡ true → run w ≡ word (reserved_word w) (length w)
run_of_word w b bs e h = ap run e ∙ stay (is_letter b) _ h refl ∙ sym (ap (λ v. word (reserved_word v) (length v)) e)

in_word : (b : ℕ) → is_letter b ≡ true → is_word_byte b ≡ true
in_word b h = ap (λ c. c || is_between 48 57 b) h

pub letter_head : (bytes : List ℕ) (b : ℕ) (bs w : List ℕ) → bytes ≡ b ∷ bs → is_letter b ≡ true → w ≡ take_while is_word_byte bytes → word (reserved_word w) (length w) ≡ head bytes
letter_head bytes b bs w e h k =
    let same : w ≡ take_while is_word_byte (b ∷ bs) = k ∙ ap (take_while is_word_byte) e in
    sym (ap head e
    ∙ skip (is_white b) _ (not_white b h) (skip (starts_with ◌==◌ (b ∷ bs) (codes "//")) _ (not_begun b bs (47 ∷ []) (not_slash b h)) (skip (starts_with ◌==◌ (b ∷ bs) (codes "/*")) _ (not_begun b bs (42 ∷ []) (not_slash b h))
    (stay (is_word_byte b) _ (in_word b h) (sym (ap run same) ∙ run_of_word w b (take_while is_word_byte bs) (same ∙ taken b bs (in_word b h)) h)))))

neither_first : (a b : Bool) → not (a || b) ≡ true → a ≡ false
neither_first true b h = cc
neither_first false b h = refl

neither_last : (a b : Bool) → not (a || b) ≡ true → b ≡ false
neither_last true b h = cc
neither_last false true h = cc
neither_last false false h = refl

none_first : (a b : Bool) → a || b ≡ false → a ≡ false
none_first true b h = cc
none_first false b h = refl

none_last : (a b : Bool) → a || b ≡ false → b ≡ false
none_last true b h = cc
none_last false b h = h

turned : (b : ℕ) → (b == 47) ≡ false → (47 == b) ≡ false
turned b h = grind (arith, nat_tests)

pub sign_head : (bytes : List ℕ) (b : ℕ) (bs : List ℕ) → bytes ≡ b ∷ bs → begins_sign b ≡ true → sign (longest_sign bytes) ≡ head bytes
sign_head bytes b bs e h =
    let others = neither_last (is_white b) (is_word_byte b || ((b == 39) || (b == 47))) h in
    let marks = none_last (is_word_byte b) ((b == 39) || (b == 47)) others in
    let slash = turned b (none_last (b == 39) (b == 47) marks) in
    sym (ap head e
    ∙ skip (is_white b) _ (neither_first (is_white b) _ h) (skip (starts_with ◌==◌ (b ∷ bs) (codes "//")) _ (not_begun b bs (47 ∷ []) slash) (skip (starts_with ◌==◌ (b ∷ bs) (codes "/*")) _ (not_begun b bs (42 ∷ []) slash)
    (skip (is_word_byte b) _ (none_first (is_word_byte b) _ others) (skip (b == 39) _ (none_first (b == 39) _ marks) (sym (ap (λ v. sign (longest_sign v)) e)))))))

within_as : (rest : List ℕ) (h : Head) (at n : ℕ) (old new : List Token) → head rest ≡ h → 1 ≤ length rest → Adds h at old new n → (1 ≤ n) × (n ≤ length rest)
within_as rest AtEnd at n old new e l a = absurd a
within_as rest (Between k) at n old new e l a = let w = within_head rest (Between k) e l in (omega (arith, a.0, w.0), omega (arith, a.0, w.1))
within_as rest (Lexeme c k) at n old new e l a = let w = within_head rest (Lexeme c k) e l in (omega (arith, a.0, w.0), omega (arith, a.0, w.1))
within_as rest (Bad f k) at n old new e l a = absurd a

pub adds_within : (rest : List ℕ) (at n : ℕ) (old new : List Token) → 1 ≤ length rest → Adds (head rest) at old new n → (1 ≤ n) × (n ≤ length rest)
adds_within rest at n old new l a = within_as rest (head rest) at n old new refl l a

adds_as : (source rest after : List ℕ) (h : Head) (old new : List Token) (at n : ℕ) → HasRead source old rest at → head rest ≡ h → 1 ≤ length rest → Adds h at old new n → after ≡ drop n rest → HasRead source new after (at + n)
adds_as source rest after AtEnd old new at n r e l a d = absurd a
adds_as source rest after (Between k) old new at n r e l a d =
    subst (λ ts. HasRead source ts after (at + n)) (sym a.1)
    (read_gap source rest after old at k (at + n) r e l (d ∙ ap (λ m. drop m rest) a.0) (ap (λ m. at + m) a.0))
adds_as source rest after (Lexeme c k) old new at n r e l a d =
    subst (λ ts. HasRead source ts after (at + n)) (sym a.1)
    (subst (λ m. HasRead source (old ++ record { class = c; start = at; end = m } ∷ []) after (at + n)) (ap (λ m. at + m) a.0)
    (read_text source rest after old c at k (at + n) r e l (d ∙ ap (λ m. drop m rest) a.0) (ap (λ m. at + m) a.0)))
adds_as source rest after (Bad f k) old new at n r e l a d = absurd a

pub adds_on : (source rest after : List ℕ) (old new : List Token) (at n : ℕ) → HasRead source old rest at → 1 ≤ length rest → Adds (head rest) at old new n → after ≡ drop n rest → HasRead source new after (at + n)
adds_on source rest after old new at n r l a d = adds_as source rest after (head rest) old new at n r refl l a d

stops_as : (source rest : List ℕ) (h : Head) (ts : List Token) (at : ℕ) (why : LexError) → HasRead source ts rest at → head rest ≡ h → Stops h at why → IsWhy source why
stops_as source rest AtEnd ts at why r e s = subst (IsWhy source) (sym s) tt
stops_as source rest (Between k) ts at why r e s = subst (IsWhy source) (sym s) tt
stops_as source rest (Lexeme c k) ts at why r e s = subst (IsWhy source) (sym s) tt
stops_as source rest (Bad f k) ts at why r e s = s source (read_bad source rest ts f at k (at + k) r e refl)

pub stops_why : (source rest : List ℕ) (ts : List Token) (at : ℕ) (why : LexError) → HasRead source ts rest at → Stops (head rest) at why → IsWhy source why
stops_why source rest ts at why r s = stops_as source rest (head rest) ts at why r refl s

pub sign_bytes : (bytes : List ℕ) (m : Mark) (n : ℕ) → Lexeme (class.Mark m) n ≡ sign (longest_sign bytes) → n ≤ length bytes
sign_bytes bytes m n e = (subst (λ h. Within h (length bytes)) (sym e) (sign_within bytes)).1

pub same_place : (at : ℕ) → at + 0 ≡ at
same_place at = omega arith

pub not_none : (bytes : List ℕ) (b : ℕ) (bs : List ℕ) → bytes ≡ b ∷ bs → 1 ≤ length bytes
not_none bytes b bs e = let l = ap length e in omega arith
